-- What a plan costs fits a number of 64 bits.
use Rattle.std.proofs.Common.{◌≡◌, ℕ, ◌<◌, ◌≤◌, ◌*◌, ◌^◌, List, length, map, get_or, Option, Some, None, IfSome, sum_by, inl, inr, subst, sym, ◌∙◌, arith, Contains}
use Rattle.std.specs.List.{All}
use Rattle.std.proofs.lemmas.Bool.{cases_lt}
use Rattle.std.proofs.lemmas.List.{get_or_past, length-map}
use Rattle.std.proofs.lemmas.List.Elements.{All-map}
use Rattle.std.proofs.lemmas.List.Sums.{sum_by-le}
use Rattle.loom_project.specs.declared.draft.Draft.{Draft}
use Rattle.loom_types.specs.declared.plan.Plan.{Plan}
use Rattle.loom_types.specs.declared.plan.SetLine.{SetLine}
use Rattle.loom_active.specs.LiveSets.{IsLiveSet, IsListedBefore, PrintsLiveSets}
use Rattle.loom_active.specs.LiveStops.{HaveMoreSets}
use Rattle.loom_active.proofs.Pairs.{at_index, pairs-map}
use Rattle.loom_active.proofs.SetLemmas.{live-in_range}
use Rattle.loom_plan.specs.FirstStop.{HasPlan}
use Rattle.loom_plan.specs.PlanOf.{IsPlanOf}
use Rattle.loom_top.specs.Entries.{cost_of}

-- printed sets are live sets, so there are more of those than a limit where there are more of these
printed-many : (draft : Draft) (plan : Plan) (limit : ℕ) → PrintsLiveSets draft plan → limit < length plan.sets
    → HaveMoreSets draft (length draft.nets) limit
printed-many draft plan limit prints many = let key : SetLine → ℕ × ℕ = λ s. (s.net.0, s.mask) in record {
  listed = map key plan.sets;
  different = pairs-map (λ (one other : ℕ × ℕ). IsListedBefore one.0 one.1 other.0 other.1) key plan.sets prints.order;
  live = All-map (λ (q : ℕ × ℕ). (q.0 < length draft.nets) × IsLiveSet draft q.0 q.1) key plan.sets (λ k d lt.
      let s = get_or plan.sets k d in
      let live = prints.each s (at_index plan.sets k d lt) in
      (live-in_range draft s.net.0 s.mask live, live));
  many = omega (arith, many, length-map plan.sets key);
}

-- a plan prints at most 16,384 sets
pub few-printed : (draft : Draft) (plan : Plan) → IsPlanOf draft plan → HasPlan draft → length plan.sets ≤ 16384
few-printed draft plan is has =
    elim (cases_lt 16384 (length plan.sets)) [
      | inl many ↦ absurd (has.cuts.found.works.lays.found.few_sets (printed-many draft plan 16384 is.sets many))
      | inr few ↦ few
    ]

-- what a list of cells holds is small where each cell is
cell-small : (cells : List (Option ℕ)) (k cost top : ℕ) → All (λ cell. IfSome cell (λ value. value ≤ top)) cells → get_or cells k None ≡ Some cost
    → cost ≤ top
cell-small cells k cost top small is =
    elim (cases_lt k (length cells)) [
      | inl lt ↦ subst (λ (c : Option ℕ). IfSome c (λ value. value ≤ top)) is (small k None lt)
      | inr past ↦ let none = sym (get_or_past cells k None past) ∙ is in absurd (cc)
    ]

-- a printed set costs at most 2^40
set-small : (draft : Draft) (plan : Plan) → IsPlanOf draft plan → (set : SetLine) → Contains plan.sets set → set.cost ≤ 2 ^ 40
set-small draft plan is set at =
    let laid = is.laid set at in
    let whole = is.tables.whole laid.line laid.printed in
    cell-small laid.line.table.cells _ set.cost (2 ^ 40) whole.small laid.cost

-- so the sum of what its sets cost has at most 54 bits
pub cost-small : (draft : Draft) (plan : Plan) → IsPlanOf draft plan → HasPlan draft → cost_of plan ≤ 16384 * 2 ^ 40
cost-small draft plan is has =
    let most = sum_by-le (λ (set : SetLine). set.cost) (2 ^ 40) plan.sets
    (λ k d lt. set-small draft plan is (get_or plan.sets k d) (at_index plan.sets k d lt)) in
    let few = few-printed draft plan is has in
    omega (arith, most, few)

-- and fits
pub cost-fits : (draft : Draft) (plan : Plan) (sets : List SetLine) → sets ≡ plan.sets → IsPlanOf draft plan → HasPlan draft
    → sum_by (λ set. set.cost) sets < 2 ^ 64
cost-fits draft plan sets same is has =
    let small = cost-small draft plan is has in
    let fits : cost_of plan < 2 ^ 64 = omega (arith, small) in
    subst (λ (ss : List SetLine). sum_by (λ set. set.cost) ss < 2 ^ 64) (sym same) fits
