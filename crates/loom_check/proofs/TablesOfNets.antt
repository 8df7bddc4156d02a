-- The nets whose tables are printed.
use Rattle.std.proofs.Common.{◌≡◌, ℕ, ◌<◌, List, [], ◌∷◌, length, map, not, filter, get_or, Some, Contains, inl, inr, sym, subst, arith, ◌==◌}
use Rattle.std.specs.List.{All, slice_get}
use Rattle.std.proofs.lemmas.List.Elements.{All-contains_itself}
use Rattle.std.proofs.lemmas.Option.{slice_get-get_or, slice_get_within}
use Rattle.loom_base.proofs.Contained.{Contains-cases, Contains-here, Contains-cons, Contains-from_filter, Contains-from_map}
use Rattle.loom_potential.specs.declared.first_break.FirstBreak.{FirstBreak}
use Rattle.loom_project.specs.declared.draft.Draft.{Draft}
use Rattle.loom_types.specs.declared.plan.Plan.{Plan}
use Rattle.loom_types.specs.declared.plan.SetLine.{SetLine}
use Rattle.loom_types.specs.declared.plan.TableLine.{TableLine}
use Rattle.loom_types.specs.Modules.{distinct_in_order}
use Rattle.loom_audit.specs.declared.spot.PlanPart.TheVariants.{Tables}
use Rattle.loom_audit.specs.declared.spot.Spot.{Spot}
use Rattle.loom_audit.specs.SetWires.{HasSets}
use Rattle.loom_audit.specs.TableRule.{IsTableFor, HasTables, nets_with_sets, TablesFailAt, cell}
use Rattle.loom_check.specs.IllegalTables.{IsFirstIllegal}

pub distinct_member : (ns : List ℕ) (n : ℕ) → Contains (distinct_in_order ns) n → Contains ns n
distinct_member [] n listed = listed
distinct_member (m ∷ ns) n listed = elim (Contains-cases n m (filter (λ k. not (k == m)) (distinct_in_order ns)) listed) [
  | inl same ↦ subst (λ (k : ℕ). Contains (m ∷ ns) k) same (Contains-here m ns)
  | inr later ↦ Contains-cons n m ns (distinct_member ns n (Contains-from_filter (λ k. not (k == m)) (distinct_in_order ns) n later).0)
]

module _ (draft : Draft) (plan : Plan) (sets : HasSets draft plan) where
  net-in_range : (net : ℕ) → Contains (nets_with_sets plan) net → net < length draft.nets
  net-in_range net listed =
      let from = Contains-from_map (λ (s : SetLine). s.net.0) plan.sets net (distinct_member (map (λ s. s.net.0) plan.sets) net listed) in
      subst (λ (n : ℕ). n < length draft.nets) from.2 (sets from.0 from.1).0

  pub nets-in_range : (nets : List ℕ) → nets ≡ nets_with_sets plan → All (λ net. net < length draft.nets) nets
  nets-in_range nets are k d lt =
      net-in_range (get_or nets k d) (subst (λ (l : List ℕ). Contains l (get_or nets k d)) are (All-contains_itself nets k d lt))

  -- a printed table is that of its net, which is one
  module _ (tables : HasTables draft plan) (at : ℕ) (line : TableLine) (stands : slice_get plan.tables at ≡ Some line) where
    within : at < length (nets_with_sets plan)
    within = omega (arith, tables.counted, slice_get_within plan.tables at line stands)

    net : ℕ
    net = get_or (nets_with_sets plan) at 0

    is_for : IsTableFor draft net line
    unfolding net
    is_for = tables.lines at net line (slice_get_within plan.tables at line stands) (slice_get-get_or (nets_with_sets plan) at 0 within) stands

    pub table-net : line.net.0 < length draft.nets
    unfolding net
    table-net =
        subst (λ (n : ℕ). n < length draft.nets) (sym is_for.of_net)
        (net-in_range net (All-contains_itself (nets_with_sets plan) at 0 within))

    pub table-own : IsTableFor draft line.net.0 line
    table-own = subst (λ (n : ℕ). IsTableFor draft n line) (sym is_for.of_net) is_for

-- the place of the first illegal table
pub illegal_fails : (draft : Draft) (plan : Plan) (at : ℕ) (found : FirstBreak) (spot : Spot) → HasTables draft plan
    → IsFirstIllegal draft plan at found → spot ≡ record { part = Tables; a = at; b = found.mask; c = found.node.0 } → TablesFailAt draft plan spot
illegal_fails draft plan at found spot tables first is =
    subst (TablesFailAt draft plan) (sym is) (cell at first.line found tables first.before first.stands first.breaks)
