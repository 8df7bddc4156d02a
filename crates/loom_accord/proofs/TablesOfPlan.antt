-- The tables of a plan are those of the nets that have sets, in order, and each breaks no inequality.
use Rattle.std.proofs.Common.{◌≡◌, ℕ, ◌-◌, ◌^◌, ◌<◌, ◌≤◌, ◌==◌, Bool, true, false, not, cond, List, [], ◌∷◌, length, map, Ok, slice_get, sym, ap, subst, ◌∙◌, arith, Contains, filter, inl, inr}
use Rattle.std.specs.List.{AllPairs}
use Rattle.std.proofs.lemmas.Bool.{cases_eq, cases_lt, eqb-false, ne_eqb, not-true}
use Rattle.std.proofs.lemmas.List.{length-map}
use Rattle.std.proofs.lemmas.Option.{same_Some}
use Rattle.loom_base.proofs.Contained.{Contains-here, Contains-cons, Contains-cases, Contains-map, Contains-from_map, Contains-filter, Contains-from_filter}
use Rattle.loom_topology.specs.Table.{cell_at}
use Rattle.loom_potential.specs.Laws.{UnbrokenIsLegal}
use Rattle.loom_project.specs.declared.draft.Draft.{Draft}
use Rattle.loom_project.specs.Project.{net_topology, cavities_of, HasSoundTopologies}
use Rattle.loom_project.specs.Sound.{draft_check}
use Rattle.loom_project.proofs.PartsLemmas.{count_net_nodes}
use Rattle.loom_types.specs.declared.plan.Plan.{Plan}
use Rattle.loom_types.specs.declared.plan.SetLine.{SetLine}
use Rattle.loom_types.specs.declared.plan.TableLine.{TableLine}
use Rattle.loom_types.specs.Modules.{distinct_in_order}
use Rattle.loom_active.specs.LiveSets.{IsSetBefore}
use Rattle.loom_active.proofs.Pairs.{pairs-none, pairs-cons, pairs-head, pairs-tail, pairs-map, slice_get-map}
use Rattle.loom_steiner.specs.LeastTable.{IsLeastTable}
use Rattle.loom_plan.specs.PlanOf.{IsPlanOf}
use Rattle.loom_plan.proofs.LowerLaws.{LowerLaws}
use Rattle.loom_plan.proofs.Once.{pairs-from_members}
use Rattle.loom_plan.proofs.SetsWires.{in_range}
use Rattle.loom_plan.proofs.StrictOrders.{same-members, numbers_once}
use Rattle.loom_audit.specs.TableRule.{nets_with_sets, IsTableFor, HasTables, break_of, AreTablesLegal}
use Rattle.loom_check.proofs.AgreeingLines.{member_at}
use Rattle.loom_check.proofs.SetsOfNeeds.{few_terminals}
use Rattle.loom_accord.proofs.RowsOfPlan.{distinct_member}

-- ---- numbers that don't fall, each once

pairs-filter : {X : Type 0} (R : X → X → Type 0) (p : X → Bool) (xs : List X) → AllPairs R xs → AllPairs R (filter p xs)
pairs-filter R p [] all = pairs-none R
pairs-filter R p (x ∷ xs) all =
    let rest = pairs-filter R p xs (pairs-tail R x xs all) in
    elim (p x) as (λ (b : Bool). AllPairs R (cond b (x ∷ filter p xs) (filter p xs))) [
      | true ↦ pairs-cons R x (filter p xs) (λ y at. pairs-head R x xs all y (Contains-from_filter p xs y at).0) rest
      | false ↦ rest
    ]

abbrev IsBelow : ℕ → ℕ → Type 0
IsBelow one other = one < other

abbrev IsNotAbove : ℕ → ℕ → Type 0
IsNotAbove one other = one ≤ other

distinct_rise : (ns : List ℕ) → AllPairs IsNotAbove ns → AllPairs IsBelow (distinct_in_order ns)
distinct_rise [] all = pairs-none IsBelow
distinct_rise (n ∷ ns) all =
    let p : ℕ → Bool = λ m. not (m == n) in
    pairs-cons IsBelow n (filter p (distinct_in_order ns))
    (λ y listed.
    let (in_rest, differs) = Contains-from_filter p (distinct_in_order ns) y listed in
    let other = eqb-false y n (not-true (y == n) differs) in
    let level : n ≤ y = pairs-head IsNotAbove n ns all y (distinct_member ns y in_rest) in
    elim (cases_lt n y) [ inl less ↦ less | inr back ↦ absurd (other (omega (arith, back, level))) ])
    (pairs-filter IsBelow p (distinct_in_order ns) (distinct_rise ns (pairs-tail IsNotAbove n ns all)))

distinct_has : (ns : List ℕ) (n : ℕ) → Contains ns n → Contains (distinct_in_order ns) n
distinct_has [] n listed = listed
distinct_has (m ∷ ns) n listed =
    let p : ℕ → Bool = λ k. not (k == m) in
    elim (cases_eq n m) [
      | inl same ↦ subst (λ (k : ℕ). Contains (distinct_in_order (m ∷ ns)) k) (sym same) (Contains-here m (filter p (distinct_in_order ns)))
      | inr other ↦ elim (Contains-cases n m ns listed) [
        | inl same ↦ absurd (other (sym same))
        | inr later ↦
            Contains-cons n m (filter p (distinct_in_order ns))
            (Contains-filter p (distinct_in_order ns) n (distinct_has ns n later) (ap not (ne_eqb n m other)))
      ]
    ]

-- ---- the tables

module _ (draft : Draft) (plan : Plan) (is : IsPlanOf draft plan) where
  abbrev net_of_set : SetLine → ℕ
  net_of_set set = set.net.0

  abbrev net_of_table : TableLine → ℕ
  net_of_table line = line.net.0

  sets_level : AllPairs IsNotAbove (map net_of_set plan.sets)
  sets_level =
      pairs-map IsNotAbove net_of_set plan.sets
      (pairs-from_members IsSetBefore (λ (a b : SetLine). a.net.0 ≤ b.net.0) plan.sets is.sets.order
      (λ a b in_a in_b before. elim before [ inl less ↦ omega (arith, less) | inr rest ↦ omega (arith, rest.0) ]))

  nets_are : map net_of_table plan.tables ≡ nets_with_sets plan
  nets_are =
      same-members IsBelow numbers_once (map net_of_table plan.tables) (nets_with_sets plan)
      (pairs-map IsBelow net_of_table plan.tables is.tables.order) (distinct_rise (map net_of_set plan.sets) sets_level)
      (λ n listed.
      let (line, printed, of_line) = Contains-from_map net_of_table plan.tables n listed in
      let (set, in_sets, same) = is.tables.each line printed in
      distinct_has (map net_of_set plan.sets) n
      (subst (λ (k : ℕ). Contains (map net_of_set plan.sets) k) (same ∙ of_line) (Contains-map net_of_set plan.sets set in_sets)))
      (λ n listed.
      let (set, in_sets, of_set) = Contains-from_map net_of_set plan.sets n (distinct_member (map net_of_set plan.sets) n listed) in
      let (line, printed, same) = is.tables.all set in_sets in
      subst (λ (k : ℕ). Contains (map net_of_table plan.tables) k) (same ∙ of_set) (Contains-map net_of_table plan.tables line printed))

  table_for : (net : ℕ) (line : TableLine) → Contains plan.tables line → line.net.0 ≡ net → IsTableFor draft net line
  table_for net line printed of_net =
      let least = is.tables.least line printed in
      record {
        of_net = of_net;
        masks = least.masks ∙ ap (λ (n : ℕ). 2 ^ (length (cavities_of draft n) - 1) - 1) of_net;
        nodes = least.nodes ∙ count_net_nodes draft line.net.0;
      }

  pub has_tables : HasTables draft plan
  has_tables = record {
    counted = ap length (sym nets_are) ∙ length-map plan.tables net_of_table;
    lines = λ i net line within at_net at_line.
        let same : line.net.0 ≡ net =
        same_Some line.net.0 net
        (sym (slice_get-map net_of_table plan.tables i line at_line) ∙ (ap (λ (l : List ℕ). slice_get l i) nets_are ∙ at_net)) in
        table_for net line (member_at plan.tables i line at_line) same;
  }

  module _ (passed : draft_check draft ≡ Ok tt) (sound : HasSoundTopologies draft) (laws : LowerLaws) (unbroken : UnbrokenIsLegal) where
    breaks_none : (line : TableLine) → Contains plan.tables line → break_of draft line ≡ Ok tt
    breaks_none line printed =
        let net = line.net.0 in
        let topology = net_topology draft net in
        let terminals = cavities_of draft net in
        let (set, in_sets, same) = is.tables.each line printed in
        let (choice, live) = is.sets.each set in_sets in
        let within : net < length draft.nets =
        subst (λ (n : ℕ). n < length draft.nets) same (in_range draft plan passed sound is laws set in_sets) in
        let few : length terminals ≤ 12 =
        subst (λ (n : ℕ). length (cavities_of draft n) ≤ 12) same (few_terminals draft passed sound choice set.net.0 set.mask live) in
        let least : IsLeastTable topology terminals line.table = is.tables.least line printed in
        (unbroken topology terminals (cell_at line.table) (sound.each net) few (sound.terminals net within)).1
        (laws.legal topology terminals (cell_at line.table) (sound.each net) (sound.terminals net within) least.least)

    pub tables_are_legal : AreTablesLegal draft plan
    tables_are_legal = record { lines = has_tables; legal = λ i line stands. breaks_none line (member_at plan.tables i line stands) }
