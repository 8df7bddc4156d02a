-- What a net needs costs least: its table is legal, so that no tree costs less than the cell, and the cell is what its wires cost.
use Rattle.std.proofs.Common.{◌≡◌, ◌≢◌, ℕ, ◌==◌, ◌&&◌, Bool, true, false, not, cond, List, [], ◌∷◌, map, drop, Option, Some, Ok, refl, sym, ap, subst, ◌∙◌, arith, Contains, filter, inl, inr}
use Rattle.std.specs.List.{AllPairs}
use Rattle.std.proofs.lemmas.Bool.{eq-eqb, eqb-true, eqb-false, not-true, and_parts, and_from}
use Rattle.loom_base.proofs.Contained.{Contains-from_filter}
use Rattle.loom_formula.specs.RowList.{value_of}
use Rattle.loom_topology.specs.Topology.{TopologyView}
use Rattle.loom_topology.specs.Table.{cell_at}
use Rattle.loom_topology.specs.TreeCost.{cost_of}
use Rattle.loom_topology.specs.Legal.{IsAtMost, IsLegal}
use Rattle.loom_potential.specs.FirstBreak.{first_break}
use Rattle.loom_project.specs.declared.draft.Draft.{Draft}
use Rattle.loom_project.specs.Project.{net_topology, cavities_of, HasSoundTopologies}
use Rattle.loom_project.specs.Sound.{draft_check}
use Rattle.loom_types.specs.declared.plan.Plan.{Plan}
use Rattle.loom_types.specs.declared.plan.SetLine.{SetLine}
use Rattle.loom_types.specs.declared.plan.TableLine.{TableLine}
use Rattle.loom_types.specs.Laws.{set_cavities}
use Rattle.loom_types.specs.Modules.{distinct_in_order}
use Rattle.loom_types.specs.SetMask.{rest_of, stem_node}
use Rattle.loom_types.specs.WireCost.{wires_cost}
use Rattle.loom_active.specs.Needs.{need_of}
use Rattle.loom_active.specs.LiveSets.{need_mask, IsLiveUnder, IsSetBefore}
use Rattle.loom_active.specs.RightPlan.{live_wires_of, first_node, NoTreeCostsLess, tables_of, sets_of_mask, live_sets_of, IsTableOf, IsSetOfNeed, CostsLeast, EachNetCostsLeast}
use Rattle.loom_active.proofs.Pairs.{pairs-none, pairs-cons, pairs-head, pairs-tail}
use Rattle.loom_audit.specs.TableRule.{IsTableFor, nets_with_sets, break_of}
use Rattle.loom_audit.specs.CostRule.{DoCostsAgree}
use Rattle.loom_check.specs.Verdict.{PassesAll}
use Rattle.loom_check.proofs.AgreeingLines.{each-member, agree-printed, agree-pairs}
use Rattle.loom_check.proofs.LowerLaws.{LowerLaws}
use Rattle.loom_check.proofs.OnceListed.{AreRivals, count-once, pairs-from_members}
use Rattle.loom_check.proofs.SetsOfNeeds.{net_within, few_terminals, mask_within, chosen_is_need, need_is, rest_is_mask, home_within}
use Rattle.loom_check.proofs.WiresOfLiveSets.{prints, live_of_live_sets, not_together}

-- ---- numbers in order, each once

pairs-filter : {X : Type 0} (R : X → X → Type 0) (p : X → Bool) (xs : List X) → AllPairs R xs → AllPairs R (filter p xs)
pairs-filter R p [] all = pairs-none R
pairs-filter R p (x ∷ xs) all =
    let rest = pairs-filter R p xs (pairs-tail R x xs all) in
    elim (p x) as (λ (b : Bool). AllPairs R (cond b (x ∷ filter p xs) (filter p xs))) [
      | true ↦ pairs-cons R x (filter p xs) (λ y at. pairs-head R x xs all y (Contains-from_filter p xs y at).0) rest
      | false ↦ rest
    ]

distinct : (ns : List ℕ) → AllPairs (λ one other. one ≢ other) (distinct_in_order ns)
distinct [] = pairs-none (λ (one other : ℕ). one ≢ other)
distinct (n ∷ ns) =
    let p : ℕ → Bool = λ m. not (m == n) in
    pairs-cons (λ (one other : ℕ). one ≢ other) n (filter p (distinct_in_order ns))
    (λ y at same. eqb-false y n (not-true (y == n) (Contains-from_filter p (distinct_in_order ns) y at).1) (sym same))
    (pairs-filter (λ (one other : ℕ). one ≢ other) p (distinct_in_order ns) (distinct ns))

module _ (draft : Draft) (plan : Plan) (passed : draft_check draft ≡ Ok tt) (sound : HasSoundTopologies draft) (passes : PassesAll draft plan)
    (laws : LowerLaws) where
  -- the tables are of different nets
  tables_apart : AllPairs (λ one other. one.net.0 ≢ other.net.0) plan.tables
  tables_apart =
      agree-pairs (IsTableFor draft) (nets_with_sets plan) plan.tables passes.tables.lines (λ one other. one ≢ other)
      (λ (one other : TableLine). one.net.0 ≢ other.net.0) (distinct (map (λ (s : SetLine). s.net.0) plan.sets))
      (λ s t p q is_s is_t apart same. apart (sym is_s.of_net ∙ (same ∙ is_t.of_net)))

  module _ (choice : ℕ → Bool) (set : SetLine) (printed : Contains plan.sets set) (live : IsLiveUnder draft choice set.net.0 set.mask) where
    abbrev net : ℕ
    net = set.net.0

    abbrev topology : TopologyView
    topology = net_topology draft net

    abbrev terminals : List ℕ
    terminals = cavities_of draft net

    abbrev need : List ℕ
    need = need_of draft choice net

    costs : DoCostsAgree draft plan set
    costs = each-member (DoCostsAgree draft plan) plan.sets passes.costs set printed

    abbrev line : TableLine
    line = costs.cell.line

    -- ---- the table

    one_table : tables_of plan net ≡ 1
    one_table =
        let test : TableLine → Bool = λ other. other.net.0 == net in
        count-once test plan.tables line costs.cell.printed (eq-eqb line.net.0 net costs.cell.of_net)
        (pairs-from_members (λ (a b : TableLine). a.net.0 ≢ b.net.0) (AreRivals test) plan.tables tables_apart
        (λ a b in_a in_b apart is_a is_b. apart (eqb-true a.net.0 net is_a ∙ sym (eqb-true b.net.0 net is_b))))

    table_for : IsTableFor draft net line
    table_for =
        let (n, listed, is) =
        agree-printed (IsTableFor draft) (nets_with_sets plan) plan.tables passes.tables.lines line costs.cell.printed in
        subst (λ (k : ℕ). IsTableFor draft k line) (sym is.of_net ∙ costs.cell.of_net) is

    legal : IsLegal topology terminals (cell_at line.table)
    legal =
        let unbroken : break_of draft line ≡ Ok tt =
        each-member (λ (other : TableLine). break_of draft other ≡ Ok tt) plan.tables passes.tables.legal line costs.cell.printed in
        (laws.legal topology terminals (cell_at line.table) (sound.each net) (few_terminals draft passed sound choice net set.mask live)
        (sound.terminals net (net_within draft passed sound choice net set.mask live))).0
        (subst (λ (n : ℕ). first_break (net_topology draft n) (cavities_of draft n) (cell_at line.table) ≡ Ok tt) costs.cell.of_net unbroken)

    table_of : IsTableOf draft plan net line
    table_of = record {
      printed = costs.cell.printed;
      of_net = costs.cell.of_net;
      one = one_table;
      masks = table_for.masks;
      nodes = table_for.nodes;
      legal = legal;
    }

    -- ---- the set

    one_set : sets_of_mask plan net set.mask ≡ 1
    one_set =
        let test : SetLine → Bool = λ s. s.net.0 == net && s.mask == set.mask in
        count-once test plan.sets set printed (and_from (net == net) (set.mask == set.mask) (eq-eqb net net refl) (eq-eqb set.mask set.mask refl))
        (pairs-from_members IsSetBefore (AreRivals test) plan.sets (prints draft plan passes).order (λ a b in_a in_b before is_a is_b.
        let p = and_parts (a.net.0 == net) (a.mask == set.mask) is_a in
        let q = and_parts (b.net.0 == net) (b.mask == set.mask) is_b in
        let nets : a.net.0 ≡ b.net.0 = eqb-true a.net.0 net p.0 ∙ sym (eqb-true b.net.0 net q.0) in
        let masks : a.mask ≡ b.mask = eqb-true a.mask set.mask p.1 ∙ sym (eqb-true b.mask set.mask q.1) in
        elim before [ inl less ↦ omega (arith, less, nets) | inr (e, less) ↦ omega (arith, less, masks) ]))

    row_holds : value_of plan.rows choice set.row ≡ true
    row_holds = ((prints draft plan passes).condition set printed choice).1 live

    one_live : live_sets_of plan choice net ≡ 1
    one_live =
        let test : SetLine → Bool = λ s. s.net.0 == net && value_of plan.rows choice s.row in
        count-once test plan.sets set printed (and_from (net == net) (value_of plan.rows choice set.row) (eq-eqb net net refl) row_holds)
        (pairs-from_members IsSetBefore (AreRivals test) plan.sets (prints draft plan passes).order (λ a b in_a in_b before is_a is_b.
        let p = and_parts (a.net.0 == net) (value_of plan.rows choice a.row) is_a in
        let q = and_parts (b.net.0 == net) (value_of plan.rows choice b.row) is_b in
        not_together draft plan passes choice a b (((prints draft plan passes).condition a in_a choice).0 p.1)
        (((prints draft plan passes).condition b in_b choice).0 q.1) (eqb-true a.net.0 net p.0 ∙ sym (eqb-true b.net.0 net q.0)) before))

    set_of : IsSetOfNeed draft plan choice net set
    set_of = record {
      printed = printed;
      of_net = refl;
      of_need = chosen_is_need draft passed sound choice net set.mask live;
      within = mask_within draft passed sound choice net set.mask live;
      one = one_set;
      live = row_holds;
      one_live = one_live;
    }

    -- ---- the cost

    -- no tree of the set costs less than the printed cost
    none_less : NoTreeCostsLess topology (set_cavities terminals set.mask) set.cost
    none_less tree wiring =
        let v : ℕ = stem_node topology terminals set.mask in
        let below : IsAtMost (cell_at line.table (rest_of set.mask) v) (Some (cost_of topology v tree)) =
        laws.lowest topology terminals (cell_at line.table) (rest_of set.mask) v tree (sound.each net) legal
        (rest_is_mask draft passed sound choice net set.mask live) (home_within draft passed sound choice net set.mask live) wiring in
        subst (λ (o : Option ℕ). IsAtMost o (Some (cost_of topology v tree))) costs.cell.cell below

    cost_is : wires_cost topology (live_wires_of plan choice net) ≡ set.cost
    cost_is =
        ap (wires_cost topology)
        (laws.wires draft plan (prints draft plan passes) (live_of_live_sets draft plan passes) choice set printed live
        costs.are_its.is_its costs.are_its.its
        ∙ sym costs.are_its.picked)
        ∙ costs.cost

    need_of_set : need ≡ set_cavities terminals set.mask
    need_of_set = need_is draft passed sound choice net set.mask live

    set_costs_least : CostsLeast draft plan choice net
    set_costs_least = record {
      line = line;
      is_table = table_of;
      set = set;
      is_set = set_of;
      mask = rest_of set.mask;
      is_mask = rest_is_mask draft passed sound choice net set.mask live;
      mask_of_rest = sym (ap (drop 1) need_of_set);
      cell =
          subst (λ (cs : List ℕ). cell_at line.table (rest_of set.mask) (first_node topology cs) ≡ Some set.cost) (sym need_of_set)
          costs.cell.cell;
      cost = cost_is;
      least =
          subst (λ (n : ℕ). NoTreeCostsLess topology need n) (sym cost_is)
          (subst (λ (cs : List ℕ). NoTreeCostsLess topology cs set.cost) (sym need_of_set) none_less);
    }

  pub each_net_costs_least : EachNetCostsLeast draft plan
  each_net_costs_least choice valid n some =
      let live : IsLiveUnder draft choice n (need_mask draft choice n) = record { valid = valid; needs = refl; some = some } in
      let (set, printed, of_net, of_mask) = (prints draft plan passes).all n (need_mask draft choice n) (choice, live) in
      let set_live : IsLiveUnder draft choice set.net.0 set.mask =
      subst (λ (m : ℕ). IsLiveUnder draft choice set.net.0 m) (sym of_mask)
      (subst (λ (k : ℕ). IsLiveUnder draft choice k (need_mask draft choice n)) (sym of_net) live) in
      subst (λ (k : ℕ). CostsLeast draft plan choice k) of_net (set_costs_least choice set printed set_live)
