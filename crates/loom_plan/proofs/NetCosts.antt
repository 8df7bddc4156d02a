-- What a net needs costs least, and the plan shows it.
use Rattle.std.proofs.Common.{◌≡◌, ℕ, ◌<◌, ◌==◌, ◌&&◌, Bool, true, List, length, drop, Option, Some, Ok, refl, sym, ap, subst, ◌∙◌, arith, Contains, inl, inr}
use Rattle.std.proofs.lemmas.Bool.{eq-eqb, eqb-true, and_parts, and_from}
use Rattle.loom_formula.specs.RowList.{value_of}
use Rattle.loom_topology.specs.Topology.{TopologyView}
use Rattle.loom_topology.specs.Table.{cell_at}
use Rattle.loom_topology.specs.Legal.{cavities_of_mask}
use Rattle.loom_topology.specs.Least.{IsLeast}
use Rattle.loom_topology.proofs.Sound.{sound-cavity}
use Rattle.loom_project.specs.declared.draft.Draft.{Draft}
use Rattle.loom_project.specs.Project.{net_topology, cavities_of, HasSoundTopologies}
use Rattle.loom_project.specs.Sound.{draft_check}
use Rattle.loom_project.proofs.PartsLemmas.{count_net_nodes}
use Rattle.loom_types.specs.declared.plan.Plan.{Plan}
use Rattle.loom_types.specs.declared.plan.SetLine.{SetLine}
use Rattle.loom_types.specs.declared.plan.TableLine.{TableLine}
use Rattle.loom_types.specs.Laws.{set_cavities}
use Rattle.loom_types.specs.SetMask.{rest_of, stem_cavity, stem_node}
use Rattle.loom_types.specs.WireCost.{wires_cost}
use Rattle.loom_steiner.specs.LeastTable.{IsLeastTable}
use Rattle.loom_active.specs.Needs.{need_of}
use Rattle.loom_active.specs.LiveSets.{need_mask, IsLiveUnder, IsLiveSet, IsSetBefore}
use Rattle.loom_active.specs.RightPlan.{live_wires_of, first_node, NoTreeCostsLess, tables_of, sets_of_mask, live_sets_of, IsTableOf, IsSetOfNeed, CostsLeast, EachNetCostsLeast}
use Rattle.loom_plan.specs.PlanOf.{IsPlanOf, IsLaidLine}
use Rattle.loom_plan.proofs.LowerLaws.{LowerLaws}
use Rattle.loom_plan.proofs.Once.{AreRivals, count-once, pairs-from_members}
use Rattle.loom_plan.proofs.PrintedSets.{net_table, chosen_is_need, is_set, rest_is_mask, stem_and_rest, set_in_range}
use Rattle.loom_plan.proofs.SetsWires.{not_together, in_range, is_its, its, its_cost, live_wires_are_of_live_sets}

module _ (draft : Draft) (plan : Plan) (passed : draft_check draft ≡ Ok tt) (sound : HasSoundTopologies draft) (is : IsPlanOf draft plan)
    (laws : LowerLaws) where
  module _ (choice : ℕ → Bool) (set : SetLine) (printed : Contains plan.sets set) (live : IsLiveUnder draft choice set.net.0 set.mask) where
    abbrev net : ℕ
    net = set.net.0

    abbrev topology : TopologyView
    topology = net_topology draft net

    abbrev terminals : List ℕ
    terminals = cavities_of draft net

    abbrev need : List ℕ
    need = need_of draft choice net

    live_set : IsLiveSet draft net set.mask
    live_set = (choice, live)

    within : net < length draft.nets
    within = in_range draft plan passed sound is laws set printed

    laid : IsLaidLine draft plan set
    laid = is.laid set printed

    table_is : IsLeastTable topology terminals laid.line.table
    table_is = net_table laws draft plan sound is.tables set within laid

    need_is : need ≡ set_cavities terminals set.mask
    need_is = sym (chosen_is_need draft passed sound choice net set.mask live) ∙ stem_and_rest draft passed sound net set.mask live_set

    -- ---- the table

    one_table : tables_of plan net ≡ 1
    one_table =
        let test : TableLine → Bool = λ line. line.net.0 == net in
        let before : TableLine → TableLine → Type 0 = λ one other. one.net.0 < other.net.0 in
        count-once test plan.tables laid.line laid.printed (eq-eqb laid.line.net.0 net laid.of_net)
        (pairs-from_members before (AreRivals test) plan.tables is.tables.order (λ a b in_a in_b less is_a is_b.
        omega (arith, less, eqb-true a.net.0 net is_a, eqb-true b.net.0 net is_b)))

    table_of : IsTableOf draft plan net laid.line
    table_of = record {
      printed = laid.printed;
      of_net = laid.of_net;
      one = one_table;
      masks = table_is.masks;
      nodes = table_is.nodes ∙ count_net_nodes draft net;
      legal = laws.legal topology terminals (cell_at laid.line.table) (sound.each net) (sound.terminals net within) table_is.least;
    }

    -- ---- the set

    one_set : sets_of_mask plan net set.mask ≡ 1
    one_set =
        let test : SetLine → Bool = λ s. s.net.0 == net && s.mask == set.mask in
        count-once test plan.sets set printed (and_from (net == net) (set.mask == set.mask) (eq-eqb net net refl) (eq-eqb set.mask set.mask refl))
        (pairs-from_members IsSetBefore (AreRivals test) plan.sets is.sets.order (λ a b in_a in_b before is_a is_b.
        let p = and_parts (a.net.0 == net) (a.mask == set.mask) is_a in
        let q = and_parts (b.net.0 == net) (b.mask == set.mask) is_b in
        let nets : a.net.0 ≡ b.net.0 = eqb-true a.net.0 net p.0 ∙ sym (eqb-true b.net.0 net q.0) in
        let masks : a.mask ≡ b.mask = eqb-true a.mask set.mask p.1 ∙ sym (eqb-true b.mask set.mask q.1) in
        elim before [ inl less ↦ omega (arith, less, nets) | inr (e, less) ↦ omega (arith, less, masks) ]))

    row_holds : value_of plan.rows choice set.row ≡ true
    row_holds = (is.sets.condition set printed choice).1 live

    one_live : live_sets_of plan choice net ≡ 1
    one_live =
        let test : SetLine → Bool = λ s. s.net.0 == net && value_of plan.rows choice s.row in
        count-once test plan.sets set printed (and_from (net == net) (value_of plan.rows choice set.row) (eq-eqb net net refl) row_holds)
        (pairs-from_members IsSetBefore (AreRivals test) plan.sets is.sets.order (λ a b in_a in_b before is_a is_b.
        let p = and_parts (a.net.0 == net) (value_of plan.rows choice a.row) is_a in
        let q = and_parts (b.net.0 == net) (value_of plan.rows choice b.row) is_b in
        not_together draft plan passed sound is choice a b in_a in_b p.1 q.1 (eqb-true a.net.0 net p.0 ∙ sym (eqb-true b.net.0 net q.0)) before))

    set_of : IsSetOfNeed draft plan choice net set
    set_of = record {
      printed = printed;
      of_net = refl;
      of_need = chosen_is_need draft passed sound choice net set.mask live;
      within = (is_set draft passed sound net set.mask live_set).within;
      one = one_set;
      live = row_holds;
      one_live = one_live;
    }

    -- ---- the cost

    home : stem_node topology terminals set.mask < length topology.nodes
    home =
        sound-cavity topology (sound.each net) (stem_cavity terminals set.mask)
        (set_in_range draft passed sound net set.mask live_set 0 0 (omega arith))

    -- no tree of the set costs less than the printed cost
    none_less : NoTreeCostsLess topology (set_cavities terminals set.mask) set.cost
    none_less =
        let least : IsLeast topology (cavities_of_mask terminals (rest_of set.mask)) (stem_node topology terminals set.mask) (Some set.cost) =
        subst (λ (o : Option ℕ). IsLeast topology (cavities_of_mask terminals (rest_of set.mask)) (stem_node topology terminals set.mask) o) laid.cost
        (table_is.least (rest_of set.mask) (stem_node topology terminals set.mask) (rest_is_mask draft passed sound net set.mask live_set) home) in
        least.1

    cost_is : wires_cost topology (live_wires_of plan choice net) ≡ set.cost
    cost_is =
        ap (wires_cost topology)
        (laws.wires draft plan is.sets (live_wires_are_of_live_sets draft plan passed sound is laws) choice set printed live
        (is_its draft plan passed sound is laws set printed) (its draft plan passed sound is laws set printed))
        ∙ its_cost draft plan passed sound is laws set printed

    set_costs_least : CostsLeast draft plan choice net
    set_costs_least = record {
      line = laid.line;
      is_table = table_of;
      set = set;
      is_set = set_of;
      mask = rest_of set.mask;
      is_mask = rest_is_mask draft passed sound net set.mask live_set;
      mask_of_rest = sym (ap (drop 1) need_is);
      cell =
          subst (λ (cs : List ℕ). cell_at laid.line.table (rest_of set.mask) (first_node topology cs) ≡ Some set.cost) (sym need_is) laid.cost;
      cost = cost_is;
      least =
          subst (λ (n : ℕ). NoTreeCostsLess topology need n) (sym cost_is)
          (subst (λ (cs : List ℕ). NoTreeCostsLess topology cs set.cost) (sym need_is) none_less);
    }

  pub each_net_costs_least : EachNetCostsLeast draft plan
  each_net_costs_least choice valid n some =
      let live : IsLiveUnder draft choice n (need_mask draft choice n) = record { valid = valid; needs = refl; some = some } in
      let (set, printed, of_net, of_mask) = is.sets.all n (need_mask draft choice n) (choice, live) in
      let set_live : IsLiveUnder draft choice set.net.0 set.mask =
      subst (λ (m : ℕ). IsLiveUnder draft choice set.net.0 m) (sym of_mask)
      (subst (λ (k : ℕ). IsLiveUnder draft choice k (need_mask draft choice n)) (sym of_net) live) in
      subst (λ (k : ℕ). CostsLeast draft plan choice k) of_net (set_costs_least choice set printed set_live)
