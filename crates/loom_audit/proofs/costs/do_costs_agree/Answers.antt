use Rattle.std.proofs.Common.{◌≡◌, ◌-◌, ◌^◌, ◌<◌, min, sym, ap, subst, ◌∙◌}
use Rattle.std.specs.List.{All}
use Rattle.std.proofs.lemmas.Bool.{eq-eqb, eqb-true}
use Rattle.loom_topology.specs.Topology.{TopologyView}
use Rattle.loom_project.specs.Project.{topology_of}
use Rattle.loom_types.specs.Routes.{IsEndInRange}
use Rattle.loom_types.specs.WireCost.{wires_cost}
use Rattle.loom_audit.specs.SetWires.{wires_at}
use Rattle.loom_audit.proofs.CostsAgree.{both-whole, costs_agree, cost_agrees}
use Rattle.loom_audit.proofs.costs.do_costs_agree.Goals as goal

pub wires_cost-requires : goal.wires_cost-requires
wires_cost-requires c =
    subst (λ (t : TopologyView). All (λ w. IsEndInRange t w.from × IsEndInRange t w.to) c.args.plan.now.wires) (sym c.topology.ensures.topology)
    (both-whole c.args.project.now c.args.plan.now c.requires.routed)

pub returns : goal.returns
returns c =
    let draft = c.args.project.now in
    let plan = c.args.plan.now in
    let set = c.args.set.now in
    let ws = wires_at plan c.args.positions.now in
    let small : set.cost < 2 ^ 64 = c.is_cell.ensures.small c.if-not-is_cell.false in
    let cell = c.is_cell.ensures.is.0 c.if-not-is_cell.false in
    let is : c.in_ok-cost.cost ≡ min (wires_cost (topology_of draft) ws) (2 ^ 128 - 1) =
    c.in_ok-cost.ensures ∙ ap (λ (t : TopologyView). min (wires_cost t ws) (2 ^ 128 - 1)) c.topology.ensures.topology in (
      λ same. costs_agree draft plan set ws c.requires.its c.in_ok-cost.cost small is cell
          (eqb-true c.in_ok-cost.cost c.from.result same ∙ c.from.ensures),
      λ agree. eq-eqb c.in_ok-cost.cost c.from.result
          (cost_agrees draft plan set ws c.requires.its c.in_ok-cost.cost small is agree ∙ sym c.from.ensures),
    )
