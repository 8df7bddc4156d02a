use Rattle.std.proofs.Common.{◌≡◌, true, false, sym, ap, subst, ◌∙◌, arith}
use Rattle.loom_topology.specs.Topology.{TopologyView, segment_at, is_coupler}
use Rattle.loom_topology.proofs.Places.{open_below}
use Rattle.loom_project.specs.Project.{net_topology}
use Rattle.loom_project.proofs.PartsLemmas.{count_net_segments}
use Rattle.loom_active.proofs.Openings.{DifferInOpen, net_differs, coupler-same}
use Rattle.loom_audit.proofs.routes.is_open_coupler.Goals as goal

pub returns-then-segment-segment_count : goal.returns-then-segment-segment_count
returns-then-segment-segment_count c = (
  (λ h.
      let e : false ≡ true = h in
      absurd (cc)),
  (λ is.
      absurd (omega (
        arith,
        open_below (net_topology c.args.project.now c.args.net.0) c.args.segment.0 is.0,
        count_net_segments c.args.project.now c.args.net.0,
        c.segment_count.ensures.count,
        c.topology-topology.ensures.segments,
        c.if-segment-segment_count.true,
      ))),
)

pub returns-in-Run : goal.returns-in-Run
returns-in-Run c =
    let t : TopologyView = net_topology c.args.project.now c.args.net.0 in
    let differ : DifferInOpen c.topology-topology.result.now t =
    subst (λ (w : TopologyView). DifferInOpen w t) (sym c.topology-topology.ensures.topology) (net_differs c.args.project.now c.args.net.0) in
    let run : is_coupler (segment_at c.topology-topology.result.now c.args.segment.0).kind ≡ false = ap is_coupler (sym c.kind.ensures ∙ c.in-Run.is) in (
      (λ h.
          let e : false ≡ true = h in
          absurd (cc)),
      (λ is.
          let e : false ≡ true = sym run ∙ coupler-same c.topology-topology.result.now t differ c.args.segment.0 ∙ is.1 in
          absurd (cc)),
    )

pub returns-in-Coupler : goal.returns-in-Coupler
returns-in-Coupler c =
    let t : TopologyView = net_topology c.args.project.now c.args.net.0 in
    let differ : DifferInOpen c.topology-topology.result.now t =
    subst (λ (w : TopologyView). DifferInOpen w t) (sym c.topology-topology.ensures.topology) (net_differs c.args.project.now c.args.net.0) in
    let coupler : is_coupler (segment_at c.topology-topology.result.now c.args.segment.0).kind ≡ true = ap is_coupler (sym c.kind.ensures ∙ c.in-Coupler.is) in (
      (λ h. (sym c.is_open_to.ensures.topology ∙ h, sym (coupler-same c.topology-topology.result.now t differ c.args.segment.0) ∙ coupler)),
      (λ is. c.is_open_to.ensures.topology ∙ is.0),
    )
