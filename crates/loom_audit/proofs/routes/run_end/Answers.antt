use Rattle.std.proofs.Common.{sym, ap, subst, ◌∙◌, arith}
use Rattle.std.proofs.lemmas.Bool.{both_ways}
use Rattle.loom_topology.specs.Topology.{TopologyView, segment_at, is_coupler}
use Rattle.loom_topology.proofs.Leads.{below-from_Leads}
use Rattle.loom_project.specs.Project.{net_topology}
use Rattle.loom_project.proofs.PartsLemmas.{count_net_segments}
use Rattle.loom_active.proofs.Openings.{DifferInOpen, net_differs}
use Rattle.loom_audit.proofs.RunSteps.{run_leads, run_leads_nowhere, coupler_leads_nowhere}
use Rattle.loom_audit.proofs.routes.run_end.Goals as goal
use Rattle.loom_audit.proofs.routes.run_end.Goals.{then-segment-segment_count-via-then-segment-segment_count, then-segment-segment_count-via-else-segment-segment_count+then-not-is_open_to}

pub returns-then-segment-segment_count-clause-none : goal.returns-then-segment-segment_count-clause-none
returns-then-segment-segment_count-clause-none c = λ end leads.
    let t : TopologyView = net_topology c.args.project.now c.args.net.0 in
    elim c.then-segment-segment_count.branch [
      | then-segment-segment_count-via-then-segment-segment_count w ↦
          absurd (omega (
            arith,
            below-from_Leads t c.args.segment.0 c.args.node.0 end leads.1,
            count_net_segments c.args.project.now c.args.net.0,
            c.segment_count.ensures.count,
            c.topology-topology.ensures.segments,
            w.if-segment-segment_count.true,
          ))
      | then-segment-segment_count-via-else-segment-segment_count+then-not-is_open_to w ↦
          both_ways (segment_at t c.args.segment.0).is_open (sym w.if-not-is_open_to.ensures.topology) leads.1.0
    ]

pub returns-in-Run-clause-some : goal.returns-in-Run-clause-some
returns-in-Run-clause-some c =
    let t : TopologyView = net_topology c.args.project.now c.args.net.0 in
    let differ : DifferInOpen c.topology-topology.result.now t =
    subst (λ (w : TopologyView). DifferInOpen w t) (sym c.topology-topology.ensures.topology) (net_differs c.args.project.now c.args.net.0) in
    run_leads c.topology-topology.result.now t differ c.args.segment.0 c.args.node.0 c.other_end.result
    (sym c.if-not-is_open_to.ensures.topology) (ap is_coupler (sym c.kind.ensures ∙ c.in-Run.is)) c.other_end.ensures

pub returns-in-Run-clause-none : goal.returns-in-Run-clause-none
returns-in-Run-clause-none c =
    let t : TopologyView = net_topology c.args.project.now c.args.net.0 in
    let differ : DifferInOpen c.topology-topology.result.now t =
    subst (λ (w : TopologyView). DifferInOpen w t) (sym c.topology-topology.ensures.topology) (net_differs c.args.project.now c.args.net.0) in
    run_leads_nowhere c.topology-topology.result.now t differ c.args.segment.0 c.args.node.0 c.other_end.result c.other_end.ensures

pub returns-in-Coupler-clause-none : goal.returns-in-Coupler-clause-none
returns-in-Coupler-clause-none c =
    let t : TopologyView = net_topology c.args.project.now c.args.net.0 in
    let differ : DifferInOpen c.topology-topology.result.now t =
    subst (λ (w : TopologyView). DifferInOpen w t) (sym c.topology-topology.ensures.topology) (net_differs c.args.project.now c.args.net.0) in
    coupler_leads_nowhere c.topology-topology.result.now t differ c.args.segment.0 c.args.node.0
    (ap is_coupler (sym c.kind.ensures ∙ c.in-Coupler.is))
