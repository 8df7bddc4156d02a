use Rattle.std.proofs.Common.{ap, ◌∙◌, false, map}
use Rattle.std.proofs.lemmas.List.{take_all}
use Rattle.loom_topology.specs.Topology.{shut_if}
use Rattle.loom_topology.specs.TopologyInside.{segment_of_link}
use Rattle.loom_topology.proofs.ShutSegments.{map-shut_if_false}
use Rattle.loom_topology.proofs.topology.opened.Goals as goal

pub returns : goal.returns
returns c =
    c.loop-link.invariant
    ∙ ap (λ l. map (shut_if false) (map segment_of_link l)) (take_all c.loop-link.link-index c.args.links.now c.loop-link-test.false)
    ∙ map-shut_if_false (map segment_of_link c.args.links.now)
