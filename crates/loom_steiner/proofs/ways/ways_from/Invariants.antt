use Rattle.loom_steiner.proofs.OpenWays.{Takes}
use Rattle.loom_steiner.proofs.ways.ways_from.Given as goal

abbrev pub invariant-loop-segment : goal.invariant-loop-segment
invariant-loop-segment l = Takes l.topology l.node.0 l.segment-index l.marks l.ways.items
