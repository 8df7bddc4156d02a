use Rattle.std.proofs.Common.{◌≡◌, take}
use Rattle.loom_project.specs.Classes.{segment_bars}
use Rattle.loom_project.proofs.classes.bars_of_segments.Given as goal

abbrev pub invariant-loop-segment : goal.invariant-loop-segment
invariant-loop-segment l = l.bars ≡ segment_bars l.classes (take l.segment-index l.segments)
