use Rattle.std.proofs.Common.{◌≡◌, ◌≤◌, length, bit_and}
use Rattle.loom_steiner.specs.Split.{TakesSplits}
use Rattle.loom_steiner.proofs.split.split.Given as goal

abbrev pub invariant-loop-part : goal.invariant-loop-part
invariant-loop-part l =
    TakesSplits l.cells l.branches (length l.initial.row) l.high l.rest l.part l.initial.row l.row
    × (bit_and l.part l.rest ≡ l.part) × (l.part ≤ l.rest)

abbrev pub decreases-loop-part : goal.decreases-loop-part
decreases-loop-part l = l.part
