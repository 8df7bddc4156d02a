use Rattle.std.proofs.Common.{ℕ, ◌≡◌, ◌+◌, ◌<◌, ◌≤◌, min, slice_index}
use Rattle.loom_steiner.proofs.split.join.Given as goal

abbrev pub invariant-loop-v : goal.invariant-loop-v
invariant-loop-v l =
    ((u : ℕ) → u < l.v → slice_index l.row u ≡ min (slice_index l.initial.row u) (slice_index l.first u + slice_index l.second u + slice_index l.branches u))
    × ((u : ℕ) → l.v ≤ u → slice_index l.row u ≡ slice_index l.initial.row u)
