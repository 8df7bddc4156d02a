use Rattle.std.proofs.Common.{◌≡◌, ◌++◌, take}
use Rattle.std.specs.List.{filter_map}
use Rattle.loom_active.specs.FoundSets.{set_of}
use Rattle.loom_active.proofs.live.add_sets.Given as goal

abbrev pub invariant-loop-pattern : goal.invariant-loop-pattern
invariant-loop-pattern l = l.sets ≡ l.fn.sets ++ filter_map (set_of l.net) (take l.pattern-index l.patterns)
