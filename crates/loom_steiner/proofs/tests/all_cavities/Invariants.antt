use Rattle.std.proofs.Common.{◌≡◌, ◌<◌, length}
use Rattle.std.specs.List.{All}
use Rattle.loom_steiner.proofs.tests.all_cavities.Given as goal

abbrev pub invariant-loop-cavity : goal.invariant-loop-cavity
invariant-loop-cavity l =
    (length l.cavities.items ≡ l.cavity) × All (λ cavity. cavity.0 < length l.topology.cavities) l.cavities.items
