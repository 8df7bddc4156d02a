use Rattle.std.proofs.Common.{◌≡◌}
use Rattle.loom_active.specs.Users.{AreApartBefore}
use Rattle.loom_active.proofs.clash.first_pair.Given as goal

abbrev pub invariant-loop-at : goal.invariant-loop-at
invariant-loop-at l = record { unchanged : l.meetings ≡ l.fn.meetings; apart : AreApartBefore l.at l.users }
