use Rattle.std.proofs.Common.{◌≡◌, ℕ, ◌<◌, length}
use Rattle.loom_active.specs.Users.{users_of, AreApartBefore}
use Rattle.loom_active.proofs.clash.first_clash.Given as goal

abbrev pub invariant-loop-cavity : goal.invariant-loop-cavity
invariant-loop-cavity l = record {
  unchanged : l.meetings ≡ l.rows;
  apart : (earlier : ℕ) → earlier < l.cavity → AreApartBefore (length (users_of l.nets earlier)) (users_of l.nets earlier);
}
