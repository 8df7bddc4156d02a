use Rattle.std.proofs.Common.{◌≡◌, ℕ, [], length, get_or}
use Rattle.loom_check.proofs.met_sets.no_members.Given as goal

abbrev pub invariant-loop : goal.invariant-loop
invariant-loop l = record { counted : length l.members.items ≡ l.counter; empty : (at : ℕ) → get_or l.members.items at [] ≡ [] }
