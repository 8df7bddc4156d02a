use Rattle.std.proofs.Common.{◌≡◌, ℕ, [], length, get_or}
use Rattle.loom_active.proofs.clash.no_users.Given as goal

abbrev pub invariant-loop : goal.invariant-loop
invariant-loop l = record { counted : length l.users.items ≡ l.counter; empty : (cavity : ℕ) → get_or l.users.items cavity [] ≡ [] }
