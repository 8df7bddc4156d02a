use Rattle.std.proofs.Common.{◌≡◌, ℕ, ◌<◌, [], length, get_or, take}
use Rattle.loom_active.specs.Users.{users_of}
use Rattle.loom_active.proofs.clash.users_of.Given as goal

abbrev pub invariant-loop-net : goal.invariant-loop-net
invariant-loop-net l = record {
  counted : length l.users.items ≡ l.cavities;
  users : (cavity : ℕ) → cavity < l.cavities → get_or l.users.items cavity [] ≡ users_of (take l.net l.nets) cavity;
}
