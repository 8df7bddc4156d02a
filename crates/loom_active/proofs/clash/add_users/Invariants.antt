use Rattle.std.proofs.Common.{◌≡◌, ℕ, ◌<◌, ◌++◌, [], length, get_or, take}
use Rattle.std.specs.List.{filter_map}
use Rattle.loom_active.specs.Users.{user_of}
use Rattle.loom_active.proofs.clash.add_users.Given as goal

abbrev pub invariant-loop-terminal : goal.invariant-loop-terminal
invariant-loop-terminal l = record {
  counted : length l.users.items ≡ length l.fn.users.items;
  added : (cavity : ℕ) → cavity < length l.fn.users.items → get_or l.users.items cavity [] ≡ get_or l.fn.users.items cavity [] ++ filter_map (user_of l.net.0 cavity) (take l.terminal-index l.terminals);
}
