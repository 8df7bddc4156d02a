use Rattle.std.proofs.Common.{◌≡◌, ℕ, ◌<◌, Some, slice_get}
use Rattle.loom_rows.specs.Condition.{value, both}
use Rattle.loom_rows.specs.Meet.{IsNever}
use Rattle.loom_active.specs.declared.clash.User.{User}
use Rattle.loom_active.proofs.clash.first_met.Given as goal

abbrev pub invariant-loop-user : goal.invariant-loop-user
invariant-loop-user l = record {
  unchanged : l.meetings ≡ l.fn.meetings;
  unmet : (j : ℕ) (other : User) → j < l.user-index → slice_get l.users j ≡ Some other → IsNever (both (value l.cond) (value other.active));
}
