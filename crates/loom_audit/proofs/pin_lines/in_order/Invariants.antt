use Rattle.std.proofs.Common.{◌≡◌}
use Rattle.loom_audit.proofs.pin_lines.in_order.Given as goal

abbrev pub invariant-loop-key : goal.invariant-loop-key
invariant-loop-key l = l.listed.items ≡ l.yielded
