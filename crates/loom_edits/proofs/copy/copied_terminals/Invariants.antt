use Rattle.std.proofs.Common.{◌≡◌, take}
use Rattle.loom_edits.proofs.copy.copied_terminals.Given as goal

abbrev pub invariant-loop-terminal : goal.invariant-loop-terminal
invariant-loop-terminal l = l.copies ≡ take l.terminal-index l.terminals
