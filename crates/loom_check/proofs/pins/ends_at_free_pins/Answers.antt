use Rattle.std.proofs.Common.{sym, ◌∙◌}
use Rattle.std.proofs.lemmas.Bool.{false≢true}
use Rattle.loom_check.proofs.PinClashes.{free-both, free-from, free-to}
use Rattle.loom_check.proofs.pins.ends_at_free_pins.Goals as goal

pub returns-then-is_end_free : goal.returns-then-is_end_free
returns-then-is_end_free c = (
  λ to. free-both c.args.project.now c.args.wire.now (c.is_end_free.ensures.0 c.if-is_end_free.true) (c.is_end_free-then-is_end_free.ensures.0 to),
  λ free. c.is_end_free-then-is_end_free.ensures.1 (free-to c.args.project.now c.args.wire.now free),
)

pub returns-else-is_end_free : goal.returns-else-is_end_free
returns-else-is_end_free c = (
  λ from. absurd (false≢true (sym c.if-is_end_free.false ∙ from)),
  λ free. c.is_end_free.ensures.1 (free-from c.args.project.now c.args.wire.now free),
)
