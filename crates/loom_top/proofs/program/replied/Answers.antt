use Rattle.std.proofs.Common.{ap, Err}
use Rattle.loom_top.proofs.Documents.{too_long_reply}
use Rattle.loom_top.proofs.program.replied.Goals as goal

pub returns-in_ok-too_long-in-Err-TooLong-clause-reply : goal.returns-in_ok-too_long-in-Err-TooLong-clause-reply
returns-in_ok-too_long-in-Err-TooLong-clause-reply g c =
    too_long_reply _ _ _ _ _ _ (c.in-Err-TooLong.ensures.too_long (ap Err c.in-Err-TooLong.field-0-is))
    c.in_ok-too_long-in-Err-TooLong.ensures.kind c.in_ok-too_long-in-Err-TooLong.ensures.line
