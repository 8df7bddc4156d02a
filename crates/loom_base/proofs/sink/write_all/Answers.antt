use Rattle.std.proofs.Common.{arith, ◌∙◌}
use Rattle.loom_base.proofs.StreamLemmas.{appended_more}
use Rattle.loom_base.proofs.sink.write_all.Goals as goal

pub writing-preserved : goal.writing-preserved
writing-preserved g c =
    let write = c.in_ok-written.ensures in
    let before = c.writing.invariant in
    record {
      within = omega (arith, write.bound);
      appended = appended_more _ _ _ c.args.bytes.now c.writing.written c.in_ok-written.field-0 before.appended write.bytes;
      steady = write.cause.counted ∙ before.steady;
    }
