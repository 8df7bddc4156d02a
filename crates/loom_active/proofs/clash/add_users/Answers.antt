use Rattle.std.proofs.Common.{get_or, refl}
use Rattle.std.proofs.Math.ListN.{length-set}
use Rattle.std.proofs.lemmas.Option.{slice_get-get_or}
use Rattle.loom_rows.specs.declared.cond.Cond.{Never}
use Rattle.loom_active.proofs.UserSteps.{added-more}
use Rattle.loom_active.proofs.clash.add_users.Goals as goal

pub loop-terminal-preserved : goal.loop-terminal-preserved
loop-terminal-preserved c = record {
  counted = simp length-set c.loop-terminal.invariant.counted;
  added = λ cavity lt.
      added-more c.args.users.now.items c.loop-terminal.users.items c.args.net.0 c.args.terminals.now c.loop-terminal.terminal-index _ c.loop-terminal-test.true (record { cavity = record { 0 = 0 }; when = Never; active = Never }) refl
      c.loop-terminal.invariant.counted (c.requires c.loop-terminal.terminal-index (get_or c.args.terminals.now c.loop-terminal.terminal-index (record { cavity = record { 0 = 0 }; when = Never; active = Never })) (slice_get-get_or c.args.terminals.now c.loop-terminal.terminal-index (record { cavity = record { 0 = 0 }; when = Never; active = Never }) c.loop-terminal-test.true)) c.loop-terminal.invariant.added c.index_mut.result.now c.push.new.self c.index_mut.ensures.value c.in_ok-push.ensures.ok cavity lt;
}
