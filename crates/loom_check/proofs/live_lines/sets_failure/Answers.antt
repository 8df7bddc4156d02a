use Rattle.std.proofs.Common.{map, sym, subst}
use Rattle.loom_audit.specs.LiveLines.{SetsFailAt, set}
use Rattle.loom_check.specs.LiveKeys.{key_of}
use Rattle.loom_check.proofs.PrintedSets.{keys-of-sets}
use Rattle.loom_check.proofs.live_lines.sets_failure.Goals as goal

pub returns-in_ok-line-in-Some-clause-fails : goal.returns-in_ok-line-in-Some-clause-fails
returns-in_ok-line-in-Some-clause-fails c =
    subst (SetsFailAt c.args.project.now c.args.plan.now) (sym c.in_ok-line-in-Some.ensures)
    (set c.in-Some.at (map key_of c.args.live.now) (keys-of-sets c.args.project.now c.args.rows.now c.args.live.now c.requires.live)
    c.in-Some.ensures.fails)

pub returns-in-None-clause-holds : goal.returns-in-None-clause-holds
returns-in-None-clause-holds c = record {
  live = map key_of c.args.live.now;
  keys = keys-of-sets c.args.project.now c.args.rows.now c.args.live.now c.requires.live;
  printed = c.in-None.ensures.holds;
}
