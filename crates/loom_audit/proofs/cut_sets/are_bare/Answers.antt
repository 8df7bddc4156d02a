use Rattle.std.proofs.Common.{◌+◌, ℕ, take, get_or, refl, sym, subst}
use Rattle.std.proofs.lemmas.Bool.{false≢true}
use Rattle.std.proofs.lemmas.List.{get_or_default}
use Rattle.loom_audit.proofs.BareWires.{AreBareBefore, bare_skip, bare_more, bare_there}
use Rattle.loom_audit.proofs.cut_sets.are_bare.Goals as goal
use Rattle.loom_audit.proofs.cut_sets.are_bare.Goals.{in-Some+else-not-stands_at, in_default}

pub returns-then-not-stands_at : goal.returns-then-not-stands_at
returns-then-not-stands_at c =
    let positions = c.args.positions.now in
    let k = c.loop-position.position-index in
    let p : ℕ = get_or positions k 0 in (
      λ f. absurd (false≢true f),
      λ all. c.if-not-stands_at.ensures.1
          (bare_there c.args.wires.now c.args.plan.now positions k p c.loop-position.at c.in-Some.printed.now c.in-Some.printed.now c.loop-position-test.true
          (get_or_default positions k 0 p c.loop-position-test.true) (sym c.in-Some.ensures.value) c.loop-position.invariant all),
    )

pub loop-position-preserved : goal.loop-position-preserved
loop-position-preserved c =
    let positions = c.args.positions.now in
    let k = c.loop-position.position-index in
    let p : ℕ = get_or positions k 0 in
    elim c.match-get.branch [
      | in-Some+else-not-stands_at w ↦
          subst (AreBareBefore c.args.wires.now c.args.plan.now (take (k + 1) positions)) (sym w.at-is)
          (bare_more c.args.wires.now c.args.plan.now positions k p c.loop-position.at w.in-Some.printed.now w.in-Some.printed.now c.loop-position-test.true
          (get_or_default positions k 0 p c.loop-position-test.true) (sym w.in-Some.ensures.value) c.loop-position.invariant (w.if-not-stands_at.ensures.0 refl))
      | in_default w ↦
          subst (AreBareBefore c.args.wires.now c.args.plan.now (take (k + 1) positions)) (sym w.at-is)
          (bare_skip c.args.wires.now c.args.plan.now positions k p c.loop-position.at c.loop-position-test.true
          (get_or_default positions k 0 p c.loop-position-test.true) (sym w.in_default.ensures.value) c.loop-position.invariant)
    ]
