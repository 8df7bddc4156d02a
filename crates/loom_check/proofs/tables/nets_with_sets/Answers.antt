use Rattle.std.proofs.Common.{◌≡◌, ◌+◌, Bool, true, false, not, ℕ, List, ap, refl, sym, subst, ◌∙◌}
use Rattle.loom_check.proofs.NetsOfSets.{AreNetsOf, nets-seen, nets-more}
use Rattle.loom_check.proofs.tables.nets_with_sets.Goals.{then-branch+in_ok-push, else-branch}
use Rattle.loom_check.proofs.tables.nets_with_sets.Goals as goal

-- a key that was added wasn't there, and one that wasn't added was
was_absent : (b : Bool) → not b ≡ true → b ≡ false
was_absent true e = sym e
was_absent false e = refl

was_there : (b : Bool) → not b ≡ false → b ≡ true
was_there true e = refl
was_there false e = sym e

pub loop-set-preserved : goal.loop-set-preserved
loop-set-preserved c = elim c.if-branch.branch [
  | then-branch+in_ok-push w ↦
      nets-more c.args.sets.now c.loop-set.set-index c.set-item.result c.loop-set-test.true c.set-item.is c.loop-set.nets.items c.loop-set.seen
      c.insert.new.self c.loop-set.invariant c.in_ok-insert.ensures.updates c.if-branch.nets.items
      (was_absent _ (sym c.in_ok-insert.ensures.added ∙ w.if-branch.true))
      (ap (λ v. v.items) w.nets-is ∙ w.in_ok-push.ensures.items)
  | else-branch w ↦
      subst (λ (l : List ℕ). AreNetsOf c.args.sets.now (c.loop-set.set-index + 1) l c.insert.new.self) (ap (λ v. v.items) (sym w.nets-is))
      (nets-seen c.args.sets.now c.loop-set.set-index c.set-item.result c.loop-set-test.true c.set-item.is c.loop-set.nets.items c.loop-set.seen
      c.insert.new.self c.loop-set.invariant c.in_ok-insert.ensures.updates
      (was_there _ (sym c.in_ok-insert.ensures.added ∙ w.if-branch.false)))
]
