use Rattle.std.proofs.Common.{◌≡◌, ◌<◌, ℕ, List, length, get_or, sym, ap, subst, ◌∙◌, arith}
use Rattle.std.proofs.lemmas.Bool.{false≢true}
use Rattle.std.proofs.lemmas.Option.{slice_get_read}
use Rattle.loom_types.specs.declared.plan.SetLine.{SetLine}
use Rattle.loom_audit.specs.LayoutRule.{AreOfLayout}
use Rattle.loom_audit.specs.SetWires.{AreWiresOf, wires_at}
use Rattle.loom_audit.proofs.Firsts.{before_more, each_from_before, first_without}
use Rattle.loom_audit.proofs.cut_sets.first_other_wires.Goals as goal

pub are_of_layout-requires-clause-net : goal.are_of_layout-requires-clause-net
are_of_layout-requires-clause-net c =
    let set : SetLine = c.set-item.result in
    (c.requires.sets set (
      c.loop-at.at,
      omega (arith, c.loop-at-test.true, ap length c.as_slice-set-items.ensures),
      sym (c.set-item.is ∙ ap (λ (l : List SetLine). get_or l c.loop-at.at set) c.as_slice-set-items.ensures),
    )).0

pub are_of_layout-requires-clause-laid : goal.are_of_layout-requires-clause-laid
are_of_layout-requires-clause-laid c =
    let set : SetLine = c.set-item.result in
    let is : set ≡ get_or c.args.plan.now.sets c.loop-at.at set = c.set-item.is ∙ ap (λ (l : List SetLine). get_or l c.loop-at.at set) c.as_slice-set-items.ensures in
    let within : c.loop-at.at < length c.args.plan.now.sets = omega (arith, c.loop-at-test.true, ap length c.as_slice-set-items.ensures) in
    c.requires.laid c.loop-at.at set (slice_get_read c.args.plan.now.sets (length c.args.plan.now.sets) c.loop-at.at set (λ i. length c.args.plan.now.sets) within is)

pub are_of_layout-requires-clause-its : goal.are_of_layout-requires-clause-its
are_of_layout-requires-clause-its c =
    let set : SetLine = c.set-item.result in
    let plan = c.args.plan.now in
    let is : set ≡ get_or plan.sets c.loop-at.at set = c.set-item.is ∙ ap (λ (l : List SetLine). get_or l c.loop-at.at set) c.as_slice-set-items.ensures in
    let within : c.loop-at.at < length plan.sets = omega (arith, c.loop-at-test.true, ap length c.as_slice-set-items.ensures) in
    subst (λ (l : List ℕ). AreWiresOf plan set (wires_at plan l)) (sym c.as_slice-in-loop-at.ensures)
    (c.requires.members.each c.loop-at.at set c.index-members-at.result
    (slice_get_read plan.sets (length plan.sets) c.loop-at.at set (λ i. length plan.sets) within is)
    (slice_get_read c.args.members.now (length c.args.members.now) c.loop-at.at c.index-members-at.result (λ i. length c.args.members.now)
    (omega (arith, within, c.requires.members.counted)) c.index-members-at.is))

pub returns-then-not-branch-clause-fails : goal.returns-then-not-branch-clause-fails
returns-then-not-branch-clause-fails c =
    let set : SetLine = c.set-item.result in
    let is : set ≡ get_or c.args.plan.now.sets c.loop-at.at set = c.set-item.is ∙ ap (λ (l : List SetLine). get_or l c.loop-at.at set) c.as_slice-set-items.ensures in
    first_without (λ i s. AreOfLayout c.args.project.now c.args.plan.now s) c.args.plan.now.sets c.loop-at.at set
    (omega (arith, c.loop-at-test.true, ap length c.as_slice-set-items.ensures)) c.loop-at.invariant
    (λ are. absurd (false≢true (sym c.if-not-branch.true ∙ c.in_ok-are_of_layout.ensures.1 (subst (AreOfLayout c.args.project.now c.args.plan.now) (sym is) are))))

pub loop-at-preserved : goal.loop-at-preserved
loop-at-preserved c =
    let set : SetLine = c.set-item.result in
    let is : set ≡ get_or c.args.plan.now.sets c.loop-at.at set = c.set-item.is ∙ ap (λ (l : List SetLine). get_or l c.loop-at.at set) c.as_slice-set-items.ensures in
    before_more (λ i s. AreOfLayout c.args.project.now c.args.plan.now s) c.args.plan.now.sets c.loop-at.at set
    (omega (arith, c.loop-at-test.true, ap length c.as_slice-set-items.ensures)) c.loop-at.invariant
    (subst (AreOfLayout c.args.project.now c.args.plan.now) is (c.in_ok-are_of_layout.ensures.0 c.if-not-branch.false))

pub returns-clause-holds : goal.returns-clause-holds
returns-clause-holds c =
    each_from_before (λ i s. AreOfLayout c.args.project.now c.args.plan.now s) c.args.plan.now.sets c.loop-at.at
    (omega (arith, c.loop-at-test.false, ap length c.as_slice-set-items.ensures)) c.loop-at.invariant
