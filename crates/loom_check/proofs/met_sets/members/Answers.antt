use Rattle.std.proofs.Common.{◌≡◌, ◌+◌, ◌<◌, ℕ, List, [], Option, unwrap_or, length, get_or, sym, ap, subst, ◌∙◌, arith}
use Rattle.std.specs.List.{AllPairs}
use Rattle.loom_types.specs.declared.wire.Wire.{Wire}
use Rattle.loom_audit.specs.SetWires.{AreMembers}
use Rattle.loom_check.proofs.MetMembers.{AreMembersBefore, members-more, members-same, members-all, sets-there}
use Rattle.loom_check.proofs.met_sets.members.Goals as goal
use Rattle.loom_check.proofs.met_sets.members.Goals.{in-Some+in_ok-add_member, in_default-get}

pub add_member-requires-clause-rising : goal.add_member-requires-clause-rising
add_member-requires-clause-rising c =
    let plan = c.args.plan.now in
    let w : Wire = c.wire-item.result in
    let is : w ≡ get_or plan.wires c.loop-at.at w = c.wire-item.is ∙ ap (λ (l : List Wire). get_or l c.loop-at.at w) c.as_slice-wire-items.ensures in
    subst (λ (l : List ℕ). AllPairs (λ one other. one < other) l) (sym c.as_slice.ensures)
    (sets-there plan c.args.met.now c.requires c.loop-at.at w c.in-Some.sets.now
    (omega (arith, c.loop-at-test.true, ap length c.as_slice-wire-items.ensures)) is (sym c.in-Some.ensures.value)).rising

pub loop-at-preserved : goal.loop-at-preserved
loop-at-preserved c =
    let plan = c.args.plan.now in
    let w : Wire = c.wire-item.result in
    let is : w ≡ get_or plan.wires c.loop-at.at w = c.wire-item.is ∙ ap (λ (l : List Wire). get_or l c.loop-at.at w) c.as_slice-wire-items.ensures in
    let within : c.loop-at.at < length plan.wires = omega (arith, c.loop-at-test.true, ap length c.as_slice-wire-items.ensures) in
    elim c.match-get.branch [
      | in-Some+in_ok-add_member v ↦
          subst (AreMembersBefore plan c.args.met.now (c.loop-at.at + 1)) (sym (ap (λ m. m.items) v.members-is))
          (members-more plan c.args.met.now c.loop-at.at c.in-Ok.position w within is c.in-Ok.ensures.1 c.loop-at.members.items v.add_member.new.members.items
          v.as_slice.result.now (v.as_slice.ensures ∙ ap (λ (o : Option (List ℕ)). unwrap_or o []) v.in-Some.ensures.value)
          v.in_ok-add_member.ensures.counted v.in_ok-add_member.ensures.added c.loop-at.invariant)
      | in_default-get v ↦
          subst (AreMembersBefore plan c.args.met.now (c.loop-at.at + 1)) (sym (ap (λ m. m.items) v.members-is))
          (members-same plan c.args.met.now c.loop-at.at c.in-Ok.position w within is c.in-Ok.ensures.1 c.loop-at.members.items
          (sym v.in_default-get.ensures.value) c.loop-at.invariant)
    ]

pub returns : goal.returns
returns c =
    subst (AreMembers c.args.plan.now) (sym c.from_vec.ensures)
    (members-all c.args.plan.now c.args.met.now c.requires c.loop-at.at c.loop-at.members.items
    (omega (arith, c.loop-at-test.false, ap length c.as_slice-wire-items.ensures)) c.loop-at.invariant)
