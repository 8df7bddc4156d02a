use Rattle.std.proofs.Common.{◌≡◌, ◌+◌, ℕ, Some, Ok, get_or, slice_get, refl, sym, ap, subst, ◌∙◌, arith}
use Rattle.loom_rows.specs.declared.cond.Cond.{Cond}
use Rattle.loom_rows.specs.Condition.{value}
use Rattle.loom_rows.specs.Leftovers.{AreSame}
use Rattle.loom_rows.specs.RowLists.{meaning_at}
use Rattle.loom_rows.specs.Table.{Table, Has}
use Rattle.loom_types.specs.declared.plan.SetLine.{SetLine}
use Rattle.loom_check.proofs.MetPlaces.{AreMetAmong, among-with, among-without, among-all, set-there, meet-same, never-meet}
use Rattle.loom_check.proofs.PrintedConditions.{condition-has, condition-same}
use Rattle.loom_check.proofs.met_sets.met_among.Goals as goal
use Rattle.loom_check.proofs.met_sets.met_among.Goals.{then-branch+in_ok-push, else-branch}

pub meet-requires-clause-has_a : goal.meet-requires-clause-has_a
meet-requires-clause-has_a c =
    subst (λ (t : Table). Has t c.condition-own.result) (sym c.loop-at.invariant.unchanged)
    (subst (λ (x : Cond). Has c.args.meetings.now x) (sym c.condition-own.ensures)
    (condition-has c.args.plan.now.rows c.args.meetings.now c.args.conds.now c.args.wire.now.row c.requires.conds c.requires.counted c.requires.row))

pub meet-requires-clause-has_b : goal.meet-requires-clause-has_b
meet-requires-clause-has_b c =
    let plan = c.args.plan.now in
    let set : SetLine = c.index-as_slice-at.result in
    let p : ℕ = get_or c.args.among.now c.loop-at.at-index 0 in
    let there = set-there plan c.args.wire.now c.args.among.now c.requires.among c.loop-at.at-index c.as_slice.result.now set c.loop-at-test.true c.as_slice.ensures c.index-as_slice-at.is in
    subst (λ (t : Table). Has t c.condition.result) (sym c.loop-at.invariant.unchanged)
    (subst (λ (x : Cond). Has c.args.meetings.now x) (sym c.condition.ensures)
    (condition-has plan.rows c.args.meetings.now c.args.conds.now set.row c.requires.conds c.requires.counted (c.requires.sets p set there)))

pub loop-at-preserved : goal.loop-at-preserved
loop-at-preserved c =
    let plan = c.args.plan.now in
    let w = c.args.wire.now in
    let among = c.args.among.now in
    let t = c.args.meetings.now in
    let k = c.loop-at.at-index in
    let set : SetLine = c.index-as_slice-at.result in
    let p : ℕ = get_or among k 0 in
    let there : slice_get plan.sets p ≡ Some set = set-there plan w among c.requires.among k c.as_slice.result.now set c.loop-at-test.true c.as_slice.ensures c.index-as_slice-at.is in
    let own : AreSame (value c.condition-own.result) (meaning_at plan.rows w.row) =
    subst (λ (x : Cond). AreSame (value x) (meaning_at plan.rows w.row)) (sym c.condition-own.ensures)
    (condition-same plan.rows t c.args.conds.now w.row c.requires.conds c.requires.counted c.requires.row) in
    let other : AreSame (value c.condition.result) (meaning_at plan.rows set.row) =
    subst (λ (x : Cond). AreSame (value x) (meaning_at plan.rows set.row)) (sym c.condition.ensures)
    (condition-same plan.rows t c.args.conds.now set.row c.requires.conds c.requires.counted (c.requires.sets p set there)) in
    record {
      unchanged = c.in_ok-meet.ensures.unchanged ∙ c.loop-at.invariant.unchanged;
      met = elim c.if-branch.branch [
        | then-branch+in_ok-push v ↦
            subst (λ l. AreMetAmong plan w among l (k + 1)) (sym (v.met-is ∙ v.in_ok-push.ensures.ok))
            (among-with plan w among c.requires.among k p set c.loop-at.met c.loop-at-test.true refl there c.loop-at.invariant.met
            (meet-same (value c.condition-own.result) (value c.condition.result) (meaning_at plan.rows w.row) (meaning_at plan.rows set.row) own other
            (c.in_ok-meet.ensures.some (ap Ok v.if-branch.true))))
        | else-branch v ↦
            subst (λ l. AreMetAmong plan w among l (k + 1)) (sym v.met-is)
            (among-without plan w among c.requires.among k p set c.loop-at.met c.loop-at-test.true refl there c.loop-at.invariant.met
            (never-meet (value c.condition-own.result) (value c.condition.result) (meaning_at plan.rows w.row) (meaning_at plan.rows set.row) own other
            (c.in_ok-meet.ensures.none (ap Ok v.if-branch.false))))
      ];
    }

pub returns-clause-met : goal.returns-clause-met
returns-clause-met c =
    among-all c.args.plan.now c.args.wire.now c.args.among.now c.requires.among c.loop-at.met c.loop-at.at-index
    (omega (arith, c.loop-at-test.false)) c.loop-at.invariant.met
