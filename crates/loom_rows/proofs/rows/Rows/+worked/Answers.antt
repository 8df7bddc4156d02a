-- Each member is worked out in turn, and each formula after its parts.
use Rattle.std.proofs.Common.{◌&&◌, ◌||◌, true, false, List, [], ◌∷◌, ◌++◌, map, length, get_or, refl, sym, ap, subst, ◌∙◌, arith, Err, Result}
use Rattle.std.proofs.lemmas.Result.{err_from_is_err_and, IfOk-weaker}
use Rattle.loom_formula.specs.Formula.{members_of}
use Rattle.loom_rows.specs.declared.cond.Cond.{Cond, Never, Always}
use Rattle.loom_rows.specs.declared.stop.RowsStop.{RowsStop}
use Rattle.loom_rows.specs.Condition.{Meaning, value, negation}
use Rattle.loom_rows.specs.Table.{IsSound}
use Rattle.loom_rows.specs.Leftovers.{AreSame, Works}
use Rattle.loom_rows.specs.Formulas.{never, always, work_of, all_work, any_work, one_work, all_hold, any_holds, one_holds}
use Rattle.loom_rows.proofs.Members.{all_join, any_join, so_far-init, so_far-stop, so_far-has, so_far-stop_join, so_far-next, so_far-works, so_far-meaning, so_far-value, one_so_far-init, one_so_far-stop, one_so_far-has_one, one_so_far-has_none, one_so_far-stop_join, one_so_far-next, one_so_far-works, one_so_far-meaning, one_so_far-value, and_assoc, and_unit, or_assoc, or_unit}
use Rattle.loom_rows.proofs.WorkFolds.{works-none, works-then, work_of-Always, work_of-Never, work_of-Is, work_of-Not, meaning_of-And, meaning_of-Or, meaning_of-One}
use Rattle.loom_rows.proofs.Conditions.{same}
use Rattle.loom_rows.proofs.Progress.{stop-first}
use Rattle.loom_rows.proofs.rows.Rows.+worked.Goals as goal

pub all_members-loop-member-init : goal.all_members-loop-member-init
all_members-loop-member-init t c =
    so_far-init ◌&&◌ true and_assoc and_unit all_work all_hold all_join c.args.options.now (members_of c.args.members.now) always c.args.self.now (subst IsSound c.self.view_is c.self.invariant.sound) Always tt refl

pub all_members-returns-in_err-cond-clause-works : goal.all_members-returns-in_err-cond-clause-works
all_members-returns-in_err-cond-clause-works t c =
    let e = err_from_is_err_and c.from_residual.result c.from_residual.ensures.1 in
    subst (λ (r : Result Cond RowsStop). Works (all_work always (map (work_of c.args.options.now) (members_of c.args.members.now))).worked c.args.self.now c.worked.new.self r) (sym (e.1 ∙ ap Err e.2))
    (so_far-stop ◌&&◌ true and_assoc and_unit all_work all_hold all_join c.args.options.now (members_of c.args.members.now) always c.loop-member.member-index c.member-item.result (omega (arith, c.loop-member-test.true, ap length c.as_slice-member-items.ensures)) (c.member-item.is ∙ ap (λ l. get_or l c.loop-member.member-index c.member-item.result) c.as_slice-member-items.ensures) c.args.self.now c.loop-member.self c.loop-member.all c.loop-member.invariant c.worked.new.self c.in_err-cond.field-0.0 c.in_err-cond.ensures.works)

pub all_members-and-requires-clause-has_a : goal.all_members-and-requires-clause-has_a
all_members-and-requires-clause-has_a t c =
    so_far-has ◌&&◌ true and_assoc and_unit all_work all_hold all_join c.args.options.now (members_of c.args.members.now) always c.loop-member.member-index c.member-item.result (omega (arith, c.loop-member-test.true, ap length c.as_slice-member-items.ensures)) (c.member-item.is ∙ ap (λ l. get_or l c.loop-member.member-index c.member-item.result) c.as_slice-member-items.ensures) c.args.self.now c.loop-member.self c.loop-member.all c.loop-member.invariant c.worked.new.self c.in_ok-cond.cond c.in_ok-cond.ensures.works c.in_ok-cond.ensures.meaning

pub all_members-returns-in_err-all-clause-works : goal.all_members-returns-in_err-all-clause-works
all_members-returns-in_err-all-clause-works t c =
    let e = err_from_is_err_and c.from_residual-in_err-all.result c.from_residual-in_err-all.ensures.1 in
    subst (λ (r : Result Cond RowsStop). Works (all_work always (map (work_of c.args.options.now) (members_of c.args.members.now))).worked c.args.self.now c.and.new.self r) (sym (e.1 ∙ ap Err e.2))
    (so_far-stop_join ◌&&◌ true and_assoc and_unit all_work all_hold all_join c.args.options.now (members_of c.args.members.now) always c.loop-member.member-index c.member-item.result (omega (arith, c.loop-member-test.true, ap length c.as_slice-member-items.ensures)) (c.member-item.is ∙ ap (λ l. get_or l c.loop-member.member-index c.member-item.result) c.as_slice-member-items.ensures) c.args.self.now c.loop-member.self c.loop-member.all c.loop-member.invariant c.worked.new.self c.in_ok-cond.cond c.in_ok-cond.ensures.works c.in_ok-cond.ensures.meaning c.and.new.self c.in_err-all.field-0.0 c.in_err-all.ensures.works)

pub all_members-loop-member-preserved : goal.all_members-loop-member-preserved
all_members-loop-member-preserved t c =
    so_far-next ◌&&◌ true and_assoc and_unit all_work all_hold all_join c.args.options.now (members_of c.args.members.now) always c.loop-member.member-index c.member-item.result (omega (arith, c.loop-member-test.true, ap length c.as_slice-member-items.ensures)) (c.member-item.is ∙ ap (λ l. get_or l c.loop-member.member-index c.member-item.result) c.as_slice-member-items.ensures) c.args.self.now c.loop-member.self c.loop-member.all c.loop-member.invariant c.worked.new.self c.in_ok-cond.cond c.in_ok-cond.ensures.works c.in_ok-cond.ensures.meaning c.in_ok-cond.ensures.value c.and.new.self c.in_ok-all.all c.in_ok-all.ensures.works c.in_ok-all.ensures.value.0 c.in_ok-all.ensures.value.1

pub all_members-returns-clause-has : goal.all_members-returns-clause-has
all_members-returns-clause-has t c =
    c.loop-member.invariant.has

pub all_members-returns-clause-value : goal.all_members-returns-clause-value
all_members-returns-clause-value t c =
    so_far-value ◌&&◌ true and_assoc and_unit all_work all_hold all_join c.args.options.now (members_of c.args.members.now) always c.loop-member.member-index (omega (arith, c.loop-member-test.false, ap length c.as_slice-member-items.ensures)) c.args.self.now c.loop-member.self c.loop-member.all c.loop-member.invariant

pub all_members-returns-clause-meaning : goal.all_members-returns-clause-meaning
all_members-returns-clause-meaning t c =
    so_far-meaning ◌&&◌ true and_assoc and_unit all_work all_hold all_join c.args.options.now (members_of c.args.members.now) always c.loop-member.member-index (omega (arith, c.loop-member-test.false, ap length c.as_slice-member-items.ensures)) c.args.self.now c.loop-member.self c.loop-member.all c.loop-member.invariant

pub all_members-returns-clause-works : goal.all_members-returns-clause-works
all_members-returns-clause-works t c =
    so_far-works ◌&&◌ true and_assoc and_unit all_work all_hold all_join c.args.options.now (members_of c.args.members.now) always c.loop-member.member-index (omega (arith, c.loop-member-test.false, ap length c.as_slice-member-items.ensures)) c.args.self.now c.loop-member.self c.loop-member.all c.loop-member.invariant

pub some_member-loop-member-init : goal.some_member-loop-member-init
some_member-loop-member-init t c =
    so_far-init ◌||◌ false or_assoc or_unit any_work any_holds any_join c.args.options.now (members_of c.args.members.now) never c.args.self.now (subst IsSound c.self.view_is c.self.invariant.sound) Never tt refl

pub some_member-returns-in_err-cond-clause-works : goal.some_member-returns-in_err-cond-clause-works
some_member-returns-in_err-cond-clause-works t c =
    let e = err_from_is_err_and c.from_residual.result c.from_residual.ensures.1 in
    subst (λ (r : Result Cond RowsStop). Works (any_work never (map (work_of c.args.options.now) (members_of c.args.members.now))).worked c.args.self.now c.worked.new.self r) (sym (e.1 ∙ ap Err e.2))
    (so_far-stop ◌||◌ false or_assoc or_unit any_work any_holds any_join c.args.options.now (members_of c.args.members.now) never c.loop-member.member-index c.member-item.result (omega (arith, c.loop-member-test.true, ap length c.as_slice-member-items.ensures)) (c.member-item.is ∙ ap (λ l. get_or l c.loop-member.member-index c.member-item.result) c.as_slice-member-items.ensures) c.args.self.now c.loop-member.self c.loop-member.any c.loop-member.invariant c.worked.new.self c.in_err-cond.field-0.0 c.in_err-cond.ensures.works)

pub some_member-or-requires-clause-has_a : goal.some_member-or-requires-clause-has_a
some_member-or-requires-clause-has_a t c =
    so_far-has ◌||◌ false or_assoc or_unit any_work any_holds any_join c.args.options.now (members_of c.args.members.now) never c.loop-member.member-index c.member-item.result (omega (arith, c.loop-member-test.true, ap length c.as_slice-member-items.ensures)) (c.member-item.is ∙ ap (λ l. get_or l c.loop-member.member-index c.member-item.result) c.as_slice-member-items.ensures) c.args.self.now c.loop-member.self c.loop-member.any c.loop-member.invariant c.worked.new.self c.in_ok-cond.cond c.in_ok-cond.ensures.works c.in_ok-cond.ensures.meaning

pub some_member-returns-in_err-any-clause-works : goal.some_member-returns-in_err-any-clause-works
some_member-returns-in_err-any-clause-works t c =
    let e = err_from_is_err_and c.from_residual-in_err-any.result c.from_residual-in_err-any.ensures.1 in
    subst (λ (r : Result Cond RowsStop). Works (any_work never (map (work_of c.args.options.now) (members_of c.args.members.now))).worked c.args.self.now c.or.new.self r) (sym (e.1 ∙ ap Err e.2))
    (so_far-stop_join ◌||◌ false or_assoc or_unit any_work any_holds any_join c.args.options.now (members_of c.args.members.now) never c.loop-member.member-index c.member-item.result (omega (arith, c.loop-member-test.true, ap length c.as_slice-member-items.ensures)) (c.member-item.is ∙ ap (λ l. get_or l c.loop-member.member-index c.member-item.result) c.as_slice-member-items.ensures) c.args.self.now c.loop-member.self c.loop-member.any c.loop-member.invariant c.worked.new.self c.in_ok-cond.cond c.in_ok-cond.ensures.works c.in_ok-cond.ensures.meaning c.or.new.self c.in_err-any.field-0.0 c.in_err-any.ensures.works)

pub some_member-loop-member-preserved : goal.some_member-loop-member-preserved
some_member-loop-member-preserved t c =
    so_far-next ◌||◌ false or_assoc or_unit any_work any_holds any_join c.args.options.now (members_of c.args.members.now) never c.loop-member.member-index c.member-item.result (omega (arith, c.loop-member-test.true, ap length c.as_slice-member-items.ensures)) (c.member-item.is ∙ ap (λ l. get_or l c.loop-member.member-index c.member-item.result) c.as_slice-member-items.ensures) c.args.self.now c.loop-member.self c.loop-member.any c.loop-member.invariant c.worked.new.self c.in_ok-cond.cond c.in_ok-cond.ensures.works c.in_ok-cond.ensures.meaning c.in_ok-cond.ensures.value c.or.new.self c.in_ok-any.any c.in_ok-any.ensures.works c.in_ok-any.ensures.value.0 c.in_ok-any.ensures.value.1

pub some_member-returns-clause-has : goal.some_member-returns-clause-has
some_member-returns-clause-has t c =
    c.loop-member.invariant.has

pub some_member-returns-clause-value : goal.some_member-returns-clause-value
some_member-returns-clause-value t c =
    so_far-value ◌||◌ false or_assoc or_unit any_work any_holds any_join c.args.options.now (members_of c.args.members.now) never c.loop-member.member-index (omega (arith, c.loop-member-test.false, ap length c.as_slice-member-items.ensures)) c.args.self.now c.loop-member.self c.loop-member.any c.loop-member.invariant

pub some_member-returns-clause-meaning : goal.some_member-returns-clause-meaning
some_member-returns-clause-meaning t c =
    so_far-meaning ◌||◌ false or_assoc or_unit any_work any_holds any_join c.args.options.now (members_of c.args.members.now) never c.loop-member.member-index (omega (arith, c.loop-member-test.false, ap length c.as_slice-member-items.ensures)) c.args.self.now c.loop-member.self c.loop-member.any c.loop-member.invariant

pub some_member-returns-clause-works : goal.some_member-returns-clause-works
some_member-returns-clause-works t c =
    so_far-works ◌||◌ false or_assoc or_unit any_work any_holds any_join c.args.options.now (members_of c.args.members.now) never c.loop-member.member-index (omega (arith, c.loop-member-test.false, ap length c.as_slice-member-items.ensures)) c.args.self.now c.loop-member.self c.loop-member.any c.loop-member.invariant

pub one_member-loop-member-init : goal.one_member-loop-member-init
one_member-loop-member-init t c =
    one_so_far-init c.args.options.now (members_of c.args.members.now) c.args.self.now (subst IsSound c.self.view_is c.self.invariant.sound)

pub one_member-returns-in_err-cond-clause-works : goal.one_member-returns-in_err-cond-clause-works
one_member-returns-in_err-cond-clause-works t c =
    let e = err_from_is_err_and c.from_residual.result c.from_residual.ensures.1 in
    subst (λ (r : Result Cond RowsStop). Works (one_work never always (map (work_of c.args.options.now) (members_of c.args.members.now))).worked c.args.self.now c.worked.new.self r) (sym (e.1 ∙ ap Err e.2))
    (one_so_far-stop c.args.options.now (members_of c.args.members.now) c.loop-member.member-index c.member-item.result (omega (arith, c.loop-member-test.true, ap length c.as_slice-member-items.ensures)) (c.member-item.is ∙ ap (λ l. get_or l c.loop-member.member-index c.member-item.result) c.as_slice-member-items.ensures) c.args.self.now c.loop-member.self c.loop-member.one c.loop-member.none c.loop-member.invariant c.worked.new.self c.in_err-cond.field-0.0 c.in_err-cond.ensures.works)

pub one_member-count_one-requires-clause-has_one : goal.one_member-count_one-requires-clause-has_one
one_member-count_one-requires-clause-has_one t c =
    one_so_far-has_one c.args.options.now (members_of c.args.members.now) c.loop-member.member-index c.member-item.result (omega (arith, c.loop-member-test.true, ap length c.as_slice-member-items.ensures)) (c.member-item.is ∙ ap (λ l. get_or l c.loop-member.member-index c.member-item.result) c.as_slice-member-items.ensures) c.args.self.now c.loop-member.self c.loop-member.one c.loop-member.none c.loop-member.invariant c.worked.new.self c.in_ok-cond.cond c.in_ok-cond.ensures.works c.in_ok-cond.ensures.meaning

pub one_member-count_one-requires-clause-has_none : goal.one_member-count_one-requires-clause-has_none
one_member-count_one-requires-clause-has_none t c =
    one_so_far-has_none c.args.options.now (members_of c.args.members.now) c.loop-member.member-index c.member-item.result (omega (arith, c.loop-member-test.true, ap length c.as_slice-member-items.ensures)) (c.member-item.is ∙ ap (λ l. get_or l c.loop-member.member-index c.member-item.result) c.as_slice-member-items.ensures) c.args.self.now c.loop-member.self c.loop-member.one c.loop-member.none c.loop-member.invariant c.worked.new.self c.in_ok-cond.cond c.in_ok-cond.ensures.works c.in_ok-cond.ensures.meaning

pub one_member-returns-in_err-counted-clause-works : goal.one_member-returns-in_err-counted-clause-works
one_member-returns-in_err-counted-clause-works t c =
    let e = err_from_is_err_and c.from_residual-in_err-counted.result c.from_residual-in_err-counted.ensures.1 in
    subst (λ (r : Result Cond RowsStop). Works (one_work never always (map (work_of c.args.options.now) (members_of c.args.members.now))).worked c.args.self.now c.count_one.new.self r) (sym (e.1 ∙ ap Err e.2))
    (one_so_far-stop_join c.args.options.now (members_of c.args.members.now) c.loop-member.member-index c.member-item.result (omega (arith, c.loop-member-test.true, ap length c.as_slice-member-items.ensures)) (c.member-item.is ∙ ap (λ l. get_or l c.loop-member.member-index c.member-item.result) c.as_slice-member-items.ensures) c.args.self.now c.loop-member.self c.loop-member.one c.loop-member.none c.loop-member.invariant c.worked.new.self c.in_ok-cond.cond c.in_ok-cond.ensures.works c.in_ok-cond.ensures.meaning c.count_one.new.self c.in_err-counted.field-0.0 c.in_err-counted.ensures.works)

pub one_member-loop-member-preserved : goal.one_member-loop-member-preserved
one_member-loop-member-preserved t c =
    one_so_far-next c.args.options.now (members_of c.args.members.now) c.loop-member.member-index c.member-item.result (omega (arith, c.loop-member-test.true, ap length c.as_slice-member-items.ensures)) (c.member-item.is ∙ ap (λ l. get_or l c.loop-member.member-index c.member-item.result) c.as_slice-member-items.ensures) c.args.self.now c.loop-member.self c.loop-member.one c.loop-member.none c.loop-member.invariant c.worked.new.self c.in_ok-cond.cond c.in_ok-cond.ensures.works c.in_ok-cond.ensures.meaning c.in_ok-cond.ensures.value c.count_one.new.self c.in_ok-counted.counted c.in_ok-counted.counted.one c.in_ok-counted.counted.none c.in_ok-counted.ensures.works c.in_ok-counted.ensures.has.0 c.in_ok-counted.ensures.has.1 c.in_ok-counted.ensures.one c.in_ok-counted.ensures.none

pub one_member-returns-clause-has : goal.one_member-returns-clause-has
one_member-returns-clause-has t c =
    c.loop-member.invariant.has_one

pub one_member-returns-clause-value : goal.one_member-returns-clause-value
one_member-returns-clause-value t c =
    one_so_far-value c.args.options.now (members_of c.args.members.now) c.loop-member.member-index (omega (arith, c.loop-member-test.false, ap length c.as_slice-member-items.ensures)) c.args.self.now c.loop-member.self c.loop-member.one c.loop-member.none c.loop-member.invariant

pub one_member-returns-clause-meaning : goal.one_member-returns-clause-meaning
one_member-returns-clause-meaning t c =
    one_so_far-meaning c.args.options.now (members_of c.args.members.now) c.loop-member.member-index (omega (arith, c.loop-member-test.false, ap length c.as_slice-member-items.ensures)) c.args.self.now c.loop-member.self c.loop-member.one c.loop-member.none c.loop-member.invariant

pub one_member-returns-clause-works : goal.one_member-returns-clause-works
one_member-returns-clause-works t c =
    one_so_far-works c.args.options.now (members_of c.args.members.now) c.loop-member.member-index (omega (arith, c.loop-member-test.false, ap length c.as_slice-member-items.ensures)) c.args.self.now c.loop-member.self c.loop-member.one c.loop-member.none c.loop-member.invariant

pub worked-returns-in-Always-clause-works : goal.worked-returns-in-Always-clause-works
worked-returns-in-Always-clause-works t c =
    works-none c.args.self.now (work_of c.args.options.now c.args.formula.now).worked _ (subst IsSound c.self.view_is c.self.invariant.sound) (ap (λ f. (work_of c.args.options.now f).worked) c.in-Always.is ∙ ap (λ w. w.worked) (work_of-Always c.args.options.now))

pub worked-returns-in-Never-clause-works : goal.worked-returns-in-Never-clause-works
worked-returns-in-Never-clause-works t c =
    works-none c.args.self.now (work_of c.args.options.now c.args.formula.now).worked _ (subst IsSound c.self-in-Never.view_is c.self-in-Never.invariant.sound) (ap (λ f. (work_of c.args.options.now f).worked) c.in-Never.is ∙ ap (λ w. w.worked) (work_of-Never c.args.options.now))

pub worked-returns-in-Is-clause-works : goal.worked-returns-in-Is-clause-works
worked-returns-in-Is-clause-works t c =
    subst (λ (l : List Meaning). Works l c.args.self.now c.named.new.self c.named.result) (sym (ap (λ f. (work_of c.args.options.now f).worked) c.in-Is.is ∙ work_of-Is c.args.options.now c.in-Is.name)) c.named.ensures.works

pub worked-returns-in_err-inner-in-Not-clause-works : goal.worked-returns-in_err-inner-in-Not-clause-works
worked-returns-in_err-inner-in-Not-clause-works t c =
    let e = err_from_is_err_and c.from_residual.result c.from_residual.ensures.1 in
    subst (λ (r : Result Cond RowsStop). Works (work_of c.args.options.now c.args.formula.now).worked c.args.self.now c.worked.new.self r) (sym (e.1 ∙ ap Err e.2))
    (subst (λ (l : List Meaning). Works {A = Cond} l c.args.self.now c.worked.new.self (Err c.in_err-inner-in-Not.field-0.0)) (sym (ap (λ f. (work_of c.args.options.now f).worked) c.in-Not.is ∙ work_of-Not c.args.options.now c.in-Not.inner ∙ ap (λ f. (work_of c.args.options.now f).worked ++ negation (work_of c.args.options.now f).meaning ∷ []) (sym c.get.ensures)))
    (stop-first (work_of c.args.options.now c.get.result.now).worked (negation (work_of c.args.options.now c.get.result.now).meaning ∷ []) c.args.self.now c.worked.new.self c.in_err-inner-in-Not.field-0.0 c.in_err-inner-in-Not.ensures.works))

pub worked-returns-in_ok-inner-in-Not-clause-works : goal.worked-returns-in_ok-inner-in-Not-clause-works
worked-returns-in_ok-inner-in-Not-clause-works t c =
    subst (λ (l : List Meaning). Works l c.args.self.now c.not.new.self c.not.result) (sym (ap (λ f. (work_of c.args.options.now f).worked) c.in-Not.is ∙ work_of-Not c.args.options.now c.in-Not.inner ∙ ap (λ f. (work_of c.args.options.now f).worked ++ negation (work_of c.args.options.now f).meaning ∷ []) (sym c.get.ensures)))
    (works-then (work_of c.args.options.now c.get.result.now).worked (negation (work_of c.args.options.now c.get.result.now).meaning ∷ []) c.args.self.now c.worked.new.self c.not.new.self c.in_ok-inner-in-Not.inner c.not.result c.in_ok-inner-in-Not.ensures.works
    (subst (λ (f : Meaning). Works (negation f ∷ []) c.worked.new.self c.not.new.self c.not.result) (same c.in_ok-inner-in-Not.ensures.meaning) c.not.ensures.works))

pub worked-returns-in-And-clause-value : goal.worked-returns-in-And-clause-value
worked-returns-in-And-clause-value t c =
    IfOk-weaker c.all_members.result (λ x. AreSame (value x) (all_hold c.args.options.now (members_of c.in-And.members))) _ (λ x p d. p d ∙ meaning_of-And c.args.options.now c.args.formula.now c.in-And.members c.in-And.is d) c.all_members.ensures.value

pub worked-returns-in-Or-clause-value : goal.worked-returns-in-Or-clause-value
worked-returns-in-Or-clause-value t c =
    IfOk-weaker c.some_member.result (λ x. AreSame (value x) (any_holds c.args.options.now (members_of c.in-Or.members))) _ (λ x p d. p d ∙ meaning_of-Or c.args.options.now c.args.formula.now c.in-Or.members c.in-Or.is d) c.some_member.ensures.value

pub worked-returns-in-One-clause-value : goal.worked-returns-in-One-clause-value
worked-returns-in-One-clause-value t c =
    IfOk-weaker c.one_member.result (λ x. AreSame (value x) (one_holds c.args.options.now (members_of c.in-One.members))) _ (λ x p d. p d ∙ meaning_of-One c.args.options.now c.args.formula.now c.in-One.members c.in-One.is d) c.one_member.ensures.value
