-- Each pattern is joined in turn.
use Rattle.std.proofs.Common.{◌≡◌, ℕ, ◌+◌, ◌<◌, List, [], ◌∷◌, length, get_or, sym, ap, subst, ◌∙◌, arith, Contains, Result, Err}
use Rattle.std.proofs.lemmas.List.{get_or_default, take_all}
use Rattle.std.proofs.lemmas.Result.{err_from_is_err_and}
use Rattle.loom_rows.specs.declared.cond.Cond.{Cond, Never}
use Rattle.loom_rows.specs.declared.stop.RowsStop.{RowsStop}
use Rattle.loom_rows.specs.Condition.{value, both}
use Rattle.loom_rows.specs.Leftovers.{Works}
use Rattle.loom_rows.proofs.Outcomes.{keeps}
use Rattle.loom_active.specs.declared.patterns.Pattern.{Pattern}
use Rattle.loom_active.specs.Patterns.{AreJoinedWith, joined_worked}
use Rattle.loom_active.proofs.PatternLemmas.{JoinedSoFar, joined-init, joined-skip, joined-push}
use Rattle.loom_active.proofs.Steps.{step-stop, step-no_memory, step-done}
use Rattle.loom_active.proofs.patterns.joined_with.Goals as goal
use Rattle.loom_active.proofs.patterns.joined_with.Goals.{then-not-is_never+in_ok-push, else-not-is_never}

abbrev item : List Pattern → ℕ → Pattern
item patterns k = get_or patterns k (record { mask = 0; cond = Never })

item_at : (patterns : List Pattern) (k : ℕ) → k < length patterns → item patterns k ≡ get_or patterns k (item patterns k)
item_at patterns k lt = get_or_default patterns k (record { mask = 0; cond = Never }) (item patterns k) lt

item_in : (patterns : List Pattern) (k : ℕ) → k < length patterns → Contains patterns (item patterns k)
item_in patterns k lt = (k, lt, sym (item_at patterns k lt))

pub loop-pattern-init : goal.loop-pattern-init
loop-pattern-init c =
    subst (λ (l : List Pattern). JoinedSoFar (value c.args.cond) c.args.bit c.args.patterns.now 0 c.args.rows.now c.args.rows.now l) (sym c.new-joined.ensures) (joined-init (value c.args.cond) c.args.bit c.args.patterns.now c.args.rows.now c.requires.sound)

pub and-requires-clause-has_a : goal.and-requires-clause-has_a
and-requires-clause-has_a c =
    keeps c.loop-pattern.invariant.progress.gains (item c.args.patterns.now c.loop-pattern.pattern-index).cond
    (c.requires.each (item c.args.patterns.now c.loop-pattern.pattern-index) (item_in c.args.patterns.now c.loop-pattern.pattern-index c.loop-pattern-test.true))

pub and-requires-clause-has_b : goal.and-requires-clause-has_b
and-requires-clause-has_b c = keeps c.loop-pattern.invariant.progress.gains c.args.cond c.requires.has

pub returns-in_err-both-clause-works : goal.returns-in_err-both-clause-works
returns-in_err-both-clause-works c =
    let e = err_from_is_err_and c.from_residual.result c.from_residual.ensures.1 in
    subst (λ (r : Result (List Pattern) RowsStop). Works (joined_worked (value c.args.cond) c.args.patterns.now) c.args.rows.now c.and.new.self r) (sym (e.1 ∙ ap Err e.2))
    (step-stop (λ p. both (value p.cond) (value c.args.cond) ∷ []) c.args.patterns.now c.loop-pattern.pattern-index (item c.args.patterns.now c.loop-pattern.pattern-index) c.loop-pattern-test.true (item_at c.args.patterns.now c.loop-pattern.pattern-index c.loop-pattern-test.true) {A = Cond} {B = List Pattern} c.args.rows.now c.loop-pattern.rows c.and.new.self c.in_err-both.field-0.0 c.loop-pattern.invariant.progress c.in_err-both.ensures.works)

pub overflow_add-pattern : goal.overflow_add-pattern
overflow_add-pattern c =
    let room : (item c.args.patterns.now c.loop-pattern.pattern-index).mask + c.args.bit < 4294967296 = c.requires.room (item c.args.patterns.now c.loop-pattern.pattern-index) (item_in c.args.patterns.now c.loop-pattern.pattern-index c.loop-pattern-test.true) in
    omega arith

pub returns-in_err-push-clause-works : goal.returns-in_err-push-clause-works
returns-in_err-push-clause-works c =
    let e = err_from_is_err_and c.from_residual-in_err-push.result c.from_residual-in_err-push.ensures.1 in
    subst (λ (r : Result (List Pattern) RowsStop). Works (joined_worked (value c.args.cond) c.args.patterns.now) c.args.rows.now c.and.new.self r) (sym (e.1 ∙ ap Err e.2))
    (step-no_memory (λ p. both (value p.cond) (value c.args.cond) ∷ []) c.args.patterns.now c.loop-pattern.pattern-index (item c.args.patterns.now c.loop-pattern.pattern-index) c.loop-pattern-test.true (item_at c.args.patterns.now c.loop-pattern.pattern-index c.loop-pattern-test.true) {A = Cond} {B = List Pattern} c.args.rows.now c.loop-pattern.rows c.and.new.self c.in_ok-both.both c.loop-pattern.invariant.progress c.in_ok-both.ensures.works)

pub loop-pattern-preserved : goal.loop-pattern-preserved
loop-pattern-preserved c =
    elim c.if-not-is_never.branch [
      | then-not-is_never+in_ok-push w ↦
          subst (λ (l : List Pattern). JoinedSoFar (value c.args.cond) c.args.bit c.args.patterns.now (c.loop-pattern.pattern-index + 1) c.args.rows.now c.and.new.self l) (sym (w.joined-is ∙ w.in_ok-push.ensures.ok))
          (joined-push (value c.args.cond) c.args.bit c.args.patterns.now c.requires.order c.loop-pattern.pattern-index (item c.args.patterns.now c.loop-pattern.pattern-index) c.loop-pattern-test.true (item_at c.args.patterns.now c.loop-pattern.pattern-index c.loop-pattern-test.true) c.args.rows.now c.loop-pattern.rows c.loop-pattern.joined c.loop-pattern.invariant c.and.new.self c.in_ok-both.both c.in_ok-both.ensures.works c.in_ok-both.ensures.value.0 c.in_ok-both.ensures.value.1 (c.is_never.ensures.some w.if-not-is_never.true))
      | else-not-is_never w ↦
          subst (λ (l : List Pattern). JoinedSoFar (value c.args.cond) c.args.bit c.args.patterns.now (c.loop-pattern.pattern-index + 1) c.args.rows.now c.and.new.self l) (sym w.joined-is)
          (joined-skip (value c.args.cond) c.args.bit c.args.patterns.now c.requires.order c.loop-pattern.pattern-index (item c.args.patterns.now c.loop-pattern.pattern-index) c.loop-pattern-test.true (item_at c.args.patterns.now c.loop-pattern.pattern-index c.loop-pattern-test.true) c.args.rows.now c.loop-pattern.rows c.loop-pattern.joined c.loop-pattern.invariant c.and.new.self c.in_ok-both.both c.in_ok-both.ensures.works c.in_ok-both.ensures.value.1 (c.is_never.ensures.never w.if-not-is_never.false))
    ]

pub returns-clause-joined : goal.returns-clause-joined
returns-clause-joined c =
    subst (λ (l : List Pattern). AreJoinedWith c.loop-pattern.rows (value c.args.cond) c.args.bit l c.loop-pattern.joined) (take_all c.loop-pattern.pattern-index c.args.patterns.now c.loop-pattern-test.false) c.loop-pattern.invariant.joined

pub returns-clause-works : goal.returns-clause-works
returns-clause-works c =
    step-done (λ p. both (value p.cond) (value c.args.cond) ∷ []) c.args.patterns.now c.loop-pattern.pattern-index c.loop-pattern-test.false c.args.rows.now c.loop-pattern.rows c.loop-pattern.joined c.loop-pattern.invariant.progress
