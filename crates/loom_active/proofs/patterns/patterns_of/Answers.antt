-- Each terminal splits the patterns.
use Rattle.std.proofs.Common.{◌≡◌, ℕ, ◌<◌, List, [], ◌∷◌, ◌++◌, length, get_or, sym, ap, subst, ◌∙◌, Result, Ok, Err}
use Rattle.std.proofs.lemmas.List.{get_or_default}
use Rattle.std.proofs.lemmas.Result.{err_from_is_err_and}
use Rattle.loom_rows.specs.declared.cond.Cond.{Never}
use Rattle.loom_rows.specs.declared.stop.RowsStop.{RowsStop}
use Rattle.loom_rows.specs.Condition.{value}
use Rattle.loom_rows.specs.Leftovers.{Works}
use Rattle.loom_active.specs.declared.patterns.Pattern.{Pattern}
use Rattle.loom_active.specs.declared.terminals.Terminal.{Terminal}
use Rattle.loom_active.specs.LiveWork.{signs_worked}
use Rattle.loom_active.specs.Patterns.{AreJoinedWith, HasEach, LeaveRoom, joined_worked}
use Rattle.loom_active.specs.Terminals.{whens_of}
use Rattle.loom_active.proofs.PatternSteps.{unsigned, patterns-init, when-has, room-low, room-high, each-kept1, each-kept2, when-kept2, patterns-stop1, patterns-stop2, patterns-stop3, patterns-no_memory, patterns-next, patterns-done, patterns-works}
use Rattle.loom_active.proofs.patterns.patterns_of.Goals as goal

abbrev item : List Terminal → ℕ → Terminal
item terminals k = get_or terminals k (record { cavity = record { 0 = 0 }; when = Never; active = Never })

item_at : (terminals : List Terminal) (k : ℕ) → k < length terminals → item terminals k ≡ get_or terminals k (item terminals k)
item_at terminals k lt = get_or_default terminals k (record { cavity = record { 0 = 0 }; when = Never; active = Never }) (item terminals k) lt

pub loop-terminal-init : goal.loop-terminal-init
loop-terminal-init c = patterns-init c.args.valid c.args.terminals.now c.args.rows.now c.requires.sound c.requires.has c.requires.some c.push.new.self (c.in_ok-push.ensures.ok ∙ ap (λ l. l ++ unsigned c.args.valid ∷ []) c.new-patterns.ensures)

pub not-requires : goal.not-requires
not-requires c = when-has (value c.args.valid) c.args.terminals.now c.loop-terminal.terminal-index (item c.args.terminals.now c.loop-terminal.terminal-index) c.loop-terminal-test.true (item_at c.args.terminals.now c.loop-terminal.terminal-index c.loop-terminal-test.true) c.args.rows.now c.loop-terminal.rows c.loop-terminal.patterns c.loop-terminal.bit c.loop-terminal.invariant c.requires.whens

pub returns-in_err-without-clause-works : goal.returns-in_err-without-clause-works
returns-in_err-without-clause-works c =
    let e = err_from_is_err_and c.from_residual-in_err-without.result c.from_residual-in_err-without.ensures.1 in
    subst (λ (r : Result (List Pattern) RowsStop). Works (signs_worked (value c.args.valid) (whens_of c.args.terminals.now)) c.args.rows.now c.not.new.self r) (sym (e.1 ∙ ap Err e.2))
    (patterns-stop1 (value c.args.valid) c.args.terminals.now c.loop-terminal.terminal-index (item c.args.terminals.now c.loop-terminal.terminal-index) c.loop-terminal-test.true (item_at c.args.terminals.now c.loop-terminal.terminal-index c.loop-terminal-test.true) c.args.rows.now c.loop-terminal.rows c.loop-terminal.patterns c.loop-terminal.bit c.loop-terminal.invariant c.not.new.self c.in_err-without.field-0.0 c.in_err-without.ensures.works)

pub joined_with-requires-clause-each : goal.joined_with-requires-clause-each
joined_with-requires-clause-each c = subst (λ (l : List Pattern). HasEach c.not.new.self l) (sym c.as_slice.ensures) (each-kept1 (value c.args.valid) c.args.terminals.now c.loop-terminal.terminal-index (item c.args.terminals.now c.loop-terminal.terminal-index) c.loop-terminal-test.true (item_at c.args.terminals.now c.loop-terminal.terminal-index c.loop-terminal-test.true) c.args.rows.now c.loop-terminal.rows c.loop-terminal.patterns c.loop-terminal.bit c.loop-terminal.invariant c.not.new.self c.in_ok-without.without c.in_ok-without.ensures.works c.in_ok-without.ensures.value.1)

pub joined_with-requires-clause-room : goal.joined_with-requires-clause-room
joined_with-requires-clause-room c = subst (λ (l : List Pattern). LeaveRoom 0 l) (sym c.as_slice.ensures) (room-low (value c.args.valid) c.args.terminals.now c.loop-terminal.terminal-index (item c.args.terminals.now c.loop-terminal.terminal-index) c.loop-terminal-test.true (item_at c.args.terminals.now c.loop-terminal.terminal-index c.loop-terminal-test.true) c.args.rows.now c.loop-terminal.rows c.loop-terminal.patterns c.loop-terminal.bit c.loop-terminal.invariant c.requires.few)

pub returns-in_err-next-clause-works : goal.returns-in_err-next-clause-works
returns-in_err-next-clause-works c =
    let e = err_from_is_err_and c.from_residual-in_err-next.result c.from_residual-in_err-next.ensures.1 in
    subst (λ (r : Result (List Pattern) RowsStop). Works (signs_worked (value c.args.valid) (whens_of c.args.terminals.now)) c.args.rows.now c.joined_with.new.rows r) (sym (e.1 ∙ ap Err e.2))
    (patterns-stop2 (value c.args.valid) c.args.terminals.now c.loop-terminal.terminal-index (item c.args.terminals.now c.loop-terminal.terminal-index) c.loop-terminal-test.true (item_at c.args.terminals.now c.loop-terminal.terminal-index c.loop-terminal-test.true) c.args.rows.now c.loop-terminal.rows c.loop-terminal.patterns c.loop-terminal.bit c.loop-terminal.invariant c.not.new.self c.in_ok-without.without c.in_ok-without.ensures.works c.in_ok-without.ensures.value.1 c.joined_with.new.rows c.in_err-next.field-0.0 (subst (λ (l : List Pattern). Works (joined_worked (value c.in_ok-without.without) l) c.not.new.self c.joined_with.new.rows (Err c.in_err-next.field-0.0)) c.as_slice.ensures c.in_err-next.ensures.works))

pub joined_with-requires-in-loop-terminal-clause-has : goal.joined_with-requires-in-loop-terminal-clause-has
joined_with-requires-in-loop-terminal-clause-has c = when-kept2 (value c.args.valid) c.args.terminals.now c.loop-terminal.terminal-index (item c.args.terminals.now c.loop-terminal.terminal-index) c.loop-terminal-test.true (item_at c.args.terminals.now c.loop-terminal.terminal-index c.loop-terminal-test.true) c.args.rows.now c.loop-terminal.rows c.loop-terminal.patterns c.loop-terminal.bit c.loop-terminal.invariant c.not.new.self c.in_ok-without.without c.in_ok-without.ensures.works c.in_ok-without.ensures.value.1 c.joined_with.new.rows c.in_ok-next.next (subst (λ (l : List Pattern). Works (joined_worked (value c.in_ok-without.without) l) c.not.new.self c.joined_with.new.rows (Ok c.in_ok-next.next)) c.as_slice.ensures c.in_ok-next.ensures.works) (subst (λ (l : List Pattern). AreJoinedWith c.joined_with.new.rows (value c.in_ok-without.without) 0 l c.in_ok-next.next) c.as_slice.ensures c.in_ok-next.ensures.joined) c.requires.whens

pub joined_with-requires-in-loop-terminal-clause-each : goal.joined_with-requires-in-loop-terminal-clause-each
joined_with-requires-in-loop-terminal-clause-each c = subst (λ (l : List Pattern). HasEach c.joined_with.new.rows l) (sym c.as_slice-in-loop-terminal.ensures) (each-kept2 (value c.args.valid) c.args.terminals.now c.loop-terminal.terminal-index (item c.args.terminals.now c.loop-terminal.terminal-index) c.loop-terminal-test.true (item_at c.args.terminals.now c.loop-terminal.terminal-index c.loop-terminal-test.true) c.args.rows.now c.loop-terminal.rows c.loop-terminal.patterns c.loop-terminal.bit c.loop-terminal.invariant c.not.new.self c.in_ok-without.without c.in_ok-without.ensures.works c.in_ok-without.ensures.value.1 c.joined_with.new.rows c.in_ok-next.next (subst (λ (l : List Pattern). Works (joined_worked (value c.in_ok-without.without) l) c.not.new.self c.joined_with.new.rows (Ok c.in_ok-next.next)) c.as_slice.ensures c.in_ok-next.ensures.works) (subst (λ (l : List Pattern). AreJoinedWith c.joined_with.new.rows (value c.in_ok-without.without) 0 l c.in_ok-next.next) c.as_slice.ensures c.in_ok-next.ensures.joined))

pub joined_with-requires-in-loop-terminal-clause-room : goal.joined_with-requires-in-loop-terminal-clause-room
joined_with-requires-in-loop-terminal-clause-room c = subst (λ (l : List Pattern). LeaveRoom c.loop-terminal.bit l) (sym c.as_slice-in-loop-terminal.ensures) (room-high (value c.args.valid) c.args.terminals.now c.loop-terminal.terminal-index (item c.args.terminals.now c.loop-terminal.terminal-index) c.loop-terminal-test.true (item_at c.args.terminals.now c.loop-terminal.terminal-index c.loop-terminal-test.true) c.args.rows.now c.loop-terminal.rows c.loop-terminal.patterns c.loop-terminal.bit c.loop-terminal.invariant c.requires.few)

pub returns-in_err-held-clause-works : goal.returns-in_err-held-clause-works
returns-in_err-held-clause-works c =
    let e = err_from_is_err_and c.from_residual-in_err-held.result c.from_residual-in_err-held.ensures.1 in
    subst (λ (r : Result (List Pattern) RowsStop). Works (signs_worked (value c.args.valid) (whens_of c.args.terminals.now)) c.args.rows.now c.joined_with-in-loop-terminal.new.rows r) (sym (e.1 ∙ ap Err e.2))
    (patterns-stop3 (value c.args.valid) c.args.terminals.now c.loop-terminal.terminal-index (item c.args.terminals.now c.loop-terminal.terminal-index) c.loop-terminal-test.true (item_at c.args.terminals.now c.loop-terminal.terminal-index c.loop-terminal-test.true) c.args.rows.now c.loop-terminal.rows c.loop-terminal.patterns c.loop-terminal.bit c.loop-terminal.invariant c.not.new.self c.in_ok-without.without c.in_ok-without.ensures.works c.in_ok-without.ensures.value.1 c.joined_with.new.rows c.in_ok-next.next (subst (λ (l : List Pattern). Works (joined_worked (value c.in_ok-without.without) l) c.not.new.self c.joined_with.new.rows (Ok c.in_ok-next.next)) c.as_slice.ensures c.in_ok-next.ensures.works) (subst (λ (l : List Pattern). AreJoinedWith c.joined_with.new.rows (value c.in_ok-without.without) 0 l c.in_ok-next.next) c.as_slice.ensures c.in_ok-next.ensures.joined) c.joined_with-in-loop-terminal.new.rows c.in_err-held.field-0.0 (subst (λ (l : List Pattern). Works (joined_worked (value (item c.args.terminals.now c.loop-terminal.terminal-index).when) l) c.joined_with.new.rows c.joined_with-in-loop-terminal.new.rows (Err c.in_err-held.field-0.0)) c.as_slice-in-loop-terminal.ensures c.in_err-held.ensures.works))

pub returns-in_err-extend_from_slice-clause-works : goal.returns-in_err-extend_from_slice-clause-works
returns-in_err-extend_from_slice-clause-works c =
    let e = err_from_is_err_and c.from_residual-in_err-extend_from_slice.result c.from_residual-in_err-extend_from_slice.ensures.1 in
    subst (λ (r : Result (List Pattern) RowsStop). Works (signs_worked (value c.args.valid) (whens_of c.args.terminals.now)) c.args.rows.now c.joined_with-in-loop-terminal.new.rows r) (sym (e.1 ∙ ap Err e.2))
    (patterns-no_memory (value c.args.valid) c.args.terminals.now c.loop-terminal.terminal-index (item c.args.terminals.now c.loop-terminal.terminal-index) c.loop-terminal-test.true (item_at c.args.terminals.now c.loop-terminal.terminal-index c.loop-terminal-test.true) c.args.rows.now c.loop-terminal.rows c.loop-terminal.patterns c.loop-terminal.bit c.loop-terminal.invariant c.not.new.self c.in_ok-without.without c.in_ok-without.ensures.works c.in_ok-without.ensures.value.1 c.joined_with.new.rows c.in_ok-next.next (subst (λ (l : List Pattern). Works (joined_worked (value c.in_ok-without.without) l) c.not.new.self c.joined_with.new.rows (Ok c.in_ok-next.next)) c.as_slice.ensures c.in_ok-next.ensures.works) (subst (λ (l : List Pattern). AreJoinedWith c.joined_with.new.rows (value c.in_ok-without.without) 0 l c.in_ok-next.next) c.as_slice.ensures c.in_ok-next.ensures.joined) c.joined_with-in-loop-terminal.new.rows c.in_ok-held.held (subst (λ (l : List Pattern). Works (joined_worked (value (item c.args.terminals.now c.loop-terminal.terminal-index).when) l) c.joined_with.new.rows c.joined_with-in-loop-terminal.new.rows (Ok c.in_ok-held.held)) c.as_slice-in-loop-terminal.ensures c.in_ok-held.ensures.works) (subst (λ (l : List Pattern). AreJoinedWith c.joined_with-in-loop-terminal.new.rows (value (item c.args.terminals.now c.loop-terminal.terminal-index).when) c.loop-terminal.bit l c.in_ok-held.held) c.as_slice-in-loop-terminal.ensures c.in_ok-held.ensures.joined))

pub loop-terminal-preserved : goal.loop-terminal-preserved
loop-terminal-preserved c = patterns-next (value c.args.valid) c.args.terminals.now c.loop-terminal.terminal-index (item c.args.terminals.now c.loop-terminal.terminal-index) c.loop-terminal-test.true (item_at c.args.terminals.now c.loop-terminal.terminal-index c.loop-terminal-test.true) c.args.rows.now c.loop-terminal.rows c.loop-terminal.patterns c.loop-terminal.bit c.loop-terminal.invariant c.not.new.self c.in_ok-without.without c.in_ok-without.ensures.works c.in_ok-without.ensures.value.1 c.joined_with.new.rows c.in_ok-next.next (subst (λ (l : List Pattern). Works (joined_worked (value c.in_ok-without.without) l) c.not.new.self c.joined_with.new.rows (Ok c.in_ok-next.next)) c.as_slice.ensures c.in_ok-next.ensures.works) (subst (λ (l : List Pattern). AreJoinedWith c.joined_with.new.rows (value c.in_ok-without.without) 0 l c.in_ok-next.next) c.as_slice.ensures c.in_ok-next.ensures.joined) c.joined_with-in-loop-terminal.new.rows c.in_ok-held.held (subst (λ (l : List Pattern). Works (joined_worked (value (item c.args.terminals.now c.loop-terminal.terminal-index).when) l) c.joined_with.new.rows c.joined_with-in-loop-terminal.new.rows (Ok c.in_ok-held.held)) c.as_slice-in-loop-terminal.ensures c.in_ok-held.ensures.works) (subst (λ (l : List Pattern). AreJoinedWith c.joined_with-in-loop-terminal.new.rows (value (item c.args.terminals.now c.loop-terminal.terminal-index).when) c.loop-terminal.bit l c.in_ok-held.held) c.as_slice-in-loop-terminal.ensures c.in_ok-held.ensures.joined) c.extend_from_slice.new.self (c.in_ok-extend_from_slice.ensures.ok ∙ ap (λ l. c.in_ok-next.next ++ l) c.as_slice-in-loop-terminal-2.ensures)

pub returns-clause-patterns : goal.returns-clause-patterns
returns-clause-patterns c = patterns-done (value c.args.valid) c.args.terminals.now c.loop-terminal.terminal-index c.loop-terminal-test.false c.args.rows.now c.loop-terminal.rows c.loop-terminal.patterns c.loop-terminal.bit c.loop-terminal.invariant

pub returns-clause-works : goal.returns-clause-works
returns-clause-works c = patterns-works (value c.args.valid) c.args.terminals.now c.loop-terminal.terminal-index c.loop-terminal-test.false c.args.rows.now c.loop-terminal.rows c.loop-terminal.patterns c.loop-terminal.bit c.loop-terminal.invariant
