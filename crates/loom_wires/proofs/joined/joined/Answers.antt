-- Each wire's conditions are joined in turn.
use Rattle.std.proofs.Common.{◌<◌, ℕ, List, length, map, sym, ap, subst, ◌∙◌, Result, Ok, Err}
use Rattle.std.specs.List.{All, flat_map}
use Rattle.std.proofs.lemmas.Result.{err_from_is_err_and}
use Rattle.loom_rows.specs.declared.cond.Cond.{Cond}
use Rattle.loom_rows.specs.declared.stop.RowsStop.{RowsStop}
use Rattle.loom_rows.specs.Condition.{value}
use Rattle.loom_rows.specs.Leftovers.{AreSame, Works}
use Rattle.loom_rows.specs.Disjunction.{some_hold, any_worked}
use Rattle.loom_rows.specs.Printing.{AreHad}
use Rattle.loom_wires.specs.declared.cut_wire.CutWire.{CutWire}
use Rattle.loom_wires.specs.declared.wire_key.WireKey.{WireKey}
use Rattle.loom_wires.specs.FoundWires.{conds_at, worked_for}
use Rattle.loom_wires.proofs.JoinSteps.{JoinedSoFar, conds-had, joined-init, joined-has, joined-within, joined-no_memory, joined-no_memory2, joined-stop, joined-next, joined-zip, joined-works}
use Rattle.loom_wires.proofs.joined.joined.Goals as goal

pub loop-key-init : goal.loop-key-init
loop-key-init c =
    subst (λ (l : List (WireKey × List ℕ)). JoinedSoFar c.args.sets.now c.args.found.entries c.args.rows.now l c.args.rows.now c.new-cut.result) (sym c.into_iter-key-iterator.ensures.into_iter_gives.0)
    (subst (λ (l : List CutWire). JoinedSoFar c.args.sets.now c.args.found.entries c.args.rows.now c.args.found.entries c.args.rows.now l) (sym c.new-cut.ensures)
    (joined-init c.args.sets.now c.args.found.entries c.args.rows.now c.row_count.ensures.sound))

pub conds_at-requires : goal.conds_at-requires
conds_at-requires c =
    let s = subst (λ (l : List (WireKey × List ℕ)). JoinedSoFar c.args.sets.now c.args.found.entries c.args.rows.now l c.loop-key.rows c.loop-key.cut) c.in-Some.ensures.steps c.loop-key.invariant in
    subst (λ (l : List ℕ). All (λ n. n < length c.args.sets.now) l) (sym c.as_slice.ensures)
    (joined-within c.args.sets.now c.args.found.entries c.args.rows.now (c.in-Some.key, c.in-Some.positions) c.next.new.self c.loop-key.rows c.loop-key.cut s c.requires.in_range)

pub returns-in_err-conds-clause-works : goal.returns-in_err-conds-clause-works
returns-in_err-conds-clause-works c =
    let s = subst (λ (l : List (WireKey × List ℕ)). JoinedSoFar c.args.sets.now c.args.found.entries c.args.rows.now l c.loop-key.rows c.loop-key.cut) c.in-Some.ensures.steps c.loop-key.invariant in
    let e = err_from_is_err_and c.from_residual.result c.from_residual.ensures.1 in
    subst (λ (r : Result (List CutWire) RowsStop). Works (flat_map (worked_for c.args.sets.now) c.args.found.entries) c.args.rows.now c.loop-key.rows r) (sym (e.1 ∙ ap Err e.2))
    (joined-no_memory c.args.sets.now c.args.found.entries c.args.rows.now (c.in-Some.key, c.in-Some.positions) c.next.new.self c.loop-key.rows c.loop-key.cut s)

pub any_of-requires : goal.any_of-requires
any_of-requires c =
    let s = subst (λ (l : List (WireKey × List ℕ)). JoinedSoFar c.args.sets.now c.args.found.entries c.args.rows.now l c.loop-key.rows c.loop-key.cut) c.in-Some.ensures.steps c.loop-key.invariant in
    subst (λ (l : List Cond). AreHad c.loop-key.rows l)
    (sym (c.as_slice-in-loop-key.ensures ∙ c.in_ok-conds.ensures ∙ ap (conds_at c.args.sets.now) c.as_slice.ensures))
    (conds-had c.loop-key.rows c.args.sets.now c.in-Some.positions
    (joined-has c.args.sets.now c.args.found.entries c.args.rows.now (c.in-Some.key, c.in-Some.positions) c.next.new.self c.loop-key.rows c.loop-key.cut s c.requires.has)
    (joined-within c.args.sets.now c.args.found.entries c.args.rows.now (c.in-Some.key, c.in-Some.positions) c.next.new.self c.loop-key.rows c.loop-key.cut s c.requires.in_range))

pub returns-in_err-cond-clause-works : goal.returns-in_err-cond-clause-works
returns-in_err-cond-clause-works c =
    let s = subst (λ (l : List (WireKey × List ℕ)). JoinedSoFar c.args.sets.now c.args.found.entries c.args.rows.now l c.loop-key.rows c.loop-key.cut) c.in-Some.ensures.steps c.loop-key.invariant in
    let conds = c.as_slice-in-loop-key.ensures ∙ c.in_ok-conds.ensures ∙ ap (conds_at c.args.sets.now) c.as_slice.ensures in
    let e = err_from_is_err_and c.from_residual-in_err-cond.result c.from_residual-in_err-cond.ensures.1 in
    subst (λ (r : Result (List CutWire) RowsStop). Works (flat_map (worked_for c.args.sets.now) c.args.found.entries) c.args.rows.now c.any_of.new.self r) (sym (e.1 ∙ ap Err e.2))
    (joined-stop c.args.sets.now c.args.found.entries c.args.rows.now (c.in-Some.key, c.in-Some.positions) c.next.new.self c.loop-key.rows c.loop-key.cut s c.any_of.new.self c.in_err-cond.field-0.0
    (subst (λ (l : List Cond). Works {A = Cond} (any_worked (map value l)) c.loop-key.rows c.any_of.new.self (Err c.in_err-cond.field-0.0)) conds c.in_err-cond.ensures.works))

pub returns-in_err-push-clause-works : goal.returns-in_err-push-clause-works
returns-in_err-push-clause-works c =
    let s = subst (λ (l : List (WireKey × List ℕ)). JoinedSoFar c.args.sets.now c.args.found.entries c.args.rows.now l c.loop-key.rows c.loop-key.cut) c.in-Some.ensures.steps c.loop-key.invariant in
    let conds = c.as_slice-in-loop-key.ensures ∙ c.in_ok-conds.ensures ∙ ap (conds_at c.args.sets.now) c.as_slice.ensures in
    let e = err_from_is_err_and c.from_residual-in_err-push.result c.from_residual-in_err-push.ensures.1 in
    subst (λ (r : Result (List CutWire) RowsStop). Works (flat_map (worked_for c.args.sets.now) c.args.found.entries) c.args.rows.now c.any_of.new.self r) (sym (e.1 ∙ ap Err e.2))
    (joined-no_memory2 c.args.sets.now c.args.found.entries c.args.rows.now (c.in-Some.key, c.in-Some.positions) c.next.new.self c.loop-key.rows c.loop-key.cut s c.any_of.new.self c.in_ok-cond.cond
    (subst (λ (l : List Cond). Works (any_worked (map value l)) c.loop-key.rows c.any_of.new.self (Ok c.in_ok-cond.cond)) conds c.in_ok-cond.ensures.works))

pub loop-key-preserved : goal.loop-key-preserved
loop-key-preserved c =
    let s = subst (λ (l : List (WireKey × List ℕ)). JoinedSoFar c.args.sets.now c.args.found.entries c.args.rows.now l c.loop-key.rows c.loop-key.cut) c.in-Some.ensures.steps c.loop-key.invariant in
    let conds = c.as_slice-in-loop-key.ensures ∙ c.in_ok-conds.ensures ∙ ap (conds_at c.args.sets.now) c.as_slice.ensures in
    subst (λ (l : List CutWire). JoinedSoFar c.args.sets.now c.args.found.entries c.args.rows.now c.next.new.self c.any_of.new.self l) (sym c.in_ok-push.ensures.ok)
    (joined-next c.args.sets.now c.args.found.entries c.args.rows.now (c.in-Some.key, c.in-Some.positions) c.next.new.self c.loop-key.rows c.loop-key.cut s c.any_of.new.self c.in_ok-cond.cond
    (subst (λ (l : List Cond). Works (any_worked (map value l)) c.loop-key.rows c.any_of.new.self (Ok c.in_ok-cond.cond)) conds c.in_ok-cond.ensures.works)
    c.with_cond.result c.with_cond.ensures.wire c.with_cond.ensures.cond c.in_ok-cond.ensures.value.0
    (subst (λ (l : List Cond). AreSame (value c.in_ok-cond.cond) (some_hold (map value l))) conds c.in_ok-cond.ensures.value.1))

pub returns-clause-joined : goal.returns-clause-joined
returns-clause-joined c =
    let s = subst (λ (l : List (WireKey × List ℕ)). JoinedSoFar c.args.sets.now c.args.found.entries c.args.rows.now l c.loop-key.rows c.loop-key.cut) c.in-None.ensures.steps.0 c.loop-key.invariant in
    joined-zip c.args.sets.now c.args.found.entries c.args.rows.now c.loop-key.rows c.loop-key.cut s

pub returns-clause-works : goal.returns-clause-works
returns-clause-works c =
    let s = subst (λ (l : List (WireKey × List ℕ)). JoinedSoFar c.args.sets.now c.args.found.entries c.args.rows.now l c.loop-key.rows c.loop-key.cut) c.in-None.ensures.steps.0 c.loop-key.invariant in
    joined-works c.args.sets.now c.args.found.entries c.args.rows.now c.loop-key.rows c.loop-key.cut s
