-- The found wires are those over all sets, and their conditions are joined in this order.
use Rattle.std.proofs.Common.{◌≡◌, ◌++◌, List, length, refl, sym, ap, subst, ◌∙◌, arith, Err}
use Rattle.std.specs.List.{flat_map}
use Rattle.std.proofs.lemmas.Result.{err_from_is_err_and}
use Rattle.loom_rows.specs.declared.stop.RowsStop.{RowsStop}
use Rattle.loom_rows.specs.declared.stop.RowsStop.TheVariants as rows
use Rattle.loom_rows.specs.Condition.{Meaning}
use Rattle.loom_rows.specs.Leftovers.{StandsFor, AreMoreThan, IsRowOf}
use Rattle.loom_rows.proofs.Worked.{stands-after, rows-few, rows-many}
use Rattle.loom_wires.specs.declared.stop.WireStop.TheVariants.{TooManyRows}
use Rattle.loom_wires.specs.Stops.{stop_by_rows}
use Rattle.loom_wires.specs.FoundWires.{worked_for, wires_of}
use Rattle.loom_wires.proofs.CutLemmas.{found-wires, found-worked, found-within, found-count, found-cut, cut-count}
use Rattle.loom_wires.proofs.wires.cut.Goals as goal

-- only too many rows stop the wires as too many rows
too_many : (cause : RowsStop) → stop_by_rows cause ≡ TooManyRows → cause ≡ rows.TooManyRows
too_many rows.TooManyRows e = refl
too_many rows.NoMemory e = absurd (cc)

pub joined-requires-clause-in_range : goal.joined-requires-clause-in_range
joined-requires-clause-in_range c =
    let is = c.in_ok-found.ensures.all (omega (arith, c.len.ensures.len, c.if-len-gt-MAX_WIRES.false)) in
    found-within c.args.topology.now c.args.pins.now c.args.sets.now c.in_ok-found.found is

pub returns-in_err-joined-clause-many_rows : goal.returns-in_err-joined-clause-many_rows
returns-in_err-joined-clause-many_rows c =
    let is = c.in_ok-found.ensures.all (omega (arith, c.len.ensures.len, c.if-len-gt-MAX_WIRES.false)) in
    λ worked wires stands of stop.
    let e = err_from_is_err_and c.from_residual-in_err-joined.result c.from_residual-in_err-joined.ensures.1 in
    let stopped : e.0 ≡ TooManyRows = let same = sym e.1 ∙ stop in cc in
    let cause = too_many c.in_err-joined.field-0.0 (sym e.2 ∙ stopped) in (
      omega (arith, ap length (found-wires c.args.topology.now c.args.pins.now c.args.sets.now c.in_ok-found.found is wires of), found-count c.args.topology.now c.args.pins.now c.args.sets.now c.in_ok-found.found is, c.len.ensures.len, c.if-len-gt-MAX_WIRES.false),
      subst (λ (l : List Meaning). AreMoreThan c.args.rows.now.limit (IsRowOf (worked ++ l))) (found-worked c.args.topology.now c.args.pins.now c.args.sets.now c.in_ok-found.found is wires of)
          (rows-many worked (flat_map (worked_for c.args.sets.now) c.in_ok-found.found.entries) c.args.rows.now c.joined.new.rows stands (Err c.in_err-joined.field-0.0) (ap Err cause) c.in_err-joined.ensures.works),
    )

pub returns-clause-wires : goal.returns-clause-wires
returns-clause-wires c =
    let is = c.in_ok-found.ensures.all (omega (arith, c.len.ensures.len, c.if-len-gt-MAX_WIRES.false)) in
    found-cut c.args.topology.now c.args.pins.now c.args.sets.now c.in_ok-found.found is c.joined.new.rows c.in_ok-joined.field-0 c.in_ok-joined.ensures.joined

pub returns-clause-few_wires : goal.returns-clause-few_wires
returns-clause-few_wires c =
    let is = c.in_ok-found.ensures.all (omega (arith, c.len.ensures.len, c.if-len-gt-MAX_WIRES.false)) in
    omega (arith, cut-count c.args.topology.now c.args.pins.now c.args.sets.now c.in_ok-found.found is c.joined.new.rows c.in_ok-joined.field-0 c.in_ok-joined.ensures.joined, c.len.ensures.len, c.if-len-gt-MAX_WIRES.false)

pub returns-clause-stands : goal.returns-clause-stands
returns-clause-stands c =
    let is = c.in_ok-found.ensures.all (omega (arith, c.len.ensures.len, c.if-len-gt-MAX_WIRES.false)) in
    λ worked wires stands of.
    subst (λ (l : List Meaning). StandsFor c.joined.new.rows (worked ++ l)) (found-worked c.args.topology.now c.args.pins.now c.args.sets.now c.in_ok-found.found is wires of)
    (stands-after worked (flat_map (worked_for c.args.sets.now) c.in_ok-found.found.entries) c.args.rows.now c.joined.new.rows stands c.in_ok-joined.field-0 c.in_ok-joined.ensures.works)

pub returns-clause-few_rows : goal.returns-clause-few_rows
returns-clause-few_rows c =
    let is = c.in_ok-found.ensures.all (omega (arith, c.len.ensures.len, c.if-len-gt-MAX_WIRES.false)) in
    λ worked wires stands of many.
    rows-few worked (flat_map (worked_for c.args.sets.now) c.in_ok-found.found.entries) c.args.rows.now c.joined.new.rows stands c.in_ok-joined.field-0 c.in_ok-joined.ensures.works
    (subst (λ (l : List Meaning). AreMoreThan c.args.rows.now.limit (IsRowOf (worked ++ l))) (sym (found-worked c.args.topology.now c.args.pins.now c.args.sets.now c.in_ok-found.found is wires of)) many)

pub returns-in_err-joined-clause-found : goal.returns-in_err-joined-clause-found
returns-in_err-joined-clause-found c =
    let is = c.in_ok-found.ensures.all (omega (arith, c.len.ensures.len, c.if-len-gt-MAX_WIRES.false)) in
    λ stop. (wires_of c.in_ok-found.found, is.wires)
