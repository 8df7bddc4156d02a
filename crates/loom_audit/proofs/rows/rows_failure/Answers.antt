-- Each failure comes after what was tried before it.
use Rattle.std.proofs.Common.{ℕ, length, ap, sym, subst, ◌∙◌}
use Rattle.loom_rows.specs.Reduced.{AreReducedBefore, IsFirstUnreduced}
use Rattle.loom_types.specs.declared.plan.SetLine.{SetLine}
use Rattle.loom_types.specs.declared.plan.Module.{Module}
use Rattle.loom_types.specs.declared.wire.Wire.{Wire}
use Rattle.loom_audit.specs.Rows.{RowsFailAt, AreDecisionRows, row, set, wire, module_}
use Rattle.loom_audit.proofs.RowSteps.{each-moved, first-moved}
use Rattle.loom_audit.proofs.rows.rows_failure.Goals as goal

pub returns-in-Some-clause-fails : goal.returns-in-Some-clause-fails
returns-in-Some-clause-fails c =
    subst (RowsFailAt c.args.project.now c.args.plan.now) (sym c.in_ok-line.ensures)
    (row c.in-Some.number
    (subst (λ (n : ℕ). IsFirstUnreduced n c.args.plan.now.rows c.in-Some.number) (c.count-options.ensures.count ∙ ap length c.options.ensures)
    (rw c.in-Some.is at c.in_ok-number.ensures.first)))

pub returns-in-Some-stray_set-clause-fails : goal.returns-in-Some-stray_set-clause-fails
returns-in-Some-stray_set-clause-fails c =
    let rows : AreDecisionRows c.args.project.now c.args.plan.now =
    subst (λ (n : ℕ). AreReducedBefore n c.args.plan.now.rows (length c.args.plan.now.rows)) (c.count-options.ensures.count ∙ ap length c.options.ensures)
    (rw c.in_default.is at c.in_ok-number.ensures.none) in
    subst (RowsFailAt c.args.project.now c.args.plan.now) (sym c.in_ok-line-2.ensures)
    (set c.in-Some-stray_set.at rows
    (first-moved (λ (x : SetLine). x.row) c.count-rows.result (length c.args.plan.now.rows) c.as_slice.result.now c.args.plan.now.sets c.in-Some-stray_set.at
    c.count-rows.ensures.count c.as_slice.ensures c.in-Some-stray_set.ensures.first))

pub returns-in-Some-stray_wire-clause-fails : goal.returns-in-Some-stray_wire-clause-fails
returns-in-Some-stray_wire-clause-fails c =
    let rows : AreDecisionRows c.args.project.now c.args.plan.now =
    subst (λ (n : ℕ). AreReducedBefore n c.args.plan.now.rows (length c.args.plan.now.rows)) (c.count-options.ensures.count ∙ ap length c.options.ensures)
    (rw c.in_default.is at c.in_ok-number.ensures.none) in
    subst (RowsFailAt c.args.project.now c.args.plan.now) (sym c.in_ok-line-3.ensures)
    (wire c.in-Some-stray_wire.at rows
    (each-moved (λ (x : SetLine). x.row) c.count-rows.result (length c.args.plan.now.rows) c.as_slice.result.now c.args.plan.now.sets
    c.count-rows.ensures.count c.as_slice.ensures c.in_default-stray_set.ensures.none)
    (first-moved (λ (x : Wire). x.row) c.count-rows.result (length c.args.plan.now.rows) c.as_slice-2.result.now c.args.plan.now.wires c.in-Some-stray_wire.at
    c.count-rows.ensures.count c.as_slice-2.ensures c.in-Some-stray_wire.ensures.first))

pub returns-in-Some-stray_module-clause-fails : goal.returns-in-Some-stray_module-clause-fails
returns-in-Some-stray_module-clause-fails c =
    let rows : AreDecisionRows c.args.project.now c.args.plan.now =
    subst (λ (n : ℕ). AreReducedBefore n c.args.plan.now.rows (length c.args.plan.now.rows)) (c.count-options.ensures.count ∙ ap length c.options.ensures)
    (rw c.in_default.is at c.in_ok-number.ensures.none) in
    subst (RowsFailAt c.args.project.now c.args.plan.now) (sym c.in_ok-line-4.ensures)
    (module_ c.in-Some-stray_module.at rows
    (each-moved (λ (x : SetLine). x.row) c.count-rows.result (length c.args.plan.now.rows) c.as_slice.result.now c.args.plan.now.sets
    c.count-rows.ensures.count c.as_slice.ensures c.in_default-stray_set.ensures.none)
    (each-moved (λ (x : Wire). x.row) c.count-rows.result (length c.args.plan.now.rows) c.as_slice-2.result.now c.args.plan.now.wires
    c.count-rows.ensures.count c.as_slice-2.ensures c.in_default-stray_wire.ensures.none)
    (first-moved (λ (x : Module). x.row) c.count-rows.result (length c.args.plan.now.rows) c.as_slice-3.result.now c.args.plan.now.modules c.in-Some-stray_module.at
    c.count-rows.ensures.count c.as_slice-3.ensures c.in-Some-stray_module.ensures.first))
