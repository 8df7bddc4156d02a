use Rattle.std.proofs.Common.{◌≡◌, ℕ, List, Option, Some, IfSome, ap, map, ◌∙◌, sym, subst}
use Rattle.loom_potential.specs.declared.first_break.FirstBreak.{FirstBreak}
use Rattle.loom_project.specs.declared.draft.Draft.{Draft}
use Rattle.loom_types.specs.declared.plan.Plan.{Plan}
use Rattle.loom_check.specs.IllegalTables.{IsFirstIllegal}
use Rattle.loom_types.specs.declared.plan.SetLine.{SetLine}
use Rattle.loom_types.specs.declared.plan.TableLine.{TableLine}
use Rattle.loom_types.specs.Modules.{distinct_in_order}
use Rattle.loom_audit.specs.declared.spot.Spot.{Spot}
use Rattle.loom_audit.specs.FirstFailure.{Agree, DifferFirst}
use Rattle.loom_audit.specs.TableRule.{IsTableFor, TablesFailAt, line, nets_with_sets}
use Rattle.loom_check.proofs.TablesOfNets.{nets-in_range, illegal_fails}
use Rattle.loom_check.proofs.tables.tables_failure.Goals as goal

nets_are : (sets items : List SetLine) (listed nets : List ℕ) → listed ≡ nets → nets ≡ distinct_in_order (map (λ s. s.net.0) items) → items ≡ sets
    → listed ≡ distinct_in_order (map (λ s. s.net.0) sets)
nets_are sets items listed nets told are same = told ∙ (are ∙ ap (λ (l : List SetLine). distinct_in_order (map (λ s. s.net.0) l)) same)

first_of : (draft : Draft) (plan : Plan) (found : Option (ℕ × FirstBreak)) (at : ℕ) (broken : FirstBreak) → found ≡ Some (at, broken)
    → IfSome found (λ illegal. IsFirstIllegal draft plan illegal.0 illegal.1) → IsFirstIllegal draft plan at broken
first_of draft plan found at broken is told =
    subst (λ (o : Option (ℕ × FirstBreak)). IfSome o (λ illegal. IsFirstIllegal draft plan illegal.0 illegal.1)) is told

pub first_other_table-requires : goal.first_other_table-requires
first_other_table-requires c =
    nets-in_range c.args.project.now c.args.plan.now c.requires.sets c.deref.result.now
    (nets_are c.args.plan.now.sets c.as_slice.result.now c.deref.result.now c.in_ok-nets.nets.items c.deref.ensures.value c.in_ok-nets.ensures c.as_slice.ensures)

pub returns-in-Some-clause-fails : goal.returns-in-Some-clause-fails
returns-in-Some-clause-fails c =
    subst (TablesFailAt c.args.project.now c.args.plan.now) (sym c.in_ok-line.ensures)
    (line c.in-Some.at
    (subst (λ (l : List TableLine). DifferFirst (IsTableFor c.args.project.now) (nets_with_sets c.args.plan.now) l c.in-Some.at) c.as_slice-2.ensures
    (subst (λ (l : List ℕ). DifferFirst (IsTableFor c.args.project.now) l c.as_slice-2.result.now c.in-Some.at)
    (nets_are c.args.plan.now.sets c.as_slice.result.now c.deref.result.now c.in_ok-nets.nets.items c.deref.ensures.value c.in_ok-nets.ensures c.as_slice.ensures)
    c.in-Some.ensures.fails)))

pub returns-clause-fails : goal.returns-clause-fails
returns-clause-fails c =
    illegal_fails c.args.project.now c.args.plan.now c.in-Some-2.at c.in-Some-2.broken _
    (subst (λ (l : List TableLine). Agree (IsTableFor c.args.project.now) (nets_with_sets c.args.plan.now) l) c.as_slice-2.ensures
    (subst (λ (l : List ℕ). Agree (IsTableFor c.args.project.now) l c.as_slice-2.result.now)
    (nets_are c.args.plan.now.sets c.as_slice.result.now c.deref.result.now c.in_ok-nets.nets.items c.deref.ensures.value c.in_ok-nets.ensures c.as_slice.ensures)
    c.in_default.ensures.holds))
    (first_of c.args.project.now c.args.plan.now c.in_ok-at.field-0 c.in-Some-2.at c.in-Some-2.broken c.in-Some-2.is c.in_ok-at.ensures.fails)
    (ap (λ (s : Spot). record s { b = c.in-Some-2.broken.mask; c = c.in-Some-2.broken.node.0 }) c.in_ok-table.ensures)
