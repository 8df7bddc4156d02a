-- The first printed table that isn't legal.
use Rattle.std.specs.Prelude.{ℕ, Ok, Err, Some, ◌≡◌, slice_get}
use Rattle.loom_potential.specs.declared.first_break.FirstBreak.{FirstBreak}
use Rattle.loom_project.specs.declared.draft.Draft.{Draft}
use Rattle.loom_types.specs.declared.plan.Plan.{Plan}
use Rattle.loom_types.specs.declared.plan.TableLine.{TableLine}
use Rattle.loom_audit.specs.FirstFailure.{EachBefore}
use Rattle.loom_audit.specs.TableRule.{break_of}

-- the table at a position breaks this inequality first, and none before it breaks one
pub record IsFirstIllegal (draft : Draft) (plan : Plan) (at : ℕ) (found : FirstBreak) : Type 0 where
  pub line : TableLine
  pub stands : slice_get plan.tables at ≡ Some line
  pub breaks : break_of draft line ≡ Err found
  pub before : EachBefore (λ i line. break_of draft line ≡ Ok tt) plan.tables at
