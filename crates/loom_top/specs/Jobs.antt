-- What the program can be asked to do with a document: what refuses one that was read, when there is an answer, and which line is one.
use Rattle.std.specs.List.{AllZip}
use Rattle.std.specs.Prelude.{ℕ, Bool, List, Some, None, Ok, Err, ◌≡◌, ◌≢◌}
use Rattle.loom_json.specs.Text.{line_of}
use Rattle.loom_formula.specs.declared.choice.ChoiceFault.TheVariants as choices
use Rattle.loom_formula.specs.Choice.{choice_at, choice_of}
use Rattle.loom_project.specs.declared.draft.Draft.{Draft}
use Rattle.loom_types.specs.declared.plan.Plan.{Plan}
use Rattle.loom_types.specs.declared.stop.PlanStop.{PlanStop}
use Rattle.loom_active.specs.RightPlan.{IsRight}
use Rattle.loom_rules.specs.declared.report.Report.{Report}
use Rattle.loom_rules.specs.Judged.{Asked, asked, IsReportOf}
use Rattle.loom_answer.specs.declared.outcome.Outcome.{Outcome}
use Rattle.loom_answer.specs.Answer.{answer_of}
use Rattle.loom_answer.specs.Stops.{IsNameable, named_of}
use Rattle.loom_plan.specs.FirstStop.{FirstStop, HasPlan}
use Rattle.loom_plan.specs.PlanOf.{IsPlanOf}
use Rattle.loom_extract.specs.Variant.{first_false, live_positions}
use Rattle.loom_reader.specs.declared.document.Document.{Document}
use Rattle.loom_reader.specs.declared.want.Want.{Want}
use Rattle.loom_reader.specs.declared.want.Want.TheVariants as wants
use Rattle.loom_top.specs.Entries.{fresh, project_after, AreOutcomes}
use Rattle.loom_check.specs.Verdict.{PassesAll}
use Rattle.loom_top.specs.Variants.{variant_shown}
use Rattle.loom_top.specs.Verdicts.{IsYesAnswer, IsNoAnswer, IsUnjudged}
use Rattle.loom_top.specs.declared.job.DocumentJob.{DocumentJob}
use Rattle.loom_top.specs.declared.job.DocumentJob.TheVariants as jobs
use Rattle.loom_top.specs.declared.refusal.Refusal.{Refusal}
use Rattle.loom_top.specs.declared.refusal.Refusal.TheVariants as refusals

-- what of a document a job needs
abbrev pub want_of : DocumentJob → Want
want_of jobs.Plan = wants.Plan
want_of jobs.Extract = wants.Extract
want_of jobs.Check = wants.Check

-- the values of a choice of the project's options obey its rules
abbrev pub Obeys : Draft → List Bool → Type 0
Obeys project values = first_false project.rules project.options (choice_at values) ≡ None

-- why a document is refused after it was read: planning its project, as its entries leave it, stops, and the first stop is told by that
-- project's names; a name makes no choice of that project's options; or the choice breaks a rule of it, and the first one is told; or the
-- judging of its plan stops, and the stop is told by the project's names
abbrev pub IsRefused : DocumentJob → Document → Refusal → Type 0
IsRefused jobs.Plan document (refusals.Plan named) =
    (stop : PlanStop) × FirstStop (project_after document) stop × IsNameable (project_after document) stop
    × (named ≡ named_of (project_after document) stop)
IsRefused jobs.Plan document (refusals.Choice fault) = ⊥
IsRefused jobs.Plan document (refusals.BrokenRule rule) = ⊥
IsRefused jobs.Extract document (refusals.Plan named) = ⊥
IsRefused jobs.Extract document (refusals.Choice fault) =
    (fault ≢ choices.NoMemory) × (choice_of (project_after document).options document.choice ≡ Err fault)
IsRefused jobs.Extract document (refusals.BrokenRule rule) =
    (values : List Bool) × (choice_of (project_after document).options document.choice ≡ Ok values)
    × (first_false (project_after document).rules (project_after document).options (choice_at values) ≡ Some rule)
IsRefused jobs.Check document (refusals.Plan named) = IsUnjudged document named
IsRefused jobs.Check document (refusals.Choice fault) = ⊥
IsRefused jobs.Check document (refusals.BrokenRule rule) = ⊥
IsRefused job document refusals.TooLong = ⊥
IsRefused job document refusals.NotJson = ⊥
IsRefused job document (refusals.WrongShape path) = ⊥
IsRefused job document (refusals.Project fault) = ⊥
IsRefused job document (refusals.Limit which count) = ⊥

-- there is an answer to a document: its project has a plan after its entries; or its choice names options, each once, and obeys the rules
abbrev pub HasAnswer : DocumentJob → Document → Type 0
HasAnswer jobs.Plan document = HasPlan (project_after document)
HasAnswer jobs.Extract document =
    (values : List Bool) × (choice_of (project_after document).options document.choice ≡ Ok values)
    × Obeys (project_after document) values
HasAnswer jobs.Check document = (plan : Plan) × (document.plan ≡ Some plan) × PassesAll (project_after document) plan

-- the line has what became of each entry, a plan of the document's project after them, which is right, that project, and for each rule
-- under the document's limits the report over the plan's wires
pub record IsPlanAnswer (rules : List Asked) (document : Document) (line : List ℕ) : Type 0 where
  pub outcomes : List Outcome
  pub told : AreOutcomes (fresh document.project) document.entries outcomes
  pub plan : Plan
  pub planned : IsPlanOf (project_after document) plan
  pub right : IsRight (project_after document) plan
  pub reports : List Report
  pub reported : AllZip (IsReportOf plan.wires) (asked document.limits rules) reports
  pub line_is : line ≡ line_of (answer_of document.version outcomes plan (project_after document) reports)

-- the line has exactly the wires of the document's plan that are live under its choice, which obeys the rules of the project after the
-- entries, with their positions
pub record IsVariantAnswer (document : Document) (line : List ℕ) : Type 0 where
  pub values : List Bool
  pub chosen : choice_of (project_after document).options document.choice ≡ Ok values
  pub obeyed : Obeys (project_after document) values
  pub plan : Plan
  pub printed : document.plan ≡ Some plan
  pub line_is : line ≡ line_of (variant_shown plan (live_positions plan (choice_at values)))

-- the line answers a document
abbrev pub IsAnswer : List Asked → DocumentJob → Document → List ℕ → Type 0
IsAnswer rules jobs.Plan document line = IsPlanAnswer rules document line
IsAnswer rules jobs.Extract document line = IsVariantAnswer document line
IsAnswer rules jobs.Check document line = IsYesAnswer document line

-- the line says no to a document; only judging does
abbrev pub IsDenial : DocumentJob → Document → List ℕ → Type 0
IsDenial jobs.Plan document line = ⊥
IsDenial jobs.Extract document line = ⊥
IsDenial jobs.Check document line = IsNoAnswer document line
