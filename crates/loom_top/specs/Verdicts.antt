-- What is said of a document's plan, and how it is printed.
use Rattle.std.specs.Prelude.{ℕ, List, [], ◌∷◌, Some, codes, ◌≡◌, ◌≢◌}
use Rattle.serde_json.specs.Data.{Data, object, put, no_members, string}
use Rattle.loom_json.specs.Fields.{array_of}
use Rattle.loom_json.specs.Text.{line_of}
use Rattle.loom_project.specs.declared.draft.Draft.{Draft}
use Rattle.loom_types.specs.declared.plan.Plan.{Plan}
use Rattle.loom_types.specs.declared.stop.PlanStop.{PlanStop}
use Rattle.loom_types.specs.declared.stop.PlanStop.TheVariants as stops
use Rattle.loom_active.specs.declared.stop.ActiveStop.{ActiveStop}
use Rattle.loom_active.specs.declared.stop.ActiveStop.TheVariants as active
use Rattle.loom_active.specs.RightPlan.{IsRight}
use Rattle.loom_audit.specs.declared.spot.PlanPart.{PlanPart}
use Rattle.loom_audit.specs.declared.spot.PlanPart.TheVariants as parts
use Rattle.loom_audit.specs.declared.spot.Spot.{Spot}
use Rattle.loom_check.specs.declared.verdict.Verdict.{Verdict}
use Rattle.loom_check.specs.declared.verdict.Verdict.TheVariants.{Yes, No}
use Rattle.loom_check.specs.Verdict.{PassesAll, FailsFirst, StopsCheck}
use Rattle.loom_plan.specs.FirstStop.{HasPlan}
use Rattle.loom_plan.specs.PlanOf.{IsPlanOf}
use Rattle.loom_answer.specs.Values.{whole}
use Rattle.loom_answer.specs.Stops.{IsNameable, named_of}
use Rattle.loom_answer.specs.declared.named_stop.NamedStop.{NamedStop}
use Rattle.loom_reader.specs.declared.document.Document.{Document}
use Rattle.loom_top.specs.Entries.{project_after}
use Rattle.loom_top.specs.declared.reply.ReplyKind.{ReplyKind}
use Rattle.loom_top.specs.declared.reply.ReplyKind.TheVariants as kinds

abbrev pub part_name : PlanPart → List ℕ
part_name parts.Rows = codes "rows"
part_name parts.Sets = codes "sets"
part_name parts.Tables = codes "tables"
part_name parts.Pins = codes "pins"
part_name parts.Wires = codes "wires"
part_name parts.Modules = codes "modules"

-- how a place in a plan is printed
abbrev pub spot_shown : Spot → Data
spot_shown spot = array_of (string (part_name spot.part) ∷ whole spot.a ∷ whole spot.b ∷ whole spot.c ∷ [])

-- yes; or no, the first rule that fails, and its first place
abbrev pub answer_shown : Verdict → Data
answer_shown Yes = object (put (codes "answer") (string (codes "yes")) no_members)
answer_shown (No rule place) = object
    (put (codes "rule") (whole rule)
    (put (codes "place") (spot_shown place)
    (put (codes "answer") (string (codes "no"))
    no_members)))

-- what is printed of a verdict
abbrev pub verdict_shown : Verdict → Data
verdict_shown verdict = object
    (put (codes "version") (whole 1)
    (put (codes "verdict") (answer_shown verdict)
    no_members))

-- what kind of reply tells a verdict
abbrev pub kind_of_verdict : Verdict → ReplyKind
kind_of_verdict Yes = kinds.Done
kind_of_verdict (No rule place) = kinds.CheckedNo

-- a stop of judging as one of planning, by which it is printed
abbrev pub as_plan_stop : ActiveStop → PlanStop
as_plan_stop active.NoChoice = stops.NoChoice
as_plan_stop (active.Clash cavity first second choice) = stops.Clash cavity first second choice
as_plan_stop (active.Limit which count) = stops.Limit which count
as_plan_stop active.NoMemory = stops.NoMemory

-- the plan is what planning the project answers
abbrev pub IsOwn : Draft → Plan → Type 0
IsOwn draft plan = HasPlan draft × IsPlanOf draft plan

-- the line says yes to a document's plan, of which all nine rules hold, and which is right, for its project after the entries
pub record IsYesAnswer (document : Document) (line : List ℕ) : Type 0 where
  pub plan : Plan
  pub printed : document.plan ≡ Some plan
  pub passes : PassesAll (project_after document) plan
  pub right : IsRight (project_after document) plan
  pub line_is : line ≡ line_of (verdict_shown Yes)

-- the line says no to a document's plan, with the first rule that fails and its first place. It isn't what planning the project answers
pub record IsNoAnswer (document : Document) (line : List ℕ) : Type 0 where
  pub plan : Plan
  pub printed : document.plan ≡ Some plan
  pub rule : ℕ
  pub place : Spot
  pub fails : FailsFirst (project_after document) plan rule place
  pub foreign : IsOwn (project_after document) plan → ⊥
  pub line_is : line ≡ line_of (verdict_shown (No rule place))

-- the judging of a document's plan stops, and this tells how by the project's names. It isn't what planning the project answers
pub record IsUnjudged (document : Document) (named : NamedStop) : Type 0 where
  pub plan : Plan
  pub printed : document.plan ≡ Some plan
  pub stop : ActiveStop
  pub other : stop ≢ active.NoMemory
  pub stops : StopsCheck (project_after document) plan stop
  pub foreign : IsOwn (project_after document) plan → ⊥
  pub nameable : IsNameable (project_after document) (as_plan_stop stop)
  pub named_is : named ≡ named_of (project_after document) (as_plan_stop stop)
