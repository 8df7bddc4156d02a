use Rattle.std.specs.Prelude.{ℕ, List, map, codes, ◌==◌}
use Rattle.serde_json.specs.Data.{Data, object, put, no_members}
use Rattle.loom_types.specs.declared.plan.Plan.{Plan}
use Rattle.loom_project.specs.declared.draft.Draft.{Draft}
use Rattle.loom_rules.specs.declared.report.Report.{Report}
use Rattle.loom_json.specs.Fields.{array_of}
use Rattle.loom_answer.specs.declared.outcome.Outcome.{Outcome}
use Rattle.loom_answer.specs.Values.{whole}
use Rattle.loom_answer.specs.Outcomes.{outcome_shown}
use Rattle.loom_answer.specs.Plans.{plan_shown}
use Rattle.loom_answer.specs.Projects.{project_shown}
use Rattle.loom_answer.specs.Reports.{report_shown}

-- the answer that has the outcomes of edits in their order, a plan, the project that it is for, and the reports of design rules; the project of version 2 stands in the forms of the second version, that of any other in those of the first
abbrev pub answer_of : ℕ → List Outcome → Plan → Draft → List Report → Data
answer_of version outcomes plan project reports = object
    (put (codes "version") (whole version)
    (put (codes "reports") (array_of (map report_shown reports))
    (put (codes "project") (project_shown (version == 2) project)
    (put (codes "plan") (plan_shown plan)
    (put (codes "outcomes") (array_of (map outcome_shown outcomes))
    no_members)))))
