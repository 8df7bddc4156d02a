-- Answers of which a document tells everything, and the law that these are read back.
use Rattle.std.specs.Prelude.{◌≡◌, ◌⊎◌, ℕ, ◌≤◌, List, [], length, Bool, true, false, codes, Some, Ok, ⊤}
use Rattle.std.specs.List.{All}
use Rattle.loom_base.specs.declared.limits.TheConstants.{MAX_ELEMENTS}
use Rattle.loom_project.specs.declared.draft.Draft.{Draft}
use Rattle.loom_project.specs.declared.draft.SegmentDraft.{SegmentDraft}
use Rattle.loom_project.specs.declared.draft.NetDraft.{NetDraft}
use Rattle.loom_project.specs.Sound.{draft_check}
use Rattle.loom_rules.specs.declared.finding.Finding.{Finding}
use Rattle.loom_rules.specs.declared.report.Report.{Report}
use Rattle.loom_types.specs.declared.plan.Plan.{Plan}
use Rattle.loom_json.specs.Text.{line_of}
use Rattle.loom_answer.specs.Answer.{answer_of}
use Rattle.loom_answer.specs.declared.outcome.Outcome.{Outcome}
use Rattle.loom_answer.specs.Readable.{IsWide, IsReadable}
use Rattle.loom_reader.specs.declared.document.Document.{Document}
use Rattle.loom_reader.specs.declared.want.Want.TheVariants as wants
use Rattle.loom_reader.specs.Parts.{has_classes}
use Rattle.loom_reader.specs.Document.{document_of}
use Rattle.loom_reader.specs.Written.{IsWrittenDraft}
use Rattle.loom_reader.specs.WrittenOutcomes.{IsWrittenOutcome}

-- the first version can't tell what a segment bars or reserves
abbrev pub SegmentFits : Bool → SegmentDraft → Type 0
SegmentFits true segment = ⊤
SegmentFits false segment = (segment.bars ≡ []) × (segment.reserved ≡ [])

-- the first version can't tell another class of a net than the standard one
abbrev pub NetFits : Bool → NetDraft → Type 0
NetFits true net = ⊤
NetFits false net = net.class ≡ codes "std"

-- a draft that the second version tells, or the first
pub record DraftFits (second : Bool) (draft : Draft) : Type 0 where
  pub segments : All (SegmentFits second) draft.segments
  pub nets : All (NetFits second) draft.nets

-- a finding with numbers of at most 64 bits
pub record IsToldFinding (found : Finding) : Type 0 where
  pub first : IsWide found.first
  pub second : IsWide found.second
  pub third : IsWide found.third

-- a report with numbers of at most 64 bits
pub record IsToldReport (report : Report) : Type 0 where
  pub kind : IsWide report.kind
  pub limit : IsWide report.limit
  pub findings : All IsToldFinding report.findings

-- an answer of which a document tells everything; its line has no more bytes than an array may have elements
pub record IsTold (version : ℕ) (outcomes : List Outcome) (plan : Plan) (draft : Draft) (reports : List Report) : Type 0 where
  pub known : (version ≡ 1) ⊎ (version ≡ 2)
  pub written : IsWrittenDraft draft
  pub fits : DraftFits (has_classes version) draft
  pub sound : draft_check draft ≡ Ok tt
  pub became : All IsWrittenOutcome outcomes
  pub readable : IsReadable plan
  pub judged : All IsToldReport reports
  pub few : length (line_of (answer_of version outcomes plan draft reports)) ≤ MAX_ELEMENTS

-- the document that is read for a check, with nothing but a version, a project and a plan
abbrev pub checked_document : ℕ → Draft → Plan → Document
checked_document version draft plan = record { version = version; project = draft; entries = []; limits = []; choice = []; plan = Some plan; between = [] }

-- the line of each answer that is told in full is read for a check as its version, project and plan
abbrev pub AnswersAreReadBack : Type 0
AnswersAreReadBack =
    (version : ℕ) (outcomes : List Outcome) (plan : Plan) (draft : Draft) (reports : List Report) → IsTold version outcomes plan draft reports
    → document_of wants.Check (line_of (answer_of version outcomes plan draft reports)) ≡ Ok (checked_document version draft plan)
