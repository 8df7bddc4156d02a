-- The line of an answer is read as its version, its project and its plan.
use Rattle.std.proofs.Common.{◌≡◌, ℕ, suc, List, [], ◌∷◌, Bool, true, false, Some, Ok, Err, map, inl, inr, refl, sym, ap, ◌∙◌, subst, arith, ◌⊎◌}
use Rattle.std.specs.Option.{option_map_or}
use Rattle.std.specs.List.{All}
use Rattle.std.proofs.lemmas.List.Elements.{All-head, All-tail}
use Rattle.serde_json.specs.Data.{Data}
use Rattle.serde_json.specs.View.{items_of}
use Rattle.loom_json.specs.Text.{line_of}
use Rattle.loom_project.specs.declared.draft.Draft.{Draft}
use Rattle.loom_project.specs.Sound.{draft_check}
use Rattle.loom_rules.specs.declared.finding.Finding.{Finding}
use Rattle.loom_rules.specs.declared.report.Report.{Report}
use Rattle.loom_types.specs.declared.plan.Plan.{Plan}
use Rattle.loom_answer.specs.Answer.{answer_of}
use Rattle.loom_answer.specs.declared.outcome.Outcome.{Outcome}
use Rattle.loom_answer.specs.Plans.{plan_shown}
use Rattle.loom_answer.specs.PlanForms.{plan_form}
use Rattle.loom_answer.proofs.PlanAgain.{plan_again}
use Rattle.loom_answer.specs.Reports.{finding_shown, report_shown}
use Rattle.loom_reader.specs.declared.fault.ReadFault.TheVariants.{NotJson}
use Rattle.loom_reader.specs.declared.outline.Outline.{Outline}
use Rattle.loom_reader.specs.declared.want.Want.TheVariants as wants
use Rattle.loom_reader.specs.Document.{outline_form, wanted_form, checked, shaped, document_of}
use Rattle.loom_reader.specs.Parts.{has_classes}
use Rattle.loom_reader.proofs.Plain.{IsPlain, ItemsArePlain}
use Rattle.loom_reader.proofs.Lines.{read_json-line_of}
use Rattle.loom_reader.proofs.ProjectTold.{version_of, project_told}
use Rattle.loom_reader.proofs.PlanPlain.{plan_plain}
use Rattle.loom_reader.proofs.OutcomePlain.{outcomes_plain}
use Rattle.loom_reader.specs.WrittenOutcomes.{IsWrittenOutcome}
use Rattle.loom_reader.proofs.SoundTold.{sound_told}
use Rattle.loom_reader.specs.ReadBack.{DraftFits, IsToldFinding, IsToldReport, IsTold, checked_document, AnswersAreReadBack}
use Rattle.loom_reader.proofs.ToldParts.{IsToldDraft}
use Rattle.loom_reader.proofs.Widths.{ReservesFew, reserves_few}
use Rattle.loom_base.specs.declared.limits.TheConstants.{MAX_ELEMENTS}
use Rattle.std.proofs.Common.{length, ◌≤◌}

finding_plain : (n : ℕ) (found : Finding) → IsToldFinding found → IsPlain (finding_shown found) (suc n)
finding_plain n found is = (omega (arith, is.first), (omega (arith, is.second), (omega (arith, is.third), tt)))

findings_plain : (n : ℕ) (xs : List Finding) → All IsToldFinding xs → ItemsArePlain (items_of (map finding_shown xs)) (suc n)
findings_plain n [] all = tt
findings_plain n (x ∷ xs) all = (finding_plain n x (All-head IsToldFinding x xs all), findings_plain n xs (All-tail IsToldFinding x xs all))

report_plain : (n : ℕ) (report : Report) → IsToldReport report → IsPlain (report_shown report) (suc (suc (suc n)))
report_plain n report is = (refl, (findings_plain n report.findings is.findings, (omega (arith, is.kind), (omega (arith, is.limit), tt))))

reports_plain : (n : ℕ) (xs : List Report) → All IsToldReport xs → ItemsArePlain (items_of (map report_shown xs)) (suc (suc (suc n)))
reports_plain n [] all = tt
reports_plain n (x ∷ xs) all = (report_plain n x (All-head IsToldReport x xs all), reports_plain n xs (All-tail IsToldReport x xs all))

module _ (outcomes : List Outcome) (plan : Plan) (draft : Draft) (reports : List Report) where
  abbrev told_outline : Bool → Outline
  told_outline second = record { version = version_of second; draft = draft; entries = []; wanted = record { limits = []; choice = []; plan = Some plan; between = [] } }

  abbrev answer_shown : Bool → Data
  answer_shown second = answer_of (version_of second) outcomes plan draft reports

  answer_plain : (second : Bool) → IsToldDraft draft → DraftFits second draft → All IsWrittenOutcome outcomes → All IsToldReport reports → IsPlain (plan_shown plan) 126 → IsPlain (answer_shown second) 127
  answer_plain true is fits became report planned =
      (refl, (outcomes_plain 123 outcomes became, (planned, ((project_told true 121 draft (omega arith) is fits).plain, (reports_plain 122 reports report, (omega arith, tt))))))
  answer_plain false is fits became report planned =
      (refl, (outcomes_plain 123 outcomes became, (planned, ((project_told false 121 draft (omega arith) is fits).plain, (reports_plain 122 reports report, (omega arith, tt))))))

  answer_outline : (second : Bool) → IsToldDraft draft → DraftFits second draft → plan_form (plan_shown plan) ≡ Ok plan → outline_form wants.Check (answer_shown second) ≡ Ok (told_outline second)
  unfolding outline_form wanted_form
  answer_outline true is fits planned = rw ((project_told true 121 draft (omega arith) is fits).again, planned)
  answer_outline false is fits planned = rw ((project_told false 121 draft (omega arith) is fits).again, planned)

  answer_read : (second : Bool) → IsToldDraft draft → DraftFits second draft → draft_check draft ≡ Ok tt → All IsWrittenOutcome outcomes → All IsToldReport reports → plan_form (plan_shown plan) ≡ Ok plan → IsPlain (plan_shown plan) 126
      → document_of wants.Check (line_of (answer_shown second)) ≡ Ok (checked_document (version_of second) draft plan)
  unfolding document_of
  answer_read second is fits sound became report planned plain =
      ap (λ found. option_map_or (λ d. shaped (outline_form wants.Check d)) found (Err NotJson))
      (read_json-line_of (answer_shown second) 127 (answer_plain second is fits became report plain) (omega arith))
      ∙ ap shaped (answer_outline second is fits planned)
      ∙ ap (checked (told_outline second)) sound

-- what the first version tells reserves nothing
none_reserved : (draft : Draft) → DraftFits false draft → All (ReservesFew MAX_ELEMENTS) draft.segments
none_reserved draft fits k segment in_list price pins kind = subst (λ (pins : List ℕ). length pins ≤ MAX_ELEMENTS) (sym (fits.segments k segment in_list).1) (omega arith)

version_read : (version : ℕ) (outcomes : List Outcome) (plan : Plan) (draft : Draft) (reports : List Report) → (version ≡ 1) ⊎ (version ≡ 2) → IsTold version outcomes plan draft reports
    → document_of wants.Check (line_of (answer_of version outcomes plan draft reports)) ≡ Ok (checked_document version draft plan)
version_read version outcomes plan draft reports (inl first) told =
    let fits : DraftFits false draft = subst (λ (v : ℕ). DraftFits (has_classes v) draft) first told.fits in
    subst (λ (v : ℕ). document_of wants.Check (line_of (answer_of v outcomes plan draft reports)) ≡ Ok (checked_document v draft plan)) (sym first)
    (answer_read outcomes plan draft reports false (sound_told draft told.sound (none_reserved draft fits) told.written) fits told.sound told.became told.judged (plan_again plan told.readable) (plan_plain 121 plan told.readable))
version_read version outcomes plan draft reports (inr second) told =
    let fits : DraftFits true draft = subst (λ (v : ℕ). DraftFits (has_classes v) draft) second told.fits in
    let few : length (line_of (answer_of 2 outcomes plan draft reports)) ≤ MAX_ELEMENTS = subst (λ (v : ℕ). length (line_of (answer_of v outcomes plan draft reports)) ≤ MAX_ELEMENTS) second told.few in
    subst (λ (v : ℕ). document_of wants.Check (line_of (answer_of v outcomes plan draft reports)) ≡ Ok (checked_document v draft plan)) (sym second)
    (answer_read outcomes plan draft reports true (sound_told draft told.sound (reserves_few MAX_ELEMENTS outcomes plan draft reports few) told.written) fits told.sound told.became told.judged (plan_again plan told.readable) (plan_plain 121 plan told.readable))

pub answers_read : AnswersAreReadBack
answers_read version outcomes plan draft reports told = version_read version outcomes plan draft reports told.known told
