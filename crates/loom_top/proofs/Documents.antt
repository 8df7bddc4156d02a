-- What the reading of bytes says of them, and of the reply that they get.
use Rattle.std.proofs.Common.{IfOk, IfSome, ◌≡◌, ◌≢◌, ℕ, ◌≤◌, Bool, true, false, List, Option, Some, None, Result, Ok, Err, length, refl, sym, ◌∙◌, ap, subst, arith}
use Rattle.std.specs.Prelude.{⊤, if◌then◌else◌, nat_le}
use Rattle.std.specs.Option.{option_map_or}
use Rattle.loom_base.specs.declared.limits.Which.{Which}
use Rattle.loom_base.specs.Streams.{Takes}
use Rattle.loom_base.proofs.StreamLemmas.{takes_known}
use Rattle.serde_json.specs.Data.{Data}
use Rattle.loom_json.specs.Text.{line_of, read_json}
use Rattle.loom_formula.specs.declared.choice.ChoiceFault.{ChoiceFault}
use Rattle.loom_formula.specs.Choice.{choice_at, choice_of}
use Rattle.loom_project.specs.declared.draft.Draft.{Draft}
use Rattle.loom_project.specs.declared.fault.ProjectFault.{ProjectFault}
use Rattle.loom_project.specs.Sound.{draft_check}
use Rattle.loom_reader.specs.declared.document.Document.{Document}
use Rattle.loom_reader.specs.declared.fault.ReadFault.{ReadFault}
use Rattle.loom_reader.specs.declared.fault.ReadFault.TheVariants as faults
use Rattle.loom_reader.specs.declared.fault.ReadFault.TheVariants.{NotJson}
use Rattle.loom_reader.specs.declared.outline.Outline.{Outline}
use Rattle.loom_reader.specs.declared.want.Want.{Want}
use Rattle.loom_base.specs.declared.limits.Which.TheVariants as limits
use Rattle.loom_reader.specs.Document.{document_of, document_at, shaped, checked, outline_form}
use Rattle.loom_types.specs.declared.stop.PlanStop.{PlanStop}
use Rattle.loom_types.specs.declared.stop.PlanStop.TheVariants as stops
use Rattle.loom_rules.specs.Judged.{Asked}
use Rattle.loom_answer.specs.Stops.{IsNameable}
use Rattle.loom_answer.specs.declared.named_stop.NamedStop.{NamedStop}
use Rattle.loom_plan.specs.StopsLaw.{PlanExcludesStops}
use Rattle.loom_extract.specs.Variant.{first_false}
use Rattle.loom_top.specs.Entries.{project_after}
use Rattle.loom_top.specs.Refusals.{refusal_shown}
use Rattle.loom_types.specs.declared.plan.Plan.{Plan}
use Rattle.loom_check.specs.Verdict.{PassesAll}
use Rattle.loom_accord.specs.Laws.{PassingNeverFails, PassingNeverStops}
use Rattle.loom_top.specs.Jobs.{want_of, Obeys, IsRefused, HasAnswer, IsDenial}
use Rattle.loom_top.specs.Verdicts.{IsOwn, IsNoAnswer, IsUnjudged}
use Rattle.loom_top.specs.Replies.{Accepts, HasOwnPlan, IsRead, Refuses, IsReply}
use Rattle.loom_top.specs.RepliesInside.{IsReplyTo}
use Rattle.loom_top.specs.declared.job.DocumentJob.{DocumentJob}
use Rattle.loom_top.specs.declared.job.DocumentJob.TheVariants as jobs
use Rattle.loom_top.specs.declared.reply.Reply.{Reply}
use Rattle.loom_top.specs.declared.reply.ReplyKind.{ReplyKind}
use Rattle.loom_top.specs.declared.reply.ReplyKind.TheVariants as kinds
use Rattle.loom_top.specs.declared.refusal.Refusal.{Refusal}
use Rattle.loom_top.specs.declared.refusal.Refusal.TheVariants as refusals
use Rattle.loom_top.specs.declared.refusal.Refusal.TheVariants.{TooLong}

abbrev pub Reading : Type 0
Reading = Result Document ReadFault

limited_is_json : (few : Bool) (outline : Outline) → ◌≢◌ {A = Reading} (if few then Ok (document_at outline) else Err (faults.Limit limits.Edits 4097)) (Err NotJson)
limited_is_json true outline h = absurd (cc)
limited_is_json false outline h = absurd (cc)

checked_is_json : (outline : Outline) (check : Result ⊤ ProjectFault) → checked outline check ≢ Err NotJson
checked_is_json outline (Ok passed) h = limited_is_json (nat_le (length outline.entries) 4096) outline h
checked_is_json outline (Err failure) h = absurd (cc)

-- a value that has a form to be looked at isn't refused as no JSON text
shaped_is_json : (outline : Result Outline (List ℕ)) → shaped outline ≢ Err NotJson
shaped_is_json (Ok outline) h = checked_is_json outline (draft_check outline.draft) h
shaped_is_json (Err path) h = absurd (cc)

abbrev pub reading_of : Want → Option Data → Reading
reading_of want json = option_map_or (λ d. shaped (outline_form want d)) json (Err NotJson)

some_json : (want : Want) (json : Option Data) (reading : Reading) → reading ≢ Err NotJson → reading_of want json ≡ reading → (d : Data) × (json ≡ Some d)
some_json want None reading other h = absurd (other (sym h))
some_json want (Some d) reading other h = (d, refl)

none_json : (want : Want) (json : Option Data) → reading_of want json ≡ Err NotJson → json ≡ None
none_json want None h = refl
none_json want (Some d) h = absurd (shaped_is_json (outline_form want d) h)

-- bytes that are read, or fail later, are a JSON text
json_of : (want : Want) (input : List ℕ) (reading : Reading) → reading ≢ Err NotJson → document_of want input ≡ reading → (d : Data) × (read_json input ≡ Some d)
unfolding document_of
json_of want input reading other h = some_json want (read_json input) reading other h

-- bytes that fail so are none
no_json_of : (want : Want) (input : List ℕ) → document_of want input ≡ Err NotJson → read_json input ≡ None
unfolding document_of
no_json_of want input h = none_json want (read_json input) h

abbrev pub or_else : {A E : Type 0} → A → Result A E → A
or_else other (Ok value) = value
or_else other (Err fault) = other

same_value : {A E : Type 0} (a b : A) (result : Result A E) → result ≡ Ok a → result ≡ Ok b → a ≡ b
same_value a b result h k = ap (or_else a) (sym h ∙ k)

document_is_no_fault : (document : Document) (fault : ReadFault) → Ok document ≢ Err fault
document_is_no_fault document fault h = absurd (cc)

values_are_no_fault : (values : List Bool) (fault : ChoiceFault) (made : Result (List Bool) ChoiceFault) → made ≡ Ok values → made ≡ Err fault → ⊥
values_are_no_fault values fault made is fails = absurd (cc)

none_is_not_some : (found : Option ℕ) (rule : ℕ) → found ≡ None → found ≡ Some rule → ⊥
none_is_not_some found rule none some = absurd (cc)

-- what a refusal's line replies to
pub reply_refuses : (rules : List Asked) (job : DocumentJob) (input line : List ℕ) (kind : ReplyKind) (refusal : Refusal) → Refuses job input refusal
    → kind ≡ kinds.Refused → line ≡ line_of (refusal_shown refusal) → IsReply rules job input kind line
reply_refuses rules job input line kind refusal refused refuses line_is =
    let declines : IsReply rules job input kinds.Refused line = (refusal, refused, line_is) in
    subst (λ (k : ReplyKind). IsReply rules job input k line) (sym refuses) declines

-- the reply that refuses bytes
pub bytes_refused : {E : Type 0} (rules : List Asked) (job : DocumentJob) (input : List ℕ) (refusal : Refusal) (result : Result Reply E) → Refuses job input refusal
    → IfOk result (λ reply. reply.kind ≡ kinds.Refused) → IfOk result (λ reply. reply.line ≡ line_of (refusal_shown refusal))
    → IfOk result (λ reply. IsReply rules job input reply.kind reply.line)
bytes_refused rules job input refusal (Ok reply) refused refuses line_is =
    reply_refuses rules job input reply.line reply.kind refusal refused refuses line_is
bytes_refused rules job input refusal (Err e) refused refuses line_is = _

-- the reply that refuses a document, whichever rules there are
pub refuses_document : (job : DocumentJob) (refusal : Refusal) (reply : Reply) → reply.kind ≡ kinds.Refused → reply.line ≡ line_of (refusal_shown refusal)
    → (document : Document) → IsRefused job document refusal → (rules : List Asked) → IsReplyTo rules job document reply
refuses_document job refusal reply refuses line_is document refused rules input read =
    reply_refuses rules job input reply.line reply.kind refusal (Refuses.not_answered document read refusal refused) refuses line_is

-- what is said of each refusing reply is said of a refusing result
pub of_refusing : {E : Type 0} (P : Reply → Type 0) (refusal : Refusal) (result : Result Reply E)
    → ((reply : Reply) → reply.kind ≡ kinds.Refused → reply.line ≡ line_of (refusal_shown refusal) → P reply)
    → IfOk result (λ reply. reply.kind ≡ kinds.Refused) → IfOk result (λ reply. reply.line ≡ line_of (refusal_shown refusal)) → IfOk result P
of_refusing P refusal (Ok reply) says refuses line_is = says reply refuses line_is
of_refusing P refusal (Err e) says refuses line_is = _

-- what is said of a reply whichever rules there are holds for some rules
pub under_rules : {E : Type 0} (rules : List Asked) (job : DocumentJob) (document : Document) (result : Result Reply E)
    → IfOk result (λ reply. (rules : List Asked) → IsReplyTo rules job document reply) → IfOk result (IsReplyTo rules job document)
under_rules rules job document (Ok reply) told = told rules
under_rules rules job document (Err e) told = _

-- want of memory has no name
pub nameable_stop : (draft : Draft) (stop : PlanStop) → stop ≡ stops.NoMemory → IsNameable draft stop → ⊥
nameable_stop draft stop e nameable = subst (IsNameable draft) e nameable

same_plan : (one other : Plan) (printed : Option Plan) → printed ≡ Some one → printed ≡ Some other → one ≡ other
same_plan one other printed first second = cc

-- the laws by which what is accepted is neither refused nor denied
pub record AcceptingLaws : Type 0 where
  pub planned : PlanExcludesStops
  pub fails : PassingNeverFails
  pub stops : PassingNeverStops

-- a plan that passes all rules is judged, and isn't said to fail
passing_is_judged : AcceptingLaws → (document : Document) (plan : Plan) → document.plan ≡ Some plan → PassesAll (project_after document) plan
    → (named : NamedStop) → IsUnjudged document named → ⊥
passing_is_judged laws document plan printed passes named unjudged =
    let same : plan ≡ unjudged.plan = same_plan plan unjudged.plan document.plan printed unjudged.printed in
    unjudged.other (laws.stops (project_after document) unjudged.plan
    (subst (λ (p : Plan). PassesAll (project_after document) p) same passes) unjudged.stop unjudged.stops)

passing_is_not_denied : AcceptingLaws → (document : Document) (plan : Plan) → document.plan ≡ Some plan → PassesAll (project_after document) plan
    → (line : List ℕ) → IsNoAnswer document line → ⊥
passing_is_not_denied laws document plan printed passes line denial =
    let same : plan ≡ denial.plan = same_plan plan denial.plan document.plan printed denial.printed in
    laws.fails (project_after document) denial.plan (subst (λ (p : Plan). PassesAll (project_after document) p) same passes) denial.rule denial.place
    denial.fails

-- what planning answers is judged, and isn't said to fail
own_is_judged : (document : Document) (plan : Plan) → document.plan ≡ Some plan → IsOwn (project_after document) plan
    → (refusal : Refusal) → IsRefused jobs.Check document refusal → ⊥
own_is_judged document plan printed own (refusals.Plan named) unjudged =
    unjudged.foreign (subst (λ (p : Plan). IsOwn (project_after document) p) (same_plan plan unjudged.plan document.plan printed unjudged.printed) own)
own_is_judged document plan printed own (refusals.Choice fault) refused = refused
own_is_judged document plan printed own (refusals.BrokenRule rule) refused = refused
own_is_judged document plan printed own TooLong refused = refused
own_is_judged document plan printed own refusals.NotJson refused = refused
own_is_judged document plan printed own (refusals.WrongShape path) refused = refused
own_is_judged document plan printed own (refusals.Project fault) refused = refused
own_is_judged document plan printed own (refusals.Limit which count) refused = refused

-- a document to which there is an answer isn't refused
not_refused : AcceptingLaws → (job : DocumentJob) (document : Document) → HasAnswer job document → (refusal : Refusal) → IsRefused job document refusal → ⊥
not_refused law jobs.Plan document plan (refusals.Plan stop) (first, is, nameable, same) =
    nameable_stop (project_after document) first (law.planned (project_after document) first plan is) nameable
not_refused law jobs.Plan document plan (refusals.Choice fault) refused = refused
not_refused law jobs.Plan document plan (refusals.BrokenRule rule) refused = refused
not_refused law jobs.Plan document plan TooLong refused = refused
not_refused law jobs.Plan document plan refusals.NotJson refused = refused
not_refused law jobs.Plan document plan (refusals.WrongShape path) refused = refused
not_refused law jobs.Plan document plan (refusals.Project fault) refused = refused
not_refused law jobs.Plan document plan (refusals.Limit which count) refused = refused
not_refused law jobs.Extract document answer (refusals.Plan stop) refused = refused
not_refused law jobs.Extract document (values, made, obeyed) (refusals.Choice fault) (other, fails) =
    values_are_no_fault values fault (choice_of (project_after document).options document.choice) made fails
not_refused law jobs.Extract document (values, made, obeyed) (refusals.BrokenRule rule) (others, made_too, broken) =
    let same : values ≡ others = same_value values others (choice_of (project_after document).options document.choice) made made_too in
    none_is_not_some (first_false (project_after document).rules (project_after document).options (choice_at others)) rule
    (subst (λ (v : List Bool). Obeys (project_after document) v) same obeyed) broken
not_refused law jobs.Extract document answer TooLong refused = refused
not_refused law jobs.Extract document answer refusals.NotJson refused = refused
not_refused law jobs.Extract document answer (refusals.WrongShape path) refused = refused
not_refused law jobs.Extract document answer (refusals.Project fault) refused = refused
not_refused law jobs.Extract document answer (refusals.Limit which count) refused = refused
not_refused law jobs.Check document (plan, printed, passes) (refusals.Plan named) unjudged =
    passing_is_judged law document plan printed passes named unjudged
not_refused law jobs.Check document answer (refusals.Choice fault) refused = refused
not_refused law jobs.Check document answer (refusals.BrokenRule rule) refused = refused
not_refused law jobs.Check document answer TooLong refused = refused
not_refused law jobs.Check document answer refusals.NotJson refused = refused
not_refused law jobs.Check document answer (refusals.WrongShape path) refused = refused
not_refused law jobs.Check document answer (refusals.Project fault) refused = refused
not_refused law jobs.Check document answer (refusals.Limit which count) refused = refused

-- nor is it denied
not_denied : AcceptingLaws → (job : DocumentJob) (document : Document) → HasAnswer job document → (line : List ℕ) → IsDenial job document line → ⊥
not_denied law jobs.Plan document answer line denies = denies
not_denied law jobs.Extract document answer line denies = denies
not_denied law jobs.Check document (plan, printed, passes) line denies = passing_is_not_denied law document plan printed passes line denies

-- the document that bytes are read as is one
same_document : (job : DocumentJob) (input : List ℕ) (one other : Document) → IsRead job input one → IsRead job input other → one ≡ other
same_document job input one other first second =
    same_value one other (document_of (want_of job) input) first.document_is second.document_is

-- bytes that are read as a document that isn't refused aren't refused
read_not_refused : (job : DocumentJob) (input : List ℕ) (document : Document) → IsRead job input document
    → ((refusal : Refusal) → IsRefused job document refusal → ⊥) → (refusal : Refusal) → Refuses job input refusal → ⊥
read_not_refused job input document read free refusal (Refuses.too_long long) = absurd (omega (arith, long, read.short))
read_not_refused job input document read free refusal (Refuses.not_json short none) =
    let json = json_of (want_of job) input (Ok document) (document_is_no_fault document NotJson) read.document_is in
    absurd (cc)
read_not_refused job input document read free refusal (Refuses.not_shaped short path fails) =
    document_is_no_fault document (faults.WrongShape path) (sym read.document_is ∙ fails)
read_not_refused job input document read free refusal (Refuses.not_sound short fault fails) =
    document_is_no_fault document (faults.Project fault) (sym read.document_is ∙ fails)
read_not_refused job input document read free refusal (Refuses.too_many short which count fails) =
    document_is_no_fault document (faults.Limit which count) (sym read.document_is ∙ fails)
read_not_refused job input document read free refusal (Refuses.not_answered other also cause refused) =
    free cause (subst (λ (d : Document). IsRefused job d cause) (same_document job input other document also read) refused)

-- more bytes were taken than an input may have
pub too_long_reply : (rules : List Asked) (job : DocumentJob) (left new : Option (List ℕ)) (line : List ℕ) (kind : ReplyKind) → Takes left new 67108865
    → kind ≡ kinds.Refused → line ≡ line_of (refusal_shown TooLong) → IfSome left (λ input. IsReply rules job input kind line)
too_long_reply rules job None new line kind takes refuses line_is = _
too_long_reply rules job (Some input) new line kind takes refuses line_is =
    reply_refuses rules job input line kind TooLong (Refuses.too_long (omega (arith, takes_known input new 67108865 takes))) refuses line_is

-- a reply to bytes that are read as a document that isn't refused is no refusal
read_not_declined : (rules : List Asked) (job : DocumentJob) (input line : List ℕ) (document : Document) → IsRead job input document
    → ((refusal : Refusal) → IsRefused job document refusal → ⊥) → IsReply rules job input kinds.Refused line → ⊥
read_not_declined rules job input line document read free (refusal, refused, line_is) =
    read_not_refused job input document read free refusal refused

-- and one to a document that isn't denied denies nothing
read_not_denied : (rules : List Asked) (job : DocumentJob) (input line : List ℕ) (document : Document) → IsRead job input document
    → (IsDenial job document line → ⊥) → IsReply rules job input kinds.CheckedNo line → ⊥
read_not_denied rules job input line document read free (other, also, denies) =
    free (subst (λ (d : Document). IsDenial job d line) (same_document job input other document also read) denies)

-- what is known of a reply to known bytes
of_known : (rules : List Asked) (job : DocumentJob) (left : Option (List ℕ)) (input line : List ℕ) (kind other : ReplyKind) → left ≡ Some input
    → IfSome left (λ input. IsReply rules job input kind line) → kind ≡ other → IsReply rules job input other line
of_known rules job left input line kind other known reply is =
    let told : IsReply rules job input kind line = subst (λ (l : Option (List ℕ)). IfSome l (λ input. IsReply rules job input kind line)) known reply in
    subst (λ (k : ReplyKind). IsReply rules job input k line) is told

-- a reply to an input that is accepted isn't a refusal
pub reply_accepts : AcceptingLaws → (rules : List Asked) (job : DocumentJob) (left : Option (List ℕ)) (input line : List ℕ) (kind : ReplyKind)
    → left ≡ Some input → Accepts job input → IfSome left (λ input. IsReply rules job input kind line) → kind ≡ kinds.Refused → ⊥
reply_accepts laws rules job left input line kind known accepted reply refuses =
    read_not_declined rules job input line accepted.document accepted.read (not_refused laws job accepted.document accepted.has_answer)
    (of_known rules job left input line kind kinds.Refused known reply refuses)

-- nor does one say no
pub reply_says_yes : AcceptingLaws → (rules : List Asked) (job : DocumentJob) (left : Option (List ℕ)) (input line : List ℕ) (kind : ReplyKind)
    → left ≡ Some input → Accepts job input → IfSome left (λ input. IsReply rules job input kind line) → kind ≡ kinds.CheckedNo → ⊥
reply_says_yes laws rules job left input line kind known accepted reply denies =
    read_not_denied rules job input line accepted.document accepted.read (not_denied laws job accepted.document accepted.has_answer line)
    (of_known rules job left input line kind kinds.CheckedNo known reply denies)

own_not_denied : (document : Document) (plan : Plan) → document.plan ≡ Some plan → IsOwn (project_after document) plan
    → (line : List ℕ) → IsNoAnswer document line → ⊥
own_not_denied document plan printed own line denial =
    denial.foreign (subst (λ (p : Plan). IsOwn (project_after document) p) (same_plan plan denial.plan document.plan printed denial.printed) own)

-- the reply to what planning answers is no refusal
pub own_accepts : (rules : List Asked) (job : DocumentJob) (left : Option (List ℕ)) (input line : List ℕ) (kind : ReplyKind) → job ≡ jobs.Check
    → left ≡ Some input → HasOwnPlan input → IfSome left (λ input. IsReply rules job input kind line) → kind ≡ kinds.Refused → ⊥
own_accepts rules job left input line kind checks known own reply refuses =
    read_not_declined rules jobs.Check input line own.document own.read (own_is_judged own.document own.plan own.printed own.own)
    (subst (λ (j : DocumentJob). IsReply rules j input kinds.Refused line) checks (of_known rules job left input line kind kinds.Refused known reply refuses))

-- nor does it say no
pub own_says_yes : (rules : List Asked) (job : DocumentJob) (left : Option (List ℕ)) (input line : List ℕ) (kind : ReplyKind) → job ≡ jobs.Check
    → left ≡ Some input → HasOwnPlan input → IfSome left (λ input. IsReply rules job input kind line) → kind ≡ kinds.CheckedNo → ⊥
own_says_yes rules job left input line kind checks known own reply denies =
    read_not_denied rules jobs.Check input line own.document own.read (own_not_denied own.document own.plan own.printed own.own line)
    (subst (λ (j : DocumentJob). IsReply rules j input kinds.CheckedNo line) checks (of_known rules job left input line kind kinds.CheckedNo known reply denies))

shape_differs : (fault : ReadFault) (path : List ℕ) → fault ≡ faults.WrongShape path → fault ≢ faults.NoMemory
shape_differs fault path e h = absurd (cc)

project_differs : (fault : ReadFault) (cause : ProjectFault) → fault ≡ faults.Project cause → fault ≢ faults.NoMemory
project_differs fault cause e h = absurd (cc)

no_json_differs : (fault : ReadFault) → fault ≡ NotJson → fault ≢ faults.NoMemory
no_json_differs fault e h = absurd (cc)

-- what a reading that failed says, by its fault
pub refuses_no_json : (job : DocumentJob) (want : Want) (input : List ℕ) (fault : ReadFault) → want ≡ want_of job → length input ≤ 67108864 → fault ≡ NotJson
    → (fault ≢ faults.NoMemory → document_of want input ≡ Err fault) → Refuses job input refusals.NotJson
refuses_no_json job want input fault wanted short e gives =
    Refuses.not_json short (no_json_of want input (gives (no_json_differs fault e) ∙ ap Err e))

pub refuses_shape : (job : DocumentJob) (want : Want) (input path : List ℕ) (fault : ReadFault) → want ≡ want_of job → length input ≤ 67108864 → fault ≡ faults.WrongShape path
    → (fault ≢ faults.NoMemory → document_of want input ≡ Err fault) → Refuses job input (refusals.WrongShape path)
refuses_shape job want input path fault wanted short e gives =
    Refuses.not_shaped short path (ap (λ w. document_of w input) (sym wanted) ∙ gives (shape_differs fault path e) ∙ ap Err e)

pub refuses_project : (job : DocumentJob) (want : Want) (input : List ℕ) (cause : ProjectFault) (fault : ReadFault) → want ≡ want_of job → length input ≤ 67108864 → fault ≡ faults.Project cause
    → (fault ≢ faults.NoMemory → document_of want input ≡ Err fault) → Refuses job input (refusals.Project cause)
refuses_project job want input cause fault wanted short e gives =
    Refuses.not_sound short cause (ap (λ w. document_of w input) (sym wanted) ∙ gives (project_differs fault cause e) ∙ ap Err e)

limit_differs : (fault : ReadFault) (which : Which) (count : ℕ) → fault ≡ faults.Limit which count → fault ≢ faults.NoMemory
limit_differs fault which count e h = absurd (cc)

pub refuses_limit : (job : DocumentJob) (want : Want) (input : List ℕ) (which : Which) (count : ℕ) (fault : ReadFault) → want ≡ want_of job → length input ≤ 67108864
    → fault ≡ faults.Limit which count → (fault ≢ faults.NoMemory → document_of want input ≡ Err fault) → Refuses job input (refusals.Limit which count)
refuses_limit job want input which count fault wanted short e gives =
    Refuses.too_many short which count (ap (λ w. document_of w input) (sym wanted) ∙ gives (limit_differs fault which count e) ∙ ap Err e)
