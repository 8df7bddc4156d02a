-- What becomes of entries, one more after another.
use Rattle.std.proofs.Common.{◌≡◌, ℕ, List, [], ◌∷◌, ◌++◌, length, take, get_or, Option, Some, None, Result, Ok, Err, refl, sym, ap, subst, ◌∙◌, ◌<◌, ◌+◌}
use Rattle.std.specs.Prelude.{unwrap_or}
use Rattle.std.specs.Result.{result_unwrap_or}
use Rattle.loom_base.proofs.EachLemmas.{take_next}
use Rattle.loom_undo.specs.Changes.{Changes}
use Rattle.loom_project.specs.declared.draft.Draft.{Draft}
use Rattle.loom_types.specs.declared.stop.PlanStop.{PlanStop}
use Rattle.loom_answer.specs.Stops.{IsNameable, named_of}
use Rattle.loom_answer.specs.declared.named_stop.NamedStop.{NamedStop}
use Rattle.loom_answer.specs.declared.outcome.Outcome.{Outcome}
use Rattle.loom_answer.specs.declared.outcome.Outcome.TheVariants.{Stop}
use Rattle.loom_plan.specs.FirstStop.{FirstStop}
use Rattle.loom_reader.specs.declared.entry.Entry.{Entry}
use Rattle.loom_reader.specs.declared.entry.Entry.TheVariants.{Price}
use Rattle.loom_top.specs.Entries.{after_entry, after_entries, IsOutcome, AreOutcomes}

-- the changes after one more entry
pub after_one_more : (before : Changes) (entries : List Entry) (entry : Entry)
    → after_entries before (entries ++ entry ∷ []) ≡ after_entry (after_entries before entries) entry
after_one_more before [] entry = refl
after_one_more before (first ∷ entries) entry = after_one_more (after_entry before first) entries entry

-- the outcomes of one more entry
pub one_more_outcome : (before : Changes) (entries : List Entry) (outcomes : List Outcome) (entry : Entry) (outcome : Outcome)
    → AreOutcomes before entries outcomes → IsOutcome (after_entries before entries) entry outcome
    → AreOutcomes before (entries ++ entry ∷ []) (outcomes ++ outcome ∷ [])
one_more_outcome before [] [] entry outcome told is = (is, tt)
one_more_outcome before [] (other ∷ outcomes) entry outcome told is = absurd told
one_more_outcome before (first ∷ entries) [] entry outcome told is = absurd told
one_more_outcome before (first ∷ entries) (other ∷ outcomes) entry outcome told is =
    (told.0, one_more_outcome (after_entry before first) entries outcomes entry outcome told.1 is)

-- what is left of a result
pub made : {A E : Type 0} (result : Result A E) (after before : A) → result ≡ Ok after → after ≡ result_unwrap_or result before
made result after before is = rw is refl

pub not_made : {A E : Type 0} (result : Result A E) (after before : A) (fault : E) → result ≡ Err fault → after ≡ before
    → after ≡ result_unwrap_or result before
not_made result after before fault is same = rw is same

pub found : {A : Type 0} (result : Option A) (after before : A) → result ≡ Some after → after ≡ unwrap_or result before
found result after before is = rw is refl

pub not_found : {A : Type 0} (result : Option A) (after before : A) → result ≡ None → after ≡ before → after ≡ unwrap_or result before
not_found result after before is same = rw is same

-- the changes up to the next entry
pub after_next : (before : Changes) (entries : List Entry) (i : ℕ) (entry : Entry) (now after : Changes) → entry ≡ get_or entries i entry
    → i < length entries → now ≡ after_entries before (take i entries) → after ≡ after_entry now entry
    → after ≡ after_entries before (take (i + 1) entries)
after_next before entries i entry now after is lt here one =
    one ∙ ap (λ (ch : Changes). after_entry ch entry) here ∙ sym (after_one_more before (take i entries) entry)
    ∙ ap (after_entries before) (sym (take_next entries i entry is lt))

-- the outcomes up to the next entry
pub outcomes_next : (before : Changes) (entries : List Entry) (i : ℕ) (entry : Entry) (outcomes : List Outcome) (outcome : Outcome) (now : Changes)
    → entry ≡ get_or entries i entry → i < length entries → now ≡ after_entries before (take i entries)
    → AreOutcomes before (take i entries) outcomes → IsOutcome now entry outcome
    → AreOutcomes before (take (i + 1) entries) (outcomes ++ outcome ∷ [])
outcomes_next before entries i entry outcomes outcome now is lt here told one =
    let next = one_more_outcome before (take i entries) outcomes entry outcome told (subst (λ (ch : Changes). IsOutcome ch entry outcome) here one) in
    subst (λ (es : List Entry). AreOutcomes before es (outcomes ++ outcome ∷ [])) (sym (take_next entries i entry is lt)) next

-- a first stop is the outcome of the question for a price
pub price_stops : (before : Changes) (draft : Draft) (stop : PlanStop) (named : NamedStop) → draft ≡ before.draft → FirstStop before.draft stop
    → IsNameable draft stop → named ≡ named_of draft stop → IsOutcome before Price (Stop named)
price_stops before draft stop named same first nameable is =
    let here : IsNameable before.draft stop = subst (λ (d : Draft). IsNameable d stop) same nameable in
    subst (λ (n : NamedStop). IsOutcome before Price (Stop n)) (sym (is ∙ ap (λ (d : Draft). named_of d stop) same))
    (IsOutcome.stopped stop first here)
