-- What is said of the wires that a choice makes live.
use Rattle.std.proofs.Common.{◌≡◌, ◌≢◌, ℕ, zero, suc, Bool, false, List, [], ◌∷◌, map, codes, Option, Some, None, Result, Ok, Err, IfOk, refl, ap, ap₂, sym, subst, ◌∙◌}
use Rattle.std.specs.Option.{option_map_or}
use Rattle.serde_json.specs.Data.{Data, Members, object, put, no_members}
use Rattle.serde_json.specs.Written.{has_float, members_have_float}
use Rattle.loom_json.specs.Fields.{array_of}
use Rattle.loom_json.specs.Text.{line_of}
use Rattle.loom_json.proofs.Floats.{items_have_float-map, members_have_float-put}
use Rattle.loom_formula.specs.declared.choice.ChoiceFault.{ChoiceFault}
use Rattle.loom_formula.specs.declared.choice.ChoiceFault.TheVariants as choices
use Rattle.loom_formula.specs.declared.formula.Formula.{Formula}
use Rattle.loom_formula.specs.Choice.{choice_at, choice_of, GivesChoice}
use Rattle.loom_project.specs.declared.draft.Draft.{Draft}
use Rattle.loom_types.specs.declared.plan.Plan.{Plan}
use Rattle.loom_types.specs.declared.wire.Wire.{Wire}
use Rattle.loom_rules.specs.Judged.{Asked}
use Rattle.loom_answer.specs.Values.{whole, numbers}
use Rattle.loom_answer.specs.Wires.{wire_shown}
use Rattle.loom_answer.proofs.WithoutFloats.{plain_wire}
use Rattle.loom_extract.specs.declared.stop.ExtractStop.{ExtractStop}
use Rattle.loom_extract.specs.declared.stop.ExtractStop.TheVariants.{BrokenRule}
use Rattle.loom_extract.specs.Variant.{variant_of, first_false, live_positions}
use Rattle.loom_reader.specs.declared.document.Document.{Document}
use Rattle.loom_undo.specs.Changes.{Changes}
use Rattle.loom_reader.specs.declared.entry.Entry.{Entry}
use Rattle.loom_top.specs.Entries.{fresh, after_entries, project_after}
use Rattle.loom_top.specs.Variants.{wire_at_shown, variant_shown}
use Rattle.loom_top.specs.Jobs.{Obeys, IsRefused}
use Rattle.loom_top.specs.Replies.{IsRead, IsReply}
use Rattle.loom_top.specs.RepliesInside.{HasChoice, RepliesToChoice, IsReplyTo}
use Rattle.loom_top.specs.declared.reply.Reply.{Reply}
use Rattle.loom_top.specs.declared.reply.ReplyKind.TheVariants as kinds
use Rattle.loom_top.specs.declared.job.DocumentJob.TheVariants as jobs
use Rattle.loom_top.specs.declared.refusal.Refusal.TheVariants as refusals

abbrev Made : Type 0
Made = Result (List ℕ) ExtractStop

-- positions were made of the live ones, and no rule was broken
unbroken : (broken : Option ℕ) (live positions : List ℕ) (made : Made) → made ≡ option_map_or (λ rule. Err (BrokenRule rule)) broken (Ok live) → made ≡ Ok positions
    → (broken ≡ None) × (live ≡ positions)
unbroken None live positions made is ok = (refl, cc)
unbroken (Some rule) live positions made is ok = absurd (cc)

-- the broken rule is the first one
first_broken : (broken : Option ℕ) (live : List ℕ) (rule : ℕ) (made : Made) → made ≡ option_map_or (λ rule. Err (BrokenRule rule)) broken (Ok live) → made ≡ Err (BrokenRule rule)
    → broken ≡ Some rule
first_broken None live rule made is failed = absurd (cc)
first_broken (Some other) live rule made is failed = cc

-- the choice of a document's names
named_choice : (document : Document) (draft : Draft) (plan : Plan) (names : List (List ℕ)) → HasChoice document draft plan names
    → choice_of (project_after document).options document.choice ≡ choice_of draft.options names
named_choice document draft plan names has = ap₂ (λ (d : Draft) (n : List (List ℕ)). choice_of d.options n) has.draft_is has.names_are

-- a choice that isn't made is refused as it stands
choice_fails : (options names : List (List ℕ)) (fault : ChoiceFault) → fault ≢ choices.NoMemory → GivesChoice (Err fault) (choice_of options names)
    → choice_of options names ≡ Err fault
choice_fails options names (choices.Unknown name) other fails = fails
choice_fails options names (choices.Repeated name) other fails = fails
choice_fails options names choices.NoMemory other fails = absurd (other refl)

-- a name that makes no choice refuses the document
pub choice_refuses : (draft : Draft) (plan : Plan) (options names : List (List ℕ)) (fault : ChoiceFault)
    → options ≡ draft.options → fault ≢ choices.NoMemory → GivesChoice (Err fault) (choice_of options names)
    → (document : Document) → HasChoice document draft plan names → IsRefused jobs.Extract document (refusals.Choice fault)
choice_refuses draft plan options names fault are_options other fails document has = (
  other,
  named_choice document draft plan names has ∙ ap (λ (o : List (List ℕ)). choice_of o names) (sym are_options)
      ∙ choice_fails options names fault other fails,
)

-- a rule that the choice breaks refuses the document
pub broken_refuses : (draft : Draft) (plan : Plan) (options names : List (List ℕ)) (rules : List Formula) (values : List Bool) (rule : ℕ)
    → options ≡ draft.options → rules ≡ draft.rules → choice_of draft.options names ≡ Ok values
    → variant_of plan options rules (choice_at values) ≡ Err (BrokenRule rule)
    → (document : Document) → HasChoice document draft plan names → IsRefused jobs.Extract document (refusals.BrokenRule rule)
broken_refuses draft plan options names rules values rule are_options are_rules made broken document has =
    let told = first_broken (first_false rules options (choice_at values)) (live_positions plan (choice_at values)) rule _ refl broken in
    let here : first_false draft.rules draft.options (choice_at values) ≡ Some rule = rw (sym are_rules, sym are_options) told in (
      values,
      named_choice document draft plan names has ∙ made,
      subst (λ (d : Draft). first_false d.rules d.options (choice_at values) ≡ Some rule) (sym has.draft_is) here,
    )

-- the line of the live wires answers the document
pub variant_answers : (draft : Draft) (plan : Plan) (options names : List (List ℕ)) (rules : List Formula) (values : List Bool) (positions line : List ℕ)
    → options ≡ draft.options → rules ≡ draft.rules → choice_of draft.options names ≡ Ok values
    → variant_of plan options rules (choice_at values) ≡ Ok positions
    → line ≡ line_of (variant_shown plan positions)
    → (document : Document) → HasChoice document draft plan names
    → (asked : List Asked) (input : List ℕ) → IsRead jobs.Extract input document → IsReply asked jobs.Extract input kinds.Done line
variant_answers draft plan options names rules values positions line are_options are_rules made variant line_is document has asked input read =
    let told = unbroken (first_false rules options (choice_at values)) (live_positions plan (choice_at values)) positions _ refl variant in
    let here : Obeys draft values = rw (sym are_rules, sym are_options) told.0 in
    let obeyed : Obeys (project_after document) values = subst (λ (d : Draft). Obeys d values) (sym has.draft_is) here in
    let chosen = named_choice document draft plan names has ∙ made in (
      record { document = document; read = read; has_answer = (values, chosen, obeyed) },
      record {
        values = values;
        chosen = chosen;
        obeyed = obeyed;
        plan = plan;
        printed = has.plan_is;
        line_is = line_is ∙ ap (λ ps. line_of (variant_shown plan ps)) (sym told.1);
      },
    )

wire_at_plain : (wires : List Wire) (at : ℕ) → has_float (wire_at_shown wires at) ≡ false
wire_at_plain [] at = refl
wire_at_plain (wire ∷ wires) zero = plain_wire (wire_shown wire) wire refl
wire_at_plain (wire ∷ wires) (suc at) = wire_at_plain wires at

-- the same of the object of the wires
wires_plain : (shown positions : Data) → has_float shown ≡ false → has_float positions ≡ false
    → members_have_float (put (codes "wires") shown (put (codes "numbers") positions no_members)) ≡ false
wires_plain shown positions first second =
    members_have_float-put (codes "wires") shown (put (codes "numbers") positions no_members) first
    (members_have_float-put (codes "numbers") positions no_members second refl)

-- and of the line's value
value_plain : (members : Members) → members_have_float members ≡ false
    → has_float (object (put (codes "version") (whole 1) (put (codes "variant") (object members) no_members))) ≡ false
value_plain members inside =
    members_have_float-put (codes "version") (whole 1) (put (codes "variant") (object members) no_members) refl
    (members_have_float-put (codes "variant") (object members) no_members inside refl)

variant_plain : (plan : Plan) (positions : List ℕ) → has_float (variant_shown plan positions) ≡ false
variant_plain plan positions =
    let of_numbers : has_float (numbers positions) ≡ false = items_have_float-map whole (λ n. refl) positions in
    let of_wires : has_float (array_of (map (wire_at_shown plan.wires) positions)) ≡ false =
    items_have_float-map (wire_at_shown plan.wires) (wire_at_plain plan.wires) positions in
    value_plain (put (codes "wires") (array_of (map (wire_at_shown plan.wires) positions)) (put (codes "numbers") (numbers positions) no_members))
    (wires_plain (array_of (map (wire_at_shown plan.wires) positions)) (numbers positions) of_wires of_numbers)

-- what is printed of wires has no float
pub plain_variant : (d : Data) (plan : Plan) (positions : List ℕ) → d ≡ variant_shown plan positions → has_float d ≡ false
plain_variant d plan positions is = ap has_float is ∙ variant_plain plan positions

-- what replies to all documents of a choice replies to the one that has it, whichever rules there are
pub replies_to_it : {E : Type 0} (draft : Draft) (plan : Plan) (names : List (List ℕ)) (document : Document) (result : Result Reply E)
    → HasChoice document draft plan names → IfOk result (RepliesToChoice draft plan names)
    → IfOk result (λ reply. (rules : List Asked) → IsReplyTo rules jobs.Extract document reply)
replies_to_it draft plan names document (Ok reply) has replies = replies document has
replies_to_it draft plan names document (Err e) has replies = _

-- what is said of a choice of any names is said of the names that made it
pub of_choice : {E : Type 0} (draft : Draft) (plan : Plan) (options names : List (List ℕ)) (values : List Bool) (result : Result Reply E)
    → options ≡ draft.options → choice_of options names ≡ Ok values
    → IfOk result (λ reply. (names : List (List ℕ)) → choice_of draft.options names ≡ Ok values → RepliesToChoice draft plan names reply)
    → IfOk result (RepliesToChoice draft plan names)
of_choice draft plan options names values (Ok reply) are_options made replies =
    replies names (ap (λ (o : List (List ℕ)). choice_of o names) (sym are_options) ∙ made)
of_choice draft plan options names values (Err e) are_options made replies = _

-- the choice of a document whose entries were made
pub made_choice : (document : Document) (before after : Changes) (entries : List Entry) (draft : Draft) (plan : Plan) (names : List (List ℕ))
    → before ≡ fresh document.project → entries ≡ document.entries → after ≡ after_entries before entries → draft ≡ after.draft
    → document.plan ≡ Some plan → names ≡ document.choice → HasChoice document draft plan names
made_choice document before after entries draft plan names is_fresh are_entries made is_draft printed are_names = record {
  draft_is = sym (
      is_draft
      ∙ ap (λ (c : Changes). c.draft) made
      ∙ ap₂ (λ (c : Changes) (es : List Entry). (after_entries c es).draft) is_fresh are_entries
      );
  plan_is = printed;
  names_are = sym are_names;
}
