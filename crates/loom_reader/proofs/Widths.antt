-- No array has more elements than the text that it stands in has bytes.
use Rattle.std.proofs.Common.{◌≡◌, ℕ, suc, ◌+◌, ◌≤◌, max, List, [], ◌∷◌, ◌++◌, Bool, true, false, length, map, refl, ap, ◌∙◌, subst, arith, length-append}
use Rattle.std.specs.List.{All}
use Rattle.std.proofs.lemmas.List.Elements.{All-nil, All-cons}
use Rattle.json.specs.Print.{quoted}
use Rattle.serde_json.specs.Data.{Data, null, boolean, number, string, array, object, Items, no_items, item, Members, no_members, member}
use Rattle.serde_json.specs.View.{items_of}
use Rattle.serde_json.specs.Written.{comma_if, compact_text, items_text, members_text}
use Rattle.loom_json.specs.Text.{line_of}
use Rattle.loom_json.specs.Fields.{array_of}
use Rattle.std.proofs.Math.Nat.{le_trans}
use Rattle.loom_topology.specs.declared.kind.Kind.TheVariants.{Coupler}
use Rattle.loom_project.specs.declared.draft.Draft.{Draft}
use Rattle.loom_project.specs.declared.draft.SegmentDraft.{SegmentDraft}
use Rattle.loom_rules.specs.declared.report.Report.{Report}
use Rattle.loom_types.specs.declared.plan.Plan.{Plan}
use Rattle.loom_answer.specs.Answer.{answer_of}
use Rattle.loom_answer.specs.declared.outcome.Outcome.{Outcome}
use Rattle.loom_answer.specs.Projects.{kind_shown, segment_draft_shown, project_shown}
use Rattle.loom_answer.specs.Values.{whole}

abbrev count : Items → ℕ
count no_items = 0
count (item d ds) = suc (count ds)

-- the greatest number of elements that an array in a value has
abbrev mutual
  widest : Data → ℕ
  widest null = 0
  widest (boolean b) = 0
  widest (number n) = 0
  widest (string s) = 0
  widest (array ds) = max (count ds) (items_widest ds)
  widest (object ms) = members_widest ms

  items_widest : Items → ℕ
  items_widest no_items = 0
  items_widest (item d ds) = max (widest d) (items_widest ds)

  members_widest : Members → ℕ
  members_widest no_members = 0
  members_widest (member key d ms) = max (widest d) (members_widest ms)

item_length : (later : Bool) (d : Data) (ds : Items) → length (items_text later (item d ds)) ≡ length (comma_if later) + (length (compact_text d) + length (items_text true ds))
item_length later d ds = length-append (comma_if later) _ ∙ ap (λ n. length (comma_if later) + n) (length-append (compact_text d) (items_text true ds))

count_text : (ds : Items) → suc (count ds) ≤ length (items_text true ds)
count_text no_items = omega arith
count_text (item d ds) = omega (arith, item_length true d ds, count_text ds)

count_within : (later : Bool) (ds : Items) → count ds ≤ length (items_text later ds)
count_within later no_items = omega arith
count_within later (item d ds) = omega (arith, item_length later d ds, count_text ds)

member_length : (later : Bool) (key : List ℕ) (d : Data) (ms : Members) → length (compact_text d) + length (members_text true ms) ≤ length (members_text later (member key d ms))
member_length later key d ms =
    omega (
      arith,
      length-append (comma_if later) (quoted key ++ 58 ∷ (compact_text d ++ members_text true ms)),
      length-append (quoted key) (58 ∷ (compact_text d ++ members_text true ms)),
      length-append (compact_text d) (members_text true ms),
    )

mutual
  widest_text : (d : Data) → widest d ≤ length (compact_text d)
  widest_text null = omega arith
  widest_text (boolean b) = omega arith
  widest_text (number n) = omega arith
  widest_text (string s) = omega arith
  widest_text (array ds) = omega (arith, count_within false ds, items_widest_text false ds)
  widest_text (object ms) = omega (arith, members_widest_text false ms)

  items_widest_text : (later : Bool) (ds : Items) → items_widest ds ≤ length (items_text later ds)
  items_widest_text later no_items = omega arith
  items_widest_text later (item d ds) = omega (arith, item_length later d ds, widest_text d, items_widest_text true ds)

  members_widest_text : (later : Bool) (ms : Members) → members_widest ms ≤ length (members_text later ms)
  members_widest_text later no_members = omega arith
  members_widest_text later (member key d ms) = omega (arith, member_length later key d ms, widest_text d, members_widest_text true ms)

count-items_of : {X : Type 0} (shows : X → Data) (xs : List X) → count (items_of (map shows xs)) ≡ length xs
count-items_of shows [] = refl
count-items_of shows (x ∷ xs) = ap suc (count-items_of shows xs)

each_within : {X : Type 0} (shows : X → Data) (most : ℕ) (xs : List X) → items_widest (items_of (map shows xs)) ≤ most → All (λ x. widest (shows x) ≤ most) xs
each_within shows most [] few = All-nil (λ x. widest (shows x) ≤ most)
each_within shows most (x ∷ xs) few = All-cons (λ x. widest (shows x) ≤ most) x xs (omega (arith, few)) (each_within shows most xs (omega (arith, few)))

-- a coupler reserves no more pins than its text has bytes
coupler_within : (segment : SegmentDraft) (most price pins : ℕ) → widest (kind_shown true segment (Coupler price pins)) ≤ most → length segment.reserved ≤ most
coupler_within segment most price pins few = omega (arith, few, count-items_of whole segment.reserved)

-- the pins that a coupler reserves are so few
abbrev pub ReservesFew : ℕ → SegmentDraft → Type 0
ReservesFew most segment = (price pins : ℕ) → segment.kind ≡ Coupler price pins → length segment.reserved ≤ most

segment_within : (most : ℕ) (segment : SegmentDraft) → widest (segment_draft_shown true segment) ≤ most → ReservesFew most segment
segment_within most segment few price pins kind =
    coupler_within segment most price pins (subst (λ k. widest (kind_shown true segment k) ≤ most) kind few)

second_of : (a b : ℕ) → b ≤ max a b
second_of a b = omega arith

third_of : (a b c rest : ℕ) → c ≤ max a (max b (max c rest))
third_of a b c rest = omega arith

sixth_of : (a b c d e f : ℕ) → f ≤ max a (max b (max c (max d (max e (max f 0)))))
sixth_of a b c d e f =
    le_trans (third_of d e f 0) (le_trans (second_of c (max d (max e (max f 0)))) (le_trans (second_of b (max c (max d (max e (max f 0))))) (second_of a (max b (max c (max d (max e (max f 0))))))))

segments_within : (outcomes : List Outcome) (plan : Plan) (draft : Draft) (reports : List Report) → items_widest (items_of (map (segment_draft_shown true) draft.segments)) ≤ widest (answer_of 2 outcomes plan draft reports)
segments_within outcomes plan draft reports =
    let listed = second_of (count (items_of (map (segment_draft_shown true) draft.segments))) (items_widest (items_of (map (segment_draft_shown true) draft.segments))) in
    let shown : widest (array_of (map (segment_draft_shown true) draft.segments)) ≤ widest (project_shown true draft) = sixth_of _ _ _ _ _ _ in
    let printed : widest (project_shown true draft) ≤ widest (answer_of 2 outcomes plan draft reports) = third_of _ _ _ _ in
    le_trans listed (le_trans shown printed)

pub reserves_few : (most : ℕ) (outcomes : List Outcome) (plan : Plan) (draft : Draft) (reports : List Report) → length (line_of (answer_of 2 outcomes plan draft reports)) ≤ most → All (ReservesFew most) draft.segments
reserves_few most outcomes plan draft reports few k segment in_list =
    let d = answer_of 2 outcomes plan draft reports in
    let text : widest d ≤ most = omega (arith, widest_text d, length-append (compact_text d) (10 ∷ []), few) in
    let all = each_within (segment_draft_shown true) most draft.segments (omega (arith, segments_within outcomes plan draft reports, text)) in
    segment_within most _ (all k segment in_list)
