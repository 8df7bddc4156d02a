-- What the tests of a set's wires say, put together.
use Rattle.std.proofs.Common.{ℕ, zero, suc, List, [], ◌∷◌, ◌++◌, length, map, take, drop, get_or, ◌≡◌, ◌+◌, ◌/◌, ◌%◌, ◌<◌, Bool, true, cond, Option, Some, None, inl, inr, Result, Ok, Err, sym, ap, ◌∙◌, subst, arith, append_assoc, count_by}
use Rattle.std.specs.List.{All, AllZip, Contains, filter_map, flat_map, slice_get}
use Rattle.std.specs.List.{cons_option}
use Rattle.std.specs.Result.{IfOk}
use Rattle.std.proofs.lemmas.Option.{slice_get_within}
use Rattle.std.proofs.lemmas.List.{drop_more, take_more, append-nil}
use Rattle.std.proofs.lemmas.List.Elements.{All-nil, All-cons, All-contains, filter_map-append}
use Rattle.std.proofs.lemmas.List.Sums.{sum_by-cons}
use Rattle.std.proofs.lemmas.Bool.{cases_Bool, cond-true, cond-false}
use Rattle.loom_base.specs.declared.positions.CavityNo.{CavityNo}
use Rattle.loom_base.proofs.Contained.{Contains-here, Contains-cons, Contains-cases}
use Rattle.loom_topology.specs.Legal.{chosen}
use Rattle.loom_topology.proofs.Hangs.{chosen-one, chosen-none}
use Rattle.loom_types.specs.declared.wire.End.{End}
use Rattle.loom_types.specs.declared.wire.End.TheVariants.{Cavity, Splice, Pin}
use Rattle.loom_types.specs.declared.wire.Wire.{Wire}
use Rattle.loom_types.specs.WireTree.{is_same_end, FormsTree, HasEnd}
use Rattle.loom_active.proofs.TreeEnds.{same_end, end_itself}
use Rattle.loom_audit.specs.Classes.{class_of, JoinsApart, AreOneClass, IsLinkBelow}
use Rattle.loom_audit.specs.EndKeys.{AreLinksOf, IsLinkOf}
use Rattle.loom_audit.specs.EndRule.{IsEndRight, AreEndsRight, IsOnePiece}
use Rattle.loom_audit.proofs.TreeClasses.{no_cycle_from, apart_from, connected_from, one_from}

all_listed : {X : Type 0} (P : X → Type 0) (xs : List X) → ((x : X) → Contains xs x → P x) → All P xs
all_listed P [] each = All-nil P
all_listed P (x ∷ xs) each = All-cons P x xs (each x (Contains-here x xs)) (all_listed P xs (λ y listed. each y (Contains-cons y x xs listed)))

-- ---- links

pub one_piece_from : (ws : List (End × End)) (links : List (ℕ × ℕ)) (count : ℕ) → AreLinksOf ws links count
    → JoinsApart links → AreOneClass (class_of links) links → IsOnePiece ws
one_piece_from ws links count are apart one =
    record {
      connected = connected_from are.points are.once ws links are.each one;
      no_cycle = no_cycle_from are.points are.once ws links are.each apart;
    }

pub links_apart : (ws : List (End × End)) (links : List (ℕ × ℕ)) (count : ℕ) → AreLinksOf ws links count → IsOnePiece ws → JoinsApart links
links_apart ws links count are piece = apart_from are.points are.once ws links are.each piece.no_cycle

pub links_one : (ws : List (End × End)) (links : List (ℕ × ℕ)) (count : ℕ) → AreLinksOf ws links count → IsOnePiece ws → AreOneClass (class_of links) links
links_one ws links count are piece = one_from are.points are.once ws links are.each piece.connected

-- ---- ends

listed_counts : (xs : List End) (e : End) → Contains xs e → 0 < count_by (is_same_end e) xs
listed_counts [] e (k, within, at) = absurd (omega (arith, within))
listed_counts (x ∷ xs) e listed = elim (Contains-cases e x xs listed) [
  | inl same ↦
      let passes : is_same_end e x ≡ true = ap (is_same_end e) same ∙ end_itself e in
      let one : ◌≡◌ {A = ℕ} (cond (is_same_end e x) 1 0) 1 = cond-true (is_same_end e x) 1 0 passes in
      omega (arith, one, sum_by-cons (λ z. cond (is_same_end e z) 1 0) x xs)
  | inr later ↦ omega (arith, listed_counts xs e later, sum_by-cons (λ z. cond (is_same_end e z) 1 0) x xs)
]

counts_listed : (xs : List End) (e : End) → 0 < count_by (is_same_end e) xs → Contains xs e
counts_listed [] e some = absurd (omega (arith, some))
counts_listed (x ∷ xs) e some = elim (cases_Bool (is_same_end e x)) [
  | inl same ↦ subst (λ (y : End). Contains (x ∷ xs) y) (sym (same_end e x same)) (Contains-here x xs)
  | inr other ↦
      let none : ◌≡◌ {A = ℕ} (cond (is_same_end e x) 1 0) 0 = cond-false (is_same_end e x) 1 0 other in
      Contains-cons e x xs (counts_listed xs e (omega (arith, none, some, sum_by-cons (λ z. cond (is_same_end e z) 1 0) x xs)))
]

abbrev flat_of : List (End × End) → List End
flat_of ws = flat_map (λ w. w.0 ∷ w.1 ∷ []) ws

pub tree_from : (cavities : List ℕ) (ws : List (End × End)) → AreEndsRight cavities (flat_map (λ w. w.0 ∷ w.1 ∷ []) ws) → IsOnePiece ws → FormsTree cavities ws
tree_from cavities ws ends piece =
    let right = λ (e : End) (has : HasEnd ws e).
    All-contains (IsEndRight (λ f. count_by (is_same_end f) (flat_of ws)) cavities) (flat_of ws) e ends.right (counts_listed (flat_of ws) e has) in
    record {
      connected = piece.connected;
      no_cycle = piece.no_cycle;
      cavity = λ c listed. All-contains (λ d. count_by (is_same_end (Cavity (record { 0 = d }))) (flat_of ws) ≡ 1) cavities c ends.once listed;
      no_other_cavity = λ c has. right (Cavity (record { 0 = c })) has;
      splice = λ node ordinal has. right (Splice (record { 0 = node }) ordinal) has;
      pin = λ coupler pin side has. right (Pin (record { 0 = coupler }) pin side) has;
    }

pub piece_of : (cavities : List ℕ) (ws : List (End × End)) → FormsTree cavities ws → IsOnePiece ws
piece_of cavities ws tree = record { connected = tree.connected; no_cycle = tree.no_cycle }

right_end : (cavities : List ℕ) (ws : List (End × End)) → FormsTree cavities ws → (e : End) → HasEnd ws e
    → IsEndRight (λ f. count_by (is_same_end f) (flat_map (λ w. w.0 ∷ w.1 ∷ []) ws)) cavities e
right_end cavities ws tree (Cavity c) has = tree.no_other_cavity c.0 has
right_end cavities ws tree (Splice v j) has = tree.splice v.0 j has
right_end cavities ws tree (Pin x p s) has = tree.pin x.0 p s has

pub ends_of_tree : (cavities : List ℕ) (ws : List (End × End)) → FormsTree cavities ws → AreEndsRight cavities (flat_map (λ w. w.0 ∷ w.1 ∷ []) ws)
ends_of_tree cavities ws tree =
    record {
      once = all_listed (λ d. count_by (is_same_end (Cavity (record { 0 = d }))) (flat_of ws) ≡ 1) cavities (λ c listed. tree.cavity c listed);
      right = all_listed (IsEndRight (λ f. count_by (is_same_end f) (flat_of ws)) cavities) (flat_of ws)
          (λ e listed. right_end cavities ws tree e (listed_counts (flat_of ws) e listed));
    }

-- ---- a test over counts is one over the list that was counted

pub all_by_counts : (count real : End → ℕ) → ((e : End) → count e ≡ real e) → (cavities : List ℕ) (ends : List End)
    → All (IsEndRight count cavities) ends → All (IsEndRight real cavities) ends
all_by_counts count real same cavities ends all =
    subst (λ (f : End → ℕ). All (IsEndRight f cavities) ends) (λ i e. same e i) all

pub once_by_counts : (count real : End → ℕ) → ((e : End) → count e ≡ real e) → (cavities : List ℕ)
    → All (λ c. count (Cavity (record { 0 = c })) ≡ 1) cavities → All (λ c. real (Cavity (record { 0 = c })) ≡ 1) cavities
once_by_counts count real same cavities all =
    subst (λ (f : End → ℕ). All (λ c. f (Cavity (record { 0 = c })) ≡ 1) cavities) (λ i e. same e i) all

-- ---- the steps of loops

-- the next position's wire, if there is one
pub filter_map-more : {X : Type 0} {Y : Type 0} (h : X → Option Y) (xs : List X) (i : ℕ) (d : X) → i < length xs
    → filter_map h (take (i + 1) xs) ≡ filter_map h (take i xs) ++ filter_map h (get_or xs i d ∷ [])
filter_map-more h xs i d within = ap (filter_map h) (take_more xs i d within) ∙ filter_map-append h (take i xs) (get_or xs i d ∷ [])

module _ (cavities : List CavityNo) (all done new : List ℕ) (at rest : ℕ) (d : CavityNo) (lt : at < length cavities) where
  abbrev numbers : List CavityNo → List ℕ
  numbers cs = map (λ (c : CavityNo). c.0) cs

  module _ (so_far : all ≡ done ++ chosen (map (λ (c : CavityNo). c.0) (drop at cavities)) rest) where
    at_next : all ≡ done ++ chosen (numbers (get_or cavities at d ∷ drop (at + 1) cavities)) rest
    at_next = so_far ∙ ap (λ (cs : List CavityNo). done ++ chosen (numbers cs) rest) (drop_more cavities at d lt)

    -- its bit is set
    pub taken-more : rest % 2 ≡ 1 → new ≡ done ++ (get_or cavities at d).0 ∷ [] → all ≡ new ++ chosen (map (λ (c : CavityNo). c.0) (drop (at + 1) cavities)) (rest / 2)
    taken-more odd is =
        at_next
        ∙ ap (λ (cs : List ℕ). done ++ cs) (chosen-one (get_or cavities at d).0 (numbers (drop (at + 1) cavities)) rest odd)
        ∙ sym (append_assoc done ((get_or cavities at d).0 ∷ []) (chosen (numbers (drop (at + 1) cavities)) (rest / 2)))
        ∙ ap (λ (l : List ℕ). l ++ chosen (numbers (drop (at + 1) cavities)) (rest / 2)) (sym is)

    -- its bit isn't set
    pub left-more : (rest % 2 ≡ 1 → ⊥) → new ≡ done → all ≡ new ++ chosen (map (λ (c : CavityNo). c.0) (drop (at + 1) cavities)) (rest / 2)
    left-more even is =
        at_next
        ∙ ap (λ (cs : List ℕ). done ++ cs) (chosen-none (get_or cavities at d).0 (numbers (drop (at + 1) cavities)) rest (omega (arith, even)))
        ∙ ap (λ (l : List ℕ). l ++ chosen (numbers (drop (at + 1) cavities)) (rest / 2)) (sym is)

-- ---- tests of a set's wires, joined

links_within : (points : List (ℕ × ℕ × ℕ × ℕ)) (ws : List (End × End)) (links : List (ℕ × ℕ)) → AllZip (IsLinkOf points) ws links → All (IsLinkBelow (length points)) links
links_within points ws [] z = All-nil (IsLinkBelow (length points))
links_within points [] (l ∷ links) z = absurd z
links_within points (w ∷ ws) (l ∷ links) ((one, two), z) =
    All-cons (IsLinkBelow (length points)) l links (slice_get_within points l.0 _ one, slice_get_within points l.1 _ two) (links_within points ws links z)

pub links_below : (ws : List (End × End)) (links : List (ℕ × ℕ)) (count : ℕ) → AreLinksOf ws links count → All (IsLinkBelow count) links
links_below ws links count are = subst (λ (n : ℕ). All (IsLinkBelow n) links) are.counted (links_within are.points ws links are.each)

pub ends_right_from : (count : End → ℕ) (cavities : List ℕ) (ends : List End) → ((e : End) → count e ≡ count_by (is_same_end e) ends)
    → All (λ c. count (Cavity (record { 0 = c })) ≡ 1) cavities → All (IsEndRight count cavities) ends → AreEndsRight cavities ends
ends_right_from count cavities ends same once right =
    record {
      once = once_by_counts count (λ e. count_by (is_same_end e) ends) same cavities once;
      right = all_by_counts count (λ e. count_by (is_same_end e) ends) same cavities ends right;
    }

pub once_counted : (count : End → ℕ) (cavities : List ℕ) (ends : List End) → ((e : End) → count e ≡ count_by (is_same_end e) ends)
    → AreEndsRight cavities ends → All (λ c. count (Cavity (record { 0 = c })) ≡ 1) cavities
once_counted count cavities ends same right = once_by_counts (λ e. count_by (is_same_end e) ends) count (λ e. sym (same e)) cavities right.once

pub right_counted : (count : End → ℕ) (cavities : List ℕ) (ends : List End) → ((e : End) → count e ≡ count_by (is_same_end e) ends)
    → AreEndsRight cavities ends → All (IsEndRight count cavities) ends
right_counted count cavities ends same right = all_by_counts (λ e. count_by (is_same_end e) ends) count (λ e. sym (same e)) cavities ends right.right

pub IfOk-then : {A E : Type 0} (r : Result A E) (P Q : A → Type 0) → IfOk r P → ((x : A) → P x → Q x) → IfOk r Q
IfOk-then (Ok x) P Q holds then = then x holds
IfOk-then (Err e) P Q holds then = tt

-- ---- the wires at positions, one position on

pub next_wire : (wires : List Wire) (positions : List ℕ) (i : ℕ) (w : Wire) → i < length positions → slice_get wires (get_or positions i 0) ≡ Some w
    → filter_map (slice_get wires) (take (i + 1) positions) ≡ filter_map (slice_get wires) (take i positions) ++ w ∷ []
next_wire wires positions i w within found =
    filter_map-more (slice_get wires) positions i 0 within
    ∙ ap (λ (o : Option Wire). filter_map (slice_get wires) (take i positions) ++ cons_option o []) found

pub no_next_wire : (wires : List Wire) (positions : List ℕ) (i : ℕ) → i < length positions → slice_get wires (get_or positions i 0) ≡ None
    → filter_map (slice_get wires) (take (i + 1) positions) ≡ filter_map (slice_get wires) (take i positions)
no_next_wire wires positions i within none =
    filter_map-more (slice_get wires) positions i 0 within
    ∙ (ap (λ (o : Option Wire). filter_map (slice_get wires) (take i positions) ++ cons_option o []) none
    ∙ append-nil (filter_map (slice_get wires) (take i positions)))
