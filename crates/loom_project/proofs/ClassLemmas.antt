-- Numbers of classes, and the bars that name a class.
use Rattle.std.proofs.Common.{◌≡◌, ℕ, ◌+◌, ◌<◌, ◌≤◌, List, [], ◌∷◌, ◌++◌, length, map, Bool, true, false, ◌||◌, cond, Option, Some, None, eqb, get_or, take, refl, sym, ap, ◌∙◌, bytes_eq, arith, rules}
use Rattle.std.specs.Prelude.{position, filter, IsSome, is_some}
use Rattle.std.specs.List.{list_any, list_all, cons_option, range_with_len}
use Rattle.std.proofs.Math.ListN.{get_or-map}
use Rattle.std.proofs.lemmas.Bool.{lt-ltb, ltb-true, eq-eqb, eqb-true, true_from_ne_false, false_from_ne_true}
use Rattle.std.proofs.lemmas.List.{length-map, length-take, get_or_default, get_or-map as at-map}
use Rattle.std.proofs.lemmas.Simd.{map-map}
use Rattle.std.proofs.lemmas.List.Folds.{list_all_at, list_any_at}
use Rattle.std.proofs.lemmas.List.Elements.{filter_map-append}
use Rattle.std.proofs.lemmas.List.Sums.{fold-append, passes_at_first}
use Rattle.std.proofs.lemmas.Slice.Eq.{bytes_eq-Decides}
use Rattle.loom_formula.specs.NameIndex.{has_name, with_name}
use Rattle.loom_project.specs.declared.draft.Draft.{Draft}
use Rattle.loom_project.specs.declared.draft.NetDraft.{NetDraft}
use Rattle.loom_project.specs.declared.draft.SegmentDraft.{SegmentDraft}
use Rattle.loom_project.specs.Draft.{index_of, each_once}
use Rattle.loom_project.specs.Project.{barred, bars_of, no_net, net_at}
use Rattle.loom_project.specs.Classes.{net_classes, class_numbers, barred_numbers, segment_bars}
use Rattle.loom_base.proofs.EachLemmas.{map_next, take_next}
use Rattle.loom_project.proofs.NameLemmas.{all_there, length-each_once}
use Rattle.loom_project.proofs.NetLemmas.{place_below, same_place}

-- the classes with that of one more net
pub classes_next : (xs : List NetDraft) (i : ℕ) (x : NetDraft) → x ≡ get_or xs i x → i < length xs → net_classes (take (i + 1) xs) ≡ with_name (net_classes (take i xs)) x.class
classes_next xs i x is lt =
    ap each_once (map_next (λ net. net.class) xs i x is lt) ∙ fold-append with_name [] (map (λ net. net.class) (take i xs)) (x.class ∷ [])

-- there are no more classes than nets
pub length-net_classes : (xs : List NetDraft) (i : ℕ) → length (net_classes (take i xs)) ≤ length xs
length-net_classes xs i =
    omega (arith, length-each_once (map (λ net. net.class) (take i xs)), length-map (take i xs) (λ net. net.class), length-take i xs)

-- each net's class is among them
pub class_there : (nets : List NetDraft) (n : ℕ) (d : NetDraft) → n < length nets → has_name (net_classes nets) (get_or nets n d).class ≡ true
class_there nets n d lt =
    let names : List (List ℕ) = map (λ net. net.class) nets in
    let here : get_or names n d.class ≡ (get_or nets n d).class = get_or-map (λ net. net.class) nets n d in
    true_from_ne_false (has_name (net_classes nets) (get_or nets n d).class) (λ gone.
    let some : list_all (has_name (net_classes nets)) names ≡ false =
    list_all_at (has_name (net_classes nets)) names n d.class (omega (arith, lt, length-map nets (λ net. net.class))) (ap (has_name (net_classes nets)) here ∙ gone) in
    let all : list_all (has_name (net_classes nets)) names ≡ true = all_there [] names in
    cc)

pub some_of : (o : Option ℕ) → is_some o ≡ true → IsSome o
some_of (Some n) h = search rules
some_of None h = cc

-- a name that is there has its place
place_is : (names : List (List ℕ)) (name : List ℕ) → has_name names name ≡ true → position (bytes_eq name) names ≡ Some (index_of names name)
place_is names name there =
    ap (λ b. cond b (Some (index_of names name)) None)
    (lt-ltb (index_of names name) (length names) (place_below (bytes_eq name) names there))

-- a name that isn't there has none
no_place : (names : List (List ℕ)) (name : List ℕ) → has_name names name ≡ false → position (bytes_eq name) names ≡ None
no_place names name gone =
    ap (λ b. cond b (Some (index_of names name)) None) (false_from_ne_true _ (λ below.
    let within : index_of names name < length names = ltb-true (index_of names name) (length names) below in
    let found : has_name names name ≡ true =
    list_any_at (bytes_eq name) names (index_of names name) [] within (passes_at_first (bytes_eq name) names [] within) in
    cc))

module _ (classes : List (List ℕ)) (class : List ℕ) (there : has_name classes class ≡ true) where
  -- a name that is there has the class's number exactly where it is the class
  same_number : (bar : List ℕ) → has_name classes bar ≡ true → eqb (index_of classes bar) (index_of classes class) ≡ bytes_eq class bar
  same_number bar known =
      elim (bytes_eq class bar) as (λ v. bytes_eq class bar ≡ v → eqb (index_of classes bar) (index_of classes class) ≡ v) [
        | true ↦ λ same. eq-eqb _ _ (ap (index_of classes) (sym ((bytes_eq-Decides class bar).0 same)))
        | false ↦ λ other. false_from_ne_true _ (λ equal.
            let same : bytes_eq class bar ≡ true = same_place classes bar class known there (eqb-true _ _ equal) in cc)
      ] refl

  -- a name that isn't there isn't the class
  other_name : (bar : List ℕ) → has_name classes bar ≡ false → bytes_eq class bar ≡ false
  other_name bar gone = false_from_ne_true _ (λ same.
      let e : has_name classes bar ≡ has_name classes class = ap (has_name classes) (sym ((bytes_eq-Decides class bar).0 same)) in
      cc)

  one_bar : (bar : List ℕ) (rest : List ℕ)
      → list_any (λ b. eqb b (index_of classes class)) (cons_option (position (bytes_eq bar) classes) rest)
      ≡ (bytes_eq class bar || list_any (λ b. eqb b (index_of classes class)) rest)
  one_bar bar rest =
      let is_one : ℕ → Bool = λ b. eqb b (index_of classes class) in
      elim (has_name classes bar) as (λ v. has_name classes bar ≡ v
      → list_any (λ b. eqb b (index_of classes class)) (cons_option (position (bytes_eq bar) classes) rest)
      ≡ (bytes_eq class bar || list_any (λ b. eqb b (index_of classes class)) rest)) [
        | true ↦ λ known. ap (λ o. list_any is_one (cons_option o rest)) (place_is classes bar known)
            ∙ ap (λ b. b || list_any is_one rest) (same_number bar known)
        | false ↦ λ gone. ap (λ o. list_any is_one (cons_option o rest)) (no_place classes bar gone)
            ∙ sym (ap (λ b. b || list_any is_one rest) (other_name bar gone))
      ] refl

  -- bars name the class exactly where its number is among theirs
  pub barred_by_number : (bars : List (List ℕ)) → list_any (λ b. eqb b (index_of classes class)) (barred_numbers classes bars) ≡ has_name bars class
  barred_by_number [] = refl
  barred_by_number (bar ∷ bars) =
      one_bar bar (barred_numbers classes bars) ∙ ap (λ b. bytes_eq class bar || b) (barred_by_number bars)

  -- the same of a draft's segment
  pub barred_at : (segments : List SegmentDraft) (s : ℕ)
      → list_any (λ b. eqb b (index_of classes class)) (get_or (segment_bars classes segments) s [])
      ≡ has_name (get_or (map (λ segment. segment.bars) segments) s []) class
  barred_at segments s =
      let numbers : List (List ℕ) → List ℕ = barred_numbers classes in
      let bars : List (List (List ℕ)) = map (λ segment. segment.bars) segments in
      ap (list_any (λ b. eqb b (index_of classes class)))
      (ap (λ ls. get_or ls s []) (sym (map-map numbers (λ segment. segment.bars) segments)) ∙ get_or-map numbers bars s [])
      ∙ barred_by_number (get_or bars s [])

-- the numbers with that of one more bar
pub numbers_next : (classes : List (List ℕ)) (xs : List (List ℕ)) (i : ℕ) (x : List ℕ) → x ≡ get_or xs i x → i < length xs
    → barred_numbers classes (take (i + 1) xs) ≡ barred_numbers classes (take i xs) ++ cons_option (position (bytes_eq x) classes) []
numbers_next classes xs i x is lt =
    ap (barred_numbers classes) (take_next xs i x is lt)
    ∙ filter_map-append (λ bar. position (bytes_eq bar) classes) (take i xs) (x ∷ [])

filter_alike : (p q : ℕ → Bool) → ((n : ℕ) → p n ≡ q n) → (xs : List ℕ) → filter p xs ≡ filter q xs
filter_alike p q same [] = refl
filter_alike p q same (x ∷ xs) =
    ap (λ b. cond b (x ∷ filter p xs) (filter p xs)) (same x)
    ∙ ap (λ ys. cond (q x) (x ∷ ys) ys) (filter_alike p q same xs)

-- the segments that bar the class of a net, found by its number
pub barred_is : (draft : Draft) (net : ℕ) → net < length draft.nets
    → filter (λ s. list_any (λ b. eqb b (index_of (net_classes draft.nets) (net_at draft net).class)) (get_or (segment_bars (net_classes draft.nets) draft.segments) s []))
    (range_with_len 0 (length draft.segments)) ≡ barred draft (net_at draft net).class
barred_is draft net lt =
    filter_alike _ _ (λ s. barred_at (net_classes draft.nets) (net_at draft net).class (class_there draft.nets net no_net lt) draft.segments s) _

-- the number of a net's class
pub class_at : (nets : List NetDraft) (numbers : List ℕ) (n : ℕ) → numbers ≡ class_numbers nets → n < length nets
    → get_or numbers n 0 ≡ index_of (net_classes nets) (get_or nets n no_net).class
class_at nets numbers n same lt =
    ap (λ ns. get_or ns n 0) same ∙ at-map (λ net. index_of (net_classes nets) net.class) nets n no_net 0 lt

-- the bars of a segment name the class of a net exactly where its number is among theirs
pub bars_name : (draft : Draft) (net s number : ℕ) (bars : List (List ℕ)) (row element : List ℕ) → net < length draft.nets → s < length draft.segments
    → bars ≡ segment_bars (net_classes draft.nets) draft.segments → row ≡ element → element ≡ get_or bars s element
    → number ≡ index_of (net_classes draft.nets) (net_at draft net).class
    → list_any (λ b. eqb b number) row ≡ has_name (bars_of draft s) (net_at draft net).class
bars_name draft net s number bars row element lt within same row_is is number_is =
    let classes : List (List ℕ) = net_classes draft.nets in
    let there : s < length bars = omega (arith, within, ap length same, length-map draft.segments (λ segment. barred_numbers classes segment.bars)) in
    let here : row ≡ get_or (segment_bars classes draft.segments) s [] =
    row_is ∙ is ∙ get_or_default bars s element [] there ∙ ap (λ ls. get_or ls s []) same in
    ap (λ n. list_any (λ b. eqb b n) row) number_is
    ∙ ap (list_any (λ b. eqb b (index_of classes (net_at draft net).class))) here
    ∙ barred_at classes (net_at draft net).class (class_there draft.nets net no_net lt) draft.segments s
