-- Shutting the segments of a list, one after another.
use Rattle.std.proofs.Common.{◌≡◌, ◌<◌, ◌||◌, [], ◌∷◌, ◌++◌, length, get_or, map, ℕ, List, true, false, eqb, sym, ap, ◌∙◌, refl, arith, inl, inr}
use Rattle.std.specs.List.{list_any}
use Rattle.std.proofs.Math.ListN.{set}
use Rattle.std.proofs.Math.Bool.{or-true, or-false}
use Rattle.std.proofs.lemmas.Bool.{cases_eq, eq-eqb, ne_eqb}
use Rattle.std.proofs.lemmas.List.{length-set, length-map, get_or-map, get_or-set_same, get_or-set_other, get_or_default, same_lists}
use Rattle.std.proofs.lemmas.List.FromFn.{length-map-range_with_len, get_or-map-range_with_len}
use Rattle.std.proofs.lemmas.List.Folds.{list_any-append}
use Rattle.loom_topology.specs.Topology.{Segment, TopologyView, no_segment, shut_if, shut_among, shut_in, IsSound}

-- the new segments are the old ones, of which exactly those of the list are shut
pub record IsShut (new old : List Segment) (list : List ℕ) : Type 0 where
  pub count : length new ≡ length old
  pub each : (k : ℕ) → k < length old → get_or new k no_segment ≡ shut_if (list_any (eqb k) list) (get_or old k no_segment)

-- segment s is shut next
pub IsShut-push : (new after old : List Segment) (list : List ℕ) (s : ℕ) (g : Segment) → IsShut new old list → s < length old → g ≡ shut_if true (get_or new s no_segment) → after ≡ set new s g → IsShut after old (list ++ s ∷ [])
IsShut-push new after old list s g shut within closed e = record {
  count = ap length e ∙ length-set new s g ∙ shut.count;
  each = λ k below.
      let h = get_or old k no_segment in
      ap (λ l. get_or l k no_segment) e
      ∙ elim (cases_eq k s) [
        | inl same ↦
            let here : list_any (eqb k) (list ++ s ∷ []) ≡ true =
            list_any-append (eqb k) list (s ∷ [])
            ∙ ap (λ b. list_any (eqb k) list || (b || false)) (eq-eqb k s same)
            ∙ or-true (list_any (eqb k) list) in
            ap (λ j. get_or (set new s g) j no_segment) same
            ∙ get_or-set_same new s g no_segment (omega (arith, shut.count))
            ∙ closed
            ∙ ap (shut_if true) (ap (λ j. get_or new j no_segment) (sym same) ∙ shut.each k below)
            ∙ ap (λ b. shut_if b h) (sym here)
        | inr other ↦
            let there : list_any (eqb k) (list ++ s ∷ []) ≡ list_any (eqb k) list =
            list_any-append (eqb k) list (s ∷ [])
            ∙ ap (λ b. list_any (eqb k) list || (b || false)) (ne_eqb k s other)
            ∙ or-false (list_any (eqb k) list) in
            get_or-set_other new s k g no_segment other
            ∙ shut.each k below
            ∙ ap (λ b. shut_if b h) (sym there)
      ];
}

pub length-shut_among : (old : List Segment) (list : List ℕ) → length (shut_among old list) ≡ length old
unfolding shut_among
length-shut_among old list = length-map-range_with_len _ 0 (length old)

-- a segment after the shutting
pub get_or-shut_among : (old : List Segment) (list : List ℕ) (k : ℕ) (d : Segment) → k < length old → get_or (shut_among old list) k d ≡ shut_if (list_any (eqb k) list) (get_or old k no_segment)
unfolding shut_among
get_or-shut_among old list k d below = get_or-map-range_with_len _ 0 (length old) k k d below (omega arith)

-- where none is shut, none of the list is
pub IsShut-none : (old : List Segment) → old ≡ shut_among old [] → IsShut old old []
IsShut-none old opened = record {
  count = refl;
  each = λ k below. ap (λ l. get_or l k no_segment) opened ∙ get_or-shut_among old [] k no_segment below;
}

pub same_from_IsShut : (new old : List Segment) (list : List ℕ) → IsShut new old list → new ≡ shut_among old list
same_from_IsShut new old list shut =
    same_lists new (shut_among old list) (shut.count ∙ sym (length-shut_among old list))
    (λ k d below.
    let within : k < length old = omega (arith, shut.count) in
    get_or_default new k d no_segment below
    ∙ shut.each k within
    ∙ sym (get_or-shut_among old list k d within))

-- what was shut before doesn't matter
pub shut_among-shut_among : (old : List Segment) (before list : List ℕ) → shut_among (shut_among old before) list ≡ shut_among old list
shut_among-shut_among old before list =
    same_lists (shut_among (shut_among old before) list) (shut_among old list)
    (length-shut_among (shut_among old before) list ∙ length-shut_among old before ∙ sym (length-shut_among old list))
    (λ k d below.
    let inner : k < length (shut_among old before) = omega (arith, length-shut_among (shut_among old before) list) in
    let within : k < length old = omega (arith, inner, length-shut_among old before) in
    get_or-shut_among (shut_among old before) list k d inner
    ∙ ap (shut_if (list_any (eqb k) list)) (get_or-shut_among old before k no_segment within)
    ∙ sym (get_or-shut_among old list k d within))

-- where all are opened, none is shut
pub map-shut_if_false : (old : List Segment) → map (shut_if false) old ≡ shut_among old []
map-shut_if_false old =
    same_lists (map (shut_if false) old) (shut_among old [])
    (length-map old (shut_if false) ∙ sym (length-shut_among old []))
    (λ k d below.
    let within : k < length old = omega (arith, length-map old (shut_if false)) in
    get_or-map (shut_if false) old k no_segment d within
    ∙ sym (get_or-shut_among old [] k d within))

-- the shut topology is sound
pub IsSound-shut_in : (topology : TopologyView) (list : List ℕ) → IsSound topology → IsSound (shut_in topology list)
IsSound-shut_in topology list sound = record {
  segments = λ k d below.
      let within : k < length topology.segments = omega (arith, length-shut_among topology.segments list) in
      let h = sound.segments k no_segment within in
      rw (get_or-shut_among topology.segments list k d within) (record {
        from_below = h.from_below;
        to_below = h.to_below;
        apart = h.apart;
        price_from = h.price_from;
        price_to = h.price_to;
      });
  borders = λ k d below.
      let within : k < length topology.segments = omega (arith, length-shut_among topology.segments list) in
      let border = sound.borders k no_segment within in
      rw (get_or-shut_among topology.segments list k d within) border;
  cavities = sound.cavities;
  branches = sound.branches;
  few_nodes = sound.few_nodes;
  few_segments = omega (arith, sound.few_segments, length-shut_among topology.segments list);
  few_cavities = sound.few_cavities;
}
