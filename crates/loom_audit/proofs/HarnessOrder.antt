-- Modules in the order of their harnesses.
use Rattle.std.proofs.Common.{◌≡◌, ℕ, zero, suc, ◌+◌, ◌<◌, ◌≤◌, inl, inr, Bool, true, false, cond, not, ◌&&◌, List, [], ◌∷◌, ◌++◌, map, refl, sym, ap, ◌∙◌, arith, eqb, ltb}
use Rattle.std.specs.List.{filter, flat_map, range_with_len, All}
use Rattle.std.specs.List.Sorted.{IsNonDecreasingBy, IsStableByKey}
use Rattle.std.specs.Ordering.{nat_cmp, is_lt}
use Rattle.std.specs.declared.cmp.Ordering.TheVariants.{Less, Equal, Greater}
use Rattle.std.proofs.lemmas.Bool.{cases_Bool, cases_eq, cases_lt, cond-true, cond-false, eq-eqb, ne_eqb, lt-ltb, le-ltb}
use Rattle.std.proofs.lemmas.List.Elements.{All-head, All-tail, All-weaker}
use Rattle.loom_topology.specs.Topology.{TopologyView}
use Rattle.loom_types.specs.declared.plan.Module.{Module}
use Rattle.loom_types.specs.declared.wire.Wire.{Wire}
use Rattle.loom_types.specs.Modules.{module_of, modules_of, rows_in}
use Rattle.loom_audit.specs.Grouping.{greatest_harness, AreGrouped}

-- ---- ties

lt_cmp : (a b : ℕ) → is_lt (nat_cmp a b) ≡ ltb a b
lt_cmp a b =
    elim (cases_Bool (ltb a b)) [
      | inl t ↦ ap (λ c. is_lt (cond c Less (cond (eqb a b) Equal Greater))) t ∙ sym t
      | inr f ↦ ap (λ c. is_lt (cond c Less (cond (eqb a b) Equal Greater))) f ∙ (small (eqb a b) ∙ sym f)
    ]
  where
    small : (c : Bool) → is_lt (cond c Equal Greater) ≡ false
    small true = refl
    small false = refl

tie_is : (a b : ℕ) → (not (is_lt (nat_cmp a b)) && not (is_lt (nat_cmp b a))) ≡ eqb b a
tie_is a b =
    ap (λ c. not c && not (is_lt (nat_cmp b a))) (lt_cmp a b)
    ∙ (ap (λ c. not (ltb a b) && not c) (lt_cmp b a)
    ∙ elim (cases_lt a b) as (λ _. (not (ltb a b) && not (ltb b a)) ≡ eqb b a) [
      | inl lt ↦ ap (λ c. not c && not (ltb b a)) (lt-ltb a b lt) ∙ sym (ne_eqb b a (λ e. absurd (omega arith)))
      | inr le ↦
          ap (λ c. not c && not (ltb b a)) (le-ltb a b le)
          ∙ elim (cases_lt b a) as (λ _. not (ltb b a) ≡ eqb b a) [
            | inl lt ↦ ap not (lt-ltb b a lt) ∙ sym (ne_eqb b a (λ e. absurd (omega arith)))
            | inr back ↦ ap not (le-ltb b a back) ∙ sym (eq-eqb b a (omega arith))
          ]
    ])

-- the modules of a harness stand in their order
pub of_harness : (grouped sorted : List Module) → IsStableByKey (λ m. m.harness) nat_cmp grouped sorted → (h : ℕ)
    → filter (λ m. eqb m.harness h) sorted ≡ filter (λ m. eqb m.harness h) grouped
of_harness grouped sorted stable h =
    let x : Module = record { harness = h; row = 0; wires = [] } in
    let same : (λ (m : Module). not (is_lt (nat_cmp h m.harness)) && not (is_lt (nat_cmp m.harness h))) ≡ (λ (m : Module). eqb m.harness h) =
    λ i m. tie_is h m.harness i in
    sym (ap (λ (p : Module → Bool). filter p sorted) same) ∙ (stable x ∙ ap (λ (p : Module → Bool). filter p grouped) same)

-- ---- rising harnesses

abbrev Rises : List Module → Type 0
Rises [] = Unit {0}
Rises (m ∷ modules) = All (λ other. m.harness ≤ other.harness) modules × Rises modules

pub rises : (modules : List Module) → IsNonDecreasingBy (λ m. m.harness) modules → Rises modules
rises [] h = tt
rises (m ∷ modules) h = (
  λ k none within. h 0 (suc k) none (omega arith) (omega arith),
  rises modules (λ i j none le within. h (suc i) (suc j) none (omega arith) (omega arith)),
)

filter_none : (h : ℕ) (modules : List Module) → All (λ m. h < m.harness) modules → filter (λ m. eqb m.harness h) modules ≡ []
filter_none h [] all = refl
filter_none h (m ∷ modules) all =
    let above : h < m.harness = All-head (λ m. h < m.harness) m modules all in
    cond-false (eqb m.harness h) (m ∷ filter (λ m. eqb m.harness h) modules) (filter (λ m. eqb m.harness h) modules) (ne_eqb m.harness h (λ e. absurd (omega arith)))
    ∙ filter_none h modules (All-tail (λ m. h < m.harness) m modules all)

abbrev by_harness : List Module → ℕ → ℕ → List Module
by_harness modules first count = flat_map (λ h. filter (λ m. eqb m.harness h) modules) (range_with_len first count)

-- a module below the harnesses isn't among them
below_all : (first count : ℕ) (m : Module) (modules : List Module) → m.harness < first → by_harness (m ∷ modules) first count ≡ by_harness modules first count
below_all first zero m modules below = refl
below_all first (suc count) m modules below =
    ap (λ (l : List Module). l ++ by_harness (m ∷ modules) (first + 1) count)
    (cond-false (eqb m.harness first) (m ∷ filter (λ m. eqb m.harness first) modules) (filter (λ m. eqb m.harness first) modules) (ne_eqb m.harness first (λ e. absurd (omega arith))))
    ∙ ap (λ (l : List Module). filter (λ m. eqb m.harness first) modules ++ l) (below_all (first + 1) count m modules (omega arith))

-- a module in front of those of its harness and of later ones comes first
in_front : (first count : ℕ) (m : Module) (modules : List Module) → first ≤ m.harness → m.harness < first + count
    → All (λ other. m.harness ≤ other.harness) modules → by_harness (m ∷ modules) first count ≡ m ∷ by_harness modules first count
in_front first zero m modules from below all = absurd (omega arith)
in_front first (suc count) m modules from below all =
    elim (cases_eq m.harness first) [
      | inl e ↦
          ap (λ (l : List Module). l ++ by_harness (m ∷ modules) (first + 1) count)
          (cond-true (eqb m.harness first) (m ∷ filter (λ m. eqb m.harness first) modules) (filter (λ m. eqb m.harness first) modules) (eq-eqb m.harness first e))
          ∙ ap (λ (l : List Module). m ∷ (filter (λ m. eqb m.harness first) modules ++ l)) (below_all (first + 1) count m modules (omega arith))
      | inr other ↦
          let none : filter (λ m. eqb m.harness first) modules ≡ [] =
          filter_none first modules (All-weaker (λ other. m.harness ≤ other.harness) (λ other. first < other.harness) (λ o le. omega arith) modules all) in
          ap (λ (l : List Module). l ++ by_harness (m ∷ modules) (first + 1) count)
          (cond-false (eqb m.harness first) (m ∷ filter (λ m. eqb m.harness first) modules) (filter (λ m. eqb m.harness first) modules) (ne_eqb m.harness first other) ∙ none)
          ∙ (in_front (first + 1) count m modules (omega arith) (omega arith) all
          ∙ ap (λ (l : List Module). m ∷ (l ++ by_harness modules (first + 1) count)) (sym none))
    ]

no_modules : (first count : ℕ) → by_harness [] first count ≡ []
no_modules first zero = refl
no_modules first (suc count) = no_modules (first + 1) count

-- modules whose harnesses rise are those of each harness, one after another
pub harness_by_harness : (count : ℕ) (modules : List Module) → Rises modules → All (λ m. m.harness < count) modules → modules ≡ by_harness modules 0 count
harness_by_harness count [] rising all = sym (no_modules 0 count)
harness_by_harness count (m ∷ modules) rising all =
    let here : m.harness < count = All-head (λ m. m.harness < count) m modules all in
    ap (λ (l : List Module). m ∷ l) (harness_by_harness count modules rising.1 (All-tail (λ m. m.harness < count) m modules all))
    ∙ sym (in_front 0 count m modules (omega arith) (omega arith) rising.0)

pub modules_are : (topology : TopologyView) (wires : List Wire) (grouped sorted : List Module) → AreGrouped topology wires grouped
    → IsNonDecreasingBy (λ m. m.harness) sorted → IsStableByKey (λ m. m.harness) nat_cmp grouped sorted
    → All (λ m. m.harness ≤ greatest_harness topology) sorted → sorted ≡ modules_of topology wires
modules_are topology wires grouped sorted are rising stable known =
    let below : All (λ m. m.harness < suc (greatest_harness topology)) sorted =
    All-weaker (λ m. m.harness ≤ greatest_harness topology) (λ m. m.harness < suc (greatest_harness topology)) (λ m le. omega arith) sorted known in
    let each : (λ (h : ℕ). filter (λ m. eqb m.harness h) sorted) ≡ (λ (h : ℕ). map (module_of topology wires h) (rows_in topology wires h)) =
    λ i h. (of_harness grouped sorted stable h ∙ are.each h) i in
    harness_by_harness (suc (greatest_harness topology)) sorted (rises sorted rising) below
    ∙ ap (λ (f : ℕ → List Module). flat_map f (range_with_len 0 (suc (greatest_harness topology)))) each
