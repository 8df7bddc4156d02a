-- The nets of sets, each once, in the order in which they first come.
use Rattle.std.proofs.Common.{◌≡◌, ◌≢◌, ℕ, suc, ◌+◌, ◌<◌, ◌||◌, cond, eqb, inl, inr, Bool, true, false, not, List, [], ◌∷◌, ◌++◌, length, map, filter, take, get_or, append-nil, refl, sym, ap, ◌∙◌, arith}
use Rattle.std.specs.Prelude.{nat_eq}
use Rattle.std.specs.List.{list_any}
use Rattle.std.specs.HashSet.{HashSet, IsEmpty, contains, Updates}
use Rattle.std.proofs.lemmas.Bool.{cases_Bool, cases_eq, eq-eqb, ne_eqb, true≢false}
use Rattle.std.proofs.lemmas.List.{map_push}
use Rattle.std.proofs.lemmas.List.Elements.{filter-append}
use Rattle.std.proofs.lemmas.List.Folds.{list_any-append}
use Rattle.std.proofs.Math.Seq.{take-suc}
use Rattle.loom_types.specs.declared.plan.SetLine.{SetLine}
use Rattle.loom_types.specs.Modules.{distinct_in_order}

abbrev pub among : ℕ → List ℕ → Bool
among n ns = list_any (λ m. eqb m n) ns

with_new : (k n : ℕ) (ns : List ℕ) → k ≢ n → filter (λ m. not (eqb m k)) (ns ++ n ∷ []) ≡ filter (λ m. not (eqb m k)) ns ++ n ∷ []
with_new k n ns apart =
    filter-append (λ m. not (eqb m k)) ns (n ∷ [])
    ∙ ap (λ b. filter (λ m. not (eqb m k)) ns ++ cond (not b) (n ∷ []) []) (ne_eqb n k (λ e. apart (sym e)))

with_same : (k n : ℕ) (ns : List ℕ) → k ≡ n → filter (λ m. not (eqb m k)) (ns ++ n ∷ []) ≡ filter (λ m. not (eqb m k)) ns
with_same k n ns same =
    filter-append (λ m. not (eqb m k)) ns (n ∷ [])
    ∙ (ap (λ b. filter (λ m. not (eqb m k)) ns ++ cond (not b) (n ∷ []) []) (eq-eqb n k (sym same)) ∙ append-nil (filter (λ m. not (eqb m k)) ns))

-- the head is another number, or the rest has it
among-split : (n k : ℕ) (ns : List ℕ) → k ≢ n → among n (k ∷ ns) ≡ among n ns
among-split n k ns apart = ap (λ b. b || among n ns) (ne_eqb k n apart)

among-head : (n k : ℕ) (ns : List ℕ) → k ≡ n → among n (k ∷ ns) ≡ true
among-head n k ns same = ap (λ b. b || among n ns) (eq-eqb k n same)

-- a number that isn't there comes last
pub distinct-new : (ns : List ℕ) (n : ℕ) → among n ns ≡ false → distinct_in_order (ns ++ n ∷ []) ≡ distinct_in_order ns ++ n ∷ []
distinct-new [] n absent = refl
distinct-new (k ∷ ns) n absent = elim (cases_eq k n) [
  | inl same ↦ absurd (true≢false (sym (among-head n k ns same) ∙ absent))
  | inr apart ↦
      let rest : among n ns ≡ false = sym (among-split n k ns apart) ∙ absent in
      ap (λ (l : List ℕ). k ∷ filter (λ m. not (eqb m k)) l) (distinct-new ns n rest)
      ∙ ap (λ (l : List ℕ). k ∷ l) (with_new k n (distinct_in_order ns) apart)
]

-- a number that is there changes nothing
pub distinct-seen : (ns : List ℕ) (n : ℕ) → among n ns ≡ true → distinct_in_order (ns ++ n ∷ []) ≡ distinct_in_order ns
distinct-seen [] n there = absurd (true≢false (sym there))
distinct-seen (k ∷ ns) n there = elim (cases_Bool (among n ns)) [
  | inl again ↦ ap (λ (l : List ℕ). k ∷ filter (λ m. not (eqb m k)) l) (distinct-seen ns n again)
  | inr absent ↦ elim (cases_eq k n) [
    | inl same ↦
        ap (λ (l : List ℕ). k ∷ filter (λ m. not (eqb m k)) l) (distinct-new ns n absent)
        ∙ ap (λ (l : List ℕ). k ∷ l) (with_same k n (distinct_in_order ns) same)
    | inr apart ↦ absurd (true≢false (sym there ∙ (among-split n k ns apart ∙ absent)))
  ]
]

-- the nets of the first so many sets are listed, and they are those that were seen
pub record AreNetsOf {S : Type 0} (sets : List SetLine) (k : ℕ) (nets : List ℕ) (seen : HashSet ℕ S) : Type 0 where
  pub listed : nets ≡ distinct_in_order (map (λ set. set.net.0) (take k sets))
  pub has : (n : ℕ) → contains nat_eq seen n ≡ among n (map (λ set. set.net.0) (take k sets))

pub nets-none : {S : Type 0} (sets : List SetLine) (nets : List ℕ) (seen : HashSet ℕ S) → nets ≡ [] → IsEmpty seen → AreNetsOf sets 0 nets seen
nets-none sets nets seen none empty = record { listed = none; has = λ n. ap (list_any (λ m. eqb n m)) empty }

joined : (x y : Bool) → cond x true y ≡ (y || (x || false))
joined true true = refl
joined true false = refl
joined false true = refl
joined false false = refl

-- a list with one more number has what was there, and that one
among-push : (n m : ℕ) (ns : List ℕ) → among n (ns ++ m ∷ []) ≡ (among n ns || (eqb m n || false))
among-push n m ns = list_any-append (λ k. eqb k n) ns (m ∷ [])

module _ (sets : List SetLine) (k : ℕ) (set : SetLine) (within : k < length sets) (here : set ≡ get_or sets k set) where
  nets_then : map (λ s. s.net.0) (take (k + 1) sets) ≡ map (λ s. s.net.0) (take k sets) ++ set.net.0 ∷ []
  nets_then =
      let next : k + 1 ≡ suc k = omega arith in
      ap (λ (j : ℕ). map (λ (s : SetLine). s.net.0) (take j sets)) next
      ∙ (ap (map (λ s. s.net.0)) (take-suc sets k set within)
      ∙ (map_push (λ s. s.net.0) (take k sets) (get_or sets k set)
      ∙ ap (λ (s : SetLine). map (λ (s : SetLine). s.net.0) (take k sets) ++ s.net.0 ∷ []) (sym here)))

  module _ {S : Type 0} (nets : List ℕ) (old new : HashSet ℕ S) (before : AreNetsOf sets k nets old) (updates : Updates nat_eq old new set.net.0 true) where
    has_then : (n : ℕ) → contains nat_eq new n ≡ among n (map (λ s. s.net.0) (take (k + 1) sets))
    has_then n =
        updates.0 n
        ∙ (joined (eqb set.net.0 n) (contains nat_eq old n)
        ∙ (ap (λ b. b || (eqb set.net.0 n || false)) (before.has n)
        ∙ (sym (among-push n set.net.0 (map (λ s. s.net.0) (take k sets)))
        ∙ ap (λ (l : List ℕ). among n l) (sym nets_then))))

    pub nets-seen : contains nat_eq old set.net.0 ≡ true → AreNetsOf sets (k + 1) nets new
    nets-seen there = record {
      listed =
          before.listed
          ∙ (sym (distinct-seen (map (λ s. s.net.0) (take k sets)) set.net.0 (sym (before.has set.net.0) ∙ there))
          ∙ ap distinct_in_order (sym nets_then));
      has = has_then;
    }

    pub nets-more : (longer : List ℕ) → contains nat_eq old set.net.0 ≡ false → longer ≡ nets ++ set.net.0 ∷ [] → AreNetsOf sets (k + 1) longer new
    nets-more longer absent pushed = record {
      listed =
          pushed
          ∙ (ap (λ (l : List ℕ). l ++ set.net.0 ∷ []) before.listed
          ∙ (sym (distinct-new (map (λ s. s.net.0) (take k sets)) set.net.0 (sym (before.has set.net.0) ∙ absent))
          ∙ ap distinct_in_order (sym nets_then)));
      has = has_then;
    }
