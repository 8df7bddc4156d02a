-- No inequality breaks exactly where the table is legal.
use Rattle.std.proofs.Common.{ℕ, List, Option, Some, None, true, Ok, Err, IsOk, ◌↔◌, length, map, slice_index, bit_and, bit_or, bit_xor, min, max, nat_le, ◌==◌, ◌≡◌, ◌+◌, ◌-◌, ◌%◌, ◌^◌, ◌<◌, ◌≤◌, refl, sym, ap, ◌∙◌, subst, inl, inr, arith, pow_pos}
use Rattle.std.specs.Int.{bit_at, w32}
use Rattle.std.specs.List.{All}
use Rattle.std.proofs.Math.Pow.{pow-lt, pow_mono}
use Rattle.std.proofs.lemmas.Bool.{cases_Bool, cases_eq, cases_lt, and_parts, and_from, eqb-true, eq-eqb, leb-true, le-leb, cond-true, cond-false, false≢true}
use Rattle.std.proofs.lemmas.List.Elements.{All-get_or, All-map}
use Rattle.std.proofs.lemmas.List.{length-map}
use Rattle.std.proofs.lemmas.Nat.{or_disjoint, and_comm, and_or_self}
use Rattle.std.proofs.lemmas.Nat.Bits.{bit_at_and, bit_at_or, bit_at_xor, bit_at-zero, bit_at-lt, bit_at-pow_other, bit_at-trailing_zeros, same_from_bits}
use Rattle.loom_topology.specs.Topology.{TopologyView, IsSound, Leads, open_among, segment_at, branch_at, price_at, node_of, is_open_to}
use Rattle.loom_topology.specs.WiringTree.{other_end}
use Rattle.loom_topology.specs.Legal.{IsLegal, IsMask, IsAtMost, HoldsFirst, SplitHolds, plus}
use Rattle.loom_topology.proofs.Places.{open_below}
use Rattle.loom_topology.proofs.Sound.{sound-cavity}
use Rattle.loom_topology.proofs.FirstCavity.{first_cavity_suffices}
use Rattle.loom_topology.proofs.LowerBound.{legal_is_below_every_tree}
use Rattle.loom_potential.specs.declared.first_break.FirstBreak.{FirstBreak}
use Rattle.loom_potential.specs.declared.first_break.Part.{Part}
use Rattle.loom_potential.specs.declared.first_break.Part.TheVariants.{Leaf, Over, Split}
use Rattle.loom_base.specs.First.{Check, ◌>>◌}
use Rattle.loom_potential.specs.FirstBreak.{at_most, first_bit, is_one_at, leaf_check, over_check, split_check, is_first_part, first_parts, over_checks, split_checks, cell_check, mask_check, first_break}
use Rattle.loom_potential.specs.Lowest.{IsBelowEveryTree}
use Rattle.loom_potential.proofs.Within.{within_bits}
use Rattle.loom_potential.proofs.FirstParts.{is_part_true, part_is_true}
use Rattle.loom_base.proofs.EachLemmas.{then-parts}
use Rattle.loom_potential.proofs.Checks.{all_pass, every_range-each, every_range-from_each, every_filter-each, every_filter-from_each}
use Rattle.loom_topology.proofs.OpenAt.{open_leads, leads_open, leads_to}
use Rattle.loom_potential.proofs.OneAt.{pow_below}

-- an inequality passes exactly where it holds
at_most-holds : (mask v : ℕ) (part : Part) (left right : Option ℕ) → at_most mask v part left right ≡ Ok tt → IsAtMost left right
at_most-holds mask v part left None passed = tt
at_most-holds mask v part None (Some n) passed = absurd (cc)
at_most-holds mask v part (Some m) (Some n) passed =
    elim (cases_Bool (nat_le m n)) [
      | inl held ↦ leb-true m n held
      | inr more ↦ absurd (let failed = rw more at passed in cc)
    ]

pub at_most-passes : (mask v : ℕ) (part : Part) (left right : Option ℕ) → IsAtMost left right → at_most mask v part left right ≡ Ok tt
at_most-passes mask v part left None holds = refl
at_most-passes mask v part None (Some n) holds = absurd holds
at_most-passes mask v part (Some m) (Some n) holds = rw (le-leb m n holds) refl

-- where all open segments at a node pass, the inequality over one that leads to another node holds
pub over_passed-holds : (topology : TopologyView) (P : ℕ → ℕ → Option ℕ) (mask v s u : ℕ) → Leads topology s v u
    → over_checks topology P mask v ≡ Ok tt → IsAtMost (P mask v) (plus (P mask u) (Some (price_at topology s)))
unfolding over_checks open_among
over_passed-holds topology P mask v s u leads passed =
    let within : s < length topology.segments = open_below topology s leads.0 in
    let check : over_check topology P mask v s ≡ Ok tt =
    every_filter-each (over_check topology P mask v) (λ t. is_open_to (segment_at topology t) v) 0 (length topology.segments)
    passed s (omega arith) (omega arith) (leads_open topology s v u leads) in
    subst (λ x. IsAtMost (P mask v) (plus (P mask x) (Some (price_at topology s)))) (leads_to topology s v u leads)
    (at_most-holds mask v (Over (record { 0 = s })) (P mask v)
    (plus (P mask (other_end (segment_at topology s) v)) (Some (price_at topology s))) check)

-- the first bit of one bit, and of a mask whose first cavity a part holds
first_bit-pow : (i : ℕ) → 2 ^ i < 2 ^ 32 → first_bit (2 ^ i) ≡ i
first_bit-pow i small =
    let at = bit_at-trailing_zeros w32 (2 ^ i) (pow_pos i) small in
    elim (cases_eq (first_bit (2 ^ i)) i) [
      | inl e ↦ e
      | inr other ↦
          let none : bit_at (2 ^ i) (first_bit (2 ^ i)) ≡ 0 = bit_at-pow_other i (first_bit (2 ^ i)) other in
          absurd (one_zero (bit_at (2 ^ i) (first_bit (2 ^ i))) at.1 none)
    ]
  where
    one_zero : (b : ℕ) → b ≡ 1 → b ≡ 0 → ⊥
    one_zero b one none = omega arith

holds_part : (a b : ℕ) → 0 < b → bit_and a b ≡ 0 → HoldsFirst a (a + b) → a + b < 2 ^ 32 → 0 < a + b
    → is_first_part (a + b) a ≡ true
holds_part a b some_b apart (i, here, none) small some =
    let union : bit_or b a ≡ a + b = or_disjoint b a (and_comm b a ∙ apart) ∙ omega arith in
    let within : bit_and a (a + b) ≡ a = and_comm a (a + b) ∙ rw (← union) (and_or_self a b) in
    let at = bit_at-trailing_zeros w32 (a + b) some small in
    let same : first_bit (a + b) ≡ i =
    elim (cases_lt (first_bit (a + b)) i) [
      | inl before ↦ absurd (one_zero (bit_at (a + b) (first_bit (a + b))) at.1 (none (first_bit (a + b)) before))
      | inr from ↦ elim (cases_eq (first_bit (a + b)) i) [
        | inl e ↦ e
        | inr other ↦
            let empty : bit_at (a + b) i ≡ 0 = at.2 i (omega arith) in
            absurd (le_none (bit_at a i) (bit_at (a + b) i) here empty (within_bits a (a + b) within i))
      ]
    ] in
    part_is_true (a + b) a (record { within = within; first = ap (bit_at a) same ∙ here })
  where
    one_zero : (b : ℕ) → b ≡ 1 → b ≡ 0 → ⊥
    one_zero b one none = omega arith

    le_none : (x y : ℕ) → x ≡ 1 → y ≡ 0 → x ≤ y → ⊥
    le_none x y one none below = omega arith

-- the rest of a part shares no bit with it
rest_apart : (mask part : ℕ) → bit_and part mask ≡ part → bit_and part (mask - part) ≡ 0
rest_apart mask part within =
    let apart : bit_and part (bit_xor mask part) ≡ 0 = same_from_bits (bit_and part (bit_xor mask part)) 0 (λ i.
    bit_at_and part (bit_xor mask part) i
    ∙ (ap (min (bit_at part i)) (bit_at_xor mask part i)
    ∙ (none_both (bit_at part i) (bit_at mask i) (within_bits part mask within i) (bit_at-lt mask i) ∙ sym (bit_at-zero i)))) in
    let union : bit_or part (bit_xor mask part) ≡ mask = same_from_bits (bit_or part (bit_xor mask part)) mask (λ i.
    bit_at_or part (bit_xor mask part) i
    ∙ (ap (max (bit_at part i)) (bit_at_xor mask part i)
    ∙ either_one (bit_at part i) (bit_at mask i) (within_bits part mask within i) (bit_at-lt mask i))) in
    let sum : part + bit_xor mask part ≡ mask = sym (or_disjoint part (bit_xor mask part) apart) ∙ union in
    let rest : mask - part ≡ bit_xor mask part = omega arith in
    ap (bit_and part) rest ∙ apart
  where
    none_both : (p m : ℕ) → p ≤ m → m < 2 → min p ((m + p) % 2) ≡ 0
    none_both p m below small = omega arith

    either_one : (p m : ℕ) → p ≤ m → m < 2 → max p ((m + p) % 2) ≡ m
    either_one p m below small = omega arith

module _ (topology : TopologyView) (terminals : List ℕ) (P : ℕ → ℕ → Option ℕ) (sound : IsSound topology)
    (few : length terminals ≤ 12) (in_range : All (λ c. c < length topology.cavities) terminals) where
  small_mask : (mask : ℕ) → IsMask terminals mask → mask < 2 ^ 32
  small_mask mask range =
      let bound : 2 ^ (length terminals - 1) ≤ 2 ^ 32 = (let at_most : length terminals - 1 ≤ 32 = omega arith in pow_mono at_most) in
      let low : mask < 2 ^ (length terminals - 1) = range.1 in
      omega arith

  module _ (passed : first_break topology terminals P ≡ Ok tt) where
    cell_passed : (mask v : ℕ) → IsMask terminals mask → v < length topology.nodes → cell_check topology terminals P mask v ≡ Ok tt
    unfolding first_break mask_check
    cell_passed mask v range node =
        every_range-each (cell_check topology terminals P mask) 0 (length topology.nodes)
        (every_range-each (mask_check topology terminals P) 1 (2 ^ (length terminals - 1) - 1) passed mask range.0
        (let low : mask < 2 ^ (length terminals - 1) = range.1 in omega arith))
        v (omega arith) (omega arith)

    parts_passed : (mask v : ℕ) → IsMask terminals mask → v < length topology.nodes
        → (leaf_check topology terminals P mask v ≡ Ok tt) × (over_checks topology P mask v ≡ Ok tt) × (split_checks topology P mask v ≡ Ok tt)
    parts_passed mask v range node =
        let one = then-parts (leaf_check topology terminals P mask v) (over_checks topology P mask v >> split_checks topology P mask v) tt
        (cell_passed mask v range node) in
        let two = then-parts (over_checks topology P mask v) (split_checks topology P mask v) tt one.1 in
        (one.0, two.0, two.1)

    leaf_holds : (i : ℕ) → i + 1 < length terminals → IsAtMost (P (2 ^ i) (node_of topology (slice_index terminals (i + 1)))) (Some 0)
    leaf_holds i h =
        let before : i < length terminals - 1 = omega arith in
        let range : IsMask terminals (2 ^ i) = (pow_pos i, pow-lt before) in
        let node : node_of topology (slice_index terminals (i + 1)) < length topology.nodes =
        sound-cavity topology sound (slice_index terminals (i + 1)) (All-get_or (λ c. c < length topology.cavities) terminals (i + 1) 0 h in_range) in
        let bit : first_bit (2 ^ i) ≡ i = first_bit-pow i (small_mask (2 ^ i) range) in
        let one : is_one_at topology terminals (2 ^ i) (node_of topology (slice_index terminals (i + 1))) ≡ true =
        and_from (2 ^ i == 2 ^ first_bit (2 ^ i))
        (node_of topology (slice_index terminals (first_bit (2 ^ i) + 1)) == node_of topology (slice_index terminals (i + 1)))
        (eq-eqb (2 ^ i) (2 ^ first_bit (2 ^ i)) (ap (λ k. 2 ^ k) (sym bit)))
        (eq-eqb (node_of topology (slice_index terminals (first_bit (2 ^ i) + 1))) (node_of topology (slice_index terminals (i + 1)))
        (ap (λ k. node_of topology (slice_index terminals (k + 1))) bit)) in
        let leaf : leaf_check topology terminals P (2 ^ i) (node_of topology (slice_index terminals (i + 1))) ≡ Ok tt =
        (parts_passed (2 ^ i) (node_of topology (slice_index terminals (i + 1))) range node).0 in
        at_most-holds (2 ^ i) (node_of topology (slice_index terminals (i + 1))) Leaf
        (P (2 ^ i) (node_of topology (slice_index terminals (i + 1)))) (Some 0)
        (sym (cond-true (is_one_at topology terminals (2 ^ i) (node_of topology (slice_index terminals (i + 1))))
        (at_most (2 ^ i) (node_of topology (slice_index terminals (i + 1))) Leaf
        (P (2 ^ i) (node_of topology (slice_index terminals (i + 1)))) (Some 0)) (Ok tt) one) ∙ leaf)

    over_holds : (mask v s u : ℕ) → IsMask terminals mask → v < length topology.nodes → Leads topology s v u
        → IsAtMost (P mask v) (plus (P mask u) (Some (price_at topology s)))
    over_holds mask v s u range node leads = over_passed-holds topology P mask v s u leads (parts_passed mask v range node).1

    split_holds : (a b v : ℕ) → 0 < a → 0 < b → bit_and a b ≡ 0 → HoldsFirst a (a + b) → IsMask terminals (a + b)
        → v < length topology.nodes → SplitHolds topology P a b v
    unfolding split_checks first_parts
    split_holds a b v some_a some_b apart holds range node =
        let part : is_first_part (a + b) a ≡ true = holds_part a b some_b apart holds (small_mask (a + b) range) (omega arith) in
        let check : split_check topology P (a + b) v a ≡ Ok tt =
        every_filter-each (split_check topology P (a + b) v) (is_first_part (a + b)) 1 (a + b - 1)
        (parts_passed (a + b) v range node).2 a some_a (omega arith) part in
        let rest : a + b - a ≡ b = omega arith in
        subst (λ x. IsAtMost (P (a + b) v) (plus (plus (P a v) (P x v)) (Some (branch_at topology v)))) rest
        (at_most-holds (a + b) v (Split a) (P (a + b) v) (plus (plus (P a v) (P (a + b - a) v)) (Some (branch_at topology v))) check)

    pub to_legal : IsLegal topology terminals P
    to_legal = record {
      leaf = leaf_holds;
      over = over_holds;
      split = first_cavity_suffices topology terminals P split_holds;
    }

  module _ (legal : IsLegal topology terminals P) where
    leaf_passes : (mask v : ℕ) → IsMask terminals mask → leaf_check topology terminals P mask v ≡ Ok tt
    leaf_passes mask v range =
        elim (cases_Bool (is_one_at topology terminals mask v)) [
          | inr other ↦
              cond-false (is_one_at topology terminals mask v) (at_most mask v Leaf (P mask v) (Some 0)) (Ok tt) other
          | inl held ↦
              let parts = and_parts (mask == 2 ^ first_bit mask) (node_of topology (slice_index terminals (first_bit mask + 1)) == v) held in
              let pow : mask ≡ 2 ^ first_bit mask = eqb-true mask (2 ^ first_bit mask) parts.0 in
              let at : node_of topology (slice_index terminals (first_bit mask + 1)) ≡ v =
              eqb-true (node_of topology (slice_index terminals (first_bit mask + 1))) v parts.1 in
              let low : first_bit mask < length terminals - 1 =
              pow_below (first_bit mask) (length terminals - 1) (subst (λ m. m < 2 ^ (length terminals - 1)) pow range.1) in
              let holds : IsAtMost (P mask v) (Some 0) =
              subst (λ u. IsAtMost (P mask u) (Some 0)) at
              (subst (λ m. IsAtMost (P m (node_of topology (slice_index terminals (first_bit mask + 1)))) (Some 0)) (sym pow)
              (legal.leaf (first_bit mask) (omega arith))) in
              cond-true (is_one_at topology terminals mask v) (at_most mask v Leaf (P mask v) (Some 0)) (Ok tt) held
              ∙ at_most-passes mask v Leaf (P mask v) (Some 0) holds
        ]

    over_passes : (mask v : ℕ) → IsMask terminals mask → v < length topology.nodes → over_checks topology P mask v ≡ Ok tt
    unfolding over_checks open_among
    over_passes mask v range node =
        every_filter-from_each (over_check topology P mask v) (λ t. is_open_to (segment_at topology t) v) 0 (length topology.segments)
        (λ s from to is_open.
        at_most-passes mask v (Over (record { 0 = s })) (P mask v)
        (plus (P mask (other_end (segment_at topology s) v)) (Some (price_at topology s)))
        (legal.over mask v s (other_end (segment_at topology s) v) range node (open_leads topology s v is_open)))

    split_passes : (mask v : ℕ) → IsMask terminals mask → v < length topology.nodes → split_checks topology P mask v ≡ Ok tt
    unfolding split_checks first_parts
    split_passes mask v range node =
        every_filter-from_each (split_check topology P mask v) (is_first_part mask) 1 (mask - 1) (λ a from to holds.
        let sum : a + (mask - a) ≡ mask = omega arith in
        let within : IsMask terminals (a + (mask - a)) = subst (IsMask terminals) (sym sum) range in
        at_most-passes mask v (Split a) (P mask v) (plus (plus (P a v) (P (mask - a) v)) (Some (branch_at topology v)))
        (subst (λ m. IsAtMost (P m v) (plus (plus (P a v) (P (mask - a) v)) (Some (branch_at topology v)))) sum
        (legal.split a (mask - a) v from (omega arith) (rest_apart mask a (is_part_true mask a holds).within) within node)))

    pub from_legal : first_break topology terminals P ≡ Ok tt
    unfolding first_break mask_check
    from_legal =
        every_range-from_each (mask_check topology terminals P) 1 (2 ^ (length terminals - 1) - 1) (λ mask from to.
        let low : mask < 2 ^ (length terminals - 1) = omega arith in
        every_range-from_each (cell_check topology terminals P mask) 0 (length topology.nodes) (λ v start end.
        all_pass (leaf_check topology terminals P mask v) (over_checks topology P mask v) (split_checks topology P mask v)
        (leaf_passes mask v (from, low)) (over_passes mask v (from, low) (omega arith)) (split_passes mask v (from, low) (omega arith))))

  pub below_every_tree : first_break topology terminals P ≡ Ok tt → IsBelowEveryTree topology terminals P
  below_every_tree passed mask v tree range node is_tree =
      legal_is_below_every_tree topology terminals P mask v tree sound (to_legal passed) range node is_tree

pub unbroken_is_legal : (topology : TopologyView) (terminals : List ℕ) (P : ℕ → ℕ → Option ℕ)
    → IsSound topology → length terminals ≤ 12 → All (λ c. c < length topology.cavities) terminals
    → (first_break topology terminals P ≡ Ok tt) ↔ IsLegal topology terminals P
unbroken_is_legal topology terminals P sound few in_range =
    (to_legal topology terminals P sound few in_range, from_legal topology terminals P sound few in_range)

-- the same of a list whose cavities clauses see through a function
module _ {X : Type 0} (topology : TopologyView) (f : X → ℕ) (terminals : List X) (P : ℕ → ℕ → Option ℕ) (sound : IsSound topology)
    (few : length terminals ≤ 12) (in_range : All (λ c. f c < length topology.cavities) terminals) where
  few_seen : length (map f terminals) ≤ 12
  few_seen = omega (arith, length-map terminals f)

  in_range_seen : All (λ c. c < length topology.cavities) (map f terminals)
  in_range_seen = All-map (λ c. c < length topology.cavities) f terminals in_range

  pub ok_is_legal : (answer : Check FirstBreak) → answer ≡ first_break topology (map f terminals) P
      → IsOk answer ↔ IsLegal topology (map f terminals) P
  ok_is_legal (Ok p) is = (λ ok. to_legal topology (map f terminals) P sound few_seen in_range_seen (sym is), λ legal. refl)
  ok_is_legal (Err e) is = (
    λ ok. absurd (false≢true ok),
    λ legal.
        let passed = from_legal topology (map f terminals) P sound few_seen in_range_seen legal in
        absurd (let both : Err e ≡ Ok tt = is ∙ passed in cc),
  )

  pub ok_is_below : Ok tt ≡ first_break topology (map f terminals) P → IsBelowEveryTree topology (map f terminals) P
  ok_is_below is = below_every_tree topology (map f terminals) P sound few_seen in_range_seen (sym is)
