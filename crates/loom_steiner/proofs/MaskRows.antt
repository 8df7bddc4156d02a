use Rattle.std.proofs.Common.{List, [], ◌∷◌, ℕ, suc, ◌+◌, ◌-◌, ◌*◌, ◌^◌, ◌<◌, ◌≤◌, ◌≡◌, cond, ltb, length, drop, length-drop, slice_index, slice_index_or, bit_and, inl, inr, sym, ap, subst, arith, ◌∙◌}
use Rattle.std.specs.Borrow.{Bor}
use Rattle.std.proofs.Math.Nat.{mul-le-mul_right, pow-le-pow_right, one-le-pow}
use Rattle.std.proofs.Math.Pow.{pow-lt}
use Rattle.std.proofs.lemmas.Bool.{cases_lt}
use Rattle.std.proofs.lemmas.Bool.Decides.{nat_tests}
use Rattle.std.proofs.lemmas.Nat.{and_comm}
use Rattle.std.proofs.lemmas.List.Sums.{sum_by-le}
use Rattle.loom_topology.specs.Topology.{TopologyView, Leads, branch_at, price_at, node_of, IsSound}
use Rattle.loom_topology.specs.TreeCost.{HasTree}
use Rattle.loom_topology.specs.Legal.{IsMask, cavities_of_mask}
use Rattle.loom_topology.proofs.Composition.{one_cavity_is_free, trees_join}
use Rattle.loom_topology.proofs.Masks.{chosen-some}
use Rattle.loom_steiner.specs.declared.ways.TheConstants.{NO_TREE}
use Rattle.loom_topology.specs.declared.ways.Way.{Way}
use Rattle.loom_topology.specs.Ways.{way_at, no_way}
use Rattle.loom_steiner.specs.Row.{IsAttained, IsBoundedFrom, Improves, reached}
use Rattle.loom_steiner.specs.Worklist.{IsSettled}
use Rattle.loom_steiner.specs.Split.{IsPart, cell_in}
use Rattle.loom_steiner.specs.Begin.{Begins, IsRow}
use Rattle.loom_steiner.specs.Ground.{IsGround}
use Rattle.loom_steiner.specs.Filled.{IsFilled, IsRowOf, IsBoundedAt, reach_cost}
use Rattle.loom_steiner.proofs.Parts.{part_apart, part_of_sum, and_above, one_above}
use Rattle.loom_topology.proofs.LeastLegal.{leads_below}
use Rattle.loom_steiner.proofs.Sizes.{cavities-sum, cavities-bound}

counts_most : (x : ℕ) → cond (ltb x NO_TREE) 1 0 ≤ 1
counts_most x = grind (arith, nat_tests)

-- no more nodes are reached than there are
pub reached-le : (row : List ℕ) → reached row ≤ length row
reached-le row = omega (arith, sum_by-le (λ x. cond (ltb x NO_TREE) 1 0) 1 row (λ k d h. counts_most (slice_index_or row k d)))

double_pow : (i : ℕ) → 2 ^ (i + 1) ≡ 2 * 2 ^ i
double_pow i = let e : i + 1 ≡ suc i = omega arith in rw e (omega arith)

pub mask_in_range : (terminals : List ℕ) (i rest mask : ℕ) → i + 1 < length terminals → rest < 2 ^ i → mask ≡ 2 ^ i + rest → IsMask terminals mask
mask_in_range terminals i rest mask range low is =
    let h : i + 1 ≤ length terminals - 1 = omega arith in
    (omega (arith, one-le-pow i 2 (omega arith)), omega (arith, double_pow i, pow-le-pow_right {n = 2} (omega arith) h))

pow_unique : (i j rest : ℕ) → rest < 2 ^ i → 2 ^ j ≡ 2 ^ i + rest → j ≡ i
pow_unique i j rest low e = elim (cases_lt j i) [
  | inl lt ↦ absurd (omega (arith, pow-lt lt))
  | inr ge ↦ elim (cases_lt i j) [
    | inl lt ↦ (let h : i + 1 ≤ j = omega arith in absurd (omega (arith, double_pow i, pow-le-pow_right {n = 2} (omega arith) h)))
    | inr le ↦ omega arith
  ]
]

bound_sum : (ca cb sa sb br k : ℕ) → ca + k ≤ 2 * sa * k → cb + k ≤ 2 * sb * k → br ≤ 1000000
    → ca + cb + br + 2 * k ≤ 2 * (sa + sb) * k + 1000000
bound_sum ca cb sa sb br k h1 h2 h3 = omega arith

bound_row : (x s n got : ℕ) → 0 < s → got ≤ n → x ≤ 2 * s * reach_cost n + 1000000 - 2 * reach_cost n + 1000000 * got
    → x + reach_cost n ≤ 2 * s * reach_cost n
bound_row x s n got some most h = omega (arith, mul-le-mul_right (reach_cost n) some)

pub small_number : (x s n : ℕ) → s ≤ 12 → n ≤ 1024 → x + reach_cost n ≤ 2 * s * reach_cost n → x ≤ 24600000000
small_number x s n few nodes h =
    let k : reach_cost n ≤ 1025000000 = omega arith in
    let m : s * reach_cost n ≤ 12 * reach_cost n = mul-le-mul_right (reach_cost n) few in
    omega (arith, m, k)

first_item : {X : Type 0} (xs : List X) → 0 < length xs → X
first_item [] h = absurd (omega arith)
first_item (x ∷ xs) h = x

-- what a split's two parts are
record SplitParts (terminals : List ℕ) (i rest mask part : ℕ) : Type 0 where
  some_a : 0 < 2 ^ i + part
  some_b : 0 < rest - part
  low_a : 2 ^ i + part < mask
  low_b : rest - part < mask
  apart : bit_and (2 ^ i + part) (rest - part) ≡ 0
  joined : 2 ^ i + part + (rest - part) ≡ mask
  sizes : length (cavities_of_mask terminals (2 ^ i + part)) + length (cavities_of_mask terminals (rest - part)) ≡ length (cavities_of_mask terminals mask)

split_parts : (terminals : List ℕ) (i rest mask part : ℕ) → rest < 2 ^ i → mask ≡ 2 ^ i + rest → IsPart rest part → SplitParts terminals i rest mask part
split_parts terminals i rest mask part low is is_part =
    let positive = one-le-pow i 2 (omega arith) in
    let less = is_part.1 in
    let a = 2 ^ i + part in
    let b = rest - part in
    let apart : bit_and a b ≡ 0 = and_above i part b (omega arith) (omega arith) ∙ part_apart rest part rest (omega arith) is_part.0 in
    let joined : a + b ≡ mask = omega arith in
    record {
      some_a = omega arith;
      some_b = omega arith;
      low_a = omega arith;
      low_b = omega arith;
      apart = apart;
      joined = joined;
      sizes = sym (cavities-sum terminals a b apart) ∙ ap (λ (m : ℕ). length (cavities_of_mask terminals m)) joined;
    }

-- what is known where the row of the mask 2 ^ i + rest is worked out
pub record Works (topology : TopologyView) (ways : List (Bor (List Way))) (branches terminals cells : List ℕ) (i rest mask home : ℕ) : Type 0 where
  pub ground : IsGround topology ways branches
  pub sound : IsSound topology
  pub few_nodes : length topology.nodes ≤ 1024
  pub few_terminals : length terminals ≤ 12
  pub bit : i + 1 < length terminals
  pub low : rest < 2 ^ i
  pub is : mask ≡ 2 ^ i + rest
  pub home_is : home ≡ node_of topology (slice_index terminals (i + 1))
  pub home_range : home < length topology.nodes
  pub filled : IsFilled topology terminals mask cells

module _ (topology : TopologyView) (ways : List (Bor (List Way))) (branches terminals cells : List ℕ) (i rest mask home : ℕ)
    (w : Works topology ways branches terminals cells i rest mask home) where
  start_attained : (start : List ℕ) → Begins cells branches (length topology.nodes) (2 ^ i) rest home start
      → IsAttained topology (cavities_of_mask terminals mask) start
  start_attained start begins v within number =
      let n = length topology.nodes in
      let range : v < n = omega (arith, begins.len) in
      elim (begins.from v range number) [
        | inl leaf ↦
            (let e : 2 ^ i ≡ mask = omega (arith, leaf.0, w.is) in
            let at : node_of topology (slice_index terminals (i + 1)) ≡ v = sym (leaf.1 ∙ w.home_is) in
            let t = one_cavity_is_free topology terminals i w.bit in
            subst (λ (x : ℕ). HasTree topology (cavities_of_mask terminals mask) v x) (sym leaf.2)
            (subst (λ (u : ℕ). HasTree topology (cavities_of_mask terminals mask) u 0) at
            (subst (λ (m : ℕ). HasTree topology (cavities_of_mask terminals m) (node_of topology (slice_index terminals (i + 1))) 0) e t)))
        | inr p ↦
            (let part = p.0 in
            let q = split_parts terminals i rest mask part w.low w.is p.1 in
            let a = 2 ^ i + part in
            let b = rest - part in
            let branch = w.ground.branch v range in
            let has_a = w.filled.attained a v q.some_a q.low_a range (omega (arith, p.2)) in
            let has_b = w.filled.attained b v q.some_b q.low_b range (omega (arith, p.2)) in
            let is_mask : IsMask terminals (a + b) = subst (λ (m : ℕ). IsMask terminals m) (sym q.joined) (mask_in_range terminals i rest mask w.bit w.low w.is) in
            let t = trees_join topology terminals a b v (cell_in cells n a v) (cell_in cells n b v) q.some_a q.some_b q.apart is_mask has_a has_b in
            let cost : cell_in cells n a v + cell_in cells n b v + branch_at topology v ≡ slice_index start v = omega (arith, p.2, branch) in
            subst (λ (x : ℕ). HasTree topology (cavities_of_mask terminals mask) v x) cost
            (subst (λ (m : ℕ). HasTree topology (cavities_of_mask terminals m) v (cell_in cells n a v + cell_in cells n b v + branch_at topology v)) q.joined t))
      ]

  start_bounded : (start : List ℕ) → Begins cells branches (length topology.nodes) (2 ^ i) rest home start
      → IsBoundedFrom (2 * length (cavities_of_mask terminals mask) * reach_cost (length topology.nodes) + 1000000 - 2 * reach_cost (length topology.nodes)) start
  start_bounded start begins v within number =
      let n = length topology.nodes in
      let k = reach_cost n in
      let s = length (cavities_of_mask terminals mask) in
      let range : v < n = omega (arith, begins.len) in
      elim (begins.from v range number) [
        | inl leaf ↦ omega (arith, leaf.2)
        | inr p ↦
            (let part = p.0 in
            let q = split_parts terminals i rest mask part w.low w.is p.1 in
            let a = 2 ^ i + part in
            let b = rest - part in
            let bound_a = w.filled.bounded a v q.some_a q.low_a range (omega (arith, p.2)) in
            let bound_b = w.filled.bounded b v q.some_b q.low_b range (omega (arith, p.2)) in
            let sum = bound_sum (cell_in cells n a v) (cell_in cells n b v) (length (cavities_of_mask terminals a)) (length (cavities_of_mask terminals b))
            (slice_index branches v) k bound_a bound_b (w.ground.cheap v) in
            let sizes : 2 * (length (cavities_of_mask terminals a) + length (cavities_of_mask terminals b)) * k ≡ 2 * s * k = ap (λ (m : ℕ). 2 * m * k) q.sizes in
            omega (arith, p.2, sum, sizes))
      ]

  -- a split of the mask, the first part of which has the high bit
  split_from_high : (start : List ℕ) → Begins cells branches (length topology.nodes) (2 ^ i) rest home start
      → (a b v : ℕ) → 0 < b → bit_and a b ≡ 0 → a + b ≡ mask → 2 ^ i ≤ a → v < length topology.nodes
      → slice_index start v ≤ cell_in cells (length topology.nodes) a v + cell_in cells (length topology.nodes) b v + branch_at topology v
  split_from_high start begins a b v some apart joined above range =
      let n = length topology.nodes in
      let is = w.is in
      let low = w.low in
      let part = a - 2 ^ i in
      let whole : 2 ^ i + part ≡ a = omega arith in
      let sum : part + b ≡ rest = omega arith in
      let left : rest - part ≡ b = omega arith in
      let apart_low : bit_and part b ≡ 0 =
      sym (and_above i part b (omega arith) (omega arith)) ∙ (ap (λ (m : ℕ). bit_and m b) whole ∙ apart) in
      let is_part : IsPart rest part =
      (ap (bit_and part) (sym sum) ∙ part_of_sum part part b (omega arith) apart_low, omega arith) in
      let h = begins.splits part v is_part range in
      let at_a : cell_in cells n (2 ^ i + part) v ≡ cell_in cells n a v = ap (λ (m : ℕ). cell_in cells n m v) whole in
      let at_b : cell_in cells n (rest - part) v ≡ cell_in cells n b v = ap (λ (m : ℕ). cell_in cells n m v) left in
      omega (arith, h, at_a, at_b, w.ground.branch v range)

  start_split : (start : List ℕ) → Begins cells branches (length topology.nodes) (2 ^ i) rest home start
      → (a b v : ℕ) → 0 < a → 0 < b → bit_and a b ≡ 0 → a + b ≡ mask → v < length topology.nodes
      → slice_index start v ≤ cell_in cells (length topology.nodes) a v + cell_in cells (length topology.nodes) b v + branch_at topology v
  start_split start begins a b v some_a some_b apart joined range =
      let is = w.is in
      elim (one_above i a b apart (omega arith)) [
        | inl above ↦ split_from_high start begins a b v some_b apart joined above range
        | inr above ↦
            (let turned : b + a ≡ mask = omega arith in
            let h = split_from_high start begins b a v some_a (and_comm b a ∙ apart) turned above range in omega (arith, h))
      ]

  -- a step over an open segment is no dearer than the way that stands for it
  over_way : (row : List ℕ) (v s u : ℕ) → IsSettled ways row → u < length topology.nodes → Leads topology s v u
      → (k : ℕ) × (k ≤ 1000000) × (slice_index row v ≤ slice_index row u + k) × (k ≤ price_at topology s)
  over_way row v s u settled range leads =
      let within : u < length ways = omega (arith, w.ground.ways_len) in
      let d = first_item ways (omega arith) in
      let from = (slice_index_or ways u d).now in
      let back : Leads topology s u v = (leads.0, elim leads.1 [ inl p ↦ inr p | inr p ↦ inl p ]) in
      let c = (w.ground.are_ways.from u d within).covers s v back in
      let ends : (way_at from c.0).to.0 ≡ v = c.2 in
      let h = settled u within d c.0 c.1 in
      let moved : slice_index row (way_at from c.0).to.0 ≡ slice_index row v = ap (slice_index row) ends in
      ((way_at from c.0).price, (w.ground.range u d within c.0 no_way c.1).2, omega (arith, h, moved), c.3)

  some_cavity : 0 < length (cavities_of_mask terminals mask)
  some_cavity =
      let range = mask_in_range terminals i rest mask w.bit w.low w.is in
      chosen-some (drop 1 terminals) mask range.0 (omega (arith, range.1, ap (λ (l : ℕ). 2 ^ l) (length-drop 1 terminals)))

  row_bounded : (row start : List ℕ) → Begins cells branches (length topology.nodes) (2 ^ i) rest home start → Improves ways start row
      → (v : ℕ) → v < length topology.nodes → IsBoundedAt topology terminals mask (slice_index row v)
  row_bounded row start begins improves v range number =
      let n = length topology.nodes in
      let s = length (cavities_of_mask terminals mask) in
      let len : length row ≡ n = improves.len ∙ begins.len in
      let h = improves.bounded (2 * s * reach_cost n + 1000000 - 2 * reach_cost n) (start_bounded start begins) v (omega arith) number in
      bound_row (slice_index row v) s n (reached row) some_cavity (omega (arith, reached-le row)) h

  row_small : (x : ℕ) → IsBoundedAt topology terminals mask x → x < NO_TREE → x ≤ 24600000000
  row_small x bounded number =
      let few : length (cavities_of_mask terminals mask) ≤ 12 = omega (arith, cavities-bound terminals mask, w.few_terminals) in
      small_number x (length (cavities_of_mask terminals mask)) (length topology.nodes) few w.few_nodes (bounded number)

  pub row_of_mask : (row : List ℕ) → IsRow ways cells branches (length topology.nodes) (2 ^ i) rest home row
      → IsRowOf topology terminals cells mask row
  row_of_mask row r =
      let n = length topology.nodes in
      let start = r.start in
      let lower = r.improves.lower in
      record {
        len = r.improves.len ∙ r.begins.len;
        capped = λ v. omega (arith, lower v, r.begins.capped v);
        leaf = λ j range e.
            (let is = w.is in
            let same : j ≡ i = pow_unique i j rest w.low (e ∙ is) in
            let none : rest ≡ 0 = (let p : 2 ^ j ≡ 2 ^ i = ap (λ (m : ℕ). 2 ^ m) same in omega arith) in
            let at : node_of topology (slice_index terminals (j + 1)) ≡ home =
            ap (λ (m : ℕ). node_of topology (slice_index terminals (m + 1))) same ∙ sym w.home_is in
            subst (λ (h : ℕ). slice_index row h ≡ 0) (sym at) (omega (arith, lower home, r.begins.leaf none)));
        over = λ v s u range leads.
            (let h = over_way row v s u r.settled (leads_below topology s v u w.sound leads) leads in omega (arith, h.2, h.3));
        reach = λ v s u range leads number.
            (let u_range = leads_below topology s v u w.sound leads in
            let h = over_way row v s u r.settled u_range leads in
            let small = row_small (slice_index row u) (row_bounded row start r.begins r.improves u u_range) number in
            omega (arith, h.1, h.2, small));
        split = λ a b v some_a some_b apart joined range. omega (arith, lower v, start_split start r.begins a b v some_a some_b apart joined range);
        attained = λ v range number.
            r.improves.attained topology (cavities_of_mask terminals mask) w.ground.are_ways (start_attained start r.begins) v
            (omega (arith, r.improves.len, r.begins.len)) number;
        bounded = row_bounded row start r.begins r.improves;
      }
