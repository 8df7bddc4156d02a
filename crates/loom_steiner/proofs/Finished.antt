use Rattle.std.proofs.Common.{List, ℕ, Option, Some, None, ◌+◌, ◌-◌, ◌*◌, ◌/◌, ◌%◌, ◌^◌, ◌<◌, ◌≤◌, ◌≡◌, ltb, true, false, map, length, slice_index, get_or, inl, inr, refl, sym, ap, subst, arith, ◌∙◌}
use Rattle.std.specs.Option.{IfSome}
use Rattle.std.proofs.Math.Nat.{mod-lt, div-lt_iff_lt-mul, div-add-mod'}
use Rattle.std.proofs.Math.Pow.{pow-lt}
use Rattle.std.proofs.lemmas.List.{get_or-map, length-map}
use Rattle.std.proofs.lemmas.Bool.{cases_lt, cases_eq, cond-true, cond-false}
use Rattle.std.proofs.lemmas.Bool.Decides.{nat_tests}
use Rattle.loom_topology.specs.Topology.{TopologyView, branch_at, price_at, IsSound}
use Rattle.loom_topology.specs.TreeCost.{HasTree}
use Rattle.loom_topology.specs.Least.{IsLeast}
use Rattle.loom_topology.specs.Legal.{IsMask, IsLegal, IsAtMost, plus, cavities_of_mask}
use Rattle.loom_topology.specs.Table.{cell_at, IsWhole}
use Rattle.loom_topology.proofs.LeastCost.{attained_legal_is_least}
use Rattle.loom_steiner.specs.declared.ways.TheConstants.{NO_TREE}
use Rattle.loom_steiner.specs.Row.{cost_from}
use Rattle.loom_steiner.specs.Split.{cell_in}
use Rattle.loom_steiner.specs.Filled.{IsFilled}
use Rattle.loom_steiner.specs.LeastTable.{IsLeastTable}
use Rattle.loom_steiner.specs.Scratch.{scratch_view}
use Rattle.loom_steiner.proofs.Growing.{place_below}
use Rattle.loom_steiner.proofs.Sizes.{cavities-bound}
use Rattle.loom_steiner.proofs.MaskRows.{small_number}

cost-number : (x : ℕ) → x < NO_TREE → cost_from x ≡ Some x
cost-number x h = let e : ltb x NO_TREE ≡ true = grind (arith, nat_tests) in cond-true (ltb x NO_TREE) (Some x) None e

cost-none : (x : ℕ) → NO_TREE ≤ x → cost_from x ≡ None
cost-none x h = let e : ltb x NO_TREE ≡ false = grind (arith, nat_tests) in cond-false (ltb x NO_TREE) (Some x) None e

-- a cost is a number below that of none
cost-some : (x m : ℕ) → cost_from x ≡ Some m → (x < NO_TREE) × (x ≡ m)
cost-some x m e = elim (cases_lt x NO_TREE) [
  | inl lt ↦ (let p : Some x ≡ Some m = sym (cost-number x lt) ∙ e in (lt, cc))
  | inr ge ↦ (let p : None ≡ Some m = sym (cost-none x ge) ∙ e in absurd (cc))
]

at_most_none : (a : Option ℕ) → IsAtMost a None
at_most_none None = tt
at_most_none (Some m) = tt

plus-none : (a : Option ℕ) → plus a None ≡ None
plus-none None = refl
plus-none (Some m) = refl

over_cost : (x y p : ℕ) → x ≤ y + p → (y < NO_TREE → x < NO_TREE) → IsAtMost (cost_from x) (plus (cost_from y) (Some p))
over_cost x y p h reach = elim (cases_lt y NO_TREE) [
  | inl lt ↦ (let e = cost-number x (reach lt) in let f = cost-number y lt in rw (e, f) h)
  | inr ge ↦ (let f = cost-none y ge in rw f (at_most_none (cost_from x)))
]

split_cost_of : (x y z p : ℕ) → x ≤ y + z + p → (y < NO_TREE → z < NO_TREE → x < NO_TREE)
    → IsAtMost (cost_from x) (plus (plus (cost_from y) (cost_from z)) (Some p))
split_cost_of x y z p h reach = elim (cases_lt y NO_TREE) [
  | inl lt ↦ elim (cases_lt z NO_TREE) [
    | inl lt_z ↦ (let e = cost-number x (reach lt lt_z) in let f = cost-number y lt in let g = cost-number z lt_z in rw (e, f, g) h)
    | inr ge ↦ (let f = cost-none z ge in let g = plus-none (cost_from y) in rw (f, g) (at_most_none (cost_from x)))
  ]
  | inr ge ↦ (let f = cost-none y ge in rw f (at_most_none (cost_from x)))
]

small_cost : (x : ℕ) → (x < NO_TREE → x ≤ 2 ^ 40) → IfSome (cost_from x) (λ value. value ≤ 2 ^ 40)
small_cost x small = elim (cases_lt x NO_TREE) [
  | inl lt ↦ subst (λ (c : Option ℕ). IfSome c (λ value. value ≤ 2 ^ 40)) (sym (cost-number x lt)) (small lt)
  | inr ge ↦ subst (λ (c : Option ℕ). IfSome c (λ value. value ≤ 2 ^ 40)) (sym (cost-none x ge)) tt
]

module _ (topology : TopologyView) (terminals cells : List ℕ) (sound : IsSound topology)
    (few_nodes : length topology.nodes ≤ 1024) (few_terminals : length terminals ≤ 12) (cheap : (v : ℕ) → v < length topology.nodes → branch_at topology v ≤ 1000000)
    (filled : IsFilled topology terminals (2 ^ (length terminals - 1)) cells) where
  pub cell_small : (mask v : ℕ) → IsMask terminals mask → v < length topology.nodes → cell_in cells (length topology.nodes) mask v < NO_TREE
      → cell_in cells (length topology.nodes) mask v ≤ 24600000000
  cell_small mask v range node number =
      let few : length (cavities_of_mask terminals mask) ≤ 12 = omega (arith, cavities-bound terminals mask) in
      small_number (cell_in cells (length topology.nodes) mask v) (length (cavities_of_mask terminals mask)) (length topology.nodes) few few_nodes
      (filled.bounded mask v range.0 range.1 node number)

  filled_is_legal : IsLegal topology terminals (λ mask v. cost_from (cell_in cells (length topology.nodes) mask v))
  filled_is_legal =
      let n = length topology.nodes in
      record {
        leaf = λ i range.
            (let below : 2 ^ i < 2 ^ (length terminals - 1) = pow-lt (let h : i < length terminals - 1 = omega arith in h) in
            let e = filled.leaf i range below in
            subst (λ (x : ℕ). IsAtMost (cost_from x) (Some 0)) (sym e) (omega arith));
        over = λ mask v s u range node leads.
            over_cost (cell_in cells n mask v) (cell_in cells n mask u) (price_at topology s)
            (filled.over mask v s u range.0 range.1 node leads) (filled.reach mask v s u range.0 range.1 node leads);
        split = λ a b v some_a some_b apart range node.
            (let h = filled.split a b v some_a some_b apart range.1 node in
            let mask_a : IsMask terminals a = (some_a, omega (arith, range.1)) in
            let mask_b : IsMask terminals b = (some_b, omega (arith, range.1)) in
            split_cost_of (cell_in cells n (a + b) v) (cell_in cells n a v) (cell_in cells n b v) (branch_at topology v) h
            (λ number_a number_b. omega (arith, h, cheap v node, cell_small a v mask_a node number_a, cell_small b v mask_b node number_b)));
      }

  pub filled_is_least : (mask v : ℕ) → IsMask terminals mask → v < length topology.nodes
      → IsLeast topology (cavities_of_mask terminals mask) v (cost_from (cell_in cells (length topology.nodes) mask v))
  filled_is_least mask v range node =
      let n = length topology.nodes in
      attained_legal_is_least topology terminals (λ m u. cost_from (cell_in cells n m u)) sound filled_is_legal
      (λ m u x m_range u_node e. (let p = cost-some (cell_in cells n m u) x e in
      subst (λ (y : ℕ). HasTree topology (cavities_of_mask terminals m) u y) p.1 (filled.attained m u m_range.0 m_range.1 u_node p.0)))
      mask v range node

  cell_known : (k : ℕ) → k < length cells → slice_index cells k < NO_TREE → slice_index cells k ≤ 24600000000
  cell_known k within number =
      let n = length topology.nodes in
      let whole : length cells ≡ (2 ^ (length terminals - 1) - 1) * n = filled.len in
      let some : 0 < n = elim (cases_eq n 0) [
        | inl e ↦ (let none : (2 ^ (length terminals - 1) - 1) * n ≡ (2 ^ (length terminals - 1) - 1) * 0 = ap (λ (m : ℕ). (2 ^ (length terminals - 1) - 1) * m) e in
            absurd (omega arith))
        | inr ne ↦ omega arith
      ] in
      let mask = k / n + 1 in
      let v = k % n in
      let inside : v < n = mod-lt k some in
      let lower : k / n < 2 ^ (length terminals - 1) - 1 = (div-lt_iff_lt-mul {k = n} {x = k} {y = 2 ^ (length terminals - 1) - 1} some).1 (omega arith) in
      let place : (mask - 1) * n + v ≡ k = (let back : mask - 1 ≡ k / n = omega arith in ap (λ (m : ℕ). m * n + v) back ∙ div-add-mod' k n) in
      let same : cell_in cells n mask v ≡ slice_index cells k = ap (slice_index cells) place in
      let range : IsMask terminals mask = (omega arith, omega (arith, lower)) in
      omega (arith, same, cell_small mask v range inside (omega (arith, same)))

  pub filled_is_whole : IsWhole (scratch_view (2 ^ (length terminals - 1) - 1) (length topology.nodes) cells)
  filled_is_whole = record {
    count = length-map cells cost_from ∙ filled.len;
    small = λ k d h.
        (let within : k < length cells = omega (arith, length-map cells cost_from) in
        let e : get_or (map cost_from cells) k d ≡ cost_from (slice_index cells k) = get_or-map cost_from cells k 0 d within in
        subst (λ (c : Option ℕ). IfSome c (λ value. value ≤ 2 ^ 40)) (sym e)
        (small_cost (slice_index cells k) (λ number. omega (arith, cell_known k within number))));
  }

  cell_read : (mask v : ℕ) → IsMask terminals mask → v < length topology.nodes
      → cell_at (scratch_view (2 ^ (length terminals - 1) - 1) (length topology.nodes) cells) mask v ≡ cost_from (cell_in cells (length topology.nodes) mask v)
  cell_read mask v range node =
      let n = length topology.nodes in
      let within : (mask - 1) * n + v < length cells = omega (arith, filled.len, place_below mask (2 ^ (length terminals - 1)) n v range.0 range.1 node) in
      get_or-map cost_from cells ((mask - 1) * n + v) 0 None within

  pub filled_is_least_table : IsLeastTable topology terminals (scratch_view (2 ^ (length terminals - 1) - 1) (length topology.nodes) cells)
  filled_is_least_table = record {
    masks = refl;
    nodes = refl;
    least = λ mask v range node.
        subst (λ (c : Option ℕ). IsLeast topology (cavities_of_mask terminals mask) v c) (sym (cell_read mask v range node)) (filled_is_least mask v range node);
  }
