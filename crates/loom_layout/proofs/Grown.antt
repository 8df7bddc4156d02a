-- A layout is a wiring tree, no point of it has degree 1, and it costs the least cost.
use Rattle.std.proofs.Common.{ℕ, List, [], Option, Some, None, length, drop, slice_index, ◌≡◌, ◌≢◌, ◌+◌, ◌-◌, ◌*◌, ◌^◌, ◌<◌, ◌≤◌, min, cond, ◌==◌, bit_and, replicate, arith, refl, sym, ◌∙◌, ap, subst, inl, inr, zero-add, length-set}
use Rattle.std.specs.List.{All, AllZip}
use Rattle.std.proofs.lemmas.Bool.{cases_lt, cases_eq}
use Rattle.std.proofs.lemmas.List.{length-replicate}
use Rattle.loom_topology.specs.Topology.{TopologyView, IsSound, Leads, branch_at, price_at, node_of}
use Rattle.loom_topology.specs.WiringTree.{Tree, IsWiringTree}
use Rattle.loom_topology.specs.TreeCost.{degree_of, cost_of}
use Rattle.loom_topology.specs.Legal.{IsLegal, IsAtMost, plus, chosen, cavities_of_mask}
use Rattle.loom_topology.specs.Least.{HasLeastCosts}
use Rattle.loom_topology.proofs.Hangs.{hung_at}
use Rattle.loom_topology.proofs.LeastLegal.{least_costs_are_legal}
use Rattle.loom_topology.proofs.Drawn.{Drawn, cost_at, tree_of_drawn, cost_of_drawn}
use Rattle.loom_layout.specs.Layout.{Laying, Laid, hang, split, over, hung, stepped, next_point, tree_laid, nothing_laid, IsLayout}
use Rattle.loom_layout.proofs.HungCavities.{chosen-zero}
use Rattle.loom_layout.proofs.Apart.{free_bit, part_aside, rest_aside}
use Rattle.loom_layout.proofs.Primitives.{degree_in, spliced, same_point, other_point, at_next, at_old, at_new, degree_some, drawn_hung, degree_hung, cost_hung, longer, drawn_stepped, degree_stepped, degree_new, cost_stepped}

-- what is known of two costs whose sum is a number
pub sum_of_two : (x y : Option ℕ) (k : ℕ) → plus x y ≡ Some k → (m : ℕ) × (n : ℕ) × (x ≡ Some m) × (y ≡ Some n) × (m + n ≡ k)
sum_of_two None y k e = absurd (let f : None ≡ Some k = e in cc)
sum_of_two (Some m) None k e = absurd (let f : None ≡ Some k = e in cc)
sum_of_two (Some m) (Some n) k e = (m, n, refl, refl, (let f : Some (m + n) ≡ Some k = e in cc))

same_number : (x : Option ℕ) (m n : ℕ) → x ≡ Some m → x ≡ Some n → m ≡ n
same_number x m n a b = cc

free_at_most : (x : Option ℕ) (m : ℕ) → x ≡ Some m → IsAtMost x (Some 0) → m ≡ 0
free_at_most x m e below = let h : m ≤ 0 = rw e at below in omega (arith, h)

-- what laying the cavities of a mask at a point does: `all` is the mask of all that hang then, and m what it costs
pub record Grown (topology : TopologyView) (terminals : List ℕ) (root done all point m : ℕ) (before after : Laying) (at : ℕ → ℕ) : Type 0 where
  pub lies : ℕ → ℕ
  pub more_steps : length before.steps ≤ length after.steps
  pub kept : (p : ℕ) → p ≤ length before.steps → lies p ≡ at p
  pub many : length after.points ≡ length before.points
  pub drawn : Drawn topology (cavities_of_mask terminals all) root (tree_laid all after) lies
  pub others : (p : ℕ) → p ≤ length before.steps → p ≢ point → degree_in all after p ≡ degree_in done before p
  pub rose : degree_in done before point < degree_in all after point
  pub new : (p : ℕ) → length before.steps < p → p ≤ length after.steps → 2 ≤ degree_in all after p
  pub cost : cost_at topology (tree_laid all after) lies
      ≡ cost_at topology (tree_laid done before) at + m + spliced (branch_at topology (at point)) (degree_in done before point)

module _ (topology : TopologyView) (terminals : List ℕ) (root : ℕ) where
  hang_grows : (done i point : ℕ) (before : Laying) (at : ℕ → ℕ) → bit_and done (2 ^ i) ≡ 0
      → Drawn topology (cavities_of_mask terminals done) root (tree_laid done before) at → point ≤ length before.steps
      → length before.points ≡ length terminals - 1 → i + 1 < length terminals
      → at point ≡ node_of topology (slice_index terminals (i + 1))
      → Grown topology terminals root done (done + 2 ^ i) point 0 before (hung before i point) at
  hang_grows done i point before at apart drawn there many within home =
      let free = free_bit done i apart in
      let degree : (p : ℕ) → degree_in (done + 2 ^ i) (hung before i point) p ≡ degree_in done before p + cond (point == p) 1 0 =
      degree_hung topology terminals root done before at drawn i point many within free there home in
      record {
        lies = at;
        more_steps = omega arith;
        kept = λ p below. refl;
        many = length-set before.points i point;
        drawn = drawn_hung topology terminals root done before at drawn i point many within free there home;
        others = λ p below other. omega (arith, degree p, other_point point p other);
        rose = omega (arith, degree point, same_point point point refl);
        new = λ p past below. absurd (omega (arith, past, below));
        cost = cost_hung topology terminals root done before at drawn i point many within free there home ∙ omega arith;
      }

  -- one mask after another at one point
  split_grows : (done middle all point a b : ℕ) (before between after : Laying) (at : ℕ → ℕ) → point ≤ length before.steps
      → (first : Grown topology terminals root done middle point a before between at)
      → Grown topology terminals root middle all point b between after first.lies
      → Grown topology terminals root done all point (a + b + branch_at topology (at point)) before after at
  split_grows done middle all point a b before between after at there first rest =
      let splice : spliced (branch_at topology (first.lies point)) (degree_in middle between point) ≡ branch_at topology (at point) =
      let one : min (degree_in middle between point - 1) 1 ≡ 1 = omega (arith, first.rose, degree_some done before point) in
      ap (λ k. branch_at topology (first.lies point) * k) one
      ∙ (omega arith ∙ ap (branch_at topology) (first.kept point there)) in
      record {
        lies = rest.lies;
        more_steps = omega (arith, first.more_steps, rest.more_steps);
        kept = λ p below. rest.kept p (omega (arith, below, first.more_steps)) ∙ first.kept p below;
        many = rest.many ∙ first.many;
        drawn = rest.drawn;
        others = λ p below other. rest.others p (omega (arith, below, first.more_steps)) other ∙ first.others p below other;
        rose = omega (arith, first.rose, rest.rose);
        new = λ p past below. elim (cases_lt (length between.steps) p) [
          | inl later ↦ rest.new p later below
          | inr earlier ↦
              let other : p ≢ point = λ e. omega (arith, past, there, e) in
              omega (arith, rest.others p earlier other, first.new p past earlier)
        ];
        cost = omega (arith, rest.cost, first.cost, splice);
      }

  -- a step, and a mask at its end
  over_grows : (done all point segment u b : ℕ) (before after : Laying) (at : ℕ → ℕ)
      → Drawn topology (cavities_of_mask terminals done) root (tree_laid done before) at → point ≤ length before.steps
      → Leads topology segment (at point) u
      → Grown topology terminals root done all (next_point before) b (stepped before point segment) after (at_next at (next_point before) u)
      → Grown topology terminals root done all point (b + price_at topology segment) before after at
  over_grows done all point segment u b before after at drawn there leads rest =
      let longer_by : length (stepped before point segment).steps ≡ length before.steps + 1 =
      longer topology terminals root done before at drawn segment point u there leads in
      let degree : (p : ℕ) → degree_in done (stepped before point segment) p ≡ degree_in done before p + cond (point == p) 1 0 =
      degree_stepped topology terminals root done before at drawn segment point u there leads in
      let end : degree_in done (stepped before point segment) (next_point before) ≡ 1 =
      degree_new topology terminals root done before at drawn segment point u there leads in
      let old : (p : ℕ) → p ≤ length before.steps → degree_in all after p ≡ degree_in done (stepped before point segment) p =
      λ p below. rest.others p (omega (arith, below, longer_by)) (λ e. omega (arith, below, e)) in
      let none : spliced (branch_at topology (at_next at (next_point before) u (next_point before)))
      (degree_in done (stepped before point segment) (next_point before)) ≡ 0 =
      ap (λ d. spliced (branch_at topology (at_next at (next_point before) u (next_point before))) d) end ∙ omega arith in
      record {
        lies = rest.lies;
        more_steps = omega (arith, rest.more_steps, longer_by);
        kept = λ p below. rest.kept p (omega (arith, below, longer_by))
            ∙ at_old at (next_point before) u p (omega (arith, below));
        many = rest.many;
        drawn = rest.drawn;
        others = λ p below other. old p below ∙ omega (arith, degree p, other_point point p other);
        rose = omega (arith, old point there, degree point, same_point point point refl);
        new = λ p past below. elim (cases_eq p (next_point before)) [
          | inl e ↦ subst (λ (q : ℕ). 2 ≤ degree_in all after q) (sym e) (omega (arith, rest.rose, end))
          | inr other ↦ rest.new p (omega (arith, past, other, longer_by)) below
        ];
        cost = omega (
          arith,
          rest.cost,
          none,
          cost_stepped topology terminals root done before at drawn segment point u there leads,
        );
      }

module _ (topology : TopologyView) (terminals : List ℕ) (least : ℕ → ℕ → Option ℕ) (root : ℕ) (legal : IsLegal topology terminals least) where
  grow : {mask v point : ℕ} {before after : Laying} → Laid topology terminals least mask v point before after
      → (done m : ℕ) (at : ℕ → ℕ) → bit_and done mask ≡ 0
      → Drawn topology (cavities_of_mask terminals done) root (tree_laid done before) at → point ≤ length before.steps → at point ≡ v
      → length before.points ≡ length terminals - 1 → least mask v ≡ Some m
      → Grown topology terminals root done (done + mask) point m before after at
  grow {mask} {v} {point} {before} (hang i one) done m at apart drawn there lies many cell =
      let power : mask ≡ 2 ^ i = one.1 in
      let home : at point ≡ node_of topology (slice_index terminals (i + 1)) = lies ∙ sym one.2 in
      let number : least (2 ^ i) (node_of topology (slice_index terminals (i + 1))) ≡ Some m =
      ap (λ x. least x (node_of topology (slice_index terminals (i + 1)))) (sym power) ∙ (ap (least mask) one.2 ∙ cell) in
      let free : m ≡ 0 = free_at_most (least (2 ^ i) (node_of topology (slice_index terminals (i + 1)))) m number (legal.leaf i one.0) in
      subst (λ (x : ℕ). Grown topology terminals root done (done + x) point m before (hung before i point) at) (sym power)
      (subst (λ (x : ℕ). Grown topology terminals root done (done + 2 ^ i) point x before (hung before i point) at) (sym free)
      (hang_grows topology terminals root done i point before at (subst (λ (x : ℕ). bit_and done x ≡ 0) power apart) drawn there many one.0 home))
  grow {mask} {v} {point} {before} {after} (split {between = between} part none low first rest) done m at apart drawn there lies many cell =
      let is_part = low.holds.0 in
      let (k, sum, whole) = low.holds.1 in
      let (ab, br, both, branch, total) = sum_of_two (plus (least part v) (least (mask - part) v)) (Some (branch_at topology v)) k sum in
      let (a, b, at_part, at_rest, pair) = sum_of_two (least part v) (least (mask - part) v) ab both in
      let one : Grown topology terminals root done (done + part) point a before between at =
      grow first done a at (part_aside mask part is_part done apart) drawn there lies many at_part in
      let two : Grown topology terminals root (done + part) ((done + part) + (mask - part)) point b between after one.lies =
      grow rest (done + part) b one.lies (rest_aside mask part is_part done apart) one.drawn (omega (arith, there, one.more_steps))
      (one.kept point there ∙ lies) (one.many ∙ many) at_rest in
      let all : (done + part) + (mask - part) ≡ done + mask = omega (arith, is_part.rest) in
      let splice : branch_at topology (at point) ≡ br =
      ap (branch_at topology) lies ∙ (let f : Some (branch_at topology v) ≡ Some br = branch in cc) in
      let cost : a + b + branch_at topology (at point) ≡ m =
      omega (arith, pair, total, splice, same_number (least mask v) k m whole cell) in
      subst (λ (x : ℕ). Grown topology terminals root done x point m before after at) all
      (subst (λ (x : ℕ). Grown topology terminals root done ((done + part) + (mask - part)) point x before after at) cost
      (split_grows topology terminals root done (done + part) ((done + part) + (mask - part)) point a b before between after at there one two))
  grow {mask} {v} {point} {before} {after} (over segment u none whole low steps rest) done m at apart drawn there lies many cell =
      let (k, sum, full) = steps.1 in
      let (b, price, behind, paid, total) = sum_of_two (least mask u) (Some (price_at topology segment)) k sum in
      let leads : Leads topology segment (at point) u = subst (λ (x : ℕ). Leads topology segment x u) (sym lies) steps.0 in
      let longer_by : length (stepped before point segment).steps ≡ length before.steps + 1 =
      longer topology terminals root done before at drawn segment point u there leads in
      let one : Grown topology terminals root done (done + mask) (next_point before) b (stepped before point segment) after (at_next at (next_point before) u) =
      grow rest done b (at_next at (next_point before) u) apart
      (drawn_stepped topology terminals root done before at drawn segment point u there leads)
      (omega (arith, longer_by)) (at_new at (next_point before) u (next_point before) refl) many behind in
      let cost : b + price_at topology segment ≡ m =
      omega (arith, total, same_number (least mask v) k m full cell, (let f : Some (price_at topology segment) ≡ Some price = paid in let g : price_at topology segment ≡ price = cc in g)) in
      subst (λ (x : ℕ). Grown topology terminals root done (done + mask) point x before after at) cost
      (over_grows topology terminals root done (done + mask) point segment u b before after at drawn there leads one)

-- before anything is laid
module _ (topology : TopologyView) (terminals : List ℕ) (v : ℕ) where
  drawn_nothing : Drawn topology (cavities_of_mask terminals 0) v (tree_laid 0 (nothing_laid terminals)) (λ p. v)
  drawn_nothing = record {
    first = refl;
    below = λ k h. absurd (omega (arith, h));
    leads = λ k h. absurd (omega (arith, h));
    hangs =
        let R : ℕ → ℕ → Type 0 = λ c h. (h ≤ 0) × (v ≡ node_of topology c) in
        subst (λ l. AllZip R l (tree_laid 0 (nothing_laid terminals)).hangs) (sym (chosen-zero (drop 1 terminals)))
        (subst (λ l. AllZip R [] l) (sym (chosen-zero (replicate (length terminals - 1) 0))) tt);
  }

  degree_nothing : degree_in 0 (nothing_laid terminals) 0 ≡ 1
  unfolding degree_of
  degree_nothing =
      let none : hung_at (chosen (replicate (length terminals - 1) 0) 0) 0 ≡ 0 =
      ap (λ hs. hung_at hs 0) (chosen-zero (replicate (length terminals - 1) 0)) in
      omega (arith, none)

  cost_nothing : cost_at topology (tree_laid 0 (nothing_laid terminals)) (λ p. v) ≡ 0
  cost_nothing =
      let none : branch_at topology v * (degree_in 0 (nothing_laid terminals) 0 - 2) ≡ 0 =
      ap (λ d. branch_at topology v * (d - 2)) degree_nothing ∙ omega arith in
      omega (arith, none)

module _ (topology : TopologyView) (terminals : List ℕ) (least : ℕ → ℕ → Option ℕ) (mask v m : ℕ)
    (legal : IsLegal topology terminals least) (cell : least mask v ≡ Some m) (tree : Tree)
    (layout : IsLayout topology terminals least mask v tree) where
  grown : Grown topology terminals v 0 mask 0 m (nothing_laid terminals) layout.0 (λ p. v)
  grown =
      let all : Grown topology terminals v 0 (0 + mask) 0 m (nothing_laid terminals) layout.0 (λ p. v) =
      grow topology terminals least v legal layout.1 0 m (λ p. v) refl (drawn_nothing topology terminals v) (omega arith) refl
      (length-replicate (length terminals - 1) 0) cell in
      subst (λ (x : ℕ). Grown topology terminals v 0 x 0 m (nothing_laid terminals) layout.0 (λ p. v)) (zero-add mask) all

  pub layout_is_tree : IsWiringTree topology (cavities_of_mask terminals mask) v tree
  layout_is_tree =
      subst (λ (t : Tree). IsWiringTree topology (cavities_of_mask terminals mask) v t) (sym layout.2)
      (tree_of_drawn topology (cavities_of_mask terminals mask) v (tree_laid mask layout.0) grown.lies grown.drawn)

  pub layout_degrees : (point : ℕ) → point ≤ length tree.steps → 2 ≤ degree_of tree point
  layout_degrees point below =
      let laid : Tree = tree_laid mask layout.0 in
      let within : point ≤ length laid.steps = subst (λ (t : Tree). point ≤ length t.steps) layout.2 below in
      subst (λ (t : Tree). 2 ≤ degree_of t point) (sym layout.2)
      (elim (cases_eq point 0) [
        | inl e ↦ subst (λ (p : ℕ). 2 ≤ degree_of (tree_laid mask layout.0) p) (sym e) (omega (arith, grown.rose, degree_nothing topology terminals v))
        | inr other ↦ grown.new point (omega (arith, other)) within
      ])

  pub layout_costs : cost_of topology v tree ≡ m
  layout_costs =
      let none : spliced (branch_at topology v) (degree_in 0 (nothing_laid terminals) 0) ≡ 0 =
      ap (spliced (branch_at topology v)) (degree_nothing topology terminals v) ∙ omega arith in
      ap (cost_of topology v) layout.2
      ∙ (cost_of_drawn topology (cavities_of_mask terminals mask) v (tree_laid mask layout.0) grown.lies grown.drawn
      ∙ omega (arith, grown.cost, cost_nothing topology terminals v, none))

pub layouts_are_least_trees : (topology : TopologyView) (terminals : List ℕ) (least : ℕ → ℕ → Option ℕ) (mask v m : ℕ) (tree : Tree)
    → IsSound topology → All (λ c. c < length topology.cavities) terminals → HasLeastCosts topology terminals least
    → least mask v ≡ Some m → IsLayout topology terminals least mask v tree
    → IsWiringTree topology (cavities_of_mask terminals mask) v tree
    × ((point : ℕ) → point ≤ length tree.steps → 2 ≤ degree_of tree point)
    × (cost_of topology v tree ≡ m)
layouts_are_least_trees topology terminals least mask v m tree sound in_range costs cell layout =
    let legal : IsLegal topology terminals least = least_costs_are_legal topology terminals least sound in_range costs in (
      layout_is_tree topology terminals least mask v m legal cell tree layout,
      layout_degrees topology terminals least mask v m legal cell tree layout,
      layout_costs topology terminals least mask v m legal cell tree layout,
    )
