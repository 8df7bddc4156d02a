-- A set of at least two terminals: its first cavity, the rest, and whether they are reached.
use Rattle.std.proofs.Common.{ℕ, zero, suc, List, ◌∷◌, Option, Some, None, IsSome, MatchOption, is_some, not, Bool, true, false, length, drop, map, slice_index, get_or, ◌≡◌, ◌-◌, ◌*◌, ◌^◌, ◌<◌, ◌≤◌, arith, refl, sym, ◌∙◌, ap, subst, inl, inr, pow_mono}
use Rattle.std.specs.List.{All}
use Rattle.std.proofs.lemmas.Bool.{cases_eq}
use Rattle.std.proofs.lemmas.List.{length-map, get_or-map}
use Rattle.std.proofs.lemmas.List.Elements.{All-cons, All-tail}
use Rattle.loom_base.specs.declared.positions.CavityNo.{CavityNo}
use Rattle.loom_topology.specs.Topology.{TopologyView, IsSound, node_of}
use Rattle.loom_topology.specs.WiringTree.{Tree}
use Rattle.loom_topology.specs.Legal.{IsMask, chosen, cavities_of_mask}
use Rattle.loom_topology.specs.Least.{HasLeastCosts}
use Rattle.loom_topology.specs.Reach.{IsReached, AreReached, here}
use Rattle.loom_topology.proofs.Reach.{number_where_reached}
use Rattle.loom_types.specs.SetMask.{stem_of, rest_of, stem_cavity, stem_node, IsSet}
use Rattle.loom_types.proofs.SetMasks.{set_is_stem_and_rest, stem_within}
use Rattle.loom_types.specs.declared.layout.Layout.{Layout}
use Rattle.loom_types.specs.LayoutTree.{step_of, tree_of, IsLaidOut, layout_cost}
use Rattle.loom_layout.specs.Layout.{IsLayout, IsLayoutOf}
use Rattle.loom_layout.specs.Stop.{IsFirstWithout}
use Rattle.loom_layout.proofs.HungCavities.{chosen-zero}
use Rattle.loom_layout.proofs.OneCavity.{power_below}
use Rattle.loom_layout.proofs.Grown.{layouts_are_least_trees}

power_halved : (n : ℕ) → 1 ≤ n → 2 ^ n ≡ 2 * 2 ^ (n - 1)
power_halved zero some = absurd (omega (arith, some))
power_halved (suc n) some = let e : suc n - 1 ≡ n = omega arith in rw e (omega arith)

module _ (terminals : List ℕ) (mask : ℕ) (set : IsSet terminals mask) (few : length terminals ≤ 12) where
  pub some_terminal : 0 < mask
  some_terminal = elim (cases_eq mask 0) [
    | inl e ↦
        let none : length (chosen terminals mask) ≡ 0 = ap (λ m. length (chosen terminals m)) e ∙ ap length (chosen-zero terminals) in
        absurd (let some = set.some in omega (arith, none, some))
    | inr other ↦ omega (arith, other)
  ]

  narrow : mask < 2 ^ 32
  narrow = let within = set.within in omega (arith, within, pow_mono {i = length terminals} {j = 32} (omega (arith, few)))

  pub stem_in_range : stem_of mask < length terminals
  stem_in_range =
      let within = set.within in
      power_below (stem_of mask) (length terminals) (omega (arith, within, stem_within mask some_terminal narrow))

  pub cut : chosen terminals mask ≡ stem_cavity terminals mask ∷ cavities_of_mask terminals (rest_of mask)
  cut = set_is_stem_and_rest terminals mask some_terminal set.within (omega (arith, few))

  some_rest : 0 < rest_of mask
  some_rest = elim (cases_eq (rest_of mask) 0) [
    | inl e ↦
        let none : length (cavities_of_mask terminals (rest_of mask)) ≡ 0 =
        ap (λ m. length (cavities_of_mask terminals m)) e ∙ ap length (chosen-zero (drop 1 terminals)) in
        absurd (let some = set.some in omega (arith, none, some, ap length cut))
    | inr other ↦ omega (arith, other)
  ]

  pub rest_range : IsMask terminals (rest_of mask)
  rest_range = (
    some_rest,
    (let within = set.within in omega (arith, within, power_halved (length terminals) (omega (arith, stem_in_range)))),
  )

  module _ (topology : TopologyView) where
    -- the set is reached where its rest is
    pub set_reached : AreReached topology (cavities_of_mask terminals (rest_of mask)) (stem_node topology terminals mask)
        → AreReached topology (chosen terminals mask) (stem_node topology terminals mask)
    set_reached rest =
        subst (λ l. AreReached topology l (stem_node topology terminals mask)) (sym cut)
        (All-cons (λ c. IsReached topology (stem_node topology terminals mask) (node_of topology c)) (stem_cavity terminals mask)
        (cavities_of_mask terminals (rest_of mask)) here rest)

    pub rest_reached : AreReached topology (chosen terminals mask) (stem_node topology terminals mask)
        → AreReached topology (cavities_of_mask terminals (rest_of mask)) (stem_node topology terminals mask)
    rest_reached all =
        All-tail (λ c. IsReached topology (stem_node topology terminals mask) (node_of topology c)) (stem_cavity terminals mask)
        (cavities_of_mask terminals (rest_of mask)) (subst (λ l. AreReached topology l (stem_node topology terminals mask)) cut all)

    module _ (least : ℕ → ℕ → Option ℕ) (costs : HasLeastCosts topology terminals least)
        (home : stem_node topology terminals mask < length topology.nodes) where
      pub reached_of_number : IsSome (least (rest_of mask) (stem_node topology terminals mask))
          → AreReached topology (chosen terminals mask) (stem_node topology terminals mask)
      reached_of_number some =
          set_reached ((number_where_reached topology (cavities_of_mask terminals (rest_of mask)) (stem_node topology terminals mask)
          (least (rest_of mask) (stem_node topology terminals mask))
          (costs (rest_of mask) (stem_node topology terminals mask) rest_range home)).0 some)

      pub number_of_reached : AreReached topology (chosen terminals mask) (stem_node topology terminals mask)
          → IsSome (least (rest_of mask) (stem_node topology terminals mask))
      number_of_reached all =
          (number_where_reached topology (cavities_of_mask terminals (rest_of mask)) (stem_node topology terminals mask)
          (least (rest_of mask) (stem_node topology terminals mask))
          (costs (rest_of mask) (stem_node topology terminals mask) rest_range home)).1 (rest_reached all)

pub few_numbers : (cavities : List CavityNo) → length cavities ≤ 12 → length (map (λ c. c.0) cavities) ≤ 12
few_numbers cavities few = omega (arith, few, length-map cavities (λ (c : CavityNo). c.0))

-- a test for None
pub is_number : (o p : Option ℕ) (none : Bool) → is_some o ≡ not none → none ≡ false → o ≡ p → IsSome p
is_number o p none test e same = subst (λ (x : Option ℕ). IsSome x) same (test ∙ ap not e)

pub isnt_number : (o p : Option ℕ) (none : Bool) → is_some o ≡ not none → none ≡ true → o ≡ p → IsSome p → ⊥
isnt_number o p none test e same some =
    let lacking : is_some o ≡ false = test ∙ ap not e in
    let has : is_some o ≡ true = ap is_some same ∙ some in
    let f : true ≡ false = sym has ∙ lacking in
    cc

pub of_some : {X : Type 0} (answer : Option X) (x : X) (P : Type 0) (Q : X → Type 0) → MatchOption answer P Q → answer ≡ Some x → Q x
of_some answer x P Q match e = subst (λ (o : Option _). MatchOption o P Q) e match

pub number : (o : Option ℕ) → IsSome o → (m : ℕ) × (o ≡ Some m)
number None some = absurd (let f : false ≡ true = some in cc)
number (Some m) some = (m, refl)

-- the same of a fact that says the same of each cavity
pub without_same : (P Q : ℕ → Type 0) (cavities : List ℕ) (cavity : ℕ) → ((c : ℕ) → P c → Q c) → ((c : ℕ) → Q c → P c)
    → IsFirstWithout P cavities cavity → IsFirstWithout Q cavities cavity
without_same P Q cavities cavity to back first = record {
  place = first.place;
  within = first.within;
  at = first.at;
  without = λ q. first.without (back cavity q);
  earlier = λ k below. to (slice_index cavities k) (first.earlier k below);
}

-- the first cavity's node, as the code finds it
pub home_is : (topology : TopologyView) (cavities : List CavityNo) (mask i node : ℕ) (d : CavityNo) → i ≡ stem_of mask → i < length cavities
    → node ≡ node_of topology (get_or cavities i d).0 → node ≡ stem_node topology (map (λ c. c.0) cavities) mask
home_is topology cavities mask i node d stem within at =
    at ∙ ap (node_of topology) (sym (get_or-map (λ (c : CavityNo). c.0) cavities i d 0 within)
    ∙ ap (slice_index (map (λ c. c.0) cavities)) stem)

-- the layout of the rest from there is the set's
pub layout_of_set : (topology : TopologyView) (terminals : List ℕ) (least : ℕ → ℕ → Option ℕ) (mask rest node : ℕ) (tree : Tree)
    → rest ≡ rest_of mask → node ≡ stem_node topology terminals mask → IsLayout topology terminals least rest node tree
    → IsLayout topology terminals least (rest_of mask) (stem_node topology terminals mask) tree
layout_of_set topology terminals least mask rest node tree e f layout =
    subst (λ (r : ℕ). IsLayout topology terminals least r (stem_node topology terminals mask) tree) e
    (subst (λ (v : ℕ). IsLayout topology terminals least rest v tree) f layout)

module _ (topology : TopologyView) (terminals : List ℕ) (least : ℕ → ℕ → Option ℕ) (mask : ℕ) (layout : Layout)
    (sound : IsSound topology) (in_range : All (λ c. c < length topology.cavities) terminals)
    (costs : HasLeastCosts topology terminals least) (some : IsSome (least (rest_of mask) (stem_node topology terminals mask)))
    (fixed : IsLayoutOf topology terminals least mask layout) where
  pub laid_out : IsLaidOut topology terminals mask layout
  laid_out =
      let (m, cell) = number (least (rest_of mask) (stem_node topology terminals mask)) some in
      let (tree, degrees, cost) =
      layouts_are_least_trees topology terminals least (rest_of mask) (stem_node topology terminals mask) m (tree_of layout)
      sound in_range costs cell fixed in
      record {
        tree = tree;
        degrees = λ point below. degrees point (omega (arith, below, length-map layout.steps step_of));
      }

  pub costs_the_cell : least (rest_of mask) (stem_node topology terminals mask) ≡ Some (layout_cost topology terminals mask layout)
  costs_the_cell =
      let (m, cell) = number (least (rest_of mask) (stem_node topology terminals mask)) some in
      let (tree, degrees, cost) =
      layouts_are_least_trees topology terminals least (rest_of mask) (stem_node topology terminals mask) m (tree_of layout)
      sound in_range costs cell fixed in
      cell ∙ ap Some (sym cost)
