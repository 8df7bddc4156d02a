-- The laws on the wires of a set's layout, from those on wiring trees.
use Rattle.std.proofs.Common.{ℕ, List, length, map, ◌≡◌, ◌<◌, ◌≤◌, ◌==◌, ◌↔◌, count_by, arith}
use Rattle.std.proofs.lemmas.List.{length-map}
use Rattle.std.proofs.lemmas.List.Elements.{All-contains}
use Rattle.std.specs.Bool.{IsTrue}
use Rattle.std.specs.List.{All, Contains}
use Rattle.loom_topology.proofs.Sums.{sum_by-map}
use Rattle.loom_topology.specs.Topology.{TopologyView, IsSound, segment_at, is_coupler}
use Rattle.loom_topology.specs.Legal.{cavities_of_mask}
use Rattle.loom_types.specs.declared.layout.Layout.{Layout}
use Rattle.loom_types.specs.declared.wire.Wire.{Wire}
use Rattle.loom_types.specs.Laws.{set_cavities, set_wires, IsCuttable}
use Rattle.loom_types.specs.LayoutTree.{IsLaidOut, layout_cost, step_of, tree_of}
use Rattle.loom_types.specs.Routes.{IsRouted}
use Rattle.loom_types.specs.SetMask.{rest_of, stem_cavity, stem_node}
use Rattle.loom_types.specs.Slots.{steps_over, EndsAtPin}
use Rattle.loom_types.specs.WireCost.{wires_cost}
use Rattle.loom_types.specs.WireTree.{FormsTree, ends_of}
use Rattle.loom_types.proofs.Tallies.{one_if}
use Rattle.loom_types.proofs.CarriedWires.{IsRoutedOf}
use Rattle.loom_types.proofs.TreeNames.{IsCutTree}
use Rattle.loom_types.proofs.TreeForms.{tree_wires_form}
use Rattle.loom_types.proofs.TreeCosts.{tree_wires_cost}
use Rattle.loom_types.proofs.TreeRoutes.{tree_wires_routed}
use Rattle.loom_types.proofs.TreePins.{pin_has_step, step_has_pin}

steps_of_tree : (layout : Layout) → length (tree_of layout).steps ≡ length layout.steps
steps_of_tree layout = length-map layout.steps step_of

over_tree : (layout : Layout) (coupler : ℕ) → count_by (λ s. s.segment == coupler) (tree_of layout).steps ≡ steps_over layout coupler
over_tree layout coupler = sum_by-map (λ s. one_if (s.segment == coupler)) step_of layout.steps

cut_tree : (topology : TopologyView) (pins : ℕ → ℕ → ℕ) (terminals : List ℕ) (mask : ℕ) (layout : Layout)
    → IsCuttable topology pins terminals mask layout
    → IsCutTree topology (stem_node topology terminals mask) pins (stem_cavity terminals mask)
    (cavities_of_mask terminals (rest_of mask)) (tree_of layout)
cut_tree topology pins terminals mask layout is_cut = record {
  wiring = is_cut.laid.tree;
  degrees = λ p within. is_cut.laid.degrees p (omega (arith, within, steps_of_tree layout));
  different = is_cut.different;
  apart = λ coupler one other kind from less to.
      is_cut.apart coupler one other kind from less (omega (arith, to, over_tree layout coupler));
}

pub layout_wires_form_tree : (topology : TopologyView) (net : ℕ) (pins : ℕ → ℕ → ℕ) (terminals : List ℕ) (mask : ℕ) (layout : Layout)
    → IsCuttable topology pins terminals mask layout
    → FormsTree (set_cavities terminals mask) (map ends_of (set_wires topology net pins terminals mask layout))
layout_wires_form_tree topology net pins terminals mask layout is_cut =
    tree_wires_form topology (stem_node topology terminals mask) pins (tree_of layout) (stem_cavity terminals mask)
    (cavities_of_mask terminals (rest_of mask)) (cut_tree topology pins terminals mask layout is_cut) net

pub layout_wires_cost : (topology : TopologyView) (net : ℕ) (pins : ℕ → ℕ → ℕ) (terminals : List ℕ) (mask : ℕ) (layout : Layout)
    → IsCuttable topology pins terminals mask layout
    → wires_cost topology (set_wires topology net pins terminals mask layout) ≡ layout_cost topology terminals mask layout
layout_wires_cost topology net pins terminals mask layout is_cut =
    tree_wires_cost topology (stem_node topology terminals mask) pins (tree_of layout) (stem_cavity terminals mask)
    (cavities_of_mask terminals (rest_of mask)) (cut_tree topology pins terminals mask layout is_cut) net

pub layout_wires_are_routed : (topology : TopologyView) (net : ℕ) (pins : ℕ → ℕ → ℕ) (terminals : List ℕ) (mask : ℕ) (layout : Layout)
    → IsSound topology → All (λ c. c < length topology.cavities) (set_cavities terminals mask) → IsLaidOut topology terminals mask layout
    → (w : Wire) → Contains (set_wires topology net pins terminals mask layout) w → IsRouted topology w × (w.net.0 ≡ net)
layout_wires_are_routed topology net pins terminals mask layout sound ranges laid w has =
    All-contains (IsRoutedOf topology net) (set_wires topology net pins terminals mask layout) w
    (tree_wires_routed topology pins (tree_of layout) (stem_cavity terminals mask) (cavities_of_mask terminals (rest_of mask)) laid.tree net
    sound ranges (λ p within. laid.degrees p (omega (arith, within, steps_of_tree layout)))) has

pub layout_wires_end_at_pins : (topology : TopologyView) (net : ℕ) (pins : ℕ → ℕ → ℕ) (terminals : List ℕ) (mask : ℕ) (layout : Layout)
    → IsLaidOut topology terminals mask layout → (coupler pin : ℕ)
    → ((w : Wire) × Contains (set_wires topology net pins terminals mask layout) w × EndsAtPin w coupler pin)
    ↔ (IsTrue (is_coupler (segment_at topology coupler).kind)
    × ((ordinal : ℕ) × (1 ≤ ordinal) × (ordinal ≤ steps_over layout coupler) × (pins coupler ordinal ≡ pin)))
layout_wires_end_at_pins topology net pins terminals mask layout laid coupler pin = (
  λ (w, has, ends).
      let (kind, (ordinal, from, to, e)) =
      pin_has_step topology (stem_node topology terminals mask) pins (tree_of layout) (stem_cavity terminals mask)
      (cavities_of_mask terminals (rest_of mask)) laid.tree net coupler pin w has ends in
      (kind, (ordinal, from, omega (arith, to, over_tree layout coupler), e)),
  λ (kind, (ordinal, from, to, e)).
      step_has_pin topology (stem_node topology terminals mask) pins (tree_of layout) (stem_cavity terminals mask)
      (cavities_of_mask terminals (rest_of mask)) laid.tree net coupler pin ordinal kind from
      (omega (arith, to, over_tree layout coupler)) e,
)
