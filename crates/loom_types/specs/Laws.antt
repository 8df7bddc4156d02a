use Rattle.std.specs.Prelude.{ℕ, List, ◌∷◌, ◌≡◌, ◌≢◌, ◌≤◌, ◌<◌, ◌↔◌, IsTrue, Contains, All, AllPairs, length, map}
use Rattle.loom_topology.specs.Topology.{TopologyView, IsSound, segment_at, is_coupler}
use Rattle.loom_topology.specs.Legal.{cavities_of_mask}
use Rattle.loom_types.specs.declared.layout.Layout.{Layout}
use Rattle.loom_types.specs.declared.wire.Wire.{Wire}
use Rattle.loom_types.specs.LayoutTree.{IsLaidOut, layout_cost}
use Rattle.loom_types.specs.LayoutWires.{layout_wires, KeepsOwnPins}
use Rattle.loom_types.specs.Routes.{IsRouted}
use Rattle.loom_types.specs.SetMask.{rest_of, stem_cavity}
use Rattle.loom_types.specs.Slots.{steps_over, EndsAtPin}
use Rattle.loom_types.specs.WireCost.{wires_cost}
use Rattle.loom_types.specs.WireTree.{FormsTree, ends_of}

-- the cavities of a set, its first one and then the rest
abbrev pub set_cavities : List ℕ → ℕ → List ℕ
set_cavities terminals mask = stem_cavity terminals mask ∷ cavities_of_mask terminals (rest_of mask)

-- the wires of a set's layout
abbrev pub set_wires : TopologyView → ℕ → (ℕ → ℕ → ℕ) → List ℕ → ℕ → Layout → List Wire
set_wires topology net pins terminals mask layout =
    layout_wires topology net pins (stem_cavity terminals mask) (cavities_of_mask terminals (rest_of mask)) layout

-- the set is laid out, its cavities are different, and so are the pins of different steps over one coupler
pub record IsCuttable (topology : TopologyView) (pins : ℕ → ℕ → ℕ) (terminals : List ℕ) (mask : ℕ) (layout : Layout) : Type 0 where
  pub laid : IsLaidOut topology terminals mask layout
  pub different : AllPairs (λ one other. one ≢ other) (set_cavities terminals mask)
  pub apart : KeepsOwnPins topology pins layout

-- the wires of a set's layout form one tree, whose leaves are the set's cavities
abbrev pub LayoutWiresFormTree : Type 0
LayoutWiresFormTree =
    (topology : TopologyView) (net : ℕ) (pins : ℕ → ℕ → ℕ) (terminals : List ℕ) (mask : ℕ) (layout : Layout)
    → IsCuttable topology pins terminals mask layout
    → FormsTree (set_cavities terminals mask) (map ends_of (set_wires topology net pins terminals mask layout))

-- the wires of a set's layout cost what the layout costs
abbrev pub LayoutWiresCost : Type 0
LayoutWiresCost =
    (topology : TopologyView) (net : ℕ) (pins : ℕ → ℕ → ℕ) (terminals : List ℕ) (mask : ℕ) (layout : Layout)
    → IsCuttable topology pins terminals mask layout
    → wires_cost topology (set_wires topology net pins terminals mask layout) ≡ layout_cost topology terminals mask layout

-- each wire of a set's layout is routed, and is one of the net
abbrev pub LayoutWiresAreRouted : Type 0
LayoutWiresAreRouted =
    (topology : TopologyView) (net : ℕ) (pins : ℕ → ℕ → ℕ) (terminals : List ℕ) (mask : ℕ) (layout : Layout)
    → IsSound topology → All (λ c. c < length topology.cavities) (set_cavities terminals mask) → IsLaidOut topology terminals mask layout
    → (w : Wire) → Contains (set_wires topology net pins terminals mask layout) w → IsRouted topology w × (w.net.0 ≡ net)

-- wires of a set's layout end at a pin of a coupler exactly where one of the layout's steps over the coupler has the pin
abbrev pub LayoutWiresEndAtPins : Type 0
LayoutWiresEndAtPins =
    (topology : TopologyView) (net : ℕ) (pins : ℕ → ℕ → ℕ) (terminals : List ℕ) (mask : ℕ) (layout : Layout)
    → IsLaidOut topology terminals mask layout → (coupler pin : ℕ)
    → ((w : Wire) × Contains (set_wires topology net pins terminals mask layout) w × EndsAtPin w coupler pin)
    ↔ (IsTrue (is_coupler (segment_at topology coupler).kind)
    × ((ordinal : ℕ) × (1 ≤ ordinal) × (ordinal ≤ steps_over layout coupler) × (pins coupler ordinal ≡ pin)))
