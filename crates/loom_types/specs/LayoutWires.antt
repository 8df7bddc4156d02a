use Rattle.std.specs.Prelude.{ℕ, zero, suc, List, [], ◌∷◌, ◌++◌, Bool, ◌≢◌, ◌+◌, ◌<◌, ◌≤◌, ◌==◌, ◌&&◌, not, nat_le, IsTrue, length, map, filter, reverse, take, count_by, if◌then◌else◌}
use Rattle.std.specs.Int.{sum_through}
use Rattle.std.specs.List.{zip}
use Rattle.std.specs.declared.cmp.Ordering.{Ordering}
use Rattle.std.specs.declared.cmp.Ordering.TheVariants.{Less, Equal, Greater}
use Rattle.loom_base.specs.declared.positions.SegmentNo.{SegmentNo}
use Rattle.loom_topology.specs.Topology.{TopologyView, segment_at, price_at, node_of, is_coupler}
use Rattle.loom_topology.specs.WiringTree.{Tree, step_at, place_of}
use Rattle.loom_topology.specs.TreeCost.{degree_of}
use Rattle.loom_types.specs.declared.layout.Layout.{Layout}
use Rattle.loom_types.specs.declared.wire.End.{End}
use Rattle.loom_types.specs.declared.wire.End.TheVariants.{Cavity, Splice, Pin}
use Rattle.loom_types.specs.declared.wire.Wire.{Wire}
use Rattle.loom_types.specs.LayoutTree.{tree_of}
use Rattle.loom_types.specs.Slots.{steps_over}
use Rattle.loom_types.specs.WireOrder.{end_cmp}

-- a wire that isn't finished: the stop at which it began, the runs so far, and the sum of their lengths
pub record Thread : Type 0 where
  pub stop : End
  pub route : List SegmentNo
  pub length : ℕ

abbrev pub thread_from : End → Thread
thread_from stop = record { stop = stop; route = []; length = 0 }

-- a thread and the point of the layout to which it has come
pub record Hung : Type 0 where
  pub point : ℕ
  pub thread : Thread

-- how a step crosses its segment: over a run, or through a coupler by a pin, whose near side is the one at the step's parent
pub data Crossing : Type 0 where
  Over : (segment length : ℕ) → Crossing
  Through : (coupler pin near far : ℕ) → Crossing

-- a step, as threads take it from the point that it adds to its parent
pub record Leg : Type 0 where
  pub parent : ℕ
  pub crossing : Crossing

abbrev pub segment_no : ℕ → SegmentNo
segment_no s = record { 0 = s }

abbrev pub pin_side : ℕ → ℕ → ℕ → End
pin_side coupler pin side = Pin (segment_no coupler) pin side

-- the wire between a thread's stop and another, from the lesser of the two to the greater, as is its route; its row is left at 0
abbrev pub directed : Ordering → ℕ → Thread → End → Wire
directed Greater net thread stop =
    record { net = record { 0 = net }; from = stop; to = thread.stop; route = reverse thread.route; length = thread.length; row = 0 }
directed Equal net thread stop =
    record { net = record { 0 = net }; from = thread.stop; to = stop; route = thread.route; length = thread.length; row = 0 }
directed Less net thread stop =
    record { net = record { 0 = net }; from = thread.stop; to = stop; route = thread.route; length = thread.length; row = 0 }

abbrev pub finished : ℕ → Thread → End → Wire
finished net thread stop = directed (end_cmp thread.stop stop) net thread stop

-- the threads that have come to a point, and the others
abbrev pub threads_at : ℕ → List Hung → List Thread
threads_at point hung = map (λ h. h.thread) (filter (λ h. h.point == point) hung)

abbrev pub threads_elsewhere : ℕ → List Hung → List Hung
threads_elsewhere point hung = filter (λ h. not (h.point == point)) hung

-- the wires that end at a point's splice from below: none where a single thread goes on, else each thread's
abbrev pub spliced : ℕ → End → List Thread → List Wire
spliced net splice (thread ∷ []) = []
spliced net splice threads = map (λ thread. finished net thread splice) threads

-- the thread that goes on upwards from a point: the single one that came there, else one that begins at the point's splice
abbrev pub thread_up : End → List Thread → Thread
thread_up splice (thread ∷ []) = thread
thread_up splice threads = thread_from splice

-- the wire that ends where a step goes through a pin, at the pin's far side; none where it goes over a run
abbrev pub crossed : ℕ → Thread → Crossing → List Wire
crossed net thread (Over segment length) = []
crossed net thread (Through coupler pin near far) = finished net thread (pin_side coupler pin far) ∷ []

-- the thread after the step: a run longer, or one that begins at the pin's near side
abbrev pub led : Thread → Crossing → Thread
led thread (Over segment length) =
    record { stop = thread.stop; route = thread.route ++ segment_no segment ∷ []; length = thread.length + length }
led thread (Through coupler pin near far) = thread_from (pin_side coupler pin near)

-- the threads once those of a point went up its step
abbrev pub hung_after : End → ℕ → Leg → List Hung → List Hung
hung_after splice point leg hung =
    record { point = leg.parent; thread = led (thread_up splice (threads_at point hung)) leg.crossing }
    ∷ threads_elsewhere point hung

-- the wires of a net that threads make over steps, the last step first, down to point 0, where the stem is
abbrev pub cut : ℕ → (ℕ → End) → End → List Hung → List Leg → List Wire
cut net splice stem hung [] =
    spliced net (splice 0) (threads_at 0 hung) ++ finished net (thread_up (splice 0) (threads_at 0 hung)) stem ∷ []
cut net splice stem hung (leg ∷ legs) =
    spliced net (splice (suc (length legs))) (threads_at (suc (length legs)) hung)
    ++ (crossed net (thread_up (splice (suc (length legs))) (threads_at (suc (length legs)) hung)) leg.crossing
    ++ cut net splice stem (hung_after (splice (suc (length legs))) (suc (length legs)) leg hung) legs)

-- a point at which three or more things meet is a splice
abbrev pub is_splice : Tree → ℕ → Bool
is_splice tree point = nat_le 3 (degree_of tree point)

-- how many of the points 0 to `last` are splices at a node
abbrev pub splices_through : TopologyView → ℕ → Tree → ℕ → ℕ → ℕ
splices_through topology v tree node last =
    sum_through (λ point. if is_splice tree point && place_of topology v tree point == node then 1 else 0) last

-- the name of a point's splice: its node, and how many splices there are at this node up to the point
abbrev pub splice_of : TopologyView → ℕ → Tree → ℕ → End
splice_of topology v tree point =
    let node = place_of topology v tree point in
    Splice (record { 0 = node }) (splices_through topology v tree node point)

-- which of the steps over its segment a step is, counted from 1
abbrev pub ordinal_of : Tree → ℕ → ℕ
ordinal_of tree k = count_by (λ s. s.segment == (step_at tree k).segment) (take (k + 1) tree.steps)

-- how a step from a node crosses a segment: over a run, or through a pin, whose side 1 is at the coupler's `from` node
abbrev pub crossing_of : TopologyView → ℕ → ℕ → ℕ → Crossing
crossing_of topology start segment pin =
    if is_coupler (segment_at topology segment).kind
    then (if (segment_at topology segment).from == start then Through segment pin 1 2 else Through segment pin 2 1)
    else Over segment (price_at topology segment)

-- step k, where `pins` gives the pin of the ordinal-th step over a coupler
abbrev pub leg_of : TopologyView → ℕ → (ℕ → ℕ → ℕ) → Tree → ℕ → Leg
leg_of topology v pins tree k =
    let step = step_at tree k in
    record {
      parent = step.parent;
      crossing = crossing_of topology (place_of topology v tree step.parent) step.segment (pins step.segment (ordinal_of tree k));
    }

-- the first `count` steps, the last of them first
abbrev pub legs_of : TopologyView → ℕ → (ℕ → ℕ → ℕ) → Tree → ℕ → List Leg
legs_of topology v pins tree zero = []
legs_of topology v pins tree (suc k) = leg_of topology v pins tree k ∷ legs_of topology v pins tree k

-- a thread from each cavity, at the point on which it hangs
abbrev pub hung_of : List ℕ → List ℕ → List Hung
hung_of cavities hangs =
    map (λ (cavity, point). record { point = point; thread = thread_from (Cavity (record { 0 = cavity })) }) (zip cavities hangs)

-- the wires of a layout from the stem's cavity for the other cavities
abbrev pub layout_wires : TopologyView → ℕ → (ℕ → ℕ → ℕ) → ℕ → List ℕ → Layout → List Wire
layout_wires topology net pins stem cavities layout =
    let v = node_of topology stem in
    let tree = tree_of layout in
    cut net (splice_of topology v tree) (Cavity (record { 0 = stem })) (hung_of cavities layout.hangs)
    (legs_of topology v pins tree (length tree.steps))

-- a wire but for its row
abbrev pub bare : Wire → Wire
bare w = record w { row = 0 }

-- different steps of a layout over one coupler have different pins
abbrev pub KeepsOwnPins : TopologyView → (ℕ → ℕ → ℕ) → Layout → Type 0
KeepsOwnPins topology pins layout =
    (coupler one other : ℕ) → IsTrue (is_coupler (segment_at topology coupler).kind)
    → 1 ≤ one → one < other → other ≤ steps_over layout coupler → pins coupler one ≢ pins coupler other
