-- What the parts of a layout's test tell: what is in range.
use Rattle.std.proofs.Common.{◌≡◌, ℕ, ◌+◌, ◌<◌, List, [], ◌∷◌, length, map, drop, get_or, slice_index, refl, sym, ap, subst, ◌∙◌, arith}
use Rattle.std.specs.List.{All, AllZip}
use Rattle.std.proofs.lemmas.List.{length-map, get_or-map}
use Rattle.std.proofs.lemmas.List.Elements.{All-nil, All-cons, All-from_get_or}
use Rattle.std.proofs.lemmas.Option.{slice_get-get_or}
use Rattle.loom_base.specs.declared.positions.CavityNo.{CavityNo}
use Rattle.loom_base.specs.declared.positions.NodeNo.{NodeNo}
use Rattle.loom_base.specs.declared.positions.SegmentNo.{SegmentNo}
use Rattle.loom_topology.specs.Topology.{TopologyView, IsSound}
use Rattle.loom_topology.specs.WiringTree.{Step, Tree, IsWiringTree, no_step, step_at, places_of, place_of}
use Rattle.loom_topology.proofs.Places.{place_below}
use Rattle.loom_project.specs.declared.draft.Draft.{Draft}
use Rattle.loom_project.specs.Project.{topology_of, net_topology}
use Rattle.loom_project.proofs.PartsLemmas.{count_net_segments}
use Rattle.loom_types.specs.declared.layout.Layout.{Layout}
use Rattle.loom_types.specs.declared.plan.Plan.{Plan}
use Rattle.loom_types.specs.declared.plan.SetLine.{SetLine}
use Rattle.loom_types.specs.declared.wire.End.{End}
use Rattle.loom_types.specs.declared.wire.End.TheVariants.{Cavity, Splice, Pin}
use Rattle.loom_types.specs.declared.wire.Wire.{Wire}
use Rattle.loom_types.specs.LayoutTree.{step_of, tree_of, IsLaidOut}
use Rattle.loom_types.specs.Routes.{IsEndInRange}
use Rattle.loom_active.proofs.Openings.{net_differs, coupler-same}
use Rattle.loom_active.proofs.OpenTrees.{open-within, open-in_project}
use Rattle.loom_audit.specs.LayoutRule.{AreLaidAtCost}
use Rattle.loom_audit.specs.LayoutTests.{AreStepsSound, HangsAt, AreHungAt}
use Rattle.loom_audit.specs.RouteRule.{AreRouted}
use Rattle.loom_audit.proofs.PlaceSteps.{length-places_of}

pub nodes-same : (draft : Draft) (net : ℕ) → length (topology_of draft).nodes ≡ length (net_topology draft net).nodes
unfolding net_topology
nodes-same draft net = refl

all_right : {A B : Type 0} (R : A → B → Type 0) (P : B → Type 0) → ((x : A) (y : B) → R x y → P y) → (xs : List A) (ys : List B) → AllZip R xs ys → All P ys
all_right R P imply [] [] h = All-nil P
all_right R P imply [] (y ∷ ys) h = absurd h
all_right R P imply (x ∷ xs) [] h = absurd h
all_right R P imply (x ∷ xs) (y ∷ ys) h = All-cons P y ys (imply x y h.0) (all_right R P imply xs ys h.1)

-- points on which cavities hang are there
pub hung-points : (topology : TopologyView) (places cavities hangs : List ℕ) → AreHungAt topology places cavities hangs → All (λ point. point < length places) hangs
hung-points topology places cavities hangs hung =
    all_right (HangsAt topology places) (λ point. point < length places) (λ c point h. h.0) cavities hangs hung

-- so are the points at which steps begin
pub sound-parents : (topology : TopologyView) (v : ℕ) (layout : Layout) (count : ℕ) → count ≡ length layout.steps + 1 → AreStepsSound topology v (tree_of layout)
    → All (λ step. step.parent < count) (tree_of layout).steps
sound-parents topology v layout count e sound =
    All-from_get_or (λ (step : Step). step.parent < count) (tree_of layout).steps no_step
    (λ k lt. omega (arith, (sound k lt).0, lt, e, length-map layout.steps step_of))

steps-open : (draft : Draft) (net : ℕ) (layout : Layout) → ((k : ℕ) → k < length (tree_of layout).steps → (step_at (tree_of layout) k).segment < length draft.segments)
    → All (λ step. step.1.0 < length draft.segments) layout.steps
steps-open draft net layout within =
    All-from_get_or (λ (step : ℕ × SegmentNo). step.1.0 < length draft.segments) layout.steps (0, record { 0 = 0 })
    (λ k lt.
    subst (λ (s : Step). s.segment < length draft.segments) (get_or-map step_of layout.steps k (0, record { 0 = 0 }) no_step lt)
    (within k (omega (arith, lt, length-map layout.steps step_of))))

-- and the segments of steps
pub sound-segments : (draft : Draft) (net v : ℕ) (layout : Layout) → AreStepsSound (net_topology draft net) v (tree_of layout)
    → All (λ step. step.1.0 < length draft.segments) layout.steps
sound-segments draft net v layout sound =
    steps-open draft net layout
    (λ k lt. omega (arith, open-within (net_topology draft net) (step_at (tree_of layout) k).segment (sound k lt).1.0, count_net_segments draft net))

pub laid-segments : (draft : Draft) (net : ℕ) (terminals : List ℕ) (mask : ℕ) (layout : Layout) → IsLaidOut (net_topology draft net) terminals mask layout
    → All (λ step. step.1.0 < length draft.segments) layout.steps
laid-segments draft net terminals mask layout laid =
    steps-open draft net layout
    (λ k lt. omega (arith, open-within (net_topology draft net) (step_at (tree_of layout) k).segment (laid.tree.is_open k lt), count_net_segments draft net))

pub sets-within : (draft : Draft) (plan : Plan) → AreLaidAtCost draft plan → All (λ set. All (λ step. step.1.0 < length draft.segments) set.layout.steps) plan.sets
sets-within draft plan laid k d lt =
    let set : SetLine = get_or plan.sets k d in
    laid-segments draft set.net.0 _ set.mask set.layout (laid k set (slice_get-get_or plan.sets k d lt)).laid

-- and the nodes at which points lie
pub nodes-within : (draft : Draft) (net : ℕ) (cavities : List ℕ) (v : ℕ) (tree : Tree) (places : List NodeNo) → IsSound (net_topology draft net)
    → IsWiringTree (net_topology draft net) cavities v tree → v < length (topology_of draft).nodes
    → map (λ u. u.0) places ≡ places_of (net_topology draft net) v tree.steps → All (λ u. u.0 < length (topology_of draft).nodes) places
nodes-within draft net cavities v tree places sound is_tree start are =
    let topology : TopologyView = net_topology draft net in
    let long : length places ≡ length tree.steps + 1 =
    sym (length-map places (λ (u : NodeNo). u.0)) ∙ (ap length are ∙ length-places_of topology v tree.steps) in
    All-from_get_or (λ (u : NodeNo). u.0 < length (topology_of draft).nodes) places (record { 0 = 0 })
    (λ k lt.
    let at : (get_or places k (record { 0 = 0 })).0 ≡ place_of topology v tree k =
    sym (get_or-map (λ (u : NodeNo). u.0) places k (record { 0 = 0 }) 0 lt) ∙ ap (λ (l : List ℕ). slice_index l k) are in
    let below = place_below topology cavities v tree is_tree sound (omega (arith, start, nodes-same draft net)) k (omega (arith, lt, long)) in
    omega (arith, at, below, nodes-same draft net))

-- ends that are in range for a net are for the project
pub end-whole : (draft : Draft) (net : ℕ) (e : End) → IsEndInRange (net_topology draft net) e → IsEndInRange (topology_of draft) e
end-whole draft net (Cavity c) h = omega (arith, h, ap length (net_differs draft net).cavities)
end-whole draft net (Splice node ordinal) h = (omega (arith, h.0, nodes-same draft net), h.1)
end-whole draft net (Pin coupler pin side) h = (
  open-in_project draft net coupler.0 h.0,
  coupler-same (topology_of draft) (net_topology draft net) (net_differs draft net) coupler.0 ∙ h.1,
  h.2,
)

pub ends-whole : (draft : Draft) (plan : Plan) → AreRouted draft plan → All (λ w. IsEndInRange (topology_of draft) w.from) plan.wires
ends-whole draft plan routed k d lt =
    let w : Wire = get_or plan.wires k d in
    end-whole draft w.net.0 w.from (routed k w (slice_get-get_or plan.wires k d lt)).from

pub map-drop_one : (l : List CavityNo) → map (λ c. c.0) (drop 1 l) ≡ drop 1 (map (λ c. c.0) l)
map-drop_one [] = refl
map-drop_one (c ∷ cs) = refl
