use Rattle.std.proofs.Common.{◌≡◌, ◌≤◌, ◌<◌, ◌+◌, ◌-◌, ℕ, List, Vec, Global, length, map, get_or, take, drop, slice_index, refl, sym, ap, subst, ◌∙◌, arith}
use Rattle.std.specs.List.{All}
use Rattle.std.proofs.lemmas.Bool.{false≢true}
use Rattle.std.proofs.lemmas.List.{length-map, length-drop, get_or-map, take_all}
use Rattle.std.proofs.lemmas.List.Elements.{All-get_or, All-same, All-take, All-drop}
use Rattle.std.proofs.lemmas.Option.{MatchOption-at_some, MatchOption-at_none}
use Rattle.loom_base.specs.declared.positions.CavityNo.{CavityNo}
use Rattle.loom_base.specs.declared.positions.NodeNo.{NodeNo}
use Rattle.loom_topology.specs.Topology.{TopologyView, node_of}
use Rattle.loom_topology.specs.Legal.{chosen, cavities_of_mask}
use Rattle.loom_topology.specs.WiringTree.{IsWiringTree, places_of}
use Rattle.loom_topology.specs.TreeCost.{cost_of}
use Rattle.loom_project.specs.Project.{topology_of, net_topology, cavities_of}
use Rattle.loom_types.specs.LayoutTree.{tree_of, step_of}
use Rattle.loom_types.specs.SetMask.{rest_of}
use Rattle.loom_audit.specs.Degrees.{AreDegrees}
use Rattle.loom_audit.specs.LayoutTests.{AreStepsSound, AreHungAt, AreTwoEach}
use Rattle.loom_audit.proofs.LaidOut.{stem, not_sound, not_hung, not_two, laid_out, places-whole, cost-is}
use Rattle.loom_audit.proofs.LaidParts.{map-drop_one, hung-points, sound-parents, sound-segments, nodes-within}
use Rattle.loom_audit.proofs.PlaceSteps.{length-places_of}
use Rattle.loom_audit.proofs.SetParts.{chosen-in_range}
use Rattle.loom_audit.proofs.laid.laid_cost.Goals as goal

pub cavity_node-start-requires : goal.cavity_node-start-requires
cavity_node-start-requires c =
    let draft = c.args.project.now in
    let set = c.args.set.now in
    let terminals = cavities_of draft set.net.0 in
    let few : length terminals ≤ 32 = omega (arith, c.cavities.ensures.at_most, ap length c.cavities.ensures.places, length-map c.cavities.result.now (λ (x : CavityNo). x.0)) in
    let numbers = map (λ (x : CavityNo). x.0) c.in_ok-some.some in
    let are : numbers ≡ chosen terminals set.mask = c.in_ok-some.ensures ∙ ap (λ (l : List ℕ). chosen l set.mask) c.cavities.ensures.places in
    let two : 2 ≤ length c.in_ok-some.some = omega (arith, ap length are, length-map c.in_ok-some.some (λ (x : CavityNo). x.0), c.requires.set.some) in
    All-get_or (λ (x : CavityNo). x.0 < length c.topology-topology.result.now.cavities) c.as_slice-cavities.result.now 0 (record { 0 = 0 }) (omega (arith, two, ap length c.as_slice-cavities.ensures))
    (All-same (λ (x : CavityNo). x.0 < length c.topology-topology.result.now.cavities) c.as_slice-cavities.result.now c.in_ok-some.some c.as_slice-cavities.ensures
    (chosen-in_range c.in_ok-some.some terminals set.mask are (length c.topology-topology.result.now.cavities) c.cavities.result.now c.cavities.ensures.places (subst (λ (n : ℕ). All (λ x. x.0 < n) c.cavities.result.now) (sym c.topology-topology.ensures.cavities) c.cavities.ensures.in_range)))

pub returns-in_default-clause-not : goal.returns-in_default-clause-not
returns-in_default-clause-not c =
    let draft = c.args.project.now in
    let set = c.args.set.now in
    let terminals = cavities_of draft set.net.0 in
    let few : length terminals ≤ 32 = omega (arith, c.cavities.ensures.at_most, ap length c.cavities.ensures.places, length-map c.cavities.result.now (λ (x : CavityNo). x.0)) in
    let numbers = map (λ (x : CavityNo). x.0) c.in_ok-some.some in
    let are : numbers ≡ chosen terminals set.mask = c.in_ok-some.ensures ∙ ap (λ (l : List ℕ). chosen l set.mask) c.cavities.ensures.places in
    let two : 2 ≤ length c.in_ok-some.some = omega (arith, ap length are, length-map c.in_ok-some.some (λ (x : CavityNo). x.0), c.requires.set.some) in
    let start = c.cavity_node-start.result.0 in
    let start_is : start ≡ node_of (topology_of draft) (slice_index numbers 0) =
    c.cavity_node-start.ensures.node
    ∙ ap (λ (t : TopologyView). node_of t (get_or c.as_slice-cavities.result.now 0 (record { 0 = 0 })).0) c.topology-topology.ensures.topology
    ∙ ap (λ (l : List CavityNo). node_of (topology_of draft) (get_or l 0 (record { 0 = 0 })).0) c.as_slice-cavities.ensures
    ∙ ap (node_of (topology_of draft)) (sym (get_or-map (λ (x : CavityNo). x.0) c.in_ok-some.some 0 (record { 0 = 0 }) 0 (omega (arith, two)))) in
    not_sound draft set.net.0 terminals set.mask set.layout c.requires.set c.set_is_stem_and_rest.ensures few numbers are start start_is
    (MatchOption-at_none _ _ c.in_default.is c.in_ok-places.ensures.unsound)

pub are_hung-requires : goal.are_hung-requires
are_hung-requires c =
    let draft = c.args.project.now in
    let set = c.args.set.now in
    let terminals = cavities_of draft set.net.0 in
    let few : length terminals ≤ 32 = omega (arith, c.cavities.ensures.at_most, ap length c.cavities.ensures.places, length-map c.cavities.result.now (λ (x : CavityNo). x.0)) in
    let numbers = map (λ (x : CavityNo). x.0) c.in_ok-some.some in
    let are : numbers ≡ chosen terminals set.mask = c.in_ok-some.ensures ∙ ap (λ (l : List ℕ). chosen l set.mask) c.cavities.ensures.places in
    let two : 2 ≤ length c.in_ok-some.some = omega (arith, ap length are, length-map c.in_ok-some.some (λ (x : CavityNo). x.0), c.requires.set.some) in
    All-take (λ (x : CavityNo). x.0 < length c.topology-topology.result.now.cavities) (length c.as_slice-cavities.result.now - 1) (drop 1 c.as_slice-cavities.result.now)
    (All-drop (λ (x : CavityNo). x.0 < length c.topology-topology.result.now.cavities) 1 c.as_slice-cavities.result.now
    (All-same (λ (x : CavityNo). x.0 < length c.topology-topology.result.now.cavities) c.as_slice-cavities.result.now c.in_ok-some.some c.as_slice-cavities.ensures
    (chosen-in_range c.in_ok-some.some terminals set.mask are (length c.topology-topology.result.now.cavities) c.cavities.result.now c.cavities.ensures.places (subst (λ (n : ℕ). All (λ x. x.0 < n) c.cavities.result.now) (sym c.topology-topology.ensures.cavities) c.cavities.ensures.in_range))))

pub returns-then-not-are_hung-clause-not : goal.returns-then-not-are_hung-clause-not
returns-then-not-are_hung-clause-not c =
    let draft = c.args.project.now in
    let set = c.args.set.now in
    let terminals = cavities_of draft set.net.0 in
    let few : length terminals ≤ 32 = omega (arith, c.cavities.ensures.at_most, ap length c.cavities.ensures.places, length-map c.cavities.result.now (λ (x : CavityNo). x.0)) in
    let numbers = map (λ (x : CavityNo). x.0) c.in_ok-some.some in
    let are : numbers ≡ chosen terminals set.mask = c.in_ok-some.ensures ∙ ap (λ (l : List ℕ). chosen l set.mask) c.cavities.ensures.places in
    let two : 2 ≤ length c.in_ok-some.some = omega (arith, ap length are, length-map c.in_ok-some.some (λ (x : CavityNo). x.0), c.requires.set.some) in
    let start = c.cavity_node-start.result.0 in
    let start_is : start ≡ node_of (topology_of draft) (slice_index numbers 0) =
    c.cavity_node-start.ensures.node
    ∙ ap (λ (t : TopologyView). node_of t (get_or c.as_slice-cavities.result.now 0 (record { 0 = 0 })).0) c.topology-topology.ensures.topology
    ∙ ap (λ (l : List CavityNo). node_of (topology_of draft) (get_or l 0 (record { 0 = 0 })).0) c.as_slice-cavities.ensures
    ∙ ap (node_of (topology_of draft)) (sym (get_or-map (λ (x : CavityNo). x.0) c.in_ok-some.some 0 (record { 0 = 0 }) 0 (omega (arith, two)))) in
    let places = map (λ (v : NodeNo). v.0) c.in-Some.places.items in
    let found = c.in-Some.is in
    let sound : AreStepsSound (net_topology draft set.net.0) start (tree_of set.layout) = MatchOption-at_some _ (λ _. AreStepsSound (net_topology draft set.net.0) start (tree_of set.layout)) c.in-Some.places found c.in_ok-places.ensures.sound in
    let places_are : places ≡ places_of (net_topology draft set.net.0) start (tree_of set.layout).steps = MatchOption-at_some _ (λ (l : Vec NodeNo Global). map (λ (v : NodeNo). v.0) l.items ≡ places_of (net_topology draft set.net.0) start (tree_of set.layout).steps) c.in-Some.places found c.in_ok-places.ensures.places in
    let long : length c.in-Some.places.items ≡ length set.layout.steps + 1 =
    sym (length-map c.in-Some.places.items (λ (v : NodeNo). v.0)) ∙ ap length places_are ∙ length-places_of (net_topology draft set.net.0) start (tree_of set.layout).steps
    ∙ ap (λ (n : ℕ). n + 1) (length-map set.layout.steps step_of) in
    let others : map (λ (x : CavityNo). x.0) (take (length c.as_slice-cavities.result.now - 1) (drop 1 c.as_slice-cavities.result.now)) ≡ drop 1 numbers =
    ap (map (λ (x : CavityNo). x.0)) (take_all (length c.as_slice-cavities.result.now - 1) (drop 1 c.as_slice-cavities.result.now) (omega (arith, length-drop 1 c.as_slice-cavities.result.now)))
    ∙ ap (λ (l : List CavityNo). map (λ (x : CavityNo). x.0) (drop 1 l)) c.as_slice-cavities.ensures ∙ map-drop_one c.in_ok-some.some in
    let hung_means : AreHungAt c.topology-topology.result.now (map (λ (v : NodeNo). v.0) c.deref.result.now) (map (λ (x : CavityNo). x.0) (take (length c.as_slice-cavities.result.now - 1) (drop 1 c.as_slice-cavities.result.now))) c.as_slice.result.now
    ≡ AreHungAt (topology_of draft) places (drop 1 numbers) set.layout.hangs =
    λ i. AreHungAt (c.topology-topology.ensures.topology i) (map (λ (v : NodeNo). v.0) (c.deref.ensures.value i)) (others i) (c.as_slice.ensures i) in
    not_hung draft set.net.0 terminals set.mask set.layout c.requires.set c.set_is_stem_and_rest.ensures few numbers are start start_is places places_are
    (λ h. absurd (false≢true (c.if-not-are_hung.ensures.1 (subst (λ (T : Type 0). T) (sym hung_means) h))))

pub degrees-requires-clause-points : goal.degrees-requires-clause-points
degrees-requires-clause-points c =
    let draft = c.args.project.now in
    let set = c.args.set.now in
    let terminals = cavities_of draft set.net.0 in
    let few : length terminals ≤ 32 = omega (arith, c.cavities.ensures.at_most, ap length c.cavities.ensures.places, length-map c.cavities.result.now (λ (x : CavityNo). x.0)) in
    let numbers = map (λ (x : CavityNo). x.0) c.in_ok-some.some in
    let are : numbers ≡ chosen terminals set.mask = c.in_ok-some.ensures ∙ ap (λ (l : List ℕ). chosen l set.mask) c.cavities.ensures.places in
    let two : 2 ≤ length c.in_ok-some.some = omega (arith, ap length are, length-map c.in_ok-some.some (λ (x : CavityNo). x.0), c.requires.set.some) in
    let start = c.cavity_node-start.result.0 in
    let start_is : start ≡ node_of (topology_of draft) (slice_index numbers 0) =
    c.cavity_node-start.ensures.node
    ∙ ap (λ (t : TopologyView). node_of t (get_or c.as_slice-cavities.result.now 0 (record { 0 = 0 })).0) c.topology-topology.ensures.topology
    ∙ ap (λ (l : List CavityNo). node_of (topology_of draft) (get_or l 0 (record { 0 = 0 })).0) c.as_slice-cavities.ensures
    ∙ ap (node_of (topology_of draft)) (sym (get_or-map (λ (x : CavityNo). x.0) c.in_ok-some.some 0 (record { 0 = 0 }) 0 (omega (arith, two)))) in
    let places = map (λ (v : NodeNo). v.0) c.in-Some.places.items in
    let found = c.in-Some.is in
    let sound : AreStepsSound (net_topology draft set.net.0) start (tree_of set.layout) = MatchOption-at_some _ (λ _. AreStepsSound (net_topology draft set.net.0) start (tree_of set.layout)) c.in-Some.places found c.in_ok-places.ensures.sound in
    let places_are : places ≡ places_of (net_topology draft set.net.0) start (tree_of set.layout).steps = MatchOption-at_some _ (λ (l : Vec NodeNo Global). map (λ (v : NodeNo). v.0) l.items ≡ places_of (net_topology draft set.net.0) start (tree_of set.layout).steps) c.in-Some.places found c.in_ok-places.ensures.places in
    let long : length c.in-Some.places.items ≡ length set.layout.steps + 1 =
    sym (length-map c.in-Some.places.items (λ (v : NodeNo). v.0)) ∙ ap length places_are ∙ length-places_of (net_topology draft set.net.0) start (tree_of set.layout).steps
    ∙ ap (λ (n : ℕ). n + 1) (length-map set.layout.steps step_of) in
    omega (arith, long, c.len.ensures, c.in-Some.places.ok.0)

pub degrees-requires-clause-parents : goal.degrees-requires-clause-parents
degrees-requires-clause-parents c =
    let draft = c.args.project.now in
    let set = c.args.set.now in
    let terminals = cavities_of draft set.net.0 in
    let few : length terminals ≤ 32 = omega (arith, c.cavities.ensures.at_most, ap length c.cavities.ensures.places, length-map c.cavities.result.now (λ (x : CavityNo). x.0)) in
    let numbers = map (λ (x : CavityNo). x.0) c.in_ok-some.some in
    let are : numbers ≡ chosen terminals set.mask = c.in_ok-some.ensures ∙ ap (λ (l : List ℕ). chosen l set.mask) c.cavities.ensures.places in
    let two : 2 ≤ length c.in_ok-some.some = omega (arith, ap length are, length-map c.in_ok-some.some (λ (x : CavityNo). x.0), c.requires.set.some) in
    let start = c.cavity_node-start.result.0 in
    let start_is : start ≡ node_of (topology_of draft) (slice_index numbers 0) =
    c.cavity_node-start.ensures.node
    ∙ ap (λ (t : TopologyView). node_of t (get_or c.as_slice-cavities.result.now 0 (record { 0 = 0 })).0) c.topology-topology.ensures.topology
    ∙ ap (λ (l : List CavityNo). node_of (topology_of draft) (get_or l 0 (record { 0 = 0 })).0) c.as_slice-cavities.ensures
    ∙ ap (node_of (topology_of draft)) (sym (get_or-map (λ (x : CavityNo). x.0) c.in_ok-some.some 0 (record { 0 = 0 }) 0 (omega (arith, two)))) in
    let places = map (λ (v : NodeNo). v.0) c.in-Some.places.items in
    let found = c.in-Some.is in
    let sound : AreStepsSound (net_topology draft set.net.0) start (tree_of set.layout) = MatchOption-at_some _ (λ _. AreStepsSound (net_topology draft set.net.0) start (tree_of set.layout)) c.in-Some.places found c.in_ok-places.ensures.sound in
    let places_are : places ≡ places_of (net_topology draft set.net.0) start (tree_of set.layout).steps = MatchOption-at_some _ (λ (l : Vec NodeNo Global). map (λ (v : NodeNo). v.0) l.items ≡ places_of (net_topology draft set.net.0) start (tree_of set.layout).steps) c.in-Some.places found c.in_ok-places.ensures.places in
    let long : length c.in-Some.places.items ≡ length set.layout.steps + 1 =
    sym (length-map c.in-Some.places.items (λ (v : NodeNo). v.0)) ∙ ap length places_are ∙ length-places_of (net_topology draft set.net.0) start (tree_of set.layout).steps
    ∙ ap (λ (n : ℕ). n + 1) (length-map set.layout.steps step_of) in
    sound-parents (net_topology draft set.net.0) start set.layout c.len.result (omega (arith, long, c.len.ensures, c.in-Some.places.ok.0)) sound

pub degrees-requires-clause-hangs : goal.degrees-requires-clause-hangs
degrees-requires-clause-hangs c =
    let draft = c.args.project.now in
    let set = c.args.set.now in
    let terminals = cavities_of draft set.net.0 in
    let few : length terminals ≤ 32 = omega (arith, c.cavities.ensures.at_most, ap length c.cavities.ensures.places, length-map c.cavities.result.now (λ (x : CavityNo). x.0)) in
    let numbers = map (λ (x : CavityNo). x.0) c.in_ok-some.some in
    let are : numbers ≡ chosen terminals set.mask = c.in_ok-some.ensures ∙ ap (λ (l : List ℕ). chosen l set.mask) c.cavities.ensures.places in
    let two : 2 ≤ length c.in_ok-some.some = omega (arith, ap length are, length-map c.in_ok-some.some (λ (x : CavityNo). x.0), c.requires.set.some) in
    let start = c.cavity_node-start.result.0 in
    let start_is : start ≡ node_of (topology_of draft) (slice_index numbers 0) =
    c.cavity_node-start.ensures.node
    ∙ ap (λ (t : TopologyView). node_of t (get_or c.as_slice-cavities.result.now 0 (record { 0 = 0 })).0) c.topology-topology.ensures.topology
    ∙ ap (λ (l : List CavityNo). node_of (topology_of draft) (get_or l 0 (record { 0 = 0 })).0) c.as_slice-cavities.ensures
    ∙ ap (node_of (topology_of draft)) (sym (get_or-map (λ (x : CavityNo). x.0) c.in_ok-some.some 0 (record { 0 = 0 }) 0 (omega (arith, two)))) in
    let places = map (λ (v : NodeNo). v.0) c.in-Some.places.items in
    let found = c.in-Some.is in
    let sound : AreStepsSound (net_topology draft set.net.0) start (tree_of set.layout) = MatchOption-at_some _ (λ _. AreStepsSound (net_topology draft set.net.0) start (tree_of set.layout)) c.in-Some.places found c.in_ok-places.ensures.sound in
    let places_are : places ≡ places_of (net_topology draft set.net.0) start (tree_of set.layout).steps = MatchOption-at_some _ (λ (l : Vec NodeNo Global). map (λ (v : NodeNo). v.0) l.items ≡ places_of (net_topology draft set.net.0) start (tree_of set.layout).steps) c.in-Some.places found c.in_ok-places.ensures.places in
    let long : length c.in-Some.places.items ≡ length set.layout.steps + 1 =
    sym (length-map c.in-Some.places.items (λ (v : NodeNo). v.0)) ∙ ap length places_are ∙ length-places_of (net_topology draft set.net.0) start (tree_of set.layout).steps
    ∙ ap (λ (n : ℕ). n + 1) (length-map set.layout.steps step_of) in
    let others : map (λ (x : CavityNo). x.0) (take (length c.as_slice-cavities.result.now - 1) (drop 1 c.as_slice-cavities.result.now)) ≡ drop 1 numbers =
    ap (map (λ (x : CavityNo). x.0)) (take_all (length c.as_slice-cavities.result.now - 1) (drop 1 c.as_slice-cavities.result.now) (omega (arith, length-drop 1 c.as_slice-cavities.result.now)))
    ∙ ap (λ (l : List CavityNo). map (λ (x : CavityNo). x.0) (drop 1 l)) c.as_slice-cavities.ensures ∙ map-drop_one c.in_ok-some.some in
    let hung_means : AreHungAt c.topology-topology.result.now (map (λ (v : NodeNo). v.0) c.deref.result.now) (map (λ (x : CavityNo). x.0) (take (length c.as_slice-cavities.result.now - 1) (drop 1 c.as_slice-cavities.result.now))) c.as_slice.result.now
    ≡ AreHungAt (topology_of draft) places (drop 1 numbers) set.layout.hangs =
    λ i. AreHungAt (c.topology-topology.ensures.topology i) (map (λ (v : NodeNo). v.0) (c.deref.ensures.value i)) (others i) (c.as_slice.ensures i) in
    let hung : AreHungAt (topology_of draft) places (drop 1 numbers) set.layout.hangs = subst (λ (T : Type 0). T) hung_means (c.if-not-are_hung.ensures.0 refl) in
    subst (λ (n : ℕ). All (λ point. point < n) set.layout.hangs) (omega (arith, length-map c.in-Some.places.items (λ (v : NodeNo). v.0), c.len.ensures, c.in-Some.places.ok.0))
    (hung-points (topology_of draft) places (drop 1 numbers) set.layout.hangs hung)

pub returns-then-not-are_two_each-clause-not : goal.returns-then-not-are_two_each-clause-not
returns-then-not-are_two_each-clause-not c =
    let draft = c.args.project.now in
    let set = c.args.set.now in
    let terminals = cavities_of draft set.net.0 in
    let few : length terminals ≤ 32 = omega (arith, c.cavities.ensures.at_most, ap length c.cavities.ensures.places, length-map c.cavities.result.now (λ (x : CavityNo). x.0)) in
    let numbers = map (λ (x : CavityNo). x.0) c.in_ok-some.some in
    let are : numbers ≡ chosen terminals set.mask = c.in_ok-some.ensures ∙ ap (λ (l : List ℕ). chosen l set.mask) c.cavities.ensures.places in
    let two : 2 ≤ length c.in_ok-some.some = omega (arith, ap length are, length-map c.in_ok-some.some (λ (x : CavityNo). x.0), c.requires.set.some) in
    let start = c.cavity_node-start.result.0 in
    let start_is : start ≡ node_of (topology_of draft) (slice_index numbers 0) =
    c.cavity_node-start.ensures.node
    ∙ ap (λ (t : TopologyView). node_of t (get_or c.as_slice-cavities.result.now 0 (record { 0 = 0 })).0) c.topology-topology.ensures.topology
    ∙ ap (λ (l : List CavityNo). node_of (topology_of draft) (get_or l 0 (record { 0 = 0 })).0) c.as_slice-cavities.ensures
    ∙ ap (node_of (topology_of draft)) (sym (get_or-map (λ (x : CavityNo). x.0) c.in_ok-some.some 0 (record { 0 = 0 }) 0 (omega (arith, two)))) in
    let places = map (λ (v : NodeNo). v.0) c.in-Some.places.items in
    let found = c.in-Some.is in
    let sound : AreStepsSound (net_topology draft set.net.0) start (tree_of set.layout) = MatchOption-at_some _ (λ _. AreStepsSound (net_topology draft set.net.0) start (tree_of set.layout)) c.in-Some.places found c.in_ok-places.ensures.sound in
    let places_are : places ≡ places_of (net_topology draft set.net.0) start (tree_of set.layout).steps = MatchOption-at_some _ (λ (l : Vec NodeNo Global). map (λ (v : NodeNo). v.0) l.items ≡ places_of (net_topology draft set.net.0) start (tree_of set.layout).steps) c.in-Some.places found c.in_ok-places.ensures.places in
    let long : length c.in-Some.places.items ≡ length set.layout.steps + 1 =
    sym (length-map c.in-Some.places.items (λ (v : NodeNo). v.0)) ∙ ap length places_are ∙ length-places_of (net_topology draft set.net.0) start (tree_of set.layout).steps
    ∙ ap (λ (n : ℕ). n + 1) (length-map set.layout.steps step_of) in
    let degrees : AreDegrees (tree_of set.layout) c.in_ok-degrees.degrees.items = c.in_ok-degrees.ensures in
    not_two draft set.net.0 terminals set.mask set.layout c.requires.set c.set_is_stem_and_rest.ensures few numbers are start start_is places places_are c.in_ok-degrees.degrees.items degrees
    (λ two_each. absurd (false≢true (c.if-not-are_two_each.ensures.1 (subst AreTwoEach (sym c.deref-2.ensures.value) two_each))))

pub cost-requires-clause-segments : goal.cost-requires-clause-segments
cost-requires-clause-segments c =
    let draft = c.args.project.now in
    let set = c.args.set.now in
    let terminals = cavities_of draft set.net.0 in
    let few : length terminals ≤ 32 = omega (arith, c.cavities.ensures.at_most, ap length c.cavities.ensures.places, length-map c.cavities.result.now (λ (x : CavityNo). x.0)) in
    let numbers = map (λ (x : CavityNo). x.0) c.in_ok-some.some in
    let are : numbers ≡ chosen terminals set.mask = c.in_ok-some.ensures ∙ ap (λ (l : List ℕ). chosen l set.mask) c.cavities.ensures.places in
    let two : 2 ≤ length c.in_ok-some.some = omega (arith, ap length are, length-map c.in_ok-some.some (λ (x : CavityNo). x.0), c.requires.set.some) in
    let start = c.cavity_node-start.result.0 in
    let start_is : start ≡ node_of (topology_of draft) (slice_index numbers 0) =
    c.cavity_node-start.ensures.node
    ∙ ap (λ (t : TopologyView). node_of t (get_or c.as_slice-cavities.result.now 0 (record { 0 = 0 })).0) c.topology-topology.ensures.topology
    ∙ ap (λ (l : List CavityNo). node_of (topology_of draft) (get_or l 0 (record { 0 = 0 })).0) c.as_slice-cavities.ensures
    ∙ ap (node_of (topology_of draft)) (sym (get_or-map (λ (x : CavityNo). x.0) c.in_ok-some.some 0 (record { 0 = 0 }) 0 (omega (arith, two)))) in
    let places = map (λ (v : NodeNo). v.0) c.in-Some.places.items in
    let found = c.in-Some.is in
    let sound : AreStepsSound (net_topology draft set.net.0) start (tree_of set.layout) = MatchOption-at_some _ (λ _. AreStepsSound (net_topology draft set.net.0) start (tree_of set.layout)) c.in-Some.places found c.in_ok-places.ensures.sound in
    let places_are : places ≡ places_of (net_topology draft set.net.0) start (tree_of set.layout).steps = MatchOption-at_some _ (λ (l : Vec NodeNo Global). map (λ (v : NodeNo). v.0) l.items ≡ places_of (net_topology draft set.net.0) start (tree_of set.layout).steps) c.in-Some.places found c.in_ok-places.ensures.places in
    let long : length c.in-Some.places.items ≡ length set.layout.steps + 1 =
    sym (length-map c.in-Some.places.items (λ (v : NodeNo). v.0)) ∙ ap length places_are ∙ length-places_of (net_topology draft set.net.0) start (tree_of set.layout).steps
    ∙ ap (λ (n : ℕ). n + 1) (length-map set.layout.steps step_of) in
    subst (λ (n : ℕ). All (λ step. step.1.0 < n) set.layout.steps) (sym c.topology-topology.ensures.segments) (sound-segments draft set.net.0 start set.layout sound)

pub cost-requires-clause-nodes : goal.cost-requires-clause-nodes
cost-requires-clause-nodes c =
    let draft = c.args.project.now in
    let set = c.args.set.now in
    let terminals = cavities_of draft set.net.0 in
    let few : length terminals ≤ 32 = omega (arith, c.cavities.ensures.at_most, ap length c.cavities.ensures.places, length-map c.cavities.result.now (λ (x : CavityNo). x.0)) in
    let numbers = map (λ (x : CavityNo). x.0) c.in_ok-some.some in
    let are : numbers ≡ chosen terminals set.mask = c.in_ok-some.ensures ∙ ap (λ (l : List ℕ). chosen l set.mask) c.cavities.ensures.places in
    let two : 2 ≤ length c.in_ok-some.some = omega (arith, ap length are, length-map c.in_ok-some.some (λ (x : CavityNo). x.0), c.requires.set.some) in
    let start = c.cavity_node-start.result.0 in
    let start_is : start ≡ node_of (topology_of draft) (slice_index numbers 0) =
    c.cavity_node-start.ensures.node
    ∙ ap (λ (t : TopologyView). node_of t (get_or c.as_slice-cavities.result.now 0 (record { 0 = 0 })).0) c.topology-topology.ensures.topology
    ∙ ap (λ (l : List CavityNo). node_of (topology_of draft) (get_or l 0 (record { 0 = 0 })).0) c.as_slice-cavities.ensures
    ∙ ap (node_of (topology_of draft)) (sym (get_or-map (λ (x : CavityNo). x.0) c.in_ok-some.some 0 (record { 0 = 0 }) 0 (omega (arith, two)))) in
    let places = map (λ (v : NodeNo). v.0) c.in-Some.places.items in
    let found = c.in-Some.is in
    let sound : AreStepsSound (net_topology draft set.net.0) start (tree_of set.layout) = MatchOption-at_some _ (λ _. AreStepsSound (net_topology draft set.net.0) start (tree_of set.layout)) c.in-Some.places found c.in_ok-places.ensures.sound in
    let places_are : places ≡ places_of (net_topology draft set.net.0) start (tree_of set.layout).steps = MatchOption-at_some _ (λ (l : Vec NodeNo Global). map (λ (v : NodeNo). v.0) l.items ≡ places_of (net_topology draft set.net.0) start (tree_of set.layout).steps) c.in-Some.places found c.in_ok-places.ensures.places in
    let long : length c.in-Some.places.items ≡ length set.layout.steps + 1 =
    sym (length-map c.in-Some.places.items (λ (v : NodeNo). v.0)) ∙ ap length places_are ∙ length-places_of (net_topology draft set.net.0) start (tree_of set.layout).steps
    ∙ ap (λ (n : ℕ). n + 1) (length-map set.layout.steps step_of) in
    let others : map (λ (x : CavityNo). x.0) (take (length c.as_slice-cavities.result.now - 1) (drop 1 c.as_slice-cavities.result.now)) ≡ drop 1 numbers =
    ap (map (λ (x : CavityNo). x.0)) (take_all (length c.as_slice-cavities.result.now - 1) (drop 1 c.as_slice-cavities.result.now) (omega (arith, length-drop 1 c.as_slice-cavities.result.now)))
    ∙ ap (λ (l : List CavityNo). map (λ (x : CavityNo). x.0) (drop 1 l)) c.as_slice-cavities.ensures ∙ map-drop_one c.in_ok-some.some in
    let hung_means : AreHungAt c.topology-topology.result.now (map (λ (v : NodeNo). v.0) c.deref.result.now) (map (λ (x : CavityNo). x.0) (take (length c.as_slice-cavities.result.now - 1) (drop 1 c.as_slice-cavities.result.now))) c.as_slice.result.now
    ≡ AreHungAt (topology_of draft) places (drop 1 numbers) set.layout.hangs =
    λ i. AreHungAt (c.topology-topology.ensures.topology i) (map (λ (v : NodeNo). v.0) (c.deref.ensures.value i)) (others i) (c.as_slice.ensures i) in
    let hung : AreHungAt (topology_of draft) places (drop 1 numbers) set.layout.hangs = subst (λ (T : Type 0). T) hung_means (c.if-not-are_hung.ensures.0 refl) in
    let degrees : AreDegrees (tree_of set.layout) c.in_ok-degrees.degrees.items = c.in_ok-degrees.ensures in
    let laid = laid_out draft set.net.0 terminals set.mask set.layout c.requires.set c.set_is_stem_and_rest.ensures few numbers are start start_is places places_are c.in_ok-degrees.degrees.items degrees sound hung
    (subst AreTwoEach c.deref-2.ensures.value (c.if-not-are_two_each.ensures.0 refl)) in
    let start_in : start < length (topology_of draft).nodes = subst (λ (t : TopologyView). start < length t.nodes) c.topology-topology.ensures.topology c.cavity_node-start.ensures.in_range in
    let tree_at : IsWiringTree (net_topology draft set.net.0) (cavities_of_mask terminals (rest_of set.mask)) start (tree_of set.layout) =
    subst (λ (v : ℕ). IsWiringTree (net_topology draft set.net.0) (cavities_of_mask terminals (rest_of set.mask)) v (tree_of set.layout)) (sym (stem draft set.net.0 terminals set.mask set.layout c.requires.set c.set_is_stem_and_rest.ensures few numbers are start start_is)) laid.tree in
    let nodes = nodes-within draft set.net.0 (cavities_of_mask terminals (rest_of set.mask)) start (tree_of set.layout) c.in-Some.places.items (c.has_sound_topologies.ensures.each set.net.0) tree_at start_in places_are in
    All-same (λ (u : NodeNo). u.0 < length c.topology-topology.result.now.nodes) c.deref-3.result.now c.in-Some.places.items c.deref-3.ensures.value
    (subst (λ (t : TopologyView). All (λ u. u.0 < length t.nodes) c.in-Some.places.items) (sym c.topology-topology.ensures.topology) nodes)

pub cost-requires-clause-points : goal.cost-requires-clause-points
cost-requires-clause-points c =
    let draft = c.args.project.now in
    let set = c.args.set.now in
    let terminals = cavities_of draft set.net.0 in
    let few : length terminals ≤ 32 = omega (arith, c.cavities.ensures.at_most, ap length c.cavities.ensures.places, length-map c.cavities.result.now (λ (x : CavityNo). x.0)) in
    let numbers = map (λ (x : CavityNo). x.0) c.in_ok-some.some in
    let are : numbers ≡ chosen terminals set.mask = c.in_ok-some.ensures ∙ ap (λ (l : List ℕ). chosen l set.mask) c.cavities.ensures.places in
    let two : 2 ≤ length c.in_ok-some.some = omega (arith, ap length are, length-map c.in_ok-some.some (λ (x : CavityNo). x.0), c.requires.set.some) in
    let start = c.cavity_node-start.result.0 in
    let start_is : start ≡ node_of (topology_of draft) (slice_index numbers 0) =
    c.cavity_node-start.ensures.node
    ∙ ap (λ (t : TopologyView). node_of t (get_or c.as_slice-cavities.result.now 0 (record { 0 = 0 })).0) c.topology-topology.ensures.topology
    ∙ ap (λ (l : List CavityNo). node_of (topology_of draft) (get_or l 0 (record { 0 = 0 })).0) c.as_slice-cavities.ensures
    ∙ ap (node_of (topology_of draft)) (sym (get_or-map (λ (x : CavityNo). x.0) c.in_ok-some.some 0 (record { 0 = 0 }) 0 (omega (arith, two)))) in
    let places = map (λ (v : NodeNo). v.0) c.in-Some.places.items in
    let found = c.in-Some.is in
    let sound : AreStepsSound (net_topology draft set.net.0) start (tree_of set.layout) = MatchOption-at_some _ (λ _. AreStepsSound (net_topology draft set.net.0) start (tree_of set.layout)) c.in-Some.places found c.in_ok-places.ensures.sound in
    let places_are : places ≡ places_of (net_topology draft set.net.0) start (tree_of set.layout).steps = MatchOption-at_some _ (λ (l : Vec NodeNo Global). map (λ (v : NodeNo). v.0) l.items ≡ places_of (net_topology draft set.net.0) start (tree_of set.layout).steps) c.in-Some.places found c.in_ok-places.ensures.places in
    let long : length c.in-Some.places.items ≡ length set.layout.steps + 1 =
    sym (length-map c.in-Some.places.items (λ (v : NodeNo). v.0)) ∙ ap length places_are ∙ length-places_of (net_topology draft set.net.0) start (tree_of set.layout).steps
    ∙ ap (λ (n : ℕ). n + 1) (length-map set.layout.steps step_of) in
    ap length c.deref-3.ensures.value ∙ long

pub returns-clause-laid : goal.returns-clause-laid
returns-clause-laid c =
    let draft = c.args.project.now in
    let set = c.args.set.now in
    let terminals = cavities_of draft set.net.0 in
    let few : length terminals ≤ 32 = omega (arith, c.cavities.ensures.at_most, ap length c.cavities.ensures.places, length-map c.cavities.result.now (λ (x : CavityNo). x.0)) in
    let numbers = map (λ (x : CavityNo). x.0) c.in_ok-some.some in
    let are : numbers ≡ chosen terminals set.mask = c.in_ok-some.ensures ∙ ap (λ (l : List ℕ). chosen l set.mask) c.cavities.ensures.places in
    let two : 2 ≤ length c.in_ok-some.some = omega (arith, ap length are, length-map c.in_ok-some.some (λ (x : CavityNo). x.0), c.requires.set.some) in
    let start = c.cavity_node-start.result.0 in
    let start_is : start ≡ node_of (topology_of draft) (slice_index numbers 0) =
    c.cavity_node-start.ensures.node
    ∙ ap (λ (t : TopologyView). node_of t (get_or c.as_slice-cavities.result.now 0 (record { 0 = 0 })).0) c.topology-topology.ensures.topology
    ∙ ap (λ (l : List CavityNo). node_of (topology_of draft) (get_or l 0 (record { 0 = 0 })).0) c.as_slice-cavities.ensures
    ∙ ap (node_of (topology_of draft)) (sym (get_or-map (λ (x : CavityNo). x.0) c.in_ok-some.some 0 (record { 0 = 0 }) 0 (omega (arith, two)))) in
    let places = map (λ (v : NodeNo). v.0) c.in-Some.places.items in
    let found = c.in-Some.is in
    let sound : AreStepsSound (net_topology draft set.net.0) start (tree_of set.layout) = MatchOption-at_some _ (λ _. AreStepsSound (net_topology draft set.net.0) start (tree_of set.layout)) c.in-Some.places found c.in_ok-places.ensures.sound in
    let places_are : places ≡ places_of (net_topology draft set.net.0) start (tree_of set.layout).steps = MatchOption-at_some _ (λ (l : Vec NodeNo Global). map (λ (v : NodeNo). v.0) l.items ≡ places_of (net_topology draft set.net.0) start (tree_of set.layout).steps) c.in-Some.places found c.in_ok-places.ensures.places in
    let long : length c.in-Some.places.items ≡ length set.layout.steps + 1 =
    sym (length-map c.in-Some.places.items (λ (v : NodeNo). v.0)) ∙ ap length places_are ∙ length-places_of (net_topology draft set.net.0) start (tree_of set.layout).steps
    ∙ ap (λ (n : ℕ). n + 1) (length-map set.layout.steps step_of) in
    let others : map (λ (x : CavityNo). x.0) (take (length c.as_slice-cavities.result.now - 1) (drop 1 c.as_slice-cavities.result.now)) ≡ drop 1 numbers =
    ap (map (λ (x : CavityNo). x.0)) (take_all (length c.as_slice-cavities.result.now - 1) (drop 1 c.as_slice-cavities.result.now) (omega (arith, length-drop 1 c.as_slice-cavities.result.now)))
    ∙ ap (λ (l : List CavityNo). map (λ (x : CavityNo). x.0) (drop 1 l)) c.as_slice-cavities.ensures ∙ map-drop_one c.in_ok-some.some in
    let hung_means : AreHungAt c.topology-topology.result.now (map (λ (v : NodeNo). v.0) c.deref.result.now) (map (λ (x : CavityNo). x.0) (take (length c.as_slice-cavities.result.now - 1) (drop 1 c.as_slice-cavities.result.now))) c.as_slice.result.now
    ≡ AreHungAt (topology_of draft) places (drop 1 numbers) set.layout.hangs =
    λ i. AreHungAt (c.topology-topology.ensures.topology i) (map (λ (v : NodeNo). v.0) (c.deref.ensures.value i)) (others i) (c.as_slice.ensures i) in
    let hung : AreHungAt (topology_of draft) places (drop 1 numbers) set.layout.hangs = subst (λ (T : Type 0). T) hung_means (c.if-not-are_hung.ensures.0 refl) in
    let degrees : AreDegrees (tree_of set.layout) c.in_ok-degrees.degrees.items = c.in_ok-degrees.ensures in
    let laid = laid_out draft set.net.0 terminals set.mask set.layout c.requires.set c.set_is_stem_and_rest.ensures few numbers are start start_is places places_are c.in_ok-degrees.degrees.items degrees sound hung
    (subst AreTwoEach c.deref-2.ensures.value (c.if-not-are_two_each.ensures.0 refl)) in
    laid

pub returns-clause-cost : goal.returns-clause-cost
returns-clause-cost c =
    let draft = c.args.project.now in
    let set = c.args.set.now in
    let terminals = cavities_of draft set.net.0 in
    let few : length terminals ≤ 32 = omega (arith, c.cavities.ensures.at_most, ap length c.cavities.ensures.places, length-map c.cavities.result.now (λ (x : CavityNo). x.0)) in
    let numbers = map (λ (x : CavityNo). x.0) c.in_ok-some.some in
    let are : numbers ≡ chosen terminals set.mask = c.in_ok-some.ensures ∙ ap (λ (l : List ℕ). chosen l set.mask) c.cavities.ensures.places in
    let two : 2 ≤ length c.in_ok-some.some = omega (arith, ap length are, length-map c.in_ok-some.some (λ (x : CavityNo). x.0), c.requires.set.some) in
    let start = c.cavity_node-start.result.0 in
    let start_is : start ≡ node_of (topology_of draft) (slice_index numbers 0) =
    c.cavity_node-start.ensures.node
    ∙ ap (λ (t : TopologyView). node_of t (get_or c.as_slice-cavities.result.now 0 (record { 0 = 0 })).0) c.topology-topology.ensures.topology
    ∙ ap (λ (l : List CavityNo). node_of (topology_of draft) (get_or l 0 (record { 0 = 0 })).0) c.as_slice-cavities.ensures
    ∙ ap (node_of (topology_of draft)) (sym (get_or-map (λ (x : CavityNo). x.0) c.in_ok-some.some 0 (record { 0 = 0 }) 0 (omega (arith, two)))) in
    let places = map (λ (v : NodeNo). v.0) c.in-Some.places.items in
    let found = c.in-Some.is in
    let sound : AreStepsSound (net_topology draft set.net.0) start (tree_of set.layout) = MatchOption-at_some _ (λ _. AreStepsSound (net_topology draft set.net.0) start (tree_of set.layout)) c.in-Some.places found c.in_ok-places.ensures.sound in
    let places_are : places ≡ places_of (net_topology draft set.net.0) start (tree_of set.layout).steps = MatchOption-at_some _ (λ (l : Vec NodeNo Global). map (λ (v : NodeNo). v.0) l.items ≡ places_of (net_topology draft set.net.0) start (tree_of set.layout).steps) c.in-Some.places found c.in_ok-places.ensures.places in
    let long : length c.in-Some.places.items ≡ length set.layout.steps + 1 =
    sym (length-map c.in-Some.places.items (λ (v : NodeNo). v.0)) ∙ ap length places_are ∙ length-places_of (net_topology draft set.net.0) start (tree_of set.layout).steps
    ∙ ap (λ (n : ℕ). n + 1) (length-map set.layout.steps step_of) in
    let at : map (λ (v : NodeNo). v.0) c.deref-3.result.now ≡ places_of c.topology-topology.result.now start (tree_of set.layout).steps =
    ap (map (λ (v : NodeNo). v.0)) c.deref-3.ensures.value ∙ places-whole draft set.net.0 terminals set.mask set.layout c.requires.set c.set_is_stem_and_rest.ensures few numbers are start start_is places places_are
    ∙ ap (λ (t : TopologyView). places_of t start (tree_of set.layout).steps) (sym c.topology-topology.ensures.topology) in
    cost-is draft set.net.0 terminals set.mask set.layout c.requires.set c.set_is_stem_and_rest.ensures few numbers are start start_is c.in_ok-cost.field-0
    (c.in_ok-cost.ensures start at ∙ ap (λ (t : TopologyView). cost_of t start (tree_of set.layout)) c.topology-topology.ensures.topology)
