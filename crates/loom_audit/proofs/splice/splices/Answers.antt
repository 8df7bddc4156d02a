use Rattle.std.proofs.Common.{◌≡◌, ◌<◌, ◌≤◌, ◌+◌, ◌^◌, max, ℕ, cond, length, get_or, refl, arith}
use Rattle.std.proofs.Math.ListN.{set as set_at}
use Rattle.std.proofs.lemmas.List.Elements.{All-weaker}
use Rattle.loom_topology.specs.Topology.{node_of}
use Rattle.loom_topology.specs.WiringTree.{place_of}
use Rattle.loom_types.specs.LayoutTree.{tree_of}
use Rattle.loom_types.specs.LayoutWires.{is_splice, splices_through}
use Rattle.loom_types.specs.declared.wire.End.TheVariants.{Splice}
use Rattle.loom_audit.specs.CutSets.{first_of, others_of}
use Rattle.loom_audit.proofs.LaidLemmas.{hangs_within, parents_within, place_is, place_there, places_count, steps_length}
use Rattle.loom_audit.proofs.SpliceSteps.{few_splices, named_more, ordinal_is, ordinal_read}
use Rattle.loom_audit.proofs.splice.splices.Goals as goal

pub degrees-requires-clause-points : goal.degrees-requires-clause-points
degrees-requires-clause-points c =
    let set = c.args.set.now in
    places_count c.args.topology.now c.requires.sound set c.requires.laid c.args.places.now c.requires.places

pub degrees-requires-clause-parents : goal.degrees-requires-clause-parents
degrees-requires-clause-parents c =
    let set = c.args.set.now in
    let long : length c.args.places.now ≡ length set.layout.steps + 1 =
    places_count c.args.topology.now c.requires.sound set c.requires.laid c.args.places.now c.requires.places in
    All-weaker (λ step. step.parent ≤ length set.layout.steps) (λ step. step.parent < length c.args.places.now) (λ step h. omega arith)
    (tree_of set.layout).steps (parents_within c.args.topology.now set c.requires.laid)

pub degrees-requires-clause-hangs : goal.degrees-requires-clause-hangs
degrees-requires-clause-hangs c =
    let set = c.args.set.now in
    let long : length c.args.places.now ≡ length set.layout.steps + 1 =
    places_count c.args.topology.now c.requires.sound set c.requires.laid c.args.places.now c.requires.places in
    All-weaker (λ point. point ≤ length set.layout.steps) (λ point. point < length c.args.places.now) (λ point h. omega arith)
    set.layout.hangs (hangs_within c.args.topology.now set c.requires.laid)

pub index-requires : goal.index-requires
index-requires c =
    let set = c.args.set.now in
    omega (
      arith,
      c.loop-point-test.true,
      c.in_ok-degrees.ensures.count,
      c.in_ok-degrees.degrees.ok.0,
      places_count c.args.topology.now c.requires.sound set c.requires.laid c.args.places.now c.requires.places,
      steps_length c.args.topology.now set c.requires.laid,
    )

pub index-requires-in-loop-point : goal.index-requires-in-loop-point
index-requires-in-loop-point c =
    omega (
      arith,
      c.loop-point.invariant.nodes,
      c.loop-point.ordinals.ok.0,
      place_there c.args.topology.now c.requires.sound c.args.set.now c.requires.laid c.args.places.now c.requires.places c.loop-point.point (record { 0 = 0 })
          c.loop-point-test.true,
    )

pub index_mut-requires : goal.index_mut-requires
index_mut-requires c =
    omega (
      arith,
      c.loop-point.invariant.nodes,
      c.loop-point.ordinals.ok.0,
      place_there c.args.topology.now c.requires.sound c.args.set.now c.requires.laid c.args.places.now c.requires.places c.loop-point.point (record { 0 = 0 })
          c.loop-point-test.true,
    )

pub overflow_add-ordinal : goal.overflow_add-ordinal
overflow_add-ordinal c =
    let topology = c.args.topology.now in
    let set = c.args.set.now in
    let tree = tree_of set.layout in
    let v = node_of topology (first_of set) in
    let places = c.args.places.now in
    let k = c.loop-point.point in
    let node : ℕ = (get_or places k (record { 0 = 0 })).0 in
    let at : node ≡ place_of topology v tree k = place_is topology c.requires.sound set c.requires.laid places c.requires.places k (record { 0 = 0 }) c.loop-point-test.true in
    let there : node < length topology.nodes =
    place_there topology c.requires.sound set c.requires.laid places c.requires.places k (record { 0 = 0 }) c.loop-point-test.true in
    let count = places_count topology c.requires.sound set c.requires.laid places c.requires.places in
    let ordinal : c.index-in-loop-point.result.now + c.from.result ≡ get_or c.loop-point.ordinals.items node 0 + cond (is_splice tree k) 1 0 =
    ordinal_read tree k c.in_ok-degrees.degrees.items c.in_ok-degrees.ensures
    (omega (arith, c.in_ok-degrees.ensures.count, c.loop-point-test.true, count, steps_length topology set c.requires.laid))
    c.index.result.now c.index.ensures c.loop-point.ordinals.items node c.index-in-loop-point.result.now c.from.result
    (omega (arith, c.loop-point.invariant.nodes, there)) c.index-in-loop-point.ensures c.from.ensures in
    let total : c.index-in-loop-point.result.now + c.from.result ≡ splices_through topology v tree node k =
    ordinal_is topology v tree c.loop-point.ordinals.items c.loop-point.splices.items k c.loop-point.invariant node at there
    (c.index-in-loop-point.result.now + c.from.result) ordinal in
    let few : splices_through topology v tree node k ≤ max 1 k =
    few_splices topology c.requires.sound (others_of set) v tree c.requires.laid.tree node k
    (omega (arith, c.loop-point-test.true, count, steps_length topology set c.requires.laid)) in
    let below : k < 2 ^ 32 = omega (arith, c.loop-point-test.true, count, c.requires.few) in
    omega (arith, total, few, below)

pub loop-point-preserved : goal.loop-point-preserved
loop-point-preserved c =
    let topology = c.args.topology.now in
    let set = c.args.set.now in
    let tree = tree_of set.layout in
    let v = node_of topology (first_of set) in
    let places = c.args.places.now in
    let k = c.loop-point.point in
    let node : ℕ = (get_or places k (record { 0 = 0 })).0 in
    let at : node ≡ place_of topology v tree k = place_is topology c.requires.sound set c.requires.laid places c.requires.places k (record { 0 = 0 }) c.loop-point-test.true in
    let there : node < length topology.nodes =
    place_there topology c.requires.sound set c.requires.laid places c.requires.places k (record { 0 = 0 }) c.loop-point-test.true in
    let count = places_count topology c.requires.sound set c.requires.laid places c.requires.places in
    let ordinal : c.index-in-loop-point.result.now + c.from.result ≡ get_or c.loop-point.ordinals.items node 0 + cond (is_splice tree k) 1 0 =
    ordinal_read tree k c.in_ok-degrees.degrees.items c.in_ok-degrees.ensures
    (omega (arith, c.in_ok-degrees.ensures.count, c.loop-point-test.true, count, steps_length topology set c.requires.laid))
    c.index.result.now c.index.ensures c.loop-point.ordinals.items node c.index-in-loop-point.result.now c.from.result
    (omega (arith, c.loop-point.invariant.nodes, there)) c.index-in-loop-point.ensures c.from.ensures in
    named_more topology v tree c.loop-point.ordinals.items c.loop-point.splices.items k c.loop-point.invariant node at there
    (c.index-in-loop-point.result.now + c.from.result) ordinal
    (set_at c.loop-point.ordinals.items node (c.index-in-loop-point.result.now + c.from.result)) refl
    (Splice (get_or places k (record { 0 = 0 })) (c.index-in-loop-point.result.now + c.from.result)) refl
    c.push.new.self.items c.in_ok-push.ensures.items

pub returns-clause-count : goal.returns-clause-count
returns-clause-count c =
    let set = c.args.set.now in
    omega (
      arith,
      c.loop-point-test.false,
      c.loop-point.auto.point-end,
      c.loop-point.invariant.count,
      places_count c.args.topology.now c.requires.sound set c.requires.laid c.args.places.now c.requires.places,
    )
