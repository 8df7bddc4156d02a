use Rattle.std.proofs.Common.{◌<◌, ◌≤◌, length, map, arith}
use Rattle.std.proofs.lemmas.List.{length-map}
use Rattle.loom_topology.specs.Found.{view_of_found}
use Rattle.loom_topology.proofs.Found.{found_first, place_seen, place_below, found_below, IsClosed-more, found_longer, found_still, closed_all, found_is_reached}
use Rattle.loom_topology.proofs.spreading.found_from.Goals as goal

pub loop-next-init : goal.loop-next-init
loop-next-init c =
    let first = found_first c.args.topology.now (λ v. v.0) c.args.start.0 c.node_count.result c.in_ok-found.found.marks.items
    c.in_ok-found.found.nodes.items (view_of_found c.add.new.self) c.requires c.node_count.ensures.count c.in_ok-found.ensures.marks
    c.in_ok-found.ensures.nodes c.in_ok-add.ensures in
    record { kept = first.0; first = first.1; within = omega arith; closed = λ k below. absurd (omega arith) }

pub add_ends-requires-clause-in_range : goal.add_ends-requires-clause-in_range
add_ends-requires-clause-in_range c =
    let place = place_seen (λ v. v.0) c.loop-next.found.nodes.items c.loop-next.next c.index-node.result.now c.index-node.ensures
    (omega (arith, c.loop-next-test.true, c.len.ensures)) in
    found_below c.args.topology.now c.args.start.0 (view_of_found c.loop-next.found) c.loop-next.invariant.kept c.index-node.result.now.0 place.1

pub loop-next-smaller : goal.loop-next-smaller
loop-next-smaller c =
    let place = place_seen (λ v. v.0) c.loop-next.found.nodes.items c.loop-next.next c.index-node.result.now c.index-node.ensures
    (omega (arith, c.loop-next-test.true, c.len.ensures)) in
    let below : c.loop-next.next < length c.args.topology.now.nodes =
    place_below c.args.topology.now c.args.start.0 c.loop-next.next (view_of_found c.loop-next.found) c.loop-next.invariant.kept place.2 in
    omega arith

pub loop-next-preserved : goal.loop-next-preserved
loop-next-preserved c =
    let place = place_seen (λ v. v.0) c.loop-next.found.nodes.items c.loop-next.next c.index-node.result.now c.index-node.ensures
    (omega (arith, c.loop-next-test.true, c.len.ensures)) in
    let reached = c.loop-next.invariant.kept.reached c.index-node.result.now.0 place.1 in
    record {
      kept = c.in_ok-add_ends.ensures.kept c.args.start.0 reached c.loop-next.invariant.kept;
      first = found_still c.args.topology.now c.index-node.result.now.0 c.args.start.0 (view_of_found c.loop-next.found)
          (view_of_found c.add_ends.new.self) c.in_ok-add_ends.ensures c.loop-next.invariant.first;
      within = found_longer c.args.topology.now c.index-node.result.now.0 c.loop-next.next (view_of_found c.loop-next.found)
          (view_of_found c.add_ends.new.self) c.in_ok-add_ends.ensures place.2;
      closed = IsClosed-more c.args.topology.now c.args.start.0 c.index-node.result.now.0 c.loop-next.next
          (view_of_found c.loop-next.found) (view_of_found c.add_ends.new.self) c.in_ok-add_ends.ensures reached
          c.loop-next.invariant.kept place.2 place.0 c.loop-next.invariant.closed;
    }

pub returns-clause-reached : goal.returns-clause-reached
returns-clause-reached c =
    let all : length (map (λ v. v.0) c.loop-next.found.nodes.items) ≤ c.loop-next.next =
    omega (arith, c.loop-next-test.false, length-map c.loop-next.found.nodes.items (λ v. v.0)) in
    found_is_reached c.args.topology.now c.args.start.0 (view_of_found c.loop-next.found) c.loop-next.invariant.kept c.loop-next.invariant.first
    (closed_all c.args.topology.now c.loop-next.next (view_of_found c.loop-next.found) all c.loop-next.invariant.closed)
