use Rattle.std.proofs.Common.{arith, sym, ◌∙◌, subst, List, ℕ, []}
use Rattle.std.proofs.lemmas.List.{length-map}
use Rattle.loom_topology.specs.Topology.{IsSoundSegment}
use Rattle.loom_topology.specs.TopologyInside.{segment_of_link, IsIndexed}
use Rattle.loom_topology.proofs.Seen.{All-seen}
use Rattle.loom_topology.proofs.Kept.{IsIndexed-none, IsIndexed-more_open, IsIndexed-more_shut}
use Rattle.loom_topology.proofs.topology.incidence_of.Goals as goal
use Rattle.loom_topology.proofs.topology.incidence_of.Goals.{then-link+in_ok-add_segment, else-link}

pub loop-number-init : goal.loop-number-init
loop-number-init c =
    let K : List (List ℕ) → Type 0 = λ lists. IsIndexed lists c.args.node_count [] in
    subst K (sym c.in_ok-incidence.ensures) (IsIndexed-none c.args.node_count)

pub add_segment-requires-clause-from_in_range : goal.add_segment-requires-clause-from_in_range
add_segment-requires-clause-from_in_range c =
    let sound : IsSoundSegment c.args.node_count (segment_of_link c.index-links-number.result) =
    All-seen segment_of_link (IsSoundSegment c.args.node_count) c.args.links.now c.loop-number.number c.index-links-number.result
    (omega (arith, c.loop-number-test.true, length-map c.args.links.now segment_of_link)) c.index-links-number.is c.requires.sound in
    omega (arith, sound.from_below, c.loop-number.invariant.count)

pub add_segment-requires-clause-to_in_range : goal.add_segment-requires-clause-to_in_range
add_segment-requires-clause-to_in_range c =
    let sound : IsSoundSegment c.args.node_count (segment_of_link c.index-links-number.result) =
    All-seen segment_of_link (IsSoundSegment c.args.node_count) c.args.links.now c.loop-number.number c.index-links-number.result
    (omega (arith, c.loop-number-test.true, length-map c.args.links.now segment_of_link)) c.index-links-number.is c.requires.sound in
    omega (arith, sound.to_below, c.loop-number.invariant.count)

pub loop-number-preserved : goal.loop-number-preserved
loop-number-preserved c =
    let link = c.index-links-number.result in
    let sound : IsSoundSegment c.args.node_count (segment_of_link link) =
    All-seen segment_of_link (IsSoundSegment c.args.node_count) c.args.links.now c.loop-number.number link
    (omega (arith, c.loop-number-test.true, length-map c.args.links.now segment_of_link)) c.index-links-number.is c.requires.sound in
    elim c.if-link.branch [
      | then-link+in_ok-add_segment w ↦
          IsIndexed-more_open segment_of_link c.args.links.now c.loop-number.number link c.args.node_count
          c.loop-number.incidence c.if-link.incidence c.loop-number-test.true c.index-links-number.is sound w.if-link.true
          c.loop-number.invariant (w.incidence-is ∙ w.in_ok-add_segment.ensures.ok)
      | else-link w ↦
          IsIndexed-more_shut segment_of_link c.args.links.now c.loop-number.number link c.args.node_count
          c.loop-number.incidence c.if-link.incidence c.loop-number-test.true c.index-links-number.is w.if-link.false
          c.loop-number.invariant w.incidence-is
    ]
