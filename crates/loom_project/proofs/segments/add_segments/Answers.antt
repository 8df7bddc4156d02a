use Rattle.std.proofs.Common.{◌≡◌, ◌++◌, ◌∷◌, [], ap, sym, ◌∙◌}
use Rattle.std.proofs.lemmas.Result.{err_from_is_err_and}
use Rattle.loom_topology.specs.Topology.{TopologyView}
use Rattle.loom_project.specs.Project.{placed_nodes}
use Rattle.loom_project.specs.Sound.{segments_check}
use Rattle.loom_base.proofs.EachLemmas.{list_stops, each_next, map_next}
use Rattle.loom_project.proofs.SegmentLemmas.{segment_fits}
use Rattle.loom_project.proofs.TopologyLemmas.{segment_added}
use Rattle.loom_project.proofs.segments.add_segments.Goals as goal

pub returns-in_err-from-clause-gives : goal.returns-in_err-from-clause-gives
unfolding segments_check
returns-in_err-from-clause-gives c =
    let p = err_from_is_err_and c.from_residual-in_err-from.result c.from_residual-in_err-from.ensures.1 in
    rw (p.1, p.2) (λ fresh. list_stops _ _ _ _ _ _ c.in_ok-within_limit.ensures.check c.segment-item.is c.loop-segment-test.true c.loop-segment.invariant.passed
    (rw (← c.loop-segment.invariant.taken) (c.in_err-from.ensures.gives fresh)))

pub loop-segment-preserved : goal.loop-segment-preserved
loop-segment-preserved c = record {
  taken = c.in_ok-from.ensures.taken ∙ ap (λ names. names ++ c.segment-item.result.name ∷ []) c.loop-segment.invariant.taken
      ∙ sym (map_next (λ segment. segment.name) _ _ _ c.segment-item.is c.loop-segment-test.true);
  topology = segment_added _ _ c.args.topology.now _ _ _ _ _ _ c.segment-item.is c.loop-segment-test.true c.loop-segment.invariant.topology c.in_ok-from.ensures.from c.in_ok-from.ensures.to c.in_ok-add_segment.ensures;
  passed = each_next _ _ _ _ c.segment-item.is c.loop-segment-test.true c.loop-segment.invariant.passed
      (rw (← c.loop-segment.invariant.taken) c.in_ok-from.ensures.gives);
}

pub add_segment-requires-clause-fits : goal.add_segment-requires-clause-fits
add_segment-requires-clause-fits c =
    let nodes : c.loop-segment.topology.nodes ≡ placed_nodes c.args.nodes.now =
    ap (λ (t : TopologyView). t.nodes) c.loop-segment.invariant.topology ∙ c.requires.nodes in
    rw (c.in_ok-from.ensures.from, c.in_ok-from.ensures.to) (segment_fits c.args.nodes.now c.loop-segment.topology nodes _ c.segment-item.result c.in_ok-from.ensures.gives)
