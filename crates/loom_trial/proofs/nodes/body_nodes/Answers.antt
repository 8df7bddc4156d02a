use Rattle.std.proofs.Common.{refl, arith}
use Rattle.std.proofs.lemmas.List.FromFn.{map-range_with_len_more}
use Rattle.loom_trial.specs.Trial.{body_node}
use Rattle.loom_trial.proofs.nodes.body_nodes.Goals as goal

pub loop-i-preserved : goal.loop-i-preserved
loop-i-preserved c =
    let more = map-range_with_len_more body_node 0 c.loop-i.i c.loop-i.i (omega arith) in
    rw (c.in_ok-push.ensures.ok, c.loop-i.invariant, c.in_ok-node.ensures, more) refl
