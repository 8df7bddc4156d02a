use Rattle.std.proofs.Common.{◌∙◌, ap, take, length, ◌-◌}
use Rattle.std.proofs.Math.ListN.{set}
use Rattle.loom_topology.specs.Incidence.{list_at}
use Rattle.loom_topology.proofs.NodeLists.{pop-push}
use Rattle.loom_topology.proofs.incidence.Incidence.add_segment.Goals as goal

pub returns-in-Err-clause-err : goal.returns-in-Err-clause-err
returns-in-Err-clause-err c =
    c.pop.ensures
    ∙ ap (λ l. set l c.args.from.0 (take (length (list_at l c.args.from.0) - 1) (list_at l c.args.from.0))) c.in-Err.ensures.err
    ∙ pop-push c.args.self.now c.push.new.self c.args.from.0 c.args.segment.0 c.requires.from_in_range c.in_ok-push.ensures.ok
