use Rattle.std.specs.HashMap.{get}
use Rattle.loom_types.specs.WireCost.{point_of}
use Rattle.loom_audit.specs.EndKeys.{is_same_key}
use Rattle.loom_audit.specs.PointCounts.{key_of_point}
use Rattle.loom_audit.proofs.PointKeys.{point_counted}
use Rattle.loom_audit.proofs.point_costs.add_end.Goals as goal

pub returns-clause-more : goal.returns-clause-more
returns-clause-more c = λ points known p.
    point_counted (get is_same_key c.args.counts.now) points p (point_of c.args.end) c.point_key.result (get is_same_key c.insert.new.self (key_of_point p))
    c.count_at-before.result c.in-Some.after c.point_key.ensures c.count_at-before.ensures c.in-Some.ensures.1
    (c.in_ok-insert.ensures.updates.0 (key_of_point p)) known
