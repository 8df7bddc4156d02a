use Rattle.loom_laid.proofs.KeptTrue.{key-is}
use Rattle.loom_laid.proofs.key.TableKey.of.Goals as goal

pub returns : goal.returns
returns c =
    key-is c.args.project.now c.args.net.0 c.class.result c.in_ok-numbers.numbers c.topology.result.now c.cavities.result.now
    c.class.ensures c.in_ok-numbers.ensures c.topology.ensures.topology c.cavities.ensures.places
