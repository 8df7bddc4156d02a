use Rattle.loom_laid.specs.Keys.{pair_of}
use Rattle.loom_laid.proofs.KeptTrue.{table-of_net}
use Rattle.loom_laid.proofs.tables.net_table.Goals as goal

pub returns-clause-least : goal.returns-clause-least
returns-clause-least g c =
    table-of_net c.args.project.now c.args.net.0 c.keep_table.new.kept (pair_of c.in_ok-key.key) c.in_ok-table.table c.keep_table.ensures.kept
    c.in_ok-key.ensures c.in_ok-table.ensures
