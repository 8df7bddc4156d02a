use Rattle.std.proofs.Common.{length, arith}
use Rattle.loom_laid.proofs.Sums.{few_cells}
use Rattle.loom_laid.proofs.tables.cells_of_net.Goals as goal

pub returns-clause-few : goal.returns-clause-few
returns-clause-few c =
    few_cells (length c.cavities-terminals.result.now) c.node_count-nodes.result c.cavities-terminals.ensures.at_most
    (omega (arith, c.node_count-nodes.ensures.count, c.node_count-nodes.ensures.sound.few_nodes))
