use Rattle.std.proofs.Common.{ap, arith}
use Rattle.loom_topology.specs.Table.{TableView}
use Rattle.loom_steiner.proofs.Copying.{copies_row_more}
use Rattle.loom_steiner.proofs.scratch_table.ScratchTable.copy_row.Goals as goal

pub loop-node-preserved : goal.loop-node-preserved
loop-node-preserved c =
    rw (c.set.ensures, c.cell.ensures.value)
    (copies_row_more c.args.self.now c.args.table.now c.loop-node.table c.args.mask c.loop-node.node c.requires.mask_from c.requires.mask_to
    (omega (arith, c.loop-node-test.true, ap (λ (t : TableView). t.nodes) c.self.view_is)) c.requires.nodes c.requires.len c.loop-node.invariant)
