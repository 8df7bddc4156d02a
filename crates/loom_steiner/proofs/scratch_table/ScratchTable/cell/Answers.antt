use Rattle.std.proofs.Common.{ap, arith}
use Rattle.loom_topology.specs.Table.{TableView}
use Rattle.loom_steiner.proofs.Copying.{small_scratch, then_some_cost}
use Rattle.loom_steiner.proofs.scratch_table.ScratchTable.cell.Goals as goal

pub returns-clause-small : goal.returns-clause-small
returns-clause-small c =
    let masks = ap (λ (t : TableView). t.masks) c.self.view_is in
    let nodes = ap (λ (t : TableView). t.nodes) c.self.view_is in
    rw (c.then_some.ensures, then_some_cost)
    (small_scratch c.self.inside.masks c.self.inside.nodes c.self.inside.cells.now c.args.mask c.args.node.0 c.self.invariant
    c.requires.mask_from (omega (arith, c.requires.mask_to, masks)) (omega (arith, c.requires.node_in_range, nodes)))
