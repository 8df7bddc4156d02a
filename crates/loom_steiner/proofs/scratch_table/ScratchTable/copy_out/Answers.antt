use Rattle.std.proofs.Common.{ℕ, ◌≡◌, ap, subst, arith}
use Rattle.loom_topology.specs.Table.{TableView, IsWhole}
use Rattle.loom_steiner.proofs.Copying.{Copies, copies_more, same_tables}
use Rattle.loom_steiner.proofs.scratch_table.ScratchTable.copy_out.Goals as goal

pub loop-before-preserved : goal.loop-before-preserved
loop-before-preserved c =
    copies_more c.args.self.now c.loop-before.before c.loop-before.table c.copy_row.new.table c.copy_row.ensures c.loop-before.invariant

pub returns : goal.returns
returns c =
    let masks = ap (λ (t : TableView). t.masks) c.self.view_is in
    let done : c.loop-before.before ≡ c.args.self.now.masks = omega (arith, c.loop-before-test.false, c.loop-before.auto.before-end, masks) in
    same_tables c.args.self.now c.loop-before.table (subst (λ (t : TableView). IsWhole t) c.self.view_is c.self.invariant)
    (subst (λ (m : ℕ). Copies c.args.self.now m c.loop-before.table) done c.loop-before.invariant)
