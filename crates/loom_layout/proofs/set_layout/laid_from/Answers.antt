use Rattle.std.proofs.Common.{map, sym, subst, arith}
use Rattle.std.proofs.lemmas.List.{length-map}
use Rattle.loom_base.specs.declared.positions.CavityNo.{CavityNo}
use Rattle.loom_topology.specs.Table.{cell_at}
use Rattle.loom_layout.specs.Layout.{Laying}
use Rattle.loom_layout.specs.Walk.{CanLay}
use Rattle.loom_layout.proofs.Laying.{can_begin}
use Rattle.loom_layout.proofs.set_layout.laid_from.Goals as goal

pub lay-requires-clause-can : goal.lay-requires-clause-can
lay-requires-clause-can c =
    subst (λ (l : Laying). CanLay c.args.topology.now (map (λ x. x.0) c.args.terminals.now) (cell_at c.args.table.now) c.args.mask c.args.node.0 l)
    (sym c.in_ok-walk.ensures)
    (can_begin c.args.topology.now (map (λ x. x.0) c.args.terminals.now) (cell_at c.args.table.now) c.args.mask c.args.node.0
    c.requires.sound.few_nodes (omega (arith, c.requires.few, length-map c.args.terminals.now (λ (x : CavityNo). x.0)))
    c.requires.mask c.requires.node c.requires.cost)
