use Rattle.std.proofs.Common.{ap, ◌≡◌, ◌≤◌, ◌^◌, length, sym, subst, arith, ℕ, Option}
use Rattle.std.specs.Option.{IfSome}
use Rattle.loom_topology.specs.Table.{TableView}
use Rattle.loom_topology.specs.TableInside.{view_of, value_of_code}
use Rattle.loom_topology.proofs.Seen.{All-seen}
use Rattle.loom_topology.proofs.table.Table.cell.Goals as goal

pub returns-clause-small : goal.returns-clause-small
returns-clause-small c =
    let cells : length (view_of c.self.inside).cells ≡ length c.args.self.now.cells = ap (λ (t : TableView). length t.cells) c.self.view_is in
    let IsSmall : Option ℕ → Type 0 = λ cell. IfSome cell (λ value. value ≤ 2 ^ 40) in
    subst IsSmall (sym c.value_of.ensures)
    (All-seen value_of_code (λ cell. IfSome cell (λ value. value ≤ 2 ^ 40)) c.self.inside.codes.items c.index_of.result c.index.result.now
    (omega (arith, cells, c.index_of.ensures.within)) c.index.ensures c.self.invariant.small)
