use Rattle.std.proofs.Common.{refl, ◌∙◌, subst, IfSome, IfNone}
use Rattle.loom_rows.specs.Table.{Table}
use Rattle.loom_rows.specs.Outcome.{IsFound, IsMissing}
use Rattle.loom_rows.specs.Inside.{table_of}
use Rattle.loom_rows.proofs.Index.{found-some, found-none}
use Rattle.loom_rows.proofs.rows.Rows.found.Goals as goal

pub returns-clause-some : goal.returns-clause-some
returns-clause-some c =
    subst (λ (t : Table). IfSome c.copied.result (IsFound t c.args.key)) c.self.view_is
    (found-some (table_of c.self.inside) c.self.inside.index.entries (record { keyed = refl; kept = c.self.invariant.kept }) c.args.key c.copied.result (c.copied.ensures ∙ c.get.ensures.value))

pub returns-clause-none : goal.returns-clause-none
returns-clause-none c =
    subst (λ (t : Table). IfNone c.copied.result (IsMissing t c.args.key)) c.self.view_is
    (found-none (table_of c.self.inside) c.self.inside.index.entries (record { keyed = refl; kept = c.self.invariant.kept }) c.args.key c.copied.result (c.copied.ensures ∙ c.get.ensures.value))
