use Rattle.std.proofs.Common.{◌≡◌, ◌∙◌, subst, min}
use Rattle.loom_rows.specs.Condition.{first_option}
use Rattle.loom_rows.specs.Table.{Table}
use Rattle.loom_rows.proofs.Joins.{parts-of}
use Rattle.loom_rows.proofs.rows.Rows.parts.Goals as goal

pub returns : goal.returns
returns c =
    let at_is : c.min-at.result ≡ min (first_option c.args.self.now.options c.args.a) (first_option c.args.self.now.options c.args.b) =
    subst (λ (t : Table). c.min-at.result ≡ min (first_option t.options c.args.a) (first_option t.options c.args.b)) c.self.view_is
    (c.min-at.ensures ∙ λ i. min (c.first_option.ensures i) (c.first_option-2.ensures i)) in
    parts-of c.args.op c.args.self.now c.args.a c.args.b c.requires.has_a c.requires.has_b c.requires.row c.min-at.result at_is
    c.low_at.result c.low_at-2.result c.high_at.result c.high_at-2.result c.low_at.ensures c.low_at-2.ensures c.high_at.ensures c.high_at-2.ensures
