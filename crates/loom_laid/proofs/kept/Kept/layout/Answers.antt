use Rattle.std.proofs.Common.{sym, ap, ◌∙◌}
use Rattle.std.specs.Prelude.{option_copied}
use Rattle.loom_laid.proofs.LayoutsKept.{some-layout}
use Rattle.loom_laid.proofs.kept.Kept.layout.Goals as goal

pub returns : goal.returns
returns c =
    some-layout c.args.key.now c.args.self.now c.self.inside.entries.entries c.in_ok-get.field-0.now c.args.mask c.get-2.result c.self.view_is
    (sym c.get.ensures.value ∙ ap option_copied c.in_ok-get.was) c.get-2.ensures.value
