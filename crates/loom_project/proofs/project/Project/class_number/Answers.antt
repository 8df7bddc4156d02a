use Rattle.std.proofs.Common.{ap, ◌∙◌}
use Rattle.loom_project.specs.Classes.{class_numbers}
use Rattle.loom_project.proofs.ClassLemmas.{class_at}
use Rattle.loom_project.proofs.project.Project.class_number.Goals as goal

pub returns : goal.returns
returns c =
    class_at c.args.self.now.nets c.as_slice.result.now c.args.net.0
    (c.as_slice.ensures ∙ c.self.invariant.classes ∙ ap (λ d. class_numbers d.nets) c.self.view_is) c.requires
