use Rattle.std.proofs.Common.{ap, ◌∙◌}
use Rattle.loom_formula.specs.NameIndex.{has_name}
use Rattle.loom_project.specs.Classes.{net_classes}
use Rattle.loom_project.proofs.ClassLemmas.{class_there, some_of}
use Rattle.loom_project.proofs.classes.numbers_of_nets.Goals as goal

pub unwrap-number-requires : goal.unwrap-number-requires
unwrap-number-requires c =
    some_of c.position.result
    (c.position.ensures.found ∙ ap (λ names. has_name names c.net-item.result.class) c.requires
    ∙ ap (λ net. has_name (net_classes c.args.nets.now) net.class) c.net-item.is
    ∙ class_there c.args.nets.now c.loop-net.net-index c.net-item.result c.loop-net-test.true)
