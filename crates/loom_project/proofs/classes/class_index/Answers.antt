use Rattle.std.proofs.Common.{length, sym, ap, ◌∙◌, arith}
use Rattle.loom_formula.specs.NameIndex.{with_name}
use Rattle.loom_project.proofs.ClassLemmas.{classes_next, length-net_classes}
use Rattle.loom_project.proofs.classes.class_index.Goals as goal

pub add-requires : goal.add-requires
add-requires c = omega (arith, length-net_classes c.args.nets.now c.loop-net.net-index, ap length c.loop-net.invariant)

pub loop-net-preserved : goal.loop-net-preserved
loop-net-preserved c =
    c.in_ok-_is_new.ensures.ok ∙ ap (λ names. with_name names c.net-item.result.class) c.loop-net.invariant
    ∙ sym (classes_next _ _ _ c.net-item.is c.loop-net-test.true)
