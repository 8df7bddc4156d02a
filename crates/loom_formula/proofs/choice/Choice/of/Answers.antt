use Rattle.std.proofs.Common.{◌+◌, Bool, false, List, replicate, get_or, refl, sym, ap, ◌∙◌, subst}
use Rattle.loom_formula.proofs.Choosing.{truth_values-none}
use Rattle.loom_formula.proofs.Progress.{HasTaken, refused_as_repeated, taken_more}
use Rattle.loom_formula.proofs.choice.Choice.of.Goals as goal

pub loop-name-init : goal.loop-name-init
loop-name-init c = record {
  each_once = c.count.ensures.each_once;
  made = c.from_vec-values.ensures ∙ c.in_ok-vec.ensures.items_if_clones_equal (λ y same. same) ∙ ap (λ n. replicate n false) c.count.ensures.count ∙ sym (truth_values-none c.args.options.now);
  same_fault = refl;
}

pub returns-then-as_slice-at : goal.returns-then-as_slice-at
returns-then-as_slice-at c =
    let read = ap (λ (vs : List Bool). get_or vs c.in-Some.option.0 false) (sym c.as_slice.ensures) ∙ c.if-as_slice-at.true in
    refused_as_repeated c.args.options.now c.args.names.now c.loop-name.name-index c.loop-name.values c.name-item.result c.in-Some.option.0
    c.loop-name.invariant c.loop-name-test.true c.name-item.is (sym c.in-Some.ensures.found) c.in-Some.ensures.stored read

pub loop-name-preserved : goal.loop-name-preserved
loop-name-preserved c =
    let read = ap (λ (vs : List Bool). get_or vs c.in-Some.option.0 false) (sym c.as_slice.ensures) ∙ c.if-as_slice-at.false in
    let Taken : List Bool → Type 0 = HasTaken c.args.options.now c.args.names.now (c.loop-name.name-index + 1) in
    subst Taken (sym c.set.ensures)
    (taken_more c.args.options.now c.args.names.now c.loop-name.name-index c.loop-name.values c.name-item.result c.in-Some.option.0
    c.loop-name.invariant c.loop-name-test.true c.name-item.is (sym c.in-Some.ensures.found) c.in-Some.ensures.stored read)
