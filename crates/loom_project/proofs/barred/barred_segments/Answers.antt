use Rattle.std.proofs.Common.{[], eqb, refl, ap, ◌∙◌}
use Rattle.std.specs.List.{list_any}
use Rattle.std.proofs.lemmas.List.{get_or_default}
use Rattle.loom_project.proofs.BarredLemmas.{barred_next, within_next}
use Rattle.loom_project.proofs.barred.barred_segments.Goals as goal

pub loop-i-preserved : goal.loop-i-preserved
loop-i-preserved c =
    let bars = c.as_slice.ensures ∙ c.index-bars-i.is
    ∙ get_or_default c.args.bars.now c.loop-i.i c.index-bars-i.result [] c.loop-i-test.true in
    record {
      barred = barred_next _ _ _ _ _ _ c.loop-i.invariant.barred
          (c.is_among-is_barred.ensures ∙ ap (list_any (λ bar. eqb bar c.args.class)) bars) refl c.in_ok-push_if.ensures;
      within = within_next _ _ _ _ _ c.loop-i.invariant.within c.loop-i-test.true c.in_ok-push_if.ensures;
    }
