use Rattle.std.proofs.Common.{◌+◌, ◌∙◌, ap, arith, sym, ◌==◌}
use Rattle.std.specs.Prelude.{count_by}
use Rattle.std.specs.List.{list_any}
use Rattle.std.specs.Ordering.{nat_cmp}
use Rattle.std.specs.BTreeMap.{get}
use Rattle.std.proofs.lemmas.List.{take_all}
use Rattle.loom_types.specs.declared.wire.Wire.{Wire}
use Rattle.loom_rules.specs.Findings.{has_segment}
use Rattle.loom_rules.proofs.TallySteps.{IsKept-later, noted_if, tallied-more}
use Rattle.loom_rules.proofs.crowded_segment.segment_tallies.Goals as goal

pub note_route-requires-clause-kept : goal.note_route-requires-clause-kept
note_route-requires-clause-kept c =
    λ q. IsKept-later c.loop-i.i (c.loop-i.i + 1) (get nat_cmp c.loop-i.tallies q) (omega arith) (c.loop-i.invariant.kept q)

pub loop-i-preserved : goal.loop-i-preserved
loop-i-preserved c =
    tallied-more has_segment c.args.wires.now c.loop-i.i c.index-wires-i.result (get nat_cmp c.loop-i.tallies)
    (get nat_cmp c.note_route.new.tallies) c.loop-i-test.true c.index-wires-i.is c.loop-i.invariant
    (λ q.
    c.in_ok-note_route.ensures.noted q
    ∙ ap (λ r. noted_if (list_any (λ s. s.0 == q) r) (c.loop-i.i + 1) (get nat_cmp c.loop-i.tallies q)) c.as_slice.ensures
    ∙ ap (λ (w : Wire). noted_if (has_segment q w) (c.loop-i.i + 1) (get nat_cmp c.loop-i.tallies q)) (sym c.index-wires-i.is))
    c.in_ok-note_route.ensures.kept

pub returns : goal.returns
returns c = λ q.
    c.loop-i.invariant.counts q ∙ ap (count_by (has_segment q)) (take_all c.loop-i.i c.args.wires.now (omega arith))
