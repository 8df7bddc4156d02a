use Rattle.std.proofs.Common.{◌+◌, ◌∙◌, ap, arith}
use Rattle.std.specs.Prelude.{count_by}
use Rattle.std.specs.BTreeMap.{get}
use Rattle.std.proofs.lemmas.List.{take_all}
use Rattle.loom_rules.specs.Findings.{finding_cmp, ends_at_splice}
use Rattle.loom_rules.proofs.TallySteps.{IsKept-later, tallied-more}
use Rattle.loom_rules.proofs.busy_splice.splice_tallies.Goals as goal

pub note_ends-requires-clause-kept : goal.note_ends-requires-clause-kept
note_ends-requires-clause-kept c =
    λ q. IsKept-later c.loop-i.i (c.loop-i.i + 1) (get finding_cmp c.loop-i.tallies q) (omega arith) (c.loop-i.invariant.kept q)

pub loop-i-preserved : goal.loop-i-preserved
loop-i-preserved c =
    tallied-more (λ q. ends_at_splice q.first q.second q.third) c.args.wires.now c.loop-i.i c.index-wires-i.result
    (get finding_cmp c.loop-i.tallies) (get finding_cmp c.note_ends.new.tallies) c.loop-i-test.true c.index-wires-i.is
    c.loop-i.invariant c.in_ok-note_ends.ensures.noted c.in_ok-note_ends.ensures.kept

pub returns : goal.returns
returns c = λ q.
    c.loop-i.invariant.counts q
    ∙ ap (count_by (ends_at_splice q.first q.second q.third)) (take_all c.loop-i.i c.args.wires.now (omega arith))
