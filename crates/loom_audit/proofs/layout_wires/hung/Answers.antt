use Rattle.std.proofs.Common.{◌≡◌, ◌<◌, ◌+◌, ◌-◌, ℕ, List, length, get_or, subst, ap, ◌∙◌, arith}
use Rattle.loom_types.specs.declared.wire.End.TheVariants.{Cavity}
use Rattle.loom_types.specs.LayoutWires.{thread_from}
use Rattle.loom_audit.specs.Threads.{thread_of, waiting, with_thread, AreHung}
use Rattle.loom_audit.specs.CutSets.{others_of}
use Rattle.loom_audit.proofs.HungSteps.{IsHungFrom, hung_first, hung_from, hung_next}
use Rattle.loom_audit.proofs.LaidLemmas.{other_read, others_count}
use Rattle.loom_audit.proofs.layout_wires.hung.Goals as goal

pub loop-k-init : goal.loop-k-init
loop-k-init c =
    hung_first (others_of c.args.set.now) c.args.set.now.layout.hangs c.args.point_count c.len-k.result
    (waiting c.in_ok-stacks.stacks.items)
    (omega (arith, c.len-k.ensures, c.requires.each)) (omega (arith, c.len-k.ensures)) c.in_ok-stacks.ensures

pub loop-k-preserved : goal.loop-k-preserved
loop-k-preserved c =
    let set = c.args.set.now in
    let k : ℕ = c.loop-k.k - 1 in
    let up : c.loop-k.k ≡ k + 1 = omega arith in
    let stacks = waiting c.loop-k.stacks.items in
    let enough : k < length set.layout.hangs = omega (arith, c.loop-k.auto.k, c.len-k.ensures) in
    let within : k < length (others_of set) = omega (arith, enough, c.requires.each) in
    let there : k + 1 < length c.as_slice.result.now = omega (arith, within, others_count set, ap length c.as_slice.ensures) in
    let same_point = ap (λ (l : List ℕ). with_thread stacks (get_or l k 0) (thread_of c.new.result)) c.as_slice-in-loop-k.ensures in
    hung_next (others_of set) set.layout.hangs c.args.point_count k stacks
    (subst (λ (n : ℕ). IsHungFrom (others_of set) set.layout.hangs c.args.point_count n stacks) up c.loop-k.invariant)
    within enough (c.requires.points k 0 enough)
    (thread_of c.new.result) (c.new.ensures ∙ ap (λ (n : ℕ). thread_from (Cavity (record { 0 = n }))) (other_read set c.as_slice.result.now k (record { 0 = 0 }) c.as_slice.ensures there))
    (waiting c.hang.new.stacks.items) (c.in_ok-hang.ensures ∙ same_point)

pub returns-clause-hung : goal.returns-clause-hung
returns-clause-hung c =
    let none : c.loop-k.k ≡ 0 = omega arith in
    subst (λ (k : ℕ). AreHung (hung_from (others_of c.args.set.now) c.args.set.now.layout.hangs k) (waiting c.loop-k.stacks.items)) none
    c.loop-k.invariant.at
