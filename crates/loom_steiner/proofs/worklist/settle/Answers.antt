use Rattle.std.proofs.Common.{◌<◌, length, arith}
use Rattle.std.specs.BinaryHeap.{heap_items}
use Rattle.std.specs.declared.cmp.Reverse.{Reverse}
use Rattle.std.proofs.lemmas.List.Sorted.{All-permutation}
use Rattle.std.proofs.lemmas.List.Elements.{All-tail}
use Rattle.loom_steiner.specs.declared.worklist.Offer.{Offer}
use Rattle.loom_steiner.proofs.Settling.{Settles-stale, Settles-relaxed, Settles-end, popped_in_range, empty_from_length}
use Rattle.loom_steiner.proofs.worklist.settle.Goals as goal

pub relax-requires-clause-offers : goal.relax-requires-clause-offers
relax-requires-clause-offers c =
    let stale = All-tail (λ (o : Reverse Offer). o.0.node < length c.args.row.now) c.in-Some.field-0 (heap_items c.pop.new.self)
    (All-permutation (λ o. o.0.node < length c.args.row.now) _ _ c.in-Some.ensures.permutation c.loop-offer.invariant.offers) in
    λ k d h. omega (arith, stale k d h, c.loop-offer.auto.row)

pub loop-offer-preserved-in-Continue-1 : goal.loop-offer-preserved-in-Continue-1
loop-offer-preserved-in-Continue-1 c =
    let inside = c.loop-offer.invariant.offers in
    let e = c.in_ok-relax.ensures in
    Settles-relaxed c.args.ways.now _ c.args.row.now c.loop-offer.row c.relax.new.row (heap_items c.loop-offer.worklist)
    (heap_items c.pop.new.self) (heap_items c.relax.new.worklist) c.in-Some.field-0 c.in-Some.ensures.permutation
    (omega (arith, popped_in_range _ _ _ _ c.in-Some.ensures.permutation inside, c.requires.nodes))
    e.improves e.own e.settled e.waiting (λ k d h. omega (arith, e.offers k d h, c.loop-offer.auto.row)) c.loop-offer.invariant

pub loop-offer-preserved : goal.loop-offer-preserved
loop-offer-preserved c =
    Settles-stale c.args.ways.now c.args.row.now c.loop-offer.row (heap_items c.loop-offer.worklist) (heap_items c.pop.new.self)
    c.in-Some.field-0 c.in-Some.ensures.permutation c.if-offer-row.false c.loop-offer.invariant

pub returns-clause-settled : goal.returns-clause-settled
returns-clause-settled c =
    Settles-end c.args.ways.now c.args.row.now c.loop-offer.row (heap_items c.loop-offer.worklist) (omega (arith, c.in_default.ensures.none, c.loop-offer.worklist.data.ok)) c.loop-offer.invariant

pub returns-clause-idle : goal.returns-clause-idle
returns-clause-idle c = empty_from_length (heap_items c.pop.new.self) (omega (arith, c.in_default.ensures.none, c.in_default.ensures.unchanged.1, c.pop.new.self.data.ok))
