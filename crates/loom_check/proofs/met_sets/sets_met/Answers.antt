use Rattle.std.proofs.Common.{◌≡◌, ◌+◌, ◌<◌, ℕ, List, length, get_or, refl, sym, ap, subst, ◌∙◌, arith}
use Rattle.std.proofs.lemmas.Option.{slice_get_read}
use Rattle.loom_rows.specs.RowLists.{AreConditionsOf}
use Rattle.loom_rows.specs.Table.{Table}
use Rattle.loom_types.specs.declared.plan.SetLine.{SetLine}
use Rattle.loom_types.specs.declared.wire.Wire.{Wire}
use Rattle.loom_check.specs.MetParts.{KnowsNets, KnowsOnlyMet}
use Rattle.loom_check.specs.MetSets.{KnowsMetBefore, MetTable}
use Rattle.loom_check.proofs.MetTables.{known-more, put-only, put-more}
use Rattle.loom_check.proofs.met_sets.sets_met.Goals as goal
use Rattle.loom_check.proofs.met_sets.sets_met.Goals.{then-not-contains_key+in_ok-positions+in_ok-insert+in-Some-1, then-not-contains_key+in_ok-positions+in_ok-insert+in-None-1, else-not-contains_key}

pub met_of-requires-clause-row : goal.met_of-requires-clause-row
met_of-requires-clause-row c =
    let plan = c.args.plan.now in
    let w : Wire = c.wire-item.result in
    let is : w ≡ get_or plan.wires c.loop-wire.wire-index w = c.wire-item.is ∙ ap (λ (l : List Wire). get_or l c.loop-wire.wire-index w) c.as_slice-wire-items.ensures in
    let within : c.loop-wire.wire-index < length plan.wires = omega (arith, c.loop-wire-test.true, ap length c.as_slice-wire-items.ensures) in
    c.requires.wires c.loop-wire.wire-index w (slice_get_read plan.wires (length plan.wires) c.loop-wire.wire-index w refl within is)

pub met_of-requires-clause-conds : goal.met_of-requires-clause-conds
met_of-requires-clause-conds c =
    subst (λ (t : Table). AreConditionsOf c.args.plan.now.rows t c.args.conds.now) (sym c.loop-wire.invariant.unchanged) c.requires.conds

pub met_of-requires-clause-by_net : goal.met_of-requires-clause-by_net
met_of-requires-clause-by_net c =
    subst (λ (l : List SetLine). KnowsNets l c.in_ok-by_net.by_net) c.as_slice.ensures c.in_ok-by_net.ensures

pub loop-wire-preserved : goal.loop-wire-preserved
loop-wire-preserved c =
    let plan = c.args.plan.now in
    let k : ℕ = c.loop-wire.wire-index in
    let w : Wire = c.wire-item.result in
    let old : MetTable = c.loop-wire.met in
    let is : w ≡ get_or plan.wires k w = c.wire-item.is ∙ ap (λ (l : List Wire). get_or l k w) c.as_slice-wire-items.ensures in
    elim c.if-not-contains_key.branch [
      | then-not-contains_key+in_ok-positions+in_ok-insert+in-Some-1 v ↦ record {
        unchanged = v.meetings-is ∙ v.in_ok-positions.ensures.unchanged ∙ c.loop-wire.invariant.unchanged;
        only =
            subst (λ (t : MetTable). KnowsOnlyMet plan t) (sym v.met-is)
            (put-only plan k w is v.in_ok-positions.positions old v.insert.new.self v.in_ok-positions.ensures.met v.in_ok-insert.ensures.updates.0 c.loop-wire.invariant.only);
        all =
            subst (λ (t : MetTable). KnowsMetBefore plan t (k + 1)) (sym v.met-is)
            (put-more plan k w is v.in_ok-positions.positions old v.insert.new.self v.in_ok-positions.ensures.met v.in_ok-insert.ensures.updates.0 c.loop-wire.invariant.all);
      }
      | then-not-contains_key+in_ok-positions+in_ok-insert+in-None-1 v ↦ record {
        unchanged = v.meetings-is ∙ v.in_ok-positions.ensures.unchanged ∙ c.loop-wire.invariant.unchanged;
        only =
            subst (λ (t : MetTable). KnowsOnlyMet plan t) (sym v.met-is)
            (put-only plan k w is v.in_ok-positions.positions old v.insert.new.self v.in_ok-positions.ensures.met v.in_ok-insert.ensures.updates.0 c.loop-wire.invariant.only);
        all =
            subst (λ (t : MetTable). KnowsMetBefore plan t (k + 1)) (sym v.met-is)
            (put-more plan k w is v.in_ok-positions.positions old v.insert.new.self v.in_ok-positions.ensures.met v.in_ok-insert.ensures.updates.0 c.loop-wire.invariant.all);
      }
      | else-not-contains_key v ↦ record {
        unchanged = v.meetings-is ∙ c.loop-wire.invariant.unchanged;
        only = subst (λ (t : MetTable). KnowsOnlyMet plan t) (sym v.met-is) c.loop-wire.invariant.only;
        all =
            subst (λ (t : MetTable). KnowsMetBefore plan t (k + 1)) (sym v.met-is)
            (known-more plan k w is old (sym c.contains_key.ensures ∙ v.if-not-contains_key.false) c.loop-wire.invariant.only c.loop-wire.invariant.all);
      }
    ]
