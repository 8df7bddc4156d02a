use Rattle.std.proofs.Common.{◌≡◌, ◌<◌, ◌++◌, List, Err, length, map, sym, ap, subst, ◌∙◌}
use Rattle.std.specs.List.{All}
use Rattle.std.proofs.lemmas.Result.{IfOk-at_ok}
use Rattle.loom_topology.specs.Topology.{TopologyView}
use Rattle.loom_rows.specs.Table.{Has}
use Rattle.loom_rows.specs.Leftovers.{AreMoreThan, IsRowOf}
use Rattle.loom_laid.specs.declared.laid_set.LaidSet.{LaidSet}
use Rattle.loom_wires.specs.declared.laid_set.LaidSet.{LaidSet as WireSet}
use Rattle.loom_wires.specs.Wires.{IsLaid, AreWires, AreManyWires, AreCut, bare_of, wires_worked}
use Rattle.loom_plan.specs.FirstStop.{worked_for_pins}
use Rattle.loom_plan.specs.Stages.{wired_of}
use Rattle.loom_plan.proofs.LaidLive.{laid_kept}
use Rattle.loom_plan.proofs.WireSets.{nets_within, all_wired_laid, all_wired_had, ends_within}
use Rattle.loom_plan.proofs.StepStops.{moved, wires_stop, rows_stop_wires, cut_from}
use Rattle.loom_plan.proofs.wiring.cut_sets.Goals as goal

pub wire_sets-requires : goal.wire_sets-requires
wire_sets-requires c =
    subst (λ (l : List LaidSet). All (λ set. set.net.0 < length c.args.project.now.nets) l) (sym c.as_slice.ensures)
    (nets_within c.args.project.now c.has_sound_topologies.ensures c.args.rows.now c.args.laid.now c.requires.laid)

pub cut-requires-clause-laid : goal.cut-requires-clause-laid
cut-requires-clause-laid c =
    let wired : c.as_slice-2.result.now ≡ map (wired_of c.args.project.now) c.args.laid.now.sets =
    c.as_slice-2.ensures
    ∙ IfOk-at_ok (λ (l : List WireSet). l ≡ map (wired_of c.args.project.now) c.as_slice.result.now) c.in_ok-sets.ensures.ok c.wire_sets.ensures
    ∙ ap (map (wired_of c.args.project.now)) c.as_slice.ensures in
    moved (λ (topology : TopologyView) (sets : List WireSet). All (IsLaid topology) sets) _ _ _ _ (sym c.topology.ensures.topology) (sym wired)
    (all_wired_laid c.args.project.now c.has_sound_topologies.ensures c.args.rows.now c.args.laid.now c.requires.laid c.draft-sound.ensures.sound)

pub cut-requires-clause-has : goal.cut-requires-clause-has
cut-requires-clause-has c =
    let wired : c.as_slice-2.result.now ≡ map (wired_of c.args.project.now) c.args.laid.now.sets =
    c.as_slice-2.ensures
    ∙ IfOk-at_ok (λ (l : List WireSet). l ≡ map (wired_of c.args.project.now) c.as_slice.result.now) c.in_ok-sets.ensures.ok c.wire_sets.ensures
    ∙ ap (map (wired_of c.args.project.now)) c.as_slice.ensures in
    subst (λ (sets : List WireSet). All (λ set. Has c.args.rows.now set.cond) sets) (sym wired)
    (all_wired_had c.args.project.now c.has_sound_topologies.ensures c.args.rows.now c.args.laid.now c.requires.laid c.draft-sound.ensures.sound)

pub returns-in-Ok-clause-cut : goal.returns-in-Ok-clause-cut
returns-in-Ok-clause-cut c =
    let wired : c.as_slice-2.result.now ≡ map (wired_of c.args.project.now) c.args.laid.now.sets =
    c.as_slice-2.ensures
    ∙ IfOk-at_ok (λ (l : List WireSet). l ≡ map (wired_of c.args.project.now) c.as_slice.result.now) c.in_ok-sets.ensures.ok c.wire_sets.ensures
    ∙ ap (map (wired_of c.args.project.now)) c.as_slice.ensures in
    cut_from c.args.project.now c.has_sound_topologies.ensures c.draft-sound.ensures.sound c.args.rows.now c.args.laid.now c.requires.laid c.args.lines.now c.requires.pinned
    c.cut.new.rows c.in-Ok.wires
    (moved (λ (topology : TopologyView) (sets : List WireSet). AreCut topology c.args.lines.now sets c.cut.new.rows c.in-Ok.wires) _ _ _ _
    c.topology.ensures.topology wired c.in-Ok.ensures.wires)
    c.in-Ok.ensures.few_wires
    (moved (λ (topology : TopologyView) (sets : List WireSet).
    AreMoreThan c.args.rows.now.limit
    (IsRowOf (worked_for_pins c.args.project.now c.args.laid.now.sets c.requires.pinned.slots
    ++ wires_worked topology c.args.lines.now sets (map bare_of c.in-Ok.wires))) → ⊥) _ _ _ _
    c.topology.ensures.topology wired
    (c.in-Ok.ensures.few_rows (worked_for_pins c.args.project.now c.args.laid.now.sets c.requires.pinned.slots) (map bare_of c.in-Ok.wires)
    c.requires.pinned.job.stands c.in-Ok.ensures.wires.wires))

pub returns-in-Ok-clause-laid : goal.returns-in-Ok-clause-laid
returns-in-Ok-clause-laid c = laid_kept c.args.project.now c.args.rows.now c.cut.new.rows c.args.laid.now c.cut.ensures.keeps c.requires.laid

pub returns-in-Ok-clause-ends : goal.returns-in-Ok-clause-ends
returns-in-Ok-clause-ends c =
    let wired : c.as_slice-2.result.now ≡ map (wired_of c.args.project.now) c.args.laid.now.sets =
    c.as_slice-2.ensures
    ∙ IfOk-at_ok (λ (l : List WireSet). l ≡ map (wired_of c.args.project.now) c.as_slice.result.now) c.in_ok-sets.ensures.ok c.wire_sets.ensures
    ∙ ap (map (wired_of c.args.project.now)) c.as_slice.ensures in
    ends_within c.args.project.now c.has_sound_topologies.ensures c.args.rows.now c.args.laid.now c.requires.laid c.draft-sound.ensures.sound c.args.lines.now
    c.layout_wires_are_routed.ensures c.in-Ok.wires
    (moved (λ (topology : TopologyView) (sets : List WireSet). AreWires topology c.args.lines.now sets (map bare_of c.in-Ok.wires)) _ _ _ _
    c.topology.ensures.topology wired c.in-Ok.ensures.wires.wires)

pub returns-in-Err-TooManyWires-clause-stop : goal.returns-in-Err-TooManyWires-clause-stop
returns-in-Err-TooManyWires-clause-stop c =
    let wired : c.as_slice-2.result.now ≡ map (wired_of c.args.project.now) c.args.laid.now.sets =
    c.as_slice-2.ensures
    ∙ IfOk-at_ok (λ (l : List WireSet). l ≡ map (wired_of c.args.project.now) c.as_slice.result.now) c.in_ok-sets.ensures.ok c.wire_sets.ensures
    ∙ ap (map (wired_of c.args.project.now)) c.as_slice.ensures in
    wires_stop c.args.project.now c.has_sound_topologies.ensures c.draft-sound.ensures.sound c.args.rows.now c.args.laid.now c.requires.laid c.args.lines.now c.requires.pinned
    (moved (λ (topology : TopologyView) (sets : List WireSet). AreManyWires 65536 topology c.args.lines.now sets) _ _ _ _ c.topology.ensures.topology wired
    (c.in-Err-TooManyWires.ensures.many_wires (ap Err c.in-Err-TooManyWires.field-0-is)))

pub returns-in-Err-TooManyRows-clause-stop : goal.returns-in-Err-TooManyRows-clause-stop
returns-in-Err-TooManyRows-clause-stop c =
    let wired : c.as_slice-2.result.now ≡ map (wired_of c.args.project.now) c.args.laid.now.sets =
    c.as_slice-2.ensures
    ∙ IfOk-at_ok (λ (l : List WireSet). l ≡ map (wired_of c.args.project.now) c.as_slice.result.now) c.in_ok-sets.ensures.ok c.wire_sets.ensures
    ∙ ap (map (wired_of c.args.project.now)) c.as_slice.ensures in
    let found = c.in-Err-TooManyRows.ensures.found (ap Err c.in-Err-TooManyRows.field-0-is) in
    let many =
    c.in-Err-TooManyRows.ensures.many_rows (worked_for_pins c.args.project.now c.args.laid.now.sets c.requires.pinned.slots) found.0
    c.requires.pinned.job.stands found.1 (ap Err c.in-Err-TooManyRows.field-0-is) in
    rows_stop_wires c.args.project.now c.has_sound_topologies.ensures c.draft-sound.ensures.sound c.args.rows.now c.args.laid.now c.requires.laid c.args.lines.now c.requires.pinned
    found.0
    (moved (λ (topology : TopologyView) (sets : List WireSet). AreWires topology c.args.lines.now sets found.0) _ _ _ _ c.topology.ensures.topology wired found.1) (
      many.0,
      moved (λ (topology : TopologyView) (sets : List WireSet).
          AreMoreThan c.args.rows.now.limit
          (IsRowOf (worked_for_pins c.args.project.now c.args.laid.now.sets c.requires.pinned.slots
          ++ wires_worked topology c.args.lines.now sets found.0))) _ _ _ _
          c.topology.ensures.topology wired many.1,
    )
