use Rattle.std.proofs.Common.{◌≡◌, ◌∙◌, List, sym, subst, ap₂}
use Rattle.std.specs.List.{All}
use Rattle.loom_rows.specs.declared.cond.Cond.{Cond}
use Rattle.loom_rows.specs.Printing.{AreHad}
use Rattle.loom_topology.specs.Topology.{TopologyView}
use Rattle.loom_types.specs.declared.wire.Wire.{Wire}
use Rattle.loom_types.specs.Routes.{IsEndInRange}
use Rattle.loom_laid.specs.declared.laid_set.LaidSet.{LaidSet}
use Rattle.loom_wires.specs.declared.cut_wire.CutWire.{CutWire}
use Rattle.loom_project.specs.Project.{topology_of}
use Rattle.loom_plan.specs.Stages.{conditions_of, numbered, wire_line}
use Rattle.loom_plan.proofs.PrintNeeds.{conditions_had, numbered-All}
use Rattle.loom_plan.proofs.StepStops.{moved}
use Rattle.loom_plan.proofs.printing.printed.Goals as goal

pub list-requires : goal.list-requires
list-requires c =
    let conds : c.as_slice-3.result.now ≡ conditions_of c.args.laid.sets c.args.wires =
    c.as_slice-3.ensures ∙ c.in_ok-conds.ensures
    ∙ ap₂ (λ (s : List LaidSet) (w : List CutWire). conditions_of s w) c.as_slice.ensures c.as_slice-2.ensures in
    subst (λ (l : List Cond). AreHad c.args.rows.now l) (sym conds)
    (conditions_had c.args.rows.now c.args.laid.sets c.args.wires c.requires.sets c.requires.wires)

pub modules-requires : goal.modules-requires
modules-requires c =
    let wires : c.as_slice-5.result.now ≡ numbered wire_line c.args.wires c.split_at.result.1.now = c.as_slice-5.ensures ∙ c.in_ok-wires.ensures in
    moved (λ (topology : TopologyView) (l : List Wire). All (λ w. IsEndInRange topology w.from) l) _ _ _ _ (sym c.topology.ensures.topology) (sym wires)
    (numbered-All (λ (w : CutWire). IsEndInRange (topology_of c.args.project.now) w.from) (λ (w : Wire). IsEndInRange (topology_of c.args.project.now) w.from)
    wire_line (λ w n h. h) c.args.wires c.split_at.result.1.now c.requires.ends)
