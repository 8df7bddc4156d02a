use Rattle.std.proofs.Common.{List, sym, subst}
use Rattle.std.specs.List.{All}
use Rattle.loom_topology.specs.Topology.{TopologyView}
use Rattle.loom_types.specs.declared.wire.Wire.{Wire}
use Rattle.loom_types.specs.Routes.{IsEndInRange}
use Rattle.loom_audit.proofs.LaidParts.{ends-whole}
use Rattle.loom_audit.proofs.module_lines.first_other_module.Goals as goal

pub modules-requires : goal.modules-requires
modules-requires c =
    subst (λ (l : List Wire). All (λ w. IsEndInRange c.topology.result.now w.from) l) (sym c.as_slice.ensures)
    (subst (λ (t : TopologyView). All (λ w. IsEndInRange t w.from) c.args.plan.now.wires) (sym c.topology.ensures.topology)
    (ends-whole c.args.project.now c.args.plan.now c.requires))
