use Rattle.std.proofs.Common.{List, sym, subst, ◌∙◌}
use Rattle.std.specs.List.Sorted.{IsPermutation}
use Rattle.loom_types.specs.declared.plan.PinLine.{PinLine}
use Rattle.loom_types.specs.Laws.{set_wires}
use Rattle.loom_types.specs.PinLines.{pin_in}
use Rattle.loom_project.specs.Project.{topology_of, cavities_of}
use Rattle.loom_audit.specs.LayoutRule.{wires_of_layout}
use Rattle.loom_audit.specs.SetWires.{wires_at}
use Rattle.loom_audit.proofs.WiresOfLayout.{of_layout, from_layout}
use Rattle.loom_audit.proofs.cut_sets.are_of_layout.Goals as goal

pub returns : goal.returns
returns c =
    let draft = c.args.project.now in
    let plan = c.args.plan.now in
    let set = c.args.set.now in
    let cut = c.in_ok-wires.wires.items in
    let moved : IsPermutation (wires_of_layout draft plan set) cut =
    subst (λ (pins : List PinLine). IsPermutation (set_wires (topology_of draft) set.net.0 (pin_in pins set.net.0) (cavities_of draft set.net.0) set.mask set.layout) cut)
    c.requires.pins c.in_ok-wires.ensures.same in (
      λ e. of_layout draft plan set cut (wires_at plan c.args.positions.now) c.requires.rise c.requires.its moved c.in_ok-wires.ensures.sorted
          (sym c.deref.ensures.value ∙ c.are_bare.ensures.0 e),
      λ are. c.are_bare.ensures.1 (c.deref.ensures.value
          ∙ from_layout draft plan set cut (wires_at plan c.args.positions.now) c.requires.rise c.requires.its moved c.in_ok-wires.ensures.sorted are),
    )
