use Rattle.std.proofs.Common.{◌+◌, ap, ◌∙◌}
use Rattle.loom_wires.specs.Wires.{wires_of_set}
use Rattle.loom_wires.proofs.FoundLemmas.{found-next, found-many, found-done}
use Rattle.loom_wires.proofs.found.found_wires.Goals as goal

pub loop-at-preserved : goal.loop-at-preserved
loop-at-preserved c =
    found-next c.args.topology.now c.args.pins.now c.args.sets.now c.loop-at.at c.index-sets-at.result c.loop-at-test.true c.index-sets-at.is
    c.in_ok-wires.wires (c.in_ok-wires.ensures ∙ ap (λ pins. wires_of_set c.args.topology.now pins c.index-sets-at.result) c.in_ok-index.ensures) c.loop-at.found c.add_wires.new.found c.loop-at.invariant c.in_ok-add_wires.ensures

pub returns-then-len-gt-MAX_WIRES-clause-many : goal.returns-then-len-gt-MAX_WIRES-clause-many
returns-then-len-gt-MAX_WIRES-clause-many c =
    found-many c.args.topology.now c.args.pins.now c.args.sets.now c.add_wires.new.found (c.loop-at.at + 1)
    (found-next c.args.topology.now c.args.pins.now c.args.sets.now c.loop-at.at c.index-sets-at.result c.loop-at-test.true c.index-sets-at.is
    c.in_ok-wires.wires (c.in_ok-wires.ensures ∙ ap (λ pins. wires_of_set c.args.topology.now pins c.index-sets-at.result) c.in_ok-index.ensures) c.loop-at.found c.add_wires.new.found c.loop-at.invariant c.in_ok-add_wires.ensures)

pub returns-clause-all : goal.returns-clause-all
returns-clause-all c = λ few. found-done c.args.topology.now c.args.pins.now c.args.sets.now c.loop-at.found c.loop-at.at c.loop-at-test.false c.loop-at.invariant

pub returns-clause-many : goal.returns-clause-many
returns-clause-many c = found-many c.args.topology.now c.args.pins.now c.args.sets.now c.loop-at.found c.loop-at.at c.loop-at.invariant
