use Rattle.std.proofs.Common.{◌∙◌, List, subst}
use Rattle.std.proofs.lemmas.Result.{IfOk-at_ok}
use Rattle.loom_types.specs.declared.plan.PinLine.{PinLine}
use Rattle.loom_plan.specs.Stages.{HasCut, Prints}
use Rattle.loom_plan.proofs.FewWires.{few_wires}
use Rattle.loom_plan.proofs.PlanIs.{plan_is, has_plan}
use Rattle.loom_plan.proofs.WireSets.{all_had}
use Rattle.loom_plan.proofs.planning.plan_of_laid.Goals as goal

pub printed-requires-clause-sets : goal.printed-requires-clause-sets
printed-requires-clause-sets c =
    all_had c.args.project.now c.has_sound_topologies.ensures c.cut_sets.new.rows c.args.laid c.in_ok-wires.ensures.laid

pub returns-clause-plan : goal.returns-clause-plan
returns-clause-plan c =
    plan_is c.args.project.now c.has_sound_topologies.ensures c.draft-sound.ensures.sound c.cut_sets.new.rows c.args.laid c.in_ok-lines.lines c.in_ok-wires.wires
    c.in_ok-wires.ensures.laid
    (subst (λ (ls : List PinLine). HasCut c.args.project.now c.cut_sets.new.rows c.args.laid.sets ls c.in_ok-wires.wires) c.as_slice-2.ensures c.in_ok-wires.ensures.cut)
    (c.in_ok-wires.ensures.options ∙ c.in_ok-used.ensures.used.job.options)
    c.in_ok-plan.plan
    (IfOk-at_ok (Prints c.args.project.now c.cut_sets.new.rows.options c.args.laid c.in_ok-lines.lines c.in_ok-wires.wires) c.in_ok-plan.ensures.ok c.printed.ensures)

pub returns-clause-has_plan : goal.returns-clause-has_plan
returns-clause-has_plan c =
    has_plan c.args.project.now c.cut_sets.new.rows c.args.laid c.in_ok-lines.lines c.in_ok-wires.wires
    (subst (λ (ls : List PinLine). HasCut c.args.project.now c.cut_sets.new.rows c.args.laid.sets ls c.in_ok-wires.wires) c.as_slice-2.ensures c.in_ok-wires.ensures.cut)

pub returns-clause-few_wires : goal.returns-clause-few_wires
returns-clause-few_wires c =
    few_wires c.args.project.now c.cut_sets.new.rows c.cut_sets.new.rows.options c.args.laid c.in_ok-lines.lines c.in_ok-wires.wires c.in_ok-plan.plan
    (subst (λ (ls : List PinLine). HasCut c.args.project.now c.cut_sets.new.rows c.args.laid.sets ls c.in_ok-wires.wires) c.as_slice-2.ensures c.in_ok-wires.ensures.cut)
    (IfOk-at_ok (Prints c.args.project.now c.cut_sets.new.rows.options c.args.laid c.in_ok-lines.lines c.in_ok-wires.wires) c.in_ok-plan.ensures.ok c.printed.ensures)

pub returns-clause-right : goal.returns-clause-right
returns-clause-right c =
    c.plans_are_right.ensures c.args.project.now c.in_ok-plan.plan c.draft-sound.ensures.sound c.has_sound_topologies.ensures
    (plan_is c.args.project.now c.has_sound_topologies.ensures c.draft-sound.ensures.sound c.cut_sets.new.rows c.args.laid c.in_ok-lines.lines c.in_ok-wires.wires
    c.in_ok-wires.ensures.laid
    (subst (λ (ls : List PinLine). HasCut c.args.project.now c.cut_sets.new.rows c.args.laid.sets ls c.in_ok-wires.wires) c.as_slice-2.ensures c.in_ok-wires.ensures.cut)
    (c.in_ok-wires.ensures.options ∙ c.in_ok-used.ensures.used.job.options)
    c.in_ok-plan.plan
    (IfOk-at_ok (Prints c.args.project.now c.cut_sets.new.rows.options c.args.laid c.in_ok-lines.lines c.in_ok-wires.wires) c.in_ok-plan.ensures.ok c.printed.ensures))
