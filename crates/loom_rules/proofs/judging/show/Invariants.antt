use Rattle.loom_rules.proofs.Shown.{HasShown}
use Rattle.loom_rules.proofs.judging.show.Given as goal

abbrev pub invariant-loop-wire : goal.invariant-loop-wire
invariant-loop-wire g l =
    HasShown
    ((goal.DesignRule-dyn g (l.fn.rule.vtable, l.fn.rule.value)).kind_of l.fn.rule.value)
    ((goal.DesignRule-dyn g (l.fn.rule.vtable, l.fn.rule.value)).limit_of l.fn.rule.value)
    l.wires l.wire-index
    ((goal.DesignRule-dyn g (l.rule.vtable, l.rule.value)).kind_of l.rule.value)
    ((goal.DesignRule-dyn g (l.rule.vtable, l.rule.value)).limit_of l.rule.value)
    ((goal.DesignRule-dyn g (l.rule.vtable, l.rule.value)).seen_by l.rule.value)
