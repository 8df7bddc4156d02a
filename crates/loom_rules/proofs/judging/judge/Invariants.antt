use Rattle.loom_rules.proofs.JudgedLists.{AreJudged}
use Rattle.loom_rules.proofs.judging.judge.Given as goal

abbrev pub invariant-loop-i : goal.invariant-loop-i
invariant-loop-i g l =
    AreJudged l.fn.rules.items (λ b. (goal.DesignRule-dyn g (b.vtable, b.value)).kind_of b.value)
    (λ b. (goal.DesignRule-dyn g (b.vtable, b.value)).limit_of b.value)
    (λ b. (goal.DesignRule-dyn g (b.vtable, b.value)).seen_by b.value)
    l.wires l.limits l.i l.rules.items l.reports
