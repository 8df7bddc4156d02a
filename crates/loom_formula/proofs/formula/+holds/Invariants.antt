use Rattle.std.proofs.Common.{◌≡◌, true, false, take, if◌then◌else◌}
use Rattle.std.specs.List.{list_all, list_any, count_by}
use Rattle.loom_formula.specs.Choice.{choice_at}
use Rattle.loom_formula.specs.Formula.{holds_of}
use Rattle.loom_formula.proofs.formula.+holds.Given as goal

abbrev pub invariant-Members::all_hold-loop-member : goal.invariant-Members::all_hold-loop-member
invariant-Members::all_hold-loop-member l =
    list_all (λ member. holds_of member l.options (choice_at l.choice.values)) (take l.member-index l.member-items) ≡ true

abbrev pub invariant-Members::some_holds-loop-member : goal.invariant-Members::some_holds-loop-member
invariant-Members::some_holds-loop-member l =
    list_any (λ member. holds_of member l.options (choice_at l.choice.values)) (take l.member-index l.member-items) ≡ false

abbrev pub invariant-Members::one_holds-loop-member : goal.invariant-Members::one_holds-loop-member
invariant-Members::one_holds-loop-member l =
    count_by (λ member. holds_of member l.options (choice_at l.choice.values)) (take l.member-index l.member-items) ≡ (if l.found then 1 else 0)
