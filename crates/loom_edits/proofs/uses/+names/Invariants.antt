use Rattle.std.proofs.Common.{◌≡◌, false, take}
use Rattle.std.specs.List.{list_any}
use Rattle.loom_edits.specs.Uses.{names_option}
use Rattle.loom_edits.proofs.uses.+names.Given as goal

abbrev pub invariant-some_names_option-loop-member : goal.invariant-some_names_option-loop-member
invariant-some_names_option-loop-member l =
    list_any (names_option l.name) (take l.member-index l.member-items) ≡ false
