use Rattle.std.proofs.Common.{◌≡◌, take, Ok}
use Rattle.std.specs.List.{flat_map}
use Rattle.loom_project.specs.declared.fault.Of.TheVariants as of
use Rattle.loom_base.specs.First.{every}
use Rattle.loom_project.specs.Draft.{option_names}
use Rattle.loom_project.specs.Sound.{known}
use Rattle.loom_project.proofs.formulas.+options.Given as goal

abbrev pub invariant-check_members-loop-member : goal.invariant-check_members-loop-member
invariant-check_members-loop-member l =
    every (known of.OptionName l.options) (flat_map option_names (take l.member-index l.member-items)) ≡ Ok tt
