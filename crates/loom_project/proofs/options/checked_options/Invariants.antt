use Rattle.std.proofs.Common.{◌≡◌, take, Ok}
use Rattle.loom_project.specs.declared.fault.Of.TheVariants as of
use Rattle.loom_base.specs.First.{each}
use Rattle.loom_project.specs.Sound.{not_repeated}
use Rattle.loom_project.proofs.options.checked_options.Given as goal

abbrev pub invariant-loop-name : goal.invariant-loop-name
invariant-loop-name l = record {
  options : l.options ≡ take l.name-index l.names;
  passed : each (not_repeated of.OptionName) (take l.name-index l.names) ≡ Ok tt;
}
