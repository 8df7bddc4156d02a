-- After which edits nothing stays kept.
use Rattle.std.specs.Prelude.{Bool, true, false, List, [], if◌then◌else◌}
use Rattle.loom_edits.specs.declared.edit.Edit.{Edit}
use Rattle.loom_edits.specs.declared.edit.Edit.TheVariants.{AddOption, RemoveOption, AddRule, RemoveRule, AddNode, RemoveNode, AddRun, AddCoupler, RemoveSegment, AddCavity, RemoveCavity, AddNet, RemoveNet, AddTerminal, RemoveTerminal, SetLength, SetPrice, SetPins, SetBranch, SetWhen, SetClass, SetBars, SetReserved}
use Rattle.loom_laid.specs.Kept.{KeptTable}

-- whether an edit changes what least costs rest on: nodes, segments, lengths, prices, branch costs or bars
abbrev pub forgets : Edit → Bool
forgets (AddOption name) = false
forgets (RemoveOption name) = false
forgets (AddRule when) = false
forgets (RemoveRule number) = false
forgets (AddNode name harness branch) = true
forgets (RemoveNode name) = true
forgets (AddRun name from to length bars) = true
forgets (AddCoupler name from to price pins bars reserved) = true
forgets (RemoveSegment name) = true
forgets (AddCavity name device node) = false
forgets (RemoveCavity name) = false
forgets (AddNet name class terminals) = false
forgets (RemoveNet name) = false
forgets (AddTerminal net cavity when) = false
forgets (RemoveTerminal net cavity) = false
forgets (SetLength name length) = true
forgets (SetPrice name price) = true
forgets (SetPins name pins) = false
forgets (SetBranch name branch) = true
forgets (SetWhen net cavity when) = false
forgets (SetClass name class) = false
forgets (SetBars name bars) = true
forgets (SetReserved name reserved) = false

-- what stays kept when an edit is made, taken back or made again
abbrev pub kept_after : Edit → List KeptTable → List KeptTable
kept_after edit kept = if forgets edit then [] else kept
