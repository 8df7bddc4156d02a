-- Which part of a project an edit changes.
use Rattle.loom_edits.specs.declared.edit.Edit.{Edit}
use Rattle.loom_edits.specs.declared.edit.Edit.TheVariants as edits
use Rattle.loom_edits.specs.declared.part.Part.{Part}
use Rattle.loom_edits.specs.declared.part.Part.TheVariants.{Options, Places, NewSegments, Segments, Nets, Terminals}

-- the part that an edit changes
abbrev pub part_of : Edit → Part
part_of (edits.AddOption name) = Options
part_of (edits.RemoveOption name) = Options
part_of (edits.AddRule when) = Options
part_of (edits.RemoveRule number) = Options
part_of (edits.AddNode name harness branch) = Places
part_of (edits.RemoveNode name) = Places
part_of (edits.SetBranch name branch) = Places
part_of (edits.AddCavity name device node) = Places
part_of (edits.RemoveCavity name) = Places
part_of (edits.AddRun name from to length bars) = NewSegments
part_of (edits.AddCoupler name from to price pins bars reserved) = NewSegments
part_of (edits.RemoveSegment name) = Segments
part_of (edits.SetLength name length) = Segments
part_of (edits.SetPrice name price) = Segments
part_of (edits.SetPins name pins) = Segments
part_of (edits.SetBars name bars) = Segments
part_of (edits.SetReserved name reserved) = Segments
part_of (edits.AddNet name class terminals) = Nets
part_of (edits.RemoveNet name) = Nets
part_of (edits.SetClass name class) = Nets
part_of (edits.AddTerminal net cavity when) = Terminals
part_of (edits.RemoveTerminal net cavity) = Terminals
part_of (edits.SetWhen net cavity when) = Terminals
