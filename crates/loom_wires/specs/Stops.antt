use Rattle.loom_rows.specs.declared.stop.RowsStop.{RowsStop}
use Rattle.loom_rows.specs.declared.stop.RowsStop.TheVariants as rows
use Rattle.loom_wires.specs.declared.stop.WireStop.{WireStop}
use Rattle.loom_wires.specs.declared.stop.WireStop.TheVariants.{TooManyRows, NoMemory}

-- what stops the rows stops the wires
abbrev pub stop_by_rows : RowsStop → WireStop
stop_by_rows rows.TooManyRows = TooManyRows
stop_by_rows rows.NoMemory = NoMemory
