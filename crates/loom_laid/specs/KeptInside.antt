use Rattle.std.specs.Prelude.{List, map}
use Rattle.loom_laid.specs.declared.key.TableKey.{TableKey}
use Rattle.loom_laid.specs.declared.kept.Entry.{Entry}
use Rattle.loom_laid.specs.declared.kept.Kept.TheInside.{Inside}
use Rattle.loom_laid.specs.Kept.{KeptTable}

-- a table and layouts with their key, as contracts see what is kept
abbrev pub kept_of : TableKey × Entry → KeptTable
kept_of entry = record { class = entry.0.class; nodes = entry.0.nodes; table = entry.1.table; layouts = entry.1.layouts.entries }

-- all that is kept, in the order in which it came
abbrev pub view_of : Inside → List KeptTable
view_of kept = map kept_of kept.entries.entries
