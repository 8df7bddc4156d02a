-- The fault of a document, from what stopped a part of its reading.
use Rattle.loom_json.specs.declared.text.JsonStop.{JsonStop}
use Rattle.loom_json.specs.declared.path.ShapeStop.{ShapeStop}
use Rattle.loom_project.specs.declared.fault.ProjectFault.{ProjectFault}
use Rattle.loom_reader.specs.declared.fault.ReadFault.{ReadFault}
use Rattle.loom_reader.specs.declared.fault.ReadFault.TheVariants as faults

-- no JSON value, or want of memory
abbrev pub text_fault : JsonStop → ReadFault
text_fault JsonStop.NotJson = faults.NotJson
text_fault JsonStop.NoMemory = faults.NoMemory

-- a place of another form, or want of memory
abbrev pub shape_fault : ShapeStop → ReadFault
shape_fault (ShapeStop.WrongShape path) = faults.WrongShape path
shape_fault ShapeStop.NoMemory = faults.NoMemory

-- want of memory is no fault of the project
abbrev pub draft_fault : ProjectFault → ReadFault
draft_fault ProjectFault.NoMemory = faults.NoMemory
draft_fault failure = faults.Project failure
