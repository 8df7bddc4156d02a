-- A document, and what the bytes of one are read as.
use Rattle.std.specs.Prelude.{◌≡◌, ◌≢◌, ℕ, List, [], ◌∷◌, length, Bool, nat_le, if◌then◌else◌, true, false, Option, Some, None, option_map, option_and_then, unwrap_or, Result, Ok, Err, codes, ⊤}
use Rattle.std.specs.Option.{option_map_or}
use Rattle.serde_json.specs.Data.{Data}
use Rattle.loom_json.specs.Text.{read_json}
use Rattle.loom_base.specs.First.{◌>>=◌}
use Rattle.loom_base.specs.declared.limits.Which.TheVariants as limits
use Rattle.loom_json.specs.Fields.{name_in, elements_of}
use Rattle.loom_json.specs.Forms.{keyed, at_key, at_optional, list, name_form, number_form, required}
use Rattle.loom_project.specs.declared.fault.ProjectFault.{ProjectFault}
use Rattle.loom_project.specs.Sound.{draft_check}
use Rattle.loom_types.specs.declared.plan.Plan.{Plan}
use Rattle.loom_answer.specs.PlanForms.{plan_form}
use Rattle.loom_reader.specs.declared.want.Want.{Want}
use Rattle.loom_reader.specs.declared.want.Want.TheVariants as wants
use Rattle.loom_reader.specs.declared.outline.Outline.{Outline}
use Rattle.loom_reader.specs.declared.outline.Wanted.{Wanted}
use Rattle.loom_reader.specs.declared.document.Document.{Document}
use Rattle.loom_reader.specs.declared.fault.ReadFault.{ReadFault}
use Rattle.loom_reader.specs.declared.fault.ReadFault.TheVariants.{NotJson, WrongShape, Project, Limit, NoMemory}
use Rattle.loom_reader.specs.Parts.{read_where, whole_form}
use Rattle.loom_reader.specs.Project.{project_form}
use Rattle.loom_reader.specs.Entries.{entry_form}

-- the keys of a document, whatever it is read for
abbrev pub document_keys : List (List ℕ)
document_keys = codes "version" ∷ codes "project" ∷ codes "edits" ∷ codes "limits" ∷ codes "choice" ∷ codes "plan" ∷ codes "outcomes" ∷ codes "reports" ∷ codes "between" ∷ []

-- the limits of design rules are read where wires are planned
abbrev pub reads_limits : Want → Bool
reads_limits wants.Plan = true
reads_limits wants.Extract = false
reads_limits wants.Check = false
reads_limits wants.Explain = false

-- the true options are needed where it is asked for the wires under them
abbrev pub needs_choice : Want → Bool
needs_choice wants.Plan = false
needs_choice wants.Extract = true
needs_choice wants.Check = false
needs_choice wants.Explain = true

-- a plan is needed where none is made
abbrev pub needs_plan : Want → Bool
needs_plan wants.Plan = false
needs_plan wants.Extract = true
needs_plan wants.Check = true
needs_plan wants.Explain = true

-- two cavities are needed where it is asked what lies between them
abbrev pub needs_between : Want → Bool
needs_between wants.Plan = false
needs_between wants.Extract = false
needs_between wants.Check = false
needs_between wants.Explain = true

-- the first version or the second
abbrev pub version_form : Data → Result ℕ (List ℕ)
version_form = number_form 1 2

-- the names that two values are
abbrev pub two_names : Data → Data → Option (List (List ℕ))
two_names first second = option_and_then (λ name. option_map (λ other. name ∷ other ∷ []) (name_in second)) (name_in first)

-- the names that elements are, where there are two
abbrev pub pair_in : List Data → Option (List (List ℕ))
pair_in [] = None
pair_in (first ∷ []) = None
pair_in (first ∷ second ∷ []) = two_names first second
pair_in (first ∷ second ∷ third ∷ more) = None

-- an array of two names; any other value fails as a whole
abbrev pub between_form : Data → Result (List (List ℕ)) (List ℕ)
between_form d = required (option_and_then pair_in (elements_of d))

-- the plan that a document has
abbrev pub some_plan : Data → Result (Option Plan) (List ℕ)
some_plan d = at_key plan_form (codes "plan") d >>= λ plan. Ok (Some plan)

-- the array at a key, each element read by a form; a missing one is empty
abbrev pub list_or_empty : {X : Type 0} → (Data → Result X (List ℕ)) → List ℕ → Data → Result (List X) (List ℕ)
list_or_empty form key d = at_optional (list form) key d >>= λ found. Ok (unwrap_or found [])

-- the parts that are read for some purposes alone; what isn't read is empty
unfoldable pub wanted_form : Want → Data → Result Wanted (List ℕ)
wanted_form want d = do
  limits ← read_where (reads_limits want) (list_or_empty whole_form (codes "limits") d) []
  choice ← read_where (needs_choice want) (at_key (list name_form) (codes "choice") d) []
  plan ← read_where (needs_plan want) (some_plan d) None
  between ← read_where (needs_between want) (at_key between_form (codes "between") d) []
  Ok (record { limits = limits; choice = choice; plan = plan; between = between })

-- a document's parts, before its project is checked
unfoldable pub outline_form : Want → Data → Result Outline (List ℕ)
outline_form want d = do
  checked ← keyed document_keys d
  version ← at_key version_form (codes "version") d
  draft ← at_key (project_form version) (codes "project") d
  entries ← list_or_empty (entry_form version) (codes "edits") d
  wanted ← wanted_form want d
  Ok (record { version = version; draft = draft; entries = entries; wanted = wanted })

-- an outline with its project taken as checked
abbrev pub document_at : Outline → Document
document_at outline = record {
  version = outline.version;
  project = outline.draft;
  entries = outline.entries;
  limits = outline.wanted.limits;
  choice = outline.wanted.choice;
  plan = outline.wanted.plan;
  between = outline.wanted.between;
}

-- the document of an outline with a sound project, which has at most 4,096 entries
abbrev pub limited : Outline → Result Document ReadFault
limited outline = if nat_le (length outline.entries) 4096 then Ok (document_at outline) else Err (Limit limits.Edits 4097)

-- the document of an outline, once its project was checked
abbrev pub checked : Outline → Result ⊤ ProjectFault → Result Document ReadFault
checked outline (Ok passed) = limited outline
checked outline (Err failure) = Err (Project failure)

-- the document of a value that has the form of one, if its project is sound
abbrev pub shaped : Result Outline (List ℕ) → Result Document ReadFault
shaped (Ok outline) = checked outline (draft_check outline.draft)
shaped (Err path) = Err (WrongShape path)

-- the document that bytes are, or the first failure: no JSON text, a place of another form, a project that isn't sound,
-- too many entries
unfoldable pub document_of : Want → List ℕ → Result Document ReadFault
document_of want bytes = option_map_or (λ d. shaped (outline_form want d)) (read_json bytes) (Err NotJson)

-- what a call answers is what the reading gives, unless memory ran out
abbrev pub GivesDocument : Result Document ReadFault → Result Document ReadFault → Type 0
GivesDocument (Ok document) reading = reading ≡ Ok document
GivesDocument (Err fault) reading = fault ≢ NoMemory → reading ≡ Err fault
