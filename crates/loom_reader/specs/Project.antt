-- A project as it is written down in the versions of the document.
use Rattle.std.specs.Prelude.{ℕ, List, [], ◌∷◌, Result, Ok, codes}
use Rattle.serde_json.specs.Data.{Data}
use Rattle.loom_base.specs.First.{◌>>=◌}
use Rattle.loom_json.specs.Forms.{keyed, at_key, list, name_form}
use Rattle.loom_project.specs.declared.draft.Draft.{Draft}
use Rattle.loom_reader.specs.Formula.{formula_form}
use Rattle.loom_reader.specs.Parts.{node_form, segment_form, cavity_form, net_form}

-- the keys of a project
abbrev pub project_keys : List (List ℕ)
project_keys = codes "options" ∷ codes "rules" ∷ codes "nodes" ∷ codes "segments" ∷ codes "cavities" ∷ codes "nets" ∷ []

-- a project's draft, with its lists in reading order
unfoldable pub project_form : ℕ → Data → Result Draft (List ℕ)
project_form version d = do
  checked ← keyed project_keys d
  options ← at_key (list name_form) (codes "options") d
  rules ← at_key (list formula_form) (codes "rules") d
  nodes ← at_key (list node_form) (codes "nodes") d
  segments ← at_key (list (segment_form version)) (codes "segments") d
  cavities ← at_key (list cavity_form) (codes "cavities") d
  nets ← at_key (list (net_form version)) (codes "nets") d
  Ok (record { options = options; rules = rules; nodes = nodes; segments = segments; cavities = cavities; nets = nets })
