-- What still names a thing that is to be removed.
use Rattle.std.specs.Prelude.{ℕ, Bool, ◌||◌, List, bytes_eq}
use Rattle.std.specs.List.{list_any}
use Rattle.loom_formula.specs.declared.formula.Formula.{Formula}
use Rattle.loom_formula.specs.NameIndex.{has_name}
use Rattle.loom_project.specs.declared.draft.Draft.{Draft}
use Rattle.loom_project.specs.Draft.{option_names}

-- whether a formula names an option
abbrev pub names_option : List ℕ → Formula → Bool
names_option name formula = has_name (option_names formula) name

-- whether a rule or a terminal's formula names an option
abbrev pub is_option_used : Draft → List ℕ → Bool
is_option_used draft name =
    list_any (names_option name) draft.rules
    || list_any (λ net. list_any (λ terminal. names_option name terminal.when) net.terminals) draft.nets

-- whether a segment begins or ends at a node, or a cavity lies there
abbrev pub is_node_used : Draft → List ℕ → Bool
is_node_used draft name =
    list_any (λ segment. bytes_eq name segment.from || bytes_eq name segment.to) draft.segments
    || list_any (λ cavity. bytes_eq name cavity.node) draft.cavities

-- whether a terminal names a cavity
abbrev pub is_cavity_used : Draft → List ℕ → Bool
is_cavity_used draft name =
    list_any (λ net. list_any (λ terminal. bytes_eq name terminal.cavity) net.terminals) draft.nets
