-- The stops of planning in the names of a project, and how they are printed.
use Rattle.std.specs.Prelude.{◌≡◌, ℕ, ◌<◌, Bool, List, [], All, map, filter, length, slice_index_or, codes}
use Rattle.std.specs.List.{range_with_len}
use Rattle.serde_json.specs.Data.{Data, string, object, put}
use Rattle.loom_formula.specs.Choice.{choice_at}
use Rattle.loom_types.specs.declared.stop.PlanStop.{PlanStop}
use Rattle.loom_types.specs.declared.stop.PlanStop.TheVariants as stops
use Rattle.loom_project.specs.declared.draft.Draft.{Draft}
use Rattle.loom_project.specs.Draft.{node_names, segment_names, cavity_names, net_names}
use Rattle.loom_json.specs.Fields.{array_of}
use Rattle.loom_answer.specs.Values.{whole}
use Rattle.loom_answer.specs.Faults.{of_kind, limit_shown}
use Rattle.loom_answer.specs.declared.named_stop.NamedStop.{NamedStop}
use Rattle.loom_answer.specs.declared.named_stop.NamedStop.TheVariants as named

-- the name at a position
abbrev pub name_at : List (List ℕ) → ℕ → List ℕ
name_at names position = slice_index_or names position []

abbrev pub node_name : Draft → ℕ → List ℕ
node_name draft node = name_at (node_names draft.nodes) node

abbrev pub segment_name : Draft → ℕ → List ℕ
segment_name draft segment = name_at (segment_names draft.segments) segment

abbrev pub cavity_name : Draft → ℕ → List ℕ
cavity_name draft cavity = name_at (cavity_names draft.cavities) cavity

abbrev pub net_name : Draft → ℕ → List ℕ
net_name draft net = name_at (net_names draft.nets) net

-- the names of the options that are true, in the order of the options
abbrev pub true_options : List (List ℕ) → List Bool → List (List ℕ)
true_options options values = map (name_at options) (filter (choice_at values) (range_with_len 0 (length options)))

-- the stop isn't want of memory, the draft has what it tells by position, and a choice has a value for each option
abbrev pub IsNameable : Draft → PlanStop → Type 0
IsNameable draft stops.NoChoice = Unit {0}
IsNameable draft (stops.Clash cavity first second choice) =
    (cavity.0 < length draft.cavities) × (first.0 < length draft.nets) × (second.0 < length draft.nets)
    × (length choice.values ≡ length draft.options)
IsNameable draft (stops.Unreachable net cavity reached) =
    (net.0 < length draft.nets) × (cavity.0 < length draft.cavities) × All (λ node. node.0 < length draft.nodes) reached
IsNameable draft (stops.NoPin net coupler ordinal) =
    (net.0 < length draft.nets) × (coupler.0 < length draft.segments)
IsNameable draft (stops.Limit which count) = Unit {0}
IsNameable draft stops.NoMemory = ⊥

-- a stop in the names of the draft; want of memory has none, and what stands for it says nothing
abbrev pub named_of : Draft → PlanStop → NamedStop
named_of draft stops.NoChoice = named.NoChoice
named_of draft (stops.Clash cavity first second choice) =
    named.Clash (cavity_name draft cavity.0) (net_name draft first.0) (net_name draft second.0)
    (true_options draft.options choice.values)
named_of draft (stops.Unreachable net cavity reached) =
    named.Unreachable (net_name draft net.0) (cavity_name draft cavity.0) (map (λ node. node_name draft node.0) reached)
named_of draft (stops.NoPin net coupler ordinal) =
    named.NoPin (net_name draft net.0) (segment_name draft coupler.0) ordinal
named_of draft (stops.Limit which count) = named.Limit which count
named_of draft stops.NoMemory = named.NoChoice

-- a cavity that is active in two nets, and the true options of a choice under which it is
abbrev pub clash_shown : List ℕ → List ℕ → List ℕ → List (List ℕ) → Data
clash_shown cavity first second choice = object
    (put (codes "second") (string second)
    (put (codes "first") (string first)
    (put (codes "choice") (array_of (map string choice))
    (put (codes "cavity") (string cavity)
    (of_kind (codes "Clash"))))))

-- a cavity of a net that isn't reached, and the nodes that are
abbrev pub unreachable_shown : List ℕ → List ℕ → List (List ℕ) → Data
unreachable_shown net cavity reached = object
    (put (codes "reached") (array_of (map string reached))
    (put (codes "net") (string net)
    (put (codes "cavity") (string cavity)
    (of_kind (codes "Unreachable")))))

-- a net's crossing of a coupler that has no pin
abbrev pub no_pin_shown : List ℕ → List ℕ → ℕ → Data
no_pin_shown net coupler ordinal = object
    (put (codes "ordinal") (whole ordinal)
    (put (codes "net") (string net)
    (put (codes "coupler") (string coupler)
    (of_kind (codes "NoPin")))))

-- how a stop is printed
abbrev pub stop_shown : NamedStop → Data
stop_shown named.NoChoice = object (of_kind (codes "NoChoice"))
stop_shown (named.Clash cavity first second choice) = clash_shown cavity first second choice
stop_shown (named.Unreachable net cavity reached) = unreachable_shown net cavity reached
stop_shown (named.NoPin net coupler ordinal) = no_pin_shown net coupler ordinal
stop_shown (named.Limit which count) = limit_shown which count
