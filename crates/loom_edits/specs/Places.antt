-- Where the things that an edit addresses stand, and lists with one element changed.
use Rattle.std.specs.Prelude.{ℕ, zero, suc, Bool, false, List, [], ◌∷◌, Option, bytes_eq, slice_get}
use Rattle.std.specs.List.{position}
use Rattle.std.specs.Option.{option_map_or}
use Rattle.loom_topology.specs.Topology.{is_coupler}
use Rattle.loom_project.specs.declared.draft.Draft.{Draft}
use Rattle.loom_project.specs.declared.draft.NetDraft.{NetDraft}

-- the list with the element at a place changed; past the end the same list
abbrev pub changed_at : {A : Type 0} → (A → A) → List A → ℕ → List A
changed_at change [] at = []
changed_at change (x ∷ xs) zero = change x ∷ xs
changed_at change (x ∷ xs) (suc at) = x ∷ changed_at change xs at

-- where the option of that name stands
abbrev pub option_place : Draft → List ℕ → Option ℕ
option_place draft name = position (bytes_eq name) draft.options

-- where the node of that name stands
abbrev pub node_place : Draft → List ℕ → Option ℕ
node_place draft name = position (λ node. bytes_eq name node.name) draft.nodes

-- where the segment of that name stands
abbrev pub segment_place : Draft → List ℕ → Option ℕ
segment_place draft name = position (λ segment. bytes_eq name segment.name) draft.segments

-- where the cavity of that name stands
abbrev pub cavity_place : Draft → List ℕ → Option ℕ
cavity_place draft name = position (λ cavity. bytes_eq name cavity.name) draft.cavities

-- where the net of that name stands
abbrev pub net_place : Draft → List ℕ → Option ℕ
net_place draft name = position (λ net. bytes_eq name net.name) draft.nets

-- where the terminal with that cavity stands in a net
abbrev pub terminal_place : NetDraft → List ℕ → Option ℕ
terminal_place net cavity = position (λ terminal. bytes_eq cavity terminal.cavity) net.terminals

-- whether a coupler stands at a place of the segments
abbrev pub is_coupler_at : Draft → ℕ → Bool
is_coupler_at draft at =
    option_map_or (λ segment. is_coupler segment.kind) (slice_get draft.segments at) false
