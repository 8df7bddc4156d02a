use Rattle.std.specs.Prelude.{ℕ, List, [], ◌∷◌, ◌++◌, map, slice_index_or, slice_set}
use Rattle.loom_topology.specs.declared.incidence.Incidence.TheInside.{Inside}

abbrev pub lists_of : Inside → List (List ℕ)
lists_of incidence = map (λ list. map (λ s. s.0) list.items) incidence.lists.items

-- the list of segments at a node
abbrev pub list_at : List (List ℕ) → ℕ → List ℕ
list_at incidence v = slice_index_or incidence v []

-- with one more segment at the end of a node's list
abbrev pub with_at : List (List ℕ) → ℕ → ℕ → List (List ℕ)
with_at incidence v s = slice_set incidence v (list_at incidence v ++ s ∷ [])
