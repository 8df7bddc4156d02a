use Rattle.std.specs.Prelude.{ℕ, suc, List, [], ◌∷◌, Bool, ◌==◌, ◌&&◌, not, map, max, filter, if◌then◌else◌}
use Rattle.std.specs.List.{flat_map, range_with_len, fold}
use Rattle.loom_topology.specs.Topology.{TopologyView, harness_at}
use Rattle.loom_types.specs.declared.plan.Module.{Module}
use Rattle.loom_types.specs.declared.wire.Wire.{Wire}
use Rattle.loom_types.specs.Routes.{node_of_end}

-- the harness in which a wire lies, which is that of both its ends
abbrev pub harness_of : TopologyView → Wire → ℕ
harness_of topology w = harness_at topology (node_of_end topology w.from)

-- the numbers of the harnesses, up to the greatest that a node names
abbrev pub harnesses_of : TopologyView → List ℕ
harnesses_of topology = range_with_len 0 (suc (fold (λ most node. max most node.harness) 0 topology.nodes))

-- numbers, each once, in the order in which they first stand there
abbrev pub distinct_in_order : List ℕ → List ℕ
distinct_in_order [] = []
distinct_in_order (n ∷ ns) = n ∷ filter (λ m. not (m == n)) (distinct_in_order ns)

-- the positions, rising, of the elements that pass a test, where the first element's is `first`
abbrev pub positions_from : {A : Type 0} → ℕ → (A → Bool) → List A → List ℕ
positions_from first test [] = []
positions_from first test (x ∷ xs) =
    (if test x then first ∷ positions_from (suc first) test xs else positions_from (suc first) test xs)

-- the rows of a harness's wires, in the order of their first wires
abbrev pub rows_in : TopologyView → List Wire → ℕ → List ℕ
rows_in topology wires harness = distinct_in_order (map (λ w. w.row) (filter (λ w. harness_of topology w == harness) wires))

-- the module of a harness and a row: the positions of the wires that lie in the one and have the other
abbrev pub module_of : TopologyView → List Wire → ℕ → ℕ → Module
module_of topology wires harness row =
    record { harness = harness; row = row; wires = positions_from 0 (λ w. harness_of topology w == harness && w.row == row) wires }

-- harness by harness, in order, the wires of equal row make one module, in the order of their first wires
abbrev pub modules_of : TopologyView → List Wire → List Module
modules_of topology wires =
    flat_map (λ harness. map (module_of topology wires harness) (rows_in topology wires harness)) (harnesses_of topology)
