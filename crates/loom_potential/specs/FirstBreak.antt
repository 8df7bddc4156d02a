use Rattle.std.specs.Prelude.{ℕ, List, Option, Some, None, Bool, Ok, Err, ◌+◌, ◌-◌, ◌^◌, ◌==◌, ◌&&◌, length, slice_index, bit_and, nat_le, if◌then◌else◌}
use Rattle.std.specs.Int.{bit_at, trailing_zeros, w32}
use Rattle.std.specs.List.{filter, range_with_len}
use Rattle.loom_topology.specs.Topology.{TopologyView, open_at, segment_at, branch_at, price_at, node_of}
use Rattle.loom_topology.specs.WiringTree.{other_end}
use Rattle.loom_topology.specs.Legal.{plus}
use Rattle.loom_potential.specs.declared.first_break.Part.{Part}
use Rattle.loom_potential.specs.declared.first_break.Part.TheVariants.{Leaf, Over, Split}
use Rattle.loom_potential.specs.declared.first_break.FirstBreak.{FirstBreak}
use Rattle.loom_base.specs.First.{Check, ◌>>◌, every}

-- the left side of an inequality is at most the right one; None is greater than every number
abbrev pub at_most : ℕ → ℕ → Part → Option ℕ → Option ℕ → Check FirstBreak
at_most mask v part left None = Ok tt
at_most mask v part None (Some n) =
    Err (record { mask = mask; node = record { 0 = v }; part = part; left = None; right = n })
at_most mask v part (Some m) (Some n) =
    if nat_le m n then Ok tt else Err (record { mask = mask; node = record { 0 = v }; part = part; left = Some m; right = n })

-- the bit of a mask's first cavity
abbrev pub first_bit : ℕ → ℕ
first_bit mask = trailing_zeros w32 mask

-- the mask is its first cavity alone, and it lies at v
abbrev pub is_one_at : TopologyView → List ℕ → ℕ → ℕ → Bool
is_one_at topology terminals mask v =
    (mask == 2 ^ first_bit mask) && (node_of topology (slice_index terminals (first_bit mask + 1)) == v)

-- one cavity at its own node costs nothing
abbrev pub leaf_check : TopologyView → List ℕ → (ℕ → ℕ → Option ℕ) → ℕ → ℕ → Check FirstBreak
leaf_check topology terminals P mask v =
    if is_one_at topology terminals mask v then at_most mask v Leaf (P mask v) (Some 0) else Ok tt

-- a way over segment s costs its price
abbrev pub over_check : TopologyView → (ℕ → ℕ → Option ℕ) → ℕ → ℕ → ℕ → Check FirstBreak
over_check topology P mask v s =
    at_most mask v (Over (record { 0 = s })) (P mask v)
    (plus (P mask (other_end (segment_at topology s) v)) (Some (price_at topology s)))

-- the part and the rest join for the branch cost
abbrev pub split_check : TopologyView → (ℕ → ℕ → Option ℕ) → ℕ → ℕ → ℕ → Check FirstBreak
split_check topology P mask v part =
    at_most mask v (Split part) (P mask v) (plus (plus (P part v) (P (mask - part) v)) (Some (branch_at topology v)))

-- the part lies within the mask and holds its first cavity
abbrev pub is_first_part : ℕ → ℕ → Bool
is_first_part mask part = (bit_and part mask == part) && (bit_at part (first_bit mask) == 1)

-- the parts of a mask that hold its first cavity and leave a rest, rising
unfoldable pub first_parts : ℕ → List ℕ
first_parts mask = filter (is_first_part mask) (range_with_len 1 (mask - 1))

-- the open segments at v, rising
unfoldable pub over_checks : TopologyView → (ℕ → ℕ → Option ℕ) → ℕ → ℕ → Check FirstBreak
over_checks topology P mask v = every (over_check topology P mask v) (open_at topology v)

unfoldable pub split_checks : TopologyView → (ℕ → ℕ → Option ℕ) → ℕ → ℕ → Check FirstBreak
split_checks topology P mask v = every (split_check topology P mask v) (first_parts mask)

-- the inequalities of a cell
abbrev pub cell_check : TopologyView → List ℕ → (ℕ → ℕ → Option ℕ) → ℕ → ℕ → Check FirstBreak
cell_check topology terminals P mask v =
    leaf_check topology terminals P mask v >> over_checks topology P mask v >> split_checks topology P mask v

-- the cells of a mask, nodes rising
unfoldable pub mask_check : TopologyView → List ℕ → (ℕ → ℕ → Option ℕ) → ℕ → Check FirstBreak
mask_check topology terminals P mask = every (cell_check topology terminals P mask) (range_with_len 0 (length topology.nodes))

-- the first inequality that a table breaks, masks rising
unfoldable pub first_break : TopologyView → List ℕ → (ℕ → ℕ → Option ℕ) → Check FirstBreak
first_break topology terminals P = every (mask_check topology terminals P) (range_with_len 1 (2 ^ (length terminals - 1) - 1))
