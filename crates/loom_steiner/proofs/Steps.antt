-- One mask more is filled.
use Rattle.std.proofs.Common.{List, [], ◌++◌, ℕ, ◌+◌, ◌-◌, ◌*◌, ◌%◌, ◌^◌, ◌<◌, ◌≤◌, ◌≡◌, map, length, get_or, slice_index, inl, inr, sym, ap, subst, arith, ◌∙◌}
use Rattle.std.specs.Borrow.{Bor}
use Rattle.std.specs.List.{All}
use Rattle.std.proofs.Math.Nat.{pow-le-pow_right, one-le-pow}
use Rattle.std.proofs.Math.Pow.{pow-lt}
use Rattle.std.proofs.lemmas.Bool.{cases_lt}
use Rattle.std.proofs.lemmas.List.{get_or-map, get_or_past, length-map}
use Rattle.std.proofs.lemmas.Nat.{mod-mul-add}
use Rattle.loom_base.specs.declared.positions.CavityNo.{CavityNo}
use Rattle.loom_topology.specs.Topology.{TopologyView, node_of, IsSound}
use Rattle.loom_topology.proofs.Sound.{sound-cavity}
use Rattle.loom_topology.specs.declared.ways.Way.{Way}
use Rattle.loom_steiner.specs.Begin.{IsRow}
use Rattle.loom_steiner.specs.Ground.{IsGround}
use Rattle.loom_steiner.specs.Filled.{IsFilled}
use Rattle.loom_steiner.proofs.Growing.{IsFilled-more}
use Rattle.loom_steiner.proofs.MaskRows.{Works, row_of_mask}

abbrev pub numbers_of : List CavityNo → List ℕ
numbers_of terminals = map (λ cavity. cavity.0) terminals

-- no mask is filled yet
pub filled_none : (topology : TopologyView) (terminals : List ℕ) → IsFilled topology terminals 1 []
filled_none topology terminals = record {
  len = omega arith;
  capped = λ v. omega (arith, get_or_past {X = ℕ} [] v 0 (omega arith));
  leaf = λ i range below. absurd (omega (arith, one-le-pow i 2 (omega arith)));
  over = λ mask v s u some below range leads. absurd (omega arith);
  reach = λ mask v s u some below range leads number. absurd (omega arith);
  split = λ a b v some_a some_b apart below range. absurd (omega arith);
  attained = λ mask v some below range number. absurd (omega arith);
  bounded = λ mask v some below range. absurd (omega arith);
}

-- the highest bit of a mask is that of a terminal
pub bit_below : (bit mask count : ℕ) → 2 ^ bit ≤ mask → mask < 2 ^ (count - 1) → bit + 1 < count
bit_below bit mask count at_least below = elim (cases_lt bit (count - 1)) [
  | inl lt ↦ omega arith
  | inr ge ↦ absurd (omega (arith, pow-le-pow_right {n = 2} (omega arith) ge))
]

pub shifted : (bit mask : ℕ) → 2 ^ bit ≤ mask → mask < 2 ^ 32 → 1 * 2 ^ bit % 2 ^ 32 ≡ 2 ^ bit
shifted bit mask at_least below =
    let e : 0 * 2 ^ 32 + 1 * 2 ^ bit ≡ 1 * 2 ^ bit = omega arith in
    let m = mod-mul-add 0 (2 ^ 32) (1 * 2 ^ bit) (omega arith) in
    let f : 1 * 2 ^ bit ≡ 2 ^ bit = omega arith in
    subst (λ (w : ℕ). w % 2 ^ 32 ≡ 1 * 2 ^ bit) e m ∙ f

-- the nodes of the terminals
pub homes_in_range : (topology : TopologyView) (terminals : List CavityNo) → IsSound topology
    → All (λ cavity. cavity.0 < length topology.cavities) terminals
    → (i : ℕ) → i + 1 < length (numbers_of terminals) → node_of topology (slice_index (numbers_of terminals) (i + 1)) < length topology.nodes
homes_in_range topology terminals sound ranges i h =
    let first : CavityNo = record { 0 = 0 } in
    let within : i + 1 < length terminals = omega (arith, length-map terminals (λ (c : CavityNo). c.0)) in
    let at : slice_index (numbers_of terminals) (i + 1) ≡ (get_or terminals (i + 1) first).0 =
    get_or-map (λ (c : CavityNo). c.0) terminals (i + 1) first 0 within in
    sound-cavity topology sound (slice_index (numbers_of terminals) (i + 1)) (omega (arith, at, ranges (i + 1) first within))

pub home_of : (topology : TopologyView) (terminals : List CavityNo) (i home : ℕ) (d : CavityNo) → i + 1 < length terminals
    → home ≡ node_of topology (get_or terminals (i + 1) d).0 → home ≡ node_of topology (slice_index (numbers_of terminals) (i + 1))
home_of topology terminals i home d within e =
    e ∙ ap (node_of topology) (sym (get_or-map (λ (c : CavityNo). c.0) terminals (i + 1) d 0 within))

pub filled_next : (topology : TopologyView) (ways : List (Bor (List Way))) (branches terminals cells row : List ℕ) (bit mask home high : ℕ)
    → IsGround topology ways branches → IsSound topology → length topology.nodes ≤ 1024 → length terminals ≤ 12
    → 2 ^ bit ≤ mask → mask < 2 * 2 ^ bit → mask < 2 ^ (length terminals - 1) → high ≡ 2 ^ bit
    → home ≡ node_of topology (slice_index terminals (bit + 1))
    → ((i : ℕ) → i + 1 < length terminals → node_of topology (slice_index terminals (i + 1)) < length topology.nodes)
    → IsFilled topology terminals mask cells
    → IsRow ways cells branches (length topology.nodes) high (mask - high) home row
    → IsFilled topology terminals (mask + 1) (cells ++ row)
filled_next topology ways branches terminals cells row bit mask home high ground sound few_nodes few_terminals at_least below last high_is home_is homes filled is_row =
    let n = length topology.nodes in
    let range = bit_below bit mask (length terminals) at_least last in
    let rest = mask - high in
    let low : rest < 2 ^ bit = omega arith in
    let sum : mask ≡ 2 ^ bit + rest = omega arith in
    let works : Works topology ways branches terminals cells bit rest mask home = record {
      ground = ground;
      sound = sound;
      few_nodes = few_nodes;
      few_terminals = few_terminals;
      bit = range;
      low = low;
      is = sum;
      home_is = home_is;
      home_range = omega (arith, home_is, homes bit range);
      filled = filled;
    } in
    let row_here = subst (λ (h : ℕ). IsRow ways cells branches n h rest home row) high_is is_row in
    IsFilled-more topology terminals cells row mask (omega (arith, one-le-pow bit 2 (omega arith))) sound homes filled
    (row_of_mask topology ways branches terminals cells bit rest mask home works row row_here)

pub end_value : (count : ℕ) → count ≤ 12 → (1 * 2 ^ (count - 1) % 2 ^ 32 ≡ 2 ^ (count - 1)) × (2 ^ (count - 1) < 2 ^ 32)
end_value count few =
    let h : count - 1 < 32 = omega arith in
    let below : 2 ^ (count - 1) < 2 ^ 32 = pow-lt h in
    (shifted (count - 1) (2 ^ (count - 1)) (omega arith) below, below)

pub numbers_len : (terminals : List CavityNo) → length (numbers_of terminals) ≡ length terminals
numbers_len terminals = length-map terminals (λ (c : CavityNo). c.0)
