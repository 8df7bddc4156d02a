use Rattle.std.proofs.Common.{List, ℕ, ◌+◌, ◌*◌, ◌<◌, ◌≤◌, ◌≡◌, ◌⊎◌, cond, ltb, length, slice_index, sum, inl, inr, sym, subst, arith}
use Rattle.std.proofs.Math.ListN.{set, length-set}
use Rattle.std.proofs.lemmas.List.{get_or-set_same, get_or-set_other}
use Rattle.std.proofs.lemmas.List.Sums.{sum_by-set}
use Rattle.std.proofs.lemmas.Bool.Decides.{nat_tests}
use Rattle.loom_topology.specs.Topology.{TopologyView, Leads, price_at}
use Rattle.loom_topology.specs.TreeCost.{HasTree}
use Rattle.loom_steiner.specs.declared.ways.TheConstants.{NO_TREE}
use Rattle.loom_topology.specs.declared.ways.Way.{Way}
use Rattle.loom_topology.specs.Ways.{way_at}
use Rattle.loom_steiner.specs.Ways.{AreWaysFrom}
use Rattle.loom_steiner.specs.Row.{IsAttained, IsBoundedFrom, IsCapped, reached}
use Rattle.loom_topology.proofs.Over.{step_adds_price}
use Rattle.std.proofs.lemmas.Bool.{cases_lt, cases_eq}

-- 1 for a number, 0 for none
abbrev counts : ℕ → ℕ
counts x = cond (ltb x NO_TREE) 1 0

counts-number : (x : ℕ) → x < NO_TREE → counts x ≡ 1
counts-number x h = grind (arith, nat_tests)

counts-none : (x : ℕ) → NO_TREE ≤ x → counts x ≡ 0
counts-none x h = grind (arith, nat_tests)

-- how many nodes are reached once a lower number is written
pub reached-set : (row : List ℕ) (to through : ℕ) → to < length row → through < NO_TREE
    → ((slice_index row to < NO_TREE) × (reached (set row to through) ≡ reached row))
    ⊎ ((NO_TREE ≤ slice_index row to) × (reached (set row to through) ≡ reached row + 1))
reached-set row to through range number =
    let e = sum_by-set counts row to through 0 range in
    let one = counts-number through number in
    elim (cases_lt (slice_index row to) NO_TREE) [
      | inl h ↦ (let f = counts-number (slice_index row to) h in inl (h, omega (arith, e, one, f)))
      | inr h ↦ (let f = counts-none (slice_index row to) h in inr (h, omega (arith, e, one, f)))
    ]

pub lower-set : (row : List ℕ) (to through v : ℕ) → to < length row → through < slice_index row to
    → slice_index (set row to through) v ≤ slice_index row v
lower-set row to through v range lower =
    elim (cases_eq v to) [
      | inl h ↦ (let e = get_or-set_same row to through 0 range in subst (λ (w : ℕ). slice_index (set row to through) w ≤ slice_index row w) (sym h) (omega (arith, e)))
      | inr h ↦ (let e = get_or-set_other row to v through 0 h in omega (arith, e))
    ]

bounded_at : (base : ℕ) (row : List ℕ) (node to price : ℕ) → node < length row → to < length row → price ≤ 1000000
    → slice_index row node + price < slice_index row to → slice_index row to ≤ NO_TREE → IsBoundedFrom base row
    → (slice_index row node + price ≤ base + 1000000 * reached (set row to (slice_index row node + price)))
    × (reached row ≤ reached (set row to (slice_index row node + price)))
bounded_at base row node to price node_range to_range cheap lower cap bounded =
    elim (reached-set row to (slice_index row node + price) to_range (omega arith)) [
      | inl h ↦ (let b = bounded to to_range h.0 in (omega arith, omega arith))
      | inr h ↦ (let b = bounded node node_range (omega arith) in (omega arith, omega arith))
    ]

pub bounded-set : (base : ℕ) (row : List ℕ) (node to price : ℕ) → node < length row → to < length row → price ≤ 1000000
    → slice_index row node + price < slice_index row to → slice_index row to ≤ NO_TREE → IsBoundedFrom base row
    → IsBoundedFrom base (set row to (slice_index row node + price))
bounded-set base row node to price node_range to_range cheap lower cap bounded v range number =
    let new = set row to (slice_index row node + price) in
    let b = bounded_at base row node to price node_range to_range cheap lower cap bounded in
    elim (cases_eq v to) [
      | inl h ↦ (let e = get_or-set_same row to (slice_index row node + price) 0 to_range in
          subst (λ (w : ℕ). slice_index new w ≤ base + 1000000 * reached new) (sym h) (omega (arith, e, b.0)))
      | inr h ↦ (let e = get_or-set_other row to v (slice_index row node + price) 0 h in
          let o = bounded v (omega (arith, length-set {A = ℕ})) (omega (arith, e)) in omega (arith, e, o, b.1))
    ]

-- a cost that is taken over a way is that of a tree
pub attained-set : (topology : TopologyView) (cavities : List ℕ) (from : List Way) (row : List ℕ) (node k : ℕ)
    → AreWaysFrom topology node from → k < length from → node < length row → (way_at from k).to.0 < length row
    → slice_index row node + (way_at from k).price < slice_index row (way_at from k).to.0 → IsCapped row
    → IsAttained topology cavities row
    → IsAttained topology cavities (set row (way_at from k).to.0 (slice_index row node + (way_at from k).price))
attained-set topology cavities from row node k are_ways within node_range to_range lower capped attained v range number =
    let way = way_at from k in
    let through = slice_index row node + way.price in
    let new = set row way.to.0 through in
    let cap = capped way.to.0 in
    elim (cases_eq v way.to.0) [
      | inl h ↦ (let e = get_or-set_same row way.to.0 through 0 to_range in
          let l = are_ways.leads k within in
          let back : Leads topology l.0 way.to.0 node = (l.1.0, elim l.1.1 [ inl p ↦ inr p | inr p ↦ inl p ]) in
          let t = step_adds_price topology cavities l.0 way.to.0 node (slice_index row node) back (attained node node_range (omega arith)) in
          let p : price_at topology l.0 ≡ way.price = sym l.2 in
          let f : slice_index new way.to.0 ≡ slice_index row node + price_at topology l.0 = omega (arith, e, p) in
          subst (λ (w : ℕ). HasTree topology cavities w (slice_index new w)) (sym h)
          (subst (λ (m : ℕ). HasTree topology cavities way.to.0 m) (sym f) t))
      | inr h ↦ (let e = get_or-set_other row way.to.0 v through 0 h in
          let o = attained v (omega (arith, length-set {A = ℕ})) (omega (arith, e)) in
          subst (λ (m : ℕ). HasTree topology cavities v m) (sym e) o)
    ]

pub sum-set : (row : List ℕ) (to through : ℕ) → to < length row → sum (set row to through) + slice_index row to ≡ sum row + through
sum-set row to through range = sum_by-set (λ x. x) row to through 0 range
