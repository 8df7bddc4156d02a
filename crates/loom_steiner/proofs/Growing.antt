use Rattle.std.proofs.Common.{List, ◌++◌, ℕ, ◌+◌, ◌-◌, ◌*◌, ◌^◌, ◌<◌, ◌≤◌, ◌≡◌, length, slice_index, inl, inr, sym, ap, subst, arith, ◌∙◌, length-append}
use Rattle.std.proofs.Math.ListN.{get_or-append}
use Rattle.std.proofs.Math.Nat.{mul-le-mul_right, one-le-pow}
use Rattle.std.proofs.lemmas.List.{get_or-append-add}
use Rattle.loom_topology.specs.Topology.{TopologyView, node_of, IsSound}
use Rattle.loom_topology.specs.TreeCost.{HasTree}
use Rattle.loom_topology.specs.Legal.{cavities_of_mask}
use Rattle.loom_steiner.specs.Row.{IsCapped}
use Rattle.loom_steiner.specs.Split.{cell_in}
use Rattle.loom_steiner.specs.Filled.{IsFilled, IsRowOf, IsBoundedAt}
use Rattle.std.proofs.lemmas.Bool.{cases_lt}
use Rattle.loom_topology.proofs.LeastLegal.{leads_below}

pub place_below : (m mask n v : ℕ) → 0 < m → m < mask → v < n → (m - 1) * n + v < (mask - 1) * n
place_below m mask n v some less range =
    let h : m ≤ mask - 1 = omega arith in
    let back : m - 1 + 1 ≡ m = omega arith in
    let next : (m - 1) * n + n ≡ (m - 1 + 1) * n = omega arith in
    let e : (m - 1) * n + n ≡ m * n = next ∙ ap (λ (w : ℕ). w * n) back in
    omega (arith, mul-le-mul_right n h, e)

pub place_within : (m masks n v : ℕ) → 1 ≤ m → m ≤ masks → v < n → (m - 1) * n + v < masks * n
place_within m masks n v from to range =
    let back : masks + 1 - 1 ≡ masks = omega arith in
    omega (arith, place_below m (masks + 1) n v (omega arith) (omega arith) range, ap (λ (w : ℕ). w * n) back)

-- a further row changes no cell before it
cell_before : (cells row : List ℕ) (n mask m v : ℕ) → length cells ≡ (mask - 1) * n → 0 < m → m < mask → v < n
    → cell_in (cells ++ row) n m v ≡ cell_in cells n m v
cell_before cells row n mask m v len some less range =
    get_or-append cells row 0 ((m - 1) * n + v) (omega (arith, place_below m mask n v some less range))

-- and it is the row of its mask
cell_last : (cells row : List ℕ) (n mask v : ℕ) → length cells ≡ (mask - 1) * n
    → cell_in (cells ++ row) n mask v ≡ slice_index row v
cell_last cells row n mask v len = subst (λ (l : ℕ). slice_index (cells ++ row) (l + v) ≡ slice_index row v) len (get_or-append-add cells row v 0)

capped_append : (cells row : List ℕ) → IsCapped cells → IsCapped row → IsCapped (cells ++ row)
capped_append cells row capped_cells capped_row v = elim (cases_lt v (length cells)) [
  | inl lt ↦ (let e = get_or-append cells row 0 v lt in omega (arith, e, capped_cells v))
  | inr ge ↦
      (let at : length cells + (v - length cells) ≡ v = omega arith in
      let e : slice_index (cells ++ row) v ≡ slice_index row (v - length cells) =
      subst (λ (w : ℕ). slice_index (cells ++ row) w ≡ slice_index row (v - length cells)) at (get_or-append-add cells row (v - length cells) 0) in
      omega (arith, e, capped_row (v - length cells)))
]

-- the rows below a mask and the row of the mask
pub IsFilled-more : (topology : TopologyView) (terminals cells row : List ℕ) (mask : ℕ) → 0 < mask → IsSound topology
    → ((i : ℕ) → i + 1 < length terminals → node_of topology (slice_index terminals (i + 1)) < length topology.nodes)
    → IsFilled topology terminals mask cells → IsRowOf topology terminals cells mask row
    → IsFilled topology terminals (mask + 1) (cells ++ row)
IsFilled-more topology terminals cells row mask some sound homes f r =
    let n = length topology.nodes in
    let all = cells ++ row in
    let before = λ (m v : ℕ) (h : 0 < m) (l : m < mask) (w : v < n). cell_before cells row n mask m v f.len h l w in
    let last = λ (v : ℕ). cell_last cells row n mask v f.len in
    let at_mask = λ (m : ℕ) (e : m ≡ mask) (v : ℕ).
    (let p : cell_in all n m v ≡ slice_index row v = subst (λ (w : ℕ). cell_in all n w v ≡ slice_index row v) (sym e) (last v) in p) in
    record {
      len =
          (let grown : (mask - 1) * n + n ≡ (mask + 1 - 1) * n = (let h : mask - 1 + 1 ≡ mask + 1 - 1 = omega arith in
          (let e : (mask - 1) * n + n ≡ (mask - 1 + 1) * n = omega arith in e ∙ ap (λ (w : ℕ). w * n) h)) in
          omega (arith, length-append cells row, f.len, r.len, grown));
      capped = capped_append cells row f.capped r.capped;
      leaf = λ i range below. elim (cases_lt (2 ^ i) mask) [
        | inl lt ↦ before (2 ^ i) (node_of topology (slice_index terminals (i + 1))) (one-le-pow i 2 (omega arith)) lt (homes i range) ∙ f.leaf i range lt
        | inr ge ↦ (let e : 2 ^ i ≡ mask = omega arith in
            at_mask (2 ^ i) e (node_of topology (slice_index terminals (i + 1))) ∙ r.leaf i range e)
      ];
      over = λ m v s u positive below range leads.
          (let u_range = leads_below topology s v u sound leads in
          elim (cases_lt m mask) [
            | inl lt ↦ omega (arith, before m v positive lt range, before m u positive lt u_range, f.over m v s u positive lt range leads)
            | inr ge ↦ (let e : m ≡ mask = omega arith in omega (arith, at_mask m e v, at_mask m e u, r.over v s u range leads))
          ]);
      reach = λ m v s u positive below range leads number.
          (let u_range = leads_below topology s v u sound leads in
          elim (cases_lt m mask) [
            | inl lt ↦
                (let h = f.reach m v s u positive lt range leads (omega (arith, before m u positive lt u_range)) in
                omega (arith, before m v positive lt range, h))
            | inr ge ↦ (let e : m ≡ mask = omega arith in
                let h = r.reach v s u range leads (omega (arith, at_mask m e u)) in omega (arith, at_mask m e v, h))
          ]);
      split = λ a b v some_a some_b apart below range.
          (let a_before = before a v some_a (omega arith) range in
          let b_before = before b v some_b (omega arith) range in
          elim (cases_lt (a + b) mask) [
            | inl lt ↦ omega (arith, a_before, b_before, before (a + b) v (omega arith) lt range, f.split a b v some_a some_b apart lt range)
            | inr ge ↦ (let e : a + b ≡ mask = omega arith in
                omega (arith, a_before, b_before, at_mask (a + b) e v, r.split a b v some_a some_b apart e range))
          ]);
      attained = λ m v positive below range number. elim (cases_lt m mask) [
        | inl lt ↦
            (let e = before m v positive lt range in
            let h = f.attained m v positive lt range (omega (arith, e)) in
            subst (λ (x : ℕ). HasTree topology (cavities_of_mask terminals m) v x) (sym e) h)
        | inr ge ↦
            (let e : m ≡ mask = omega arith in
            let p = at_mask m e v in
            let h = r.attained v range (omega (arith, p)) in
            subst (λ (x : ℕ). HasTree topology (cavities_of_mask terminals m) v x) (sym p)
            (subst (λ (w : ℕ). HasTree topology (cavities_of_mask terminals w) v (slice_index row v)) (sym e) h))
      ];
      bounded = λ m v positive below range. elim (cases_lt m mask) [
        | inl lt ↦ subst (λ (x : ℕ). IsBoundedAt topology terminals m x) (sym (before m v positive lt range)) (f.bounded m v positive lt range)
        | inr ge ↦
            (let e : m ≡ mask = omega arith in
            subst (λ (x : ℕ). IsBoundedAt topology terminals m x) (sym (at_mask m e v))
            (subst (λ (w : ℕ). IsBoundedAt topology terminals w (slice_index row v)) (sym e) (r.bounded v range)))
      ];
    }
