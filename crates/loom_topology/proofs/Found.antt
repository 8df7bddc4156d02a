-- Nodes that are found one after another.
use Rattle.std.proofs.Common.{ℕ, List, [], ◌∷◌, ◌++◌, Bool, true, false, not, cond, length, get_or, map, replicate, count_by, IsTrue, ◌↔◌, ◌≡◌, ◌+◌, ◌<◌, ◌≤◌, refl, sym, ap, ◌∙◌, subst, inl, inr, arith, length-append, append-nil, zero-add, ◌*◌}
use Rattle.std.specs.List.{Contains, filter, range_with_len}
use Rattle.std.specs.List.Sorted.{IsStrictlyIncreasing}
use Rattle.std.proofs.Math.ListN.{set}
use Rattle.std.proofs.lemmas.Bool.{cases_Bool, cases_eq, cases_lt, both_ways, cond-true, cond-false}
use Rattle.std.proofs.lemmas.List.{length-set, get_or-set_same, get_or-set_other, get_or_past, length-replicate, get_or-replicate, get_or_append_left, get_or_default, length-map, get_or-map, map-append}
use Rattle.std.proofs.lemmas.List.Folds.{sum_by-replicate}
use Rattle.std.proofs.lemmas.List.Sums.{sum_by-set}
use Rattle.std.proofs.lemmas.List.Elements.{All-contains, filter_passes, filter-append, Contains-append_left, Contains-push, Contains-push_cases, Contains-get_or}
use Rattle.std.proofs.lemmas.List.Kept.{IsStrictlyIncreasing-filter}
use Rattle.std.proofs.lemmas.List.FromFn.{length-range_with_len, get_or-range_with_len}
use Rattle.loom_topology.specs.Topology.{TopologyView, Leads}
use Rattle.loom_topology.specs.Reach.{IsReached}
use Rattle.loom_topology.specs.Reach.IsReached.{here, over}
use Rattle.loom_topology.specs.Found.{FoundView, IsFound, IsSpread, is_marked, with_found}
use Rattle.loom_base.proofs.Contained.{Contains-filter_range}
use Rattle.loom_topology.proofs.OpenSegments.{range_with_len-more}

none_there : (u : ℕ) → Contains [] u → ⊥
none_there u (k, below, at) = absurd (omega arith)

-- no node is found yet
pub IsFound-none : (topology : TopologyView) (start n : ℕ) → n ≡ length topology.nodes
    → IsFound topology start (record { marks = replicate n false; nodes = [] })
IsFound-none topology start n count = record {
  count = length-replicate n false ∙ count;
  marked = λ u. (
    λ marked. absurd (both_ways (get_or (replicate n false) u false) (unmarked n u) marked),
    λ there. absurd (none_there u there),
  );
  once =
      let each : count_by not (replicate n false) ≡ n * 1 = sum_by-replicate (λ b. cond (not b) 1 0) n false in
      omega (arith, each, count);
  reached = λ u there. absurd (none_there u there);
}
  where
    unmarked : (n u : ℕ) → get_or (replicate n false) u false ≡ false
    unmarked n u =
        elim (cases_lt u n) [
          | inl below ↦ get_or-replicate n u false false below
          | inr past ↦ get_or_past (replicate n false) u false (omega (arith, length-replicate {A = Bool} n false))
        ]

module _ (topology : TopologyView) (start : ℕ) (found : FoundView) (is_found : IsFound topology start found) where
  -- what is found is in range
  pub found_below : (u : ℕ) → Contains found.nodes u → u < length topology.nodes
  found_below u there =
      let marked : is_marked found u ≡ true = (is_found.marked u).1 there in
      elim (cases_lt u (length found.marks)) [
        | inl below ↦ omega (arith, is_found.count)
        | inr past ↦ absurd (both_ways (is_marked found u) (get_or_past found.marks u false past) marked)
      ]

  -- another node that is reached
  more_found : (u : ℕ) → u < length topology.nodes → is_marked found u ≡ false → IsReached topology start u
      → IsFound topology start (record { marks = set found.marks u true; nodes = found.nodes ++ u ∷ [] })
  more_found u below unmarked reached =
      let within : u < length found.marks = omega (arith, is_found.count) in
      record {
        count = length-set found.marks u true ∙ is_found.count;
        marked = λ w. (
          λ marked. elim (cases_eq w u) [
            | inl e ↦ subst (Contains (found.nodes ++ u ∷ [])) (sym e) (Contains-push found.nodes u)
            | inr other ↦
                Contains-append_left found.nodes (u ∷ []) w
                ((is_found.marked w).0 (sym (get_or-set_other found.marks u w true false other) ∙ marked))
          ],
          λ there. elim (cases_eq w u) [
            | inl e ↦ ap (λ i. get_or (set found.marks u true) i false) e ∙ get_or-set_same found.marks u true false within
            | inr other ↦ elim (Contains-push_cases found.nodes u w there) [
              | inl before ↦ get_or-set_other found.marks u w true false other ∙ (is_found.marked w).1 before
              | inr e ↦ absurd (other (sym e))
            ]
          ],
        );
        once =
            let less : count_by not (set found.marks u true) + cond (not (get_or found.marks u false)) 1 0 ≡ count_by not found.marks + 0 =
            sum_by-set (λ b. cond (not b) 1 0) found.marks u true false within in
            let one : ◌≡◌ {A = ℕ} (cond (not (get_or found.marks u false)) 1 0) 1 = rw unmarked refl in
            omega (arith, less, one, is_found.once, length-append found.nodes (u ∷ []));
        reached = λ w there. elim (Contains-push_cases found.nodes u w there) [
          | inl before ↦ is_found.reached w before
          | inr e ↦ subst (IsReached topology start) e reached
        ];
      }

  pub with_found-kept : (u : ℕ) → u < length topology.nodes → IsReached topology start u → IsFound topology start (with_found found u)
  with_found-kept u below reached =
      elim (cases_Bool (is_marked found u)) [
        | inl marked ↦
            subst (IsFound topology start)
            (sym (cond-true (is_marked found u) found (record { marks = set found.marks u true; nodes = found.nodes ++ u ∷ [] }) marked))
            is_found
        | inr unmarked ↦
            subst (IsFound topology start)
            (sym (cond-false (is_marked found u) found (record { marks = set found.marks u true; nodes = found.nodes ++ u ∷ [] }) unmarked))
            (more_found u below unmarked reached)
      ]

  -- where the nodes found lead only to such, they are all that are reached
  all_reached : (v u : ℕ) → IsReached topology v u → Contains found.nodes v
      → ((v s u : ℕ) → Contains found.nodes v → Leads topology s v u → Contains found.nodes u) → Contains found.nodes u
  all_reached v u here there closed = there
  all_reached v u (over s w leads rest) there closed = all_reached w u rest (closed v s w there leads) closed

  pub found_is_reached : Contains found.nodes start
      → ((v s u : ℕ) → Contains found.nodes v → Leads topology s v u → Contains found.nodes u)
      → (u : ℕ) → IsTrue (is_marked found u) ↔ IsReached topology start u
  found_is_reached first closed u = (
    λ marked. is_found.reached u ((is_found.marked u).0 marked),
    λ reached. (is_found.marked u).1 (all_reached start u reached first closed),
  )

-- the node itself is there then, behind those before
pub with_found-front : (found : FoundView) (u : ℕ) → (more : List ℕ) × ((with_found found u).nodes ≡ found.nodes ++ more)
with_found-front found u =
    elim (cases_Bool (is_marked found u)) [
      | inl marked ↦ ([], rw marked (sym (append-nil found.nodes)))
      | inr unmarked ↦ (u ∷ [], rw unmarked refl)
    ]

pub with_found-there : (topology : TopologyView) (start : ℕ) (found : FoundView) → IsFound topology start found → (u : ℕ)
    → Contains (with_found found u).nodes u
with_found-there topology start found is_found u =
    elim (cases_Bool (is_marked found u)) [
      | inl marked ↦ rw marked ((is_found.marked u).0 marked)
      | inr unmarked ↦ rw unmarked (Contains-push found.nodes u)
    ]

pub with_found-count : (found : FoundView) (u : ℕ) → length (with_found found u).marks ≡ length found.marks
with_found-count found u =
    elim (cases_Bool (is_marked found u)) [
      | inl marked ↦ rw marked refl
      | inr unmarked ↦ rw unmarked (length-set found.marks u true)
    ]

-- the list of the marked, rising
pub Contains-marked : (p : ℕ → Bool) (n : ℕ) → ((u : ℕ) → p u ≡ true → u < n) → (u : ℕ)
    → Contains (filter p (range_with_len 0 n)) u ↔ IsTrue (p u)
Contains-marked p n below u = (
  λ there. All-contains (λ w. p w ≡ true) (filter p (range_with_len 0 n)) u (filter_passes p (range_with_len 0 n)) there,
  λ passes. let within : u < n = below u passes in Contains-filter_range p 0 n u (omega arith) (omega arith) passes,
)

pub marked_rise : (p : ℕ → Bool) (n : ℕ) → IsStrictlyIncreasing (filter p (range_with_len 0 n))
marked_rise p n =
    IsStrictlyIncreasing-filter p (range_with_len 0 n)
    (λ k below.
    let first : k < n = omega (arith, length-range_with_len 0 n) in
    let next : k + 1 < n = omega (arith, length-range_with_len 0 n) in
    omega (arith, get_or-range_with_len 0 n k 0 first, get_or-range_with_len 0 n (k + 1) 0 next))

-- one more number is gone over
pub filter-more : (p : ℕ → Bool) (n : ℕ) → filter p (range_with_len 0 (n + 1)) ≡ filter p (range_with_len 0 n) ++ filter p (n ∷ [])
filter-more p n =
    ap (filter p) (range_with_len-more 0 n ∙ ap (λ m. range_with_len 0 n ++ m ∷ []) (zero-add n))
    ∙ filter-append p (range_with_len 0 n) (n ∷ [])

pub marked-more : {X : Type 0} (f : X → ℕ) (p : ℕ → Bool) (n : ℕ) (x : X) (old list : List X) → map f old ≡ filter p (range_with_len 0 n)
    → list ≡ old ++ x ∷ [] → f x ≡ n → p n ≡ true → map f list ≡ filter p (range_with_len 0 (n + 1))
marked-more f p n x old list before is same marked =
    let here : filter p (n ∷ []) ≡ n ∷ [] = rw marked refl in
    ap (map f) is ∙ (map-append f old (x ∷ []) ∙ (ap (λ l. l ++ f x ∷ []) before
    ∙ (ap (λ m. filter p (range_with_len 0 n) ++ m ∷ []) same ∙ (ap (λ l. filter p (range_with_len 0 n) ++ l) (sym here) ∙ sym (filter-more p n)))))

pub marked-skip : {X : Type 0} (f : X → ℕ) (p : ℕ → Bool) (n : ℕ) (old list : List X) → map f old ≡ filter p (range_with_len 0 n)
    → list ≡ old → p n ≡ false → map f list ≡ filter p (range_with_len 0 (n + 1))
marked-skip f p n old list before is unmarked =
    let here : filter p (n ∷ []) ≡ [] = rw unmarked refl in
    ap (map f) is ∙ (before ∙ (sym (append-nil (filter p (range_with_len 0 n)))
    ∙ (ap (λ l. filter p (range_with_len 0 n) ++ l) (sym here) ∙ sym (filter-more p n))))

-- the start is found first
pub found_first : {X : Type 0} (topology : TopologyView) (f : X → ℕ) (start n : ℕ) (marks : List Bool) (nodes : List X) (after : FoundView)
    → start < length topology.nodes → n ≡ length topology.nodes → marks ≡ replicate n false → nodes ≡ []
    → after ≡ with_found (record { marks = marks; nodes = map f nodes }) start
    → IsFound topology start after × Contains after.nodes start
found_first topology f start n marks nodes after within count unmarked none is =
    let empty : ◌≡◌ {A = FoundView} (record { marks = marks; nodes = map f nodes }) (record { marks = replicate n false; nodes = [] }) =
    ap (λ (m : List Bool). record { marks = m; nodes = map f nodes }) unmarked
    ∙ ap (λ l. record { marks = replicate n false; nodes = map f l }) none in
    let nothing : IsFound topology start (record { marks = marks; nodes = map f nodes }) =
    subst (IsFound topology start) (sym empty) (IsFound-none topology start n count) in (
      subst (IsFound topology start) (sym is)
          (with_found-kept topology start (record { marks = marks; nodes = map f nodes }) nothing start within here),
      subst (λ g. Contains g.nodes start) (sym is)
          (with_found-there topology start (record { marks = marks; nodes = map f nodes }) nothing start),
    )

-- the node at a place
pub place_seen : {X : Type 0} (f : X → ℕ) (xs : List X) (i : ℕ) (x : X) → x ≡ get_or xs i x → i < length xs
    → (f x ≡ get_or (map f xs) i 0) × Contains (map f xs) (f x) × (i < length (map f xs))
place_seen f xs i x at within =
    let lt : i < length (map f xs) = omega (arith, length-map xs f) in
    let e : f x ≡ get_or (map f xs) i 0 = ap f at ∙ sym (get_or-map f xs i x 0 within) in
    (e, subst (Contains (map f xs)) (sym e) (Contains-get_or (map f xs) i 0 lt), lt)

pub place_below : (topology : TopologyView) (start i : ℕ) (found : FoundView) → IsFound topology start found → i < length found.nodes
    → i < length topology.nodes
place_below topology start i found is_found within = omega (arith, is_found.once)

-- the nodes gone over lead to such that were found
abbrev pub IsClosed : TopologyView → ℕ → FoundView → Type 0
IsClosed topology n found =
    (k : ℕ) → k < n → (s u : ℕ) → Leads topology s (get_or found.nodes k 0) u → Contains found.nodes u

pub IsClosed-more : (topology : TopologyView) (start v i : ℕ) (old new : FoundView) → IsSpread topology v old new
    → IsReached topology start v → IsFound topology start old → i < length old.nodes → v ≡ get_or old.nodes i 0
    → IsClosed topology i old → IsClosed topology (i + 1) new
IsClosed-more topology start v i old new spread reached found within at closed k below s u leads =
    let (more, split) = spread.front in
    let same : get_or new.nodes k 0 ≡ get_or old.nodes k 0 =
    ap (λ l. get_or l k 0) split ∙ get_or_append_left old.nodes more 0 k (omega arith) in
    let from : Leads topology s (get_or old.nodes k 0) u = subst (λ x. Leads topology s x u) same leads in
    elim (cases_eq k i) [
      | inr other ↦
          subst (λ l. Contains l u) (sym split) (Contains-append_left old.nodes more u (closed k (omega arith) s u from))
      | inl e ↦
          let here_at : get_or old.nodes k 0 ≡ v = ap (λ j. get_or old.nodes j 0) e ∙ sym at in
          spread.ends start reached found s u (subst (λ x. Leads topology s x u) here_at from)
    ]

pub found_longer : (topology : TopologyView) (v i : ℕ) (old new : FoundView) → IsSpread topology v old new → i < length old.nodes
    → i + 1 ≤ length new.nodes
found_longer topology v i old new spread within =
    let (more, split) = spread.front in
    let longer : length new.nodes ≡ length (old.nodes ++ more) = ap length split in
    omega (arith, length-append old.nodes more)

pub found_still : (topology : TopologyView) (v u : ℕ) (old new : FoundView) → IsSpread topology v old new → Contains old.nodes u
    → Contains new.nodes u
found_still topology v u old new spread there =
    let (more, split) = spread.front in subst (λ l. Contains l u) (sym split) (Contains-append_left old.nodes more u there)

pub closed_all : (topology : TopologyView) (i : ℕ) (found : FoundView) → length found.nodes ≤ i → IsClosed topology i found
    → (v s u : ℕ) → Contains found.nodes v → Leads topology s v u → Contains found.nodes u
closed_all topology i found all closed v s u there leads =
    let (k, below, at) = there in
    let same : get_or found.nodes k 0 ≡ v = get_or_default found.nodes k 0 v below ∙ at in
    closed k (omega arith) s u (subst (λ x. Leads topology s x u) (sym same) leads)
