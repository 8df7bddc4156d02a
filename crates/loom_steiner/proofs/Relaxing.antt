use Rattle.std.proofs.Common.{List, ◌∷◌, ℕ, ◌+◌, ◌<◌, ◌≤◌, ◌≡◌, ◌≢◌, length, slice_index, inl, inr, refl, sym, subst, arith, ◌∙◌}
use Rattle.std.specs.List.{All, Contains}
use Rattle.std.specs.List.Sorted.{IsPermutation}
use Rattle.std.specs.declared.cmp.Reverse.{Reverse}
use Rattle.std.proofs.Math.ListN.{set, length-set}
use Rattle.std.proofs.lemmas.List.{get_or-set_same, get_or-set_other}
use Rattle.std.proofs.lemmas.List.Sorted.{Contains-permutation, All-permutation}
use Rattle.std.proofs.lemmas.List.Elements.{All-cons}
use Rattle.loom_steiner.specs.declared.worklist.Offer.{Offer}
use Rattle.loom_topology.specs.declared.ways.Way.{Way}
use Rattle.loom_topology.specs.Ways.{way_at, no_way, AreInRange}
use Rattle.loom_steiner.specs.Row.{ImprovesFrom, IsCapped, IsAttained, IsBoundedFrom}
use Rattle.loom_steiner.specs.Worklist.{KeepsWaiting, offer}
use Rattle.std.proofs.lemmas.Bool.{cases_eq}
use Rattle.loom_steiner.proofs.Rows.{lower-set, attained-set, bounded-set}

-- some of the ways from a node were tried
pub record Relaxes (from : List Way) (node cost done : ℕ) (row new : List ℕ) (waiting more : List (Reverse Offer)) : Type 0 where
  pub improves : ImprovesFrom node from row new
  pub own : slice_index new node ≡ cost
  pub settled : (k : ℕ) → k < done → slice_index new (way_at from k).to.0 ≤ cost + (way_at from k).price
  pub keeps : KeepsWaiting row new waiting more
  pub offers : All (λ o. o.0.node < length row) more

pub ImprovesFrom-refl : (node : ℕ) (from : List Way) (row : List ℕ) → ImprovesFrom node from row row
ImprovesFrom-refl node from row = record {
  len = refl;
  lower = λ v. omega arith;
  attained = λ topology cavities are_ways attained. attained;
  bounded = λ base bounded. bounded;
}

pub Contains-more : (x : Reverse Offer) (xs : List (Reverse Offer)) (y : Reverse Offer) → Contains xs y → Contains (x ∷ xs) y
Contains-more x xs y h = (h.0 + 1, omega arith, grind (arith, h.2))

pub Contains-here : (x : Reverse Offer) (xs : List (Reverse Offer)) → Contains (x ∷ xs) x
Contains-here x xs = (0, omega arith, refl)

-- a way that betters nothing changes nothing
pub Relaxes-keep : (from : List Way) (node cost k : ℕ) (row new : List ℕ) (waiting more : List (Reverse Offer))
    → slice_index new (way_at from k).to.0 ≤ cost + (way_at from k).price
    → Relaxes from node cost k row new waiting more → Relaxes from node cost (k + 1) row new waiting more
Relaxes-keep from node cost k row new waiting more better r = record {
  improves = r.improves;
  own = r.own;
  settled = λ j h. elim (cases_eq j k) [
    | inl e ↦ subst (λ (w : ℕ). slice_index new (way_at from w).to.0 ≤ cost + (way_at from w).price) (sym e) better
    | inr n ↦ r.settled j (omega arith)
  ];
  keeps = r.keeps;
  offers = r.offers;
}

keeps-push : (row new : List ℕ) (to through : ℕ) (waiting more pushed : List (Reverse Offer)) → to < length new
    → IsPermutation (offer through to ∷ more) pushed
    → KeepsWaiting row new waiting more → KeepsWaiting row (set new to through) waiting pushed
keeps-push row new to through waiting more pushed range permutation keeps =
    let after = set new to through in
    let here = get_or-set_same new to through 0 range in
    let push = λ (y : Reverse Offer) (h : Contains (offer through to ∷ more) y). Contains-permutation _ _ y permutation h in
    let own : Contains pushed (offer (slice_index after to) to) =
    subst (λ (m : ℕ). Contains pushed (offer m to)) (sym here) (push (offer through to) (Contains-here (offer through to) more)) in
    let others = λ (u : ℕ) (n : u ≢ to) (h : Contains more (offer (slice_index new u) u)).
    subst (λ (m : ℕ). Contains pushed (offer m u)) (sym (get_or-set_other new to u through 0 n))
    (push (offer (slice_index new u) u) (Contains-more (offer through to) more (offer (slice_index new u) u) h)) in
    record {
      fell = λ u. elim (cases_eq u to) [
        | inl e ↦ inr (subst (λ (w : ℕ). Contains pushed (offer (slice_index after w) w)) (sym e) own)
        | inr n ↦ elim (keeps.fell u) [
          | inl same ↦ inl (get_or-set_other new to u through 0 n ∙ same)
          | inr h ↦ inr (others u n h)
        ]
      ];
      waits = λ u h. elim (cases_eq u to) [
        | inl e ↦ subst (λ (w : ℕ). Contains pushed (offer (slice_index after w) w)) (sym e) own
        | inr n ↦ others u n (keeps.waits u h)
      ];
    }

-- a way that betters the number at its end lowers it and puts it on the worklist
pub Relaxes-push : (from : List Way) (node cost k : ℕ) (row new : List ℕ) (waiting more pushed : List (Reverse Offer))
    → node < length row → k < length from → AreInRange (length row) from → IsCapped row
    → cost + (way_at from k).price < slice_index new (way_at from k).to.0
    → IsPermutation (offer (cost + (way_at from k).price) (way_at from k).to.0 ∷ more) pushed
    → Relaxes from node cost k row new waiting more
    → Relaxes from node cost (k + 1) row (set new (way_at from k).to.0 (cost + (way_at from k).price)) waiting pushed
Relaxes-push from node cost k row new waiting more pushed node_range within ranges capped lower permutation r =
    let way = way_at from k in
    let through = cost + way.price in
    let after = set new way.to.0 through in
    let in_row : way.to.0 < length row = (ranges k no_way within).1 in
    let in_new : way.to.0 < length new = omega (arith, r.improves.len) in
    let cheap : way.price ≤ 1000000 = (ranges k no_way within).2 in
    let cap : IsCapped new = λ v. omega (arith, r.improves.lower v, capped v) in
    let fall = λ (v : ℕ). lower-set new way.to.0 through v in_new lower in
    let own : slice_index new node ≡ cost = r.own in
    let from_own : slice_index new node + way.price < slice_index new way.to.0 = omega arith in
    let same : slice_index new node + way.price ≡ through = omega arith in
    let node_new : node < length new = omega (arith, r.improves.len) in
    let other : node ≢ way.to.0 = λ e. (let f : slice_index new way.to.0 ≡ cost = subst (λ (w : ℕ). slice_index new w ≡ cost) e own in omega arith) in
    record {
      improves = record {
        len = length-set new way.to.0 through ∙ r.improves.len;
        lower = λ v. omega (arith, fall v, r.improves.lower v);
        attained = λ topology cavities are_ways attained.
            subst (λ (m : ℕ). IsAttained topology cavities (set new way.to.0 m)) same
            (attained-set topology cavities from new node k are_ways within node_new in_new from_own cap
            (r.improves.attained topology cavities are_ways attained));
        bounded = λ base bounded.
            subst (λ (m : ℕ). IsBoundedFrom base (set new way.to.0 m)) same
            (bounded-set base new node way.to.0 way.price node_new in_new cheap from_own (cap way.to.0) (r.improves.bounded base bounded));
      };
      own = get_or-set_other new way.to.0 node through 0 other ∙ own;
      settled = λ j h. elim (cases_eq j k) [
        | inl e ↦ subst (λ (w : ℕ). slice_index after (way_at from w).to.0 ≤ cost + (way_at from w).price) (sym e)
            (omega (arith, get_or-set_same new way.to.0 through 0 in_new))
        | inr n ↦ omega (arith, fall (way_at from j).to.0, r.settled j (omega arith))
      ];
      keeps = keeps-push row new way.to.0 through waiting more pushed in_new permutation r.keeps;
      offers = All-permutation (λ o. o.0.node < length row) _ _ permutation
          (All-cons (λ (o : Reverse Offer). o.0.node < length row) (offer through way.to.0) more in_row r.offers);
    }
