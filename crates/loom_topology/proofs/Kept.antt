-- What is kept inside a topology is kept by each change.
use Rattle.std.proofs.Common.{◌≡◌, ◌≢◌, ◌<◌, ◌≤◌, ◌+◌, ◌&&◌, ◌||◌, inl, inr, [], ◌∷◌, ◌++◌, length, map, get_or, ℕ, List, Bool, true, false, cond, eqb, not, sym, ap, ◌∙◌, refl, arith, subst, replicate, take}
use Rattle.std.specs.List.{All}
use Rattle.std.proofs.Math.Bool.{and-false, or-true}
use Rattle.std.proofs.Math.Seq.{get_or-append_seam}
use Rattle.std.proofs.lemmas.Bool.{cases_lt, cases_eq, eq-eqb, ne_eqb}
use Rattle.std.proofs.lemmas.List.{length-append, length-set, get_or_append_left, get_or-set_same, get_or-set_other, append-nil, length-replicate, get_or-replicate, take_more, map-append, length-map, length-take}
use Rattle.std.proofs.lemmas.List.Elements.{All-push, All-weaker}
use Rattle.loom_topology.specs.Topology.{TopologyView, Node, Segment, no_node, no_segment, harness_at, KeepsBorder, is_open_to, open_among, IsSoundSegment, with_node, with_cavity, with_segment, open_segment, shut_in, shut_among}
use Rattle.loom_topology.specs.TopologyInside.{IsIndexed, IsKept}
use Rattle.loom_topology.specs.Incidence.{list_at, with_at}
use Rattle.loom_topology.specs.declared.kind.Kind.{Kind}
use Rattle.loom_topology.proofs.ShutSegments.{IsSound-shut_in}
use Rattle.loom_topology.proofs.OpenSegments.{open_among-push, open_among-none}

-- a segment that joins nodes below n still does where there are more nodes
more_nodes : (n : ℕ) (g : Segment) → IsSoundSegment n g → IsSoundSegment (n + 1) g
more_nodes n g h = record {
  from_below = omega (arith, h.from_below);
  to_below = omega (arith, h.to_below);
  apart = h.apart;
  price_from = h.price_from;
  price_to = h.price_to;
}

opens_from : (g : Segment) (v : ℕ) → g.is_open ≡ true → v ≡ g.from → is_open_to g v ≡ true
opens_from g v is_open e =
    ap (λ b. b && (eqb g.from v || eqb g.to v)) is_open ∙ ap (λ b. b || eqb g.to v) (eq-eqb g.from v (sym e))

opens_to : (g : Segment) (v : ℕ) → g.is_open ≡ true → v ≡ g.to → is_open_to g v ≡ true
opens_to g v is_open e =
    ap (λ b. b && (eqb g.from v || eqb g.to v)) is_open
    ∙ ap (λ b. eqb g.from v || b) (eq-eqb g.to v (sym e))
    ∙ or-true (eqb g.from v)

no_end_at : (g : Segment) (v : ℕ) → v ≢ g.from → v ≢ g.to → is_open_to g v ≡ false
no_end_at g v not_from not_to =
    ap (λ b. g.is_open && (b || eqb g.to v)) (ne_eqb g.from v (λ e. not_from (sym e)))
    ∙ ap (λ b. g.is_open && b) (ne_eqb g.to v (λ e. not_to (sym e)))
    ∙ and-false g.is_open

-- no segment ends at a node past the last
no_end_past : (n : ℕ) (g : Segment) (v : ℕ) → IsSoundSegment n g → n ≤ v → is_open_to g v ≡ false
no_end_past n g v h past =
    no_end_at g v (λ e. omega (arith, h.from_below, e)) (λ e. omega (arith, h.to_below, e))

-- a further node has no segments
pub IsIndexed-more_nodes : (incidence : List (List ℕ)) (n : ℕ) (segments : List Segment) → All (IsSoundSegment n) segments → IsIndexed incidence n segments → IsIndexed (incidence ++ [] ∷ []) (n + 1) segments
IsIndexed-more_nodes incidence n segments sound indexed = record {
  count = omega (arith, length-append incidence ([] ∷ []), indexed.count);
  lists = λ v below. elim (cases_lt v n) [
    | inl lt ↦ get_or_append_left incidence ([] ∷ []) [] v (omega (arith, indexed.count)) ∙ indexed.lists v lt
    | inr ge ↦
        let last : v ≡ length incidence = omega (arith, indexed.count) in
        ap (λ k. get_or (incidence ++ [] ∷ []) k []) last
        ∙ get_or-append_seam incidence [] [] []
        ∙ sym (open_among-none segments v (λ s lt. no_end_past n (get_or segments s no_segment) v (sound s no_segment lt) ge))
  ];
}

-- the border rule stays where a node is added
more_nodes_border : (topology : TopologyView) (harness branch : ℕ) (g : Segment) → IsSoundSegment (length topology.nodes) g → KeepsBorder topology g → KeepsBorder (with_node topology harness branch) g
more_nodes_border topology harness branch g sound border =
    let added : List Node = (record { harness = harness; branch = branch }) ∷ [] in
    let from : harness_at (with_node topology harness branch) g.from ≡ harness_at topology g.from =
    ap (λ (node : Node). node.harness) (get_or_append_left topology.nodes added no_node g.from sound.from_below) in
    let to : harness_at (with_node topology harness branch) g.to ≡ harness_at topology g.to =
    ap (λ (node : Node). node.harness) (get_or_append_left topology.nodes added no_node g.to sound.to_below) in
    border
    ∙ ap (λ a. not (eqb a (harness_at topology g.to))) (sym from)
    ∙ ap (λ b. not (eqb (harness_at (with_node topology harness branch) g.from) b)) (sym to)

pub IsKept-with_node : (old new : TopologyView) (before after : List (List ℕ)) (harness branch : ℕ) → IsKept old before → new ≡ with_node old harness branch → after ≡ before ++ [] ∷ [] → branch ≤ 1000000 → length old.nodes < 1024 → IsKept new after
IsKept-with_node old new before after harness branch kept e f low few =
    let n : length (with_node old harness branch).nodes ≡ length old.nodes + 1 =
    omega (arith, length-append old.nodes ((record { harness = harness; branch = branch }) ∷ [])) in
    let P : ℕ → Type 0 = λ m. All (IsSoundSegment m) old.segments in
    let Q : ℕ → Type 0 = λ m. All (λ v. v < m) old.cavities in
    let R : ℕ → Type 0 = λ m. IsIndexed (before ++ [] ∷ []) m old.segments in
    let K : TopologyView → Type 0 = λ t. IsKept t after in
    let L : List (List ℕ) → Type 0 = λ a. IsKept (with_node old harness branch) a in
    subst K (sym e) (subst L (sym f) (record {
      sound = record {
        segments = subst P (sym n) (All-weaker (IsSoundSegment (length old.nodes)) (IsSoundSegment (length old.nodes + 1)) (more_nodes (length old.nodes)) old.segments kept.sound.segments);
        borders = λ k d lt.
            more_nodes_border old harness branch (get_or old.segments k d) (kept.sound.segments k d lt) (kept.sound.borders k d lt);
        cavities = subst Q (sym n) (λ k d lt. omega (arith, kept.sound.cavities k d lt));
        branches = All-push (λ node. node.branch ≤ 1000000) old.nodes _ kept.sound.branches low;
        few_nodes = omega (arith, n);
        few_segments = kept.sound.few_segments;
        few_cavities = kept.sound.few_cavities;
      };
      indexed = subst R (sym n) (IsIndexed-more_nodes before (length old.nodes) old.segments kept.sound.segments kept.indexed);
    }))

pub IsKept-with_cavity : (old new : TopologyView) (incidence : List (List ℕ)) (v : ℕ) → IsKept old incidence → new ≡ with_cavity old v → v < length old.nodes → length old.cavities < 8192 → IsKept new incidence
IsKept-with_cavity old new incidence v kept e below few =
    let n : length (with_cavity old v).cavities ≡ length old.cavities + 1 = omega (arith, length-append old.cavities (v ∷ [])) in
    let K : TopologyView → Type 0 = λ t. IsKept t incidence in
    subst K (sym e) (record {
      sound = record {
        segments = kept.sound.segments;
        borders = kept.sound.borders;
        cavities = All-push (λ u. u < length old.nodes) old.cavities v kept.sound.cavities below;
        branches = kept.sound.branches;
        few_nodes = kept.sound.few_nodes;
        few_segments = kept.sound.few_segments;
        few_cavities = omega (arith, n);
      };
      indexed = kept.indexed;
    })

with_at-length : (incidence : List (List ℕ)) (v s : ℕ) → length (with_at incidence v s) ≡ length incidence
with_at-length incidence v s = length-set incidence v _

-- an open segment adds its number at both ends
pub IsIndexed-push_open : (incidence : List (List ℕ)) (n : ℕ) (segments : List Segment) (g : Segment) → IsSoundSegment n g → g.is_open ≡ true → IsIndexed incidence n segments → IsIndexed (with_at (with_at incidence g.from (length segments)) g.to (length segments)) n (segments ++ g ∷ [])
IsIndexed-push_open incidence n segments g h is_open indexed =
    let s = length segments in
    let one = with_at incidence g.from s in
    let long_one : length one ≡ n = with_at-length incidence g.from s ∙ indexed.count in
    let apart : g.to ≢ g.from = λ e. h.apart (sym e) in
    let at_to : list_at one g.to ≡ list_at incidence g.to = get_or-set_other incidence g.from g.to _ [] apart in
    let pushed : (v : ℕ) (b : Bool) → is_open_to g v ≡ b → open_among (segments ++ g ∷ []) v ≡ open_among segments v ++ cond b (s ∷ []) [] =
    λ v b e. open_among-push segments g v ∙ ap (λ t. open_among segments v ++ cond t (s ∷ []) []) e in
    record {
      count = with_at-length one g.to s ∙ long_one;
      lists = λ v below. elim (cases_eq v g.to) [
        | inl e ↦
            ap (λ u. list_at (with_at one g.to s) u) e
            ∙ get_or-set_same one g.to _ [] (omega (arith, h.to_below, long_one))
            ∙ ap (λ l. l ++ s ∷ []) (at_to ∙ ap (list_at incidence) (sym e) ∙ indexed.lists v below)
            ∙ sym (pushed v true (opens_to g v is_open e))
        | inr not_to ↦ elim (cases_eq v g.from) [
          | inl e ↦
              get_or-set_other one g.to v _ [] not_to
              ∙ ap (list_at one) e
              ∙ get_or-set_same incidence g.from _ [] (omega (arith, h.from_below, indexed.count))
              ∙ ap (λ l. l ++ s ∷ []) (ap (list_at incidence) (sym e) ∙ indexed.lists v below)
              ∙ sym (pushed v true (opens_from g v is_open e))
          | inr not_from ↦
              get_or-set_other one g.to v _ [] not_to
              ∙ get_or-set_other incidence g.from v _ [] not_from
              ∙ indexed.lists v below
              ∙ sym (pushed v false (no_end_at g v not_from not_to) ∙ append-nil (open_among segments v))
        ]
      ];
    }

pub IsKept-with_segment : (old new : TopologyView) (before after : List (List ℕ)) (from to : ℕ) (kind : Kind) (s : ℕ) → IsKept old before → new ≡ with_segment old from to kind → after ≡ with_at (with_at before from s) to s → s ≡ length old.segments → IsSoundSegment (length old.nodes) (open_segment from to kind) → KeepsBorder old (open_segment from to kind) → length old.segments < 4096 → IsKept new after
IsKept-with_segment old new before after from to kind s kept e f number sound border few =
    let g = open_segment from to kind in
    let n : length (old.segments ++ g ∷ []) ≡ length old.segments + 1 = omega (arith, length-append old.segments (g ∷ [])) in
    let K : TopologyView → Type 0 = λ t. IsKept t after in
    let L : List (List ℕ) → Type 0 = λ a. IsKept (with_segment old from to kind) a in
    let M : ℕ → Type 0 = λ k. IsKept (with_segment old from to kind) (with_at (with_at before from k) to k) in
    subst K (sym e) (subst L (sym f) (subst M (sym number) (record {
      sound = record {
        segments = All-push (IsSoundSegment (length old.nodes)) old.segments g kept.sound.segments sound;
        borders = All-push (KeepsBorder old) old.segments g kept.sound.borders border;
        cavities = kept.sound.cavities;
        branches = kept.sound.branches;
        few_nodes = kept.sound.few_nodes;
        few_segments = omega (arith, n);
        few_cavities = kept.sound.few_cavities;
      };
      indexed = IsIndexed-push_open before (length old.nodes) old.segments g sound refl kept.indexed;
    })))

-- a shut segment adds nothing
pub IsIndexed-push_shut : (incidence : List (List ℕ)) (n : ℕ) (segments : List Segment) (g : Segment) → g.is_open ≡ false → IsIndexed incidence n segments → IsIndexed incidence n (segments ++ g ∷ [])
IsIndexed-push_shut incidence n segments g is_shut indexed = record {
  count = indexed.count;
  lists = λ v below.
      let none : is_open_to g v ≡ false = ap (λ b. b && (eqb g.from v || eqb g.to v)) is_shut in
      indexed.lists v below
      ∙ sym (open_among-push segments g v
      ∙ ap (λ t. open_among segments v ++ cond t (length segments ∷ []) []) none
      ∙ append-nil (open_among segments v));
}

-- lists without numbers are those of no segment
pub IsIndexed-none : (n : ℕ) → IsIndexed (replicate n []) n []
IsIndexed-none n = record {
  count = length-replicate n [];
  lists = λ v below. get_or-replicate n v [] [] below ∙ sym (open_among-none [] v (λ s lt. absurd (omega arith)));
}

-- the segments up to the i-th, and one more
map-take_more : {X : Type 0} (f : X → Segment) (links : List X) (i : ℕ) (link : X) → i < length links → link ≡ get_or links i link → map f (take (i + 1) links) ≡ map f (take i links) ++ f link ∷ []
map-take_more f links i link within at =
    ap (map f) (take_more links i link within)
    ∙ map-append f (take i links) (get_or links i link ∷ [])
    ∙ ap (λ x. map f (take i links) ++ f x ∷ []) (sym at)

pub IsIndexed-more_open : {X : Type 0} (f : X → Segment) (links : List X) (i : ℕ) (link : X) (n : ℕ) (before after : List (List ℕ)) → i < length links → link ≡ get_or links i link → IsSoundSegment n (f link) → (f link).is_open ≡ true → IsIndexed before n (map f (take i links)) → after ≡ with_at (with_at before (f link).from i) (f link).to i → IsIndexed after n (map f (take (i + 1) links))
IsIndexed-more_open f links i link n before after within at sound is_open indexed e =
    let number : length (map f (take i links)) ≡ i = omega (arith, length-map (take i links) f, length-take i links) in
    let K : List Segment → Type 0 = λ segments. IsIndexed after n segments in
    let L : List (List ℕ) → Type 0 = λ lists. IsIndexed lists n (map f (take i links) ++ f link ∷ []) in
    let M : ℕ → Type 0 = λ k. IsIndexed (with_at (with_at before (f link).from k) (f link).to k) n (map f (take i links) ++ f link ∷ []) in
    subst K (sym (map-take_more f links i link within at)) (subst L (sym e) (subst M number
    (IsIndexed-push_open before n (map f (take i links)) (f link) sound is_open indexed)))

pub IsIndexed-more_shut : {X : Type 0} (f : X → Segment) (links : List X) (i : ℕ) (link : X) (n : ℕ) (before after : List (List ℕ)) → i < length links → link ≡ get_or links i link → (f link).is_open ≡ false → IsIndexed before n (map f (take i links)) → after ≡ before → IsIndexed after n (map f (take (i + 1) links))
IsIndexed-more_shut f links i link n before after within at is_shut indexed e =
    let K : List Segment → Type 0 = λ segments. IsIndexed after n segments in
    let L : List (List ℕ) → Type 0 = λ lists. IsIndexed lists n (map f (take i links) ++ f link ∷ []) in
    subst K (sym (map-take_more f links i link within at)) (subst L (sym e)
    (IsIndexed-push_shut before n (map f (take i links)) (f link) is_shut indexed))

pub IsKept-shut_in : (old new : TopologyView) (before after : List (List ℕ)) (list : List ℕ) → IsKept old before → new ≡ shut_in old list → IsIndexed after (length old.nodes) (shut_among old.segments list) → IsKept new after
IsKept-shut_in old new before after list kept e indexed =
    let K : TopologyView → Type 0 = λ t. IsKept t after in
    subst K (sym e) (record { sound = IsSound-shut_in old list kept.sound; indexed = indexed })
