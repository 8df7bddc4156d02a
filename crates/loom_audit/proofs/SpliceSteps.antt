-- The names of splices, point by point.
use Rattle.std.proofs.Common.{◌≡◌, ◌≢◌, ℕ, zero, suc, ◌+◌, ◌<◌, ◌≤◌, max, inl, inr, Bool, true, false, cond, ◌&&◌, List, [], ◌∷◌, ◌++◌, length, get_or, replicate, refl, sym, ap, ◌∙◌, arith, eqb, leb}
use Rattle.std.proofs.Math.ListN.{set}
use mir.Val.{bool_byte}
use Rattle.std.proofs.lemmas.Bool.{cases_eq, cases_lt, cond-true, cond-false, eq-eqb, ne_eqb}
use Rattle.std.proofs.lemmas.List.{length-set, length-replicate, get_or-set_same, get_or-set_other, get_or-replicate, get_or_append_left, get_or_push, get_or_read, length_push}
use Rattle.loom_topology.specs.Topology.{TopologyView, Segment, IsSound, segment_at, no_segment}
use Rattle.loom_topology.specs.WiringTree.{Tree, IsWiringTree, step_at, place_of, other_end}
use Rattle.loom_topology.specs.TreeCost.{degree_of}
use Rattle.loom_topology.proofs.Places.{place-suc, open_below}
use Rattle.loom_types.specs.declared.wire.End.{End}
use Rattle.loom_types.specs.declared.wire.End.TheVariants.{Splice}
use Rattle.loom_types.specs.LayoutWires.{is_splice, splices_through, splice_of}
use Rattle.loom_audit.specs.Degrees.{AreDegrees}
use Rattle.loom_audit.specs.Threads.{AreSplices}

-- 1 for a splice at the node
abbrev pub counts_at : TopologyView → ℕ → Tree → ℕ → ℕ → ℕ
counts_at topology v tree node point = cond (is_splice tree point && eqb (place_of topology v tree point) node) 1 0

-- how many splices there are at the node before the point
abbrev pub splices_before : TopologyView → ℕ → Tree → ℕ → ℕ → ℕ
splices_before topology v tree node zero = 0
splices_before topology v tree node (suc k) = splices_through topology v tree node k

through-more : (topology : TopologyView) (v : ℕ) (tree : Tree) (node k : ℕ)
    → splices_through topology v tree node k ≡ splices_before topology v tree node k + counts_at topology v tree node k
through-more topology v tree node zero = omega arith
through-more topology v tree node (suc k) = refl

-- ---- there are at most as many splices at a node as steps, since a step leads to another node

counts_at-le : (topology : TopologyView) (v : ℕ) (tree : Tree) (node k : ℕ) → counts_at topology v tree node k ≤ 1
counts_at-le topology v tree node k = small (is_splice tree k && eqb (place_of topology v tree k) node)
  where
    small : (b : Bool) → cond b 1 0 ≤ 1
    small true = omega arith
    small false = omega arith

other_end-apart : (g : Segment) (u : ℕ) → g.from ≢ g.to → other_end g u ≢ u
other_end-apart g u apart e =
    elim (cases_eq g.from u) [
      | inl same ↦ apart (same ∙ (sym e ∙ cond-true (eqb g.from u) g.to g.from (eq-eqb g.from u same)))
      | inr other ↦ other (sym (cond-false (eqb g.from u) g.to g.from (ne_eqb g.from u other)) ∙ e)
    ]

and-false : (b : Bool) → (b && false) ≡ false
and-false true = refl
and-false false = refl

counts_elsewhere : (topology : TopologyView) (v : ℕ) (tree : Tree) (node k : ℕ) → place_of topology v tree k ≢ node → counts_at topology v tree node k ≡ 0
counts_elsewhere topology v tree node k other =
    ap (λ b. cond (is_splice tree k && b) 1 0) (ne_eqb (place_of topology v tree k) node other)
    ∙ ap (λ b. cond b 1 0) (and-false (is_splice tree k))

module _ (topology : TopologyView) (sound : IsSound topology) (cavities : List ℕ) (v : ℕ) (tree : Tree) (is_tree : IsWiringTree topology cavities v tree) where
  first_two : (node : ℕ) → 1 ≤ length tree.steps → counts_at topology v tree node 0 + counts_at topology v tree node 1 ≤ 1
  first_two node some =
      let parent : (step_at tree 0).parent ≤ 0 = is_tree.parent 0 (omega arith) in
      let parent_is : (step_at tree 0).parent ≡ 0 = omega arith in
      let s = (step_at tree 0).segment in
      let there : s < length topology.segments = open_below topology s (is_tree.is_open 0 (omega arith)) in
      let second : place_of topology v tree 1 ≡ other_end (segment_at topology s) (place_of topology v tree 0) =
      place-suc topology v tree 0 (omega arith) parent
      ∙ ap (λ (k : ℕ). other_end (segment_at topology s) (place_of topology v tree k)) parent_is in
      let apart : place_of topology v tree 1 ≢ place_of topology v tree 0 =
      λ e. other_end-apart (segment_at topology s) (place_of topology v tree 0) (sound.segments s no_segment there).apart (sym second ∙ e) in
      elim (cases_eq (place_of topology v tree 0) node) [
        | inr other ↦ omega (arith, counts_elsewhere topology v tree node 0 other, counts_at-le topology v tree node 1)
        | inl same ↦
            omega (arith, counts_elsewhere topology v tree node 1 (λ e. apart (e ∙ sym same)), counts_at-le topology v tree node 0)
      ]

  pub few_splices : (node k : ℕ) → k ≤ length tree.steps → splices_through topology v tree node k ≤ max 1 k
  few_splices node zero within = omega (arith, counts_at-le topology v tree node 0)
  few_splices node (suc zero) within = omega (arith, first_two node (omega arith))
  few_splices node (suc (suc k)) within =
      omega (arith, few_splices node (suc k) (omega arith), counts_at-le topology v tree node (suc (suc k)))

-- ---- the names

-- what is so after k points
pub record AreNamed (topology : TopologyView) (v : ℕ) (tree : Tree) (ordinals : List ℕ) (splices : List End) (k : ℕ) : Type 0 where
  pub nodes : length ordinals ≡ length topology.nodes
  pub counts : (node : ℕ) → node < length ordinals → get_or ordinals node 0 ≡ splices_before topology v tree node k
  pub count : length splices ≡ k
  pub named : AreSplices (splice_of topology v tree) splices

pub named_first : (topology : TopologyView) (v : ℕ) (tree : Tree) (ordinals : List ℕ) (splices : List End)
    → ordinals ≡ replicate (length topology.nodes) 0 → splices ≡ [] → AreNamed topology v tree ordinals splices 0
named_first topology v tree ordinals splices e none =
    let long : length ordinals ≡ length topology.nodes = ap length e ∙ length-replicate (length topology.nodes) 0 in
    let empty : length splices ≡ 0 = ap length none in
    record {
      nodes = long;
      counts = λ node within. ap (λ (l : List ℕ). get_or l node 0) e ∙ get_or-replicate (length topology.nodes) node 0 0 (omega arith);
      count = empty;
      named = λ point none' below. absurd (omega arith);
    }

module _ (topology : TopologyView) (v : ℕ) (tree : Tree) (ordinals : List ℕ) (splices : List End) (k : ℕ)
    (named : AreNamed topology v tree ordinals splices k) (node : ℕ) (at : node ≡ place_of topology v tree k) (there : node < length topology.nodes) where
  pub ordinal_is : (ordinal : ℕ) → ordinal ≡ get_or ordinals node 0 + cond (is_splice tree k) 1 0
      → ordinal ≡ splices_through topology v tree node k
  ordinal_is ordinal e =
      let here : counts_at topology v tree node k ≡ cond (is_splice tree k) 1 0 =
      ap (λ b. cond (is_splice tree k && b) 1 0) (eq-eqb (place_of topology v tree k) node (sym at))
      ∙ ap (λ b. cond b 1 0) (and-true (is_splice tree k)) in
      omega (arith, e, named.counts node (omega (arith, named.nodes, there)), through-more topology v tree node k, here)
    where
      and-true : (b : Bool) → (b && true) ≡ b
      and-true true = refl
      and-true false = refl

  pub named_more : (ordinal : ℕ) → ordinal ≡ get_or ordinals node 0 + cond (is_splice tree k) 1 0
      → (after : List ℕ) → after ≡ set ordinals node ordinal
      → (end : End) → end ≡ Splice (record { 0 = node }) ordinal
      → (longer : List End) → longer ≡ splices ++ end ∷ []
      → AreNamed topology v tree after longer (k + 1)
  named_more ordinal e after put end is longer pushed =
      let total : ordinal ≡ splices_through topology v tree node k = ordinal_is ordinal e in
      let long : length after ≡ length ordinals = ap length put ∙ length-set ordinals node ordinal in
      let one : k + 1 ≡ suc k = omega arith in
      let count_is : length longer ≡ k + 1 = ap length pushed ∙ (length_push splices end ∙ ap (λ n. n + 1) named.count) in
      let name : end ≡ splice_of topology v tree k =
      is
      ∙ (ap (Splice (record { 0 = node })) total
      ∙ ap (λ (u : ℕ). Splice (record { 0 = u }) (splices_through topology v tree u k)) at) in
      record {
        nodes = long ∙ named.nodes;
        counts = λ other within.
            ap (λ (l : List ℕ). get_or l other 0) put
            ∙ (elim (cases_eq other node) as (λ _. get_or (set ordinals node ordinal) other 0 ≡ splices_through topology v tree other k) [
              | inl same ↦
                  ap (λ (u : ℕ). get_or (set ordinals node ordinal) u 0) same
                  ∙ (get_or-set_same ordinals node ordinal 0 (omega (arith, named.nodes, there))
                  ∙ (total ∙ ap (λ (u : ℕ). splices_through topology v tree u k) (sym same)))
              | inr apart ↦
                  get_or-set_other ordinals node other ordinal 0 apart
                  ∙ (named.counts other (omega (arith, long, within))
                  ∙ omega (
                    arith,
                    through-more topology v tree other k,
                    counts_elsewhere topology v tree other k (λ same. apart (sym same ∙ sym at)),
                  ))
            ]
            ∙ ap (splices_before topology v tree other) (sym one));
        count = count_is;
        named = λ point none below.
            ap (λ (l : List End). get_or l point none) pushed
            ∙ elim (cases_lt point k) as (λ _. get_or (splices ++ end ∷ []) point none ≡ splice_of topology v tree point) [
              | inl before ↦
                  get_or_append_left splices (end ∷ []) none point (omega (arith, named.count, before))
                  ∙ named.named point none (omega (arith, named.count, before))
              | inr from ↦
                  let last : k ≡ point = omega (arith, from, below, count_is) in
                  get_or_push splices end none point (named.count ∙ last) ∙ (name ∙ ap (splice_of topology v tree) last)
            ];
      }

-- the test on the degree is that of a splice
is_splice_by_degree : (tree : Tree) (k degree : ℕ) → degree ≡ degree_of tree k → leb 3 degree ≡ is_splice tree k
is_splice_by_degree tree k degree e = ap (leb 3) e

byte_is : (b : Bool) → bool_byte b ≡ cond b 1 0
byte_is true = refl
byte_is false = refl

-- the next ordinal, as it is read and added
pub ordinal_read : (tree : Tree) (k : ℕ) (degrees : List ℕ) → AreDegrees tree degrees → k < length degrees
    → (things : ℕ) → things ≡ get_or degrees k things
    → (ordinals : List ℕ) (node old more : ℕ) → node < length ordinals → old ≡ get_or ordinals node old → more ≡ bool_byte (leb 3 things)
    → old + more ≡ get_or ordinals node 0 + cond (is_splice tree k) 1 0
ordinal_read tree k degrees are within things at ordinals node old more there old_at more_is =
    let first : things ≡ get_or degrees k 0 = get_or_read degrees k things within at 0 in
    let test : leb 3 things ≡ is_splice tree k = is_splice_by_degree tree k things (first ∙ are.each k within) in
    let second : old ≡ get_or ordinals node 0 = get_or_read ordinals node old there old_at 0 in
    let third : more ≡ cond (is_splice tree k) 1 0 = more_is ∙ (byte_is (leb 3 things) ∙ ap (λ b. cond b 1 0) test) in
    omega arith
