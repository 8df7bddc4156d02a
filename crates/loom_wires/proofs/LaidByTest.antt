-- A set whose layout passes the test is laid; and what a fold over a list does from one place to the next.
use Rattle.std.proofs.Common.{◌≡◌, ℕ, zero, suc, ◌+◌, ◌<◌, ◌≤◌, ◌⊎◌, inl, inr, Bool, true, IsTrue, leb, List, [], ◌∷◌, length, map, drop, get_or, sym, ap, subst, ◌∙◌, arith, add-one}
use Rattle.std.specs.List.{All, AllZip, fold}
use Rattle.std.proofs.lemmas.Bool.{and_parts, or_cases, eqb-true, leb-true, cases_eq}
use Rattle.std.proofs.lemmas.List.{length-map, get_or-map}
use Rattle.std.proofs.lemmas.List.Elements.{All-nil, All-cons}
use Rattle.std.proofs.Math.ListN.{drop_of_length-le}
use Rattle.std.proofs.Math.Seq.{drop-cons}
use Rattle.loom_topology.specs.Topology.{TopologyView, segment_at, node_of}
use Rattle.loom_topology.specs.WiringTree.{Tree, step_at, place_of}
use Rattle.loom_topology.specs.TreeCost.{degree_of}
use Rattle.loom_types.specs.LayoutTree.{step_of, tree_of}
use Rattle.loom_rows.specs.Table.{Table, Has}
use Rattle.loom_types.specs.declared.plan.PinLine.{PinLine}
use Rattle.loom_types.specs.declared.wire.End.{End}
use Rattle.loom_types.specs.declared.wire.End.TheVariants.{Cavity}
use Rattle.loom_types.specs.declared.wire.Wire.{Wire}
use Rattle.loom_types.specs.Routes.{IsEndInRange}
use Rattle.loom_wires.specs.declared.cut_wire.CutWire.{CutWire}
use Rattle.loom_wires.specs.declared.laid_set.LaidSet.{LaidSet}
use Rattle.loom_wires.specs.Wires.{numbers_of, first_of, others_of, IsLaid, AreCut}
use Rattle.loom_wires.specs.Built.{all_below, is_step, are_hung, are_cavities, is_laid, built}

pub fold-drop : {X : Type 0} (f : TopologyView → X → TopologyView) (t : TopologyView) (xs : List X) (k : ℕ) (d : X) → k < length xs → fold f t (drop k xs) ≡ fold f (f t (get_or xs k d)) (drop (k + 1) xs)
fold-drop f t xs k d lt = ap (fold f t) (drop-cons xs k d lt) ∙ ap (λ n. fold f (f t (get_or xs k d)) (drop n xs)) (sym (add-one k))

pub fold-end : {X : Type 0} (f : TopologyView → X → TopologyView) (t : TopologyView) (xs : List X) (k : ℕ) → length xs ≤ k → fold f t (drop k xs) ≡ t
fold-end f t xs k past = ap (fold f t) (drop_of_length-le xs past)

below_by_test : (test : ℕ → Bool) (n k : ℕ) → all_below test n ≡ true → k < n → test k ≡ true
below_by_test test zero k passes lt = absurd (omega (arith, lt))
below_by_test test (suc n) k passes lt =
    let parts = and_parts (test n) (all_below test n) passes in
    elim (cases_eq k n) [
      | inl same ↦ ap test same ∙ parts.0
      | inr other ↦ below_by_test test n k parts.1 (omega arith)
    ]

hung_by_test : (topology : TopologyView) (v : ℕ) (tree : Tree) (cavities hangs : List ℕ) → are_hung topology v tree cavities hangs ≡ true
    → AllZip (λ c point. (point ≤ length tree.steps) × (place_of topology v tree point ≡ node_of topology c)) cavities hangs
hung_by_test topology v tree [] [] passes = tt
hung_by_test topology v tree [] (h ∷ hangs) passes = absurd (cc)
hung_by_test topology v tree (c ∷ cavities) [] passes = absurd (cc)
hung_by_test topology v tree (c ∷ cavities) (h ∷ hangs) passes =
    let parts = and_parts _ (are_hung topology v tree cavities hangs) passes in
    let here = and_parts _ _ parts.0 in
    ((leb-true h (length tree.steps) here.0, eqb-true (place_of topology v tree h) (node_of topology c) here.1), hung_by_test topology v tree cavities hangs parts.1)

in_range_by_test : (topology : TopologyView) (cavities : List ℕ) → are_cavities topology cavities ≡ true → All (λ c. c < length topology.cavities) cavities
in_range_by_test topology [] passes = All-nil (λ c. c < length topology.cavities)
in_range_by_test topology (c ∷ cavities) passes =
    let parts = and_parts _ (are_cavities topology cavities) passes in
    let low = leb-true (c + 1) (length topology.cavities) parts.0 in
    All-cons (λ n. n < length topology.cavities) c cavities (omega arith) (in_range_by_test topology cavities parts.1)

step_by_test : (topology : TopologyView) (v : ℕ) (tree : Tree) (k : ℕ) → is_step topology v tree k ≡ true
    → ((step_at tree k).parent ≤ k)
    × IsTrue (segment_at topology (step_at tree k).segment).is_open
    × (((segment_at topology (step_at tree k).segment).from ≡ place_of topology v tree (step_at tree k).parent)
    ⊎ ((segment_at topology (step_at tree k).segment).to ≡ place_of topology v tree (step_at tree k).parent))
step_by_test topology v tree k passes =
    let parts = and_parts _ _ passes in
    let last = and_parts _ _ parts.1 in (
      leb-true (step_at tree k).parent k parts.0,
      last.0,
      elim (or_cases _ _ last.1) [ inl e ↦ inl (eqb-true _ _ e) | inr e ↦ inr (eqb-true _ _ e) ],
    )

pub laid_by_test : (topology : TopologyView) (set : LaidSet) → is_laid topology set ≡ true → IsLaid topology set
laid_by_test topology set passes =
    let v = node_of topology (first_of set) in
    let tree = tree_of set.layout in
    let whole = and_parts _ _ passes in
    let first = and_parts _ _ whole.0 in
    let last = and_parts _ _ whole.1 in
    let middle = and_parts _ _ last.0 in
    let step = λ (k : ℕ) (lt : k < length tree.steps). step_by_test topology v tree k (below_by_test (is_step topology v tree) (length tree.steps) k middle.0 lt) in
    let long = length-map set.layout.steps step_of in
    record {
      some = let low = leb-true 1 (length set.cavities) first.0 in omega arith;
      in_range = in_range_by_test topology (numbers_of set) first.1;
      tree = record {
        parent = λ k lt. (step k lt).0;
        is_open = λ k lt. (step k lt).1;
        begins = λ k lt. (step k lt).2;
        hangs = hung_by_test topology v tree (others_of set) tree.hangs middle.1;
      };
      degrees = λ point within. leb-true 2 (degree_of tree point) (below_by_test (λ p. leb 2 (degree_of tree p)) (length tree.steps + 1) point last.1 (omega (arith, within, long)));
    }

pub one_laid : (topology : TopologyView) (set : LaidSet) → is_laid topology set ≡ true → All (IsLaid topology) (set ∷ [])
one_laid topology set passes = All-cons (IsLaid topology) set [] (laid_by_test topology set passes) (All-nil (IsLaid topology))

pub two_laid : (topology : TopologyView) (one two : LaidSet) → is_laid topology one ≡ true → is_laid topology two ≡ true → All (IsLaid topology) (one ∷ two ∷ [])
two_laid topology one two first second = All-cons (IsLaid topology) one (two ∷ []) (laid_by_test topology one first) (one_laid topology two second)

-- the wires begin where these ends in range are
pub begin_in_range : (topology other : TopologyView) (wires : List Wire) (ends : List End) → topology ≡ other → map (λ w. w.from) wires ≡ ends → All (IsEndInRange other) ends
    → All (λ w. IsEndInRange topology w.from) wires
begin_in_range topology other wires ends same from in_range k d lt =
    subst (λ t. IsEndInRange t (get_or wires k d).from) (sym same)
    (subst (IsEndInRange other) (get_or-map (λ (w : Wire). w.from) wires k d d.from lt)
    (subst (λ l. IsEndInRange other (get_or l k d.from)) (sym from) (in_range k d.from (let long = ap length from in let same_long = length-map wires (λ (w : Wire). w.from) in omega arith))))

pub conds_had : (topology : TopologyView) (pins : List PinLine) (sets : List LaidSet) (table : Table) (cut : List CutWire) → AreCut topology pins sets table cut → All (λ w. Has table w.cond) cut
conds_had topology pins sets table cut are k d lt = (are.conditions k d lt).has

-- the topology of the tests with a coupler and a run
abbrev pub coupler_and_run : TopologyView
coupler_and_run = built ((0, 10) ∷ (1, 120) ∷ (1, 200) ∷ []) ((0, 1, 100, 2) ∷ (1, 2, 50, 0) ∷ []) (0 ∷ 1 ∷ 2 ∷ [])

abbrev pub cavity : ℕ → End
cavity c = Cavity (record { 0 = c })
