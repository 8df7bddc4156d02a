-- The ways from each node, listed one node after another.
use Rattle.std.proofs.Common.{List, [], ◌∷◌, ◌++◌, ℕ, ◌+◌, ◌<◌, ◌≤◌, ◌≡◌, length, slice_index, slice_index_or, inl, inr, sym, subst, arith}
use Rattle.std.specs.Borrow.{Bor}
use Rattle.std.specs.List.{All}
use Rattle.std.proofs.Math.ListN.{get_or-append}
use Rattle.std.proofs.Math.Seq.{get_or-append_seam}
use Rattle.std.proofs.lemmas.Bool.{cases_lt, cases_eq}
use Rattle.std.proofs.lemmas.List.{length-append, get_or_past}
use Rattle.std.proofs.lemmas.List.Elements.{All-push}
use Rattle.loom_topology.specs.Topology.{TopologyView, branch_at}
use Rattle.loom_topology.specs.declared.ways.Way.{Way}
use Rattle.loom_topology.specs.Ways.{AreInRange}
use Rattle.loom_steiner.specs.Ways.{AreWays, AreWaysFrom}

-- the ways from the first nodes
pub record ListsAll (topology : TopologyView) (done : ℕ) (ways : List (Bor (List Way))) : Type 0 where
  pub len : length ways ≡ done
  pub from : (v : ℕ) (d : Bor (List Way)) → v < done → AreWaysFrom topology v (slice_index_or ways v d).now
  pub range : All (λ from. AreInRange (length topology.nodes) from.now) ways

pub lists_all_none : (topology : TopologyView) → ListsAll topology 0 []
lists_all_none topology = record {
  len = omega arith;
  from = λ v d h. absurd (omega arith);
  range = λ k d h. absurd (omega arith);
}

pub lists_all_more : (topology : TopologyView) (done : ℕ) (ways : List (Bor (List Way))) (from : Bor (List Way))
    → AreWaysFrom topology done from.now → AreInRange (length topology.nodes) from.now
    → ListsAll topology done ways → ListsAll topology (done + 1) (ways ++ from ∷ [])
lists_all_more topology done ways from are_ways range l = record {
  len = omega (arith, l.len, length-append ways (from ∷ []));
  from = λ v d h. elim (cases_eq v done) [
    | inl e ↦
        (let last = subst (λ (k : ℕ). slice_index_or (ways ++ from ∷ []) k d ≡ from) l.len (get_or-append_seam ways from [] d) in
        subst (λ (w : ℕ). AreWaysFrom topology w (slice_index_or (ways ++ from ∷ []) w d).now) (sym e)
        (subst (λ (b : Bor (List Way)). AreWaysFrom topology done b.now) (sym last) are_ways))
    | inr n ↦
        (let before = get_or-append ways (from ∷ []) d v (omega (arith, l.len)) in
        subst (λ (b : Bor (List Way)). AreWaysFrom topology v b.now) (sym before) (l.from v d (omega arith)))
  ];
  range = All-push (λ (b : Bor (List Way)). AreInRange (length topology.nodes) b.now) ways from l.range range;
}

pub lists_all_ways : (topology : TopologyView) (ways : List (Bor (List Way))) (done : ℕ) → ListsAll topology done ways → AreWays topology ways
lists_all_ways topology ways done l = record { from = λ v d h. l.from v d (omega (arith, l.len)) }

-- the branch costs at the first nodes
pub record ListsBranches (topology : TopologyView) (done : ℕ) (branches : List ℕ) : Type 0 where
  pub len : length branches ≡ done
  pub value : (v : ℕ) → v < done → slice_index branches v ≡ branch_at topology v
  pub cheap : (v : ℕ) → slice_index branches v ≤ 1000000

pub lists_branches_none : (topology : TopologyView) → ListsBranches topology 0 []
lists_branches_none topology = record {
  len = omega arith;
  value = λ v h. absurd (omega arith);
  cheap = λ v. omega (arith, get_or_past {X = ℕ} [] v 0 (omega arith));
}

pub lists_branches_more : (topology : TopologyView) (done : ℕ) (branches : List ℕ) (branch : ℕ)
    → branch ≡ branch_at topology done → branch ≤ 1000000
    → ListsBranches topology done branches → ListsBranches topology (done + 1) (branches ++ branch ∷ [])
lists_branches_more topology done branches branch is cheap l =
    let all = branches ++ branch ∷ [] in
    let last : slice_index all done ≡ branch = subst (λ (k : ℕ). slice_index all k ≡ branch) l.len (get_or-append_seam branches branch [] 0) in
    let len : length all ≡ done + 1 = omega (arith, l.len, length-append branches (branch ∷ [])) in
    let before = λ (v : ℕ) (h : v < done). get_or-append branches (branch ∷ []) 0 v (omega (arith, l.len)) in
    record {
      len = len;
      value = λ v h. elim (cases_eq v done) [
        | inl e ↦ subst (λ (w : ℕ). slice_index all w ≡ branch_at topology w) (sym e) (omega (arith, last, is))
        | inr n ↦ omega (arith, before v (omega arith), l.value v (omega arith))
      ];
      cheap = λ v. elim (cases_lt v done) [
        | inl lt ↦ omega (arith, before v lt, l.cheap v)
        | inr ge ↦ elim (cases_eq v done) [
          | inl e ↦ subst (λ (w : ℕ). slice_index all w ≤ 1000000) (sym e) (omega (arith, last))
          | inr n ↦ omega (arith, get_or_past all v 0 (omega arith))
        ]
      ];
    }
