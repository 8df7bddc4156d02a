-- What the printing needs: the table has the conditions, and the wires' ends are in range.
use Rattle.std.proofs.Common.{ℕ, List, [], ◌∷◌, map, subst, Contains, inl, inr}
use Rattle.std.specs.List.{All}
use Rattle.std.proofs.lemmas.List.Elements.{All-contains, All-nil, All-cons, All-head, All-tail, Contains-append_cases}
use Rattle.std.proofs.lemmas.Option.{slice_get_within, get_or_from_slice_get}
use Rattle.loom_base.proofs.Contained.{Contains-from_map}
use Rattle.loom_rows.specs.Table.{Table, Has}
use Rattle.loom_rows.specs.Printing.{AreHad}
use Rattle.loom_laid.specs.declared.laid_set.LaidSet.{LaidSet}
use Rattle.loom_wires.specs.declared.cut_wire.CutWire.{CutWire}
use Rattle.loom_plan.specs.Stages.{conditions_of, numbered}

pub conditions_had : (t : Table) (sets : List LaidSet) (wires : List CutWire) → All (λ set. Has t set.cond) sets → All (λ w. Has t w.cond) wires
    → AreHad t (conditions_of sets wires)
conditions_had t sets wires of_sets of_wires i x e =
    let at : Contains (conditions_of sets wires) x =
    (i, slice_get_within (conditions_of sets wires) i x e, get_or_from_slice_get (conditions_of sets wires) i x x e) in
    elim (Contains-append_cases (map (λ (s : LaidSet). s.cond) sets) (map (λ (w : CutWire). w.cond) wires) x at) [
      | inl in_sets ↦
          let (set, listed, is) = Contains-from_map (λ (s : LaidSet). s.cond) sets x in_sets in
          subst (Has t) is (All-contains (λ (s : LaidSet). Has t s.cond) sets set of_sets listed)
      | inr in_wires ↦
          let (w, listed, is) = Contains-from_map (λ (v : CutWire). v.cond) wires x in_wires in
          subst (Has t) is (All-contains (λ (v : CutWire). Has t v.cond) wires w of_wires listed)
    ]

-- what holds of elements holds of their lines
pub numbered-All : {X Y : Type 0} (P : X → Type 0) (Q : Y → Type 0) (line : X → ℕ → Y) → ((x : X) (n : ℕ) → P x → Q (line x n)) → (xs : List X) (ns : List ℕ)
    → All P xs → All Q (numbered line xs ns)
numbered-All P Q line each [] ns all = All-nil Q
numbered-All P Q line each (x ∷ xs) [] all = All-nil Q
numbered-All P Q line each (x ∷ xs) (n ∷ ns) all =
    All-cons Q (line x n) (numbered line xs ns) (each x n (All-head P x xs all)) (numbered-All P Q line each xs ns (All-tail P x xs all))
