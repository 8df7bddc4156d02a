-- The conditions of wires, joined one wire after another.
use Rattle.std.proofs.Common.{◌≡◌, ℕ, ◌<◌, List, [], ◌∷◌, ◌++◌, length, map, get_or, refl, sym, ap, subst, ◌∙◌, arith, Ok, Err, append_assoc, append-nil}
use Rattle.std.specs.List.{All, AllZip, Contains, flat_map}
use Rattle.std.proofs.lemmas.List.{get_or-map, length-map}
use Rattle.std.proofs.lemmas.List.Concat.{flat_map-append}
use Rattle.std.proofs.lemmas.List.Elements.{All-map, All-contains, Contains-append_right}
use Rattle.loom_base.proofs.Contained.{Contains-here}
use Rattle.std.proofs.lemmas.Option.{get_or_from_slice_get, slice_get_within}
use Rattle.loom_rows.specs.declared.cond.Cond.{Cond, Never}
use Rattle.loom_rows.specs.declared.stop.RowsStop.{RowsStop}
use Rattle.loom_rows.specs.declared.stop.RowsStop.TheVariants.{NoMemory}
use Rattle.loom_rows.specs.Condition.{Meaning, value}
use Rattle.loom_rows.specs.Table.{Table, Has, IsSound}
use Rattle.loom_rows.specs.Leftovers.{AreSame, Works}
use Rattle.loom_rows.specs.Disjunction.{some_hold}
use Rattle.loom_rows.specs.Printing.{AreHad}
use Rattle.loom_rows.proofs.Outcomes.{keeps}
use Rattle.loom_rows.proofs.Progress.{Progress, progress-none, progress-step, progress-done, progress-stop, progress-no_memory}
use Rattle.loom_types.specs.LayoutWires.{bare}
use Rattle.loom_wires.specs.declared.cut_wire.CutWire.{CutWire}
use Rattle.loom_wires.specs.declared.laid_set.LaidSet.{LaidSet}
use Rattle.loom_wires.specs.declared.wire_key.WireKey.{WireKey}
use Rattle.loom_wires.specs.Wires.{bare_of}
use Rattle.loom_wires.specs.FoundWires.{conds_at, worked_for, IsJoined}

abbrev Entry : Type 0
Entry = WireKey × List ℕ

-- what holds of each pair holds of it in another way
zip-weaker : {A B : Type 0} (R S : A → B → Type 0) → ((x : A) (y : B) → R x y → S x y) → (xs : List A) (ys : List B) → AllZip R xs ys → AllZip S xs ys
zip-weaker R S weaker [] [] h = h
zip-weaker R S weaker [] (y ∷ ys) h = h
zip-weaker R S weaker (x ∷ xs) [] h = h
zip-weaker R S weaker (x ∷ xs) (y ∷ ys) h = (weaker x y h.0, zip-weaker R S weaker xs ys h.1)

zip-push : {A B : Type 0} (R : A → B → Type 0) (xs : List A) (ys : List B) (x : A) (y : B) → AllZip R xs ys → R x y → AllZip R (xs ++ x ∷ []) (ys ++ y ∷ [])
zip-push R [] [] x y h r = (r, tt)
zip-push R [] (z ∷ ys) x y h r = absurd h
zip-push R (z ∷ xs) [] x y h r = absurd h
zip-push R (z ∷ xs) (v ∷ ys) x y h r = (h.0, zip-push R xs ys x y h.1 r)

-- the conditions at positions in range are the table's
pub conds-had : (t : Table) (sets : List LaidSet) (positions : List ℕ) → All (λ set. Has t set.cond) sets → All (λ n. n < length sets) positions → AreHad t (conds_at sets positions)
conds-had t sets positions has within k x at =
    let lt : k < length positions = omega (arith, slice_get_within (conds_at sets positions) k x at, length-map positions (λ n. get_or (map (λ (s : LaidSet). s.cond) sets) n Never)) in
    let n = get_or positions k 0 in
    let low : n < length sets = within k 0 lt in
    let long : n < length (map (λ (s : LaidSet). s.cond) sets) = omega (arith, low, length-map sets (λ (s : LaidSet). s.cond)) in
    let here : get_or (conds_at sets positions) k Never ≡ get_or (map (λ (s : LaidSet). s.cond) sets) n Never = get_or-map (λ m. get_or (map (λ (s : LaidSet). s.cond) sets) m Never) positions k 0 Never lt in
    subst (Has t) (sym here ∙ get_or_from_slice_get (conds_at sets positions) k x Never at)
    (each n long)
  where
    had : (l : List LaidSet) → All (λ set. Has t set.cond) l → All (Has t) (map (λ (s : LaidSet). s.cond) l)
    had l h = All-map (Has t) (λ (s : LaidSet). s.cond) l h

    each : (n : ℕ) → n < length (map (λ (s : LaidSet). s.cond) sets) → Has t (get_or (map (λ (s : LaidSet). s.cond) sets) n Never)
    each n lt = had sets has n Never lt

module _ (sets : List LaidSet) (entries : List Entry) (old : Table) where
  -- the wires before the rest have their conditions
  pub record JoinedSoFar (rest : List Entry) (t : Table) (cut : List CutWire) : Type 0 where
    pub done : List Entry
    pub split : entries ≡ done ++ rest
    pub joined : AllZip (IsJoined t sets) done cut
    pub progress : Progress (flat_map (worked_for sets) done) old t

  pub joined-init : IsSound old → JoinedSoFar entries old []
  joined-init sound = record { done = []; split = refl; joined = tt; progress = progress-none old sound }

  module _ (entry : Entry) (rest : List Entry) (t : Table) (cut : List CutWire) (s : JoinedSoFar (entry ∷ rest) t cut) where
    -- the sets' conditions are still the table's
    pub joined-has : All (λ set. Has old set.cond) sets → All (λ set. Has t set.cond) sets
    joined-has has k d lt = keeps s.progress.gains _ (has k d lt)

    pub joined-within : All (λ e. All (λ n. n < length sets) e.1) entries → All (λ n. n < length sets) entry.1
    joined-within within =
        All-contains (λ (e : Entry). All (λ n. n < length sets) e.1) entries entry within
        (subst (λ l. Contains l entry) (sym s.split) (Contains-append_right s.done (entry ∷ rest) entry (Contains-here entry rest)))

    whole : flat_map (worked_for sets) entries ≡ (flat_map (worked_for sets) s.done ++ worked_for sets entry) ++ flat_map (worked_for sets) rest
    whole =
        ap (flat_map (worked_for sets)) s.split ∙ flat_map-append (worked_for sets) s.done (entry ∷ rest)
        ∙ sym (append_assoc (flat_map (worked_for sets) s.done) (worked_for sets entry) (flat_map (worked_for sets) rest))

    -- memory runs out before the wire's conditions are worked out
    pub joined-no_memory : Works {A = List CutWire} (flat_map (worked_for sets) entries) old t (Err NoMemory)
    joined-no_memory =
        subst (λ (l : List Meaning). Works {A = List CutWire} l old t (Err NoMemory))
        (sym (ap (flat_map (worked_for sets)) s.split ∙ flat_map-append (worked_for sets) s.done (entry ∷ rest)))
        (progress-no_memory (flat_map (worked_for sets) s.done) (flat_map (worked_for sets) (entry ∷ rest)) old t s.progress)

    pub joined-stop : (u : Table) (e : RowsStop) → Works {A = Cond} (worked_for sets entry) t u (Err e) → Works {A = List CutWire} (flat_map (worked_for sets) entries) old u (Err e)
    joined-stop u e w =
        subst (λ (l : List Meaning). Works {A = List CutWire} l old u (Err e)) (sym whole)
        (progress-stop {A = Cond} {B = List CutWire} (flat_map (worked_for sets) s.done) (worked_for sets entry) (flat_map (worked_for sets) rest) old t u e s.progress w)

    module _ (u : Table) (x : Cond) (w : Works (worked_for sets entry) t u (Ok x)) where
      more : Progress (flat_map (worked_for sets) s.done ++ worked_for sets entry) old u
      more = progress-step (flat_map (worked_for sets) s.done) (worked_for sets entry) old t u x s.progress w

      -- memory runs out behind the wire's conditions
      pub joined-no_memory2 : Works {A = List CutWire} (flat_map (worked_for sets) entries) old u (Err NoMemory)
      joined-no_memory2 =
          subst (λ (l : List Meaning). Works {A = List CutWire} l old u (Err NoMemory)) (sym whole)
          (progress-no_memory (flat_map (worked_for sets) s.done ++ worked_for sets entry) (flat_map (worked_for sets) rest) old u more)

      pub joined-next : (y : CutWire) → bare_of y ≡ bare entry.0.wire → y.cond ≡ x → Has u x → AreSame (value x) (some_hold (map value (conds_at sets entry.1)))
          → JoinedSoFar rest u (cut ++ y ∷ [])
      joined-next y wire cond has same = record {
        done = s.done ++ entry ∷ [];
        split = s.split ∙ sym (append_assoc s.done (entry ∷ []) rest);
        joined =
            zip-push (IsJoined u sets) s.done cut entry y
            (zip-weaker (IsJoined t sets) (IsJoined u sets) (λ e z j. record { wire = j.wire; has = w.keeps z.cond j.has; condition = j.condition }) s.done cut s.joined)
            (record { wire = wire; has = subst (Has u) (sym cond) has; condition = λ c. ap (λ z. value z c) cond ∙ same c });
        progress =
            subst (λ (l : List Meaning). Progress l old u)
            (ap (λ l. flat_map (worked_for sets) s.done ++ l) (sym (append-nil (worked_for sets entry))) ∙ sym (flat_map-append (worked_for sets) s.done (entry ∷ []))) more;
      }

  module _ (t : Table) (cut : List CutWire) (s : JoinedSoFar [] t cut) where
    all_done : s.done ≡ entries
    all_done = sym (s.split ∙ append-nil s.done)

    pub joined-zip : AllZip (IsJoined t sets) entries cut
    joined-zip = subst (λ (l : List Entry). AllZip (IsJoined t sets) l cut) all_done s.joined

    pub joined-works : Works (flat_map (worked_for sets) entries) old t (Ok cut)
    joined-works = progress-done (flat_map (worked_for sets) entries) old t cut (subst (λ (l : List Entry). Progress (flat_map (worked_for sets) l) old t) all_done s.progress)
