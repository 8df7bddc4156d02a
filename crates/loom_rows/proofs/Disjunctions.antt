-- The disjunction of conditions, joined one after another.
use Rattle.std.proofs.Common.{◌≡◌, ℕ, ◌+◌, ◌<◌, ◌≤◌, Bool, true, false, ◌||◌, List, [], ◌∷◌, ◌++◌, map, length, drop, get_or, refl, sym, ap, subst, ◌∙◌, arith, Result, Ok, Err, Some, append_assoc, append-nil, add-one}
use Rattle.std.proofs.Math.Seq.{drop-cons}
use Rattle.std.proofs.lemmas.Option.{slice_get-get_or}
use Rattle.std.proofs.Math.ListN.{drop_of_length-le}
use Rattle.loom_rows.specs.declared.cond.Cond.{Cond, Never}
use Rattle.loom_rows.specs.declared.stop.RowsStop.{RowsStop}
use Rattle.loom_rows.specs.Condition.{Meaning, value, either}
use Rattle.loom_rows.specs.Table.{Table, Has, IsSound}
use Rattle.loom_rows.specs.Leftovers.{AreSame, Works}
use Rattle.loom_rows.specs.Formulas.{never}
use Rattle.loom_rows.specs.Printing.{AreHad}
use Rattle.loom_rows.specs.Disjunction.{some_hold, disjunctions_from, any_worked}
use Rattle.loom_rows.proofs.Conditions.{same}
use Rattle.loom_rows.proofs.Outcomes.{keeps}
use Rattle.loom_rows.proofs.Members.{or_assoc, or_unit}
use Rattle.loom_rows.proofs.Progress.{Progress, progress-none, progress-step, progress-done, progress-stop}

-- the conditions before the k-th are joined, and x is their disjunction
pub record AnyJoined (conds : List Cond) (k : ℕ) (old t : Table) (x : Cond) : Type 0 where
  pub has : Has t x
  pub done : List Meaning
  pub progress : Progress done old t
  pub worked : any_worked (map value conds) ≡ done ++ disjunctions_from (value x) (map value (drop k conds))
  pub held : (c : ℕ → Bool) → some_hold (map value conds) c ≡ (value x c || some_hold (map value (drop k conds)) c)

pub joined-init : (conds : List Cond) (t : Table) → IsSound t → AnyJoined conds 0 t t Never
joined-init conds t sound = record { has = tt; done = []; progress = progress-none t sound; worked = refl; held = λ c. refl }

module _ (conds : List Cond) (k : ℕ) (cond : Cond) (lt : k < length conds) (at : cond ≡ get_or conds k cond) (old t : Table) (x : Cond) (s : AnyJoined conds k old t x) where
  rest : drop k conds ≡ cond ∷ drop (k + 1) conds
  rest = drop-cons conds k cond lt ∙ λ i. sym at i ∷ drop (sym (add-one k) i) conds

  whole : any_worked (map value conds) ≡ (s.done ++ either (value x) (value cond) ∷ []) ++ disjunctions_from (either (value x) (value cond)) (map value (drop (k + 1) conds))
  whole =
      s.worked ∙ ap (λ l. s.done ++ disjunctions_from (value x) (map value l)) rest
      ∙ sym (append_assoc s.done (either (value x) (value cond) ∷ []) (disjunctions_from (either (value x) (value cond)) (map value (drop (k + 1) conds))))

  -- the next condition is one of the table's
  pub joined-has : AreHad old conds → Has t cond
  joined-has had = keeps s.progress.gains cond (had k cond (slice_get-get_or conds k cond lt ∙ ap Some (sym at)))

  pub joined-stop : (u : Table) (e : RowsStop) → Works {A = Cond} (either (value x) (value cond) ∷ []) t u (Err e) → Works {A = Cond} (any_worked (map value conds)) old u (Err e)
  joined-stop u e w =
      subst (λ (l : List Meaning). Works {A = Cond} l old u (Err e)) (sym whole)
      (progress-stop s.done (either (value x) (value cond) ∷ []) (disjunctions_from (either (value x) (value cond)) (map value (drop (k + 1) conds))) old t u e s.progress w)

  pub joined-next : (u : Table) (y : Cond) → Works (either (value x) (value cond) ∷ []) t u (Ok y) → Has u y → AreSame (value y) (either (value x) (value cond)) → AnyJoined conds (k + 1) old u y
  joined-next u y w has is = record {
    has = has;
    done = s.done ++ either (value x) (value cond) ∷ [];
    progress = progress-step s.done (either (value x) (value cond) ∷ []) old t u y s.progress w;
    worked = whole ∙ ap (λ f. (s.done ++ either (value x) (value cond) ∷ []) ++ disjunctions_from f (map value (drop (k + 1) conds))) (sym (same is));
    held = λ c.
        s.held c ∙ ap (λ l. value x c || some_hold (map value l) c) rest
        ∙ or_assoc (value x c) (value cond c) (some_hold (map value (drop (k + 1) conds)) c)
        ∙ ap (λ b. b || some_hold (map value (drop (k + 1) conds)) c) (sym (is c));
  }

module _ (conds : List Cond) (k : ℕ) (past : length conds ≤ k) (old t : Table) (x : Cond) (s : AnyJoined conds k old t x) where
  none : drop k conds ≡ []
  none = drop_of_length-le conds past

  pub joined-works : Works (any_worked (map value conds)) old t (Ok x)
  joined-works =
      subst (λ (l : List Meaning). Works l old t (Ok x)) (sym (s.worked ∙ ap (λ l. s.done ++ disjunctions_from (value x) (map value l)) none ∙ append-nil s.done))
      (progress-done s.done old t x s.progress)

  pub joined-value : AreSame (value x) (some_hold (map value conds))
  joined-value c = sym (s.held c ∙ ap (λ l. value x c || some_hold (map value l) c) none ∙ or_unit (value x c))
