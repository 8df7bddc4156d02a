-- What is worked out for a formula, at each variant.
use Rattle.std.proofs.Common.{◌≡◌, ℕ, inl, inr, List, [], ◌∷◌, ◌++◌, sym, ap, subst, ◌∙◌, Result, Ok, Err, append-nil}
use Rattle.loom_formula.specs.declared.formula.Formula.{Formula}
use Rattle.loom_formula.specs.declared.formula.Formula.TheVariants.{Always, Never, Is, Not, And, Or, One, rolls-Always, rolls-Never, rolls-Is, rolls-Not}
use Rattle.loom_formula.specs.declared.formula.Formula.TheOpen.{Formula-F}
use Rattle.loom_formula.specs.declared.formula.Formula.TheFolds.{fold-roll-Formula}
use Rattle.loom_formula.specs.declared.formula.Members.{Members}
use Rattle.loom_formula.specs.Formula.{members_of, is_chosen}
use Rattle.loom_formula.proofs.Folds.{holds_where-And, holds_where-Or, holds_where-One}
use Rattle.loom_rows.specs.declared.stop.RowsStop.{RowsStop}
use Rattle.loom_rows.specs.Condition.{Meaning, negation}
use Rattle.loom_rows.specs.Table.{Table, IsSound}
use Rattle.loom_rows.specs.Leftovers.{AreSame, IsRowOf, Works}
use Rattle.loom_rows.specs.Formulas.{Work, never, always, work_step, work_of, meaning_of, all_hold, any_holds, one_holds}
use Rattle.loom_rows.proofs.Conditions.{same}
use Rattle.loom_rows.proofs.Outcomes.{gains-none}
use Rattle.loom_rows.proofs.Progress.{progress-none, progress-step, progress-first, progress-done, progress-stop}

module _ (options : List (List ℕ)) where
  pub work_of-Always : work_of options Always ≡ record { worked = []; meaning = always }
  work_of-Always = ap (work_of options) (sym rolls-Always) ∙ fold-roll-Formula Work (List Work) (work_step options) (λ m. m.list) Formula-F.Always

  pub work_of-Never : work_of options Never ≡ record { worked = []; meaning = never }
  work_of-Never = ap (work_of options) (sym rolls-Never) ∙ fold-roll-Formula Work (List Work) (work_step options) (λ m. m.list) Formula-F.Never

  pub work_of-Is : (name : List ℕ) → (work_of options (Is name)).worked ≡ (λ c. is_chosen options c name) ∷ []
  work_of-Is name = ap (λ w. w.worked) (ap (work_of options) (sym (rolls-Is name)) ∙ fold-roll-Formula Work (List Work) (work_step options) (λ m. m.list) (Formula-F.Is name))

  pub work_of-Not : (inner : Formula) → (work_of options (Not inner)).worked ≡ (work_of options inner).worked ++ negation (work_of options inner).meaning ∷ []
  work_of-Not inner = ap (λ w. w.worked) (ap (work_of options) (sym (rolls-Not inner)) ∙ fold-roll-Formula Work (List Work) (work_step options) (λ m. m.list) (Formula-F.Not inner))

  pub meaning_of-And : (f : Formula) (members : Members) → f ≡ And members → AreSame (all_hold options (members_of members)) (meaning_of options f)
  meaning_of-And f members e c = sym (holds_where-And (is_chosen options c) members) ∙ ap (λ g. meaning_of options g c) (sym e)

  pub meaning_of-Or : (f : Formula) (members : Members) → f ≡ Or members → AreSame (any_holds options (members_of members)) (meaning_of options f)
  meaning_of-Or f members e c = sym (holds_where-Or (is_chosen options c) members) ∙ ap (λ g. meaning_of options g c) (sym e)

  pub meaning_of-One : (f : Formula) (members : Members) → f ≡ One members → AreSame (one_holds options (members_of members)) (meaning_of options f)
  meaning_of-One f members e c = sym (holds_where-One (is_chosen options c) members) ∙ ap (λ g. meaning_of options g c) (sym e)

-- a call that works nothing out
pub works-none : {A : Type 0} (t : Table) (ws : List Meaning) (x : A) → IsSound t → ws ≡ [] → Works ws t t (Ok x)
works-none t ws x sound e = subst (λ (l : List Meaning). Works l t t (Ok x)) (sym e) (progress-done [] t t x (progress-none t sound))

constant-closed : (g : Meaning) → IsRowOf (never ∷ []) g → ⊥
constant-closed g r = elim r.1 [ inl l ↦ r.0.1 l.2 | inr z ↦ z ]

-- a call that works out what never holds makes no row
pub works-never : {A : Type 0} (t : Table) (f : Meaning) (x : A) → IsSound t → AreSame f never → Works (f ∷ []) t t (Ok x)
works-never t f x sound e =
    subst (λ (g : Meaning). Works (g ∷ []) t t (Ok x)) (sym (same e))
    (progress-done (never ∷ []) t t x (record {
      gains = gains-none _ t;
      sound = sound;
      all = λ g r. absurd (constant-closed g r);
    }))

-- a call in two steps
pub works-then : {A B : Type 0} (ws vs : List Meaning) (a b c : Table) (x : A) (r : Result B RowsStop) → Works ws a b (Ok x) → Works vs b c r → Works (ws ++ vs) a c r
works-then ws vs a b c x (Ok y) w v = progress-done (ws ++ vs) a c y (progress-step ws vs a b c y (progress-first ws a b x w) v)
works-then {A} {B} ws vs a b c x (Err e) w v =
    subst (λ (l : List Meaning). Works {A = B} l a c (Err e)) (append-nil (ws ++ vs))
    (progress-stop ws vs [] a b c e (progress-first ws a b x w) v)
