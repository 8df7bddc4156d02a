-- How the rules end a job, and what the table stands for then.
use Rattle.std.proofs.Common.{◌≡◌, ◌≢◌, ℕ, ◌+◌, Bool, true, false, if◌then◌else◌, List, [], refl, sym, ap, subst, ◌∙◌, arith, inl, inr, IsTrue, Result, Ok, Err}
use Rattle.std.proofs.lemmas.Bool.{cases_eq, true≢false}
use Rattle.loom_formula.specs.declared.formula.Formula.{Formula}
use Rattle.loom_project.specs.declared.draft.Draft.{Draft}
use Rattle.loom_rows.specs.declared.cond.Cond.{Cond, Never, Always, Row'}
use Rattle.loom_rows.specs.declared.stop.RowsStop.{RowsStop}
use Rattle.loom_rows.specs.declared.stop.RowsStop.TheVariants.{TooManyRows, NoMemory}
use Rattle.loom_rows.specs.Condition.{Meaning, value, number_of}
use Rattle.loom_rows.specs.Table.{Table, Has}
use Rattle.loom_rows.specs.Leftovers.{set_before, AreSame, IsRowOf, AreMoreThan, StandsFor, Works}
use Rattle.loom_rows.specs.Formulas.{all_hold}
use Rattle.loom_rows.proofs.Conditions.{set_before-in, set_before-past, value-from}
use Rattle.loom_rows.proofs.Worked.{stands-none, stands-after, rows-few, rows-many}
use Rattle.loom_active.specs.Needs.{is_valid_for}
use Rattle.loom_active.specs.Valid.{conjunction_worked, rules_worked, SomeIsValid, NoneIsValid, NeedTooManyRows, stop_of, IsStopOf}

-- a condition of a table that isn't never holds under some choice
pub holds_somewhere : (t : Table) (x : Cond) → Has t x → number_of x ≢ 0 → (c : ℕ → Bool) × IsTrue (value x c)
holds_somewhere t Never has other = absurd (other refl)
holds_somewhere t Always has other = (λ _. false, refl)
holds_somewhere t (Row' p n option low high) (row, has_low, has_high) other =
    elim (cases_eq (number_of high) 0) [
      | inr some_high ↦
          let (c, holds) = holds_somewhere t high has_high some_high in
          let d = set_before (option.0 + 1) (λ _. true) c in (
            d,
            ap (λ b. if b then value high d else value low d) (set_before-in (option.0 + 1) (λ _. true) c option.0 (omega arith))
                ∙ value-from t.options t.rows high has_high (option.0 + 1) (omega (arith, row.high_rises)) d c (λ k le. set_before-past (option.0 + 1) (λ _. true) c k le)
                ∙ holds,
          )
      | inl none_high ↦
          let (c, holds) = holds_somewhere t low has_low (λ none_low. row.apart (none_low ∙ sym none_high)) in
          let d = set_before (option.0 + 1) (λ _. false) c in (
            d,
            ap (λ b. if b then value high d else value low d) (set_before-in (option.0 + 1) (λ _. false) c option.0 (omega arith))
                ∙ value-from t.options t.rows low has_low (option.0 + 1) (omega (arith, row.low_rises)) d c (λ k le. set_before-past (option.0 + 1) (λ _. false) c k le)
                ∙ holds,
          )
    ]

module _ (draft : Draft) (t : Table) (x : Cond) (same : AreSame (value x) (is_valid_for draft)) where
  pub some_valid : Has t x → number_of x ≢ 0 → SomeIsValid draft
  some_valid has other =
      let (c, holds) = holds_somewhere t x has other in
      (c, sym (same c) ∙ holds)

  pub none_valid : AreSame (value x) (value Never) → NoneIsValid draft
  none_valid never choice valid = true≢false (sym valid ∙ sym (same choice) ∙ never choice)

-- what the formulas of a project are worked out to, with the project's own lists
pub of_rules : {A : Type 0} (draft : Draft) (options : List (List ℕ)) (formulas : List Formula) (old new : Table) (r : Result A RowsStop) → options ≡ draft.options → formulas ≡ draft.rules
    → Works (conjunction_worked options formulas) old new r → Works (rules_worked draft) old new r
of_rules draft options formulas old new r e f w = subst (λ (l : List Meaning). Works l old new r) (λ i. conjunction_worked (e i) (f i)) w

pub holds_of_rules : (draft : Draft) (options : List (List ℕ)) (formulas : List Formula) (x : Cond) → options ≡ draft.options → formulas ≡ draft.rules → AreSame (value x) (all_hold options formulas) → AreSame (value x) (is_valid_for draft)
holds_of_rules draft options formulas x e f is c = is c ∙ λ i. all_hold (e i) (f i) c

module _ (draft : Draft) (old new : Table) (limit : old.limit ≡ 262144) (empty : old.rows ≡ []) where
  pub rules-stop : (e : RowsStop) → Works {A = Cond} (rules_worked draft) old new (Err e) → IsStopOf draft (stop_of e)
  rules-stop TooManyRows w =
      (refl, refl, subst (λ (n : ℕ). AreMoreThan n (IsRowOf (rules_worked draft))) limit (rows-many [] (rules_worked draft) old new (stands-none old empty) (Err TooManyRows) refl w))
  rules-stop NoMemory w = tt

  module _ (x : Cond) (w : Works (rules_worked draft) old new (Ok x)) where
    pub rules-fit : NeedTooManyRows (rules_worked draft) → ⊥
    rules-fit more = rows-few [] (rules_worked draft) old new (stands-none old empty) x w (subst (λ (n : ℕ). AreMoreThan n (IsRowOf (rules_worked draft))) (sym limit) more)

    pub rules-stand : StandsFor new (rules_worked draft)
    rules-stand = stands-after [] (rules_worked draft) old new (stands-none old empty) x w
