-- Formulas, worked out one after another.
use Rattle.std.proofs.Common.{◌≡◌, ℕ, ◌+◌, ◌<◌, ◌≤◌, true, ◌&&◌, List, [], ◌∷◌, length, get_or, refl, sym, ◌∙◌, Ok, Err}
use Rattle.loom_formula.specs.declared.formula.Formula.{Formula}
use Rattle.loom_rows.specs.declared.cond.Cond.{Cond, Always}
use Rattle.loom_rows.specs.declared.stop.RowsStop.{RowsStop}
use Rattle.loom_rows.specs.Condition.{value, both}
use Rattle.loom_rows.specs.Table.{Table, Has, IsSound}
use Rattle.loom_rows.specs.Leftovers.{AreSame, Works}
use Rattle.loom_rows.specs.Formulas.{always, work_of, worked_of, meaning_of, all_work, all_hold}
use Rattle.loom_rows.proofs.Members.{AllSoFar, all_join, and_assoc, and_unit, so_far-init, so_far-stop, so_far-stop_join, so_far-next, so_far-works, so_far-value}
use Rattle.loom_active.specs.Valid.{conjunction_worked}
use Rattle.loom_rows.proofs.FormulaWork.{work_meaning}

-- the formulas before the k-th are worked out, and x is their conjunction
abbrev pub FormulasSoFar : List (List ℕ) → List Formula → ℕ → Table → Table → Cond → Type 0
FormulasSoFar options formulas k old t x = AllSoFar options formulas k old t x

pub formulas-init : (options : List (List ℕ)) (formulas : List Formula) (t : Table) → IsSound t → FormulasSoFar options formulas 0 t t Always
formulas-init options formulas t sound = so_far-init ◌&&◌ true and_assoc and_unit all_work all_hold all_join options formulas always t sound Always tt refl

module _ (options : List (List ℕ)) (formulas : List Formula) (k : ℕ) (formula : Formula) (lt : k < length formulas) (at : formula ≡ get_or formulas k formula) (old t : Table) (x : Cond) (s : FormulasSoFar options formulas k old t x) where
  pub formula-stop : (u : Table) (e : RowsStop) → Works {A = Cond} (worked_of options formula) t u (Err e) → Works {A = Cond} (conjunction_worked options formulas) old u (Err e)
  formula-stop = so_far-stop ◌&&◌ true and_assoc and_unit all_work all_hold all_join options formulas always k formula lt at old t x s

  module _ (u : Table) (y : Cond) (w : Works (worked_of options formula) t u (Ok y)) (is : AreSame (value y) (meaning_of options formula)) where
    worked : AreSame (value y) (work_of options formula).meaning
    worked c = is c ∙ sym (work_meaning options formula c)

    pub formula-stop_join : (v : Table) (e : RowsStop) → Works {A = Cond} (both (value x) (value y) ∷ []) u v (Err e) → Works {A = Cond} (conjunction_worked options formulas) old v (Err e)
    formula-stop_join = so_far-stop_join ◌&&◌ true and_assoc and_unit all_work all_hold all_join options formulas always k formula lt at old t x s u y w worked

    pub formula-next : (v : Table) (z : Cond) → Works (both (value x) (value y) ∷ []) u v (Ok z) → Has v z → AreSame (value z) (both (value x) (value y)) → FormulasSoFar options formulas (k + 1) old v z
    formula-next = so_far-next ◌&&◌ true and_assoc and_unit all_work all_hold all_join options formulas always k formula lt at old t x s u y w worked is

module _ (options : List (List ℕ)) (formulas : List Formula) (k : ℕ) (past : length formulas ≤ k) (old t : Table) (x : Cond) (s : FormulasSoFar options formulas k old t x) where
  pub formulas-works : Works (conjunction_worked options formulas) old t (Ok x)
  formulas-works = so_far-works ◌&&◌ true and_assoc and_unit all_work all_hold all_join options formulas always k past old t x s

  pub formulas-value : AreSame (value x) (all_hold options formulas)
  formulas-value = so_far-value ◌&&◌ true and_assoc and_unit all_work all_hold all_join options formulas always k past old t x s
