-- How the search for live sets stops, and what the table stands for between its steps.
use Rattle.std.proofs.Common.{◌≡◌, ℕ, inl, inr, List, refl, sym, subst, ◌∙◌, Result, Ok, Err}
use Rattle.loom_project.specs.declared.draft.Draft.{Draft}
use Rattle.loom_rows.specs.declared.cond.Cond.{Cond}
use Rattle.loom_rows.specs.declared.stop.RowsStop.{RowsStop}
use Rattle.loom_rows.specs.declared.stop.RowsStop.TheVariants.{TooManyRows, NoMemory}
use Rattle.loom_rows.specs.Condition.{Meaning, value}
use Rattle.loom_rows.specs.Table.{Table}
use Rattle.loom_rows.specs.Leftovers.{AreSame, IsRowOf, AreMoreThan, Gains, StandsFor, Works}
use Rattle.loom_rows.proofs.Conditions.{same}
use Rattle.loom_rows.proofs.Worked.{stands-after, rows-few, rows-many}
use Rattle.loom_active.specs.declared.stop.ActiveStop.{ActiveStop}
use Rattle.loom_active.specs.declared.stop.ActiveStop.TheVariants as active
use Rattle.loom_active.specs.declared.terminals.Terminal.{Terminal}
use Rattle.loom_active.specs.Needs.{is_valid_for}
use Rattle.loom_active.specs.Valid.{rules_worked, SomeIsValid, NeedTooManyRows, IsStopOf, stop_of}
use Rattle.loom_active.specs.LiveWork.{terminals_worked, needs_worked}
use Rattle.loom_active.specs.LiveStops.{IsLiveStop}
use Rattle.loom_active.specs.Terminals.{AreTerminals, IsSameJob}

-- a stop of the rules stops the search
pub rules-stop-live : (draft : Draft) (stop : ActiveStop) → IsStopOf draft stop → IsLiveStop draft stop
rules-stop-live draft active.NoChoice s = s
rules-stop-live draft (active.Clash cavity first second choice) s = absurd s
rules-stop-live draft (active.Limit which count) s = inr (s.0, s.1, inl s.2)
rules-stop-live draft active.NoMemory s = tt

module _ (draft : Draft) (valid : Cond) (is : AreSame (value valid) (is_valid_for draft)) (t : Table) (limit : t.limit ≡ 262144) (stands : StandsFor t (rules_worked draft)) where
  terminals_own : {A : Type 0} (u : Table) (r : Result A RowsStop) → Works (terminals_worked draft.options (value valid) draft.nets) t u r → Works (terminals_worked draft.options (is_valid_for draft) draft.nets) t u r
  terminals_own u r w = subst (λ (f : Meaning). Works (terminals_worked draft.options f draft.nets) t u r) (same is) w

  pub terminals-stop-live : SomeIsValid draft → (NeedTooManyRows (rules_worked draft) → ⊥) → (u : Table) (e : RowsStop) → Works {A = List (List Terminal)} (terminals_worked draft.options (value valid) draft.nets) t u (Err e) → IsLiveStop draft (stop_of e)
  terminals-stop-live some few u TooManyRows w =
      inr (
        refl,
        refl,
        inr (inl (
          some,
          few,
          subst (λ (n : ℕ). AreMoreThan n (IsRowOf (needs_worked draft))) limit
              (rows-many (rules_worked draft) (terminals_worked draft.options (is_valid_for draft) draft.nets) t u stands (Err TooManyRows) refl (terminals_own {A = List (List Terminal)} u (Err TooManyRows) w)),
        )),
      )
  terminals-stop-live some few u NoMemory w = tt

  module _ (u : Table) (nets : List (List Terminal)) (w : Works (terminals_worked draft.options (value valid) draft.nets) t u (Ok nets)) where
    pub needs-stand : StandsFor u (needs_worked draft)
    needs-stand = stands-after (rules_worked draft) (terminals_worked draft.options (is_valid_for draft) draft.nets) t u stands nets (terminals_own u (Ok nets) w)

    pub needs-fit : NeedTooManyRows (needs_worked draft) → ⊥
    needs-fit many =
        rows-few (rules_worked draft) (terminals_worked draft.options (is_valid_for draft) draft.nets) t u stands nets (terminals_own u (Ok nets) w)
        (subst (λ (n : ℕ). AreMoreThan n (IsRowOf (needs_worked draft))) (sym limit) many)

    pub needs-terminals : AreTerminals draft u (value valid) nets → AreTerminals draft u (is_valid_for draft) nets
    needs-terminals = subst (λ (f : Meaning). AreTerminals draft u f nets) (same is)

-- one job after another
pub same_job-gains : {P : Meaning → Type 0} (t u : Table) → Gains P t u → IsSameJob t u
same_job-gains t u g = record { options = g.same_options; limit = g.same_limit }

pub same_job-then : (t u v : Table) → IsSameJob t u → IsSameJob u v → IsSameJob t v
same_job-then t u v a b = record { options = b.options ∙ a.options; limit = b.limit ∙ a.limit }
