-- What a call works out, from the outcome of its steps; and what a table stands for after it.
use Rattle.std.proofs.Common.{◌≡◌, ℕ, ◌-◌, ◌⊎◌, inl, inr, Bool, true, false, cond, List, [], ◌∷◌, ◌++◌, length, slice_get, refl, sym, ap, subst, ◌∙◌, arith, Result, Ok, Err, OnOk, IfOk}
use Rattle.loom_rows.specs.declared.cond.Cond.{Cond, Never, Always, Row'}
use Rattle.loom_rows.specs.declared.stop.RowsStop.{RowsStop}
use Rattle.loom_rows.specs.declared.stop.RowsStop.TheVariants.{TooManyRows}
use Rattle.loom_rows.specs.Condition.{Meaning, value, option_holds}
use Rattle.loom_rows.specs.Table.{Table, Has, IsSound}
use Rattle.loom_rows.specs.Leftovers.{AreSame, IsOpen, IsLeftover, IsLeftoverOf, IsRowOf, AreMoreThan, IsIn, Gains, IsNeeded, StandsFor, Works}
use Rattle.loom_rows.specs.Outcome.{IsAnswer, Outcome, branch}
use Rattle.loom_rows.proofs.Conditions.{same, leftover-stands}
use Rattle.loom_rows.proofs.Outcomes.{keeps, gains-weaken}
use Rattle.loom_rows.proofs.Counted.{row-open, one-more, no-more}

-- what these conditions need is in a table that has them all
pub IsIn-leftover : (t : Table) (f g : Meaning) → IsIn t f → IsLeftover f g → IsIn t g
IsIn-leftover t f g (x, has, e) l =
    let r = leftover-stands t.options t.rows x has l.0 l.1 in
    (r.0, r.1, λ d. l.2 d ∙ e _ ∙ r.2 d)

module _ (P : Meaning → Type 0) (old new : Table) (gains : Gains P old new) (sound : IsSound new) where
  needed : (x : Cond) → Has new x → IsIn old (value x) ⊎ P (value x)
  needed x has = elim (gains.only x has) [ inl h ↦ inl (x, h, λ c. refl) | inr p ↦ inr p ]

  -- no more than the limit is needed where the table has all of it
  pub none-more : (Q : Meaning → Type 0) → ((g : Meaning) → Q g → IsOpen g × IsIn new g) → AreMoreThan old.limit Q → ⊥
  none-more Q into m = no-more new sound old.limit Q (omega (arith, sound.within, gains.same_limit)) into m

  -- a full table that lacks one needs more than the limit
  pub lacking : (g : Meaning) → IsOpen g → P g → (IsIn new g → ⊥) → length new.rows ≡ new.limit → AreMoreThan old.limit (λ h. IsOpen h × (IsIn old h ⊎ P h))
  lacking g o p absent full =
      subst (λ (n : ℕ). AreMoreThan n (λ h. IsOpen h × (IsIn old h ⊎ P h))) (full ∙ gains.same_limit)
      (one-more new sound (λ h. IsOpen h × (IsIn old h ⊎ P h))
      (λ i lt. let x = sound.whole i lt in (row-open new sound x.0 x.1 (omega (arith, x.2)), needed x.0 x.1))
      g (o, inr p) absent)

-- the outcome of a call for one condition
pub works-one : (f : Meaning) (first : ℕ) (old new : Table) (r : Result Cond RowsStop) → Outcome f first old new r → Works (f ∷ []) old new r
works-one f first old new r o =
    let gains : Gains (IsLeftoverOf (f ∷ [])) old new = gains-weaken (λ g l. inl l) o.gains in
    record {
      gains = gains;
      sound = o.sound;
      keeps = λ x h. keeps o.gains x h;
      all = all-of r o.answer;
      fits = fits-of r o.answer gains;
      too_many = λ e. let l = o.refusal e in lacking (IsLeftoverOf (f ∷ [])) old new gains o.sound l.missing l.is_open (inl l.is_leftover) l.absent l.full;
    }
  where
    all-of : (s : Result Cond RowsStop) → IfOk s (IsAnswer f first new) → OnOk s ((g : Meaning) → IsRowOf (f ∷ []) g → IsIn new g)
    all-of (Ok x) a = λ g w. elim w.1 [ inl l ↦ IsIn-leftover new f g (x, a.has, λ c. sym (a.valued c)) l | inr z ↦ absurd z ]
    all-of (Err e) a = tt

    fits-of : (s : Result Cond RowsStop) → IfOk s (IsAnswer f first new) → Gains (IsLeftoverOf (f ∷ [])) old new → OnOk s (AreMoreThan old.limit (IsNeeded old (f ∷ [])) → ⊥)
    fits-of (Ok x) a gains = none-more (IsLeftoverOf (f ∷ [])) old new gains o.sound (IsNeeded old (f ∷ []))
        (λ g n. (n.0, elim n.1 [ inl i ↦ (i.0, keeps o.gains i.0 i.1, i.2) | inr l ↦ all-of (Ok x) a g (n.0, l) ]))
    fits-of (Err e) a gains = tt

pub value-one : (f g : Meaning) (first : ℕ) (old new : Table) (r : Result Cond RowsStop) → AreSame f g → Outcome f first old new r → IfOk r (λ x. Has new x × AreSame (value x) g)
value-one f g first old new (Ok x) e o = (o.answer.has, λ c. o.answer.valued c ∙ e c)
value-one f g first old new (Err s) e o = tt

-- to choose between never and always is the option, and to differ from always is not to hold
pub branch-option_holds : (option : ℕ) → branch option (λ c. false) (λ c. true) ≡ option_holds option
branch-option_holds option = same (λ c. by (c option))
  where
    by : (b : Bool) → cond b true false ≡ b
    by true = refl
    by false = refl

-- ---- what a table stands for

none-stands : (t : Table) → t.rows ≡ [] → (x : Cond) → Has t x → IsOpen (value x) → ⊥
none-stands t e Never has o = o.1 (λ c. refl)
none-stands t e Always has o = o.0 (λ c. refl)
none-stands t e (Row' p n q low high) has o = let w = sym (ap (λ rs. slice_get rs (n - 2)) e) ∙ has.0.written in absurd (cc)

-- a table without rows stands for no conditions
pub stands-none : (t : Table) → t.rows ≡ [] → StandsFor t []
stands-none t e = record { only = λ x has o. absurd (none-stands t e x has o); all = λ g r. absurd r.1 }

pub leftover-left : (fs gs : List Meaning) (g : Meaning) → IsLeftoverOf fs g → IsLeftoverOf (fs ++ gs) g
leftover-left [] gs g l = absurd l
leftover-left (f ∷ fs) gs g (inl l) = inl l
leftover-left (f ∷ fs) gs g (inr l) = inr (leftover-left fs gs g l)

pub leftover-right : (fs gs : List Meaning) (g : Meaning) → IsLeftoverOf gs g → IsLeftoverOf (fs ++ gs) g
leftover-right [] gs g l = l
leftover-right (f ∷ fs) gs g l = inr (leftover-right fs gs g l)

pub leftover-either : (fs gs : List Meaning) (g : Meaning) → IsLeftoverOf (fs ++ gs) g → IsLeftoverOf fs g ⊎ IsLeftoverOf gs g
leftover-either [] gs g l = inr l
leftover-either (f ∷ fs) gs g (inl l) = inl (inl l)
leftover-either (f ∷ fs) gs g (inr l) = elim (leftover-either fs gs g l) [ inl a ↦ inl (inr a) | inr b ↦ inr b ]

pub more-weaken : (n : ℕ) (P Q : Meaning → Type 0) → ((g : Meaning) → P g → Q g) → AreMoreThan n P → AreMoreThan n Q
more-weaken n P Q w m = record {
  listed = m.listed;
  different = record { each = λ i g e. w g (m.different.each i g e); apart = m.different.apart };
  many = m.many;
}

module _ (fs ws : List Meaning) (old new : Table) (stands : StandsFor old fs) where
  needed-row : (g : Meaning) → IsNeeded old ws g → IsRowOf (fs ++ ws) g
  needed-row g n = (
    n.0,
    elim n.1 [
      | inl i ↦
          let e = same i.2 in
          leftover-left fs ws g (subst (IsLeftoverOf fs) (sym e) (stands.only i.0 i.1 (subst IsOpen e n.0)))
      | inr l ↦ leftover-right fs ws g l
    ],
  )

  row-needed : (g : Meaning) → IsRowOf (fs ++ ws) g → IsNeeded old ws g
  row-needed g r = (r.0, elim (leftover-either fs ws g r.1) [ inl l ↦ inl (stands.all g (r.0, l)) | inr l ↦ inr l ])

  -- a table stands for its worked conditions with those of a call behind them, once the call is Ok
  pub stands-after : {A : Type 0} (a : A) → Works ws old new (Ok a) → StandsFor new (fs ++ ws)
  stands-after a w = record {
    only = λ x has o. elim (w.gains.only x has) [ inl h ↦ leftover-left fs ws (value x) (stands.only x h o) | inr l ↦ leftover-right fs ws (value x) l ];
    all = λ g r. elim (leftover-either fs ws g r.1) [
      | inl l ↦ let i = stands.all g (r.0, l) in (i.0, w.keeps i.0 i.1, i.2)
      | inr l ↦ w.all g (r.0, l)
    ];
  }

  -- a call is Ok only where the rows of all worked conditions are within the limit
  pub rows-few : {A : Type 0} (a : A) → Works ws old new (Ok a) → AreMoreThan old.limit (IsRowOf (fs ++ ws)) → ⊥
  rows-few a w m = w.fits (more-weaken old.limit (IsRowOf (fs ++ ws)) (IsNeeded old ws) row-needed m)

  -- and has too many rows only where they are more
  pub rows-many : {A : Type 0} (r : Result A RowsStop) → r ≡ Err TooManyRows → Works ws old new r → AreMoreThan old.limit (IsRowOf (fs ++ ws))
  rows-many r e w = more-weaken old.limit (IsNeeded old ws) (IsRowOf (fs ++ ws)) needed-row (w.too_many e)

-- more worked conditions need no fewer rows
pub rows-more : (n : ℕ) (fs gs : List Meaning) → AreMoreThan n (IsRowOf fs) → AreMoreThan n (IsRowOf (fs ++ gs))
rows-more n fs gs m = more-weaken n (IsRowOf fs) (IsRowOf (fs ++ gs)) (λ g r. (r.0, leftover-left fs gs g r.1)) m
