-- Worked conditions that need the same rows.
use Rattle.std.proofs.Common.{◌⊎◌, inl, inr, List, [], ◌∷◌, sym, subst, ◌∙◌, Result, Ok, Err, OnOk, Contains, arith}
use Rattle.loom_base.proofs.Contained.{Contains-here, Contains-cons, Contains-cases}
use Rattle.loom_rows.specs.declared.stop.RowsStop.{RowsStop}
use Rattle.loom_rows.specs.Condition.{Meaning}
use Rattle.loom_rows.specs.Table.{Table}
use Rattle.loom_rows.specs.Leftovers.{IsOpen, IsLeftover, IsLeftoverOf, IsRowOf, AreMoreThan, IsIn, IsNeeded, Works}
use Rattle.loom_rows.specs.Meet.{IsNever}
use Rattle.loom_rows.proofs.Outcomes.{gains-weaken}
use Rattle.loom_rows.proofs.Worked.{more-weaken}

-- a leftover of some condition of a list
pub leftover-some : (fs : List Meaning) (g : Meaning) → IsLeftoverOf fs g → (f : Meaning) × Contains fs f × IsLeftover f g
leftover-some [] g l = absurd l
leftover-some (f ∷ fs) g (inl l) = (f, Contains-here f fs, l)
leftover-some (f ∷ fs) g (inr l) = let s = leftover-some fs g l in (s.0, Contains-cons s.0 f fs s.1, s.2)

pub some-leftover : (fs : List Meaning) (f g : Meaning) → Contains fs f → IsLeftover f g → IsLeftoverOf fs g
some-leftover [] f g (k, lt, e) l = absurd (omega arith)
some-leftover (h ∷ fs) f g at l =
    elim (Contains-cases f h fs at) [
      | inl e ↦ inl (subst (λ (x : Meaning). IsLeftover x g) (sym e) l)
      | inr rest ↦ inr (some-leftover fs f g rest l)
    ]

-- what never holds has no row
pub never-closed : (f g : Meaning) → IsNever f → IsLeftover f g → IsOpen g → ⊥
never-closed f g never l o = o.1 (λ d. l.2 d ∙ never _)

-- each condition of one list is one of the other, or never holds
abbrev pub AreAmong : List Meaning → List Meaning → Type 0
AreAmong fs gs = (f : Meaning) → Contains fs f → Contains gs f ⊎ IsNever f

among-row : (fs gs : List Meaning) → AreAmong fs gs → (g : Meaning) → IsRowOf fs g → IsRowOf gs g
among-row fs gs among g r =
    let s = leftover-some fs g r.1 in
    elim (among s.0 s.1) [
      | inl at ↦ (r.0, some-leftover gs s.0 g at s.2)
      | inr never ↦ absurd (never-closed s.0 g never s.2 r.0)
    ]

among-needed : (t : Table) (fs gs : List Meaning) → AreAmong fs gs → (g : Meaning) → IsNeeded t fs g → IsNeeded t gs g
among-needed t fs gs among g n = (n.0, elim n.1 [ inl i ↦ inl i | inr l ↦ inr (among-row fs gs among g (n.0, l)).1 ])

-- a call that works one list out works the other out, where each condition of the one is of the other, and the other's are of the one or
-- never hold
pub works-alike : {A : Type 0} (fs gs : List Meaning) (old new : Table) (r : Result A RowsStop) → ((f : Meaning) → Contains fs f → Contains gs f) → AreAmong gs fs
    → Works fs old new r → Works gs old new r
works-alike {A} fs gs old new r into among w = record {
  gains = gains-weaken (λ g l. let s = leftover-some fs g l in some-leftover gs s.0 g (into s.0 s.1) s.2) w.gains;
  sound = w.sound;
  keeps = w.keeps;
  all = all-of r w.all;
  fits = fits-of r w.fits;
  too_many = λ e. more-weaken old.limit (IsNeeded old fs) (IsNeeded old gs) (among-needed old fs gs (λ f at. inl (into f at))) (w.too_many e);
}
  where
    all-of : (s : Result A RowsStop) → OnOk s ((g : Meaning) → IsRowOf fs g → IsIn new g) → OnOk s ((g : Meaning) → IsRowOf gs g → IsIn new g)
    all-of (Ok x) all = λ g row. all g (among-row gs fs among g row)
    all-of (Err e) all = tt

    fits-of : (s : Result A RowsStop) → OnOk s (AreMoreThan old.limit (IsNeeded old fs) → ⊥) → OnOk s (AreMoreThan old.limit (IsNeeded old gs) → ⊥)
    fits-of (Ok x) fits = λ more. fits (more-weaken old.limit (IsNeeded old gs) (IsNeeded old fs) (among-needed old gs fs among) more)
    fits-of (Err e) fits = tt
