-- The conditions of the sets at positions, and what a wire's condition has to do with them.
use Rattle.std.proofs.Common.{◌≡◌, ℕ, zero, suc, ◌+◌, ◌<◌, inl, inr, List, [], ◌∷◌, ◌++◌, Option, Some, None, length, get_or, take, map, refl, sym, ap, ap₂, subst, ◌∙◌, arith, Contains, Ok, Err}
use Rattle.std.specs.List.{All, filter_map, slice_get, cons_option}
use Rattle.std.specs.Cmp.{both_ways}
use Rattle.std.proofs.lemmas.List.{map-append}
use Rattle.std.proofs.lemmas.List.Elements.{All-contains}
use Rattle.std.proofs.lemmas.Option.{same_Some}
use Rattle.loom_base.proofs.Contained.{Contains-here, Contains-cons, Contains-cases}
use Rattle.loom_formula.specs.RowList.{value_of}
use Rattle.loom_rows.specs.declared.cond.Cond.{Cond}
use Rattle.loom_rows.specs.declared.stop.RowsStop.{RowsStop}
use Rattle.loom_rows.specs.declared.stop.RowsStop.TheVariants.{TooManyRows, NoMemory}
use Rattle.loom_rows.specs.Condition.{Meaning, value}
use Rattle.loom_rows.specs.Disjunction.{some_hold}
use Rattle.loom_rows.specs.Leftovers.{AreSame, IsLeftoverOf, Works}
use Rattle.loom_rows.specs.Printing.{AreHad}
use Rattle.loom_rows.specs.RowLists.{meaning_at, AreConditionsOf}
use Rattle.loom_rows.specs.Table.{Table, Has, IsSound}
use Rattle.loom_rows.proofs.Outcomes.{gains-none}
use Rattle.loom_rows.specs.Taken.{cond_at}
use Rattle.loom_types.specs.declared.plan.Plan.{Plan}
use Rattle.loom_types.specs.declared.plan.SetLine.{SetLine}
use Rattle.loom_types.specs.declared.wire.Wire.{Wire}
use Rattle.loom_audit.proofs.TreeTests.{filter_map-more}
use Rattle.loom_check.specs.Stages.{conditions_of}
use Rattle.loom_check.specs.WireConditions.{sets_at, HoldsWithSets}
use Rattle.loom_check.proofs.AgreeingLines.{element}
use Rattle.loom_check.proofs.PrintedConditions.{condition-has, condition-same}

-- ---- a call's outcome with another answer

pub works-as : {A B : Type 0} (ws : List Meaning) (old new : Table) (x : A) (y : B) → Works ws old new (Ok x) → Works ws old new (Ok y)
works-as ws old new x y works = record {
  gains = works.gains;
  sound = works.sound;
  keeps = works.keeps;
  all = works.all;
  fits = works.fits;
  too_many = λ e. absurd (cc);
}

pub works-stopped : (A B : Type 0) (ws : List Meaning) (old new : Table) (stop : RowsStop) → Works {A = A} ws old new (Err stop)
    → Works {A = B} ws old new (Err stop)
works-stopped A B ws old new TooManyRows works = record {
  gains = works.gains;
  sound = works.sound;
  keeps = works.keeps;
  all = tt;
  fits = tt;
  too_many = λ e. works.too_many refl;
}
works-stopped A B ws old new NoMemory works = record {
  gains = works.gains;
  sound = works.sound;
  keeps = works.keeps;
  all = tt;
  fits = tt;
  too_many = λ e. absurd (cc);
}

pub works-not_yet : (A : Type 0) (ws : List Meaning) (t : Table) → IsSound t → Works {A = A} ws t t (Err NoMemory)
works-not_yet A ws t sound = record {
  gains = gains-none (IsLeftoverOf ws) t;
  sound = sound;
  keeps = λ x has. has;
  all = tt;
  fits = tt;
  too_many = λ e. absurd (cc);
}

-- ---- what a list of picks holds

module _ {X Y : Type 0} (h : X → Option Y) where
  -- the element that gives it
  abbrev pub Gives : List X → Y → Type 0
  Gives xs y = (x : X) × Contains xs x × (h x ≡ Some y)

  from-cases : (x : X) (xs : List X) (y : Y) → (Contains (filter_map h xs) y → Gives xs y)
      → (o : Option Y) → h x ≡ o → Contains (cons_option o (filter_map h xs)) y → Gives (x ∷ xs) y
  from-cases x xs y from None is later = let (z, at, e) = from later in (z, Contains-cons z x xs at, e)
  from-cases x xs y from (Some w) is here = elim (Contains-cases y w (filter_map h xs) here) [
    | inl e ↦ (x, Contains-here x xs, is ∙ ap Some e)
    | inr later ↦ let (z, at, e) = from later in (z, Contains-cons z x xs at, e)
  ]

  pub from-picks : (xs : List X) (y : Y) → Contains (filter_map h xs) y → Gives xs y
  from-picks [] y (k, below, at) = absurd (omega (arith, below))
  from-picks (x ∷ xs) y listed = from-cases x xs y (λ later. from-picks xs y later) (h x) refl listed

  behind : (o : Option Y) (ys : List Y) (y : Y) → Contains ys y → Contains (cons_option o ys) y
  behind None ys y at = at
  behind (Some w) ys y at = Contains-cons y w ys at

  pub into-picks : (xs : List X) (x : X) (y : Y) → Contains xs x → h x ≡ Some y → Contains (filter_map h xs) y
  into-picks [] x y (k, below, at) is = absurd (omega (arith, below))
  into-picks (z ∷ xs) x y listed is = elim (Contains-cases x z xs listed) [
    | inl e ↦
        subst (λ (o : Option Y). Contains (cons_option o (filter_map h xs)) y) (sym (ap h e ∙ is)) (Contains-here y (filter_map h xs))
    | inr later ↦ behind (h z) (filter_map h xs) y (into-picks xs x y later is)
  ]

  pub picks-length : (xs : List X) → ((x : X) → Contains xs x → (y : Y) × (h x ≡ Some y)) → length (filter_map h xs) ≡ length xs
  picks-length [] each = refl
  picks-length (x ∷ xs) each =
      let (y, is) = each x (Contains-here x xs) in
      ap (λ (o : Option Y). length (cons_option o (filter_map h xs))) is
      ∙ ap suc (picks-length xs (λ z at. each z (Contains-cons z x xs at)))

module _ (plan : Plan) (conds : List Cond) where
  abbrev pub conds_of : List SetLine → List Cond
  conds_of sets = map (λ (set : SetLine). cond_at conds set.row) sets

  -- with the set at one position more
  pub conditions-more : (positions : List ℕ) (k : ℕ) (set : SetLine) → k < length positions → slice_get plan.sets (get_or positions k 0) ≡ Some set
      → conds_of (sets_at plan (take (k + 1) positions)) ≡ conds_of (sets_at plan (take k positions)) ++ cond_at conds set.row ∷ []
  conditions-more positions k set within is =
      ap conds_of
      (filter_map-more (slice_get plan.sets) positions k 0 within
      ∙ ap (λ (o : Option SetLine). sets_at plan (take k positions) ++ filter_map (λ (s : Option SetLine). s) (o ∷ [])) is)
      ∙ map-append (λ (s : SetLine). cond_at conds s.row) (sets_at plan (take k positions)) (set ∷ [])

  module _ (t : Table) (counted : length conds ≡ length plan.rows) (are : AreConditionsOf plan.rows t conds) where
    abbrev Refer : List SetLine → Type 0
    Refer sets = (set : SetLine) → Contains sets set → set.row < length plan.rows + 2

    pub conditions-had : (sets : List SetLine) → Refer sets → AreHad t (conds_of sets)
    conditions-had [] refer i x e = absurd (cc)
    conditions-had (set ∷ sets) refer zero x e =
        subst (Has t) (same_Some (cond_at conds set.row) x e) (condition-has plan.rows t conds set.row are counted (refer set (Contains-here set sets)))
    conditions-had (set ∷ sets) refer (suc i) x e = conditions-had sets (λ s at. refer s (Contains-cons s set sets at)) i x e

    pub conditions-mean : (sets : List SetLine) → Refer sets → map value (conds_of sets) ≡ conditions_of plan sets
    conditions-mean [] refer = refl
    conditions-mean (set ∷ sets) refer =
        ap₂ (λ (f : Meaning) (fs : List Meaning). f ∷ fs)
        (λ i c. condition-same plan.rows t conds set.row are counted (refer set (Contains-here set sets)) c i)
        (conditions-mean sets (λ s at. refer s (Contains-cons s set sets at)))

  module _ (w : Wire) (sets : List SetLine) (any own : Cond) (told : AreSame (value any) (some_hold (conditions_of plan sets)))
      (means : AreSame (value own) (meaning_at plan.rows w.row)) where
    pub same-holds : 0 < length sets → AreSame (value any) (value own) → HoldsWithSets plan w sets
    same-holds some same = record {
      some = some;
      condition = λ choice.
          let e : value_of plan.rows choice w.row ≡ some_hold (conditions_of plan sets) choice = sym (means choice) ∙ (sym (same choice) ∙ told choice) in
          (λ yes. sym e ∙ yes, λ yes. e ∙ yes);
    }

    pub holds-same : HoldsWithSets plan w sets → AreSame (value any) (value own)
    holds-same holds choice =
        told choice
        ∙ sym (both_ways (value_of plan.rows choice w.row) (some_hold (conditions_of plan sets) choice) (holds.condition choice).0 (holds.condition choice).1)
        ∙ sym (means choice)

module _ (plan : Plan) (positions : List ℕ) (within : All (λ at. at < length plan.sets) positions) where
  pub at-printed : (set : SetLine) → Contains (sets_at plan positions) set → (at : ℕ) × Contains positions at × (slice_get plan.sets at ≡ Some set)
  at-printed set listed = from-picks (slice_get plan.sets) positions set listed

  pub sets-refer : ((i : ℕ) (set : SetLine) → slice_get plan.sets i ≡ Some set → set.row < length plan.rows + 2)
      → (set : SetLine) → Contains (sets_at plan positions) set → set.row < length plan.rows + 2
  sets-refer refer set listed = let (at, _, stands) = at-printed set listed in refer at set stands

  pub as-many : length (sets_at plan positions) ≡ length positions
  as-many = picks-length (slice_get plan.sets) positions (λ at listed. element plan.sets at (All-contains (λ n. n < length plan.sets) positions at within listed))
