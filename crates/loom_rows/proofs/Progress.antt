-- A call that works conditions out in several steps.
use Rattle.std.proofs.Common.{◌≡◌, ℕ, inl, inr, ◌||◌, List, [], ◌∷◌, ◌++◌, sym, ap, subst, ◌∙◌, Result, Ok, Err, append_assoc, append-nil}
use Rattle.loom_rows.specs.declared.cond.Cond.{Cond}
use Rattle.loom_rows.specs.declared.stop.RowsStop.{RowsStop}
use Rattle.loom_rows.specs.declared.stop.RowsStop.TheVariants.{TooManyRows, NoMemory}
use Rattle.loom_rows.specs.Condition.{Meaning, value, both, either, negation}
use Rattle.loom_rows.specs.Table.{Table, IsSound}
use Rattle.loom_rows.specs.Leftovers.{AreSame, IsLeftoverOf, IsRowOf, AreMoreThan, IsIn, Gains, IsNeeded, Works}
use Rattle.loom_rows.specs.Formulas.{Work, one_worked, one_next, none_next}
use Rattle.loom_rows.proofs.Conditions.{same}
use Rattle.loom_rows.proofs.Outcomes.{keeps, gains-none, gains-weaken, gains-trans}
use Rattle.loom_rows.proofs.Worked.{none-more, leftover-left, leftover-right, leftover-either, more-weaken}

-- from old to new exactly the rows of these conditions came
pub record Progress (done : List Meaning) (old new : Table) : Type 0 where
  pub gains : Gains (IsLeftoverOf done) old new
  pub sound : IsSound new
  pub all : (g : Meaning) → IsRowOf done g → IsIn new g

pub progress-none : (t : Table) → IsSound t → Progress [] t t
progress-none t sound = record { gains = gains-none _ t; sound = sound; all = λ g r. absurd r.1 }

pub progress-step : {A : Type 0} (done ws : List Meaning) (a b c : Table) (x : A) → Progress done a b → Works ws b c (Ok x) → Progress (done ++ ws) a c
progress-step done ws a b c x p w = record {
  gains = gains-trans (gains-weaken (λ g l. leftover-left done ws g l) p.gains) (gains-weaken (λ g l. leftover-right done ws g l) w.gains);
  sound = w.sound;
  all = λ g r. elim (leftover-either done ws g r.1) [
    | inl l ↦ let i = p.all g (r.0, l) in (i.0, w.keeps i.0 i.1, i.2)
    | inr l ↦ w.all g (r.0, l)
  ];
}

-- the steps are the whole call
pub progress-done : {A : Type 0} (done : List Meaning) (a b : Table) (x : A) → Progress done a b → Works done a b (Ok x)
progress-done done a b x p = record {
  gains = p.gains;
  sound = p.sound;
  keeps = λ y h. keeps p.gains y h;
  all = p.all;
  fits = none-more (IsLeftoverOf done) a b p.gains p.sound (IsNeeded a done)
      (λ g n. (n.0, elim n.1 [ inl i ↦ (i.0, keeps p.gains i.0 i.1, i.2) | inr l ↦ p.all g (n.0, l) ]));
  too_many = λ e. absurd (cc);
}

-- a step stops, and with it the call
pub progress-stop : {A B : Type 0} (done ws rest : List Meaning) (a b c : Table) (e : RowsStop) → Progress done a b → Works {A = A} ws b c (Err e) → Works {A = B} ((done ++ ws) ++ rest) a c (Err e)
progress-stop {A} {B} done ws rest a b c e p w =
    let left : (g : Meaning) → IsLeftoverOf done g → IsLeftoverOf ((done ++ ws) ++ rest) g = λ g l. leftover-left (done ++ ws) rest g (leftover-left done ws g l) in
    let right : (g : Meaning) → IsLeftoverOf ws g → IsLeftoverOf ((done ++ ws) ++ rest) g = λ g l. leftover-left (done ++ ws) rest g (leftover-right done ws g l) in
    record {
      gains = gains-trans (gains-weaken left p.gains) (gains-weaken right w.gains);
      sound = w.sound;
      keeps = λ x h. w.keeps x (keeps p.gains x h);
      all = tt;
      fits = tt;
      too_many = λ q.
          let r : ◌≡◌ {A = Result A RowsStop} (Err e) (Err TooManyRows) = cc in
          subst (λ (n : ℕ). AreMoreThan n (IsNeeded a ((done ++ ws) ++ rest))) p.gains.same_limit
          (more-weaken b.limit (IsNeeded b ws) (IsNeeded a ((done ++ ws) ++ rest))
          (λ g n. (
            n.0,
            elim n.1 [
              | inl i ↦ elim (p.gains.only i.0 i.1) [
                | inl h ↦ inl (i.0, h, i.2)
                | inr l ↦ inr (left g (subst (IsLeftoverOf done) (sym (same i.2)) l))
              ]
              | inr l ↦ inr (right g l)
            ],
          ))
          (w.too_many r));
    }

-- the first step stops
pub stop-first : {A B : Type 0} (ws rest : List Meaning) (a b : Table) (e : RowsStop) → Works {A = A} ws a b (Err e) → Works {A = B} (ws ++ rest) a b (Err e)
stop-first {A} {B} ws rest a b e w = record {
  gains = gains-weaken (λ g l. leftover-left ws rest g l) w.gains;
  sound = w.sound;
  keeps = w.keeps;
  all = tt;
  fits = tt;
  too_many = λ q.
      let r : ◌≡◌ {A = Result A RowsStop} (Err e) (Err TooManyRows) = cc in
      more-weaken a.limit (IsNeeded a ws) (IsNeeded a (ws ++ rest)) (λ g n. (n.0, elim n.1 [ inl i ↦ inl i | inr l ↦ inr (leftover-left ws rest g l) ])) (w.too_many r);
}

-- the call runs out of memory between two steps
pub progress-no_memory : {A : Type 0} (done rest : List Meaning) (a b : Table) → Progress done a b → Works {A = A} (done ++ rest) a b (Err NoMemory)
progress-no_memory done rest a b p = record {
  gains = gains-weaken (λ g l. leftover-left done rest g l) p.gains;
  sound = p.sound;
  keeps = λ x h. keeps p.gains x h;
  all = tt;
  fits = tt;
  too_many = λ q. absurd (cc);
}

pub progress-first : {A : Type 0} (ws : List Meaning) (a b : Table) (x : A) → Works ws a b (Ok x) → Progress ws a b
progress-first ws a b x w = record { gains = w.gains; sound = w.sound; all = w.all }

-- ---- the five steps by which a member is counted

module _ (one none member : Meaning) (t t1 t2 t3 t4 t5 : Table) (e : RowsStop) where
  abbrev W : List Meaning
  W = one_worked one none member

  pub count-stop1 : {A : Type 0} → Works {A = Cond} (negation member ∷ []) t t1 (Err e) → Works {A = A} W t t1 (Err e)
  count-stop1 {A} w = stop-first (negation member ∷ []) _ t t1 e w

  module _ (without : Cond) (w1 : Works (negation member ∷ []) t t1 (Ok without)) (is1 : AreSame (value without) (negation member)) where
    first : Progress (negation member ∷ []) t t1
    first = progress-first (negation member ∷ []) t t1 without w1

    pub count-stop2 : {A : Type 0} → Works {A = Cond} (both one (value without) ∷ []) t1 t2 (Err e) → Works {A = A} W t t2 (Err e)
    count-stop2 {A} w = progress-stop (negation member ∷ []) (both one (negation member) ∷ []) _ t t1 t2 e first (subst (λ (f : Meaning). Works {A = Cond} (both one f ∷ []) t1 t2 (Err e)) (same is1) w)

    module _ (still : Cond) (w2 : Works (both one (value without) ∷ []) t1 t2 (Ok still)) (is2 : AreSame (value still) (both one (value without))) where
      second : Progress (negation member ∷ both one (negation member) ∷ []) t t2
      second = progress-step (negation member ∷ []) (both one (negation member) ∷ []) t t1 t2 still first (subst (λ (f : Meaning). Works (both one f ∷ []) t1 t2 (Ok still)) (same is1) w2)

      pub count-stop3 : {A : Type 0} → Works {A = Cond} (both none member ∷ []) t2 t3 (Err e) → Works {A = A} W t t3 (Err e)
      count-stop3 {A} w = progress-stop (negation member ∷ both one (negation member) ∷ []) (both none member ∷ []) _ t t2 t3 e second w

      module _ (fresh : Cond) (w3 : Works (both none member ∷ []) t2 t3 (Ok fresh)) (is3 : AreSame (value fresh) (both none member)) where
        third : Progress (negation member ∷ both one (negation member) ∷ both none member ∷ []) t t3
        third = progress-step (negation member ∷ both one (negation member) ∷ []) (both none member ∷ []) t t2 t3 fresh second w3

        fourth_is : either (value still) (value fresh) ≡ one_next one none member
        fourth_is = λ i c. (same is2 ∙ ap (both one) (same is1)) i c || same is3 i c

        pub count-stop4 : {A : Type 0} → Works {A = Cond} (either (value still) (value fresh) ∷ []) t3 t4 (Err e) → Works {A = A} W t t4 (Err e)
        count-stop4 {A} w =
            progress-stop (negation member ∷ both one (negation member) ∷ both none member ∷ []) (one_next one none member ∷ []) _ t t3 t4 e third
            (subst (λ (f : Meaning). Works {A = Cond} (f ∷ []) t3 t4 (Err e)) fourth_is w)

        module _ (exactly : Cond) (w4 : Works (either (value still) (value fresh) ∷ []) t3 t4 (Ok exactly)) where
          fourth : Progress (negation member ∷ both one (negation member) ∷ both none member ∷ one_next one none member ∷ []) t t4
          fourth =
              progress-step (negation member ∷ both one (negation member) ∷ both none member ∷ []) (one_next one none member ∷ []) t t3 t4 exactly third
              (subst (λ (f : Meaning). Works (f ∷ []) t3 t4 (Ok exactly)) fourth_is w4)

          pub count-stop5 : {A : Type 0} → Works {A = Cond} (both none (value without) ∷ []) t4 t5 (Err e) → Works {A = A} W t t5 (Err e)
          count-stop5 {A} w =
              progress-stop (negation member ∷ both one (negation member) ∷ both none member ∷ one_next one none member ∷ []) (none_next none member ∷ []) [] t t4 t5 e fourth
              (subst (λ (f : Meaning). Works {A = Cond} (both none f ∷ []) t4 t5 (Err e)) (same is1) w)

          pub count-done : {A : Type 0} → (neither : Cond) → Works (both none (value without) ∷ []) t4 t5 (Ok neither) → (x : A) → Works W t t5 (Ok x)
          count-done neither w5 x =
              progress-done W t t5 x
              (progress-step (negation member ∷ both one (negation member) ∷ both none member ∷ one_next one none member ∷ []) (none_next none member ∷ []) t t4 t5 neither fourth
              (subst (λ (f : Meaning). Works (both none f ∷ []) t4 t5 (Ok neither)) (same is1) w5))

-- ---- a fold over members

-- what is done and what is left make the whole
pub record Folding (total : Work) (holds : Meaning) (rest : Work) (rest_holds : Meaning) (old new : Table) : Type 0 where
  pub done : List Meaning
  pub progress : Progress done old new
  pub worked : total.worked ≡ done ++ rest.worked
  pub meaning : total.meaning ≡ rest.meaning
  pub held : holds ≡ rest_holds

-- a member is worked out in two steps: its own conditions, and those that join it to the earlier members
pub record IsNext (rest : Work) (rest_holds : Meaning) (own join : List Meaning) (after : Work) (after_holds : Meaning) : Type 0 where
  pub worked : rest.worked ≡ (own ++ join) ++ after.worked
  pub meaning : rest.meaning ≡ after.meaning
  pub held : rest_holds ≡ after_holds

module _ (total : Work) (holds : Meaning) (rest : Work) (rest_holds : Meaning) (old t : Table) (f : Folding total holds rest rest_holds old t) where
  pub fold-stop : {A B : Type 0} (own more : List Meaning) → rest.worked ≡ own ++ more → (u : Table) (e : RowsStop) → Works {A = A} own t u (Err e) → Works {A = B} total.worked old u (Err e)
  fold-stop {A} {B} own more next u e w =
      let same_worked : (f.done ++ own) ++ more ≡ total.worked = append_assoc f.done own more ∙ ap (λ l. f.done ++ l) (sym next) ∙ sym f.worked in
      subst (λ (l : List Meaning). Works {A = B} l old u (Err e)) same_worked (progress-stop f.done own more old t u e f.progress w)

  pub fold-stop_join : {A B C : Type 0} (own join more : List Meaning) → rest.worked ≡ (own ++ join) ++ more → (u v : Table) (x : A) (e : RowsStop)
      → Works own t u (Ok x) → Works {A = B} join u v (Err e) → Works {A = C} total.worked old v (Err e)
  fold-stop_join {A} {B} {C} own join more next u v x e w j =
      let same_worked : ((f.done ++ own) ++ join) ++ more ≡ total.worked =
      append_assoc (f.done ++ own) join more ∙ append_assoc f.done own (join ++ more) ∙ ap (λ l. f.done ++ l) (sym (append_assoc own join more) ∙ sym next) ∙ sym f.worked in
      subst (λ (l : List Meaning). Works {A = C} l old v (Err e)) same_worked (progress-stop (f.done ++ own) join more old u v e (progress-step f.done own old t u x f.progress w) j)

  pub fold-next : {A B : Type 0} (own join : List Meaning) (after : Work) (after_holds : Meaning) → IsNext rest rest_holds own join after after_holds → (u v : Table) (x : A) (y : B)
      → Works own t u (Ok x) → Works join u v (Ok y) → Folding total holds after after_holds old v
  fold-next own join after after_holds n u v x y w j = record {
    done = (f.done ++ own) ++ join;
    progress = progress-step (f.done ++ own) join old u v y (progress-step f.done own old t u x f.progress w) j;
    worked = f.worked ∙ ap (λ l. f.done ++ l) (n.worked ∙ append_assoc own join after.worked) ∙ sym (append_assoc f.done own (join ++ after.worked)) ∙ sym (append_assoc (f.done ++ own) join after.worked);
    meaning = f.meaning ∙ n.meaning;
    held = f.held ∙ n.held;
  }

  pub fold-done : {A : Type 0} → rest.worked ≡ [] → (x : A) → Works total.worked old t (Ok x)
  fold-done {A} e x =
      let same_worked : f.done ≡ total.worked = sym (append-nil f.done) ∙ ap (λ l. f.done ++ l) (sym e) ∙ sym f.worked in
      subst (λ (l : List Meaning). Works l old t (Ok x)) same_worked (progress-done f.done old t x f.progress)
