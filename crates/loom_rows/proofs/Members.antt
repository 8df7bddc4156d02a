-- The members of a formula, worked out one after another.
use Rattle.std.proofs.Common.{◌≡◌, ℕ, ◌+◌, ◌<◌, ◌≤◌, Bool, true, false, cond, not, ◌&&◌, ◌||◌, ◌==◌, List, [], ◌∷◌, ◌++◌, map, length, drop, get_or, refl, sym, ap, ◌∙◌, arith, Ok, Err, append_assoc, add-one}
use Rattle.std.specs.List.{count_by}
use Rattle.std.proofs.Math.Seq.{drop-cons}
use Rattle.std.proofs.Math.ListN.{drop_of_length-le}
use Rattle.std.proofs.lemmas.List.Sums.{sum_by-cons}
use Rattle.std.proofs.lemmas.Bool.Decides.{nat_tests}
use Rattle.loom_formula.specs.declared.formula.Formula.{Formula}
use Rattle.loom_formula.specs.Formula.{holds_of}
use Rattle.loom_rows.specs.declared.cond.Cond.{Cond, Never, Always}
use Rattle.loom_rows.specs.declared.stop.RowsStop.{RowsStop}
use Rattle.loom_rows.specs.Condition.{Meaning, value}
use Rattle.loom_rows.specs.Table.{Table, Has, IsSound}
use Rattle.loom_rows.specs.Leftovers.{AreSame, Works}
use Rattle.loom_rows.specs.Formulas.{Work, never, always, all_work, any_work, one_work, work_of, meaning_of, all_hold, any_holds, one_holds, one_worked, one_next, none_next}
use Rattle.loom_rows.proofs.Conditions.{same}
use Rattle.loom_rows.proofs.Progress.{Folding, progress-none, fold-stop, fold-stop_join, fold-next, fold-done}

-- the members from the k-th on begin with the k-th
drop-member : (members : List Formula) (k : ℕ) (m : Formula) → k < length members → m ≡ get_or members k m → drop k members ≡ m ∷ drop (k + 1) members
drop-member members k m lt at = drop-cons members k m lt ∙ λ i. sym at i ∷ drop (sym (add-one k) i) members

-- ---- a conjunction or a disjunction

module _ (op : Bool → Bool → Bool) (unit : Bool) (assoc : (x y z : Bool) → op x (op y z) ≡ op (op x y) z) (right : (x : Bool) → op x unit ≡ x)
    (work : Meaning → List Work → Work) (hold : List (List ℕ) → List Formula → Meaning) where
  abbrev joined : Meaning → Meaning → Meaning
  joined f g c = op (f c) (g c)

  -- how the work of members goes on, and how they hold
  pub record IsJoin : Type 0 where
    pub work_end : (f : Meaning) → work f [] ≡ record { worked = []; meaning = f }
    pub work_more : (f : Meaning) (w : Work) (ws : List Work) → work f (w ∷ ws) ≡ record { worked = (w.worked ++ joined f w.meaning ∷ []) ++ (work (joined f w.meaning) ws).worked; meaning = (work (joined f w.meaning) ws).meaning }
    pub hold_end : (options : List (List ℕ)) (c : ℕ → Bool) → hold options [] c ≡ unit
    pub hold_more : (options : List (List ℕ)) (m : Formula) (ms : List Formula) (c : ℕ → Bool) → hold options (m ∷ ms) c ≡ op (meaning_of options m c) (hold options ms c)

  -- the members before the k-th are worked out, and x is what they make together
  pub record SoFar (options : List (List ℕ)) (members : List Formula) (first : Meaning) (k : ℕ) (old t : Table) (x : Cond) : Type 0 where
    pub has : Has t x
    pub same_options : t.options ≡ old.options
    pub fold : Folding (work first (map (work_of options) members)) (λ c. op (first c) (hold options members c)) (work (value x) (map (work_of options) (drop k members))) (λ c. op (value x c) (hold options (drop k members) c)) old t

  module _ (join : IsJoin) (options : List (List ℕ)) (members : List Formula) (first : Meaning) where
    pub so_far-init : (t : Table) → IsSound t → (x : Cond) → Has t x → value x ≡ first → SoFar options members first 0 t t x
    so_far-init t sound x has is = record {
      has = has;
      same_options = refl;
      fold = record {
        done = [];
        progress = progress-none t sound;
        worked = ap (λ f. (work f (map (work_of options) members)).worked) (sym is);
        meaning = ap (λ f. (work f (map (work_of options) members)).meaning) (sym is);
        held = λ i c. op (sym is i c) (hold options members c);
      };
    }

    module _ (k : ℕ) (m : Formula) (lt : k < length members) (at : m ≡ get_or members k m) (old t : Table) (x : Cond) (s : SoFar options members first k old t x) where
      abbrev own : List Meaning
      own = (work_of options m).worked

      next_work : work (value x) (map (work_of options) (drop k members)) ≡ record {
        worked = (own ++ joined (value x) (work_of options m).meaning ∷ []) ++ (work (joined (value x) (work_of options m).meaning) (map (work_of options) (drop (k + 1) members))).worked;
        meaning = (work (joined (value x) (work_of options m).meaning) (map (work_of options) (drop (k + 1) members))).meaning;
      }
      next_work = ap (λ ms. work (value x) (map (work_of options) ms)) (drop-member members k m lt at) ∙ join.work_more (value x) (work_of options m) (map (work_of options) (drop (k + 1) members))

      pub so_far-stop : (u : Table) (e : RowsStop) → Works {A = Cond} own t u (Err e) → Works {A = Cond} (work first (map (work_of options) members)).worked old u (Err e)
      so_far-stop u e w =
          fold-stop _ _ _ _ old t s.fold own _
          (ap (λ v. v.worked) next_work ∙ append_assoc own (joined (value x) (work_of options m).meaning ∷ []) (work (joined (value x) (work_of options m).meaning) (map (work_of options) (drop (k + 1) members))).worked) u e w

      module _ (u : Table) (y : Cond) (w : Works own t u (Ok y)) (is : AreSame (value y) (work_of options m).meaning) where
        split : (work (value x) (map (work_of options) (drop k members))).worked ≡ (own ++ joined (value x) (value y) ∷ []) ++ (work (joined (value x) (value y)) (map (work_of options) (drop (k + 1) members))).worked
        split =
            ap (λ v. v.worked) next_work
            ∙ ap (λ f. (own ++ joined (value x) f ∷ []) ++ (work (joined (value x) f) (map (work_of options) (drop (k + 1) members))).worked) (sym (same is))

        pub so_far-has : Has u x
        so_far-has = w.keeps x s.has

        pub so_far-stop_join : (v : Table) (e : RowsStop) → Works {A = Cond} (joined (value x) (value y) ∷ []) u v (Err e) → Works {A = Cond} (work first (map (work_of options) members)).worked old v (Err e)
        so_far-stop_join v e j = fold-stop_join _ _ _ _ old t s.fold own (joined (value x) (value y) ∷ []) _ split u v y e w j

        pub so_far-next : AreSame (value y) (meaning_of options m) → (v : Table) (z : Cond) → Works (joined (value x) (value y) ∷ []) u v (Ok z) → Has v z → AreSame (value z) (joined (value x) (value y))
            → SoFar options members first (k + 1) old v z
        so_far-next holds v z j has_z is_z = record {
          has = has_z;
          same_options = j.gains.same_options ∙ w.gains.same_options ∙ s.same_options;
          fold =
              fold-next _ _ _ _ old t s.fold own (joined (value x) (value y) ∷ []) _ _
              (record {
                worked = split ∙ ap (λ f. (own ++ joined (value x) (value y) ∷ []) ++ (work f (map (work_of options) (drop (k + 1) members))).worked) (sym (same is_z));
                meaning = ap (λ v. v.meaning) next_work ∙ ap (λ f. (work f (map (work_of options) (drop (k + 1) members))).meaning) (ap (joined (value x)) (sym (same is)) ∙ sym (same is_z));
                held = same (λ c.
                    ap (λ ms. op (value x c) (hold options ms c)) (drop-member members k m lt at)
                    ∙ ap (op (value x c)) (join.hold_more options m (drop (k + 1) members) c)
                    ∙ assoc (value x c) (meaning_of options m c) (hold options (drop (k + 1) members) c)
                    ∙ ap (λ b. op (op (value x c) b) (hold options (drop (k + 1) members) c)) (sym (holds c))
                    ∙ ap (λ b. op b (hold options (drop (k + 1) members) c)) (sym (is_z c)));
              })
              u v y z w j;
        }

    module _ (k : ℕ) (past : length members ≤ k) (old t : Table) (x : Cond) (s : SoFar options members first k old t x) where
      end_work : work (value x) (map (work_of options) (drop k members)) ≡ record { worked = []; meaning = value x }
      end_work = ap (λ ms. work (value x) (map (work_of options) ms)) (drop_of_length-le members past) ∙ join.work_end (value x)

      pub so_far-works : Works (work first (map (work_of options) members)).worked old t (Ok x)
      so_far-works = fold-done _ _ _ _ old t s.fold (ap (λ v. v.worked) end_work) x

      pub so_far-meaning : AreSame (value x) (work first (map (work_of options) members)).meaning
      so_far-meaning c = ap (λ f. f c) (sym (s.fold.meaning ∙ ap (λ v. v.meaning) end_work))

      pub so_far-value : (c : ℕ → Bool) → value x c ≡ op (first c) (hold options members c)
      so_far-value c =
          sym (ap (λ f. f c) s.fold.held ∙ ap (λ ms. op (value x c) (hold options ms c)) (drop_of_length-le members past) ∙ ap (op (value x c)) (join.hold_end options c) ∙ right (value x c))

pub and_assoc : (x y z : Bool) → (x && (y && z)) ≡ ((x && y) && z)
and_assoc true y z = refl
and_assoc false y z = refl

pub and_unit : (x : Bool) → (x && true) ≡ x
and_unit true = refl
and_unit false = refl

pub or_assoc : (x y z : Bool) → (x || (y || z)) ≡ ((x || y) || z)
or_assoc true y z = refl
or_assoc false y z = refl

pub or_unit : (x : Bool) → (x || false) ≡ x
or_unit true = refl
or_unit false = refl

abbrev pub AllSoFar : List (List ℕ) → List Formula → ℕ → Table → Table → Cond → Type 0
AllSoFar options members k old t x = SoFar ◌&&◌ true and_assoc and_unit all_work all_hold options members always k old t x

abbrev pub AnySoFar : List (List ℕ) → List Formula → ℕ → Table → Table → Cond → Type 0
AnySoFar options members k old t x = SoFar ◌||◌ false or_assoc or_unit any_work any_holds options members never k old t x

pub all_join : IsJoin ◌&&◌ true and_assoc and_unit all_work all_hold
all_join = record { work_end = λ f. refl; work_more = λ f w ws. refl; hold_end = λ o c. refl; hold_more = λ o m ms c. refl }

pub any_join : IsJoin ◌||◌ false or_assoc or_unit any_work any_holds
any_join = record { work_end = λ f. refl; work_more = λ f w ws. refl; hold_end = λ o c. refl; hold_more = λ o m ms c. refl }

-- ---- exactly one

abbrev count_of : List (List ℕ) → List Formula → (ℕ → Bool) → ℕ
count_of options members c = count_by (λ member. holds_of member options c) members

-- exactly one of all members holds: one of those before and none of the rest, or none of those before and one of the rest
abbrev one_left : Meaning → Meaning → List (List ℕ) → List Formula → Meaning
one_left one none options rest c = (one c && count_of options rest c == 0) || (none c && count_of options rest c == 1)

pub record OneSoFar (options : List (List ℕ)) (members : List Formula) (k : ℕ) (old t : Table) (one none : Cond) : Type 0 where
  pub has_one : Has t one
  pub has_none : Has t none
  pub same_options : t.options ≡ old.options
  pub fold : Folding (one_work never always (map (work_of options) members)) (one_holds options members) (one_work (value one) (value none) (map (work_of options) (drop k members))) (one_left (value one) (value none) options (drop k members)) old t

one_step : (one none h : Bool) (n : ℕ) → ((one && (cond h 1 0 + n) == 0) || (none && (cond h 1 0 + n) == 1)) ≡ ((((one && not h) || (none && h)) && n == 0) || ((none && not h) && n == 1))
one_step true true true n = grind (arith, nat_tests)
one_step true true false n = grind (arith, nat_tests)
one_step true false true n = grind (arith, nat_tests)
one_step true false false n = grind (arith, nat_tests)
one_step false true true n = grind (arith, nat_tests)
one_step false true false n = grind (arith, nat_tests)
one_step false false true n = grind (arith, nat_tests)
one_step false false false n = grind (arith, nat_tests)

module _ (options : List (List ℕ)) (members : List Formula) where
  pub one_so_far-init : (t : Table) → IsSound t → OneSoFar options members 0 t t Never Always
  one_so_far-init t sound = record {
    has_one = tt;
    has_none = tt;
    same_options = refl;
    fold = record { done = []; progress = progress-none t sound; worked = refl; meaning = refl; held = refl };
  }

  module _ (k : ℕ) (m : Formula) (lt : k < length members) (at : m ≡ get_or members k m) (old t : Table) (one none : Cond) (s : OneSoFar options members k old t one none) where
    abbrev one_own : List Meaning
    one_own = (work_of options m).worked

    abbrev one_rest : Meaning → Work
    one_rest f = one_work (one_next (value one) (value none) f) (none_next (value none) f) (map (work_of options) (drop (k + 1) members))

    one_next_work : one_work (value one) (value none) (map (work_of options) (drop k members)) ≡ record {
      worked = (one_own ++ one_worked (value one) (value none) (work_of options m).meaning) ++ (one_rest (work_of options m).meaning).worked;
      meaning = (one_rest (work_of options m).meaning).meaning;
    }
    one_next_work = ap (λ ms. one_work (value one) (value none) (map (work_of options) ms)) (drop-member members k m lt at)

    pub one_so_far-stop : (u : Table) (e : RowsStop) → Works {A = Cond} one_own t u (Err e) → Works {A = Cond} (one_work never always (map (work_of options) members)).worked old u (Err e)
    one_so_far-stop u e w =
        fold-stop _ _ _ _ old t s.fold one_own _
        (ap (λ v. v.worked) one_next_work ∙ append_assoc one_own (one_worked (value one) (value none) (work_of options m).meaning) (one_rest (work_of options m).meaning).worked) u e w

    module _ (u : Table) (y : Cond) (w : Works one_own t u (Ok y)) (is : AreSame (value y) (work_of options m).meaning) where
      one_split : (one_work (value one) (value none) (map (work_of options) (drop k members))).worked ≡ (one_own ++ one_worked (value one) (value none) (value y)) ++ (one_rest (value y)).worked
      one_split = ap (λ v. v.worked) one_next_work ∙ ap (λ f. (one_own ++ one_worked (value one) (value none) f) ++ (one_rest f).worked) (sym (same is))

      pub one_so_far-has_one : Has u one
      one_so_far-has_one = w.keeps one s.has_one

      pub one_so_far-has_none : Has u none
      one_so_far-has_none = w.keeps none s.has_none

      pub one_so_far-stop_join : {A : Type 0} (v : Table) (e : RowsStop) → Works {A = A} (one_worked (value one) (value none) (value y)) u v (Err e) → Works {A = Cond} (one_work never always (map (work_of options) members)).worked old v (Err e)
      one_so_far-stop_join v e j = fold-stop_join _ _ _ _ old t s.fold one_own (one_worked (value one) (value none) (value y)) _ one_split u v y e w j

      pub one_so_far-next : {A : Type 0} → AreSame (value y) (meaning_of options m) → (v : Table) (a : A) (p q : Cond) → Works (one_worked (value one) (value none) (value y)) u v (Ok a) → Has v p → Has v q
          → AreSame (value p) (one_next (value one) (value none) (value y)) → AreSame (value q) (none_next (value none) (value y)) → OneSoFar options members (k + 1) old v p q
      one_so_far-next holds v a p q j has_p has_q is_p is_q = record {
        has_one = has_p;
        has_none = has_q;
        same_options = j.gains.same_options ∙ w.gains.same_options ∙ s.same_options;
        fold =
            fold-next _ _ _ _ old t s.fold one_own (one_worked (value one) (value none) (value y)) _ _
            (record {
              worked = one_split ∙ λ i. (one_own ++ one_worked (value one) (value none) (value y)) ++ (one_work (sym (same is_p) i) (sym (same is_q) i) (map (work_of options) (drop (k + 1) members))).worked;
              meaning = ap (λ v. v.meaning) one_next_work ∙ ap (λ f. (one_rest f).meaning) (sym (same is)) ∙ λ i. (one_work (sym (same is_p) i) (sym (same is_q) i) (map (work_of options) (drop (k + 1) members))).meaning;
              held = same (λ c.
                  let h = meaning_of options m c in
                  let n = count_of options (drop (k + 1) members) c in
                  ap (λ ms. one_left (value one) (value none) options ms c) (drop-member members k m lt at)
                  ∙ ap (λ d. (value one c && d == 0) || (value none c && d == 1)) (sum_by-cons (λ member. cond (holds_of member options c) 1 0) m (drop (k + 1) members))
                  ∙ one_step (value one c) (value none c) h n
                  ∙ ap (λ b. (((value one c && not b) || (value none c && b)) && n == 0) || ((value none c && not b) && n == 1)) (sym (holds c))
                  ∙ λ i. (sym (is_p c) i && n == 0) || (sym (is_q c) i && n == 1));
            })
            u v y a w j;
      }

  module _ (k : ℕ) (past : length members ≤ k) (old t : Table) (one none : Cond) (s : OneSoFar options members k old t one none) where
    one_end : one_work (value one) (value none) (map (work_of options) (drop k members)) ≡ record { worked = []; meaning = value one }
    one_end = ap (λ ms. one_work (value one) (value none) (map (work_of options) ms)) (drop_of_length-le members past)

    pub one_so_far-works : Works (one_work never always (map (work_of options) members)).worked old t (Ok one)
    one_so_far-works = fold-done _ _ _ _ old t s.fold (ap (λ v. v.worked) one_end) one

    pub one_so_far-meaning : AreSame (value one) (one_work never always (map (work_of options) members)).meaning
    one_so_far-meaning c = ap (λ f. f c) (sym (s.fold.meaning ∙ ap (λ v. v.meaning) one_end))

    pub one_so_far-value : AreSame (value one) (one_holds options members)
    one_so_far-value c = sym (ap (λ f. f c) s.fold.held ∙ ap (λ ms. one_left (value one) (value none) options ms c) (drop_of_length-le members past) ∙ last (value one c) (value none c))
      where
        last : (x y : Bool) → ((x && true) || (y && false)) ≡ x
        last true true = refl
        last true false = refl
        last false true = refl
        last false false = refl
