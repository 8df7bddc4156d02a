-- The patterns of signs of a net, terminal after terminal.
use Rattle.std.proofs.Common.{◌≡◌, ℕ, suc, ◌+◌, ◌*◌, ◌^◌, ◌<◌, ◌≤◌, Bool, true, false, ◌&&◌, ◌==◌, List, [], ◌∷◌, ◌++◌, length, get_or, take, refl, sym, ap, subst, ◌∙◌, arith, Contains, Result, Ok, Err, Some}
use Rattle.std.specs.List.{flat_map, range_with_len}
use Rattle.std.proofs.Math.Pow.{pow_mono}
use Rattle.std.proofs.Math.Nat.{pow-succ'}
use Rattle.std.proofs.lemmas.Bool.{and_parts, eqb-true}
use Rattle.std.proofs.lemmas.Option.{slice_get-get_or}
use Rattle.std.proofs.lemmas.List.{get_or-map, length-map, length-take-le, take_more, take_all}
use Rattle.std.proofs.lemmas.List.FromFn.{get_or-range_with_len, length-range_with_len}
use Rattle.loom_base.proofs.Contained.{Contains-one, Contains-here}
use Rattle.loom_rows.specs.declared.cond.Cond.{Cond}
use Rattle.loom_rows.specs.declared.stop.RowsStop.{RowsStop}
use Rattle.loom_rows.specs.declared.stop.RowsStop.TheVariants.{NoMemory}
use Rattle.loom_rows.specs.Condition.{Meaning, value, negation}
use Rattle.loom_rows.specs.Table.{Table, Has, IsSound}
use Rattle.loom_rows.specs.Leftovers.{AreSame, Works}
use Rattle.loom_rows.specs.Formulas.{never}
use Rattle.loom_rows.specs.Meet.{IsPossible}
use Rattle.loom_rows.proofs.Conditions.{same}
use Rattle.loom_rows.proofs.Progress.{Progress, progress-none, stop-first}
use Rattle.loom_rows.proofs.WorkFolds.{works-then}
use Rattle.loom_active.specs.declared.patterns.Pattern.{Pattern}
use Rattle.loom_active.specs.declared.terminals.Terminal.{Terminal}
use Rattle.loom_active.specs.LiveWork.{signed, patterns, signs_worked}
use Rattle.loom_active.specs.Patterns.{ArePatterns, AreJoinedWith, HasEach, LeaveRoom, joined_worked}
use Rattle.loom_active.specs.Terminals.{whens_of, HasWhens}
use Rattle.loom_active.proofs.PatternLemmas.{split-works, split-patterns}
use Rattle.loom_active.proofs.Steps.{step-next, step-stop, step-no_memory, step-done}

-- what is worked out at the k-th formula
abbrev pub sign_step : Meaning → List Meaning → ℕ → List Meaning
sign_step valid fs k = negation (get_or fs k never) ∷ patterns valid (take (k + 1) fs)

-- the patterns of the first k terminals are worked out
pub record PatternsSoFar (valid : Meaning) (terminals : List Terminal) (k : ℕ) (old t : Table) (ps : List Pattern) (bit : ℕ) : Type 0 where
  pub progress : Progress (flat_map (sign_step valid (whens_of terminals)) (take k (range_with_len 0 (length (whens_of terminals))))) old t
  pub patterns : ArePatterns t valid (take k (whens_of terminals)) ps
  pub bit_is : bit ≡ 2 ^ k
  pub keeps : (x : Cond) → Has old x → Has t x

-- the pattern without signs
abbrev pub unsigned : Cond → Pattern
unsigned valid = record { mask = 0; cond = valid }

-- at first it is the only one
pub patterns-init : (valid : Cond) (terminals : List Terminal) (t : Table) → IsSound t → Has t valid → IsPossible (value valid) → (ps : List Pattern) → ps ≡ record { mask = 0; cond = valid } ∷ []
    → PatternsSoFar (value valid) terminals 0 t t ps 1
patterns-init valid terminals t sound has some ps e = subst (λ (l : List Pattern). PatternsSoFar (value valid) terminals 0 t t l 1) (sym e) (record {
  progress = progress-none t sound;
  patterns = record {
    order = λ i j d lt in_j. absurd (omega arith);
    below = λ p at. let is = one p at in omega (arith, ap (λ (q : Pattern). q.mask) is);
    has = λ p at. subst (λ (q : Pattern). Has t q.cond) (one p at) has;
    is = λ p at. subst (λ (q : Pattern). AreSame (value q.cond) (signed (value valid) [] q.mask)) (one p at) (λ c. sym (and_true (value valid c)));
    some = λ p at. subst (λ (q : Pattern). IsPossible (value q.cond)) (one p at) some;
    all = λ m (c, holds). (unsigned valid, Contains-here (unsigned valid) [], eqb-true 0 m (and_parts (value valid c) (0 == m) holds).1);
  };
  bit_is = refl;
  keeps = λ x h. h;
})
  where
    one : (p : Pattern) → Contains (unsigned valid ∷ []) p → unsigned valid ≡ p
    one p at = Contains-one p (unsigned valid) at

    and_true : (b : Bool) → (b && true) ≡ b
    and_true true = refl
    and_true false = refl

module _ (valid : Meaning) (terminals : List Terminal) (k : ℕ) (terminal : Terminal) (lt : k < length terminals) (at : terminal ≡ get_or terminals k terminal) (old t : Table) (ps : List Pattern) (bit : ℕ) (s : PatternsSoFar valid terminals k old t ps bit) where
  abbrev fs : List Meaning
  fs = whens_of terminals

  abbrev f : Meaning
  f = value terminal.when

  fs_length : length fs ≡ length terminals
  fs_length = length-map terminals (λ x. value x.when)

  in_fs : k < length fs
  in_fs = omega (arith, fs_length)

  here : get_or fs k never ≡ f
  here = get_or-map (λ x. value x.when) terminals k terminal never lt ∙ ap (λ (x : Terminal). value x.when) (sym at)

  longer : take (k + 1) fs ≡ take k fs ++ f ∷ []
  longer = take_more fs k never in_fs ∙ ap (λ g. take k fs ++ g ∷ []) here

  step_is : negation f ∷ patterns valid (take k fs ++ f ∷ []) ≡ sign_step valid fs k
  step_is = λ i. negation (sym here i) ∷ patterns valid (sym longer i)

  taken_length : length (take k fs) ≡ k
  taken_length = length-take-le k fs (omega (arith, in_fs))

  bit_high : 2 ^ length (take k fs) ≡ bit
  bit_high = ap (λ n. 2 ^ n) taken_length ∙ sym s.bit_is

  index_lt : k < length (range_with_len 0 (length fs))
  index_lt = omega (arith, length-range_with_len 0 (length fs), in_fs)

  index_at : k ≡ get_or (range_with_len 0 (length fs)) k k
  index_at = sym (get_or-range_with_len 0 (length fs) k k in_fs ∙ omega arith)

  pub when-has : HasWhens old terminals → Has t terminal.when
  when-has whens = s.keeps terminal.when (whens k terminal (slice_get-get_or terminals k terminal lt ∙ ap Some (sym at)))

  pub bit-small : length terminals ≤ 12 → bit ≤ 2048
  bit-small few = let k_le : k ≤ 11 = omega arith in omega (arith, s.bit_is, pow_mono k_le)

  pub room-low : length terminals ≤ 12 → LeaveRoom 0 ps
  room-low few p at_p = omega (arith, s.patterns.below p at_p, bit_high, bit-small few)

  pub room-high : length terminals ≤ 12 → LeaveRoom bit ps
  room-high few p at_p = omega (arith, s.patterns.below p at_p, bit_high, bit-small few)

  abbrev low_worked : List Meaning
  low_worked = joined_worked (negation f) ps

  abbrev high_worked : List Meaning
  high_worked = joined_worked f ps

  step_works : {A : Type 0} (u : Table) (r : Result A RowsStop) → Works ((negation f ∷ [] ++ low_worked) ++ high_worked) t u r → Works (sign_step valid fs k) t u r
  step_works {A} u r w = subst (λ (l : List Meaning). Works l t u r) step_is (split-works t valid (take k fs) ps s.patterns f t u r w)

  stop_step : {A B : Type 0} (u : Table) (e : RowsStop) → Works {A = A} (sign_step valid fs k) t u (Err e) → Works {A = B} (signs_worked valid fs) old u (Err e)
  stop_step {A} {B} u e w = step-stop (sign_step valid fs) (range_with_len 0 (length fs)) k k index_lt index_at {A = A} {B = B} old t u e s.progress w

  pub patterns-stop1 : (u : Table) (e : RowsStop) → Works {A = Cond} (negation f ∷ []) t u (Err e) → Works {A = List Pattern} (signs_worked valid fs) old u (Err e)
  patterns-stop1 u e w =
      stop_step {A = Cond} {B = List Pattern} u e (step_works {A = Cond} u (Err e) (stop-first {A = Cond} {B = Cond} (negation f ∷ [] ++ low_worked) high_worked t u e (stop-first {A = Cond} {B = Cond} (negation f ∷ []) low_worked t u e w)))

  module _ (t1 : Table) (without : Cond) (w1 : Works (negation f ∷ []) t t1 (Ok without)) (is1 : AreSame (value without) (negation f)) where
    pub each-kept1 : HasEach t1 ps
    each-kept1 p at_p = w1.keeps p.cond (s.patterns.has p at_p)

    own : {A : Type 0} (u : Table) (r : Result A RowsStop) → Works (joined_worked (value without) ps) t1 u r → Works low_worked t1 u r
    own u r w = subst (λ (g : Meaning). Works (joined_worked g ps) t1 u r) (same is1) w

    pub patterns-stop2 : (u : Table) (e : RowsStop) → Works {A = List Pattern} (joined_worked (value without) ps) t1 u (Err e) → Works {A = List Pattern} (signs_worked valid fs) old u (Err e)
    patterns-stop2 u e w =
        stop_step {A = List Pattern} {B = List Pattern} u e (step_works {A = List Pattern} u (Err e)
        (stop-first {A = List Pattern} {B = List Pattern} (negation f ∷ [] ++ low_worked) high_worked t u e (works-then (negation f ∷ []) low_worked t t1 u without (Err e) w1 (own u (Err e) w))))

    module _ (t2 : Table) (low : List Pattern) (w2 : Works (joined_worked (value without) ps) t1 t2 (Ok low)) (joined_low : AreJoinedWith t2 (value without) 0 ps low) where
      first_two : Works (negation f ∷ [] ++ low_worked) t t2 (Ok low)
      first_two = works-then (negation f ∷ []) low_worked t t1 t2 without (Ok low) w1 (own t2 (Ok low) w2)

      pub each-kept2 : HasEach t2 ps
      each-kept2 p at_p = w2.keeps p.cond (each-kept1 p at_p)

      pub when-kept2 : HasWhens old terminals → Has t2 terminal.when
      when-kept2 whens = w2.keeps terminal.when (w1.keeps terminal.when (when-has whens))

      pub patterns-stop3 : (u : Table) (e : RowsStop) → Works {A = List Pattern} high_worked t2 u (Err e) → Works {A = List Pattern} (signs_worked valid fs) old u (Err e)
      patterns-stop3 u e w =
          stop_step {A = List Pattern} {B = List Pattern} u e (step_works {A = List Pattern} u (Err e) (works-then (negation f ∷ [] ++ low_worked) high_worked t t2 u low (Err e) first_two w))

      module _ (t3 : Table) (high : List Pattern) (w3 : Works high_worked t2 t3 (Ok high)) (joined_high : AreJoinedWith t3 f bit ps high) where
        whole : Works (sign_step valid fs k) t t3 (Ok high)
        whole = step_works t3 (Ok high) (works-then (negation f ∷ [] ++ low_worked) high_worked t t2 t3 low (Ok high) first_two w3)

        pub patterns-no_memory : Works {A = List Pattern} (signs_worked valid fs) old t3 (Err NoMemory)
        patterns-no_memory = step-no_memory (sign_step valid fs) (range_with_len 0 (length fs)) k k index_lt index_at {A = List Pattern} {B = List Pattern} old t t3 high s.progress whole

        low_kept : AreJoinedWith t3 (negation f) 0 ps low
        low_kept = subst (λ (g : Meaning). AreJoinedWith t3 g 0 ps low) (same is1) (record {
          order = joined_low.order;
          each = λ q at_q. let p = joined_low.each q at_q in (p.0, p.1, record { mask = p.2.mask; has = w3.keeps q.cond p.2.has; is = p.2.is; some = p.2.some });
          all = joined_low.all;
        })

        pub patterns-next : (next : List Pattern) → next ≡ low ++ high → PatternsSoFar valid terminals (k + 1) old t3 next (bit * 2)
        patterns-next next e = subst (λ (l : List Pattern). PatternsSoFar valid terminals (k + 1) old t3 l (bit * 2)) (sym e) (record {
          progress = step-next (sign_step valid fs) (range_with_len 0 (length fs)) k k index_lt index_at old t t3 high s.progress whole;
          patterns = subst (λ (l : List Meaning). ArePatterns t3 valid l (low ++ high)) (sym longer)
              (split-patterns t valid (take k fs) ps s.patterns f t3 low high low_kept (subst (λ (n : ℕ). AreJoinedWith t3 f n ps high) (sym bit_high) joined_high));
          bit_is = let e2 : k + 1 ≡ suc k = omega arith in omega (arith, s.bit_is, pow-succ' 2 k, ap (λ n. 2 ^ n) e2);
          keeps = λ x h. w3.keeps x (w2.keeps x (w1.keeps x (s.keeps x h)));
        })

module _ (valid : Meaning) (terminals : List Terminal) (k : ℕ) (past : length terminals ≤ k) (old t : Table) (ps : List Pattern) (bit : ℕ) (s : PatternsSoFar valid terminals k old t ps bit) where
  past_fs : length (whens_of terminals) ≤ k
  past_fs = omega (arith, length-map terminals (λ x. value x.when))

  pub patterns-done : ArePatterns t valid (whens_of terminals) ps
  patterns-done = subst (λ (l : List Meaning). ArePatterns t valid l ps) (take_all k (whens_of terminals) past_fs) s.patterns

  pub patterns-works : Works (signs_worked valid (whens_of terminals)) old t (Ok ps)
  patterns-works =
      step-done (sign_step valid (whens_of terminals)) (range_with_len 0 (length (whens_of terminals))) k (omega (arith, past_fs, length-range_with_len 0 (length (whens_of terminals)))) old t ps s.progress
