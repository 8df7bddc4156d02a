-- A condition is found again, or made of its two parts.
use Rattle.std.proofs.Common.{◌≡◌, ◌≢◌, ℕ, zero, suc, ◌+◌, ◌-◌, ◌<◌, ◌≤◌, ◌⊎◌, inl, inr, Bool, true, false, cond, List, [], ◌∷◌, ◌++◌, length, Some, slice_get, refl, sym, ap, subst, ◌∙◌, arith, Ok, Err, length-append}
use Rattle.std.proofs.lemmas.Bool.{cases_lt}
use Rattle.std.proofs.lemmas.Option.{same_Some}
use Rattle.loom_rows.specs.declared.cond.Cond.{Cond, Never, Always, Row'}
use Rattle.loom_rows.specs.declared.stop.RowsStop.TheVariants.{TooManyRows}
use Rattle.loom_rows.specs.Condition.{Meaning, value, number_of, first_option, low_at, high_at}
use Rattle.loom_rows.specs.Table.{Triple, Table, Has, IsSound}
use Rattle.loom_rows.specs.Leftovers.{set_before, AreSame, IsOpen, IsLeftover, IsIn}
use Rattle.loom_rows.specs.Outcome.{branch, IsAnswer, Outcome, IsRowWith}
use Rattle.loom_rows.proofs.Conditions.{same, AgreeFrom, set_before-in, set_before-past, cond_same, value-from, first_option-le, low_at-value, high_at-value, low_at-stands, high_at-stands, cases_at, stands-append, stands-old, same_value, same_number, number-below, first_option-from}
use Rattle.loom_rows.proofs.Outcomes.{leftover-self, gains-none}

pub slice_get-append_last : {A : Type 0} (xs : List A) (y : A) (i : ℕ) → i ≡ length xs → slice_get (xs ++ y ∷ []) i ≡ Some y
slice_get-append_last [] y zero e = refl
slice_get-append_last [] y (suc i) e = absurd (omega arith)
slice_get-append_last (x ∷ xs) y zero e = absurd (omega arith)
slice_get-append_last (x ∷ xs) y (suc i) e = slice_get-append_last xs y i (omega arith)

-- an element of a list with one more is one of the list, or that one
pub slice_get-append_cases : {A : Type 0} (xs : List A) (y z : A) (i : ℕ) → slice_get (xs ++ y ∷ []) i ≡ Some z → ((i < length xs) × (slice_get xs i ≡ Some z)) ⊎ ((i ≡ length xs) × (y ≡ z))
slice_get-append_cases [] y z zero e = inr (refl, same_Some y z e)
slice_get-append_cases [] y z (suc i) e = absurd (cc)
slice_get-append_cases (x ∷ xs) y z zero e = inl (omega arith, e)
slice_get-append_cases (x ∷ xs) y z (suc i) e =
    elim (slice_get-append_cases xs y z i e) [
      | inl p ↦ inl (omega (arith, p.0), p.1)
      | inr q ↦ inr (omega (arith, q.0), q.1)
    ]

-- the table with one more row
abbrev pub with_row : Table → ℕ → Cond → Cond → Table
with_row t at low high = record { options = t.options; limit = t.limit; rows = t.rows ++ (at, number_of low, number_of high) ∷ [] }

module _ (t : Table) (at : ℕ) (low high : Cond) (has_low : Has t low) (has_high : Has t high) where
  abbrev f : Meaning
  f = branch at (value low) (value high)

  -- with parts of one number the option doesn't matter
  pub made-same : at < first_option t.options low → number_of low ≡ number_of high → IsAnswer f at t low
  made-same lt e = record {
    has = has_low;
    valued = λ c. sym (cond_same (c at) (value low c)) ∙ ap (λ g. cond (c at) (g c) (value low c)) (same_value t.options t.rows low high has_low has_high e);
    rises = omega arith;
  }

  -- the row with these parts' numbers is the condition
  pub made-found : (x : Cond) (i : ℕ) → Has t x → number_of x ≡ i + 2 → slice_get t.rows i ≡ Some (at, number_of low, number_of high) → IsAnswer f at t x
  made-found Never i h e w = absurd (omega arith)
  made-found Always i h e w = absurd (omega arith)
  made-found (Row' p n o lo hi) i h e w =
      let here : n - 2 ≡ i = omega arith in
      let r = same_Some (o.0, number_of lo, number_of hi) (at, number_of low, number_of high) (sym h.0.written ∙ ap (slice_get t.rows) here ∙ w) in
      let l = same_value t.options t.rows lo low h.1 has_low (ap (λ s. s.1) r) in
      let g = same_value t.options t.rows hi high h.2 has_high (ap (λ s. s.2) r) in
      record {
        has = h;
        valued = λ c i. cond (c (r i).0) (g i c) (l i c);
        rises = omega (arith, ap (λ s. s.0) r);
      }

  module _ (low_rises : at < first_option t.options low) (high_rises : at < first_option t.options high) where
    branch-from : (c d : ℕ → Bool) → AgreeFrom at c d → f c ≡ f d
    branch-from c d agree =
        let l = value-from t.options t.rows low has_low at (omega arith) c d agree in
        let h = value-from t.options t.rows high has_high at (omega arith) c d agree in
        λ i. cond (agree at (omega arith) i) (h i) (l i)

    branch-low : (d : ℕ → Bool) → f (set_before (at + 1) (λ _. false) d) ≡ value low d
    branch-low d =
        let s = set_before (at + 1) (λ _. false) d in
        ap (λ b. cond b (value high s) (value low s)) (set_before-in (at + 1) (λ _. false) d at (omega arith))
        ∙ value-from t.options t.rows low has_low (at + 1) (omega arith) s d (λ k q. set_before-past (at + 1) (λ _. false) d k q)

    branch-high : (d : ℕ → Bool) → f (set_before (at + 1) (λ _. true) d) ≡ value high d
    branch-high d =
        let s = set_before (at + 1) (λ _. true) d in
        ap (λ b. cond b (value high s) (value low s)) (set_before-in (at + 1) (λ _. true) d at (omega arith))
        ∙ value-from t.options t.rows high has_high (at + 1) (omega arith) s d (λ k q. set_before-past (at + 1) (λ _. true) d k q)

    module _ (sound : IsSound t) (apart : number_of low ≢ number_of high) where
      constant-not : (b : Bool) → AreSame f (λ c. b) → ⊥
      constant-not b e =
          apart (same_number t.options t.rows sound.distinct low high has_low has_high
          (same (λ d. sym (branch-low d) ∙ e (set_before (at + 1) (λ _. false) d) ∙ sym (e (set_before (at + 1) (λ _. true) d)) ∙ branch-high d)))

      pub branch-open : IsOpen f
      branch-open = (constant-not true, constant-not false)

      module _ (missing : (i : ℕ) → slice_get t.rows i ≡ Some (at, number_of low, number_of high) → ⊥) where
        branch-absent : IsIn t f → ⊥
        branch-absent (x, has, e) =
            let agrees : (c d : ℕ → Bool) → AgreeFrom at c d → value x c ≡ value x d = λ c d a. sym (e c) ∙ branch-from c d a ∙ e d in
            let in_range : at < t.options = omega (arith, first_option-le t.options t.rows low has_low) in
            let from = first_option-from t.options t.rows sound.distinct x has at (omega arith) agrees in
            let l = same_number t.options t.rows sound.distinct (low_at at x) low (low_at-stands t.options t.rows at x has) has_low
            (same (λ d. low_at-value t.options t.rows at x has from in_range d ∙ sym (e (set_before (at + 1) (λ _. false) d)) ∙ branch-low d)) in
            let h = same_number t.options t.rows sound.distinct (high_at at x) high (high_at-stands t.options t.rows at x has) has_high
            (same (λ d. high_at-value t.options t.rows at x has from in_range d ∙ sym (e (set_before (at + 1) (λ _. true) d)) ∙ branch-high d)) in
            elim (cases_at t.options t.rows at x has) [
              | inl a ↦ apart (sym l ∙ ap number_of a.0 ∙ sym (ap number_of a.1) ∙ h)
              | inr r ↦ missing (number_of x - 2) (r.written ∙ λ i. Some (at, l i, h i))
            ]

        -- a full table lacks the row
        pub made-full : t.limit ≤ length t.rows → Outcome f at t t (Err TooManyRows)
        made-full full = record {
          gains = gains-none _ t;
          sound = sound;
          answer = tt;
          refusal = λ e. record { full = omega (arith, sound.within); missing = f; is_leftover = leftover-self f; is_open = branch-open; absent = branch-absent };
        }

        abbrev Added : Table
        Added = with_row t at low high

        added-stands : (x : Cond) → IsRowWith (length t.rows + 2) at low high x → Has Added x
        added-stands Never w = absurd w
        added-stands Always w = absurd w
        added-stands (Row' p n o lo hi) w = (
          record {
            numbered = omega (arith, w.0);
            written = slice_get-append_last t.rows _ (n - 2) (omega (arith, w.0)) ∙ λ i. Some (sym w.1 i, number_of (sym w.2 i), number_of (sym w.3 i));
            apart = λ e. apart (sym (ap number_of w.2) ∙ e ∙ ap number_of w.3);
            low_before = omega (arith, w.0, ap number_of w.2, number-below t.options t.rows low has_low);
            high_before = omega (arith, w.0, ap number_of w.3, number-below t.options t.rows high has_high);
            low_rises = omega (arith, w.1, ap (first_option t.options) w.2);
            high_rises = omega (arith, w.1, ap (first_option t.options) w.3);
          },
          stands-append t.options t.rows _ lo (subst (Has t) (sym w.2) has_low),
          stands-append t.options t.rows _ hi (subst (Has t) (sym w.3) has_high),
        )

        added-number : (x : Cond) → IsRowWith (length t.rows + 2) at low high x → number_of x ≡ length t.rows + 2
        added-number Never w = absurd w
        added-number Always w = absurd w
        added-number (Row' p n o lo hi) w = w.0

        added-value : (x : Cond) → IsRowWith (length t.rows + 2) at low high x → value x ≡ f
        added-value Never w = absurd w
        added-value Always w = absurd w
        added-value (Row' p n o lo hi) w = λ i c. cond (c (w.1 i)) (value (w.3 i) c) (value (w.2 i) c)

        added-first : (x : Cond) → IsRowWith (length t.rows + 2) at low high x → first_option t.options x ≡ at
        added-first Never w = absurd w
        added-first Always w = absurd w
        added-first (Row' p n o lo hi) w = w.1

        module _ (x : Cond) (w : IsRowWith (length t.rows + 2) at low high x) (room : length t.rows < t.limit) where
          pub added-has : Has Added x × (number_of x ≡ length t.rows + 2)
          added-has = (added-stands x w, added-number x w)

          added-distinct : (i j : ℕ) (row : Triple) → slice_get Added.rows i ≡ Some row → slice_get Added.rows j ≡ Some row → i ≡ j
          added-distinct i j row p q =
              elim (slice_get-append_cases t.rows _ row i p) [
                | inl a ↦ elim (slice_get-append_cases t.rows _ row j q) [
                  | inl b ↦ sound.distinct i j row a.1 b.1
                  | inr b ↦ absurd (missing i (a.1 ∙ ap Some (sym b.1)))
                ]
                | inr a ↦ elim (slice_get-append_cases t.rows _ row j q) [
                  | inl b ↦ absurd (missing j (b.1 ∙ ap Some (sym a.1)))
                  | inr b ↦ a.0 ∙ sym b.0
                ]
              ]

          added-whole : (i : ℕ) → i < length Added.rows → (y : Cond) × Has Added y × (number_of y ≡ i + 2)
          added-whole i lt =
              elim (cases_lt i (length t.rows)) [
                | inl old ↦ let y = sound.whole i old in (y.0, stands-append t.options t.rows _ y.0 y.1, y.2)
                | inr past ↦ (x, added-stands x w, added-number x w ∙ omega (arith, length-append t.rows ((at, number_of low, number_of high) ∷ [])))
              ]

          pub added-sound : IsSound Added
          added-sound = record {
            whole = added-whole;
            distinct = added-distinct;
            within = omega (arith, length-append t.rows ((at, number_of low, number_of high) ∷ []));
            bounded = sound.bounded;
          }

          added-only : (y : Cond) → Has Added y → Has t y ⊎ IsLeftover f (value y)
          added-only y h =
              elim (cases_lt (number_of y) (length t.rows + 2)) [
                | inl lt ↦ inl (stands-old t.options t.rows _ y h lt)
                | inr le ↦
                    let e = number-below t.options Added.rows y h in
                    let n : number_of y ≡ number_of x = omega (arith, added-number x w, length-append t.rows ((at, number_of low, number_of high) ∷ [])) in
                    let v = same_value t.options Added.rows y x h (added-stands x w) n ∙ added-value x w in
                    inr (subst (IsLeftover f) (sym v) (leftover-self f))
              ]

          pub added : Outcome f at t Added (Ok x)
          added = record {
            gains = record { same_options = refl; same_limit = refl; more = (at, number_of low, number_of high) ∷ []; appended = refl; only = added-only };
            sound = added-sound;
            answer = record { has = added-stands x w; valued = λ c. ap (λ g. g c) (added-value x w); rises = omega (arith, added-first x w) };
            refusal = λ e. absurd (cc);
          }
