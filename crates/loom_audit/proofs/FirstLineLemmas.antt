-- Places of first lines.
use Rattle.std.proofs.Common.{◌≡◌, ℕ, suc, ◌+◌, ◌-◌, ◌<◌, ◌≤◌, inl, inr, Bool, true, false, cond, ◌&&◌, List, [], ◌∷◌, length, get_or, drop, Option, Some, None, refl, sym, ap, ◌∙◌, arith, eqb}
use Rattle.std.specs.List.{position_from}
use Rattle.std.proofs.lemmas.Bool.{cases_Bool, cond-true, cond-false}
use Rattle.std.proofs.lemmas.List.{drop_more}
use Rattle.std.proofs.lemmas.Option.{same_Some}
use Rattle.loom_types.specs.declared.plan.PinLine.{PinLine}
use Rattle.loom_types.specs.PinLines.{is_line_of, pin_in}
use Rattle.loom_audit.specs.FirstLines.{is_same_key}

-- a place that is found lies within the list
pub place_within : {X : Type 0} (test : X → Bool) (i : ℕ) (xs : List X) (p : ℕ) → position_from test i xs ≡ Some p → (i ≤ p) × (p < i + length xs)
place_within test i [] p e = absurd (cc)
place_within test i (x ∷ xs) p e =
    elim (cases_Bool (test x)) [
      | inl t ↦
          let here : i ≡ p = same_Some i p (sym (cond-true (test x) (Some i) (position_from test (i + 1) xs) t) ∙ e) in
          (omega arith, omega arith)
      | inr f ↦
          let h = place_within test (i + 1) xs p (sym (cond-false (test x) (Some i) (position_from test (i + 1) xs) f) ∙ e) in
          (omega (arith, h.0), omega (arith, h.1))
    ]

-- the line at the place that is found has the pin
pub pin_there : (net coupler ordinal : ℕ) (i : ℕ) (lines : List PinLine) (p : ℕ) (none : PinLine)
    → position_from (is_line_of net coupler ordinal) i lines ≡ Some p
    → pin_in lines net coupler ordinal ≡ (get_or lines (p - i) none).pin
pin_there net coupler ordinal i [] p none e = absurd (cc)
pin_there net coupler ordinal i (line ∷ lines) p none e =
    let test = is_line_of net coupler ordinal in
    elim (cases_Bool (test line)) [
      | inl t ↦
          let here : i ≡ p = same_Some i p (sym (cond-true (test line) (Some i) (position_from test (i + 1) lines) t) ∙ e) in
          let first : p - i ≡ 0 = omega arith in
          cond-true (test line) line.pin (pin_in lines net coupler ordinal) t
          ∙ sym (ap (λ k. (get_or (line ∷ lines) k none).pin) first)
      | inr f ↦
          let e' = sym (cond-false (test line) (Some i) (position_from test (i + 1) lines) f) ∙ e in
          let within = place_within test (i + 1) lines p e' in
          let later : p - i ≡ suc (p - (i + 1)) = omega (arith, within.0) in
          cond-false (test line) line.pin (pin_in lines net coupler ordinal) f
          ∙ (pin_there net coupler ordinal (i + 1) lines p none e'
          ∙ sym (ap (λ k. (get_or (line ∷ lines) k none).pin) later))
    ]

-- no line is found where none has the pin
pub no_pin : (net coupler ordinal : ℕ) (i : ℕ) (lines : List PinLine)
    → position_from (is_line_of net coupler ordinal) i lines ≡ None → pin_in lines net coupler ordinal ≡ 0
no_pin net coupler ordinal i [] e = refl
no_pin net coupler ordinal i (line ∷ lines) e =
    let test = is_line_of net coupler ordinal in
    elim (cases_Bool (test line)) [
      | inl t ↦
          let h = sym (cond-true (test line) (Some i) (position_from test (i + 1) lines) t) ∙ e in absurd (cc)
      | inr f ↦
          cond-false (test line) line.pin (pin_in lines net coupler ordinal) f
          ∙ no_pin net coupler ordinal (i + 1) lines (sym (cond-false (test line) (Some i) (position_from test (i + 1) lines) f) ∙ e)
    ]

and-assoc : (a b c : Bool) → ((a && b) && c) ≡ (a && (b && c))
and-assoc true b c = refl
and-assoc false b c = refl

-- the table once a line is put in front of those that it knows
pub put_in_front : (lines : List PinLine) (place : ℕ) (line : PinLine) (net coupler ordinal : ℕ) (now before : Option ℕ)
    → place < length lines → line ≡ get_or lines place line
    → now ≡ cond (is_same_key (line.net.0, line.coupler.0, line.ordinal) (net, coupler, ordinal)) (Some place) before
    → before ≡ position_from (is_line_of net coupler ordinal) (place + 1) (drop (place + 1) lines)
    → now ≡ position_from (is_line_of net coupler ordinal) place (drop place lines)
put_in_front lines place line net coupler ordinal now before within at e known =
    let test = is_line_of net coupler ordinal in
    let rest = position_from test (place + 1) (drop (place + 1) lines) in
    let split : drop place lines ≡ line ∷ drop (place + 1) lines =
    drop_more lines place line within ∙ ap (λ x. x ∷ drop (place + 1) lines) (sym at) in
    e
    ∙ (ap (cond (is_same_key (line.net.0, line.coupler.0, line.ordinal) (net, coupler, ordinal)) (Some place)) known
    ∙ (ap (λ b. cond b (Some place) rest) (and-assoc (eqb line.net.0 net) (eqb line.coupler.0 coupler) (eqb line.ordinal ordinal))
    ∙ sym (ap (position_from test place) split)))
