-- How the outcome of a call follows from those of the calls that it makes.
use Rattle.std.proofs.Common.{◌≡◌, ℕ, ◌+◌, ◌<◌, ◌≤◌, inl, inr, Bool, true, false, cond, List, [], ◌++◌, refl, sym, ap, subst, ◌∙◌, arith, max, Result, Ok, Err, append_assoc, append-nil}
use Rattle.std.proofs.lemmas.Bool.{cases_lt}
use Rattle.loom_rows.specs.declared.cond.Cond.{Cond}
use Rattle.loom_rows.specs.declared.op.Op.{Op}
use Rattle.loom_rows.specs.declared.stop.RowsStop.{RowsStop}
use Rattle.loom_rows.specs.declared.stop.RowsStop.TheVariants.{NoMemory}
use Rattle.loom_rows.specs.Condition.{Meaning, value, first_option, low_at, high_at}
use Rattle.loom_rows.specs.Table.{Triple, Table, StandsIn, Has, IsSound}
use Rattle.loom_rows.specs.Leftovers.{set_before, IsLeftover, Gains}
use Rattle.loom_rows.specs.Outcome.{joins, joined, IsAnswer, Outcome}
use Rattle.loom_rows.proofs.Conditions.{set_before-in, set_before-past, value-split, low_at-value, high_at-value, stands-append}

-- ---- leftovers

-- to set the options before k, and then those before j, is to set those before the larger
abbrev both : ℕ → (ℕ → Bool) → (ℕ → Bool) → ℕ → Bool
both k c e = set_before k c e

set_twice : (k j : ℕ) (c e d : ℕ → Bool) (option : ℕ) → set_before k c (set_before j e d) option ≡ set_before (max k j) (both k c e) d option
set_twice k j c e d option =
    elim (cases_lt option k) [
      | inl in_k ↦ set_before-in k c (set_before j e d) option in_k ∙ sym (set_before-in k c e option in_k) ∙ sym (set_before-in (max k j) (both k c e) d option (omega arith))
      | inr past_k ↦ elim (cases_lt option j) [
        | inl in_j ↦
            set_before-past k c (set_before j e d) option past_k ∙ set_before-in j e d option in_j
            ∙ sym (set_before-past k c e option past_k) ∙ sym (set_before-in (max k j) (both k c e) d option (omega arith))
        | inr past_j ↦
            set_before-past k c (set_before j e d) option past_k ∙ set_before-past j e d option past_j
            ∙ sym (set_before-past (max k j) (both k c e) d option (omega arith))
      ]
    ]

-- a leftover of a leftover is a leftover
pub leftover-trans : (f g h : Meaning) → IsLeftover f g → IsLeftover g h → IsLeftover f h
leftover-trans f g h p q =
    (max p.0 q.0, both p.0 p.1 q.1, λ d. q.2 d ∙ p.2 (set_before q.0 q.1 d) ∙ ap f (λ i k. set_twice p.0 q.0 p.1 q.1 d k i))

-- a condition is what is left of it when no option is set
pub leftover-self : (f : Meaning) → IsLeftover f f
leftover-self f = (0, λ _. false, λ d. ap f (λ i k. sym (set_before-past 0 (λ _. false) d k (omega arith)) i))

module _ (op : Op) (t : Table) (a b : Cond) (has_a : Has t a) (has_b : Has t b) (at : ℕ) (in_a : at ≤ first_option t.options a) (in_b : at ≤ first_option t.options b) (lt : at < t.options) where
  pub leftover-low : IsLeftover (joined op (value a) (value b)) (joined op (value (low_at at a)) (value (low_at at b)))
  leftover-low = (at + 1, λ _. false, λ d i. joins op (low_at-value t.options t.rows at a has_a in_a lt d i) (low_at-value t.options t.rows at b has_b in_b lt d i))

  pub leftover-high : IsLeftover (joined op (value a) (value b)) (joined op (value (high_at at a)) (value (high_at at b)))
  leftover-high = (at + 1, λ _. true, λ d i. joins op (high_at-value t.options t.rows at a has_a in_a lt d i) (high_at-value t.options t.rows at b has_b in_b lt d i))

joins-cond : (op : Op) (b x y u v : Bool) → joins op (cond b x y) (cond b u v) ≡ cond b (joins op x u) (joins op y v)
joins-cond op true x y u v = refl
joins-cond op false x y u v = refl

-- two conditions join part by part
pub joined-split : (op : Op) (at : ℕ) (a b : Cond) (c : ℕ → Bool) → joined op (value a) (value b) c ≡ cond (c at) (joined op (value (high_at at a)) (value (high_at at b)) c) (joined op (value (low_at at a)) (value (low_at at b)) c)
joined-split op at a b c =
    (λ i. joins op (value-split 0 [] at a c i) (value-split 0 [] at b c i))
    ∙ joins-cond op (c at) (value (high_at at a) c) (value (low_at at a) c) (value (high_at at b) c) (value (low_at at b) c)

-- ---- gains

pub gains-none : (P : Meaning → Type 0) (t : Table) → Gains P t t
gains-none P t = record { same_options = refl; same_limit = refl; more = []; appended = sym (append-nil t.rows); only = λ x h. inl h }

pub gains-weaken : {P Q : Meaning → Type 0} {old new : Table} → ((g : Meaning) → P g → Q g) → Gains P old new → Gains Q old new
gains-weaken w g = record { same_options = g.same_options; same_limit = g.same_limit; more = g.more; appended = g.appended; only = λ x h. elim (g.only x h) [ inl p ↦ inl p | inr q ↦ inr (w (value x) q) ] }

pub keeps : {P : Meaning → Type 0} {old new : Table} → Gains P old new → (x : Cond) → Has old x → Has new x
keeps {P} {old} {new} g x h =
    subst (λ (o : ℕ). StandsIn o new.rows x) (sym g.same_options) (subst (λ (rs : List Triple). StandsIn old.options rs x) (sym g.appended) (stands-append old.options old.rows g.more x h))

pub gains-trans : {P : Meaning → Type 0} {a b c : Table} → Gains P a b → Gains P b c → Gains P a c
gains-trans {P} {a} {b} {c} g h = record {
  same_options = h.same_options ∙ g.same_options;
  same_limit = h.same_limit ∙ g.same_limit;
  more = g.more ++ h.more;
  appended = h.appended ∙ ap (λ r. r ++ h.more) g.appended ∙ append_assoc a.rows g.more h.more;
  only = λ x s. elim (h.only x s) [ inl p ↦ g.only x p | inr q ↦ inr q ];
}

-- ---- outcomes

pub answer-keeps : {P : Meaning → Type 0} {old new : Table} → Gains P old new → (f : Meaning) (first : ℕ) (x : Cond) → IsAnswer f first old x → IsAnswer f first new x
answer-keeps {P} {old} {new} g f first x a = record {
  has = keeps g x a.has;
  valued = a.valued;
  rises = subst (λ (o : ℕ). first ≤ first_option o x) (sym g.same_options) a.rises;
}

-- a call that finds its answer leaves the table
pub outcome-found : (f : Meaning) (first : ℕ) (t : Table) (x : Cond) → IsSound t → IsAnswer f first t x → Outcome f first t t (Ok x)
outcome-found f first t x s a = record { gains = gains-none _ t; sound = s; answer = a; refusal = λ e. absurd (cc) }

-- a call that stops where a call for a leftover stops
pub outcome-stop : (f g : Meaning) (first q : ℕ) (old new : Table) (e : RowsStop) → IsLeftover f g → Outcome g q old new (Err e) → Outcome f first old new (Err e)
outcome-stop f g first q old new e left o = record {
  gains = gains-weaken (λ h l. leftover-trans f g h left l) o.gains;
  sound = o.sound;
  answer = tt;
  refusal = λ r. let l = o.refusal r in record { full = l.full; missing = l.missing; is_leftover = leftover-trans f g l.missing left l.is_leftover; is_open = l.is_open; absent = l.absent };
}

-- a call that goes on after it has gained leftovers
pub outcome-after : (f : Meaning) (first : ℕ) (old mid new : Table) (r : Result Cond RowsStop) → Gains (IsLeftover f) old mid → Outcome f first mid new r → Outcome f first old new r
outcome-after f first old mid new r g o = record { gains = gains-trans g o.gains; sound = o.sound; answer = o.answer; refusal = o.refusal }

-- a call that runs out of memory at its end
pub outcome-no_memory : (f : Meaning) (first : ℕ) (old new : Table) (r : Result Cond RowsStop) → Outcome f first old new r → Outcome f first old new (Err NoMemory)
outcome-no_memory f first old new r o = record { gains = o.gains; sound = o.sound; answer = tt; refusal = λ e. absurd (cc) }
