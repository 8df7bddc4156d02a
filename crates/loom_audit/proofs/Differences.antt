-- The lines of two lists, compared one after another.
use Rattle.std.proofs.Common.{◌≡◌, ◌≢◌, ℕ, ◌+◌, ◌<◌, min, List, Some, length, get_or, inl, inr, sym, ap, subst, ◌∙◌, arith}
use Rattle.std.specs.List.{slice_get}
use Rattle.std.proofs.lemmas.Bool.{cases_eq, cases_lt}
use Rattle.std.proofs.lemmas.Option.{same_Some, slice_get-get_or}
use Rattle.loom_audit.specs.FirstFailure.{AgreeBefore, Agree, apart, missing, spare, DifferFirst}

stands-is : {X : Type 0} (xs : List X) (i n : ℕ) (d x : X) → i ≡ n → n < length xs → slice_get xs i ≡ Some x → get_or xs n d ≡ x
stands-is xs i n d x same within at =
    same_Some (get_or xs n d) x (sym (slice_get-get_or xs n d within) ∙ (ap (λ (k : ℕ). slice_get xs k) (sym same) ∙ at))

module _ {A B : Type 0} (Same : A → B → Type 0) (stated : List A) (printed : List B) where
  pub agree_none : AgreeBefore Same stated printed 0
  agree_none i s p lt one other = absurd (omega arith)

  pub agree_more : (n : ℕ) (d : A) (e : B) → n < length stated → n < length printed → AgreeBefore Same stated printed n
      → Same (get_or stated n d) (get_or printed n e) → AgreeBefore Same stated printed (n + 1)
  agree_more n d e in_stated in_printed before here i s p lt one other = elim (cases_eq i n) [
    | inl same ↦
        subst (λ (x : A). Same x p) (stands-is stated i n d s same in_stated one)
        (subst (λ (y : B). Same (get_or stated n d) y) (stands-is printed i n e p same in_printed other) here)
    | inr apart' ↦ before i s p (omega (arith, lt, apart')) one other
  ]

  pub differ_apart : (n : ℕ) (d : A) (e : B) → n < length stated → n < length printed → AgreeBefore Same stated printed n
      → (Same (get_or stated n d) (get_or printed n e) → ⊥) → DifferFirst Same stated printed n
  differ_apart n d e in_stated in_printed before not = record {
    before = before;
    there = apart (get_or stated n d) (get_or printed n e) (slice_get-get_or stated n d in_stated) (slice_get-get_or printed n e in_printed) not;
  }

  pub differ_end : (n : ℕ) → n ≡ min (length stated) (length printed) → length stated ≢ length printed → AgreeBefore Same stated printed n
      → DifferFirst Same stated printed n
  differ_end n end other before = record {
    before = before;
    there = elim (cases_lt (length stated) (length printed)) [
      | inl shorter ↦ spare (omega arith) (omega arith)
      | inr longer ↦ missing (omega arith) (omega arith)
    ];
  }

  pub agree_all : (n : ℕ) → n ≡ min (length stated) (length printed) → length stated ≡ length printed → AgreeBefore Same stated printed n
      → Agree Same stated printed
  agree_all n end same before = record {
    counted = same;
    lines = λ i s p lt one other. before i s p (omega arith) one other;
  }
