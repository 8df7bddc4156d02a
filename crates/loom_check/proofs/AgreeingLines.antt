-- Lines of a list by position and by membership; printed lines that agree with stated ones.
use Rattle.std.proofs.Common.{◌≡◌, ℕ, zero, suc, ◌<◌, List, [], ◌∷◌, length, get_or, Some, slice_get, refl, sym, subst, arith, Contains}
use Rattle.std.specs.List.{AllPairs}
use Rattle.std.proofs.lemmas.Option.{slice_get_read, slice_get_within, get_or_from_slice_get}
use Rattle.loom_audit.specs.FirstFailure.{Each, Agree}

pub member_at : {X : Type 0} (xs : List X) (at : ℕ) (x : X) → slice_get xs at ≡ Some x → Contains xs x
member_at xs at x e = (at, slice_get_within xs at x e, get_or_from_slice_get xs at x x e)

pub stands_at : {X : Type 0} (xs : List X) (x : X) (at : ℕ) → at < length xs → get_or xs at x ≡ x → slice_get xs at ≡ Some x
stands_at xs x at within e = slice_get_read xs (length xs) at x refl within (sym e)

-- what holds of each line holds of each member
pub each-member : {X : Type 0} (P : X → Type 0) (xs : List X) → Each (λ i x. P x) xs → (x : X) → Contains xs x → P x
each-member P xs each x (at, within, e) = each at x (stands_at xs x at within e)

pub element : {X : Type 0} (xs : List X) (at : ℕ) → at < length xs → (x : X) × (slice_get xs at ≡ Some x)
element [] at within = absurd (omega (arith, within))
element (x ∷ xs) zero within = (x, refl)
element (x ∷ xs) (suc at) within = element xs at (omega (arith, within))

module _ {A B : Type 0} (Same : A → B → Type 0) (stated : List A) (printed : List B) (agree : Agree Same stated printed) where
  -- each printed line is of a stated one
  pub agree-printed : (p : B) → Contains printed p → (s : A) × Contains stated s × Same s p
  agree-printed p (i, within, at) =
      let counted = agree.counted in
      let (s, stands) = element stated i (omega (arith, within, counted)) in
      (s, member_at stated i s stands, agree.lines i s p within stands (stands_at printed p i within at))

  -- each stated line is printed
  pub agree-stated : (s : A) → Contains stated s → (p : B) × Contains printed p × Same s p
  agree-stated s (i, within, at) =
      let counted = agree.counted in
      let (p, stands) = element printed i (omega (arith, within, counted)) in
      (p, member_at printed i p stands, agree.lines i s p (omega (arith, within, counted)) (stands_at stated s i within at) stands)

  -- an order of the stated lines is one of the printed lines
  pub agree-pairs : (R : A → A → Type 0) (S : B → B → Type 0) → AllPairs R stated
      → ((s t : A) (p q : B) → Same s p → Same t q → R s t → S p q) → AllPairs S printed
  agree-pairs R S all then i j d less in_j =
      let counted = agree.counted in
      let (p, at_p) = element printed i (omega (arith, less, in_j)) in
      let (q, at_q) = element printed j in_j in
      let (s, at_s) = element stated i (omega (arith, less, in_j, counted)) in
      let (t, at_t) = element stated j (omega (arith, in_j, counted)) in
      let before : R s t =
      subst (λ (y : A). R s y) (get_or_from_slice_get stated j t s at_t)
      (subst (λ (x : A). R x (get_or stated j s)) (get_or_from_slice_get stated i s s at_s)
      (all i j s less (omega (arith, in_j, counted)))) in
      let after : S p q =
      then s t p q (agree.lines i s p (omega (arith, less, in_j)) at_s at_p) (agree.lines j t q in_j at_t at_q) before in
      subst (λ (y : B). S (get_or printed i d) y) (sym (get_or_from_slice_get printed j q d at_q))
      (subst (λ (x : B). S x q) (sym (get_or_from_slice_get printed i p d at_p)) after)
