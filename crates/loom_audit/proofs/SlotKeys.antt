-- Keys of slots and their order.
use Rattle.std.proofs.Common.{◌≡◌, ℕ, ◌<◌, ◌⊎◌, inl, inr, true, refl, sym, ap}
use Rattle.std.specs.declared.cmp.Ordering.{Ordering}
use Rattle.std.specs.declared.cmp.Ordering.TheVariants.{Less, Equal, Greater}
use Rattle.std.specs.Ordering.{is_eq, nat_cmp, ordering_then}
use Rattle.std.specs.Cmp.{IsTotalOrder, then_total, on_total, nat_cmp_total}
use Rattle.std.proofs.lemmas.Cmp.{ranked, tied_itself}
use Rattle.std.proofs.lemmas.Map.Lookups.{exact_unsigned}
use Rattle.loom_types.specs.Slots.{IsSlotBefore}
use Rattle.loom_audit.specs.SlotSets.{Key, slot_of_key, key_cmp}

pub key_total : IsTotalOrder key_cmp
key_total = then_total (then_total (on_total (λ (k : Key). k.0) nat_cmp_total) (on_total (λ (k : Key). k.1) nat_cmp_total)) (on_total (λ (k : Key). k.2) nat_cmp_total)

then-equal : (r s : Ordering) → ordering_then r s ≡ Equal → (r ≡ Equal) × (s ≡ Equal)
then-equal Less s e = absurd (cc)
then-equal Equal s e = (refl, e)
then-equal Greater s e = absurd (cc)

then-less : (r s : Ordering) → ordering_then r s ≡ Less → (r ≡ Less) ⊎ ((r ≡ Equal) × (s ≡ Less))
then-less Less s e = inl refl
then-less Equal s e = inr (refl, e)
then-less Greater s e = absurd (cc)

equal : (r : Ordering) → is_eq r ≡ true → r ≡ Equal
equal Less e = absurd (cc)
equal Equal e = refl
equal Greater e = absurd (cc)

less : (m n : ℕ) → nat_cmp m n ≡ Less → m < n
less m n e = ranked m n Less (sym e)

-- equal keys are the same key
pub key-same : (a b : Key) → is_eq (key_cmp a b) ≡ true → a ≡ b
key-same a b e =
    let first = then-equal (ordering_then (nat_cmp a.0 b.0) (nat_cmp a.1 b.1)) (nat_cmp a.2 b.2) (equal (key_cmp a b) e) in
    let second = then-equal (nat_cmp a.0 b.0) (nat_cmp a.1 b.1) first.0 in
    let p = exact_unsigned a.0 b.0 second.0 in
    let q = exact_unsigned a.1 b.1 second.1 in
    let r = exact_unsigned a.2 b.2 first.1 in
    λ i. (p i, q i, r i)

pub key-here : (a : Key) → is_eq (key_cmp a a) ≡ true
key-here a = ap is_eq (tied_itself key_total a)

-- a lesser key is that of an earlier slot
pub key-before : (a b : Key) → key_cmp a b ≡ Less → IsSlotBefore (slot_of_key a) (slot_of_key b)
key-before a b e =
    elim (then-less (ordering_then (nat_cmp a.0 b.0) (nat_cmp a.1 b.1)) (nat_cmp a.2 b.2) e) [
      | inl p ↦ elim (then-less (nat_cmp a.0 b.0) (nat_cmp a.1 b.1) p) [
        | inl q ↦ inl (less a.0 b.0 q)
        | inr q ↦ inr (exact_unsigned a.0 b.0 q.0, inl (less a.1 b.1 q.1))
      ]
      | inr p ↦
          let q = then-equal (nat_cmp a.0 b.0) (nat_cmp a.1 b.1) p.0 in
          inr (exact_unsigned a.0 b.0 q.0, inr (exact_unsigned a.1 b.1 q.1, less a.2 b.2 p.1))
    ]

-- keys that compare equal are one
pub key-exact : (a b : Key) → key_cmp a b ≡ Equal → a ≡ b
key-exact a b e = key-same a b (ap is_eq e)
