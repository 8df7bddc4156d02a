-- From a pin of a coupler the links lead to each slot that has it, the last one first.
use Rattle.std.proofs.Common.{◌≡◌, ℕ, suc, ◌+◌, ◌<◌, ◌≤◌, Bool, cond, ◌==◌, List, [], ◌∷◌, ◌++◌, length, get_or, Option, None, Some, length-append, refl, sym, subst, ap, ◌∙◌, arith, inl, inr}
use Rattle.std.specs.List.{slice_get}
use Rattle.std.specs.HashMap.{get}
use Rattle.std.proofs.lemmas.Option.{same_Some, slice_get-get_or}
use Rattle.std.proofs.lemmas.Bool.{cases_Bool, cases_eq, cases_order, eq-eqb, and_from, true≢false}
use Rattle.loom_rows.specs.Condition.{value, both}
use Rattle.loom_rows.specs.Meet.{Meet, IsNever}
use Rattle.loom_rows.proofs.Joins.{pair_eq-true}
use Rattle.loom_rows.proofs.Made.{slice_get-append_last, slice_get-append_cases}
use Rattle.loom_pins.specs.declared.slot.Slot.{Slot}
use Rattle.loom_pins.specs.declared.holders.Holders.{Holders}
use Rattle.loom_pins.specs.FirstFit.{Holds, IsTaken}
use Rattle.loom_pins.specs.Holders.{pair_eq, IsLast, AreHolders}
use Rattle.loom_pins.proofs.Fitted.{Agree, agree-longer, agree-shorter, agree-less, holds-along}

last-along : (slots : List Slot) (pins others : List ℕ) (coupler pin n : ℕ) (link : Option ℕ) → Agree pins others n → Agree others pins n
    → IsLast slots pins coupler pin n link → IsLast slots others coupler pin n link
last-along slots pins others coupler pin n None there back none =
    λ at slot lt h. none at slot lt (holds-along slots others pins n coupler pin at slot back lt h)
last-along slots pins others coupler pin n (Some last) there back (below, (slot, h), upper) = (
  below,
  (slot, holds-along slots pins others n coupler pin last slot there below h),
  (λ at s lt g. upper at s lt (holds-along slots others pins n coupler pin at s back lt g)),
)

-- a further slot that doesn't have the pin
last-longer : (slots : List Slot) (pins : List ℕ) (coupler pin n : ℕ) (link : Option ℕ) → ((slot : Slot) → Holds slots pins coupler pin n slot → ⊥)
    → IsLast slots pins coupler pin n link → IsLast slots pins coupler pin (n + 1) link
last-longer slots pins coupler pin n None other none = λ at slot lt h.
    elim (cases_eq at n) [
      | inl e ↦ other slot (subst (λ (k : ℕ). Holds slots pins coupler pin k slot) e h)
      | inr ne ↦ none at slot (omega (arith, lt, ne)) h
    ]
last-longer slots pins coupler pin n (Some last) other (below, holder, upper) = (
  omega (arith, below),
  holder,
  (λ at slot lt h. elim (cases_eq at n) [
    | inl e ↦ absurd (other slot (subst (λ (k : ℕ). Holds slots pins coupler pin k slot) e h))
    | inr ne ↦ upper at slot (omega (arith, lt, ne)) h
  ]),
)

-- the next slot has a pin, and leads to the one before it that has the same
pub holders-push : (slots : List Slot) (old new : Holders) (slot : Slot) (pin : ℕ) (before : Option ℕ) → AreHolders slots old
    → slice_get slots (length old.pins) ≡ Some slot → length old.pins < length slots
    → new.pins ≡ old.pins ++ pin ∷ [] → new.earlier ≡ old.earlier ++ before ∷ []
    → before ≡ get pair_eq old.newest (slot.coupler.0, pin)
    → ((q : ℕ × ℕ) → get pair_eq new.newest q ≡ cond (pair_eq (slot.coupler.0, pin) q) (Some (length old.pins)) (get pair_eq old.newest q))
    → AreHolders slots new
holders-push slots old new slot pin before holders stands room pins earlier is_before updates =
    let n : ℕ = length old.pins in
    let there : Agree old.pins new.pins n = subst (λ (ps : List ℕ). Agree old.pins ps n) (sym pins) (agree-longer old.pins (pin ∷ [])) in
    let back : Agree new.pins old.pins n = subst (λ (ps : List ℕ). Agree ps old.pins n) (sym pins) (agree-shorter old.pins (pin ∷ [])) in
    let count : length new.pins ≡ n + 1 = ap length pins ∙ length-append old.pins (pin ∷ []) in
    let here : slice_get new.pins n ≡ Some pin = subst (λ (ps : List ℕ). slice_get ps n ≡ Some pin) (sym pins) (slice_get-append_last old.pins pin n refl) in
    let its : (coupler p : ℕ) (s : Slot) → Holds slots new.pins coupler p n s → (slot.coupler.0 ≡ coupler) × (pin ≡ p) = λ coupler p s h.
    (ap (λ (x : Slot). x.coupler.0) (same_Some slot s (sym stands ∙ h.stands)) ∙ h.of_coupler, same_Some pin p (sym here ∙ h.has)) in
    record {
      apiece = ap length earlier ∙ length-append old.earlier (before ∷ []) ∙ ap (λ (k : ℕ). k + 1) holders.apiece ∙ sym count;
      within = omega (arith, count, room);
      newest = λ coupler p.
          let key : ℕ × ℕ = (slot.coupler.0, pin) in
          elim (cases_Bool (pair_eq key (coupler, p))) [
            | inl equal ↦
                let same : key ≡ (coupler, p) = pair_eq-true key (coupler, p) equal in
                let is : get pair_eq new.newest (coupler, p) ≡ Some n =
                updates (coupler, p) ∙ ap (λ (b : Bool). cond b (Some n) (get pair_eq old.newest (coupler, p))) equal in
                let holds : Holds slots new.pins coupler p n slot =
                record { stands = stands; of_coupler = ap (λ (k : ℕ × ℕ). k.0) same; has = here ∙ ap (λ (k : ℕ × ℕ). Some k.1) same } in
                subst (λ (link : Option ℕ). IsLast slots new.pins coupler p (length new.pins) link) (sym is)
                (omega (arith, count), (slot, holds), (λ at s lt h. omega (arith, count, lt)))
            | inr unequal ↦
                let is : get pair_eq new.newest (coupler, p) ≡ get pair_eq old.newest (coupler, p) =
                updates (coupler, p) ∙ ap (λ (b : Bool). cond b (Some n) (get pair_eq old.newest (coupler, p))) unequal in
                let other : (s : Slot) → Holds slots new.pins coupler p n s → ⊥ = λ s h.
                let e = its coupler p s h in
                true≢false (sym (and_from (slot.coupler.0 == coupler) (pin == p) (eq-eqb slot.coupler.0 coupler e.0) (eq-eqb pin p e.1)) ∙ unequal) in
                let longer : IsLast slots new.pins coupler p (n + 1) (get pair_eq old.newest (coupler, p)) =
                last-longer slots new.pins coupler p n (get pair_eq old.newest (coupler, p)) other
                (last-along slots old.pins new.pins coupler p n (get pair_eq old.newest (coupler, p)) there back (holders.newest coupler p)) in
                subst (λ (link : Option ℕ). IsLast slots new.pins coupler p (length new.pins) link) (sym is)
                (subst (λ (k : ℕ). IsLast slots new.pins coupler p k (get pair_eq old.newest (coupler, p))) (sym count) longer)
          ];
      earlier = λ at coupler p s link h is.
          let written : slice_get (old.earlier ++ before ∷ []) at ≡ Some link = subst (λ (xs : List (Option ℕ)). slice_get xs at ≡ Some link) earlier is in
          elim (slice_get-append_cases old.earlier before link at written) [
            | inl was ↦
                let lt : at < n = omega (arith, was.0, holders.apiece) in
                let le : at ≤ n = omega (arith, lt) in
                last-along slots old.pins new.pins coupler p at link
                (agree-less old.pins new.pins n at le there) (agree-less new.pins old.pins n at le back)
                (holders.earlier at coupler p s link (holds-along slots new.pins old.pins n coupler p at s back lt h) was.1)
            | inr new_one ↦
                let at_n : at ≡ n = new_one.0 ∙ holders.apiece in
                let e = its coupler p s (subst (λ (k : ℕ). Holds slots new.pins coupler p k s) at_n h) in
                let key : ◌≡◌ {A = ℕ × ℕ} (slot.coupler.0, pin) (coupler, p) = λ i. (e.0 i, e.1 i) in
                let link_is : get pair_eq old.newest (coupler, p) ≡ link =
                ap (λ (k : ℕ × ℕ). get pair_eq old.newest k) (sym key) ∙ sym is_before ∙ new_one.1 in
                let last : IsLast slots old.pins coupler p n link =
                subst (λ (l : Option ℕ). IsLast slots old.pins coupler p n l) link_is (holders.newest coupler p) in
                subst (λ (k : ℕ). IsLast slots new.pins coupler p k link) (sym at_n)
                (last-along slots old.pins new.pins coupler p n link there back last)
          ];
    }

-- of the first n slots that have the pin, those behind the link are never used together with this one
abbrev pub IsLeft : List Slot → List ℕ → ℕ → Slot → ℕ → Option ℕ → Type 0
IsLeft slots pins n slot pin None =
    (at : ℕ) (holder : Slot) → at < n → Holds slots pins slot.coupler.0 pin at holder → IsNever (both (value holder.usage) (value slot.usage))
IsLeft slots pins n slot pin (Some last) =
    (last < n) × ((holder : Slot) × Holds slots pins slot.coupler.0 pin last holder)
    × ((at : ℕ) (holder : Slot) → at < n → Holds slots pins slot.coupler.0 pin at holder → last < at
    → IsNever (both (value holder.usage) (value slot.usage)))

pub left-first : (slots : List Slot) (pins : List ℕ) (n : ℕ) (slot : Slot) (pin : ℕ) (link : Option ℕ)
    → IsLast slots pins slot.coupler.0 pin n link → IsLeft slots pins n slot pin link
left-first slots pins n slot pin None none = λ at holder lt h. absurd (none at holder lt h)
left-first slots pins n slot pin (Some last) (below, holder, upper) =
    (below, holder, (λ at h lt g more. absurd (omega (arith, upper at h lt g, more))))

pub left-next : (slots : List Slot) (pins : List ℕ) (n : ℕ) (slot : Slot) (pin last : ℕ) (holder : Slot) (link : Option ℕ)
    → slice_get slots last ≡ Some holder → IsNever (both (value holder.usage) (value slot.usage))
    → IsLeft slots pins n slot pin (Some last) → IsLast slots pins slot.coupler.0 pin last link → IsLeft slots pins n slot pin link
left-next slots pins n slot pin last holder None stands never (below, its, behind) none = λ at h lt g.
    elim (cases_order at last) [
      | inl e ↦
          let same : holder ≡ h = same_Some holder h (sym stands ∙ subst (λ (k : ℕ). slice_get slots k ≡ Some h) e g.stands) in
          subst (λ (x : Slot). IsNever (both (value x.usage) (value slot.usage))) same never
      | inr apart ↦ elim apart [ inl less ↦ absurd (none at h less g) | inr more ↦ behind at h lt g more ]
    ]
left-next slots pins n slot pin last holder (Some next) stands never (below, its, behind) (lt_last, its_next, upper) = (
  omega (arith, below, lt_last),
  its_next,
  (λ at h lt g more. elim (cases_order at last) [
    | inl e ↦
        let same : holder ≡ h = same_Some holder h (sym stands ∙ subst (λ (k : ℕ). slice_get slots k ≡ Some h) e g.stands) in
        subst (λ (x : Slot). IsNever (both (value x.usage) (value slot.usage))) same never
    | inr apart ↦ elim apart [ inl less ↦ absurd (omega (arith, upper at h less g, more)) | inr later ↦ behind at h lt g later ]
  ]),
)

-- the slot at the link is used together with this one
pub left-taken : (slots : List Slot) (pins : List ℕ) (n : ℕ) (slot : Slot) (pin last : ℕ) (holder : Slot)
    → slice_get slots last ≡ Some holder → IsLeft slots pins n slot pin (Some last) → Meet (value holder.usage) (value slot.usage)
    → IsTaken slots pins n slot pin
left-taken slots pins n slot pin last holder stands (below, (h, holds), behind) meet =
    let same : h ≡ holder = same_Some h holder (sym holds.stands ∙ stands) in
    record {
      earlier = last;
      before = below;
      holder = holder;
      holds = subst (λ (x : Slot). Holds slots pins slot.coupler.0 pin last x) same holds;
      together = meet;
    }

-- at the end of the links no slot that has the pin is
pub left-free : (slots : List Slot) (pins : List ℕ) (n : ℕ) (slot : Slot) (pin : ℕ) → IsLeft slots pins n slot pin None
    → IsTaken slots pins n slot pin → ⊥
left-free slots pins n slot pin left t =
    let meet : Meet (value t.holder.usage) (value slot.usage) = t.together in
    true≢false (sym (and_from (value t.holder.usage meet.0) (value slot.usage meet.0) meet.1 meet.2) ∙ left t.earlier t.holder t.before t.holds meet.0)

-- how many slots may be ahead at a link
abbrev pub ahead : Option ℕ → ℕ
ahead None = 0
ahead (Some last) = suc last

pub ahead-less : (slots : List Slot) (pins : List ℕ) (coupler pin last : ℕ) (link : Option ℕ) → IsLast slots pins coupler pin last link
    → ahead link < suc last
ahead-less slots pins coupler pin last None none = omega arith
ahead-less slots pins coupler pin last (Some next) (below, holder, upper) = omega (arith, below)

-- where a slot leads to
pub link-last : (slots : List Slot) (holders : Holders) (slot : Slot) (pin last : ℕ) (earlier : List (Option ℕ)) → AreHolders slots holders
    → earlier ≡ holders.earlier → IsLeft slots holders.pins (length holders.pins) slot pin (Some last)
    → IsLast slots holders.pins slot.coupler.0 pin last (get_or earlier last None)
link-last slots holders slot pin last earlier are same (below, (h, holds), behind) =
    let lt : last < length earlier = omega (arith, below, are.apiece, ap length same) in
    let P = λ (xs : List (Option ℕ)). slice_get xs last ≡ Some (get_or earlier last None) in
    are.earlier last slot.coupler.0 pin h (get_or earlier last None) holds (subst P same (slice_get-get_or earlier last None lt))
