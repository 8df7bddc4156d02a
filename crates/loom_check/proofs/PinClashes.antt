-- Wires that meet wires of other nets at a pin, sought wire by wire.
use Rattle.std.proofs.Common.{◌≡◌, ◌≢◌, ◌↔◌, ℕ, ◌+◌, ◌<◌, ◌≤◌, ◌⊎◌, inl, inr, Bool, true, false, List, [], ◌∷◌, ◌++◌, Option, Some, None, Result, Ok, Err, IfOk, unwrap_or, length, get_or, take, refl, sym, ap, subst, ◌∙◌, arith, slice_get, Contains}
use Rattle.std.specs.Prelude.{IsTrue}
use Rattle.std.specs.List.{AllPairs}
use Rattle.std.specs.HashMap.{get}
use Rattle.std.proofs.lemmas.Bool.{cases_eq, cases_lt, and_parts, and_from, false≢true}
use Rattle.std.proofs.lemmas.List.{take_more, take_all, length-take-le, get_or-take, get_or_default}
use Rattle.std.proofs.lemmas.List.Elements.{Contains-get_or, Contains-push_cases}
use Rattle.std.proofs.lemmas.Option.{same_Some, slice_get_within}
use Rattle.loom_project.specs.declared.draft.Draft.{Draft}
use Rattle.loom_types.specs.declared.plan.Plan.{Plan}
use Rattle.loom_types.specs.declared.wire.End.{End}
use Rattle.loom_types.specs.declared.wire.Wire.{Wire}
use Rattle.loom_active.specs.RightPlan.{IsFreePin}
use Rattle.loom_active.specs.SetWires.{RowsMeet}
use Rattle.loom_audit.specs.PinRule.{EndsAtFreePins, IsPinClash}
use Rattle.loom_audit.specs.Grouping.{is_same_pair}
use Rattle.loom_check.specs.PinTables.{pin_of, is_at, ends_at, PinTable, positions_at, FindsShared, IsLeast, lesser_of, IsRival, IsRivalAmong, IsRivalAt, IsFirstClash}
use Rattle.loom_check.proofs.EndsAtPins.{pin-end, end-pin, at-is, is-at, ends-pin, pin-ends, or-split, or-left, or-right}

-- ---- free pins

abbrev pub LiesAtFree : Draft → End → Type 0
LiesAtFree draft end = (coupler pin : ℕ) → pin_of end ≡ Some (coupler, pin) → IsFreePin draft coupler pin

pub free-both : (draft : Draft) (w : Wire) → LiesAtFree draft w.from → LiesAtFree draft w.to → EndsAtFreePins draft w
free-both draft w from to coupler pin (side, inl is) = from coupler pin (end-pin w.from coupler pin side is)
free-both draft w from to coupler pin (side, inr is) = to coupler pin (end-pin w.to coupler pin side is)

pub free-from : (draft : Draft) (w : Wire) → EndsAtFreePins draft w → LiesAtFree draft w.from
free-from draft w free coupler pin at = let (side, is) = pin-end w.from coupler pin at in free coupler pin (side, inl is)

pub free-to : (draft : Draft) (w : Wire) → EndsAtFreePins draft w → LiesAtFree draft w.to
free-to draft w free coupler pin at = let (side, is) = pin-end w.to coupler pin at in free coupler pin (side, inr is)

-- ---- tests and least numbers

told-by : (found : Bool) (P : Type 0) → (found ≡ true → P) → (found ≡ false → P → ⊥) → IsTrue found ↔ P
told-by true P holds fails = (λ e. holds refl, λ p. refl)
told-by false P holds fails = (λ e. absurd (false≢true e), λ p. absurd (fails refl p))

pub told : {E : Type 0} (r : Result Bool E) (P : Type 0) → (r ≡ Ok true → P) → (r ≡ Ok false → P → ⊥) → IfOk r (λ found. IsTrue found ↔ P)
told (Ok found) P holds fails = told-by found P (λ e. holds (ap Ok e)) (λ e. fails (ap Ok e))
told (Err e) P holds fails = tt

pub least-same : (P Q : ℕ → Type 0) → ((n : ℕ) → P n → Q n) → ((n : ℕ) → Q n → P n) → (o : Option ℕ) → IsLeast P o → IsLeast Q o
least-same P Q to from None none = λ n q. none n (from n q)
least-same P Q to from (Some n) (has, least) = (to n has, λ k lt q. least k lt (from k q))

pub least-either : (P Q : ℕ → Type 0) (a b : Option ℕ) → IsLeast P a → IsLeast Q b → IsLeast (λ n. P n ⊎ Q n) (lesser_of a b)
least-either P Q None None p q = λ n has. elim has [ inl one ↦ p n one | inr other ↦ q n other ]
least-either P Q None (Some b) p (has, least) = (
  inr has,
  λ k lt has_k. elim has_k [ inl one ↦ p k one | inr other ↦ least k lt other ],
)
least-either P Q (Some a) None (has, least) q = (
  inl has,
  λ k lt has_k. elim has_k [ inl one ↦ least k lt one | inr other ↦ q k other ],
)
least-either P Q (Some a) (Some b) (has_a, least_a) (has_b, least_b) = (
  elim (cases_lt a b) [
    | inl less ↦ inl (subst P (omega arith) has_a)
    | inr not ↦ inr (subst Q (omega arith) has_b)
  ],
  λ k lt has_k. elim has_k [
    | inl one ↦ least_a k (omega arith) one
    | inr other ↦ least_b k (omega arith) other
  ],
)

-- ---- rivals among rising positions

module _ (plan : Plan) (i : ℕ) (w : Wire) (others : List ℕ) where
  -- none is among the first k
  abbrev pub HasNoneBefore : ℕ → Type 0
  HasNoneBefore k = (j : ℕ) → Contains (take k others) j → IsRival plan i w j → ⊥

  pub rivals-all : (k : ℕ) → length others ≤ k → HasNoneBefore k → (j : ℕ) → IsRivalAmong plan i w others j → ⊥
  rivals-all k past none j (listed, rival) = none j (subst (λ (l : List ℕ). Contains l j) (sym (take_all k others past)) listed) rival

  module _ (k p : ℕ) (lt : k < length others) (is : p ≡ get_or others k 0) (none : HasNoneBefore k) where
    more : take (k + 1) others ≡ take k others ++ p ∷ []
    more = take_more others k 0 lt ∙ ap (λ (n : ℕ). take k others ++ n ∷ []) (sym is)

    pub rivals-more : (IsRival plan i w p → ⊥) → HasNoneBefore (k + 1)
    rivals-more apart j listed rival = elim (Contains-push_cases (take k others) p j (subst (λ (l : List ℕ). Contains l j) more listed)) [
      | inl old ↦ none j old rival
      | inr new ↦ apart (subst (IsRival plan i w) (sym new) rival)
    ]

    -- a position of the list is among the first k, or isn't less
    placed : AllPairs (λ one other. one < other) others → (j : ℕ) → j < p → Contains others j → Contains (take k others) j
    placed rising j less (m, m_in, e) =
        let here : get_or others m 0 ≡ j = get_or_default others m 0 j m_in ∙ e in
        elim (cases_lt m k) [
          | inl early ↦
              let short : length (take k others) ≡ k = length-take-le k others (omega (arith, lt)) in
              let there : get_or (take k others) m 0 ≡ j = get_or-take k others m 0 early ∙ here in
              subst (Contains (take k others)) there (Contains-get_or (take k others) m 0 (omega (arith, short, early)))
          | inr late ↦ elim (cases_eq m k) [
            | inl same ↦ absurd (omega (arith, less, is, here, ap (λ (n : ℕ). get_or others n 0) same))
            | inr after ↦ absurd (omega (arith, less, is, here, rising k m 0 (omega (arith, late, after)) m_in))
          ]
        ]

    pub rivals-first : AllPairs (λ one other. one < other) others → IsRival plan i w p → IsLeast (IsRivalAmong plan i w others) (Some p)
    rivals-first rising rival = (
      (subst (Contains others) (sym is) (Contains-get_or others k 0 lt), rival),
      λ j less among. none j (placed rising j less among.0) among.1,
    )

-- ---- rivals at an end's pin

module _ (plan : Plan) (table : PinTable) (i : ℕ) (w : Wire) (own : Option (ℕ × ℕ)) where
  pub no-pin : own ≡ None → (j : ℕ) → IsRivalAt plan table i w own j → ⊥
  no-pin none j rival = false≢true (ap (λ (o : Option (ℕ × ℕ)). is_at o rival.pin) (sym none) ∙ rival.at_pin)

  module _ (pin : ℕ × ℕ) (is : own ≡ Some pin) where
    one-pin : (q : ℕ × ℕ) → is_at own q ≡ true → pin ≡ q
    one-pin q at = same_Some pin q (sym is ∙ at-is own q at)

    pub no-place : get is_same_pair table pin ≡ None → (j : ℕ) → IsRivalAt plan table i w own j → ⊥
    no-place none j rival =
        let empty : positions_at table rival.pin ≡ [] =
        ap (positions_at table) (sym (one-pin rival.pin rival.at_pin)) ∙ ap (λ (o : Option (List ℕ)). unwrap_or o []) none in
        omega (arith, (subst (λ (l : List ℕ). Contains l j) empty rival.among.0).1)

    pub among-at : (others : List ℕ) → others ≡ positions_at table pin → (o : Option ℕ) → IsLeast (IsRivalAmong plan i w others) o
        → IsLeast (IsRivalAt plan table i w own) o
    among-at others are =
        least-same (IsRivalAmong plan i w others) (IsRivalAt plan table i w own)
        (λ j among. record {
          pin = pin;
          at_pin = is-at own pin is;
          among = subst (λ (l : List ℕ). IsRivalAmong plan i w l j) are among;
        })
        (λ j rival.
        subst (λ (l : List ℕ). IsRivalAmong plan i w l j) (sym are)
        (subst (λ (q : ℕ × ℕ). IsRivalAmong plan i w (positions_at table q) j) (sym (one-pin rival.pin rival.at_pin)) rival.among))

-- ---- clashes

module _ (plan : Plan) (table : PinTable) (finds : FindsShared plan.wires table) (i : ℕ) (w : Wire) (stands : slice_get plan.wires i ≡ Some w) where
  clash-at : (own : Option (ℕ × ℕ)) → ((pin : ℕ × ℕ) → is_at own pin ≡ true → ends_at w pin ≡ true) → (j : ℕ) → IsRivalAt plan table i w own j
      → IsPinClash plan i j
  clash-at own ends j rival =
      let pin : ℕ × ℕ = rival.pin in
      let other = rival.among.1 in
      let listed = ((finds.known pin).each j other.v other.stands).0 rival.among.0 in
      let at_pin = and_parts (ends_at other.v pin) (finds.is_shared pin) listed in
      record {
        rising = other.later;
        w = w;
        v = other.v;
        first = stands;
        second = other.stands;
        meet = record {
          different = other.different;
          together = other.together;
          coupler = pin.0;
          pin = pin.1;
          one = ends-pin w pin.0 pin.1 (ends pin rival.at_pin);
          other = ends-pin other.v pin.0 pin.1 at_pin.0;
        };
      }

  pub rival-clash : (j : ℕ) → IsRivalAt plan table i w (pin_of w.from) j ⊎ IsRivalAt plan table i w (pin_of w.to) j → IsPinClash plan i j
  rival-clash j (inl rival) =
      clash-at (pin_of w.from) (λ pin at. or-left (is_at (pin_of w.from) pin) (is_at (pin_of w.to) pin) at) j rival
  rival-clash j (inr rival) =
      clash-at (pin_of w.to) (λ pin at. or-right (is_at (pin_of w.from) pin) (is_at (pin_of w.to) pin) at) j rival

  pub clash-rival : (j : ℕ) → IsPinClash plan i j → IsRivalAt plan table i w (pin_of w.from) j ⊎ IsRivalAt plan table i w (pin_of w.to) j
  clash-rival j clash =
      let pin : ℕ × ℕ = (clash.meet.coupler, clash.meet.pin) in
      let own : clash.w ≡ w = same_Some clash.w w (sym clash.first ∙ stands) in
      let ends_w : ends_at w pin ≡ true =
      subst (λ (u : Wire). ends_at u pin ≡ true) own (pin-ends clash.w clash.meet.coupler clash.meet.pin clash.meet.one) in
      let ends_v : ends_at clash.v pin ≡ true = pin-ends clash.v clash.meet.coupler clash.meet.pin clash.meet.other in
      let differ : w.net.0 ≢ clash.v.net.0 = subst (λ (u : Wire). u.net.0 ≢ clash.v.net.0) own clash.meet.different in
      let shared : finds.is_shared pin ≡ true = finds.shared i j w clash.v pin stands clash.second ends_w ends_v differ in
      let listed : Contains (positions_at table pin) j =
      ((finds.known pin).each j clash.v clash.second).1 (and_from (ends_at clash.v pin) (finds.is_shared pin) ends_v shared) in
      let rival : IsRival plan i w j = record {
        later = clash.rising;
        v = clash.v;
        stands = clash.second;
        different = differ;
        together = subst (λ (u : Wire). RowsMeet plan u.row clash.v.row) own clash.meet.together;
      } in
      or-split (is_at (pin_of w.from) pin) (is_at (pin_of w.to) pin) ends_w
      (λ from. inl (record { pin = pin; at_pin = from; among = (listed, rival) }))
      (λ to. inr (record { pin = pin; at_pin = to; among = (listed, rival) }))

  pub least-clash : (a b : Option ℕ) → IsLeast (IsRivalAt plan table i w (pin_of w.from)) a → IsLeast (IsRivalAt plan table i w (pin_of w.to)) b
      → IsLeast (IsPinClash plan i) (lesser_of a b)
  least-clash a b from to =
      least-same (λ j. IsRivalAt plan table i w (pin_of w.from) j ⊎ IsRivalAt plan table i w (pin_of w.to) j) (IsPinClash plan i) rival-clash clash-rival
      (lesser_of a b)
      (least-either (IsRivalAt plan table i w (pin_of w.from)) (IsRivalAt plan table i w (pin_of w.to)) a b from to)

module _ (plan : Plan) where
  -- no wire before the first k has a partner
  abbrev pub HasNoClashBefore : ℕ → Type 0
  HasNoClashBefore k = (i j : ℕ) → i < k → IsPinClash plan i j → ⊥

  pub clashes-more : (k : ℕ) → HasNoClashBefore k → ((j : ℕ) → IsPinClash plan k j → ⊥) → HasNoClashBefore (k + 1)
  clashes-more k before none i j lt clash = elim (cases_eq i k) [
    | inl same ↦ none j (subst (λ (n : ℕ). IsPinClash plan n j) same clash)
    | inr other ↦ before i j (omega (arith, lt, other)) clash
  ]

  pub clashes-all : (k : ℕ) → length plan.wires ≤ k → HasNoClashBefore k → (i j : ℕ) → IsPinClash plan i j → ⊥
  clashes-all k past before i j clash = before i j (omega (arith, past, slice_get_within plan.wires i clash.w clash.first)) clash

  pub clash-first : (k j : ℕ) → HasNoClashBefore k → IsLeast (IsPinClash plan k) (Some j) → IsFirstClash plan k j
  clash-first k j before (clash, least) = record {
    clash = clash;
    none_before = λ m l other earlier. elim earlier [
      | inl less ↦ before m l less other
      | inr (same, less) ↦ least l less (subst (λ (n : ℕ). IsPinClash plan n l) same other)
    ];
  }
