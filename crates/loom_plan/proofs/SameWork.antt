-- Slots, wires and what is worked out for them depend on the laid sets but for their conditions.
use Rattle.std.proofs.Common.{◌≡◌, ℕ, Bool, true, false, cond, ◌==◌, ◌&&◌, List, [], ◌∷◌, map, filter, length, sum_by, refl, sym, ap, subst, ◌∙◌, Contains}
use Rattle.std.specs.List.{flat_map, list_any}
use Rattle.loom_base.proofs.Contained.{Contains-map, Contains-from_map}
use Rattle.loom_topology.proofs.Sums.{sum_by-map}
use Rattle.loom_project.specs.declared.draft.Draft.{Draft}
use Rattle.loom_project.specs.Project.{topology_of, cavities_of}
use Rattle.loom_rows.specs.Condition.{Meaning}
use Rattle.loom_rows.specs.Disjunction.{any_worked}
use Rattle.loom_types.specs.declared.plan.PinLine.{PinLine}
use Rattle.loom_types.specs.declared.plan.SetLine.{SetLine}
use Rattle.loom_types.specs.declared.wire.Wire.{Wire}
use Rattle.loom_types.specs.Laws.{set_wires}
use Rattle.loom_types.specs.PinLines.{pin_in}
use Rattle.loom_types.specs.Slots.{Slot, IsSlotOf, has_slot, IsSlotBefore}
use Rattle.loom_types.specs.WireOrder.{IsWireBefore}
use Rattle.loom_active.specs.Needs.{is_valid_for}
use Rattle.loom_active.specs.LiveSets.{need_mask}
use Rattle.loom_laid.specs.declared.laid_set.LaidSet.{LaidSet}
use Rattle.loom_laid.specs.LaidSets.{steps_of}
use Rattle.loom_wires.specs.Wires.{is_same_wire}
use Rattle.loom_plan.specs.Work.{line_of, AreSlots, users_of_slot, usages_worked, wires_of_layout, AreWiresOf, users_of_wire, wires_worked}
use Rattle.loom_plan.proofs.StrictOrders.{same-members, slots_once, wires_once}

-- what is chosen and mapped by the images of elements
by_image : {X Y Z : Type 0} (g : X → Y) (p : Y → Bool) (h : Y → Z) (xs : List X)
    → map (λ x. h (g x)) (filter (λ x. p (g x)) xs) ≡ map h (filter p (map g xs))
by_image g p h [] = refl
by_image {X} {Y} {Z} g p h (x ∷ xs) =
    let rest = by_image g p h xs in
    let P : Bool → Type 0 = λ b.
    map (λ (y : X). h (g y)) (cond b (x ∷ filter (λ (y : X). p (g y)) xs) (filter (λ (y : X). p (g y)) xs))
    ≡ map h (cond b (g x ∷ filter p (map g xs)) (filter p (map g xs))) in
    elim (p (g x)) as P [ true ↦ ap (λ (l : List Z). h (g x) ∷ l) rest | false ↦ rest ]

-- when the set of a line is live
line_live : Draft → SetLine → Meaning
line_live draft line choice = is_valid_for draft choice && need_mask draft choice line.net.0 == line.mask

slot_lines : Draft → List SetLine → Slot → List Meaning
slot_lines draft lines slot = map (line_live draft) (filter (λ line. has_slot line slot) lines)

users-by_lines : (draft : Draft) (laid : List LaidSet) (slot : Slot) → users_of_slot draft laid slot ≡ slot_lines draft (map line_of laid) slot
unfolding line_live slot_lines
users-by_lines draft laid slot = by_image line_of (λ line. has_slot line slot) (line_live draft) laid

usages-by_lines : (draft : Draft) (laid : List LaidSet) (slots : List Slot)
    → usages_worked draft laid slots ≡ flat_map (λ slot. any_worked (slot_lines draft (map line_of laid) slot)) slots
usages-by_lines draft laid slots = λ i. flat_map (λ slot. any_worked (users-by_lines draft laid slot i)) slots

-- the wires of the layout of a line
line_wires : Draft → List PinLine → SetLine → List Wire
line_wires draft pins line =
    set_wires (topology_of draft) line.net.0 (pin_in pins line.net.0) (cavities_of draft line.net.0) line.mask line.layout

wires-by_line : (draft : Draft) (pins : List PinLine) (set : LaidSet) → wires_of_layout draft pins set ≡ line_wires draft pins (line_of set)
unfolding line_wires
wires-by_line draft pins set = refl

wire_lines : Draft → List PinLine → List SetLine → Wire → List Meaning
wire_lines draft pins lines w = map (line_live draft) (filter (λ line. list_any (is_same_wire w) (line_wires draft pins line)) lines)

wire_users-by_lines : (draft : Draft) (pins : List PinLine) (laid : List LaidSet) (w : Wire)
    → users_of_wire draft pins laid w ≡ wire_lines draft pins (map line_of laid) w
unfolding line_live line_wires wire_lines
wire_users-by_lines draft pins laid w =
    by_image line_of (λ line. list_any (is_same_wire w) (line_wires draft pins line)) (line_live draft) laid

wires_worked-by_lines : (draft : Draft) (pins : List PinLine) (laid : List LaidSet) (wires : List Wire)
    → wires_worked draft pins laid wires ≡ flat_map (λ w. any_worked (wire_lines draft pins (map line_of laid) w)) wires
wires_worked-by_lines draft pins laid wires = λ i. flat_map (λ w. any_worked (wire_users-by_lines draft pins laid w i)) wires

-- ---- two lists of laid sets with the same lines

module _ (draft : Draft) (one other : List LaidSet) (lines : map line_of one ≡ map line_of other) where
  pub same-steps : steps_of one ≡ steps_of other
  same-steps =
      let count : SetLine → ℕ = λ line. length line.layout.steps in
      sym (sum_by-map count line_of one) ∙ (ap (sum_by count) lines ∙ sum_by-map count line_of other)

  pub same-users : (slot : Slot) → users_of_slot draft one slot ≡ users_of_slot draft other slot
  same-users slot =
      users-by_lines draft one slot ∙ (ap (λ (l : List SetLine). slot_lines draft l slot) lines ∙ sym (users-by_lines draft other slot))

  pub same-slots : (slots others : List Slot) → AreSlots draft one slots → AreSlots draft other others → slots ≡ others
  same-slots slots others a b =
      same-members IsSlotBefore slots_once slots others a.order b.order
      (λ slot at. b.all slot (subst (λ (l : List SetLine). IsSlotOf (topology_of draft) l slot) lines (a.each slot at)))
      (λ slot at. a.all slot (subst (λ (l : List SetLine). IsSlotOf (topology_of draft) l slot) (sym lines) (b.each slot at)))

  pub same-usages : (slots others : List Slot) → slots ≡ others → usages_worked draft one slots ≡ usages_worked draft other others
  same-usages slots others same =
      let worked : List SetLine → List Slot → List Meaning = λ l ss. flat_map (λ slot. any_worked (slot_lines draft l slot)) ss in
      usages-by_lines draft one slots ∙ ((λ i. worked (lines i) (same i)) ∙ sym (usages-by_lines draft other others))

  pub same-wires_worked : (pins own : List PinLine) (wires others : List Wire) → pins ≡ own → wires ≡ others
      → wires_worked draft pins one wires ≡ wires_worked draft own other others
  same-wires_worked pins own wires others same_pins same =
      let worked : List PinLine → List SetLine → List Wire → List Meaning =
      λ ps l ws. flat_map (λ w. any_worked (wire_lines draft ps l w)) ws in
      wires_worked-by_lines draft pins one wires
      ∙ ((λ i. worked (same_pins i) (lines i) (same i)) ∙ sym (wires_worked-by_lines draft own other others))

-- the wires of the one are wires of the other
wires_in : (draft : Draft) (pins : List PinLine) (one other : List LaidSet) → map line_of one ≡ map line_of other → (wires others : List Wire)
    → AreWiresOf draft pins one wires → AreWiresOf draft pins other others → (w : Wire) → Contains wires w → Contains others w
wires_in draft pins one other lines wires others a b w at =
    let s = a.each w at in
    let listed : Contains (map line_of other) (line_of s.0) =
    subst (λ (l : List SetLine). Contains l (line_of s.0)) lines (Contains-map line_of one s.0 s.1) in
    let t = Contains-from_map line_of other (line_of s.0) listed in
    let same : wires_of_layout draft pins s.0 ≡ wires_of_layout draft pins t.0 =
    wires-by_line draft pins s.0 ∙ (ap (line_wires draft pins) (sym t.2) ∙ sym (wires-by_line draft pins t.0)) in
    b.all t.0 w t.1 (subst (λ (l : List Wire). Contains l w) same s.2)

pub same-wires : (draft : Draft) (one other : List LaidSet) → map line_of one ≡ map line_of other → (pins own : List PinLine)
    → pins ≡ own → (wires others : List Wire) → AreWiresOf draft pins one wires → AreWiresOf draft own other others → wires ≡ others
same-wires draft one other lines pins own same_pins wires others a b =
    let c : AreWiresOf draft pins other others = subst (λ (ps : List PinLine). AreWiresOf draft ps other others) (sym same_pins) b in
    same-members IsWireBefore wires_once wires others a.order c.order (wires_in draft pins one other lines wires others a c)
    (wires_in draft pins other one (sym lines) others wires c a)
