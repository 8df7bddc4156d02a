-- What the conditions by slots say of the slots of the layouts.
use Rattle.std.proofs.Common.{◌≡◌, ℕ, ◌<◌, ◌≤◌, ◌&&◌, inl, inr, true, List, [], ◌∷◌, ◌++◌, length, get_or, map, Some, refl, sym, ap, subst, ◌∙◌, arith}
use Rattle.std.specs.Prelude.{filter, AllPairs}
use Rattle.std.specs.List.{All, AllByRecursion, Contains, flat_map, slice_get}
use Rattle.std.specs.BTreeMap.{is_at}
use Rattle.std.specs.Map.{keys_of}
use Rattle.std.specs.declared.cmp.Ordering.TheVariants.{Less}
use Rattle.std.proofs.lemmas.Bool.{and_parts, and_from, cases_lt, true≢false}
use Rattle.std.proofs.lemmas.List.{get_or-map, length-map, get_or_past, get_or_default}
use Rattle.std.proofs.lemmas.List.Elements.{All-filter, All-map, All-contains, All-weaker, All-contains_itself, filter_agree, recursion_from_All}
use Rattle.std.proofs.lemmas.Map.Entries.{btree_map_get_place, place_from_lookup}
use Rattle.std.proofs.lemmas.Map.Keys.{Less-from_sorted}
use Rattle.std.proofs.lemmas.Option.{same_Some, slice_get-get_or, slice_get_within, get_or_from_slice_get}
use Rattle.loom_base.proofs.Contained.{Contains-here, Contains-map, Contains-from_map, Contains-filter, Contains-from_filter}
use Rattle.loom_topology.specs.Topology.{TopologyView, segment_at, is_coupler, no_segment}
use Rattle.loom_project.specs.declared.draft.Draft.{Draft}
use Rattle.loom_project.specs.Project.{topology_of}
use Rattle.loom_rows.specs.declared.cond.Cond.{Cond}
use Rattle.loom_rows.specs.Condition.{Meaning, value}
use Rattle.loom_rows.specs.Disjunction.{some_hold, any_worked}
use Rattle.loom_rows.specs.Leftovers.{AreSame}
use Rattle.loom_rows.specs.Printing.{AreHad}
use Rattle.loom_rows.specs.Table.{Table, Has}
use Rattle.loom_rows.proofs.Conditions.{same}
use Rattle.loom_types.specs.Slots.{Slot, IsSlotOf, has_slot, IsSlotBefore}
use Rattle.loom_laid.specs.declared.laid_set.LaidSet.{LaidSet}
use Rattle.loom_laid.specs.LaidSets.{steps_of}
use Rattle.loom_pins.specs.declared.slot.Slot.{Slot as PinSlot}
use Rattle.loom_plan.specs.Work.{line_of, AreSlots, set_live, users_of_slot, usages_worked, slot_at, AreUsages}
use Rattle.loom_plan.specs.SlotUsers.{Key, slot_of_key, key_cmp, Users, crosses, conds_of, unless_empty, AreUsers, usage_worked, AreJoined}
use Rattle.loom_plan.proofs.SlotKeys.{key_total, key-same, key-before}
use Rattle.loom_plan.proofs.UsageSteps.{Entry}

-- ---- lists

unless_empty-some : (xs ys : List Cond) → unless_empty xs ≡ Some ys → (ys ≡ xs) × (0 < length xs)
unless_empty-some [] ys e = absurd (cc)
unless_empty-some (x ∷ xs) ys e = (sym (same_Some (x ∷ xs) ys e), omega arith)

unless_empty-full : (xs : List Cond) (x : Cond) → Contains xs x → unless_empty xs ≡ Some xs
unless_empty-full [] x h = absurd (omega (arith, h.1))
unless_empty-full (y ∷ ys) x h = refl

some-member : {X : Type 0} (xs : List X) → 0 < length xs → (x : X) × Contains xs x
some-member [] h = absurd (omega arith)
some-member (x ∷ xs) h = (x, Contains-here x xs)

-- two lists that functions send to the same list agree place by place
at-place : {X Y Z : Type 0} (f : X → Z) (g : Y → Z) (xs : List X) (ys : List Y) → map f xs ≡ map g ys → (k : ℕ) (x : X) (y : Y) → k < length xs → k < length ys → f (get_or xs k x) ≡ g (get_or ys k y)
at-place f g xs ys e k x y in_xs in_ys =
    sym (get_or-map f xs k x (f x) in_xs) ∙ ap (λ l. get_or l k (f x)) e ∙ get_or-map g ys k y (f x) in_ys

flat_map-agree : {X Y A : Type 0} (f : X → List A) (g : Y → List A) (h : X → Y) (xs : List X) → AllByRecursion (λ x. f x ≡ g (h x)) xs → flat_map f xs ≡ flat_map g (map h xs)
flat_map-agree f g h [] a = refl
flat_map-agree f g h (x ∷ xs) a = λ i. a.0 i ++ flat_map-agree f g h xs a.1 i

values-live : (draft : Draft) (sets : List LaidSet) → AllByRecursion (λ set. AreSame (value set.cond) (set_live draft set)) sets → map value (map (λ set. set.cond) sets) ≡ map (set_live draft) sets
values-live draft [] a = refl
values-live draft (set ∷ sets) a = λ i. same a.0 i ∷ values-live draft sets a.1 i

-- a coupler is one of the segments
pub coupler-within : (topology : TopologyView) (s : ℕ) → is_coupler (segment_at topology s).kind ≡ true → s < length topology.segments
coupler-within topology s e = elim (cases_lt s (length topology.segments)) [
  | inl lt ↦ lt
  | inr past ↦ absurd (true≢false (sym e ∙ ap (λ g. is_coupler g.kind) (get_or_past topology.segments s no_segment past)))
]

-- ---- slots

module _ (topology : TopologyView) (laid : List LaidSet) (users : Users) (are : AreUsers topology laid users) where
  -- an entry's conditions are those of its slot, and there is one
  entry-conds : (e : Entry) → Contains users.entries e → (e.1 ≡ conds_of topology laid e.0) × (0 < length (conds_of topology laid e.0))
  entry-conds e h =
      let stands : slice_get users.entries h.0 ≡ Some (e.0, e.1) = slice_get-get_or users.entries h.0 e h.1 ∙ ap Some h.2 in
      unless_empty-some (conds_of topology laid e.0) e.1 (sym (are.at e.0) ∙ btree_map_get_place key_total users h.0 e.0 e.1 are.ordered stands)

  -- some set has the slot of an entry
  entry-set : (e : Entry) → Contains users.entries e → (set : LaidSet) × Contains laid set × (crosses topology set e.0 ≡ true)
  entry-set e h =
      let some = some-member (conds_of topology laid e.0) (entry-conds e h).1 in
      let from = Contains-from_map (λ (s : LaidSet). s.cond) (filter (λ s. crosses topology s e.0) laid) some.0 some.1 in
      let kept = Contains-from_filter (λ s. crosses topology s e.0) laid from.0 from.1 in
      (from.0, kept.0, kept.1)

  pub entry-coupler : (e : Entry) → Contains users.entries e → is_coupler (segment_at topology e.0.1).kind ≡ true
  entry-coupler e h =
      let s = entry-set e h in
      (and_parts (is_coupler (segment_at topology e.0.1).kind) (has_slot (line_of s.0) (slot_of_key e.0)) s.2).0

  -- the table has the conditions
  pub users-had : (t : Table) → All (λ set. Has t set.cond) laid → All (λ (e : Entry). AreHad t e.1) users.entries
  users-had t has =
      All-weaker (Contains users.entries) (λ (e : Entry). AreHad t e.1)
      (λ e h i x at.
      All-contains (Has t) e.1 x
      (subst (All (Has t)) (sym (entry-conds e h).0) (All-map (Has t) (λ (s : LaidSet). s.cond) (filter (λ s. crosses topology s e.0) laid) (All-filter (λ s. crosses topology s e.0) (λ s. Has t s.cond) laid has)))
      (i, slice_get_within e.1 i x at, get_or_from_slice_get e.1 i x x at))
      users.entries (All-contains_itself users.entries)

module _ (draft : Draft) (laid : List LaidSet) (users : Users) (are : AreUsers (topology_of draft) laid users) where
  abbrev topology : TopologyView
  topology = topology_of draft

  abbrev slots_of : List Slot
  slots_of = map (λ (e : Entry). slot_of_key e.0) users.entries

  entry-slot : (e : Entry) → Contains users.entries e → IsSlotOf topology (map line_of laid) (slot_of_key e.0)
  entry-slot e h =
      let s = entry-set topology laid users are e h in (
        entry-coupler topology laid users are e h,
        (line_of s.0, Contains-map line_of laid s.0 s.1, (and_parts (is_coupler (segment_at topology e.0.1).kind) (has_slot (line_of s.0) (slot_of_key e.0)) s.2).1),
      )

  slot-listed : (slot : Slot) → IsSlotOf topology (map line_of laid) slot → Contains slots_of slot
  slot-listed slot is =
      let key : Key = (slot.net, slot.coupler, slot.ordinal) in
      let set = Contains-from_map line_of laid is.1.0 is.1.1 in
      let has : has_slot (line_of set.0) slot ≡ true = ap (λ l. has_slot l slot) set.2 ∙ is.1.2 in
      let kept = Contains-filter (λ s. crosses topology s key) laid set.0 set.1 (and_from (is_coupler (segment_at topology slot.coupler).kind) (has_slot (line_of set.0) slot) is.0 has) in
      let full = unless_empty-full (conds_of topology laid key) set.0.cond (Contains-map (λ (s : LaidSet). s.cond) (filter (λ s. crosses topology s key) laid) set.0 kept) in
      let place = place_from_lookup (is_at (key_cmp key)) users.entries (conds_of topology laid key) (are.at key ∙ full) in
      let stands : Contains users.entries (place.1, conds_of topology laid key) =
      (place.0, slice_get_within users.entries place.0 (place.1, conds_of topology laid key) place.2, get_or_from_slice_get users.entries place.0 (place.1, conds_of topology laid key) (place.1, conds_of topology laid key) place.2) in
      subst (λ (k : Key). Contains slots_of (slot_of_key k)) (sym (key-same key place.1 place.3))
      (Contains-map (λ (e : Entry). slot_of_key e.0) users.entries (place.1, conds_of topology laid key) stands)

  slots-rise : AllPairs IsSlotBefore slots_of
  slots-rise i j d i_j within =
      let e : Entry = ((0, 0, 0), []) in
      let j_in : j < length users.entries = omega (arith, within, length-map users.entries (λ (x : Entry). slot_of_key x.0)) in
      let i_in : i < length users.entries = omega arith in
      let less : key_cmp (get_or users.entries i e).0 (get_or users.entries j e).0 ≡ Less =
      (λ k. key_cmp (sym (get_or-map (λ (x : Entry). x.0) users.entries i e (0, 0, 0) i_in) k) (sym (get_or-map (λ (x : Entry). x.0) users.entries j e (0, 0, 0) j_in) k))
      ∙ Less-from_sorted key_cmp (keys_of users.entries) i j (0, 0, 0) are.ordered i_j (omega (arith, j_in, length-map users.entries (λ (x : Entry). x.0))) in
      subst (λ (s : Slot). IsSlotBefore s (get_or slots_of j d)) (sym (get_or-map (λ (x : Entry). slot_of_key x.0) users.entries i e d i_in))
      (subst (λ (s : Slot). IsSlotBefore (slot_of_key (get_or users.entries i e).0) s) (sym (get_or-map (λ (x : Entry). slot_of_key x.0) users.entries j e d j_in))
      (key-before (get_or users.entries i e).0 (get_or users.entries j e).0 less))

  pub are-slots : AreSlots draft laid slots_of
  are-slots = record {
    order = slots-rise;
    each = λ slot h.
        let e = Contains-from_map (λ (x : Entry). slot_of_key x.0) users.entries slot h in
        subst (IsSlotOf topology (map line_of laid)) e.2 (entry-slot e.0 e.1);
    all = slot-listed;
  }

  module _ (live : All (λ set. AreSame (value set.cond) (set_live draft set)) laid) where
    entry-users : (e : Entry) → Contains users.entries e → map value e.1 ≡ users_of_slot draft laid (slot_of_key e.0)
    entry-users e h =
        let coupler = entry-coupler topology laid users are e h in
        ap (map value) (entry-conds topology laid users are e h).0
        ∙ ap (λ l. map value (map (λ (s : LaidSet). s.cond) l))
        (filter_agree (λ s. crosses topology s e.0) (λ s. has_slot (line_of s) (slot_of_key e.0)) (λ s. ap (λ b. b && has_slot (line_of s) (slot_of_key e.0)) coupler) laid)
        ∙ values-live draft (filter (λ s. has_slot (line_of s) (slot_of_key e.0)) laid)
        (recursion_from_All (λ s. AreSame (value s.cond) (set_live draft s)) (filter (λ s. has_slot (line_of s) (slot_of_key e.0)) laid)
        (All-filter (λ s. has_slot (line_of s) (slot_of_key e.0)) (λ s. AreSame (value s.cond) (set_live draft s)) laid live))

    pub worked-is : flat_map usage_worked users.entries ≡ usages_worked draft laid slots_of
    worked-is =
        flat_map-agree usage_worked (λ slot. any_worked (users_of_slot draft laid slot)) (λ (e : Entry). slot_of_key e.0) users.entries
        (recursion_from_All (λ (e : Entry). usage_worked e ≡ any_worked (users_of_slot draft laid (slot_of_key e.0))) users.entries
        (All-weaker (Contains users.entries) (λ (e : Entry). usage_worked e ≡ any_worked (users_of_slot draft laid (slot_of_key e.0))) (λ e h. ap any_worked (entry-users e h)) users.entries (All-contains_itself users.entries)))

  module _ (used : List PinSlot) (joined : AreJoined users.entries used) where
    pub as-many : length used ≡ length users.entries
    as-many = sym (length-map used slot_at) ∙ ap length joined.slots ∙ length-map users.entries (λ (e : Entry). slot_of_key e.0)

    pub few-slots : steps_of laid ≤ 1000000 → length used ≤ 1000000
    few-slots few = omega (arith, few, as-many, are.few)

    pub slots-are : AreSlots draft laid (map slot_at used)
    slots-are = subst (AreSlots draft laid) (sym joined.slots) are-slots

    -- the entry of a slot
    slot-entry : (slot : PinSlot) → Contains used slot → (e : Entry) × Contains users.entries e × (slot_at slot ≡ slot_of_key e.0) × (value slot.usage ≡ some_hold (map value e.1))
    slot-entry slot h =
        let d : Entry = ((0, 0, 0), []) in
        let within : h.0 < length users.entries = omega (arith, h.1, as-many) in
        let e : Entry = get_or users.entries h.0 d in (
          e,
          (h.0, within, sym (get_or_default users.entries h.0 d e within)),
          ap slot_at (sym h.2) ∙ at-place slot_at (λ (x : Entry). slot_of_key x.0) used users.entries joined.slots h.0 slot d h.1 within,
          ap (λ (s : PinSlot). value s.usage) (sym h.2) ∙ at-place (λ (s : PinSlot). value s.usage) (λ (x : Entry). some_hold (map value x.1)) used users.entries joined.usages h.0 slot d h.1 within,
        )

    pub couplers-within : All (λ (slot : PinSlot). slot.coupler.0 < length topology.segments) used
    couplers-within =
        All-weaker (Contains used) (λ (slot : PinSlot). slot.coupler.0 < length topology.segments)
        (λ slot h.
        let e = slot-entry slot h in
        subst (λ (n : ℕ). n < length topology.segments) (sym (ap (λ (s : Slot). s.coupler) e.2)) (coupler-within topology e.0.0.1 (entry-coupler topology laid users are e.0 e.1)))
        used (All-contains_itself used)

    pub usages-are : All (λ set. AreSame (value set.cond) (set_live draft set)) laid → AreUsages draft laid (map slot_at used) used
    usages-are live = record {
      slots_are = refl;
      usage = λ slot h.
          let e = slot-entry slot h in
          let path : value slot.usage ≡ some_hold (users_of_slot draft laid (slot_at slot)) =
          e.3 ∙ ap some_hold (entry-users live e.0 e.1) ∙ ap (λ s. some_hold (users_of_slot draft laid s)) (sym e.2) in
          λ choice. ap (λ (f : Meaning). f choice) path;
    }
