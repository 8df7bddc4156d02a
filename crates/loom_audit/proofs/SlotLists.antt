-- The slots that were found, in order, are those of the layouts.
use Rattle.std.proofs.Common.{◌≡◌, ◌<◌, ◌||◌, Bool, true, false, List, [], ◌∷◌, length, get_or, map, inl, inr, refl, sym, ap, subst, ◌∙◌, arith}
use Rattle.std.specs.Prelude.{AllPairs}
use Rattle.std.specs.List.{Contains, list_any}
use Rattle.std.specs.BTreeSet.{BTreeSet, contains, IsOrdered}
use Rattle.std.proofs.lemmas.Bool.{and_parts, and_from, cases_Bool, true≢false}
use Rattle.std.proofs.lemmas.List.{get_or-map, length-map}
use Rattle.std.proofs.lemmas.Map.Keys.{Less-from_sorted}
use Rattle.std.proofs.lemmas.Map.Views.{btree_set_contains_iff}
use Rattle.loom_base.proofs.Contained.{Contains-here, Contains-cons, Contains-cases, Contains-map, Contains-from_map}
use Rattle.loom_topology.specs.Topology.{TopologyView, segment_at, is_coupler}
use Rattle.loom_project.specs.declared.draft.Draft.{Draft}
use Rattle.loom_project.specs.Project.{topology_of}
use Rattle.loom_types.specs.declared.plan.Plan.{Plan}
use Rattle.loom_types.specs.Slots.{Slot, IsSlotOf, IsSlotBefore, has_slot}
use Rattle.loom_audit.specs.LayoutRule.{AreSlotsOf}
use Rattle.loom_audit.specs.SlotSets.{Key, slot_of_key, key_cmp, crosses, AreSlotKeys}
use Rattle.loom_audit.proofs.SlotKeys.{key_total, key-exact, key-before}

any-some : {X : Type 0} (p : X → Bool) (xs : List X) → list_any p xs ≡ true → (x : X) × Contains xs x × (p x ≡ true)
any-some p [] e = absurd (true≢false (sym e))
any-some p (x ∷ xs) e = elim (cases_Bool (p x)) [
  | inl passes ↦ (x, Contains-here x xs, passes)
  | inr fails ↦
      let rest = any-some p xs (sym (ap (λ b. b || list_any p xs) fails) ∙ e) in
      (rest.0, Contains-cons rest.0 x xs rest.1, rest.2)
]

or-true : (b : Bool) → (b || true) ≡ true
or-true true = refl
or-true false = refl

any-from : {X : Type 0} (p : X → Bool) (xs : List X) (x : X) → Contains xs x → p x ≡ true → list_any p xs ≡ true
any-from p [] x listed e = absurd (omega (arith, listed.1))
any-from p (y ∷ ys) x listed e = elim (Contains-cases x y ys listed) [
  | inl same ↦ ap (λ b. b || list_any p ys) (ap p same ∙ e)
  | inr later ↦ ap (λ b. p y || b) (any-from p ys x later e) ∙ or-true (p y)
]

module _ (draft : Draft) (plan : Plan) (slots : BTreeSet Key) (are : AreSlotKeys (topology_of draft) plan.sets slots) (ordered : IsOrdered key_cmp slots) where
  abbrev topology : TopologyView
  topology = topology_of draft

  key-slot : (key : Key) → contains key_cmp slots key ≡ true → IsSlotOf topology plan.sets (slot_of_key key)
  key-slot key here =
      let some = any-some (λ set. crosses topology set key) plan.sets (sym (are key) ∙ here) in
      let parts = and_parts (is_coupler (segment_at topology key.1).kind) (has_slot some.0 (slot_of_key key)) some.2 in
      (parts.0, (some.0, some.1, parts.1))

  slot-key : (slot : Slot) → IsSlotOf topology plan.sets slot → contains key_cmp slots (slot.net, slot.coupler, slot.ordinal) ≡ true
  slot-key slot is =
      are (slot.net, slot.coupler, slot.ordinal)
      ∙ any-from (λ set. crosses topology set (slot.net, slot.coupler, slot.ordinal)) plan.sets is.1.0 is.1.1
      (and_from (is_coupler (segment_at topology slot.coupler).kind) (has_slot is.1.0 slot) is.0 is.1.2)

  abbrev listed : List Slot
  listed = map slot_of_key slots.keys

  rise : AllPairs IsSlotBefore listed
  rise i j d before within =
      let none : Key = (0, 0, 0) in
      let j_in : j < length slots.keys = omega (arith, within, length-map slots.keys slot_of_key) in
      let i_in : i < length slots.keys = omega (arith, before, j_in) in
      let less = Less-from_sorted key_cmp slots.keys i j none ordered before j_in in
      subst (λ (s : Slot). IsSlotBefore s (get_or listed j d)) (sym (get_or-map slot_of_key slots.keys i none d i_in))
      (subst (λ (s : Slot). IsSlotBefore (slot_of_key (get_or slots.keys i none)) s) (sym (get_or-map slot_of_key slots.keys j none d j_in))
      (key-before (get_or slots.keys i none) (get_or slots.keys j none) less))

  pub are-slots : AreSlotsOf draft plan listed
  are-slots = record {
    order = rise;
    each = λ slot h.
        let from = Contains-from_map slot_of_key slots.keys slot h in
        subst (IsSlotOf topology plan.sets) from.2 (key-slot from.0 ((btree_set_contains_iff key_total key-exact slots from.0).1 from.1));
    all = λ slot is.
        Contains-map slot_of_key slots.keys (slot.net, slot.coupler, slot.ordinal)
        ((btree_set_contains_iff key_total key-exact slots (slot.net, slot.coupler, slot.ordinal)).0 (slot-key slot is));
  }
