-- The wires of each set, put together wire by wire from the sets of each wire.
use Rattle.std.proofs.Common.{◌≡◌, ℕ, ◌+◌, ◌<◌, ◌≤◌, inl, inr, Bool, true, false, cond, ◌||◌, List, [], ◌∷◌, ◌++◌, Option, Some, None, unwrap_or, length, get_or, take, refl, sym, ap, subst, ◌∙◌, arith, eqb, append-nil, slice_get, slice_set, Contains, filter}
use Rattle.std.specs.List.{All, AllPairs, filter_map}
use Rattle.std.specs.HashMap.{get}
use Rattle.std.specs.Cmp.{nat_eq_equiv}
use Rattle.std.proofs.lemmas.Bool.{cases_eq, cases_Bool, cond-true, cond-false, eq-eqb, eqb-true, ne_eqb, false_from_ne_true}
use Rattle.std.proofs.lemmas.List.{take_more, take_all, length-take-le, get_or-take, get_or_default, get_or-set_same, get_or-set_other}
use Rattle.std.proofs.lemmas.List.Elements.{All-get_or, filter-append, filter_map-append}
use Rattle.std.proofs.lemmas.List.Folds.{list_any-append}
use Rattle.std.proofs.lemmas.Map.Views.{list_any-from_Contains, Contains-from_any}
use Rattle.std.proofs.lemmas.Option.{same_Some, slice_get-get_or, slice_get_read, slice_get_within, get_or_from_slice_get}
use Rattle.loom_types.specs.declared.plan.Plan.{Plan}
use Rattle.loom_types.specs.declared.plan.SetLine.{SetLine}
use Rattle.loom_types.specs.declared.wire.Wire.{Wire}
use Rattle.loom_active.specs.SetWires.{PicksWiresOf}
use Rattle.loom_audit.specs.Grouping.{is_same_pair}
use Rattle.loom_audit.specs.SetWires.{AreMembers, wires_at}
use Rattle.loom_check.specs.MetSets.{AreMet, MetTable, KnowsMetBefore}
use Rattle.loom_check.specs.MetParts.{HaveGot, has_position, is_member, sets_of_wire}
use Rattle.loom_check.proofs.AgreeingLines.{stands_at}

-- ---- positions in a list

pub has-listed : (positions : List ℕ) (at : ℕ) → Contains positions at → has_position positions at ≡ true
has-listed positions at listed = list_any-from_Contains nat_eq_equiv at positions listed

pub listed-has : (positions : List ℕ) (at : ℕ) → has_position positions at ≡ true → Contains positions at
listed-has positions at holds = Contains-from_any (λ x y e. eqb-true x y e) at positions holds

or-nothing : (b : Bool) → (b || false) ≡ b
or-nothing true = refl
or-nothing false = refl

or-true : (b : Bool) → (b || true) ≡ true
or-true true = refl
or-true false = refl

module _ (places : List ℕ) (k x : ℕ) (lt : k < length places) (is : x ≡ get_or places k 0) where
  has-more : (at : ℕ) → has_position (take (k + 1) places) at ≡ (has_position (take k places) at || (eqb at x || false))
  has-more at =
      ap (λ (l : List ℕ). has_position l at) (take_more places k 0 lt ∙ ap (λ (n : ℕ). take k places ++ n ∷ []) (sym is))
      ∙ list_any-append (λ y. eqb at y) (take k places) (x ∷ [])

  has-new : (at : ℕ) → at ≡ x → has_position (take (k + 1) places) at ≡ true
  has-new at e =
      has-more at ∙ ap (λ b. has_position (take k places) at || (b || false)) (eq-eqb at x e) ∙ or-true (has_position (take k places) at)

  has-old : (at : ℕ) → (at ≡ x → ⊥) → has_position (take (k + 1) places) at ≡ has_position (take k places) at
  has-old at ne =
      has-more at ∙ ap (λ b. has_position (take k places) at || (b || false)) (ne_eqb at x ne) ∙ or-nothing (has_position (take k places) at)

  not-yet : AllPairs (λ one other. one < other) places → has_position (take k places) x ≡ false
  not-yet rising = false_from_ne_true (has_position (take k places) x) (λ holds. earlier (listed-has (take k places) x holds))
    where
      earlier : Contains (take k places) x → ⊥
      earlier (i, i_in, e) =
          let short : length (take k places) ≡ k = length-take-le k places (omega (arith, lt)) in
          let i_lt : i < k = omega (arith, i_in, short) in
          let here : get_or places i 0 ≡ x = sym (get_or-take k places i 0 i_lt) ∙ get_or_default (take k places) i 0 x i_in ∙ e in
          absurd (omega (arith, rising i k 0 i_lt lt, here, is))

-- ---- a position for each of the places

pub got-none : (old : List (List ℕ)) (position : ℕ) → HaveGot old old [] position
got-none old position at lt = refl

pub got-more : (old now : List (List ℕ)) (places : List ℕ) (position k x : ℕ) → k < length places → x ≡ get_or places k 0
    → AllPairs (λ one other. one < other) places → All (λ at. at < length old) places → length now ≡ length old
    → HaveGot old now (take k places) position → (was new : List ℕ) → was ≡ get_or now x was → new ≡ was ++ position ∷ []
    → HaveGot old (slice_set now x new) (take (k + 1) places) position
got-more old now places position k x lt is rising within counted before was new was_is new_is at at_lt =
    let x_lt : x < length now = omega (arith, All-get_or (λ p. p < length old) places k 0 lt within, is, counted) in
    let kept : List ℕ = get_or old at [] in
    elim (cases_eq at x) [
      | inl e ↦
          let here : get_or (slice_set now x new) at [] ≡ new =
          ap (λ (n : ℕ). get_or (slice_set now x new) n []) e ∙ get_or-set_same now x new [] x_lt in
          let had : was ≡ kept =
          was_is ∙ get_or_default now x was [] x_lt ∙ ap (λ (n : ℕ). get_or now n []) (sym e) ∙ before at at_lt
          ∙ cond-false (has_position (take k places) at) (kept ++ position ∷ []) kept (ap (has_position (take k places)) e ∙ not-yet places k x lt is rising) in
          here ∙ (new_is ∙ ap (λ (l : List ℕ). l ++ position ∷ []) had)
          ∙ sym (cond-true (has_position (take (k + 1) places) at) (kept ++ position ∷ []) kept (has-new places k x lt is at e))
      | inr ne ↦
          get_or-set_other now x at new [] ne ∙ before at at_lt
          ∙ ap (λ (b : Bool). cond b (kept ++ position ∷ []) kept) (sym (has-old places k x lt is at ne))
    ]

-- ---- the wires of each set, so far

pub record AreMembersBefore (plan : Plan) (table : MetTable) (k : ℕ) (members : List (List ℕ)) : Type 0 where
  pub counted : length members ≡ length plan.sets
  pub each : (set : ℕ) → set < length plan.sets → wires_at plan (get_or members set []) ≡ filter (is_member table set) (take k plan.wires)

module _ (plan : Plan) (table : MetTable) where
  pub members-none : (members : List (List ℕ)) → length members ≡ length plan.sets → ((at : ℕ) → get_or members at [] ≡ [])
      → AreMembersBefore plan table 0 members
  members-none members counted empty = record { counted = counted; each = λ set lt. ap (wires_at plan) (empty set) }

  module _ (k position : ℕ) (w : Wire) (lt : k < length plan.wires) (is : w ≡ get_or plan.wires k w) (placed : position ≡ k) where
    found : (old : List ℕ) → wires_at plan (old ++ position ∷ []) ≡ wires_at plan old ++ w ∷ []
    found old =
        let there : slice_get plan.wires position ≡ Some w =
        ap (slice_get plan.wires) placed ∙ slice_get-get_or plan.wires k w lt ∙ ap Some (sym is) in
        filter_map-append (slice_get plan.wires) old (position ∷ [])
        ∙ ap (λ (o : Option Wire). wires_at plan old ++ filter_map (λ (x : Option Wire). x) (o ∷ [])) there

    abbrev picked : ℕ → List Wire
    picked set = filter (is_member table set) (take k plan.wires)

    more : (set : ℕ) → filter (is_member table set) (take (k + 1) plan.wires) ≡ picked set ++ cond (is_member table set w) (w ∷ []) []
    more set =
        ap (filter (is_member table set)) (take_more plan.wires k w lt ∙ ap (λ (x : Wire). take k plan.wires ++ x ∷ []) (sym is))
        ∙ filter-append (is_member table set) (take k plan.wires) (w ∷ [])

    pub members-more : (old new : List (List ℕ)) (sets : List ℕ) → sets ≡ sets_of_wire table w → length new ≡ length old
        → HaveGot old new sets position → AreMembersBefore plan table k old → AreMembersBefore plan table (k + 1) new
    members-more old new sets are counted got before = record {
      counted = counted ∙ before.counted;
      each = λ set set_lt.
          let had : List ℕ = get_or old set [] in
          let test : has_position sets set ≡ is_member table set w = ap (λ (l : List ℕ). has_position l set) are in
          let now : get_or new set [] ≡ cond (is_member table set w) (had ++ position ∷ []) had =
          got set (omega (arith, set_lt, before.counted)) ∙ ap (λ (b : Bool). cond b (had ++ position ∷ []) had) test in
          elim (cases_Bool (is_member table set w)) [
            | inl its ↦
                ap (wires_at plan) (now ∙ cond-true (is_member table set w) (had ++ position ∷ []) had its)
                ∙ found had
                ∙ ap (λ (l : List Wire). l ++ w ∷ []) (before.each set set_lt)
                ∙ ap (λ (l : List Wire). picked set ++ l) (sym (cond-true (is_member table set w) (w ∷ []) [] its))
                ∙ sym (more set)
            | inr lacks ↦
                ap (wires_at plan) (now ∙ cond-false (is_member table set w) (had ++ position ∷ []) had lacks)
                ∙ before.each set set_lt
                ∙ sym (append-nil (picked set))
                ∙ ap (λ (l : List Wire). picked set ++ l) (sym (cond-false (is_member table set w) (w ∷ []) [] lacks))
                ∙ sym (more set)
          ];
    }

    -- a wire without sets
    pub members-same : (old : List (List ℕ)) → get is_same_pair table (w.net.0, w.row) ≡ None
        → AreMembersBefore plan table k old → AreMembersBefore plan table (k + 1) old
    members-same old none before =
        members-more old old [] (sym (ap (λ (o : Option (List ℕ)). unwrap_or o []) none)) refl (got-none old position) before

  module _ (knows : KnowsMetBefore plan table (length plan.wires)) where
    -- what the table has for one of the wires is right
    pub sets-there : (k : ℕ) (w : Wire) (sets : List ℕ) → k < length plan.wires → w ≡ get_or plan.wires k w
        → get is_same_pair table (w.net.0, w.row) ≡ Some sets → AreMet plan w sets
    sets-there k w sets lt is found =
        let known = knows k w lt (slice_get_read plan.wires (length plan.wires) k w refl lt is) in
        subst (AreMet plan w) (same_Some known.positions sets (sym known.found ∙ found)) known.met

    -- the sets of the table are those of the wire
    member-is : (i : ℕ) (set : SetLine) → slice_get plan.sets i ≡ Some set → PicksWiresOf plan set (is_member table i)
    member-is i set at w (place, within, stands) =
        let known = knows place w within (stands_at plan.wires w place within stands) in
        let are : sets_of_wire table w ≡ known.positions = ap (λ (o : Option (List ℕ)). unwrap_or o []) known.found in
        let each = known.met.each i set at in (
          λ holds. each.0 (listed-has known.positions i (sym (ap (λ (l : List ℕ). has_position l i) are) ∙ holds)),
          λ its. ap (λ (l : List ℕ). has_position l i) are ∙ has-listed known.positions i (each.1 its),
        )

    pub members-all : (k : ℕ) (members : List (List ℕ)) → length plan.wires ≤ k → AreMembersBefore plan table k members → AreMembers plan members
    members-all k members past before = record {
      counted = before.counted;
      each = λ i set positions at at_members.
          let lt : i < length plan.sets = slice_get_within plan.sets i set at in
          record {
            is_its = is_member table i;
            its = member-is i set at;
            picked =
                ap (wires_at plan) (sym (get_or_from_slice_get members i positions [] at_members))
                ∙ before.each i lt
                ∙ ap (filter (is_member table i)) (take_all k plan.wires past);
          };
    }
