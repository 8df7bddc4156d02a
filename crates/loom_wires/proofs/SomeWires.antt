-- Every list of sets has a list of wires: each wire of each set, put in its place.
use Rattle.std.proofs.Common.{◌≡◌, zero, suc, ◌⊎◌, inl, inr, List, [], ◌∷◌, get_or, refl, sym, ap, subst, ◌∙◌, arith}
use Rattle.std.specs.List.{AllPairs, Contains, flat_map}
use Rattle.std.specs.declared.cmp.Ordering.{Ordering}
use Rattle.std.specs.declared.cmp.Ordering.TheVariants.{Less, Equal, Greater}
use Rattle.std.specs.Ordering.{ordering_reverse}
use Rattle.std.proofs.lemmas.List.Elements.{Contains-get_or, Contains-append_left, Contains-append_right, Contains-append_cases}
use Rattle.loom_base.proofs.Contained.{Contains-here, Contains-cons, Contains-cases}
use Rattle.loom_topology.specs.Topology.{TopologyView}
use Rattle.loom_types.specs.declared.plan.PinLine.{PinLine}
use Rattle.loom_types.specs.declared.wire.Wire.{Wire}
use Rattle.loom_types.specs.WireOrder.{wire_cmp, IsWireBefore}
use Rattle.loom_wires.specs.declared.laid_set.LaidSet.{LaidSet}
use Rattle.loom_wires.specs.Wires.{wires_of_set, AreWires}
use Rattle.loom_wires.specs.WireTotals.{wire_cmp_total}
use Rattle.loom_wires.proofs.UniqueWires.{Rise}
use Rattle.loom_wires.proofs.WireLengths.{IsMeasured, measured, exact_wires}

-- by how the wire stands to the first
abbrev placed : Ordering → Wire → Wire → List Wire → List Wire → List Wire
placed Less w v ws rest = w ∷ v ∷ ws
placed Equal w v ws rest = v ∷ ws
placed Greater w v ws rest = v ∷ rest

-- the wire put in its place, where no wire equals it
abbrev insert_wire : Wire → List Wire → List Wire
insert_wire w [] = w ∷ []
insert_wire w (v ∷ ws) = placed (wire_cmp w v) w v ws (insert_wire w ws)

abbrev sorted : List Wire → List Wire
sorted [] = []
sorted (w ∷ ws) = insert_wire w (sorted ws)

none_listed : (w : Wire) → Contains [] w → ⊥
none_listed w listed = absurd (omega (arith, listed.1))

-- ---- the members

from_placed : (o : Ordering) (w v x : Wire) (ws rest : List Wire) → (Contains rest x → (x ≡ w) ⊎ Contains ws x) → Contains (placed o w v ws rest) x → (x ≡ w) ⊎ Contains (v ∷ ws) x
from_placed Less w v x ws rest inner listed = elim (Contains-cases x w (v ∷ ws) listed) [ inl same ↦ inl (sym same) | inr later ↦ inr later ]
from_placed Equal w v x ws rest inner listed = inr listed
from_placed Greater w v x ws rest inner listed = elim (Contains-cases x v rest listed) [
  | inl same ↦ inr (subst (Contains (v ∷ ws)) same (Contains-here v ws))
  | inr later ↦ elim (inner later) [ inl same ↦ inl same | inr had ↦ inr (Contains-cons x v ws had) ]
]

from_insert : (w x : Wire) (ws : List Wire) → Contains (insert_wire w ws) x → (x ≡ w) ⊎ Contains ws x
from_insert w x [] listed = elim (Contains-cases x w [] listed) [ inl same ↦ inl (sym same) | inr later ↦ inr later ]
from_insert w x (v ∷ ws) listed = from_placed (wire_cmp w v) w v x ws (insert_wire w ws) (from_insert w x ws) listed

keeps_placed : (o : Ordering) (w v x : Wire) (ws rest : List Wire) → (Contains ws x → Contains rest x) → Contains (v ∷ ws) x → Contains (placed o w v ws rest) x
keeps_placed Less w v x ws rest inner listed = Contains-cons x w (v ∷ ws) listed
keeps_placed Equal w v x ws rest inner listed = listed
keeps_placed Greater w v x ws rest inner listed = elim (Contains-cases x v ws listed) [
  | inl same ↦ subst (Contains (v ∷ rest)) same (Contains-here v rest)
  | inr later ↦ Contains-cons x v rest (inner later)
]

keeps_insert : (w x : Wire) (ws : List Wire) → Contains ws x → Contains (insert_wire w ws) x
keeps_insert w x [] listed = absurd (none_listed x listed)
keeps_insert w x (v ∷ ws) listed = keeps_placed (wire_cmp w v) w v x ws (insert_wire w ws) (keeps_insert w x ws) listed

has_placed : (o : Ordering) (w v : Wire) (ws rest : List Wire) → (o ≡ Equal → v ≡ w) → Contains rest w → Contains (placed o w v ws rest) w
has_placed Less w v ws rest exact inner = Contains-here w (v ∷ ws)
has_placed Equal w v ws rest exact inner = subst (Contains (v ∷ ws)) (exact refl) (Contains-here v ws)
has_placed Greater w v ws rest exact inner = Contains-cons w v rest inner

module _ (topology : TopologyView) where
  has_insert : (w : Wire) (ws : List Wire) → IsMeasured topology w → ((v : Wire) → Contains ws v → IsMeasured topology v) → Contains (insert_wire w ws) w
  has_insert w [] own others = Contains-here w []
  has_insert w (v ∷ ws) own others =
      has_placed (wire_cmp w v) w v ws (insert_wire w ws) (λ tied. sym (exact_wires topology w v own (others v (Contains-here v ws)) tied))
      (has_insert w ws own (λ u listed. others u (Contains-cons u v ws listed)))

  from_sorted : (ws : List Wire) (x : Wire) → Contains (sorted ws) x → Contains ws x
  from_sorted [] x listed = listed
  from_sorted (w ∷ ws) x listed = elim (from_insert w x (sorted ws) listed) [
    | inl same ↦ subst (Contains (w ∷ ws)) (sym same) (Contains-here w ws)
    | inr later ↦ Contains-cons x w ws (from_sorted ws x later)
  ]

  in_sorted : (ws : List Wire) → ((v : Wire) → Contains ws v → IsMeasured topology v) → (x : Wire) → Contains ws x → Contains (sorted ws) x
  in_sorted [] all x listed = listed
  in_sorted (w ∷ ws) all x listed =
      let behind = λ (v : Wire) (h : Contains ws v). all v (Contains-cons v w ws h) in
      elim (Contains-cases x w ws listed) [
        | inl same ↦
            subst (Contains (insert_wire w (sorted ws))) same
            (has_insert w (sorted ws) (all w (Contains-here w ws)) (λ v h. behind v (from_sorted ws v h)))
        | inr later ↦ keeps_insert w x (sorted ws) (in_sorted ws behind x later)
      ]

-- ---- the order

rise_placed : (o : Ordering) (w v : Wire) (ws rest : List Wire) → wire_cmp w v ≡ o → Rise (v ∷ ws) → Rise rest → ((x : Wire) → Contains rest x → (x ≡ w) ⊎ Contains ws x) → Rise (placed o w v ws rest)
rise_placed Less w v ws rest e rises inner members = (
  λ x listed. elim (Contains-cases x v ws listed) [ inl same ↦ subst (IsWireBefore w) same e | inr later ↦ wire_cmp_total.trans w v x e (rises.0 x later) ],
  rises,
)
rise_placed Equal w v ws rest e rises inner members = rises
rise_placed Greater w v ws rest e rises inner members = (
  λ x listed. elim (members x listed) [
    | inl same ↦ subst (IsWireBefore v) (sym same) (wire_cmp_total.antisymm v w ∙ ap ordering_reverse e)
    | inr had ↦ rises.0 x had
  ],
  inner,
)

rise_insert : (w : Wire) (ws : List Wire) → Rise ws → Rise (insert_wire w ws)
rise_insert w [] rises = (λ v listed. absurd (none_listed v listed), tt)
rise_insert w (v ∷ ws) rises = rise_placed (wire_cmp w v) w v ws (insert_wire w ws) refl rises (rise_insert w ws rises.1) (λ x. from_insert w x ws)

rise_sorted : (ws : List Wire) → Rise (sorted ws)
rise_sorted [] = tt
rise_sorted (w ∷ ws) = rise_insert w (sorted ws) (rise_sorted ws)

pairs-from_rise : (ws : List Wire) → Rise ws → AllPairs IsWireBefore ws
pairs-from_rise [] rises i j d before within = absurd (omega (arith, within))
pairs-from_rise (w ∷ ws) rises i zero d before within = absurd (omega (arith, before))
pairs-from_rise (w ∷ ws) rises zero (suc j) d before within = rises.0 (get_or ws j d) (Contains-get_or ws j d (omega (arith, within)))
pairs-from_rise (w ∷ ws) rises (suc i) (suc j) d before within = pairs-from_rise ws rises.1 i j d (omega (arith, before)) (omega (arith, within))

-- ---- the wires of all sets

module _ (topology : TopologyView) (pins : List PinLine) where
  abbrev all_wires : List LaidSet → List Wire
  all_wires sets = flat_map (wires_of_set topology pins) sets

  from_all : (sets : List LaidSet) (w : Wire) → Contains (all_wires sets) w → (set : LaidSet) × Contains sets set × Contains (wires_of_set topology pins set) w
  from_all [] w listed = absurd (none_listed w listed)
  from_all (set ∷ sets) w listed = elim (Contains-append_cases (wires_of_set topology pins set) (all_wires sets) w listed) [
    | inl here ↦ (set, Contains-here set sets, here)
    | inr later ↦ let (other, of, has) = from_all sets w later in (other, Contains-cons other set sets of, has)
  ]

  in_all : (sets : List LaidSet) (set : LaidSet) (w : Wire) → Contains sets set → Contains (wires_of_set topology pins set) w → Contains (all_wires sets) w
  in_all [] set w of has = absurd (omega (arith, of.1))
  in_all (other ∷ sets) set w of has = elim (Contains-cases set other sets of) [
    | inl same ↦ Contains-append_left (wires_of_set topology pins other) (all_wires sets) w (subst (λ s. Contains (wires_of_set topology pins s) w) (sym same) has)
    | inr later ↦ Contains-append_right (wires_of_set topology pins other) (all_wires sets) w (in_all sets set w later has)
  ]

  all_measured : (sets : List LaidSet) (w : Wire) → Contains (all_wires sets) w → IsMeasured topology w
  all_measured sets w listed = let of = from_all sets w listed in measured topology pins of.0 w of.2

  pub some_wires : List LaidSet → List Wire
  some_wires sets = sorted (all_wires sets)

  pub some_wires-are : (sets : List LaidSet) → AreWires topology pins sets (some_wires sets)
  unfolding some_wires
  some_wires-are sets = record {
    order = pairs-from_rise (sorted (all_wires sets)) (rise_sorted (all_wires sets));
    each = λ w listed. from_all sets w (from_sorted topology (all_wires sets) w listed);
    all = λ set w of has. in_sorted topology (all_wires sets) (all_measured sets) w (in_all sets set w of has);
  }
