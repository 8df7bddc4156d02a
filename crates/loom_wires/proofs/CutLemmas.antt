-- The wires over all sets, from those found with the positions of their sets, and from their joined conditions.
use Rattle.std.proofs.Common.{◌≡◌, ℕ, ◌<◌, List, [], ◌∷◌, ◌++◌, length, map, refl, sym, ap, subst, ◌∙◌, arith}
use Rattle.std.specs.List.{All, AllZip, flat_map, filter, Contains}
use Rattle.std.specs.Map.{keys_of}
use Rattle.std.specs.BTreeMap.{btree_map_len}
use Rattle.std.proofs.lemmas.List.{length-map}
use Rattle.std.proofs.lemmas.List.Elements.{All-nil, All-cons, All-head, All-tail, All-contains_itself, All-weaker}
use Rattle.loom_topology.specs.Topology.{TopologyView}
use Rattle.loom_rows.specs.Condition.{value}
use Rattle.loom_rows.specs.Table.{Table}
use Rattle.loom_rows.specs.Disjunction.{some_hold, any_worked}
use Rattle.loom_types.specs.declared.plan.PinLine.{PinLine}
use Rattle.loom_types.specs.declared.wire.Wire.{Wire}
use Rattle.loom_types.specs.LayoutWires.{bare}
use Rattle.loom_wires.specs.declared.cut_wire.CutWire.{CutWire}
use Rattle.loom_wires.specs.declared.laid_set.LaidSet.{LaidSet}
use Rattle.loom_wires.specs.declared.wire_key.WireKey.{WireKey}
use Rattle.loom_wires.specs.Wires.{has_wire, users_of, bare_of, IsCut, AreCut, AreWires, wires_worked}
use Rattle.loom_wires.specs.FoundWires.{positions, Found, wires_of, AreFound, conds_at, worked_for, IsJoined}
use Rattle.loom_wires.proofs.Positions.{positions-below, conds-positions}
use Rattle.loom_wires.proofs.UniqueWires.{wires_are_unique}
use Rattle.loom_wires.proofs.WireLengths.{measured}

abbrev Entry : Type 0
Entry = WireKey × List ℕ

module _ (topology : TopologyView) (pins : List PinLine) (sets : List LaidSet) where
  abbrev IsUsers : Entry → Type 0
  IsUsers e = e.1 ≡ positions (has_wire topology pins e.0.wire) sets

  values : (xs : List LaidSet) → map value (map (λ (s : LaidSet). s.cond) xs) ≡ map (λ (s : LaidSet). value s.cond) xs
  values [] = refl
  values (s ∷ xs) = λ i. value s.cond ∷ values xs i

  -- the conditions at a wire's positions are those of its sets
  conds-users : (e : Entry) → IsUsers e → map value (conds_at sets e.1) ≡ users_of topology pins sets e.0.wire
  conds-users e of =
      ap (λ l. map value (conds_at sets l)) of ∙ ap (map value) (conds-positions (has_wire topology pins e.0.wire) sets)
      ∙ values (filter (has_wire topology pins e.0.wire) sets)

  worked-entries : (es : List Entry) → All IsUsers es → flat_map (worked_for sets) es ≡ wires_worked topology pins sets (map (λ (k : WireKey). k.wire) (keys_of es))
  worked-entries [] of = refl
  worked-entries (e ∷ es) of =
      let here = ap any_worked (conds-users e (All-head IsUsers e es of)) in
      let rest = worked-entries es (All-tail IsUsers e es of) in
      λ i. here i ++ rest i

  module _ (found : Found) (is : AreFound topology pins sets found) where
    pub found-wires : (wires : List Wire) → AreWires topology pins sets wires → wires_of found ≡ wires
    found-wires wires of = wires_are_unique topology pins sets (wires_of found) wires is.wires of

    -- what is worked out for the found wires is what is worked out for the wires over all sets
    pub found-worked : (wires : List Wire) → AreWires topology pins sets wires → flat_map (worked_for sets) found.entries ≡ wires_worked topology pins sets wires
    found-worked wires of = worked-entries found.entries is.users ∙ ap (wires_worked topology pins sets) (found-wires wires of)

    pub found-within : All (λ e. All (λ n. n < length sets) e.1) found.entries
    found-within = All-weaker IsUsers (λ e. All (λ n. n < length sets) e.1)
        (λ e of. subst (λ l. All (λ n. n < length sets) l) (sym of) (positions-below (has_wire topology pins e.0.wire) 0 (length sets) sets (omega arith)))
        found.entries is.users

    pub found-count : length (wires_of found) ≡ btree_map_len found
    found-count = length-map (keys_of found.entries) (λ (k : WireKey). k.wire) ∙ length-map found.entries (λ (e : Entry). e.0)

    no_rows : All (λ w. w.row ≡ 0) (wires_of found)
    no_rows = All-weaker (Contains (wires_of found)) (λ w. w.row ≡ 0)
        (λ w has. let of = is.wires.each w has in (measured topology pins of.0 w of.2).row)
        (wires_of found) (All-contains_itself (wires_of found))

    module _ (table : Table) where
      joined-wires : (es : List Entry) (cut : List CutWire) → AllZip (IsJoined table sets) es cut → All (λ w. w.row ≡ 0) (map (λ (k : WireKey). k.wire) (keys_of es))
          → map bare_of cut ≡ map (λ (k : WireKey). k.wire) (keys_of es)
      joined-wires [] [] zip rows = refl
      joined-wires [] (x ∷ cut) zip rows = absurd zip
      joined-wires (e ∷ es) [] zip rows = absurd zip
      joined-wires (e ∷ es) (x ∷ cut) zip rows =
          let row = All-head (λ (w : Wire). w.row ≡ 0) e.0.wire (map (λ (k : WireKey). k.wire) (keys_of es)) rows in
          let bare_is : bare e.0.wire ≡ e.0.wire = λ i. record e.0.wire { row = sym row i } in
          let here = zip.0.wire ∙ bare_is in
          let rest = joined-wires es cut zip.1 (All-tail (λ (w : Wire). w.row ≡ 0) e.0.wire (map (λ (k : WireKey). k.wire) (keys_of es)) rows) in
          λ i. here i ∷ rest i

      joined-conditions : (es : List Entry) (cut : List CutWire) → AllZip (IsJoined table sets) es cut → All IsUsers es → All (λ w. w.row ≡ 0) (map (λ (k : WireKey). k.wire) (keys_of es))
          → All (IsCut topology pins sets table) cut
      joined-conditions [] [] zip of rows = All-nil (IsCut topology pins sets table)
      joined-conditions [] (x ∷ cut) zip of rows = absurd zip
      joined-conditions (e ∷ es) [] zip of rows = absurd zip
      joined-conditions (e ∷ es) (x ∷ cut) zip of rows =
          let row = All-head (λ (w : Wire). w.row ≡ 0) e.0.wire (map (λ (k : WireKey). k.wire) (keys_of es)) rows in
          let bare_is : bare e.0.wire ≡ e.0.wire = λ i. record e.0.wire { row = sym row i } in
          let users : map value (conds_at sets e.1) ≡ users_of topology pins sets (bare_of x) =
          conds-users e (All-head IsUsers e es of) ∙ ap (users_of topology pins sets) (sym (zip.0.wire ∙ bare_is)) in
          All-cons (IsCut topology pins sets table) x cut
          (record { has = zip.0.has; condition = λ c. zip.0.condition c ∙ ap (λ l. some_hold l c) users })
          (joined-conditions es cut zip.1 (All-tail IsUsers e es of) (All-tail (λ (w : Wire). w.row ≡ 0) e.0.wire (map (λ (k : WireKey). k.wire) (keys_of es)) rows))

      module _ (cut : List CutWire) (zip : AllZip (IsJoined table sets) found.entries cut) where
        pub found-cut : AreCut topology pins sets table cut
        found-cut = record {
          wires = subst (AreWires topology pins sets) (sym (joined-wires found.entries cut zip no_rows)) is.wires;
          conditions = joined-conditions found.entries cut zip is.users no_rows;
        }

        pub cut-count : length cut ≡ btree_map_len found
        cut-count = sym (length-map cut bare_of) ∙ ap length (joined-wires found.entries cut zip no_rows) ∙ found-count
