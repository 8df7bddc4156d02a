use Rattle.std.proofs.Common.{ℕ, List, ◌∷◌, [], ◌++◌, ◌≡◌, length, get_or, take, map, refl, sym, ap, ◌∙◌, Vec, Global}
use Rattle.std.specs.List.{filter_map, slice_get}
use Rattle.std.proofs.lemmas.List.{map-append}
use Rattle.std.proofs.lemmas.Option.{slice_get_read, slice_get_past}
use Rattle.loom_types.specs.declared.wire.End.{End}
use Rattle.loom_types.specs.declared.wire.Wire.{Wire}
use Rattle.loom_types.specs.WireTree.{ends_of}
use Rattle.loom_audit.proofs.TreeTests.{next_wire, no_next_wire}
use Rattle.loom_audit.proofs.trees.ends_at.Goals as goal
use Rattle.loom_audit.proofs.trees.ends_at.Goals.{in-Some+in_ok-push, in_default}

pub loop-at-preserved : goal.loop-at-preserved
loop-at-preserved c =
    let wires : List Wire = c.args.wires.now in
    let positions : List ℕ = c.args.positions.now in
    let i : ℕ = c.loop-at.at-index in
    let before : List Wire = filter_map (slice_get wires) (take i positions) in
    elim c.match-get.branch [
      | in-Some+in_ok-push w ↦
          let wire : Wire = w.in-Some.wire.now in
          let found = slice_get_read wires (length wires) (get_or positions i 0) wire refl w.in-Some.ensures.lookup.3.0 w.in-Some.ensures.lookup.1 in
          ap (λ (v : Vec (End × End) Global). v.items) w.ends-is
          ∙ (w.in_ok-push.ensures.items
          ∙ (ap (λ (l : List (End × End)). l ++ (wire.from, wire.to) ∷ []) c.loop-at.invariant
          ∙ sym (ap (map ends_of) (next_wire wires positions i wire c.loop-at-test.true found) ∙ map-append ends_of before (wire ∷ []))))
      | in_default w ↦
          let none = slice_get_past wires (get_or positions i 0) w.in_default.ensures.lookup.3 in
          ap (λ (v : Vec (End × End) Global). v.items) w.ends-is
          ∙ (c.loop-at.invariant ∙ sym (ap (map ends_of) (no_next_wire wires positions i c.loop-at-test.true none)))
    ]
