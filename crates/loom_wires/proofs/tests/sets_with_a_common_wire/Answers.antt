use Rattle.std.proofs.Common.{List, [], ◌∷◌, sym, ap, subst, ◌∙◌}
use Rattle.std.specs.List.{All}
use Rattle.std.proofs.lemmas.List.Elements.{All-from_recursion}
use Rattle.loom_rows.specs.declared.cond.Cond.{Always}
use Rattle.loom_rows.specs.Table.{Has}
use Rattle.loom_wires.specs.declared.cut_wire.CutWire.{CutWire}
use Rattle.loom_wires.specs.Built.{is_laid}
use Rattle.loom_wires.proofs.LaidByTest.{two_laid, conds_had}
use Rattle.loom_wires.proofs.tests.sets_with_a_common_wire.Goals as goal

pub cut-requires-clause-laid : goal.cut-requires-clause-laid
cut-requires-clause-laid g c =
    two_laid c.in_ok-topology.topology c.in_ok-two_ends.field-0 c.in_ok-three_ends.field-0
    (ap (λ t. is_laid t c.in_ok-two_ends.field-0) c.in_ok-topology.ensures ∙ c.in_ok-two_ends.ensures.laid)
    (ap (λ t. is_laid t c.in_ok-three_ends.field-0) c.in_ok-topology.ensures ∙ c.in_ok-three_ends.ensures.laid)

pub have_conds-requires-clause-wires : goal.have_conds-requires-clause-wires
have_conds-requires-clause-wires g c =
    subst (λ (l : List CutWire). All (λ w. Has c.cut.new.rows w.cond) l) (sym c.as_slice-wires.ensures)
    (conds_had _ _ _ c.cut.new.rows c.in_ok-wires.wires c.in_ok-wires.ensures.wires)

pub have_conds-requires-clause-conds : goal.have_conds-requires-clause-conds
have_conds-requires-clause-conds g c =
    let has_a = c.cut.ensures.keeps c.in_ok-a.a (c.in_ok-not_a.ensures.works.keeps c.in_ok-a.a c.in_ok-a.ensures.value.0) in
    let has_not_a = c.cut.ensures.keeps c.in_ok-not_a.not_a c.in_ok-not_a.ensures.value.0 in
    All-from_recursion (Has c.cut.new.rows) (Always ∷ c.in_ok-a.a ∷ c.in_ok-not_a.not_a ∷ c.in_ok-a.a ∷ c.in_ok-a.a ∷ []) (tt, (has_a, (has_not_a, (has_a, (has_a, tt)))))
