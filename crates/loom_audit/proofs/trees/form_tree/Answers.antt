use Rattle.std.proofs.Common.{List, ◌∷◌, [], ◌≡◌, Bool, sym, ◌∙◌, subst, IsTrue}
use Rattle.std.specs.Prelude.{◌↔◌}
use Rattle.std.specs.List.{flat_map}
use Rattle.std.proofs.lemmas.Bool.{both_ways, false≢true, true_from_ne_false}
use Rattle.loom_types.specs.declared.wire.End.{End}
use Rattle.loom_types.specs.WireTree.{FormsTree}
use Rattle.loom_audit.specs.EndRule.{AreEndsRight, IsOnePiece}
use Rattle.loom_audit.proofs.TreeTests.{tree_from, piece_of, ends_of_tree, IfOk-then}
use Rattle.loom_audit.proofs.trees.form_tree.Goals as goal

pub returns-then-not-branch : goal.returns-then-not-branch
returns-then-not-branch c =
    let same = c.deref.ensures.value ∙ c.in_ok-ends.ensures in (
      λ never. absurd (false≢true never),
      λ tree. absurd (both_ways c.in_ok-are_ends_right.field-0 c.if-not-branch.true (c.in_ok-are_ends_right.ensures.1
          (subst (λ (l : List End). AreEndsRight c.args.cavities.now l) (sym same) (ends_of_tree c.args.cavities.now c.args.wires.now tree)))),
    )

pub returns : goal.returns
returns c =
    let same = c.deref.ensures.value ∙ c.in_ok-ends.ensures in
    let ends = subst (λ (l : List End). AreEndsRight c.args.cavities.now l) same (c.in_ok-are_ends_right.ensures.0 c.if-not-branch.false) in
    IfOk-then c.are_one_piece.result (λ (one : Bool). IsTrue one ↔ IsOnePiece c.args.wires.now) (λ (one : Bool). IsTrue one ↔ FormsTree c.args.cavities.now c.args.wires.now)
    c.are_one_piece.ensures
    (λ one told. (λ holds. tree_from c.args.cavities.now c.args.wires.now ends (told.0 holds), λ tree. told.1 (piece_of c.args.cavities.now c.args.wires.now tree)))
