use Rattle.std.proofs.Common.{ℕ, ◌≡◌, sym, ◌∙◌}
use Rattle.std.proofs.lemmas.Bool.{both_ways}
use Rattle.loom_types.specs.declared.wire.End.{End}
use Rattle.loom_audit.specs.EndKeys.{count_in}
use Rattle.loom_audit.proofs.TreeTests.{ends_right_from, once_counted, right_counted}
use Rattle.loom_audit.proofs.trees.are_ends_right.Goals as goal
use Rattle.loom_audit.proofs.trees.are_ends_right.Goals.{then-have_one_wire, else-have_one_wire}

pub returns : goal.returns
returns c =
    let cavities = c.args.cavities.now in
    let ends = c.args.ends.now in
    let count : End → ℕ = count_in c.in_ok-counts.counts in
    elim c.if-have_one_wire.branch [
      | then-have_one_wire w ↦ (
        λ holds. ends_right_from count cavities ends c.in_ok-counts.ensures (c.have_one_wire.ensures.0 w.if-have_one_wire.true) (w.are_all_right.ensures.0 (sym w.result-is ∙ holds)),
        λ right. w.result-is ∙ w.are_all_right.ensures.1 (right_counted count cavities ends c.in_ok-counts.ensures right),
      )
      | else-have_one_wire w ↦ (
        λ holds. absurd (both_ways c.have_one_wire.result w.if-have_one_wire.false (sym w.result-is ∙ holds)),
        λ right. absurd (both_ways c.have_one_wire.result w.if-have_one_wire.false (c.have_one_wire.ensures.1 (once_counted count cavities ends c.in_ok-counts.ensures right))),
      )
    ]
