use Rattle.std.proofs.Common.{ℕ, List, ◌≡◌, ◌<◌, Some, length, get_or, inl, inr, refl, sym, ap, ◌∙◌, subst, arith}
use Rattle.std.specs.List.{slice_get}
use Rattle.std.proofs.lemmas.Bool.{cases_eq, both_ways}
use Rattle.std.proofs.lemmas.Option.{slice_get_read, slice_get_within, same_Some}
use Rattle.loom_types.specs.declared.plan.SetLine.{SetLine}
use Rattle.loom_active.specs.SetWires.{SetFormsTree}
use Rattle.loom_audit.specs.SetWires.{AreWiresOf, wires_at}
use Rattle.loom_audit.specs.Trees.{TreesFailAt, set}
use Rattle.loom_audit.specs.declared.spot.Spot.{Spot}
use Rattle.loom_audit.proofs.SetWireLists.{listed_at}
use Rattle.loom_audit.proofs.trees.trees_failure.Goals as goal

set_stands : (sets items : List SetLine) (at : ℕ) (line : SetLine) → items ≡ sets → at < length items → line ≡ get_or items at line → slice_get sets at ≡ Some line
set_stands sets items at line same within is = ap (λ (l : List SetLine). slice_get l at) (sym same) ∙ slice_get_read items (length items) at line refl within is

pub set_forms_tree-requires-clause-net : goal.set_forms_tree-requires-clause-net
set_forms_tree-requires-clause-net c =
    let sets : List SetLine = c.args.plan.now.sets in
    let at : ℕ = c.loop-at.at in
    let stands = set_stands sets c.as_slice-set-items.result.now at c.set-item.result c.as_slice-set-items.ensures c.loop-at-test.true c.set-item.is in
    (c.requires.sets c.set-item.result (listed_at sets at c.set-item.result stands)).0

pub set_forms_tree-requires-clause-members : goal.set_forms_tree-requires-clause-members
set_forms_tree-requires-clause-members c =
    let sets : List SetLine = c.args.plan.now.sets in
    let at : ℕ = c.loop-at.at in
    let stands = set_stands sets c.as_slice-set-items.result.now at c.set-item.result c.as_slice-set-items.ensures c.loop-at-test.true c.set-item.is in
    let within : at < length c.args.members.now = omega (arith, c.loop-at-test.true, ap length c.as_slice-set-items.ensures, c.requires.members.counted) in
    let positions : List ℕ = c.index-members-at.result in
    let at_members : slice_get c.args.members.now at ≡ Some positions = slice_get_read c.args.members.now (length c.args.members.now) at positions refl within c.index-members-at.is in
    subst (λ (l : List ℕ). AreWiresOf c.args.plan.now c.set-item.result (wires_at c.args.plan.now l)) (sym c.as_slice.ensures)
    (c.requires.members.each at c.set-item.result positions stands at_members)

pub returns-then-not-branch-clause-fails : goal.returns-then-not-branch-clause-fails
returns-then-not-branch-clause-fails c =
    let sets : List SetLine = c.args.plan.now.sets in
    let at : ℕ = c.loop-at.at in
    let stands = set_stands sets c.as_slice-set-items.result.now at c.set-item.result c.as_slice-set-items.ensures c.loop-at-test.true c.set-item.is in
    subst (λ (s : Spot). TreesFailAt c.args.project.now c.args.plan.now s) (sym c.in_ok-line.ensures)
    (set at (record {
      element = c.set-item.result;
      stands = stands;
      fails = λ tree. both_ways c.in_ok-set_forms_tree.field-0 c.if-not-branch.true (c.in_ok-set_forms_tree.ensures.1 tree);
      before = c.loop-at.invariant;
    }))

pub loop-at-preserved : goal.loop-at-preserved
loop-at-preserved c =
    let sets : List SetLine = c.args.plan.now.sets in
    let at : ℕ = c.loop-at.at in
    let stands = set_stands sets c.as_slice-set-items.result.now at c.set-item.result c.as_slice-set-items.ensures c.loop-at-test.true c.set-item.is in
    let tree : SetFormsTree c.args.project.now c.args.plan.now c.set-item.result = c.in_ok-set_forms_tree.ensures.0 c.if-not-branch.false in
    λ i s less here. elim (cases_eq i at) [
      | inl e ↦
          let same : c.set-item.result ≡ s = same_Some c.set-item.result s (sym stands ∙ (ap (slice_get sets) (sym e) ∙ here)) in
          subst (λ (x : SetLine). SetFormsTree c.args.project.now c.args.plan.now x) same tree
      | inr other ↦ c.loop-at.invariant i s (omega (arith, less, other)) here
    ]

pub returns-clause-holds : goal.returns-clause-holds
returns-clause-holds c = λ i s here.
    c.loop-at.invariant i s (omega (arith, slice_get_within c.args.plan.now.sets i s here, c.loop-at-test.false, ap length c.as_slice-set-items.ensures)) here
