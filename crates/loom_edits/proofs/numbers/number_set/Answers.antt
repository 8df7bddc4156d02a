use Rattle.loom_edits.specs.declared.edit.Edit.TheVariants as edits
use Rattle.loom_edits.proofs.NumberLemmas.{own_number}
use Rattle.loom_edits.proofs.numbers.number_set.Goals as goal

pub returns-in-SetLength-clause-memory : goal.returns-in-SetLength-clause-memory
returns-in-SetLength-clause-memory c =
    own_number c.args.project.now (edits.SetLength c.in-SetLength.name c.in-SetLength.length) c.length_set.result c.length_set.ensures

pub returns-in-SetPrice-clause-memory : goal.returns-in-SetPrice-clause-memory
returns-in-SetPrice-clause-memory c =
    own_number c.args.project.now (edits.SetPrice c.in-SetPrice.name c.in-SetPrice.price) c.price_set.result c.price_set.ensures

pub returns-in-SetBranch-clause-memory : goal.returns-in-SetBranch-clause-memory
returns-in-SetBranch-clause-memory c =
    own_number c.args.project.now (edits.SetBranch c.in-SetBranch.name c.in-SetBranch.branch) c.branch_set.result c.branch_set.ensures
