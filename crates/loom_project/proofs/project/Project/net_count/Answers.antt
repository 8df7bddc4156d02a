use Rattle.std.proofs.Common.{arith}
use Rattle.loom_project.specs.Draft.{cavity_names}
use Rattle.loom_project.proofs.PartsLemmas.{count_places}
use Rattle.loom_project.proofs.SoundLemmas.{few_nets}
use Rattle.loom_project.proofs.project.Project.net_count.Goals as goal

pub overflow_cast-result : goal.overflow_cast-result
overflow_cast-result c =
    let draft = c.self.inside.draft in
    let few = few_nets draft c.self.invariant.sound in
    let same = count_places c.self.inside.cavities (cavity_names draft.cavities) draft.nets c.self.invariant.cavities in
    omega (arith, few, same, c.len.ensures)

pub returns-clause-few : goal.returns-clause-few
returns-clause-few c =
    let draft = c.self.inside.draft in
    let few = few_nets draft c.self.invariant.sound in
    let same = count_places c.self.inside.cavities (cavity_names draft.cavities) draft.nets c.self.invariant.cavities in
    omega (arith, few, same, c.len.ensures)
