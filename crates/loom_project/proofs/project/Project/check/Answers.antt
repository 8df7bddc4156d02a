use Rattle.std.proofs.Common.{length, ap, arith}
use Rattle.loom_project.proofs.SoundLemmas.{few_nets}
use Rattle.loom_project.proofs.project.Project.check.Goals as goal

pub new-requires : goal.new-requires
new-requires c = omega (arith, few_nets c.args.draft c.in_ok-options.ensures.gives, ap length c.as_slice.ensures)
