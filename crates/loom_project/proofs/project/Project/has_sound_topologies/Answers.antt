use Rattle.std.proofs.Common.{sym, ap, ◌∙◌}
use Rattle.loom_project.specs.Project.{topology_of}
use Rattle.loom_project.specs.Sound.{draft_check}
use Rattle.loom_project.proofs.SoundTopologies.{sound_topologies}
use Rattle.loom_project.proofs.project.Project.has_sound_topologies.Goals as goal

pub returns : goal.returns
returns c =
    sound_topologies c.args.self.now c.self.inside.topology (ap draft_check (sym c.self.view_is) ∙ c.self.invariant.sound)
    (c.self.invariant.topology ∙ ap topology_of c.self.view_is) c.node_count-count.ensures.sound
