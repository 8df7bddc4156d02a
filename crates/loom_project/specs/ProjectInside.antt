use Rattle.std.specs.Prelude.{◌≡◌, map, Ok}
use Rattle.loom_project.specs.declared.project.Project.TheInside.{Inside}
use Rattle.loom_project.specs.Draft.{cavity_names}
use Rattle.loom_project.specs.Project.{topology_of, net_places}
use Rattle.loom_project.specs.Classes.{net_classes, class_numbers, segment_bars}
use Rattle.loom_project.specs.Sound.{draft_check}

-- the draft is sound, and the other parts are those of the draft
pub record IsKept (project : Inside) : Type 0 where
  pub sound : draft_check project.draft ≡ Ok tt
  pub options : project.options ≡ project.draft.options
  pub topology : project.topology ≡ topology_of project.draft
  pub cavities : map (map (λ c. c.0)) project.cavities
      ≡ net_places (cavity_names project.draft.cavities) project.draft.nets
  pub classes : project.classes.of_nets ≡ class_numbers project.draft.nets
  pub bars : project.classes.barred
      ≡ segment_bars (net_classes project.draft.nets) project.draft.segments
