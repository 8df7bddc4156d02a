use Rattle.std.proofs.Common.{◌≡◌, take, map, Ok}
use Rattle.loom_base.specs.First.{each}
use Rattle.loom_project.specs.Draft.{index_of, cavity_names}
use Rattle.loom_project.specs.Sound.{cavity_check}
use Rattle.loom_project.proofs.cavities.add_cavities.Given as goal

abbrev pub invariant-loop-cavity : goal.invariant-loop-cavity
invariant-loop-cavity l = record {
  names : l.names ≡ cavity_names (take l.cavity-index l.cavities);
  topology : l.topology ≡ record l.fn.topology { cavities = map (λ cavity. index_of l.places cavity.node) (take l.cavity-index l.cavities) };
  passed : each (λ before cavity. cavity_check l.places (cavity_names before) cavity) (take l.cavity-index l.cavities) ≡ Ok tt;
}
