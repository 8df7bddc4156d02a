use Rattle.std.proofs.Common.{◌≡◌, take, Ok, []}
use Rattle.loom_base.specs.First.{each}
use Rattle.loom_project.specs.Draft.{node_names, harness_labels, each_once}
use Rattle.loom_project.specs.Project.{placed_nodes}
use Rattle.loom_project.specs.Sound.{node_check}
use Rattle.loom_project.proofs.nodes.checked_nodes.Given as goal

abbrev pub invariant-loop-node : goal.invariant-loop-node
invariant-loop-node l = record {
  names : l.names ≡ node_names (take l.node-index l.nodes);
  harnesses : l.harnesses ≡ each_once (harness_labels (take l.node-index l.nodes));
  topology : l.topology ≡ record { nodes = placed_nodes (take l.node-index l.nodes); segments = []; cavities = [] };
  passed : each (λ before node. node_check (node_names before) node) (take l.node-index l.nodes) ≡ Ok tt;
}
