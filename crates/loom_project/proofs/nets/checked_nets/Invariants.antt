use Rattle.std.proofs.Common.{◌≡◌, ◌≤◌, ◌+◌, take, map, Ok}
use Rattle.loom_base.specs.First.{each}
use Rattle.loom_project.specs.Draft.{net_nodes, net_names}
use Rattle.loom_project.specs.Project.{net_places}
use Rattle.loom_project.specs.Sound.{net_check}
use Rattle.loom_project.proofs.nets.checked_nets.Given as goal

abbrev pub invariant-loop-net : goal.invariant-loop-net
invariant-loop-net l = record {
  taken : l.taken ≡ net_names (take l.net-index l.nets);
  counted : l.count.nodes ≡ l.fn.rules.nodes + net_nodes (take l.net-index l.nets);
  few : l.count.nodes ≤ 65536;
  places : map (map (λ c. c.0)) l.found ≡ net_places l.cavities (take l.net-index l.nets);
  passed : each (λ before net. net_check l.options l.cavities (l.fn.rules.nodes + net_nodes before) (net_names before) net) (take l.net-index l.nets) ≡ Ok tt;
}
