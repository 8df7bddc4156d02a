use Rattle.std.proofs.Common.{◌≡◌, ◌≤◌, ◌+◌, take, map, Ok}
use Rattle.loom_base.specs.First.{each}
use Rattle.loom_project.specs.Draft.{terminal_nodes}
use Rattle.loom_project.specs.Project.{terminal_places}
use Rattle.loom_project.specs.Sound.{terminal_check}
use Rattle.loom_project.proofs.nets.checked_terminals.Given as goal

abbrev pub invariant-loop-i : goal.invariant-loop-i
invariant-loop-i l = record {
  counted : l.count.nodes ≡ l.fn.count.nodes + terminal_nodes (take l.i l.terminals);
  few : l.count.nodes ≤ 65536;
  places : map (λ c. c.0) l.found ≡ terminal_places l.cavities (take l.i l.terminals);
  passed : each (λ before terminal. terminal_check l.options l.cavities (l.fn.count.nodes + terminal_nodes before) l.net.name before terminal) (take l.i l.terminals) ≡ Ok tt;
}
