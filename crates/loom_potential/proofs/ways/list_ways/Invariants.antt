use Rattle.std.proofs.Common.{◌≡◌, ◌≤◌, take}
use Rattle.loom_potential.proofs.Listed.{listed}
use Rattle.loom_potential.proofs.ways.list_ways.Given as goal

abbrev pub invariant-loop-number : goal.invariant-loop-number
invariant-loop-number l = record {
  few : l.count ≤ l.number;
  listed : take l.count l.ways ≡ listed l.topology l.marks l.number;
}
