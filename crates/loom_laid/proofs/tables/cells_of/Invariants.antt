use Rattle.std.proofs.Common.{◌≡◌, ◌*◌, ◌≤◌, map, take}
use Rattle.loom_laid.specs.LaidSets.{cells_of}
use Rattle.loom_laid.proofs.tables.cells_of.Given as goal

abbrev pub invariant-loop-net : goal.invariant-loop-net
invariant-loop-net l = record {
  few : l.cells ≤ l.net-index * 2096128;
  counted : l.cells ≡ cells_of l.project (map (λ net. net.0) (take l.net-index l.nets));
}
