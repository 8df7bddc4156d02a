use Rattle.std.proofs.Common.{◌≡◌, ◌<◌, ◌≤◌, ◌-◌, length, vec_len}
use Rattle.std.specs.Io.KnownBytes.{Consumes}
use Rattle.loom_base.proofs.source.read_all.Given as goal

-- what the reads took is what was gathered, and no read failed
abbrev pub invariant-reading : goal.invariant-reading
invariant-reading g l = record {
  room : 0 < length l.block;
  within : vec_len l.bytes ≤ l.most;
  taken : Consumes (g.S.Source.left l.fn.source) (g.S.Source.left l.source) l.bytes.items;
  steady : g.S.Source.faults l.source ≡ g.S.Source.faults l.fn.source;
}

abbrev pub decreases-reading : goal.decreases-reading
decreases-reading g l = l.most - vec_len l.bytes
