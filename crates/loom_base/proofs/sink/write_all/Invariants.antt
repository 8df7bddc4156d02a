use Rattle.std.proofs.Common.{◌≡◌, ◌≤◌, ◌-◌, length, take}
use Rattle.std.specs.Io.KnownBytes.{Appends}
use Rattle.loom_base.proofs.sink.write_all.Given as goal

-- a front of the bytes was appended, and no write failed
abbrev pub invariant-writing : goal.invariant-writing
invariant-writing g l = record {
  within : l.written ≤ length l.bytes;
  appended : Appends (g.K.Sink.held l.fn.sink) (g.K.Sink.held l.sink) (take l.written l.bytes);
  steady : g.K.Sink.faults l.sink ≡ g.K.Sink.faults l.fn.sink;
}

abbrev pub decreases-writing : goal.decreases-writing
decreases-writing g l = length l.bytes - l.written
