use Rattle.std.proofs.Common.{◌≡◌, ◌==◌, ℕ, drop, nat_eq}
use Rattle.std.specs.List.{position_from}
use Rattle.std.specs.HashMap.{get}
use Rattle.loom_audit.proofs.set_tables.table_places.Given as goal

abbrev pub invariant-loop-place : goal.invariant-loop-place
invariant-loop-place l =
    (net : ℕ) → get nat_eq l.places net ≡ position_from (λ line. line.net.0 == net) l.place (drop l.place l.tables)
