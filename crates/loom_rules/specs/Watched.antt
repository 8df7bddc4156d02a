use Rattle.std.specs.Prelude.{ℕ, List}
use Rattle.loom_types.specs.declared.wire.Wire.{Wire}

-- a limit, and the wires that were seen
pub record Watched : Type 0 where
  pub limit : ℕ
  pub seen : List Wire
