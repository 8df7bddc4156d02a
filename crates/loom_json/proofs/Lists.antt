use Rattle.std.proofs.Common.{ℕ, List, ◌++◌, Result, Ok}
use Rattle.loom_base.specs.First.{◌>>=◌}

-- the reading of a list's rest, behind the front that was read
abbrev pub with_front : {X : Type 0} → List X → Result (List X) (List ℕ) → Result (List X) (List ℕ)
with_front front reading = reading >>= λ rest. Ok (front ++ rest)
