use Rattle.std.specs.Prelude.{ℕ, List, Bool, ◌≡◌, ◌==◌, ◌&&◌}
use Rattle.std.specs.List.{position_from}
use Rattle.std.specs.HashMap.{HashMap, get}
use Rattle.std.specs.declared.hash.FoldHasher.{FoldHasher}
use Rattle.std.specs.declared.hash.BuildHasherDefault.{BuildHasherDefault}
use Rattle.loom_types.specs.declared.plan.PinLine.{PinLine}
use Rattle.loom_types.specs.PinLines.{is_line_of}

-- keys of net, coupler and ordinal
abbrev pub is_same_key : ℕ × ℕ × ℕ → ℕ × ℕ × ℕ → Bool
is_same_key x y = (x.0 == y.0 && x.1 == y.1) && x.2 == y.2

-- the table has the place of the first line of each crossing, and nothing where no line gives its pin
abbrev pub FindsFirst : List PinLine → HashMap (ℕ × ℕ × ℕ) ℕ (BuildHasherDefault FoldHasher) → Type 0
FindsFirst lines table =
    (net coupler ordinal : ℕ)
    → get is_same_key table (net, coupler, ordinal) ≡ position_from (is_line_of net coupler ordinal) 0 lines
