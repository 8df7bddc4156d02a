use Rattle.std.specs.Prelude.{ℕ, List, [], ◌∷◌, Bool, ◌==◌, ◌&&◌, if◌then◌else◌}
use Rattle.loom_types.specs.declared.plan.PinLine.{PinLine}

-- whether a line gives the pin of the ordinal-th crossing of a coupler by a net
abbrev pub is_line_of : ℕ → ℕ → ℕ → PinLine → Bool
is_line_of net coupler ordinal line = line.net.0 == net && (line.coupler.0 == coupler && line.ordinal == ordinal)

-- the pin of a crossing by the first line that gives it; 0 where no line does
abbrev pub pin_in : List PinLine → ℕ → ℕ → ℕ → ℕ
pin_in [] net coupler ordinal = 0
pin_in (line ∷ lines) net coupler ordinal = if is_line_of net coupler ordinal line then line.pin else pin_in lines net coupler ordinal
