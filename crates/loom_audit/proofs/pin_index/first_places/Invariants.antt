use Rattle.std.proofs.Common.{◌≡◌, ℕ, drop}
use Rattle.std.specs.List.{position_from}
use Rattle.std.specs.HashMap.{get}
use Rattle.loom_types.specs.PinLines.{is_line_of}
use Rattle.loom_audit.specs.FirstLines.{is_same_key}
use Rattle.loom_audit.proofs.pin_index.first_places.Given as goal

abbrev pub invariant-loop-place : goal.invariant-loop-place
invariant-loop-place l =
    (net coupler ordinal : ℕ)
    → get is_same_key l.firsts (net, coupler, ordinal) ≡ position_from (is_line_of net coupler ordinal) l.place (drop l.place l.lines)
