-- Nothing that is printed of a stop of planning has a float.
use Rattle.std.proofs.Common.{◌≡◌, ℕ, ◌||◌, List, false, map, refl, ap, ◌∙◌}
use Rattle.serde_json.specs.Data.{Data, string}
use Rattle.serde_json.specs.View.{items_of}
use Rattle.serde_json.specs.Written.{has_float, items_have_float}
use Rattle.loom_json.proofs.Floats.{items_have_float-map}
use Rattle.loom_answer.specs.declared.named_stop.NamedStop.{NamedStop}
use Rattle.loom_answer.specs.declared.named_stop.NamedStop.TheVariants as named
use Rattle.loom_answer.specs.Stops.{stop_shown}

names_plain : (names : List (List ℕ)) → items_have_float (items_of (map string names)) ≡ false
names_plain names = items_have_float-map string (λ name. refl) names

pub stop_plain : (stop : NamedStop) → has_float (stop_shown stop) ≡ false
stop_plain named.NoChoice = refl
stop_plain (named.Clash cavity first second choice) = ap (λ b. b || false) (names_plain choice)
stop_plain (named.Unreachable net cavity reached) = ap (λ b. b || false) (names_plain reached)
stop_plain (named.NoPin net coupler ordinal) = refl
stop_plain (named.Limit which count) = refl

-- a value that tells of a stop has no float
pub plain_stop : (d : Data) (stop : NamedStop) → d ≡ stop_shown stop → has_float d ≡ false
plain_stop d stop is = ap has_float is ∙ stop_plain stop
