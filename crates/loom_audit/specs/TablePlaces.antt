-- Where the tables of nets stand.
use Rattle.std.specs.Prelude.{ℕ, List, ◌≡◌, ◌==◌, nat_eq}
use Rattle.std.specs.List.{position_from}
use Rattle.std.specs.HashMap.{HashMap, get}
use Rattle.std.specs.declared.hash.FoldHasher.{FoldHasher}
use Rattle.std.specs.declared.hash.BuildHasherDefault.{BuildHasherDefault}
use Rattle.loom_types.specs.declared.plan.TableLine.{TableLine}

-- the map has the place of the first table of each net, and nothing for a net without one
abbrev pub FindsTables : List TableLine → HashMap ℕ ℕ (BuildHasherDefault FoldHasher) → Type 0
FindsTables lines places = (net : ℕ) → get nat_eq places net ≡ position_from (λ line. line.net.0 == net) 0 lines
