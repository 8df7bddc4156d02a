use Rattle.std.proofs.Common.{◌≡◌, ◌∷◌, map, take}
use Rattle.serde_json.specs.Data.{string}
use Rattle.serde_json.specs.View.{view}
use Rattle.loom_answer.specs.Projects.{formula_shown}
use Rattle.loom_answer.proofs.projects.+showing.Given as goal

abbrev pub invariant-members_value-loop-member : goal.invariant-members_value-loop-member
invariant-members_value-loop-member l =
    map view l.values.items ≡ string l.word ∷ map formula_shown (take l.member-index l.member-items)
