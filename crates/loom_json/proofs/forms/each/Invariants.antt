use Rattle.std.proofs.Common.{◌≡◌, ◌+◌, map, drop}
use Rattle.serde_json.specs.View.{view}
use Rattle.loom_json.specs.Forms.{each}
use Rattle.loom_json.proofs.Lists.{with_front}
use Rattle.loom_json.proofs.forms.each.Given as goal

abbrev pub invariant-loop-place : goal.invariant-loop-place
invariant-loop-place g l =
    with_front l.found.items (each g.F.Form.reads (l.first + l.place) (map view (drop l.place l.elements))) ≡ each g.F.Form.reads l.first (map view l.elements)
