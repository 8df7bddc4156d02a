use Rattle.std.proofs.Common.{refl, ap, subst, ◌∙◌}
use Rattle.std.specs.List.{Contains}
use Rattle.std.specs.Map.{keys_of}
use Rattle.std.specs.Option.{unwrap_or}
use Rattle.std.specs.Ordering.{is_eq}
use Rattle.loom_types.specs.WireOrder.{wire_cmp}
use Rattle.loom_wires.specs.FoundWires.{with_position}
use Rattle.loom_wires.proofs.NoteLemmas.{noted-one, kept-removed}
use Rattle.loom_wires.proofs.found.add_wire.Goals as goal

pub returns : goal.returns
returns c =
    noted-one c.args.at c.args.wire c.args.found.now c.remove.new.self c.insert.new.self c.in_ok-noted.noted
    (λ q. c.remove.ensures.updates.0 q)
    (λ q. c.in_ok-insert.ensures.updates.0 q)
    (c.in_ok-noted.ensures ∙ ap (with_position c.args.at) (c.unwrap_or-positions.ensures ∙ (λ i. unwrap_or (c.remove.ensures.value i) (c.new.ensures i))))
    refl
    (λ q listed. kept-removed (λ k. is_eq (wire_cmp c.args.wire k.wire)) c.args.found.now.entries q (subst (λ es. Contains (keys_of es) q) c.remove.ensures.entries listed))
    c.in_ok-insert.ensures.entries
    c.in_ok-insert.ensures.ordered
