use Rattle.std.proofs.Common.{[], ◌∷◌, ◌++◌, ap, sym, ◌∙◌}
use Rattle.loom_types.specs.declared.wire.Wire.{Wire}
use Rattle.loom_types.specs.LayoutWires.{crossed}
use Rattle.loom_audit.specs.declared.leg.Crossing.{Crossing}
use Rattle.loom_audit.specs.Threads.{crossing_of_code, thread_of}
use Rattle.loom_audit.proofs.walk.stepped.Goals as goal

pub returns-in_ok-push-in-Through-clause-wires : goal.returns-in_ok-push-in-Through-clause-wires
returns-in_ok-push-in-Through-clause-wires c =
    c.in_ok-push-in-Through.ensures.ok
    ∙ (ap (λ (w : Wire). c.args.wires.now ++ w ∷ []) c.finished.ensures
    ∙ ap (λ (x : Crossing). c.args.wires.now ++ crossed c.args.net.0 (thread_of c.args.thread) (crossing_of_code x)) (sym c.in-Through.is))
