use Rattle.std.specs.HashSet.{contains}
use Rattle.std.proofs.lemmas.Result.{IfOk-weaker}
use Rattle.loom_audit.specs.Grouping.{is_same_pair}
use Rattle.loom_check.specs.PinTables.{FindsShared, KnowsEnds}
use Rattle.loom_check.proofs.pin_tables.wires_by_pin.Goals as goal

pub returns : goal.returns
returns c =
    IfOk-weaker c.wires_at_shared.result (KnowsEnds (contains is_same_pair c.in_ok-shared.shared) c.args.wires.now) (FindsShared c.args.wires.now)
    (λ table known. record { is_shared = contains is_same_pair c.in_ok-shared.shared; shared = c.in_ok-shared.ensures; known = known })
    c.wires_at_shared.ensures
