use Rattle.std.proofs.Common.{length}
use Rattle.loom_potential.proofs.OneAt.{one_within, one_is}
use Rattle.loom_potential.proofs.inequalities.is_one_at.Goals as goal

pub bounds-terminals-first : goal.bounds-terminals-first
bounds-terminals-first c =
    one_within c.args.mask (length c.args.terminals.now) c.requires.mask_from c.ranges.mask.fits c.requires.mask_to c.if-mask-first.true

pub returns-then-mask-first : goal.returns-then-mask-first
returns-then-mask-first c =
    one_is c.args.topology.now (λ t. t.0) c.args.terminals.now (record { 0 = 0 }) c.args.mask c.args.node.0 c.cavity_node.result.0
    c.eq.result c.requires.mask_from c.ranges.mask.fits
    (one_within c.args.mask (length c.args.terminals.now) c.requires.mask_from c.ranges.mask.fits c.requires.mask_to c.if-mask-first.true)
    c.if-mask-first.true c.cavity_node.ensures.node c.eq.ensures
