use Rattle.std.proofs.Common.{◌+◌, ◌-◌, ◌%◌, ◌∙◌, bit_and, ap}
use Rattle.std.specs.Int.Bits.{and_self}
use Rattle.std.proofs.lemmas.Nat.{and_assoc}
use Rattle.loom_potential.proofs.Within.{next_within}
use Rattle.loom_potential.proofs.parts.next_within.Goals as goal

pub returns-clause-within : goal.returns-clause-within
returns-clause-within c =
    and_assoc c.args.mask ((c.args.bits + (4294967296 - c.args.mask)) % 4294967296) c.args.mask
    ∙ ap (bit_and ((c.args.bits + (4294967296 - c.args.mask)) % 4294967296)) (and_self c.args.mask)

pub returns-clause-greater : goal.returns-clause-greater
returns-clause-greater c =
    (next_within c.args.mask c.args.bits c.ranges.mask.fits c.requires.within c.requires.below).greater

pub returns-clause-least : goal.returns-clause-least
returns-clause-least c = (next_within c.args.mask c.args.bits c.ranges.mask.fits c.requires.within c.requires.below).least
