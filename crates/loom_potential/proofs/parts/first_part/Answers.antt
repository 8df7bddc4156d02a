use Rattle.std.proofs.Common.{◌*◌, ◌%◌, ◌^◌}
use Rattle.loom_potential.specs.FirstBreak.{first_bit}
use Rattle.loom_potential.proofs.FirstParts.{first_bit_pow, first_is_part, first_within, first_least}
use Rattle.loom_potential.proofs.parts.first_part.Goals as goal

pub returns-clause-is_part : goal.returns-clause-is_part
returns-clause-is_part c =
    first_is_part c.args.mask (1 * 2 ^ first_bit c.args.mask % 4294967296) c.requires c.ranges.mask.fits
    (first_bit_pow c.args.mask c.requires c.ranges.mask.fits)

pub returns-clause-within : goal.returns-clause-within
returns-clause-within c =
    first_within c.args.mask (1 * 2 ^ first_bit c.args.mask % 4294967296) c.requires c.ranges.mask.fits
    (first_bit_pow c.args.mask c.requires c.ranges.mask.fits)

pub returns-clause-least : goal.returns-clause-least
returns-clause-least c =
    first_least c.args.mask (1 * 2 ^ first_bit c.args.mask % 4294967296) c.requires c.ranges.mask.fits
    (first_bit_pow c.args.mask c.requires c.ranges.mask.fits)
