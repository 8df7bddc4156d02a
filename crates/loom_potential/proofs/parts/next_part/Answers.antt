use Rattle.std.proofs.Common.{ℕ, ◌-◌, ◌*◌, ◌%◌, ◌^◌, ◌<◌, ◌≤◌, arith}
use Rattle.loom_potential.specs.FirstBreak.{first_bit}
use Rattle.loom_potential.proofs.FirstParts.{first_bit_pow, first_within, first_least, others_within, next_is_part, next_least}
use Rattle.loom_potential.proofs.parts.next_part.Goals as goal

some : (mask part : ℕ) → part < mask → 0 < mask
some mask part below = omega arith

pub overflow_sub-mask : goal.overflow_sub-mask
overflow_sub-mask c =
    let above : 0 < c.args.mask = some c.args.mask c.args.part c.requires.below in
    first_within c.args.mask (1 * 2 ^ first_bit c.args.mask % 4294967296) above c.ranges.mask.fits
    (first_bit_pow c.args.mask above c.ranges.mask.fits)

pub overflow_sub-part : goal.overflow_sub-part
overflow_sub-part c =
    let above : 0 < c.args.mask = some c.args.mask c.args.part c.requires.below in
    first_least c.args.mask (1 * 2 ^ first_bit c.args.mask % 4294967296) above c.ranges.mask.fits
    (first_bit_pow c.args.mask above c.ranges.mask.fits) c.args.part c.requires.is_part

pub next_within-requires-clause-within : goal.next_within-requires-clause-within
next_within-requires-clause-within c =
    let above : 0 < c.args.mask = some c.args.mask c.args.part c.requires.below in
    others_within c.args.mask (1 * 2 ^ first_bit c.args.mask % 4294967296) above c.ranges.mask.fits
    (first_bit_pow c.args.mask above c.ranges.mask.fits) c.args.part c.requires.is_part

below_others : (f part mask : ℕ) → f ≤ part → part < mask → part - f < mask - f
below_others f part mask low below = omega arith

pub next_within-requires-clause-below : goal.next_within-requires-clause-below
next_within-requires-clause-below c =
    let above : 0 < c.args.mask = some c.args.mask c.args.part c.requires.below in
    below_others (1 * 2 ^ first_bit c.args.mask % 4294967296) c.args.part c.args.mask
    (first_least c.args.mask (1 * 2 ^ first_bit c.args.mask % 4294967296) above c.ranges.mask.fits
    (first_bit_pow c.args.mask above c.ranges.mask.fits) c.args.part c.requires.is_part) c.requires.below

pub returns-clause-is_part : goal.returns-clause-is_part
returns-clause-is_part c =
    let above : 0 < c.args.mask = some c.args.mask c.args.part c.requires.below in
    next_is_part c.args.mask (1 * 2 ^ first_bit c.args.mask % 4294967296) above c.ranges.mask.fits
    (first_bit_pow c.args.mask above c.ranges.mask.fits) c.args.part c.next_within.result c.requires.is_part
    c.next_within.ensures.within c.next_within.ensures.greater c.next_within.ensures.least

pub returns-clause-least : goal.returns-clause-least
returns-clause-least c =
    let above : 0 < c.args.mask = some c.args.mask c.args.part c.requires.below in
    next_least c.args.mask (1 * 2 ^ first_bit c.args.mask % 4294967296) above c.ranges.mask.fits
    (first_bit_pow c.args.mask above c.ranges.mask.fits) c.args.part c.next_within.result c.requires.is_part
    c.next_within.ensures.within c.next_within.ensures.greater c.next_within.ensures.least
