use Rattle.std.specs.Prelude.{ℕ, Bool, true, false, if◌then◌else◌, ◌==◌, ◌&&◌, ◌||◌, not, min, max}
use Rattle.loom_rows.specs.declared.cond.Cond.{Cond, Never, Always, Row'}

-- what a condition says of each choice of the options
abbrev pub Meaning : Type 0
Meaning = (ℕ → Bool) → Bool

-- the value of a condition under a choice: a row has the value of the part that its option chooses
abbrev pub value : Cond → Meaning
value Never c = false
value Always c = true
value (Row' p number option low high) c = if c option.0 then value high c else value low c

-- never is number 0, always is number 1, and each row has a number from 2 on
abbrev pub number_of : Cond → ℕ
number_of Never = 0
number_of Always = 1
number_of (Row' p number option low high) = number

-- two numbers, the lesser first
abbrev pub rising : ℕ → ℕ → ℕ × ℕ
rising one other = (min one other, max one other)

-- the first option on which a condition depends, or the number of options where it depends on none
abbrev pub first_option : ℕ → Cond → ℕ
first_option options Never = options
first_option options Always = options
first_option options (Row' p number option low high) = option.0

-- what is left of a condition that doesn't depend on options before this one, once this one is false
abbrev pub low_at : ℕ → Cond → Cond
low_at at Never = Never
low_at at Always = Always
low_at at (Row' p number option low high) = if option.0 == at then low else Row' p number option low high

-- the same, once this option is true
abbrev pub high_at : ℕ → Cond → Cond
high_at at Never = Never
high_at at Always = Always
high_at at (Row' p number option low high) = if option.0 == at then high else Row' p number option low high

-- the condition that is an option
abbrev pub option_holds : ℕ → Meaning
option_holds option c = c option

-- the condition that holds where both do
abbrev pub both : Meaning → Meaning → Meaning
both f g c = f c && g c

-- the condition that holds where one of the two does
abbrev pub either : Meaning → Meaning → Meaning
either f g c = f c || g c

-- the condition that holds where this one doesn't
abbrev pub negation : Meaning → Meaning
negation f c = not (f c)
