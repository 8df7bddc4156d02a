use Rattle.std.specs.Prelude.{ℕ, Bool, Option, Some, None, ◌≡◌, ◌+◌, ◌≤◌, ◌==◌, if◌then◌else◌}
use Rattle.loom_rules.specs.declared.tally.Tally.{Tally}

-- the tally after a wire that has the place once more; the wire's number counts from 1, and a wire counts once
abbrev pub noted : ℕ → Option Tally → Tally
noted number None = record { count = 1; last = number }
noted number (Some tally) =
    if tally.last == number then tally else record { count = tally.count + 1; last = number }

-- how many wires were counted
abbrev pub count_in : Option Tally → ℕ
count_in None = 0
count_in (Some tally) = tally.count

-- at most as many wires were counted as the last one's number, which is at most that
abbrev pub IsKept : ℕ → Option Tally → Type 0
IsKept number None = Unit {0}
IsKept number (Some tally) = (tally.count ≤ tally.last) × (tally.last ≤ number)

-- the wire was noted at each place that it has, and nothing else changed
abbrev pub IsNoted : {K : Type 0} → ℕ → (K → Bool) → (K → Option Tally) → (K → Option Tally) → Type 0
IsNoted {K} number has old new =
    (q : K) → new q ≡ (if has q then Some (noted number (old q)) else old q)
