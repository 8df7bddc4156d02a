use Rattle.std.proofs.Common.{◌≡◌, map, take}
use Rattle.loom_rows.specs.Taken.{cond_at}
use Rattle.loom_check.specs.WireConditions.{sets_at}
use Rattle.loom_check.proofs.conditions.conditions_at.Given as goal

abbrev pub invariant-loop-at : goal.invariant-loop-at
invariant-loop-at l = l.listed ≡ map (λ set. cond_at l.conds set.row) (sets_at l.plan (take l.at-index l.positions))
