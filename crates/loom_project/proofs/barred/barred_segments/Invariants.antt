use Rattle.std.proofs.Common.{◌≡◌, ◌<◌, eqb, length, map, [], get_or}
use Rattle.std.specs.Prelude.{All, filter}
use Rattle.std.specs.List.{list_any, range_with_len}
use Rattle.loom_project.proofs.barred.barred_segments.Given as goal

abbrev pub invariant-loop-i : goal.invariant-loop-i
invariant-loop-i l = record {
  barred : map (λ s. s.0) l.barred ≡ filter (λ s. list_any (λ bar. eqb bar l.class) (get_or l.bars s [])) (range_with_len 0 l.i);
  within : All (λ s. s.0 < length l.bars) l.barred;
}
