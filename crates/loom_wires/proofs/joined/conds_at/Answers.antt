use Rattle.std.proofs.Common.{◌≡◌, ◌+◌, ◌<◌, ℕ, List, [], ◌∷◌, ◌++◌, length, map, take, get_or, sym, ap, ◌∙◌}
use Rattle.std.proofs.lemmas.List.{take_more, map-append, get_or-map}
use Rattle.loom_rows.specs.declared.cond.Cond.{Cond, Never}
use Rattle.loom_wires.specs.declared.laid_set.LaidSet.{LaidSet}
use Rattle.loom_wires.specs.FoundWires.{conds_at}
use Rattle.loom_wires.proofs.joined.conds_at.Goals as goal

-- the condition at one position more
conds-more : (sets : List LaidSet) (positions : List ℕ) (k : ℕ) (d : LaidSet) → k < length positions → get_or positions k 0 < length sets
    → conds_at sets (take (k + 1) positions) ≡ conds_at sets (take k positions) ++ (get_or sets (get_or positions k 0) d).cond ∷ []
conds-more sets positions k d lt within =
    ap (conds_at sets) (take_more positions k 0 lt)
    ∙ map-append (λ p. get_or (map (λ (s : LaidSet). s.cond) sets) p Never) (take k positions) (get_or positions k 0 ∷ [])
    ∙ ap (λ (x : Cond). conds_at sets (take k positions) ++ x ∷ []) (get_or-map (λ (s : LaidSet). s.cond) sets (get_or positions k 0) d Never within)

pub loop-at-preserved : goal.loop-at-preserved
loop-at-preserved c =
    c.in_ok-push.ensures.ok ∙ ap (λ l. l ++ (get_or c.args.sets.now (get_or c.args.positions.now c.loop-at.at-index 0) c.index-sets-at.result).cond ∷ []) c.loop-at.invariant
    ∙ sym (conds-more c.args.sets.now c.args.positions.now c.loop-at.at-index c.index-sets-at.result c.loop-at-test.true (c.requires c.loop-at.at-index 0 c.loop-at-test.true))
