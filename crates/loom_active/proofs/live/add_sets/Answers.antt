-- Each pattern is looked at in turn.
use Rattle.std.proofs.Common.{◌≡◌, ℕ, ◌+◌, ◌<◌, List, [], ◌∷◌, ◌++◌, length, get_or, take, sym, ap, ◌∙◌, append_assoc, append-nil}
use Rattle.std.specs.List.{filter_map, cons_option}
use Rattle.std.proofs.lemmas.List.{take_more}
use Rattle.std.proofs.lemmas.List.Elements.{filter_map-append}
use Rattle.loom_base.specs.declared.positions.NetNo.{NetNo}
use Rattle.loom_rows.specs.declared.cond.Cond.{Never}
use Rattle.loom_active.specs.declared.live.LiveSet.{LiveSet}
use Rattle.loom_active.specs.declared.patterns.Pattern.{Pattern}
use Rattle.loom_active.specs.FoundSets.{set_of}
use Rattle.loom_active.proofs.SetLemmas.{set_at, kept_set, left_set}
use Rattle.loom_active.proofs.live.add_sets.Goals as goal
use Rattle.loom_active.proofs.live.add_sets.Goals.{then-pattern-ge2+in_ok-push, else-pattern-ge2}

-- the sets with that of a further pattern
more : (net : NetNo) (ps : List Pattern) (k : ℕ) (p : Pattern) → k < length ps → (first : List LiveSet)
    → first ++ filter_map (set_of net) (take (k + 1) ps) ≡ (first ++ filter_map (set_of net) (take k ps)) ++ cons_option (set_of net (get_or ps k p)) []
more net ps k p lt first =
    ap (λ l. first ++ filter_map (set_of net) l) (take_more ps k p lt)
    ∙ ap (λ l. first ++ l) (filter_map-append (set_of net) (take k ps) (get_or ps k p ∷ []))
    ∙ sym (append_assoc first (filter_map (set_of net) (take k ps)) (filter_map (set_of net) (get_or ps k p ∷ [])))

abbrev item : List Pattern → ℕ → Pattern
item ps k = get_or ps k (record { mask = 0; cond = Never })

pub loop-pattern-preserved : goal.loop-pattern-preserved
loop-pattern-preserved c =
    let p = item c.args.patterns.now c.loop-pattern.pattern-index in
    let next = more c.args.net c.args.patterns.now c.loop-pattern.pattern-index (record { mask = 0; cond = Never }) c.loop-pattern-test.true c.args.sets.now in
    elim c.if-pattern-ge2.branch [
      | then-pattern-ge2+in_ok-push w ↦
          w.sets-is ∙ w.in_ok-push.ensures.ok ∙ ap (λ l. l ++ set_at c.args.net p ∷ []) c.loop-pattern.invariant
          ∙ ap (λ o. (c.args.sets.now ++ filter_map (set_of c.args.net) (take c.loop-pattern.pattern-index c.args.patterns.now)) ++ cons_option o []) (sym (kept_set c.args.net p w.if-pattern-ge2.true)) ∙ sym next
      | else-pattern-ge2 w ↦
          w.sets-is ∙ c.loop-pattern.invariant ∙ sym (append-nil _)
          ∙ ap (λ o. (c.args.sets.now ++ filter_map (set_of c.args.net) (take c.loop-pattern.pattern-index c.args.patterns.now)) ++ cons_option o []) (sym (left_set c.args.net p w.if-pattern-ge2.false)) ∙ sym next
    ]
