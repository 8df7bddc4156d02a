use Rattle.std.proofs.Common.{ℕ, List, map, sym, ap, subst}
use Rattle.std.specs.Prelude.{Result, Ok}
use Rattle.loom_types.specs.SetMask.{IsSet}
use Rattle.loom_layout.proofs.Sets.{few_numbers}
use Rattle.loom_active.specs.declared.live.LiveSet.{LiveSet}
use Rattle.loom_active.specs.LiveSets.{IsLiveSet}
use Rattle.loom_laid.specs.Keys.{pair_of}
use Rattle.loom_laid.proofs.LaidLemmas.{live-is_set, in_range-over, reached-of}
use Rattle.loom_laid.proofs.KeptSets.{new-true}
use Rattle.loom_laid.proofs.laying.new_set.Goals as goal

pub laid_over-requires-clause-in_range : goal.laid_over-requires-clause-in_range
laid_over-requires-clause-in_range c =
    in_range-over c.args.project.now c.args.set.net.0 c.in_ok-present.present.topology c.cavities-cavities.result.now c.in_ok-present.ensures.topology
    c.cavities-cavities.ensures.in_range

pub laid_over-requires-clause-set : goal.laid_over-requires-clause-set
laid_over-requires-clause-set c =
    subst (λ (l : List ℕ). IsSet l c.args.set.mask) (sym c.cavities-cavities.ensures.places)
    (live-is_set c.args.project.now c.args.set.net.0 c.args.set.mask c.requires.live)

pub returns-in_err-keep_layout-clause-kept : goal.returns-in_err-keep_layout-clause-kept
returns-in_err-keep_layout-clause-kept c =
    new-true c.args.project.now c.args.set c.args.line.now c.requires.table c.requires.net c.has_sound_topologies.ensures c.requires.in_range
    c.in_ok-present.present.topology (map (λ cavity. cavity.0) c.cavities-cavities.result.now) c.args.kept.now c.keep_layout.new.self
    (pair_of c.in_ok-key.key) c.in_ok-laid.laid.mask c.in_ok-laid.laid.layout c.in_ok-copy.field-0
    (subst (λ (m : ℕ). IsLiveSet c.args.project.now c.args.set.net.0 m) (sym (ap (λ (s : LiveSet). s.mask) c.in_ok-laid.ensures.same)) c.requires.live)
    (few_numbers c.cavities-cavities.result.now c.cavities-cavities.ensures.at_most) c.in_ok-present.ensures.topology
    c.cavities-cavities.ensures.places c.in_ok-key.ensures c.in_ok-laid.ensures.layout c.in_ok-copy.ensures c.keep_layout.ensures c.requires.kept

pub returns-clause-reached : goal.returns-clause-reached
returns-clause-reached c =
    let done : Result (Unit {0}) ℕ = Ok tt in
    reached-of c.args.project.now c.args.set c.in_ok-present.present.topology (map (λ cavity. cavity.0) c.cavities-cavities.result.now)
    c.in_ok-present.ensures.topology c.cavities-cavities.ensures.places done c.in_ok-laid.ensures.reached

pub returns-clause-kept : goal.returns-clause-kept
returns-clause-kept c =
    new-true c.args.project.now c.args.set c.args.line.now c.requires.table c.requires.net c.has_sound_topologies.ensures c.requires.in_range
    c.in_ok-present.present.topology (map (λ cavity. cavity.0) c.cavities-cavities.result.now) c.args.kept.now c.keep_layout.new.self
    (pair_of c.in_ok-key.key) c.in_ok-laid.laid.mask c.in_ok-laid.laid.layout c.in_ok-copy.field-0
    (subst (λ (m : ℕ). IsLiveSet c.args.project.now c.args.set.net.0 m) (sym (ap (λ (s : LiveSet). s.mask) c.in_ok-laid.ensures.same)) c.requires.live)
    (few_numbers c.cavities-cavities.result.now c.cavities-cavities.ensures.at_most) c.in_ok-present.ensures.topology
    c.cavities-cavities.ensures.places c.in_ok-key.ensures c.in_ok-laid.ensures.layout c.in_ok-copy.ensures c.keep_layout.ensures c.requires.kept
