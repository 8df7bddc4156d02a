use Rattle.std.proofs.Common.{ℕ, List, map, sym, subst}
use Rattle.loom_types.specs.SetMask.{IsSet}
use Rattle.loom_layout.proofs.Sets.{few_numbers}
use Rattle.loom_laid.specs.Keys.{pair_of}
use Rattle.loom_laid.proofs.LaidLemmas.{live-is_set}
use Rattle.loom_laid.proofs.KeptSets.{nodes-over, kept-laid, kept-reached}
use Rattle.loom_laid.proofs.laying.kept_set.Goals as goal

pub set_cost-requires-clause-nodes : goal.set_cost-requires-clause-nodes
set_cost-requires-clause-nodes c =
    nodes-over c.args.project.now c.args.line.now.net.0 c.args.line.now.table.nodes c.topology.result.now c.requires.table.least.nodes c.topology.ensures.topology

pub set_cost-requires-clause-set : goal.set_cost-requires-clause-set
set_cost-requires-clause-set c =
    subst (λ (l : List ℕ). IsSet l c.args.set.mask) (sym c.cavities-cavities.ensures.places)
    (live-is_set c.args.project.now c.args.set.net.0 c.args.set.mask c.requires.live)

pub returns-clause-laid : goal.returns-clause-laid
returns-clause-laid c =
    kept-laid c.args.project.now c.args.set c.args.line.now c.requires.table c.requires.net c.has_sound_topologies.ensures c.requires.in_range
    c.topology.result.now (map (λ cavity. cavity.0) c.cavities-cavities.result.now) c.set_cost.result c.in-Some.cost c.topology.ensures.topology
    c.cavities-cavities.ensures.places c.set_cost.ensures c.in-Some.is
    c.args.tables.now c.args.kept.now (pair_of c.in_ok-key.key) c.in-Some-layout.layout.now c.in_ok-layout.layout c.requires.there c.requires.kept
    c.in_ok-key.ensures c.in-Some-layout.ensures c.in_ok-layout.ensures

pub returns-clause-reached : goal.returns-clause-reached
returns-clause-reached c =
    kept-reached c.args.project.now c.args.set c.args.line.now c.requires.table c.requires.net c.has_sound_topologies.ensures c.requires.in_range
    c.topology.result.now (map (λ cavity. cavity.0) c.cavities-cavities.result.now) c.set_cost.result c.in-Some.cost c.topology.ensures.topology
    c.cavities-cavities.ensures.places c.set_cost.ensures c.in-Some.is c.requires.live
    (few_numbers c.cavities-cavities.result.now c.cavities-cavities.ensures.at_most)
