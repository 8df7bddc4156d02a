use Rattle.std.proofs.Common.{map, sym, ◌∙◌, true≢false}
use Rattle.loom_laid.specs.Keys.{pair_of}
use Rattle.loom_laid.proofs.KeptTrue.{true-after, has-after, grew-after}
use Rattle.loom_laid.proofs.tables.keep_table.Goals as goal

pub returns-clause-kept : goal.returns-clause-kept
returns-clause-kept g c =
    true-after c.args.project.now c.args.net.0 c.in_ok-topology.topology (map (λ cavity. cavity.0) c.cavities.result.now) (pair_of c.in_ok-key.key)
    c.args.kept.now c.fill.new.self c.in_ok-topology.ensures.topology c.cavities.ensures.places c.in_ok-key.ensures
    c.fill.result c.fill.ensures.filled c.fill.ensures.unchanged c.requires.kept

pub returns-clause-grew : goal.returns-clause-grew
returns-clause-grew g c =
    grew-after c.args.project.now c.args.net.0 c.in_ok-topology.topology (map (λ cavity. cavity.0) c.cavities.result.now) (pair_of c.in_ok-key.key)
    c.args.kept.now c.fill.new.self c.in_ok-topology.ensures.topology c.cavities.ensures.places c.in_ok-key.ensures
    c.fill.result (g.F.Filler.count c.args.filler.now) (g.F.Filler.count c.fill.new.filler)
    c.fill.ensures.filled c.fill.ensures.given c.fill.ensures.unchanged c.fill.ensures.not_given
    (λ at. true≢false (sym (c.has.ensures.1 at) ∙ c.if-has.false)) c.requires.live c.requires.counted

pub returns-clause-has : goal.returns-clause-has
returns-clause-has g c =
    has-after c.args.project.now c.args.net.0 c.in_ok-topology.topology (map (λ cavity. cavity.0) c.cavities.result.now) (pair_of c.in_ok-key.key)
    c.args.kept.now c.fill.new.self c.in_ok-topology.ensures.topology c.cavities.ensures.places c.in_ok-key.ensures
    c.fill.result c.fill.ensures.filled
