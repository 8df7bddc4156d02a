use Rattle.std.proofs.Common.{List, sym, subst, arith, Contains}
use Rattle.std.proofs.lemmas.List.{take_all, get_or_default}
use Rattle.loom_base.specs.declared.positions.NetNo.{NetNo}
use Rattle.loom_laid.proofs.Growing.{grew-then}
use Rattle.loom_laid.proofs.Filling.{tables-more}
use Rattle.loom_laid.proofs.tables.net_tables.Goals as goal

pub returns-in_err-table-clause-grew : goal.returns-in_err-table-clause-grew
returns-in_err-table-clause-grew g c =
    grew-then c.args.project.now c.args.kept.now c.loop-net.kept c.net_table.new.kept (g.F.Filler.count c.args.filler.now)
    (g.F.Filler.count c.loop-net.filler) (g.F.Filler.count c.net_table.new.filler) c.loop-net.invariant.grew c.net_table.ensures.grew

pub returns-in_err-push-clause-grew : goal.returns-in_err-push-clause-grew
returns-in_err-push-clause-grew g c =
    grew-then c.args.project.now c.args.kept.now c.loop-net.kept c.net_table.new.kept (g.F.Filler.count c.args.filler.now)
    (g.F.Filler.count c.loop-net.filler) (g.F.Filler.count c.net_table.new.filler) c.loop-net.invariant.grew c.net_table.ensures.grew

pub loop-net-preserved : goal.loop-net-preserved
loop-net-preserved g c =
    tables-more c.args.project.now c.args.nets.now c.loop-net.net-index _ c.in_ok-table.table c.loop-net.tables c.push.new.self
    c.args.kept.now c.loop-net.kept c.net_table.new.kept (g.F.Filler.count c.args.filler.now)
    (g.F.Filler.count c.loop-net.filler) (g.F.Filler.count c.net_table.new.filler)
    c.loop-net.invariant (sym (get_or_default c.args.nets.now c.loop-net.net-index _ (record { 0 = 0 }) c.loop-net-test.true)) c.loop-net-test.true c.in_ok-push.ensures.ok c.in_ok-table.ensures.least c.in_ok-table.ensures.whole
    c.net_table.ensures.kept c.net_table.ensures.grew c.in_ok-table.ensures.has

pub returns-clause-has : goal.returns-clause-has
returns-clause-has g c =
    λ net at. c.loop-net.invariant.has net
    (subst (λ (l : List NetNo). Contains l net) (sym (take_all c.loop-net.net-index c.args.nets.now (omega (arith, c.loop-net-test.false)))) at)
