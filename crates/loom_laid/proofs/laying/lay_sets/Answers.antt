use Rattle.std.proofs.Common.{ℕ, List, refl, sym, subst, arith}
use Rattle.std.specs.List.{All}
use Rattle.loom_base.specs.declared.positions.NetNo.{NetNo}
use Rattle.loom_active.specs.LiveSets.{IsLiveSet}
use Rattle.loom_laid.proofs.Growing.{grew-none, grew-all, grew-rises, grew-same}
use Rattle.loom_laid.proofs.Together.{tables-are, cells-fit, steps-pass, live-keys, live-keys-kept}
use Rattle.loom_laid.proofs.laying.lay_sets.Goals as goal

pub returns-in_err-nets-clause-built : goal.returns-in_err-nets-clause-built
returns-in_err-nets-clause-built g c =
    grew-rises c.args.project.now c.args.kept.now c.args.kept.now (g.F.Filler.count c.args.filler.now) (g.F.Filler.count c.args.filler.now)
    (grew-none c.args.project.now c.args.kept.now (g.F.Filler.count c.args.filler.now) (omega (arith, c.built-built.ensures, c.built-built.type_inv)))

pub returns-then-cells_of-gt-MAX_CELLS-clause-built : goal.returns-then-cells_of-gt-MAX_CELLS-clause-built
returns-then-cells_of-gt-MAX_CELLS-clause-built g c =
    grew-rises c.args.project.now c.args.kept.now c.args.kept.now (g.F.Filler.count c.args.filler.now) (g.F.Filler.count c.args.filler.now)
    (grew-none c.args.project.now c.args.kept.now (g.F.Filler.count c.args.filler.now) (omega (arith, c.built-built.ensures, c.built-built.type_inv)))

pub net_tables-requires-clause-live : goal.net_tables-requires-clause-live
net_tables-requires-clause-live g c =
    subst (λ (l : List NetNo). All (λ net. (mask : ℕ) × IsLiveSet c.args.project.now net.0 mask) l) (sym c.as_slice-2.ensures) c.in_ok-nets.ensures.live

pub returns-in_err-tables-clause-keeps : goal.returns-in_err-tables-clause-keeps
returns-in_err-tables-clause-keeps g c =
    grew-all c.args.project.now c.args.kept.now c.net_tables.new.kept (g.F.Filler.count c.args.filler.now) (g.F.Filler.count c.net_tables.new.filler)
    c.net_tables.ensures.grew

pub returns-in_err-tables-clause-built : goal.returns-in_err-tables-clause-built
returns-in_err-tables-clause-built g c =
    grew-rises c.args.project.now c.args.kept.now c.net_tables.new.kept (g.F.Filler.count c.args.filler.now) (g.F.Filler.count c.net_tables.new.filler)
    c.net_tables.ensures.grew

pub laid_sets-requires-clause-tables : goal.laid_sets-requires-clause-tables
laid_sets-requires-clause-tables g c =
    tables-are c.args.project.now c.in_ok-nets.nets c.as_slice-2.result.now c.in_ok-tables.tables c.as_slice-3.result.now c.as_slice-2.ensures c.in_ok-nets.ensures.nets
    c.in_ok-tables.ensures.nets c.in_ok-tables.ensures.each c.as_slice-3.ensures

pub laid_sets-requires-clause-has : goal.laid_sets-requires-clause-has
laid_sets-requires-clause-has g c =
    live-keys c.args.project.now c.in_ok-nets.nets c.as_slice-2.result.now c.net_tables.new.kept c.as_slice-2.ensures c.in_ok-nets.ensures.nets
    c.in_ok-tables.ensures.has

pub returns-in_err-laid-clause-keeps : goal.returns-in_err-laid-clause-keeps
returns-in_err-laid-clause-keeps g c =
    grew-all c.args.project.now c.args.kept.now c.laid_sets.new.kept (g.F.Filler.count c.args.filler.now) (g.F.Filler.count c.net_tables.new.filler)
    (grew-same c.args.project.now c.args.kept.now c.net_tables.new.kept c.laid_sets.new.kept (g.F.Filler.count c.args.filler.now)
    (g.F.Filler.count c.net_tables.new.filler) c.net_tables.ensures.grew c.laid_sets.ensures.keys)

pub returns-in_err-laid-clause-built : goal.returns-in_err-laid-clause-built
returns-in_err-laid-clause-built g c =
    grew-rises c.args.project.now c.args.kept.now c.laid_sets.new.kept (g.F.Filler.count c.args.filler.now) (g.F.Filler.count c.net_tables.new.filler)
    (grew-same c.args.project.now c.args.kept.now c.net_tables.new.kept c.laid_sets.new.kept (g.F.Filler.count c.args.filler.now)
    (g.F.Filler.count c.net_tables.new.filler) c.net_tables.ensures.grew c.laid_sets.ensures.keys)

pub returns-then-not-have_few_steps-clause-keeps : goal.returns-then-not-have_few_steps-clause-keeps
returns-then-not-have_few_steps-clause-keeps g c =
    grew-all c.args.project.now c.args.kept.now c.laid_sets.new.kept (g.F.Filler.count c.args.filler.now) (g.F.Filler.count c.net_tables.new.filler)
    (grew-same c.args.project.now c.args.kept.now c.net_tables.new.kept c.laid_sets.new.kept (g.F.Filler.count c.args.filler.now)
    (g.F.Filler.count c.net_tables.new.filler) c.net_tables.ensures.grew c.laid_sets.ensures.keys)

pub returns-then-not-have_few_steps-clause-built : goal.returns-then-not-have_few_steps-clause-built
returns-then-not-have_few_steps-clause-built g c =
    grew-rises c.args.project.now c.args.kept.now c.laid_sets.new.kept (g.F.Filler.count c.args.filler.now) (g.F.Filler.count c.net_tables.new.filler)
    (grew-same c.args.project.now c.args.kept.now c.net_tables.new.kept c.laid_sets.new.kept (g.F.Filler.count c.args.filler.now)
    (g.F.Filler.count c.net_tables.new.filler) c.net_tables.ensures.grew c.laid_sets.ensures.keys)

pub returns-clause-keeps : goal.returns-clause-keeps
returns-clause-keeps g c =
    grew-all c.args.project.now c.args.kept.now c.laid_sets.new.kept (g.F.Filler.count c.args.filler.now) (g.F.Filler.count c.net_tables.new.filler)
    (grew-same c.args.project.now c.args.kept.now c.net_tables.new.kept c.laid_sets.new.kept (g.F.Filler.count c.args.filler.now)
    (g.F.Filler.count c.net_tables.new.filler) c.net_tables.ensures.grew c.laid_sets.ensures.keys)

pub returns-clause-built : goal.returns-clause-built
returns-clause-built g c =
    grew-rises c.args.project.now c.args.kept.now c.laid_sets.new.kept (g.F.Filler.count c.args.filler.now) (g.F.Filler.count c.net_tables.new.filler)
    (grew-same c.args.project.now c.args.kept.now c.net_tables.new.kept c.laid_sets.new.kept (g.F.Filler.count c.args.filler.now)
    (g.F.Filler.count c.net_tables.new.filler) c.net_tables.ensures.grew c.laid_sets.ensures.keys)

pub returns-then-not-have_few_steps-clause-stop : goal.returns-then-not-have_few_steps-clause-stop
returns-then-not-have_few_steps-clause-stop g c = (
  cells-fit c.args.project.now c.in_ok-nets.nets c.as_slice.result.now c.cells_of.result c.as_slice.ensures c.in_ok-nets.ensures.nets
      c.cells_of.ensures (omega (arith, c.if-cells_of-gt-MAX_CELLS.false)),
  steps-pass c.args.project.now c.args.sets.now c.as_slice-3.result.now c.in_ok-laid.laid c.as_slice-4.result.now c.have_few_steps.result
      c.in_ok-laid.ensures.reached
      (tables-are c.args.project.now c.in_ok-nets.nets c.as_slice-2.result.now c.in_ok-tables.tables c.as_slice-3.result.now c.as_slice-2.ensures c.in_ok-nets.ensures.nets
      c.in_ok-tables.ensures.nets c.in_ok-tables.ensures.each c.as_slice-3.ensures)
      c.in_ok-laid.ensures.laid c.as_slice-4.ensures c.have_few_steps.ensures c.if-not-have_few_steps.true,
)

pub returns-clause-tables : goal.returns-clause-tables
returns-clause-tables g c =
    tables-are c.args.project.now c.in_ok-nets.nets c.as_slice-2.result.now c.in_ok-tables.tables c.in_ok-tables.tables c.as_slice-2.ensures c.in_ok-nets.ensures.nets
    c.in_ok-tables.ensures.nets c.in_ok-tables.ensures.each refl

pub returns-clause-has_live : goal.returns-clause-has_live
returns-clause-has_live g c =
    live-keys-kept c.args.project.now c.net_tables.new.kept c.laid_sets.new.kept c.laid_sets.ensures.keys
    (live-keys c.args.project.now c.in_ok-nets.nets c.as_slice-2.result.now c.net_tables.new.kept c.as_slice-2.ensures c.in_ok-nets.ensures.nets
    c.in_ok-tables.ensures.has)
