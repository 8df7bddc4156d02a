use Rattle.loom_laid.proofs.Filling.{TablesSoFar}
use Rattle.loom_laid.proofs.tables.net_tables.Given as goal

abbrev pub invariant-loop-net : goal.invariant-loop-net
invariant-loop-net g l = TablesSoFar l.project l.nets l.net-index l.tables l.initial.kept l.kept (g.F.Filler.count l.initial.filler) (g.F.Filler.count l.filler)
