use Rattle.std.proofs.Common.{refl}
use Rattle.loom_laid.proofs.KeyLemmas.{fill-added}
use Rattle.loom_laid.proofs.kept.Kept.fill.Goals as goal

pub returns-clause-filled : goal.returns-clause-filled
returns-clause-filled g c = record {
  table = c.in_ok-table.table;
  least = c.in_ok-table.ensures.least;
  whole = c.masks-masks.ensures.whole;
  added =
      fill-added c.args.key (record { table = c.in_ok-table.table; layouts = c.new-layouts.result }) c.in_ok-table.table c.args.self.now c.self.inside.entries.entries c.reserve.new.self.entries c.insert.new.self.entries
      c.self.view_is c.in_ok-reserve.ensures.entries c.in_ok-insert.ensures.entries c.requires.absent refl c.new-layouts.ensures.empty;
}
