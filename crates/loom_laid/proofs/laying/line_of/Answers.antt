use Rattle.std.proofs.Common.{rules}
use Rattle.std.proofs.lemmas.List.Sorted.{answers_always}
use Rattle.loom_laid.proofs.LaidLemmas.{not-missing, is-line}
use Rattle.loom_laid.proofs.laying.line_of.Goals as goal

pub unreachable-requires : goal.unreachable-requires
unreachable-requires c =
    not-missing c.args.tables.now c.args.net c.requires.rising c.requires.line c.in-Err.field-0
    (c.in-Err.ensures.position (λ line. line.net.0) (answers_always _ _ _ (λ f a r g called. search rules)))

pub returns-clause-net : goal.returns-clause-net
returns-clause-net c =
    is-line c.args.tables.now c.args.net c.index-tables-at.result c.in-Ok.at c.index-tables-at.is
    (c.in-Ok.ensures.position (λ line. line.net.0) (answers_always _ _ _ (λ f a r g called. search rules)))
