use Rattle.std.proofs.Common.{Some, get_or, ap, ◌∙◌}
use Rattle.std.proofs.lemmas.Option.{slice_get-get_or}
use Rattle.loom_undo.specs.declared.inverse.Inverse.TheVariants as inverses
use Rattle.loom_undo.proofs.TerminalLemmas.{when_found, when_missed}
use Rattle.loom_undo.proofs.old_values.old_when.Goals as goal

pub returns-in_default-terminal_place : goal.returns-in_default-terminal_place
returns-in_default-terminal_place c when =
    when_missed c.args.project.now c.args.net c.args.cavity when c.in-Some.net c.terminals-terminals.result.now (cc) c.terminals-terminals.ensures.value (cc)

pub returns : goal.returns
returns c when =
    let there = slice_get-get_or c.terminals-terminals.result.now c.in-Some-terminal_place.at c.index-terminals-at.result c.in-Some-terminal_place.ensures.within in
    let found = when_found c.args.project.now c.args.net c.args.cavity when c.in-Some.net c.in-Some-terminal_place.at c.terminals-terminals.result.now (get_or c.terminals-terminals.result.now c.in-Some-terminal_place.at c.index-terminals-at.result) (cc) c.terminals-terminals.ensures.value (cc) there in
    ap (λ w. Some (inverses.SetWhen c.in-Some.net c.in-Some-terminal_place.at w)) c.in_ok-copy.ensures ∙ found
