use Rattle.std.proofs.Common.{Some, sym, ap, ◌∙◌}
use Rattle.std.proofs.lemmas.Option.{slice_get-get_or}
use Rattle.loom_undo.proofs.TerminalLemmas.{removal_found, removal_missed}
use Rattle.loom_undo.proofs.removals.removed_terminal.Goals as goal

pub returns-in_default-terminal_place : goal.returns-in_default-terminal_place
returns-in_default-terminal_place c =
    removal_missed c.args.project.now c.args.net c.args.cavity c.in-Some.net c.terminals-terminals.result.now (cc) c.terminals-terminals.ensures.value (cc)

pub returns : goal.returns
returns c =
    removal_found c.args.project.now c.args.net c.args.cavity c.in-Some.net c.in-Some-terminal_place.at c.terminals-terminals.result.now c.in_ok-copy.field-0 (cc) c.terminals-terminals.ensures.value (cc)
    (slice_get-get_or c.terminals-terminals.result.now c.in-Some-terminal_place.at c.index-terminals-at.result c.in-Some-terminal_place.ensures.within ∙ ap Some (sym c.index-terminals-at.is ∙ sym c.in_ok-copy.ensures))
