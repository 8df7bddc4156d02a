use Rattle.loom_words.proofs.Taken.{parsed_means, parsed_reads, refused_by}
use Rattle.loom_words.proofs.reading.read_words.Goals as goal

pub returns-in_err-matches-clause-usage : goal.returns-in_err-matches-clause-usage
returns-in_err-matches-clause-usage c =
    refused_by c.from_residual-in_err-matches.result c.in_err-matches.field-0.0 _ _ c.in_ok-command.ensures
    c.from_residual-in_err-matches.ensures.1 c.in_err-matches.ensures.passes

pub returns-in-Some-clause-taken : goal.returns-in-Some-clause-taken
returns-in-Some-clause-taken c = (parsed_reads _ _ c.in_ok-command.ensures c.in_ok-matches.ensures.kinds).taken

pub returns-clause-usage : goal.returns-clause-usage
returns-clause-usage c =
    λ _. absurd (parsed_means _ _ c.in_ok-matches.matches c.in_ok-command.ensures c.in_ok-matches.ensures.kinds c.in_ok-matches.ensures.matches (cc))
