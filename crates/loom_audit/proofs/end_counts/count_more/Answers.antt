use Rattle.std.proofs.Common.{ℕ}
use Rattle.std.specs.HashMap.{get}
use Rattle.loom_audit.specs.EndKeys.{key_of, is_same_key}
use Rattle.loom_audit.proofs.KeyLemmas.{counted_once}
use Rattle.loom_audit.proofs.end_counts.count_more.Goals as goal

pub returns-clause-more : goal.returns-clause-more
returns-clause-more c = λ e.
    counted_once (get is_same_key c.args.counts.now) e c.args.end c.end_key.result (get is_same_key c.insert.new.self (key_of e)) c.count_of-before.result
    c.end_key.ensures c.count_of-before.ensures (c.in_ok-insert.ensures.updates.0 (key_of e))
