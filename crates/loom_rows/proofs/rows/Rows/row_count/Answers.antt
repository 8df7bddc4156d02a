use Rattle.std.proofs.Common.{◌≡◌, ℕ, length, sym, subst, ◌∙◌}
use Rattle.std.proofs.lemmas.Map.Entries.{length-keys_of}
use Rattle.loom_rows.specs.Table.{Table, IsSound}
use Rattle.loom_rows.specs.Leftovers.{AreExactly, IsRowOf}
use Rattle.loom_rows.proofs.Counted.{rows-counted}
use Rattle.loom_rows.proofs.rows.Rows.row_count.Goals as goal

pub returns-clause-counted : goal.returns-clause-counted
returns-clause-counted c = λ fs stands.
    let t = c.args.self.now in
    let n : length t.rows ≡ c.len.result = sym (subst (λ (u : Table). c.len.result ≡ length u.rows) c.self.view_is (c.len.ensures.len ∙ sym (length-keys_of c.self.inside.index.entries))) in
    subst (λ (n : ℕ). AreExactly n (IsRowOf fs)) n (rows-counted t (subst IsSound c.self.view_is c.self.invariant.sound) fs stands)
