use Rattle.std.proofs.Common.{◌≤◌, sym, subst, ◌∙◌, arith, Some, length}
use Rattle.std.proofs.lemmas.Map.Entries.{length-keys_of}
use Rattle.loom_rows.specs.Table.{Table, IsSound}
use Rattle.loom_rows.proofs.Outcomes.{outcome-found}
use Rattle.loom_rows.proofs.Made.{made-same, made-found, made-full}
use Rattle.loom_rows.proofs.rows.Rows.make.Goals as goal

pub returns-then-number : goal.returns-then-number
returns-then-number c =
    let t = c.args.self.now in
    let sound = subst IsSound c.self.view_is c.self.invariant.sound in
    outcome-found _ _ t _ sound (made-same t c.args.at c.args.low c.args.high c.requires.has_low c.requires.has_high c.requires.low_rises (grind arith))

pub returns-in-Some : goal.returns-in-Some
returns-in-Some c =
    let t = c.args.self.now in
    let sound = subst IsSound c.self.view_is c.self.invariant.sound in
    let s = c.in-Some.ensures.some in
    outcome-found _ _ t _ sound
    (made-found t c.args.at c.args.low c.args.high c.requires.has_low c.requires.has_high c.in-Some.cond s.0 s.2 s.3 (s.1 ∙ λ i. Some (c.args.at, c.number-3.ensures i, c.number-4.ensures i)))

pub returns-then-rows-self : goal.returns-then-rows-self
returns-then-rows-self c =
    let t = c.args.self.now in
    let sound = subst IsSound c.self.view_is c.self.invariant.sound in
    made-full t c.args.at c.args.low c.args.high c.requires.has_low c.requires.has_high c.requires.low_rises c.requires.high_rises sound
    (λ e. c.if-number.false (c.number.ensures ∙ e ∙ sym c.number-2.ensures))
    (λ i e. c.in_default.ensures.none i (e ∙ sym (λ k. Some (c.args.at, c.number-3.ensures k, c.number-4.ensures k))))
    (subst (λ (u : Table). u.limit ≤ length u.rows) c.self.view_is (omega (arith, length-keys_of c.self.inside.index.entries, c.len-rows.ensures.len, c.if-rows-self.true)))
