-- Each pair of parts is searched in turn, the low parts first.
use Rattle.std.proofs.Common.{arith, sym, ap, ◌∙◌, inl, inr, Ok}
use Rattle.loom_rows.proofs.LeastChoices.{never-end, never-failed, meets-low, meets-high, meets-never, failed-insert}
use Rattle.loom_rows.proofs.rows.Rows.+search.Goals as goal
use Rattle.loom_rows.proofs.rows.Rows.+search.Goals.{then-number-eq0-via-then-number-eq0, then-number-eq0-via-else-number-eq0+then-number-eq0-2}

pub returns-then-number-eq0-clause-none : goal.returns-then-number-eq0-clause-none
returns-then-number-eq0-clause-none t c = λ e.
    never-end c.args.self.now c.args.a c.args.b c.requires.has_a c.requires.has_b
    (elim c.then-number-eq0.branch [
      | then-number-eq0-via-then-number-eq0 w ↦ inl (sym c.number.ensures ∙ w.if-number-eq0.true)
      | then-number-eq0-via-else-number-eq0+then-number-eq0-2 w ↦ inr (sym w.number-else-number-eq0.ensures ∙ w.if-number-eq0-2.true)
    ])

pub returns-then-contains-clause-none : goal.returns-then-contains-clause-none
returns-then-contains-clause-none t c = λ e.
    never-failed c.args.self.now c.args.a c.args.b c.requires.has_a c.requires.has_b _ c.pair_with-key.ensures
    (c.requires.failed c.pair_with-key.result (sym c.if-contains.ensures))

pub search-requires : goal.search-requires
search-requires t c =
    let p = c.parts-parts.ensures in
    (omega (arith, c.decreases, p.first, p.in_range, p.low_rises), (p.has_a_low, (p.has_b_low, (c.requires.clear, (c.requires.whole, c.requires.failed)))))

pub returns-then-branch-clause-found : goal.returns-then-branch-clause-found
returns-then-branch-clause-found t c = λ e.
    let r = c.parts-parts.result in
    meets-low c.args.self.now c.args.a c.args.b c.requires.has_a c.requires.has_b r.at r.a_low r.b_low r.a_high r.b_high c.parts-parts.ensures _ (c.in_ok-search.ensures.found (ap Ok c.if-branch.true))

pub search-requires-2 : goal.search-requires-2
search-requires-2 t c =
    let p = c.parts-parts.ensures in
    let same = c.in_ok-search.ensures.unchanged (ap Ok c.if-branch.false) in (
      omega (arith, c.decreases, p.first, p.in_range, p.high_rises),
      (p.has_a_high, (p.has_b_high, (rw same c.requires.clear, (c.in_ok-search.ensures.whole ∙ c.requires.whole, c.in_ok-search.ensures.failed)))),
    )

pub returns-then-branch-2-clause-found : goal.returns-then-branch-2-clause-found
returns-then-branch-2-clause-found t c = λ e.
    let r = c.parts-parts.result in
    meets-high c.args.self.now c.args.a c.args.b c.requires.has_a c.requires.has_b r.at r.a_low r.b_low r.a_high r.b_high c.parts-parts.ensures c.search-2.new.values c.set.new.self
    (c.in_ok-search.ensures.none (ap Ok c.if-branch.false))
    (c.in_ok-search-2.ensures.whole ∙ c.in_ok-search.ensures.whole ∙ c.requires.whole) c.set.ensures
    (c.in_ok-search-2.ensures.found (ap Ok c.if-branch-2.true))

pub returns-in_ok-insert-clause-none : goal.returns-in_ok-insert-clause-none
returns-in_ok-insert-clause-none t c = λ e.
    let r = c.parts-parts.result in
    meets-never c.args.self.now c.args.a c.args.b c.requires.has_a c.requires.has_b r.at r.a_low r.b_low r.a_high r.b_high c.parts-parts.ensures
    (c.in_ok-search.ensures.none (ap Ok c.if-branch.false)) (c.in_ok-search-2.ensures.none (ap Ok c.if-branch-2.false))

pub returns-in_ok-insert-clause-failed : goal.returns-in_ok-insert-clause-failed
returns-in_ok-insert-clause-failed t c =
    let r = c.parts-parts.result in
    let never = meets-never c.args.self.now c.args.a c.args.b c.requires.has_a c.requires.has_b r.at r.a_low r.b_low r.a_high r.b_high c.parts-parts.ensures
    (c.in_ok-search.ensures.none (ap Ok c.if-branch.false)) (c.in_ok-search-2.ensures.none (ap Ok c.if-branch-2.false)) in
    failed-insert c.args.self.now c.search-2.new.failed c.insert.new.self c.pair_with-key.result c.in_ok-search-2.ensures.failed c.in_ok-insert.ensures.updates
    (record { a = c.args.a; b = c.args.b; has_a = c.requires.has_a; has_b = c.requires.has_b; numbered = sym c.pair_with-key.ensures; never = never })

pub returns-else-two_ways-2-clause-none : goal.returns-else-two_ways-2-clause-none
returns-else-two_ways-2-clause-none t c = λ e.
    let r = c.parts-parts.result in
    meets-never c.args.self.now c.args.a c.args.b c.requires.has_a c.requires.has_b r.at r.a_low r.b_low r.a_high r.b_high c.parts-parts.ensures
    (c.in_ok-search.ensures.none (ap Ok c.if-branch.false)) (c.in_ok-search-2.ensures.none (ap Ok c.if-branch-2.false))
