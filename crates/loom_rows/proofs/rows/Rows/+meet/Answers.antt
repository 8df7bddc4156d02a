-- Each pair of parts is searched in turn, the low parts first.
use Rattle.std.proofs.Common.{arith, sym, ap, ◌∙◌, inl, inr, Ok}
use Rattle.loom_rows.proofs.LeastChoices.{never-end, never-failed, meets-never, meet-always, meet-low, meet-high, failed-insert}
use Rattle.loom_rows.proofs.rows.Rows.+meet.Goals as goal
use Rattle.loom_rows.proofs.rows.Rows.+meet.Goals.{then-number-eq0-via-then-number-eq0, then-number-eq0-via-else-number-eq0+then-number-eq0-2}

pub returns-then-number-eq0-clause-none : goal.returns-then-number-eq0-clause-none
returns-then-number-eq0-clause-none t c = λ e.
    never-end c.args.self.now c.args.a c.args.b c.requires.has_a c.requires.has_b
    (elim c.then-number-eq0.branch [
      | then-number-eq0-via-then-number-eq0 w ↦ inl (sym c.number.ensures ∙ w.if-number-eq0.true)
      | then-number-eq0-via-else-number-eq0+then-number-eq0-2 w ↦ inr (sym w.number-else-number-eq0.ensures ∙ w.if-number-eq0-2.true)
    ])

pub returns-then-number-eq1-2-clause-some : goal.returns-then-number-eq1-2-clause-some
returns-then-number-eq1-2-clause-some t c = λ e.
    meet-always c.args.self.now c.args.a c.args.b c.requires.has_a c.requires.has_b (sym c.number-2.ensures ∙ c.if-number-eq1.true) (sym c.number-then-number-eq1.ensures ∙ c.if-number-eq1-2.true)

pub returns-then-contains-clause-none : goal.returns-then-contains-clause-none
returns-then-contains-clause-none t c = λ e.
    never-failed c.args.self.now c.args.a c.args.b c.requires.has_a c.requires.has_b _ c.pair_with-key.ensures
    (c.requires.failed c.pair_with-key.result (sym c.if-contains.ensures))

pub meet-requires : goal.meet-requires
meet-requires t c =
    let p = c.parts-parts.ensures in
    (omega (arith, c.decreases, p.first, p.in_range, p.low_rises), (p.has_a_low, (p.has_b_low, c.requires.failed)))

pub returns-then-branch-clause-some : goal.returns-then-branch-clause-some
returns-then-branch-clause-some t c = λ e.
    let r = c.parts-parts.result in
    meet-low c.args.self.now c.args.a c.args.b c.requires.has_a c.requires.has_b r.at r.a_low r.b_low r.a_high r.b_high c.parts-parts.ensures (c.in_ok-meet.ensures.some (ap Ok c.if-branch.true))

pub meet-requires-2 : goal.meet-requires-2
meet-requires-2 t c =
    let p = c.parts-parts.ensures in
    (omega (arith, c.decreases, p.first, p.in_range, p.high_rises), (p.has_a_high, (p.has_b_high, c.in_ok-meet.ensures.failed)))

pub returns-then-branch-2-clause-some : goal.returns-then-branch-2-clause-some
returns-then-branch-2-clause-some t c = λ e.
    let r = c.parts-parts.result in
    meet-high c.args.self.now c.args.a c.args.b c.requires.has_a c.requires.has_b r.at r.a_low r.b_low r.a_high r.b_high c.parts-parts.ensures (c.in_ok-meet-2.ensures.some (ap Ok c.if-branch-2.true))

pub returns-in_ok-insert-clause-none : goal.returns-in_ok-insert-clause-none
returns-in_ok-insert-clause-none t c = λ e.
    let r = c.parts-parts.result in
    meets-never c.args.self.now c.args.a c.args.b c.requires.has_a c.requires.has_b r.at r.a_low r.b_low r.a_high r.b_high c.parts-parts.ensures
    (c.in_ok-meet.ensures.none (ap Ok c.if-branch.false)) (c.in_ok-meet-2.ensures.none (ap Ok c.if-branch-2.false))

pub returns-in_ok-insert-clause-failed : goal.returns-in_ok-insert-clause-failed
returns-in_ok-insert-clause-failed t c =
    let r = c.parts-parts.result in
    let never = meets-never c.args.self.now c.args.a c.args.b c.requires.has_a c.requires.has_b r.at r.a_low r.b_low r.a_high r.b_high c.parts-parts.ensures
    (c.in_ok-meet.ensures.none (ap Ok c.if-branch.false)) (c.in_ok-meet-2.ensures.none (ap Ok c.if-branch-2.false)) in
    failed-insert c.args.self.now c.meet-2.new.failed c.insert.new.self c.pair_with-key.result c.in_ok-meet-2.ensures.failed c.in_ok-insert.ensures.updates
    (record { a = c.args.a; b = c.args.b; has_a = c.requires.has_a; has_b = c.requires.has_b; numbered = sym c.pair_with-key.ensures; never = never })

pub returns-else-two_ways-2-clause-none : goal.returns-else-two_ways-2-clause-none
returns-else-two_ways-2-clause-none t c = λ e.
    let r = c.parts-parts.result in
    meets-never c.args.self.now c.args.a c.args.b c.requires.has_a c.requires.has_b r.at r.a_low r.b_low r.a_high r.b_high c.parts-parts.ensures
    (c.in_ok-meet.ensures.none (ap Ok c.if-branch.false)) (c.in_ok-meet-2.ensures.none (ap Ok c.if-branch-2.false))
