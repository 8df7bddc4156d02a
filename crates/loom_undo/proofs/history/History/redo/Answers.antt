use Rattle.std.proofs.Common.{sym, ◌∙◌, arith}
use Rattle.std.proofs.lemmas.Option.{slice_get_past}
use Rattle.loom_undo.proofs.HistoryLemmas.{redo_made, redo_keeps, redo_moves, redo_leads, redo_none, ahead_at}
use Rattle.loom_undo.proofs.history.History.redo.Goals as goal

pub returns-then-standing-len-clause-nothing : goal.returns-then-standing-len-clause-nothing
returns-then-standing-len-clause-nothing c came =
    redo_none c.self.inside.kept c.self.inside.standing c.self.inside.project c.args.self.now c.self.view_is
    (slice_get_past c.self.inside.kept c.self.inside.standing (omega (arith, c.len.ensures)))

pub make_again-requires : goal.make_again-requires
make_again-requires c =
    let there = ahead_at c.self.inside.kept c.as_slice.result.now c.self.inside.standing c.index-as_slice-standing.result c.as_slice.ensures c.self.invariant.stand (λ same. c.if-standing-len.false (same ∙ sym c.len.ensures)) c.index-as_slice-standing.is in
    redo_made c.self.inside.kept c.self.inside.standing c.index-as_slice-standing.result c.self.inside.project c.self.invariant there

pub invariant_of-self-2 : goal.invariant_of-self-2
invariant_of-self-2 c =
    let there = ahead_at c.self.inside.kept c.as_slice.result.now c.self.inside.standing c.index-as_slice-standing.result c.as_slice.ensures c.self.invariant.stand (λ same. c.if-standing-len.false (same ∙ sym c.len.ensures)) c.index-as_slice-standing.is in
    redo_keeps c.self.inside.kept c.self.inside.standing c.index-as_slice-standing.result c.self.inside.project c.make_again.new.project c.self.invariant there c.in_ok-make_again.ensures.made

pub returns-clause-redone : goal.returns-clause-redone
returns-clause-redone c =
    let there = ahead_at c.self.inside.kept c.as_slice.result.now c.self.inside.standing c.index-as_slice-standing.result c.as_slice.ensures c.self.invariant.stand (λ same. c.if-standing-len.false (same ∙ sym c.len.ensures)) c.index-as_slice-standing.is in
    redo_moves c.self.inside.kept c.self.inside.standing c.index-as_slice-standing.result c.self.inside.project c.make_again.new.project c.args.self.now c.self.view_is c.self.invariant there c.in_ok-make_again.ensures.made

pub returns-clause-leads : goal.returns-clause-leads
returns-clause-leads c =
    let there = ahead_at c.self.inside.kept c.as_slice.result.now c.self.inside.standing c.index-as_slice-standing.result c.as_slice.ensures c.self.invariant.stand (λ same. c.if-standing-len.false (same ∙ sym c.len.ensures)) c.index-as_slice-standing.is in
    redo_leads c.self.inside.kept c.self.inside.standing c.index-as_slice-standing.result c.self.inside.project c.make_again.new.project c.args.self.now c.self.view_is c.self.invariant there c.in_ok-make_again.ensures.made
