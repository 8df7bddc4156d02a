use Rattle.std.proofs.Common.{◌≡◌, suc, arith}
use Rattle.loom_undo.proofs.HistoryLemmas.{undo_sound, undo_keeps, undo_moves, undo_leads, undo_none, stands_is}
use Rattle.loom_undo.proofs.history.History.undo.Goals as goal

pub returns-in_default-clause-nothing : goal.returns-in_default-clause-nothing
returns-in_default-clause-nothing c came =
    undo_none c.self.inside.kept c.self.inside.standing c.self.inside.project c.args.self.now c.self.view_is (omega (arith, c.in_default.ensures))

pub take_back-requires : goal.take_back-requires
take_back-requires c =
    let one : c.self.inside.standing ≡ suc c.in-Some.standing = omega (arith, c.in-Some.ensures.0, c.in-Some.ensures.1) in
    let there = stands_is c.self.inside.kept c.as_slice.result.now c.self.inside.standing c.in-Some.standing c.index-as_slice-standing.result c.as_slice.ensures one c.self.invariant.stand c.index-as_slice-standing.is in
    undo_sound c.self.inside.kept c.self.inside.standing c.in-Some.standing c.index-as_slice-standing.result c.self.inside.project one c.self.invariant there

pub invariant_of-self-2 : goal.invariant_of-self-2
invariant_of-self-2 c =
    let one : c.self.inside.standing ≡ suc c.in-Some.standing = omega (arith, c.in-Some.ensures.0, c.in-Some.ensures.1) in
    let there = stands_is c.self.inside.kept c.as_slice.result.now c.self.inside.standing c.in-Some.standing c.index-as_slice-standing.result c.as_slice.ensures one c.self.invariant.stand c.index-as_slice-standing.is in
    undo_keeps c.self.inside.kept c.self.inside.standing c.in-Some.standing c.index-as_slice-standing.result c.self.inside.project c.take_back.new.project one c.self.invariant there c.in_ok-take_back.ensures.taken

pub returns-clause-undone : goal.returns-clause-undone
returns-clause-undone c =
    let one : c.self.inside.standing ≡ suc c.in-Some.standing = omega (arith, c.in-Some.ensures.0, c.in-Some.ensures.1) in
    let there = stands_is c.self.inside.kept c.as_slice.result.now c.self.inside.standing c.in-Some.standing c.index-as_slice-standing.result c.as_slice.ensures one c.self.invariant.stand c.index-as_slice-standing.is in
    undo_moves c.self.inside.kept c.self.inside.standing c.in-Some.standing c.index-as_slice-standing.result c.self.inside.project c.take_back.new.project c.args.self.now c.self.view_is one c.self.invariant there c.in_ok-take_back.ensures.taken

pub returns-clause-leads : goal.returns-clause-leads
returns-clause-leads c =
    let one : c.self.inside.standing ≡ suc c.in-Some.standing = omega (arith, c.in-Some.ensures.0, c.in-Some.ensures.1) in
    let there = stands_is c.self.inside.kept c.as_slice.result.now c.self.inside.standing c.in-Some.standing c.index-as_slice-standing.result c.as_slice.ensures one c.self.invariant.stand c.index-as_slice-standing.is in
    undo_leads c.self.inside.kept c.self.inside.standing c.in-Some.standing c.index-as_slice-standing.result c.self.inside.project c.take_back.new.project c.args.self.now c.self.view_is one c.self.invariant there c.in_ok-take_back.ensures.taken
