use Rattle.loom_formula.specs.Formula.{members_of}
use Rattle.loom_rows.proofs.Members.{AllSoFar, AnySoFar, OneSoFar}
use Rattle.loom_rows.proofs.rows.Rows.+worked.Given as goal

abbrev pub invariant-all_members-loop-member : goal.invariant-all_members-loop-member
invariant-all_members-loop-member l = AllSoFar l.options (members_of l.members) l.member-index l.fn.self l.self l.all

abbrev pub invariant-some_member-loop-member : goal.invariant-some_member-loop-member
invariant-some_member-loop-member l = AnySoFar l.options (members_of l.members) l.member-index l.fn.self l.self l.any

abbrev pub invariant-one_member-loop-member : goal.invariant-one_member-loop-member
invariant-one_member-loop-member l = OneSoFar l.options (members_of l.members) l.member-index l.fn.self l.self l.one l.none
