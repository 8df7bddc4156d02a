use Rattle.std.proofs.Common.{◌≡◌, length, drop}
use Rattle.loom_audit.specs.Classes.{class_of, JoinsApart, AreParents, IsForestOf}
use Rattle.loom_audit.proofs.union_find.joined.Given as goal

abbrev pub invariant-loop-k : goal.invariant-loop-k
invariant-loop-k l =
    JoinsApart (drop l.k l.links) × (length l.parents.items ≡ l.point_count)
    × AreParents l.parents.items × IsForestOf (class_of (drop l.k l.links)) l.parents.items
