use Rattle.std.proofs.Common.{ℕ, ◌<◌, ◌≡◌, List, length, get_or, length-set, ◌∙◌, arith}
use Rattle.loom_audit.proofs.Forests.{lowered_parents, rehung_forest, two_up, two_below}
use Rattle.loom_audit.proofs.union_find.root.Goals as goal

pub loop-parents-preserved : goal.loop-parents-preserved
loop-parents-preserved c =
    let parents : List ℕ = c.loop-parents.parents in
    let at : ℕ = c.loop-parents.at in
    let up : ℕ = get_or parents (get_or parents at 0) 0 in
    let (count, inside, below, classes_kept) = c.loop-parents.invariant in
    let within : at < length parents = omega (arith, count, inside) in
    let lower : up < at = two_below parents at below c.loop-parents-test.true in (
      length-set parents at up ∙ count,
      omega (arith, lower, inside),
      lowered_parents parents at up within (omega (arith, lower)) below,
      λ classes forest.
          let (now, same) = classes_kept classes forest in (
            rehung_forest classes parents at up within (two_up classes parents at within below now) lower now,
            two_up classes parents at within below now ∙ same,
          ),
    )
