use Rattle.std.proofs.Common.{false, get_or, ap, ◌∙◌, sym, refl}
use Rattle.loom_topology.specs.Found.{is_marked, view_of_found}
use Rattle.loom_topology.proofs.Found.{marked-more, marked-skip}
use Rattle.loom_topology.proofs.spreading.Found.rising.Goals as goal
use Rattle.loom_topology.proofs.spreading.Found.rising.Goals.{then-is_marked+in_ok-push, else-is_marked}

pub loop-number-preserved : goal.loop-number-preserved
loop-number-preserved c =
    let items = ap (λ l. get_or l c.loop-number.number false) (sym c.deref-is_marked-items.ensures.value) in
    elim c.if-is_marked.branch [
      | then-is_marked+in_ok-push w ↦
          marked-more (λ v. v.0) (is_marked (view_of_found c.args.self.now)) c.loop-number.number (record { 0 = c.loop-number.number })
          c.loop-number.list c.if-is_marked.list c.loop-number.invariant (w.list-is ∙ w.in_ok-push.ensures.ok) refl
          (items ∙ w.if-is_marked.true)
      | else-is_marked w ↦
          marked-skip (λ v. v.0) (is_marked (view_of_found c.args.self.now)) c.loop-number.number c.loop-number.list c.if-is_marked.list
          c.loop-number.invariant w.list-is (items ∙ w.if-is_marked.false)
    ]
