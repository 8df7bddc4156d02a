use Rattle.std.proofs.Common.{ℕ, List, ◌≡◌, ◌<◌, max, min, set, length, subst, sym, ◌∙◌, arith}
use Rattle.loom_audit.specs.Classes.{merged, IsForestOf}
use Rattle.loom_audit.proofs.Forests.{joined_forest}
use Rattle.loom_audit.proofs.union_find.join.Goals as goal

pub returns-clause-joins : goal.returns-clause-joins
returns-clause-joins c = λ classes forest.
    let (mid, start, start_root) = c.root-start.ensures.root classes forest in
    let (last, finish, finish_root) = c.root-finish.ensures.root classes mid in
    let a : ℕ = c.root-start.result in
    let b : ℕ = c.root-finish.result in
    let parents : List ℕ = c.root-finish.new.parents in
    let greater : max a b ≡ c.max.result = omega (arith, c.max.ensures) in
    let lesser : min a b ≡ c.min.result = omega (arith, c.min.ensures) in
    let a_in : a < length parents = omega (arith, c.root-start.ensures.within, c.root-start.ensures.count, c.root-finish.ensures.count) in
    let b_in : b < length parents = omega (arith, c.root-finish.ensures.within, c.root-finish.ensures.count) in (
      λ same. c.if-start-finish.false (start ∙ (same ∙ sym finish)),
      subst (λ (t : ℕ × ℕ × ℕ × ℕ). IsForestOf (λ x. merged t.0 t.1 (classes x)) (set parents t.2 t.3)) (λ i. (start i, finish i, greater i, lesser i))
          (joined_forest classes parents a b a_in b_in c.if-start-finish.false start_root finish_root last),
    )
