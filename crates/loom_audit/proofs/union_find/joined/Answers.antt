use Rattle.std.proofs.Common.{ℕ, List, ◌∷◌, ◌++◌, ◌≡◌, ◌-◌, length, take, drop, get_or, sym, ap, ◌∙◌, subst, arith}
use Rattle.loom_audit.specs.Classes.{class_of, JoinsApart, AreParents, IsForestOf}
use Rattle.loom_audit.proofs.Forests.{written_back, step_down, apart_later}
use Rattle.loom_audit.proofs.union_find.joined.Goals as goal

pub returns-then-not-join : goal.returns-then-not-join
returns-then-not-join c = λ apart.
    let links : List (ℕ × ℕ) = c.args.links.now in
    let k : ℕ = c.loop-k.k in
    let rest : List (ℕ × ℕ) = drop k links in
    let forest = subst (λ (ps : List ℕ). IsForestOf (class_of rest) ps) (sym c.deref_mut.ensures.value) c.loop-k.invariant.3 in
    let here = subst JoinsApart (step_down links k c.loop-k-test.true c.loop-k.auto.k) (apart_later (k - 1) links apart) in
    here.0 (c.if-not-join.ensures.joins (class_of rest) forest)

pub loop-k-preserved : goal.loop-k-preserved
loop-k-preserved c =
    let links : List (ℕ × ℕ) = c.args.links.now in
    let k : ℕ = c.loop-k.k in
    let link : ℕ × ℕ = get_or links (k - 1) (0, 0) in
    let rest : List (ℕ × ℕ) = drop k links in
    let split : drop (k - 1) links ≡ link ∷ rest = step_down links k c.loop-k-test.true c.loop-k.auto.k in
    let (apart, count, below, before) = c.loop-k.invariant in
    let forest = subst (λ (ps : List ℕ). IsForestOf (class_of rest) ps) (sym c.deref_mut.ensures.value) before in
    let (new, after) = c.if-not-join.ensures.joins (class_of rest) forest in
    let kept : length c.join.new.parents ≡ length c.loop-k.parents.items = c.if-not-join.ensures.count ∙ ap length c.deref_mut.ensures.value in
    let taken : List ℕ = take c.loop-k.parents.len (c.join.new.parents ++ drop (length c.join.new.parents) c.loop-k.parents.items) in
    let now : taken ≡ c.join.new.parents = written_back c.join.new.parents c.loop-k.parents.items c.loop-k.parents.len (omega (arith, kept, c.loop-k.parents.ok.0)) in (
      subst JoinsApart (sym split) (new, apart),
      ap length now ∙ (kept ∙ count),
      subst AreParents (sym now) c.if-not-join.ensures.parents,
      subst (λ (ls : List (ℕ × ℕ)). IsForestOf (class_of ls) taken) (sym split) (subst (λ (ps : List ℕ). IsForestOf (class_of (link ∷ rest)) ps) (sym now) after),
    )
