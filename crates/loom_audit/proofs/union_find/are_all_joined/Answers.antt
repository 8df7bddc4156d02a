use Rattle.std.proofs.Common.{ℕ, List, ◌≡◌, ◌<◌, ◌++◌, length, take, drop, get_or, inl, inr, refl, subst, sym, ap, ◌∙◌, arith}
use Rattle.std.proofs.lemmas.Bool.{cases_eq, false≢true}
use Rattle.std.proofs.lemmas.List.Elements.{Contains-get_or}
use Rattle.loom_audit.specs.Classes.{AreParents, IsForestOf}
use Rattle.loom_audit.proofs.Forests.{written_back, in_class}
use Rattle.loom_audit.proofs.union_find.are_all_joined.Goals as goal

pub returns-then-root-hub : goal.returns-then-root-hub
returns-then-root-hub c = λ classes forest.
    let links : List (ℕ × ℕ) = c.args.links.now in
    let at : ℕ = c.loop-link.link-index in
    let (now, first_is, each) = c.loop-link.invariant.2 classes forest in
    let (after, is, own) = c.root.ensures.root classes (subst (λ (ps : List ℕ). IsForestOf classes ps) (sym c.deref_mut-in-loop-link.ensures.value) now) in
    let inside : at < length links = c.loop-link-test.true in (
      λ never. absurd (false≢true never),
      λ one. absurd (c.if-root-hub.true (is
          ∙ (one (get_or links at (0, 0)) (get_or links 0 (0, 0)) (Contains-get_or links at (0, 0) inside) (Contains-get_or links 0 (0, 0) (omega (arith, inside)))
          ∙ first_is))),
    )

pub loop-link-preserved : goal.loop-link-preserved
loop-link-preserved c =
    let links : List (ℕ × ℕ) = c.args.links.now in
    let at : ℕ = c.loop-link.link-index in
    let (count, below, classes_kept) = c.loop-link.invariant in
    let kept : length c.root.new.parents ≡ length c.loop-link.parents.items = c.root.ensures.count ∙ ap length c.deref_mut-in-loop-link.ensures.value in
    let taken : List ℕ = take c.loop-link.parents.len (c.root.new.parents ++ drop (length c.root.new.parents) c.loop-link.parents.items) in
    let now : taken ≡ c.root.new.parents =
    written_back c.root.new.parents c.loop-link.parents.items c.loop-link.parents.len (omega (arith, kept, c.loop-link.parents.ok.0)) in (
      ap length now ∙ (kept ∙ count),
      subst AreParents (sym now) c.root.ensures.parents,
      λ classes forest.
          let (before, first_is, each) = classes_kept classes forest in
          let (after, is, own) = c.root.ensures.root classes (subst (λ (ps : List ℕ). IsForestOf classes ps) (sym c.deref_mut-in-loop-link.ensures.value) before) in (
            subst (λ (ps : List ℕ). IsForestOf classes ps) (sym now) after,
            first_is,
            λ k less. elim (cases_eq k at) [
              | inl e ↦ ap (λ (i : ℕ). classes (get_or links i (0, 0)).0) e ∙ (sym is ∙ c.if-root-hub.false)
              | inr other ↦ each k (omega (arith, less, other))
            ],
          ),
    )

pub returns : goal.returns
returns c = λ classes forest.
    let links : List (ℕ × ℕ) = c.args.links.now in
    let (now, first_is, each) = c.loop-link.invariant.2 classes forest in
    let all = in_class classes c.root-hub.result links c.loop-link.link-index c.loop-link-test.false each in
    (λ _ l k l_in k_in. all l l_in ∙ sym (all k k_in), λ _. refl)
