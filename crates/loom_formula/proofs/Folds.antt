-- What the folds over a formula are at each variant.
use Rattle.std.proofs.Common.{◌≡◌, ℕ, ◌+◌, Bool, true, false, not, ◌==◌, List, [], ◌∷◌, map, refl, sym, ap, ◌∙◌, if◌then◌else◌}
use Rattle.std.specs.List.{list_all, list_any, count_by}
use Rattle.std.proofs.lemmas.List.Folds.{list_all-map, fold-map}
use Rattle.loom_formula.specs.declared.formula.Formula.{Formula}
use Rattle.loom_formula.specs.declared.formula.Formula.TheVariants.{Always, Never, Is, Not, And, Or, One, rolls-Always, rolls-Never, rolls-Is, rolls-Not, rolls-And, rolls-Or, rolls-One}
use Rattle.loom_formula.specs.declared.formula.Formula.TheOpen.{Formula-F}
use Rattle.loom_formula.specs.declared.formula.Formula.TheFolds.{fold-Members, fold-roll-Formula, fold_out-Members}
use Rattle.loom_formula.specs.declared.formula.Members.{Members}
use Rattle.loom_formula.specs.Formula.{members_of, holds_step, holds_where}

list_any-map : {X Y : Type 0} (p : X → Bool) (h : Y → X) (ys : List Y) → list_any p (map h ys) ≡ list_any (λ y. p (h y)) ys
list_any-map p h [] = refl
list_any-map p h (y ∷ ys) = rw (list_any-map p h ys) refl

count_by-map : {X Y : Type 0} (p : X → Bool) (h : Y → X) (ys : List Y) → count_by p (map h ys) ≡ count_by (λ y. p (h y)) ys
count_by-map p h ys = fold-map (λ total x. total + (if p x then 1 else 0)) h 0 ys

module _ (truth : List ℕ → Bool) where
  pub holds_where-Always : holds_where truth Always ≡ true
  holds_where-Always = ap (holds_where truth) (sym rolls-Always) ∙ fold-roll-Formula Bool (List Bool) (holds_step truth) (λ m. m.list) Formula-F.Always

  pub holds_where-Never : holds_where truth Never ≡ false
  holds_where-Never = ap (holds_where truth) (sym rolls-Never) ∙ fold-roll-Formula Bool (List Bool) (holds_step truth) (λ m. m.list) Formula-F.Never

  pub holds_where-Is : (name : List ℕ) → holds_where truth (Is name) ≡ truth name
  holds_where-Is name = ap (holds_where truth) (sym (rolls-Is name)) ∙ fold-roll-Formula Bool (List Bool) (holds_step truth) (λ m. m.list) (Formula-F.Is name)

  pub holds_where-Not : (inner : Formula) → holds_where truth (Not inner) ≡ not (holds_where truth inner)
  holds_where-Not inner = ap (holds_where truth) (sym (rolls-Not inner)) ∙ fold-roll-Formula Bool (List Bool) (holds_step truth) (λ m. m.list) (Formula-F.Not inner)

module _ (truth : List ℕ → Bool) (members : Members) where
  -- the values of the members
  values_of : fold-Members Bool (List Bool) (holds_step truth) (λ m. m.list) members ≡ map (holds_where truth) (members_of members)
  values_of = fold_out-Members Bool (List Bool) (holds_step truth) (λ m. m.list) members

  pub holds_where-And : holds_where truth (And members) ≡ list_all (holds_where truth) (members_of members)
  holds_where-And =
      let rolled = ap (holds_where truth) (sym (rolls-And members)) in
      let folded = fold-roll-Formula Bool (List Bool) (holds_step truth) (λ m. m.list) (Formula-F.And members) in
      rolled ∙ folded ∙ ap (list_all (λ m. m)) values_of ∙ list_all-map (λ m. m) (holds_where truth) (members_of members)

  pub holds_where-Or : holds_where truth (Or members) ≡ list_any (holds_where truth) (members_of members)
  holds_where-Or =
      let rolled = ap (holds_where truth) (sym (rolls-Or members)) in
      let folded = fold-roll-Formula Bool (List Bool) (holds_step truth) (λ m. m.list) (Formula-F.Or members) in
      rolled ∙ folded ∙ ap (list_any (λ m. m)) values_of ∙ list_any-map (λ m. m) (holds_where truth) (members_of members)

  pub holds_where-One : holds_where truth (One members) ≡ (count_by (holds_where truth) (members_of members) == 1)
  holds_where-One =
      let rolled = ap (holds_where truth) (sym (rolls-One members)) in
      let folded = fold-roll-Formula Bool (List Bool) (holds_step truth) (λ m. m.list) (Formula-F.One members) in
      rolled ∙ folded ∙ ap (λ values. count_by (λ m. m) values == 1) values_of
      ∙ ap (λ count. count == 1) (count_by-map (λ m. m) (holds_where truth) (members_of members))
