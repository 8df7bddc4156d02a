-- The condition that is worked out for a formula is the formula's.
use Rattle.std.proofs.Common.{◌≡◌, ℕ, ◌+◌, Bool, true, false, cond, not, ◌&&◌, ◌||◌, ◌==◌, List, [], ◌∷◌, map, refl, sym, ap, subst, ◌∙◌, arith}
use Rattle.std.specs.List.{list_all, list_any, count_by}
use Rattle.std.proofs.lemmas.List.Sums.{sum_by-cons}
use Rattle.std.proofs.lemmas.Bool.Decides.{nat_tests}
use Rattle.loom_formula.specs.declared.formula.Formula.{Formula}
use Rattle.loom_formula.specs.declared.formula.Formula.TheOpen.{Formula-F, Members-F}
use Rattle.loom_formula.specs.declared.formula.Formula.TheViews.{roll-Formula, roll-Members}
use Rattle.loom_formula.specs.declared.formula.Formula.TheFolds.{ind-Formula, map-Formula, map-Members, fold-Members, fold-roll-Formula, fold-roll-Members}
use Rattle.loom_formula.specs.declared.formula.Members.{Members}
use Rattle.loom_formula.specs.Formula.{holds_step, is_chosen}
use Rattle.loom_rows.specs.Condition.{Meaning, both, either}
use Rattle.loom_rows.specs.Formulas.{Work, never, always, work_step, work_of, meaning_of, all_work, any_work, one_work, one_next, none_next}
use Rattle.loom_rows.proofs.Members.{and_assoc, and_unit, or_assoc, or_unit}

-- the values of the works' conditions under a choice
abbrev values_at : (ℕ → Bool) → List Work → List Bool
values_at c works = map (λ work. work.meaning c) works

all_value : (f : Meaning) (works : List Work) (c : ℕ → Bool) → (all_work f works).meaning c ≡ (f c && list_all (λ b. b) (values_at c works))
all_value f [] c = sym (and_unit (f c))
all_value f (w ∷ ws) c = all_value (both f w.meaning) ws c ∙ sym (and_assoc (f c) (w.meaning c) (list_all (λ b. b) (values_at c ws)))

any_value : (f : Meaning) (works : List Work) (c : ℕ → Bool) → (any_work f works).meaning c ≡ (f c || list_any (λ b. b) (values_at c works))
any_value f [] c = sym (or_unit (f c))
any_value f (w ∷ ws) c = any_value (either f w.meaning) ws c ∙ sym (or_assoc (f c) (w.meaning c) (list_any (λ b. b) (values_at c ws)))

-- exactly one of all holds, where n of those that are left do
abbrev one_left : Bool → Bool → ℕ → Bool
one_left one none n = (one && n == 0) || (none && n == 1)

one_end : (one none : Bool) → one ≡ one_left one none 0
one_end true none = refl
one_end false true = refl
one_end false false = refl

one_step : (one none h : Bool) (n : ℕ) → one_left ((one && not h) || (none && h)) (none && not h) n ≡ one_left one none (cond h 1 0 + n)
one_step true true true n = grind (arith, nat_tests)
one_step true true false n = grind (arith, nat_tests)
one_step true false true n = grind (arith, nat_tests)
one_step true false false n = grind (arith, nat_tests)
one_step false true true n = grind (arith, nat_tests)
one_step false true false n = grind (arith, nat_tests)
one_step false false true n = grind (arith, nat_tests)
one_step false false false n = grind (arith, nat_tests)

one_value : (one none : Meaning) (works : List Work) (c : ℕ → Bool) → (one_work one none works).meaning c ≡ one_left (one c) (none c) (count_by (λ b. b) (values_at c works))
one_value one none [] c = one_end (one c) (none c)
one_value one none (w ∷ ws) c =
    one_value (one_next one none w.meaning) (none_next none w.meaning) ws c
    ∙ one_step (one c) (none c) (w.meaning c) (count_by (λ b. b) (values_at c ws))
    ∙ sym (ap (one_left (one c) (none c)) (sum_by-cons (λ b. cond b 1 0) (w.meaning c) (values_at c ws)))

module _ (options : List (List ℕ)) where
  abbrev works_of : Members → List Work
  works_of = fold-Members Work (List Work) (work_step options) (λ m. m.list)

  abbrev truths_of : (ℕ → Bool) → Members → List Bool
  truths_of c = fold-Members Bool (List Bool) (holds_step (is_chosen options c)) (λ m. m.list)

  abbrev IsWorked : Formula → Type 0
  IsWorked formula = (c : ℕ → Bool) → (work_of options formula).meaning c ≡ meaning_of options formula c

  abbrev AreWorked : Members → Type 0
  AreWorked members = (c : ℕ → Bool) → values_at c (works_of members) ≡ truths_of c members

  -- a formula with what is known of its members
  abbrev Layer : Type 0
  Layer = Formula-F ((f : Formula) × IsWorked f) ((m : Members) × AreWorked m)

  abbrev layer_of : Layer → Formula-F Formula Members
  layer_of y = map-Formula ((f : Formula) × IsWorked f) ((m : Members) × AreWorked m) Formula Members (λ e. e.0) (λ e. e.0) y

  worked_layer : (x : Formula-F Formula Members) (c : ℕ → Bool) → (work_of options (roll-Formula x)).meaning c ≡ (work_step options (map-Formula Formula Members Work (List Work) (work_of options) works_of x)).meaning c
  worked_layer x c = ap (λ w. w.meaning c) (fold-roll-Formula Work (List Work) (work_step options) (λ m. m.list) x)

  true_layer : (x : Formula-F Formula Members) (c : ℕ → Bool) → meaning_of options (roll-Formula x) c ≡ holds_step (is_chosen options c) (map-Formula Formula Members Bool (List Bool) (λ f. meaning_of options f c) (truths_of c) x)
  true_layer x c = fold-roll-Formula Bool (List Bool) (holds_step (is_chosen options c)) (λ m. m.list) x

  same_layer : (y : Layer) (c : ℕ → Bool)
      → (work_step options (map-Formula Formula Members Work (List Work) (work_of options) works_of (layer_of y))).meaning c ≡ holds_step (is_chosen options c) (map-Formula Formula Members Bool (List Bool) (λ f. meaning_of options f c) (truths_of c) (layer_of y))
  same_layer Formula-F.Always c = refl
  same_layer Formula-F.Never c = refl
  same_layer (Formula-F.Is name) c = refl
  same_layer (Formula-F.Not inner) c = ap not (inner.1 c)
  same_layer (Formula-F.And members) c = all_value always (works_of members.0) c ∙ ap (list_all (λ b. b)) (members.1 c)
  same_layer (Formula-F.Or members) c = any_value never (works_of members.0) c ∙ ap (list_any (λ b. b)) (members.1 c)
  same_layer (Formula-F.One members) c = one_value never always (works_of members.0) c ∙ ap (λ bs. count_by (λ b. b) bs == 1) (members.1 c)

  of_layer : (y : Layer) → IsWorked (roll-Formula (layer_of y))
  of_layer y c = worked_layer (layer_of y) c ∙ same_layer y c ∙ sym (true_layer (layer_of y) c)

  same_list : (es : List ((f : Formula) × IsWorked f)) (c : ℕ → Bool) → values_at c (map (work_of options) (map (λ e. e.0) es)) ≡ map (λ f. meaning_of options f c) (map (λ e. e.0) es)
  same_list [] c = refl
  same_list (e ∷ es) c = λ i. e.1 c i ∷ same_list es c i

  of_members : (y : Members-F ((f : Formula) × IsWorked f) ((m : Members) × AreWorked m)) → AreWorked (roll-Members (map-Members ((f : Formula) × IsWorked f) ((m : Members) × AreWorked m) Formula Members (λ e. e.0) (λ e. e.0) y))
  of_members y c =
      let x = map-Members ((f : Formula) × IsWorked f) ((m : Members) × AreWorked m) Formula Members (λ e. e.0) (λ e. e.0) y in
      ap (values_at c) (fold-roll-Members Work (List Work) (work_step options) (λ m. m.list) x)
      ∙ same_list y.list c
      ∙ sym (fold-roll-Members Bool (List Bool) (holds_step (is_chosen options c)) (λ m. m.list) x)

  -- what the work of a formula makes in the end is when it holds
  pub work_meaning : (formula : Formula) → IsWorked formula
  work_meaning = ind-Formula IsWorked AreWorked
      (λ x y is. subst (λ (z : Formula-F Formula Members). IsWorked (roll-Formula z)) is (of_layer y))
      (λ x y is. subst (λ (z : Members-F Formula Members). AreWorked (roll-Members z)) is (of_members y))
