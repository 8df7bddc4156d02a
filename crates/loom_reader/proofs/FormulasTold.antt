-- What is shown of a formula is read as that formula, and is plain.
use Rattle.std.proofs.Common.{◌≡◌, ℕ, zero, suc, ◌+◌, ◌≤◌, max, fold, sum, List, [], ◌∷◌, Bool, true, nat_le, length, decimal, Some, None, option_and_then, Ok, map, codes, refl, ap, ap₂, ◌∙◌, sym, subst, arith, if◌then◌else◌}
use Rattle.std.specs.List.{AllByRecursion, list_all}
use Rattle.std.proofs.lemmas.Bool.{and_parts, le-leb}
use Rattle.std.proofs.lemmas.List.{length-map}
use Rattle.std.proofs.lemmas.List.Sums.{sum_by-cons}
use Rattle.json.proofs.Printed.Utf8.{are_ascii}
use Rattle.serde_json.specs.Data.{Data, string}
use Rattle.serde_json.specs.View.{items_of}
use Rattle.loom_base.specs.First.{◌>>=◌}
use Rattle.loom_base.specs.Names.{is_name}
use Rattle.loom_base.specs.declared.limits.TheConstants.{MAX_ELEMENTS}
use Rattle.loom_formula.specs.declared.formula.Formula.{Formula}
use Rattle.loom_formula.specs.declared.formula.Formula.TheVariants.{Always, Never, Is, Not, And, Or, One, rolls-Always, rolls-Never, rolls-Is, rolls-Not, rolls-And, rolls-Or, rolls-One}
use Rattle.loom_formula.specs.declared.formula.Formula.TheOpen.{Formula-F, Members-F}
use Rattle.loom_formula.specs.declared.formula.Formula.TheViews.{roll-Formula, roll-Members, out-roll-Members, roll-out-Members}
use Rattle.loom_formula.specs.declared.formula.Formula.TheFolds.{ind-Formula, map-Formula, map-Members, fold-Members, fold-roll-Formula, fold_out-Members}
use Rattle.loom_formula.specs.declared.formula.Members.{Members}
use Rattle.loom_formula.specs.Formula.{members_of, node_step, nodes_of, depth_step, depth_of, greatest}
use Rattle.loom_json.specs.Fields.{array_of}
use Rattle.loom_json.specs.Forms.{required, under, each}
use Rattle.loom_answer.specs.Projects.{formula_step, formula_shown}
use Rattle.loom_reader.specs.declared.formula.Connective.{Connective}
use Rattle.loom_reader.specs.declared.formula.Connective.TheVariants.{Negation, Conjunction, Disjunction, ExactlyOne}
use Rattle.loom_reader.specs.Formula.{connective_of, may_have, heading_of, joined, formula_form, compound_form}
use Rattle.loom_reader.proofs.Formulas.{formula_form-items}
use Rattle.loom_reader.proofs.Plain.{IsPlain, ItemsArePlain}
use Rattle.loom_reader.proofs.Told.{Told, name_ascii}
use Rattle.loom_reader.specs.Written.{named_step, has_names}
use Rattle.loom_reader.proofs.ToldParts.{IsToldFormula}

-- a formula with names and not too many nodes is read again, and is shown plainly
pub record Good (f : Formula) : Type 0 where
  some : 1 ≤ nodes_of f
  again : has_names f ≡ true → nodes_of f ≤ MAX_ELEMENTS → formula_form (formula_shown f) ≡ Ok f
  plain : has_names f ≡ true → (n : ℕ) → depth_of f ≤ n → IsPlain (formula_shown f) n

abbrev AllGood : Members → Type 0
AllGood ms = AllByRecursion Good (members_of ms)

-- ---- lists of formulas

members_again : (position : ℕ) (xs : List Formula) → list_all (λ told. told) (map has_names xs) ≡ true → sum (map nodes_of xs) ≤ MAX_ELEMENTS → AllByRecursion Good xs → each formula_form position (map formula_shown xs) ≡ Ok xs
members_again position [] told few good = refl
members_again position (x ∷ xs) told few good =
    let p = and_parts (has_names x) (list_all (λ told. told) (map has_names xs)) told in
    let parts = sum_by-cons (λ n. n) (nodes_of x) (map nodes_of xs) in
    ap₂ (λ first rest. under (decimal position) first >>= λ y. rest >>= λ ys. Ok (y ∷ ys)) (good.0.again p.0 (omega (arith, parts, few))) (members_again (suc position) xs p.1 (omega (arith, parts, few)) good.1)

-- each formula has a node
length_within : (xs : List Formula) → AllByRecursion Good xs → length xs ≤ sum (map nodes_of xs)
length_within [] good = omega arith
length_within (x ∷ xs) good = omega (arith, sum_by-cons (λ n. n) (nodes_of x) (map nodes_of xs), good.0.some, length_within xs good.1)

greatest_first : (found n : ℕ) (ns : List ℕ) → fold max found ns ≤ n → found ≤ n
greatest_first found n [] few = few
greatest_first found n (m ∷ ns) few = omega (arith, greatest_first (max found m) n ns few)

members_plain : (found n : ℕ) (xs : List Formula) → list_all (λ told. told) (map has_names xs) ≡ true → fold max found (map depth_of xs) ≤ n → AllByRecursion Good xs → ItemsArePlain (items_of (map formula_shown xs)) n
members_plain found n [] told few good = tt
members_plain found n (x ∷ xs) told few good =
    let p = and_parts (has_names x) (list_all (λ told. told) (map has_names xs)) told in
    let deep : depth_of x ≤ n = omega (arith, greatest_first (max found (depth_of x)) n (map depth_of xs) few) in
    (good.0.plain p.0 n deep, members_plain (max found (depth_of x)) n xs p.1 few good.1)

-- ---- a word with formulas behind it

heading_found : (word : List ℕ) (c : Connective) (ds : List Data) → connective_of word ≡ Some c → may_have c (suc (length ds)) ≡ true → heading_of (string word ∷ ds) ≡ Some c
heading_found word c ds known may =
    ap (option_and_then (λ connective. if may_have connective (suc (length ds)) then Some connective else None)) known
    ∙ ap (λ b. if b then Some c else None) may

compound_again : (word : List ℕ) (c : Connective) (xs : List Formula) → connective_of word ≡ Some c → may_have c (suc (length (map formula_shown xs))) ≡ true → each formula_form 1 (map formula_shown xs) ≡ Ok xs
    → formula_form (array_of (string word ∷ map formula_shown xs)) ≡ joined c xs
unfolding compound_form
compound_again word c xs known may again =
    formula_form-items (string word ∷ map formula_shown xs)
    ∙ ap (λ found. required found >>= λ connective. each formula_form 1 (map formula_shown xs) >>= joined connective) (heading_found word c (map formula_shown xs) known may)
    ∙ ap (λ found. found >>= joined c) again

compound_plain : (word : List ℕ) (xs : List Formula) (n : ℕ) → are_ascii word ≡ true → greatest (map depth_of xs) + 1 ≤ n → list_all (λ told. told) (map has_names xs) ≡ true → AllByRecursion Good xs → IsPlain (array_of (string word ∷ map formula_shown xs)) n
compound_plain word xs zero ascii few told good = absurd (omega (arith, few))
compound_plain word xs (suc n) ascii few told good = (ascii, members_plain 0 n xs told (omega (arith, few)) good)

-- a formula that is a word and its members is good where its members are
many_good : (f : Formula) (word : List ℕ) (c : Connective) (xs : List Formula)
    → formula_shown f ≡ array_of (string word ∷ map formula_shown xs)
    → has_names f ≡ list_all (λ told. told) (map has_names xs)
    → depth_of f ≡ greatest (map depth_of xs) + 1
    → nodes_of f ≡ sum (map nodes_of xs) + 1
    → connective_of word ≡ Some c → ((count : ℕ) → may_have c count ≡ nat_le count MAX_ELEMENTS) → are_ascii word ≡ true → joined c xs ≡ Ok f → AllByRecursion Good xs → Good f
many_good f word c xs shown tells deep counts known may ascii joins good = record {
  some = omega (arith, counts);
  again = λ told few.
      let short : suc (length (map formula_shown xs)) ≤ MAX_ELEMENTS = omega (arith, length-map xs formula_shown, length_within xs good, counts, few) in
      let has : may_have c (suc (length (map formula_shown xs))) ≡ true = may _ ∙ le-leb _ MAX_ELEMENTS short in
      ap formula_form shown ∙ compound_again word c xs known has (members_again 1 xs (sym tells ∙ told) (omega (arith, counts, few)) good) ∙ joins;
  plain = λ told n shallow. subst (λ d. IsPlain d n) (sym shown) (compound_plain word xs n ascii (omega (arith, deep, shallow)) (sym tells ∙ told) good);
}

-- ---- each variant

abbrev data_in : Members → List Data
data_in = fold-Members Data (List Data) formula_step (λ m. m.list)

abbrev tells_in : Members → List Bool
tells_in = fold-Members Bool (List Bool) named_step (λ m. m.list)

abbrev counts_in : Members → List ℕ
counts_in = fold-Members ℕ (List ℕ) node_step (λ m. m.list)

abbrev depths_in : Members → List ℕ
depths_in = fold-Members ℕ (List ℕ) depth_step (λ m. m.list)

module _ (x : Formula-F Formula Members) (f : Formula) (rolls : roll-Formula x ≡ f) where
  shown_at : formula_shown f ≡ formula_step (map-Formula Formula Members Data (List Data) formula_shown data_in x)
  shown_at = ap formula_shown (sym rolls) ∙ fold-roll-Formula Data (List Data) formula_step (λ m. m.list) x

  told_at : has_names f ≡ named_step (map-Formula Formula Members Bool (List Bool) has_names tells_in x)
  told_at = ap has_names (sym rolls) ∙ fold-roll-Formula Bool (List Bool) named_step (λ m. m.list) x

  depth_at : depth_of f ≡ depth_step (map-Formula Formula Members ℕ (List ℕ) depth_of depths_in x)
  depth_at = ap depth_of (sym rolls) ∙ fold-roll-Formula ℕ (List ℕ) depth_step (λ m. m.list) x

  nodes_at : nodes_of f ≡ node_step (map-Formula Formula Members ℕ (List ℕ) nodes_of counts_in x)
  nodes_at = ap nodes_of (sym rolls) ∙ fold-roll-Formula ℕ (List ℕ) node_step (λ m. m.list) x

always_good : Good Always
always_good =
    let shown = shown_at Formula-F.Always Always rolls-Always in
    record { some = omega (arith, nodes_at Formula-F.Always Always rolls-Always); again = λ told few. ap formula_form shown; plain = λ told n few. subst (λ d. IsPlain d n) (sym shown) tt }

never_good : Good Never
never_good =
    let shown = shown_at Formula-F.Never Never rolls-Never in
    record { some = omega (arith, nodes_at Formula-F.Never Never rolls-Never); again = λ told few. ap formula_form shown; plain = λ told n few. subst (λ d. IsPlain d n) (sym shown) tt }

named_again : (name : List ℕ) → is_name name ≡ true → formula_form (string name) ≡ Ok (Is name)
named_again name named = rw named

is_good : (name : List ℕ) → Good (Is name)
is_good name =
    let shown = shown_at (Formula-F.Is name) (Is name) (rolls-Is name) in
    let tells : has_names (Is name) ≡ is_name name = told_at (Formula-F.Is name) (Is name) (rolls-Is name) in
    record {
      some = omega (arith, nodes_at (Formula-F.Is name) (Is name) (rolls-Is name));
      again = λ told few. ap formula_form shown ∙ named_again name (sym tells ∙ told);
      plain = λ told n few. subst (λ d. IsPlain d n) (sym shown) (name_ascii name (sym tells ∙ told));
    }

not_plain : (inner : Formula) (n : ℕ) → depth_of inner + 1 ≤ n → ((m : ℕ) → depth_of inner ≤ m → IsPlain (formula_shown inner) m) → IsPlain (array_of (string (codes "not") ∷ formula_shown inner ∷ [])) n
not_plain inner zero few plain = absurd (omega (arith, few))
not_plain inner (suc n) few plain = (refl, (plain n (omega (arith, few)), tt))

not_good : (inner : Formula) → Good inner → Good (Not inner)
not_good inner good =
    let shown = shown_at (Formula-F.Not inner) (Not inner) (rolls-Not inner) in
    let tells : has_names (Not inner) ≡ has_names inner = told_at (Formula-F.Not inner) (Not inner) (rolls-Not inner) in
    let deep : depth_of (Not inner) ≡ depth_of inner + 1 = depth_at (Formula-F.Not inner) (Not inner) (rolls-Not inner) in
    let counts : nodes_of (Not inner) ≡ nodes_of inner + 1 = nodes_at (Formula-F.Not inner) (Not inner) (rolls-Not inner) in
    record {
      some = omega (arith, counts);
      again = λ told few.
          let read : each formula_form 1 (map formula_shown (inner ∷ [])) ≡ Ok (inner ∷ []) =
          ap (λ found. under (decimal 1) found >>= λ y. Ok (y ∷ [])) (good.again (sym tells ∙ told) (omega (arith, counts, few))) in
          ap formula_form shown ∙ compound_again (codes "not") Negation (inner ∷ []) refl refl read;
      plain = λ told n few. subst (λ d. IsPlain d n) (sym shown) (not_plain inner n (omega (arith, deep, few)) (good.plain (sym tells ∙ told)));
    }

module _ (ms : Members) where
  data_of : data_in ms ≡ map formula_shown (members_of ms)
  data_of = fold_out-Members Data (List Data) formula_step (λ m. m.list) ms

  tells_of : tells_in ms ≡ map has_names (members_of ms)
  tells_of = fold_out-Members Bool (List Bool) named_step (λ m. m.list) ms

  depths_of : depths_in ms ≡ map depth_of (members_of ms)
  depths_of = fold_out-Members ℕ (List ℕ) depth_step (λ m. m.list) ms

  counts_of : counts_in ms ≡ map nodes_of (members_of ms)
  counts_of = fold_out-Members ℕ (List ℕ) node_step (λ m. m.list) ms

  and_good : AllGood ms → Good (And ms)
  and_good good =
      many_good (And ms) (codes "and") Conjunction (members_of ms)
      (shown_at (Formula-F.And ms) (And ms) (rolls-And ms) ∙ ap (λ ds. array_of (string (codes "and") ∷ ds)) data_of)
      (told_at (Formula-F.And ms) (And ms) (rolls-And ms) ∙ ap (list_all (λ told. told)) tells_of)
      (depth_at (Formula-F.And ms) (And ms) (rolls-And ms) ∙ ap (λ ns. greatest ns + 1) depths_of)
      (nodes_at (Formula-F.And ms) (And ms) (rolls-And ms) ∙ ap (λ ns. sum ns + 1) counts_of)
      refl (λ count. refl) refl (ap (λ m. Ok (And m)) (roll-out-Members ms)) good

  or_good : AllGood ms → Good (Or ms)
  or_good good =
      many_good (Or ms) (codes "or") Disjunction (members_of ms)
      (shown_at (Formula-F.Or ms) (Or ms) (rolls-Or ms) ∙ ap (λ ds. array_of (string (codes "or") ∷ ds)) data_of)
      (told_at (Formula-F.Or ms) (Or ms) (rolls-Or ms) ∙ ap (list_all (λ told. told)) tells_of)
      (depth_at (Formula-F.Or ms) (Or ms) (rolls-Or ms) ∙ ap (λ ns. greatest ns + 1) depths_of)
      (nodes_at (Formula-F.Or ms) (Or ms) (rolls-Or ms) ∙ ap (λ ns. sum ns + 1) counts_of)
      refl (λ count. refl) refl (ap (λ m. Ok (Or m)) (roll-out-Members ms)) good

  one_good : AllGood ms → Good (One ms)
  one_good good =
      many_good (One ms) (codes "one") ExactlyOne (members_of ms)
      (shown_at (Formula-F.One ms) (One ms) (rolls-One ms) ∙ ap (λ ds. array_of (string (codes "one") ∷ ds)) data_of)
      (told_at (Formula-F.One ms) (One ms) (rolls-One ms) ∙ ap (list_all (λ told. told)) tells_of)
      (depth_at (Formula-F.One ms) (One ms) (rolls-One ms) ∙ ap (λ ns. greatest ns + 1) depths_of)
      (nodes_at (Formula-F.One ms) (One ms) (rolls-One ms) ∙ ap (λ ns. sum ns + 1) counts_of)
      refl (λ count. refl) refl (ap (λ m. Ok (One m)) (roll-out-Members ms)) good

-- ---- the induction

abbrev Layer : Type 0
Layer = Formula-F ((f : Formula) × Good f) ((m : Members) × AllGood m)

of_layer : (y : Layer) → Good (roll-Formula (map-Formula ((f : Formula) × Good f) ((m : Members) × AllGood m) Formula Members (λ e. e.0) (λ e. e.0) y))
of_layer Formula-F.Always = subst Good (sym rolls-Always) always_good
of_layer Formula-F.Never = subst Good (sym rolls-Never) never_good
of_layer (Formula-F.Is name) = subst Good (sym (rolls-Is name)) (is_good name)
of_layer (Formula-F.Not e) = subst Good (sym (rolls-Not e.0)) (not_good e.0 e.1)
of_layer (Formula-F.And e) = subst Good (sym (rolls-And e.0)) (and_good e.0 e.1)
of_layer (Formula-F.Or e) = subst Good (sym (rolls-Or e.0)) (or_good e.0 e.1)
of_layer (Formula-F.One e) = subst Good (sym (rolls-One e.0)) (one_good e.0 e.1)

good_list : (es : List ((f : Formula) × Good f)) → AllByRecursion Good (map (λ e. e.0) es)
good_list [] = tt
good_list (e ∷ es) = (e.1, good_list es)

of_members : (y : Members-F ((f : Formula) × Good f) ((m : Members) × AllGood m)) → AllGood (roll-Members (map-Members ((f : Formula) × Good f) ((m : Members) × AllGood m) Formula Members (λ e. e.0) (λ e. e.0) y))
of_members y =
    let x = map-Members ((f : Formula) × Good f) ((m : Members) × AllGood m) Formula Members (λ e. e.0) (λ e. e.0) y in
    subst (AllByRecursion Good) (sym (ap (λ m. m.list) (out-roll-Members x))) (good_list y.list)

good : (f : Formula) → Good f
good = ind-Formula Good AllGood
    (λ x y is. subst (λ (z : Formula-F Formula Members). Good (roll-Formula z)) is (of_layer y))
    (λ x y is. subst (λ (z : Members-F Formula Members). AllGood (roll-Members z)) is (of_members y))

pub formula_told : (n : ℕ) (f : Formula) → 64 ≤ n → IsToldFormula f → Told formula_form formula_shown n f
formula_told n f room is = let g = good f in record { again = g.again is.told (omega (arith, is.few)); plain = g.plain is.told n (omega (arith, is.shallow, room)) }
