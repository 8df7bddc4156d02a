-- The options that a formula names, from those of its members, and formulas that are counted one by one.
use Rattle.std.proofs.Common.{◌≡◌, ℕ, ◌+◌, ◌<◌, List, [], ◌∷◌, ◌++◌, map, length, take, drop, suc, get_or, Ok, Err, append-nil, refl, sym, ap, ◌∙◌, arith}
use Rattle.std.specs.Prelude.{sum_by}
use Rattle.std.specs.List.{flat_map}
use Rattle.std.proofs.lemmas.List.Sums.{sum_by-append}
use Rattle.std.proofs.lemmas.Grind.{flat_map-append}
use Rattle.loom_formula.specs.declared.formula.Formula.TheVariants.{And, Or, One, rolls-And, rolls-Or, rolls-One}
use Rattle.loom_formula.specs.declared.formula.Formula.TheOpen.{Formula-F}
use Rattle.loom_formula.specs.declared.formula.Formula.TheFolds.{fold-Members, fold-roll-Formula, fold_out-Members}
use Rattle.loom_formula.specs.declared.formula.Members.{Members}
use Rattle.loom_formula.specs.Formula.{members_of}
use Rattle.loom_base.specs.First.{Check, every}
use Rattle.loom_project.specs.Draft.{names_step, option_names}
use Rattle.loom_base.proofs.EachLemmas.{take_next, parted, every-append}

flat_map-map : {X Y : Type 0} (f : X → List Y) (xs : List X) → flat_map (λ m. m) (map f xs) ≡ flat_map f xs
flat_map-map f [] = refl
flat_map-map f (x ∷ xs) = ap (λ ys. f x ++ ys) (flat_map-map f xs)

module _ (members : Members) where
  names_of_all : fold-Members (List (List ℕ)) (List (List (List ℕ))) names_step (λ m. m.list) members ≡ map option_names (members_of members)
  names_of_all = fold_out-Members (List (List ℕ)) (List (List (List ℕ))) names_step (λ m. m.list) members

  pub option_names-And : option_names (And members) ≡ flat_map option_names (members_of members)
  option_names-And =
      ap option_names (sym (rolls-And members))
      ∙ fold-roll-Formula (List (List ℕ)) (List (List (List ℕ))) names_step (λ m. m.list) (Formula-F.And members)
      ∙ ap (flat_map (λ m. m)) names_of_all ∙ flat_map-map option_names (members_of members)

  pub option_names-Or : option_names (Or members) ≡ flat_map option_names (members_of members)
  option_names-Or =
      ap option_names (sym (rolls-Or members))
      ∙ fold-roll-Formula (List (List ℕ)) (List (List (List ℕ))) names_step (λ m. m.list) (Formula-F.Or members)
      ∙ ap (flat_map (λ m. m)) names_of_all ∙ flat_map-map option_names (members_of members)

  pub option_names-One : option_names (One members) ≡ flat_map option_names (members_of members)
  option_names-One =
      ap option_names (sym (rolls-One members))
      ∙ fold-roll-Formula (List (List ℕ)) (List (List (List ℕ))) names_step (λ m. m.list) (Formula-F.One members)
      ∙ ap (flat_map (λ m. m)) names_of_all ∙ flat_map-map option_names (members_of members)

-- a sum with one more element
pub sum_next : {A : Type 0} (f : A → ℕ) (xs : List A) (i : ℕ) (x : A) → x ≡ get_or xs i x → i < length xs → sum_by f (take (i + 1) xs) ≡ sum_by f (take i xs) + f x
sum_next f xs i x is lt =
    ap (sum_by f) (take_next xs i x is lt) ∙ sum_by-append f (take i xs) (x ∷ []) ∙ ap (λ n. sum_by f (take i xs) + n) (omega arith)

-- where the lists before it pass, and its own does, those up to it pass
pub flat_next : {X Y F : Type 0} (check : Y → Check F) (f : X → List Y) (xs : List X) (i : ℕ) (x : X) → x ≡ get_or xs i x → i < length xs → every check (flat_map f (take i xs)) ≡ Ok tt → every check (f x) ≡ Ok tt → every check (flat_map f (take (i + 1) xs)) ≡ Ok tt
flat_next check f xs i x is lt front here =
    ap (λ ys. every check (flat_map f ys)) (take_next xs i x is lt)
    ∙ ap (every check) (flat_map-append f (take i xs) (x ∷ []))
    ∙ every-append check (flat_map f (take i xs)) (f x ++ [])
    ∙ rw (front, append-nil) here

-- where the lists before it pass, and its own fails, they fail so
pub flat_stops : {X Y F : Type 0} (check : Y → Check F) (f : X → List Y) (xs : List X) (i : ℕ) (x : X) (failure : F) → x ≡ get_or xs i x → i < length xs → every check (flat_map f (take i xs)) ≡ Ok tt → every check (f x) ≡ Err failure → every check (flat_map f xs) ≡ Err failure
flat_stops check f xs i x failure is lt front here =
    ap (λ ys. every check (flat_map f ys)) (parted xs i x is lt)
    ∙ ap (every check) (flat_map-append f (take i xs) (x ∷ drop (suc i) xs))
    ∙ every-append check (flat_map f (take i xs)) (f x ++ flat_map f (drop (suc i) xs))
    ∙ rw front (every-append check (f x) (flat_map f (drop (suc i) xs)) ∙ rw here refl)
