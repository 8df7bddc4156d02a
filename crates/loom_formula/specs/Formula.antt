use Rattle.std.specs.Prelude.{ℕ, ◌+◌, Bool, true, false, not, ◌==◌, List, sum, count_by, fold, max, map, position, bytes_eq}
use Rattle.std.specs.List.{list_all, list_any}
use Rattle.std.specs.Option.{option_map_or}
use Rattle.loom_formula.specs.declared.formula.Formula.{Formula}
use Rattle.loom_formula.specs.declared.formula.Formula.TheOpen.{Formula-F}
use Rattle.loom_formula.specs.declared.formula.Formula.TheFolds.{fold-Formula}
use Rattle.loom_formula.specs.declared.formula.Members.{Members, out-Members}

-- the members in order
abbrev pub members_of : Members → List Formula
members_of members = (out-Members members).list

-- a formula is a node, and so is each formula in it
abbrev pub node_step : Formula-F ℕ (List ℕ) → ℕ
node_step Formula-F.Always = 1
node_step Formula-F.Never = 1
node_step (Formula-F.Is name) = 1
node_step (Formula-F.Not inner) = inner + 1
node_step (Formula-F.And members) = sum members + 1
node_step (Formula-F.Or members) = sum members + 1
node_step (Formula-F.One members) = sum members + 1

-- how many nodes a formula has
abbrev pub nodes_of : Formula → ℕ
nodes_of = fold-Formula ℕ (List ℕ) node_step (λ m. m.list)

abbrev pub nodes_of_all : List Formula → ℕ
nodes_of_all formulas = sum (map nodes_of formulas)

-- the greatest of the numbers, 0 where there are none
abbrev pub greatest : List ℕ → ℕ
greatest numbers = fold max 0 numbers

-- a formula without inner formulas has depth 1, and one round others is one deeper than the deepest of them
abbrev pub depth_step : Formula-F ℕ (List ℕ) → ℕ
depth_step Formula-F.Always = 1
depth_step Formula-F.Never = 1
depth_step (Formula-F.Is name) = 1
depth_step (Formula-F.Not inner) = inner + 1
depth_step (Formula-F.And members) = greatest members + 1
depth_step (Formula-F.Or members) = greatest members + 1
depth_step (Formula-F.One members) = greatest members + 1

-- how deep the formulas stand in one another
abbrev pub depth_of : Formula → ℕ
depth_of = fold-Formula ℕ (List ℕ) depth_step (λ m. m.list)

abbrev pub depth_of_all : List Formula → ℕ
depth_of_all formulas = greatest (map depth_of formulas)

-- whether a formula holds, from whether its inner formulas hold and which names are true
abbrev pub holds_step : (List ℕ → Bool) → Formula-F Bool (List Bool) → Bool
holds_step truth Formula-F.Always = true
holds_step truth Formula-F.Never = false
holds_step truth (Formula-F.Is name) = truth name
holds_step truth (Formula-F.Not inner) = not inner
holds_step truth (Formula-F.And members) = list_all (λ m. m) members
holds_step truth (Formula-F.Or members) = list_any (λ m. m) members
holds_step truth (Formula-F.One members) = count_by (λ m. m) members == 1

-- whether a formula holds where exactly these names are true
abbrev pub holds_where : (List ℕ → Bool) → Formula → Bool
holds_where truth = fold-Formula Bool (List Bool) (holds_step truth) (λ m. m.list)

-- whether a name is true under a choice: it is an option, and that option is true
abbrev pub is_chosen : List (List ℕ) → (ℕ → Bool) → List ℕ → Bool
is_chosen options choice name = option_map_or choice (position (bytes_eq name) options) false

-- whether a formula holds under a choice of the options
abbrev pub holds_of : Formula → List (List ℕ) → (ℕ → Bool) → Bool
holds_of formula options choice = holds_where (is_chosen options choice) formula
