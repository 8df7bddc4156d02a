-- The table of a set's net, and its cell for the set.
use Rattle.std.proofs.Common.{◌≡◌, ℕ, zero, suc, ◌+◌, ◌-◌, ◌*◌, ◌^◌, ◌<◌, ◌≤◌, ◌==◌, inl, inr, Bool, true, cond, List, [], ◌∷◌, length, get_or, drop, Option, Some, None, refl, sym, ap, subst, ◌∙◌, arith, Contains, nat_eq, pow_mono}
use Rattle.std.specs.List.{position_from}
use Rattle.std.proofs.lemmas.Bool.{cases_Bool, cases_lt, cases_eq, cond-true, cond-false, eqb-true, false≢true}
use Rattle.std.proofs.lemmas.List.{drop_more, get_or_default}
use Rattle.std.proofs.lemmas.Option.{same_Some, slice_get-get_or}
use Rattle.loom_base.proofs.Contained.{Contains-cases}
use Rattle.loom_topology.specs.Table.{cell_at}
use Rattle.loom_topology.specs.Legal.{IsMask, chosen, cavities_of_mask}
use Rattle.loom_project.specs.declared.draft.Draft.{Draft}
use Rattle.loom_project.specs.Project.{net_topology, cavities_of}
use Rattle.loom_types.specs.declared.plan.Plan.{Plan}
use Rattle.loom_types.specs.declared.plan.SetLine.{SetLine}
use Rattle.loom_types.specs.declared.plan.TableLine.{TableLine}
use Rattle.loom_types.specs.SetMask.{IsSet, stem_of, rest_of, stem_node, stem_cavity}
use Rattle.loom_types.proofs.SetMasks.{set_is_stem_and_rest, stem_within}
use Rattle.loom_audit.specs.TableRule.{HasTables, IsTableFor, nets_with_sets}
use Rattle.loom_audit.specs.CostRule.{IsCellOf}
use Rattle.loom_audit.proofs.FirstLineLemmas.{place_within}
use Rattle.loom_audit.proofs.GroupSteps.{Lacks, AreApart, apart-distinct}
use Rattle.loom_audit.proofs.SetParts.{mask_some, chosen-zero}

-- the map once a table is put in front of those that it knows
pub table_in_front : (lines : List TableLine) (place : ℕ) (line : TableLine) (net : ℕ) (now before : Option ℕ)
    → place < length lines → line ≡ get_or lines place line
    → now ≡ cond (nat_eq line.net.0 net) (Some place) before
    → before ≡ position_from (λ l. l.net.0 == net) (place + 1) (drop (place + 1) lines)
    → now ≡ position_from (λ l. l.net.0 == net) place (drop place lines)
table_in_front lines place line net now before within at e known =
    let split : drop place lines ≡ line ∷ drop (place + 1) lines =
    drop_more lines place line within ∙ ap (λ x. x ∷ drop (place + 1) lines) (sym at) in
    e
    ∙ (ap (cond (nat_eq line.net.0 net) (Some place)) known
    ∙ sym (ap (position_from (λ (l : TableLine). l.net.0 == net) place) split))

-- a line that is found passes the test, and where none is found none does
pub found-passes : {X : Type 0} (test : X → Bool) (i : ℕ) (xs : List X) (p : ℕ) (d : X) → position_from test i xs ≡ Some p
    → test (get_or xs (p - i) d) ≡ true
found-passes test i [] p d e = absurd (cc)
found-passes test i (x ∷ xs) p d e =
    elim (cases_Bool (test x)) [
      | inl t ↦
          let here : i ≡ p = same_Some i p (sym (cond-true (test x) (Some i) (position_from test (i + 1) xs) t) ∙ e) in
          let first : p - i ≡ 0 = omega (arith, here) in
          ap (λ (k : ℕ). test (get_or (x ∷ xs) k d)) first ∙ t
      | inr f ↦
          let e' = sym (cond-false (test x) (Some i) (position_from test (i + 1) xs) f) ∙ e in
          let within = place_within test (i + 1) xs p e' in
          let later : p - i ≡ suc (p - (i + 1)) = omega (arith, within.0) in
          ap (λ (k : ℕ). test (get_or (x ∷ xs) k d)) later ∙ found-passes test (i + 1) xs p d e'
    ]

pub none-passes : {X : Type 0} (test : X → Bool) (i : ℕ) (xs : List X) (x : X) → position_from test i xs ≡ None → Contains xs x → test x ≡ true → ⊥
none-passes test i [] x e (k, below, at) passes = absurd (omega (arith, below))
none-passes test i (y ∷ ys) x e listed passes =
    elim (cases_Bool (test y)) [
      | inl t ↦
          let h = sym (cond-true (test y) (Some i) (position_from test (i + 1) ys) t) ∙ e in absurd (cc)
      | inr f ↦
          elim (Contains-cases x y ys listed) [
            | inl same ↦ absurd (false≢true (sym f ∙ ap test same ∙ passes))
            | inr later ↦ none-passes test (i + 1) ys x (sym (cond-false (test y) (Some i) (position_from test (i + 1) ys) f) ∙ e) later passes
          ]
    ]

-- numbers that are apart stand at one place each
lacks-at : (n : ℕ) (xs : List ℕ) (k : ℕ) → Lacks n xs → k < length xs → get_or xs k 0 ≡ n → ⊥
lacks-at n [] k h below at = absurd (omega (arith, below))
lacks-at n (x ∷ xs) zero h below at = h.0 at
lacks-at n (x ∷ xs) (suc k) h below at = lacks-at n xs k h.1 (omega (arith, below)) at

one-place : (xs : List ℕ) (j k : ℕ) → AreApart xs → j < length xs → k < length xs → get_or xs j 0 ≡ get_or xs k 0 → j ≡ k
one-place [] j k h below_j below_k same = absurd (omega (arith, below_j))
one-place (x ∷ xs) zero zero h below_j below_k same = refl
one-place (x ∷ xs) zero (suc k) h below_j below_k same = absurd (lacks-at x xs k h.0 (omega (arith, below_k)) (sym same))
one-place (x ∷ xs) (suc j) zero h below_j below_k same = absurd (lacks-at x xs j h.0 (omega (arith, below_j)) same)
one-place (x ∷ xs) (suc j) (suc k) h below_j below_k same =
    ap (λ (n : ℕ). suc n) (one-place xs j k h.1 (omega (arith, below_j)) (omega (arith, below_k)) same)

module _ (draft : Draft) (plan : Plan) (tables : HasTables draft plan) where
  abbrev nets : List ℕ
  nets = nets_with_sets plan

  line-fits : (line : TableLine) (k : ℕ) → k < length plan.tables → get_or plan.tables k line ≡ line → IsTableFor draft (get_or nets k 0) line
  line-fits line k below at =
      tables.lines k (get_or nets k 0) line below
      (slice_get-get_or nets k 0 (omega (arith, below, tables.counted)))
      (slice_get-get_or plan.tables k line below ∙ ap Some at)

  -- each table is one of its net
  pub table-fits : (line : TableLine) → Contains plan.tables line → IsTableFor draft line.net.0 line
  table-fits line (k, below, at) =
      let fits = line-fits line k below at in
      subst (λ (n : ℕ). IsTableFor draft n line) (sym fits.of_net) fits

  -- a net has one
  pub one-table : (one other : TableLine) → Contains plan.tables one → Contains plan.tables other → one.net.0 ≡ other.net.0 → one ≡ other
  one-table one other (j, below_j, at_j) (k, below_k, at_k) same =
      let nets_same : get_or nets j 0 ≡ get_or nets k 0 =
      sym ((line-fits one j below_j at_j).of_net) ∙ same ∙ (line-fits other k below_k at_k).of_net in
      let place : j ≡ k =
      one-place nets j k (apart-distinct _) (omega (arith, below_j, tables.counted)) (omega (arith, below_k, tables.counted)) nets_same in
      sym at_j ∙ ap (λ (n : ℕ). get_or plan.tables n one) place ∙ get_or_default plan.tables k one other below_k ∙ at_k

  pub cell_back : (set : SetLine) (cost : ℕ) (line : TableLine) → Contains plan.tables line → line.net.0 ≡ set.net.0 → IsCellOf draft plan set cost
      → cell_at line.table (rest_of set.mask) (stem_node (net_topology draft set.net.0) (cavities_of draft set.net.0) set.mask) ≡ Some cost
  cell_back set cost line listed of_net is =
      let same : line ≡ is.line = one-table line is.line listed is.printed (of_net ∙ sym is.of_net) in
      ap (λ (l : TableLine). cell_at l.table (rest_of set.mask) (stem_node (net_topology draft set.net.0) (cavities_of draft set.net.0) set.mask)) same
      ∙ is.cell

power_halved : (n : ℕ) → 1 ≤ n → 2 ^ n ≡ 2 * 2 ^ (n - 1)
power_halved zero some = absurd (omega (arith, some))
power_halved (suc n) some = let e : suc n - 1 ≡ n = omega arith in rw e (omega arith)

module _ (terminals : List ℕ) (mask : ℕ) (set : IsSet terminals mask) (few : length terminals ≤ 12) where
  narrow : mask < 2 ^ 32
  narrow = omega (arith, set.within, pow_mono {i = length terminals} {j = 32} (omega (arith, few)))

  pub stem_in_range : stem_of mask < length terminals
  stem_in_range =
      let power = stem_within mask (mask_some terminals mask set) narrow in
      elim (cases_lt (stem_of mask) (length terminals)) [
        | inl within ↦ within
        | inr past ↦ absurd (omega (arith, power, set.within, pow_mono {i = length terminals} {j = stem_of mask} past))
      ]

  cut : chosen terminals mask ≡ stem_cavity terminals mask ∷ cavities_of_mask terminals (rest_of mask)
  cut = set_is_stem_and_rest terminals mask (mask_some terminals mask set) set.within (omega (arith, few))

  some_rest : 0 < rest_of mask
  some_rest = elim (cases_eq (rest_of mask) 0) [
    | inl e ↦
        let none : length (cavities_of_mask terminals (rest_of mask)) ≡ 0 =
        ap (λ m. length (cavities_of_mask terminals m)) e ∙ ap length (chosen-zero (drop 1 terminals)) in
        absurd (omega (arith, set.some, none, ap length cut))
    | inr other ↦ omega (arith, other)
  ]

  pub rest_range : IsMask terminals (rest_of mask)
  rest_range = (some_rest, omega (arith, set.within, power_halved (length terminals) (omega (arith, stem_in_range))))

-- the line at the place that is found is printed, and is the net's
pub found-line : (lines : List TableLine) (net place : ℕ) (line : TableLine) → position_from (λ l. l.net.0 == net) 0 lines ≡ Some place
    → line ≡ get_or lines place line → Contains lines line × (line.net.0 ≡ net)
found-line lines net place line found at =
    let test : TableLine → Bool = λ l. l.net.0 == net in
    let within = place_within test 0 lines place found in
    let same : place ≡ place - 0 = omega arith in
    let passes : test line ≡ true = ap test (at ∙ ap (λ (k : ℕ). get_or lines k line) same) ∙ found-passes test 0 lines place line found in (
      (place, omega (arith, within.1), sym at),
      eqb-true line.net.0 net passes,
    )
