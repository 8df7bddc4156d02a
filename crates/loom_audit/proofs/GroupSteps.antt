-- Modules of wires, wire by wire.
use Rattle.std.proofs.Common.{◌≡◌, ◌≢◌, ℕ, suc, ◌+◌, ◌-◌, ◌<◌, ◌≤◌, max, inl, inr, Bool, true, false, cond, not, ◌&&◌, List, [], ◌∷◌, ◌++◌, length, map, get_or, Option, Some, None, refl, sym, ap, subst, ◌∙◌, arith, eqb}
use Rattle.std.specs.List.{filter, fold, position_from, All}
use Rattle.std.proofs.Math.ListN.{set}
use Rattle.std.proofs.lemmas.Bool.{cases_Bool, cases_eq, cases_lt, cond-true, cond-false, eq-eqb, ne_eqb, eqb-true, and_parts, and_from}
use Rattle.std.proofs.lemmas.List.{map-append, get_or_past, append-nil}
use Rattle.std.proofs.lemmas.List.Elements.{filter-append, All-nil, All-cons, All-head, All-tail}
use Rattle.std.proofs.lemmas.Option.{same_Some}
use Rattle.loom_topology.specs.Topology.{TopologyView, Node, harness_at, no_node}
use Rattle.loom_types.specs.declared.plan.Module.{Module}
use Rattle.loom_types.specs.declared.wire.Wire.{Wire}
use Rattle.loom_types.specs.Modules.{distinct_in_order, harness_of, module_of, positions_from, rows_in}
use Rattle.loom_audit.specs.Grouping.{is_module_of, is_same_pair, with_wire, greatest_harness, AreGrouped}

-- ---- places of modules

abbrev longer : Module → ℕ → Module
longer m position = record m { wires = m.wires ++ position ∷ [] }

-- the place that is found lies within the list
pub module_within : (harness row i : ℕ) (modules : List Module) (p : ℕ) → position_from (is_module_of harness row) i modules ≡ Some p
    → (i ≤ p) × (p < i + length modules)
module_within harness row i [] p e = absurd (cc)
module_within harness row i (m ∷ modules) p e =
    let test = is_module_of harness row in
    elim (cases_Bool (test m)) [
      | inl t ↦
          let here : i ≡ p = same_Some i p (sym (cond-true (test m) (Some i) (position_from test (i + 1) modules) t) ∙ e) in
          (omega arith, omega arith)
      | inr f ↦
          let h = module_within harness row (i + 1) modules p (sym (cond-false (test m) (Some i) (position_from test (i + 1) modules) f) ∙ e) in
          (omega (arith, h.0), omega (arith, h.1))
    ]

-- the module at the place that is found takes the wire
pub wire_there : (harness row position i : ℕ) (modules : List Module) (p : ℕ) (none new : Module)
    → position_from (is_module_of harness row) i modules ≡ Some p → new ≡ longer (get_or modules (p - i) none) position
    → set modules (p - i) new ≡ with_wire modules harness row position
wire_there harness row position i [] p none new e is = absurd (cc)
wire_there harness row position i (m ∷ modules) p none new e is =
    let test = is_module_of harness row in
    elim (cases_Bool (test m)) [
      | inl t ↦
          let here : i ≡ p = same_Some i p (sym (cond-true (test m) (Some i) (position_from test (i + 1) modules) t) ∙ e) in
          let first : p - i ≡ 0 = omega arith in
          ap (λ (k : ℕ). set (m ∷ modules) k new) first
          ∙ (ap (λ (x : Module). x ∷ modules) (is ∙ ap (λ (k : ℕ). longer (get_or (m ∷ modules) k none) position) first)
          ∙ sym (cond-true (test m) (longer m position ∷ modules) (m ∷ with_wire modules harness row position) t))
      | inr f ↦
          let e' = sym (cond-false (test m) (Some i) (position_from test (i + 1) modules) f) ∙ e in
          let within = module_within harness row (i + 1) modules p e' in
          let later : p - i ≡ suc (p - (i + 1)) = omega (arith, within.0) in
          ap (λ (k : ℕ). set (m ∷ modules) k new) later
          ∙ (ap (λ (l : List Module). m ∷ l)
          (wire_there harness row position (i + 1) modules p none new e' (is ∙ ap (λ (k : ℕ). longer (get_or (m ∷ modules) k none) position) later))
          ∙ sym (cond-false (test m) (longer m position ∷ modules) (m ∷ with_wire modules harness row position) f))
    ]

-- where none is found it makes a module of its own
pub wire_new : (harness row position i : ℕ) (modules : List Module) → position_from (is_module_of harness row) i modules ≡ None
    → modules ++ record { harness = harness; row = row; wires = position ∷ [] } ∷ [] ≡ with_wire modules harness row position
wire_new harness row position i [] e = refl
wire_new harness row position i (m ∷ modules) e =
    let test = is_module_of harness row in
    elim (cases_Bool (test m)) [
      | inl t ↦ let h = sym (cond-true (test m) (Some i) (position_from test (i + 1) modules) t) ∙ e in absurd (cc)
      | inr f ↦
          ap (λ (l : List Module). m ∷ l)
          (wire_new harness row position (i + 1) modules (sym (cond-false (test m) (Some i) (position_from test (i + 1) modules) f) ∙ e))
          ∙ sym (cond-false (test m) (longer m position ∷ modules) (m ∷ with_wire modules harness row position) f)
    ]

-- the places stay where a module takes the wire
pub places_stay : (harness row position : ℕ) (other_harness other_row i : ℕ) (modules : List Module) (j p : ℕ)
    → position_from (is_module_of harness row) j modules ≡ Some p
    → position_from (is_module_of other_harness other_row) i (with_wire modules harness row position)
    ≡ position_from (is_module_of other_harness other_row) i modules
places_stay harness row position other_harness other_row i [] j p e = absurd (cc)
places_stay harness row position other_harness other_row i (m ∷ modules) j p e =
    let test = is_module_of harness row in
    let other = is_module_of other_harness other_row in
    elim (cases_Bool (test m)) [
      | inl t ↦ ap (position_from other i) (cond-true (test m) (longer m position ∷ modules) (m ∷ with_wire modules harness row position) t)
      | inr f ↦
          ap (position_from other i) (cond-false (test m) (longer m position ∷ modules) (m ∷ with_wire modules harness row position) f)
          ∙ ap (cond (other m) (Some i))
          (places_stay harness row position other_harness other_row (i + 1) modules (j + 1) p
          (sym (cond-false (test m) (Some j) (position_from test (j + 1) modules) f) ∙ e))
    ]

place_pushed_other : (test : Module → Bool) (i : ℕ) (modules : List Module) (m : Module) → test m ≡ false
    → position_from test i (modules ++ m ∷ []) ≡ position_from test i modules
place_pushed_other test i [] m f = cond-false (test m) (Some i) None f
place_pushed_other test i (x ∷ modules) m f = ap (cond (test x) (Some i)) (place_pushed_other test (i + 1) modules m f)

place_pushed_same : (test : Module → Bool) (i n : ℕ) (modules : List Module) (m : Module) → n ≡ i + length modules → test m ≡ true
    → position_from test i modules ≡ None → position_from test i (modules ++ m ∷ []) ≡ Some n
place_pushed_same test i n [] m e t none = cond-true (test m) (Some i) None t ∙ ap Some (omega arith)
place_pushed_same test i n (x ∷ modules) m e t none =
    elim (cases_Bool (test x)) [
      | inl passes ↦ let h = sym (cond-true (test x) (Some i) (position_from test (i + 1) modules) passes) ∙ none in absurd (cc)
      | inr f ↦
          cond-false (test x) (Some i) (position_from test (i + 1) (modules ++ m ∷ [])) f
          ∙ place_pushed_same test (i + 1) n modules m (omega arith) t (sym (cond-false (test x) (Some i) (position_from test (i + 1) modules) f) ∙ none)
    ]

-- the table once a module of its own stands at the end
pub places_grow : (harness row position other_harness other_row : ℕ) (modules : List Module) (now before : Option ℕ)
    → position_from (is_module_of harness row) 0 modules ≡ None
    → now ≡ cond (is_same_pair (harness, row) (other_harness, other_row)) (Some (length modules)) before
    → before ≡ position_from (is_module_of other_harness other_row) 0 modules
    → now ≡ position_from (is_module_of other_harness other_row) 0 (modules ++ record { harness = harness; row = row; wires = position ∷ [] } ∷ [])
places_grow harness row position other_harness other_row modules now before none e known =
    let new : Module = record { harness = harness; row = row; wires = position ∷ [] } in
    let other = is_module_of other_harness other_row in
    elim (cases_Bool (is_same_pair (harness, row) (other_harness, other_row))) [
      | inl t ↦
          let parts = and_parts (eqb harness other_harness) (eqb row other_row) t in
          let none' : position_from other 0 modules ≡ None =
          sym (ap (λ (h : ℕ). position_from (is_module_of h other_row) 0 modules) (eqb-true harness other_harness parts.0))
          ∙ (sym (ap (λ (r : ℕ). position_from (is_module_of harness r) 0 modules) (eqb-true row other_row parts.1)) ∙ none) in
          e
          ∙ (cond-true (is_same_pair (harness, row) (other_harness, other_row)) (Some (length modules)) before t
          ∙ sym (place_pushed_same other 0 (length modules) modules new (omega arith) t none'))
      | inr f ↦
          e
          ∙ (cond-false (is_same_pair (harness, row) (other_harness, other_row)) (Some (length modules)) before f
          ∙ (known ∙ sym (place_pushed_other other 0 modules new f)))
    ]

-- ---- the modules of one harness

-- of another harness nothing changes
filter-other : (h harness row position : ℕ) → harness ≢ h → (modules : List Module)
    → filter (λ m. eqb m.harness h) (with_wire modules harness row position) ≡ filter (λ m. eqb m.harness h) modules
filter-other h harness row position other [] = ap (λ b. cond b (record { harness = harness; row = row; wires = position ∷ [] } ∷ []) []) (ne_eqb harness h other)
filter-other h harness row position other (m ∷ modules) =
    elim (cases_Bool (is_module_of harness row m)) [
      | inl t ↦
          let same : m.harness ≡ harness = eqb-true m.harness harness (and_parts (eqb m.harness harness) (eqb m.row row) t).0 in
          let not_here : eqb m.harness h ≡ false = ne_eqb m.harness h (λ e. other (sym same ∙ e)) in
          ap (filter (λ m. eqb m.harness h)) (cond-true (is_module_of harness row m) (longer m position ∷ modules) (m ∷ with_wire modules harness row position) t)
          ∙ (ap (λ b. cond b (longer m position ∷ filter (λ m. eqb m.harness h) modules) (filter (λ m. eqb m.harness h) modules)) not_here
          ∙ sym (ap (λ b. cond b (m ∷ filter (λ m. eqb m.harness h) modules) (filter (λ m. eqb m.harness h) modules)) not_here))
      | inr f ↦
          ap (filter (λ m. eqb m.harness h)) (cond-false (is_module_of harness row m) (longer m position ∷ modules) (m ∷ with_wire modules harness row position) f)
          ∙ ap (λ (l : List Module). cond (eqb m.harness h) (m ∷ l) l) (filter-other h harness row position other modules)
    ]

-- of its own harness the module takes the wire
filter-own : (harness row position : ℕ) (modules : List Module)
    → filter (λ m. eqb m.harness harness) (with_wire modules harness row position) ≡ with_wire (filter (λ m. eqb m.harness harness) modules) harness row position
filter-own harness row position [] = ap (λ b. cond b (record { harness = harness; row = row; wires = position ∷ [] } ∷ []) []) (eq-eqb harness harness refl)
filter-own harness row position (m ∷ modules) =
    let own = λ (m : Module). eqb m.harness harness in
    let rest : List Module = filter own modules in
    elim (cases_Bool (is_module_of harness row m)) [
      | inl t ↦
          let here : eqb m.harness harness ≡ true = (and_parts (eqb m.harness harness) (eqb m.row row) t).0 in
          ap (filter own) (cond-true (is_module_of harness row m) (longer m position ∷ modules) (m ∷ with_wire modules harness row position) t)
          ∙ (ap (λ b. cond b (longer m position ∷ rest) rest) here
          ∙ (sym (cond-true (is_module_of harness row m) (longer m position ∷ rest) (m ∷ with_wire rest harness row position) t)
          ∙ sym (ap (λ b. with_wire (cond b (m ∷ rest) rest) harness row position) here)))
      | inr f ↦
          ap (filter own) (cond-false (is_module_of harness row m) (longer m position ∷ modules) (m ∷ with_wire modules harness row position) f)
          ∙ (ap (λ (l : List Module). cond (eqb m.harness harness) (m ∷ l) l) (filter-own harness row position modules)
          ∙ (elim (cases_Bool (eqb m.harness harness)) as (λ _. cond (eqb m.harness harness) (m ∷ with_wire rest harness row position) (with_wire rest harness row position)
          ≡ with_wire (cond (eqb m.harness harness) (m ∷ rest) rest) harness row position) [
            | inl here ↦
                ap (λ b. cond b (m ∷ with_wire rest harness row position) (with_wire rest harness row position)) here
                ∙ (sym (cond-false (is_module_of harness row m) (longer m position ∷ rest) (m ∷ with_wire rest harness row position) f)
                ∙ sym (ap (λ b. with_wire (cond b (m ∷ rest) rest) harness row position) here))
            | inr away ↦
                ap (λ b. cond b (m ∷ with_wire rest harness row position) (with_wire rest harness row position)) away
                ∙ sym (ap (λ b. with_wire (cond b (m ∷ rest) rest) harness row position) away)
          ]))
    ]

-- what holds of each harness holds once a wire was added
pub harness-with_wire : (most harness row position : ℕ) (modules : List Module) → harness ≤ most
    → All (λ m. m.harness ≤ most) modules → All (λ m. m.harness ≤ most) (with_wire modules harness row position)
harness-with_wire most harness row position [] small all =
    All-cons (λ (m : Module). m.harness ≤ most) (record { harness = harness; row = row; wires = position ∷ [] }) [] small (All-nil (λ (m : Module). m.harness ≤ most))
harness-with_wire most harness row position (m ∷ modules) small all =
    let here = All-head (λ (m : Module). m.harness ≤ most) m modules all in
    let rest = All-tail (λ (m : Module). m.harness ≤ most) m modules all in
    elim (cases_Bool (is_module_of harness row m)) [
      | inl t ↦
          subst (All (λ (m : Module). m.harness ≤ most)) (sym (cond-true (is_module_of harness row m) (longer m position ∷ modules) (m ∷ with_wire modules harness row position) t))
          (All-cons (λ (m : Module). m.harness ≤ most) (longer m position) modules here rest)
      | inr f ↦
          subst (All (λ (m : Module). m.harness ≤ most)) (sym (cond-false (is_module_of harness row m) (longer m position ∷ modules) (m ∷ with_wire modules harness row position) f))
          (All-cons (λ (m : Module). m.harness ≤ most) m (with_wire modules harness row position) here (harness-with_wire most harness row position modules small rest))
    ]

-- ---- rows in the order in which they first stand

abbrev pub Lacks : ℕ → List ℕ → Type 0
Lacks n [] = Unit {0}
Lacks n (x ∷ xs) = (x ≢ n) × Lacks n xs

abbrev pub AreApart : List ℕ → Type 0
AreApart [] = Unit {0}
AreApart (x ∷ xs) = Lacks x xs × AreApart xs

-- with a number at the end, if it isn't there
abbrev with_row : List ℕ → ℕ → List ℕ
with_row [] n = n ∷ []
with_row (x ∷ xs) n = cond (eqb x n) (x ∷ xs) (x ∷ with_row xs n)

lacks-filter : (p : ℕ → Bool) (n : ℕ) (xs : List ℕ) → Lacks n xs → Lacks n (filter p xs)
lacks-filter p n [] h = tt
lacks-filter p n (x ∷ xs) h =
    elim (cases_Bool (p x)) [
      | inl t ↦ subst (Lacks n) (sym (cond-true (p x) (x ∷ filter p xs) (filter p xs) t)) (h.0, lacks-filter p n xs h.1)
      | inr f ↦ subst (Lacks n) (sym (cond-false (p x) (x ∷ filter p xs) (filter p xs) f)) (lacks-filter p n xs h.1)
    ]

apart-filter : (p : ℕ → Bool) (xs : List ℕ) → AreApart xs → AreApart (filter p xs)
apart-filter p [] h = tt
apart-filter p (x ∷ xs) h =
    elim (cases_Bool (p x)) [
      | inl t ↦ subst AreApart (sym (cond-true (p x) (x ∷ filter p xs) (filter p xs) t)) (lacks-filter p x xs h.0, apart-filter p xs h.1)
      | inr f ↦ subst AreApart (sym (cond-false (p x) (x ∷ filter p xs) (filter p xs) f)) (apart-filter p xs h.1)
    ]

abbrev without : ℕ → List ℕ → List ℕ
without n xs = filter (λ m. not (eqb m n)) xs

without-here : (n x : ℕ) (xs : List ℕ) → x ≡ n → without n (x ∷ xs) ≡ without n xs
without-here n x xs e = ap (λ b. cond (not b) (x ∷ without n xs) (without n xs)) (eq-eqb x n e)

without-other : (n x : ℕ) (xs : List ℕ) → x ≢ n → without n (x ∷ xs) ≡ x ∷ without n xs
without-other n x xs e = ap (λ b. cond (not b) (x ∷ without n xs) (without n xs)) (ne_eqb x n e)

lacks-without : (n : ℕ) (xs : List ℕ) → Lacks n (without n xs)
lacks-without n [] = tt
lacks-without n (x ∷ xs) =
    elim (cases_eq x n) [
      | inl e ↦ subst (Lacks n) (sym (without-here n x xs e)) (lacks-without n xs)
      | inr e ↦ subst (Lacks n) (sym (without-other n x xs e)) (e, lacks-without n xs)
    ]

-- what isn't there without another number isn't there with it
lacks-with : (n k : ℕ) (xs : List ℕ) → k ≢ n → Lacks n (without k xs) → Lacks n xs
lacks-with n k [] apart h = tt
lacks-with n k (x ∷ xs) apart h =
    elim (cases_eq x k) [
      | inl e ↦ (λ same. apart (sym e ∙ same), lacks-with n k xs apart (subst (Lacks n) (without-here k x xs e) h))
      | inr e ↦ let g = subst (Lacks n) (without-other k x xs e) h in (g.0, lacks-with n k xs apart g.1)
    ]

pub apart-distinct : (ns : List ℕ) → AreApart (distinct_in_order ns)
apart-distinct [] = tt
apart-distinct (n ∷ ns) = (lacks-without n (distinct_in_order ns), apart-filter (λ m. not (eqb m n)) (distinct_in_order ns) (apart-distinct ns))

pub lacks-distinct : (n : ℕ) (ns : List ℕ) → Lacks n (distinct_in_order ns) → Lacks n ns
lacks-distinct n [] h = tt
lacks-distinct n (k ∷ ns) h = (h.0, lacks-distinct n ns (lacks-with n k (distinct_in_order ns) h.0 h.1))

with_row-here : (x n : ℕ) (xs : List ℕ) → x ≡ n → with_row (x ∷ xs) n ≡ x ∷ xs
with_row-here x n xs e = cond-true (eqb x n) (x ∷ xs) (x ∷ with_row xs n) (eq-eqb x n e)

with_row-other : (x n : ℕ) (xs : List ℕ) → x ≢ n → with_row (x ∷ xs) n ≡ x ∷ with_row xs n
with_row-other x n xs e = cond-false (eqb x n) (x ∷ xs) (x ∷ with_row xs n) (ne_eqb x n e)

without-with_same : (n : ℕ) (xs : List ℕ) → without n (with_row xs n) ≡ without n xs
without-with_same n [] = without-here n n [] refl
without-with_same n (x ∷ xs) =
    elim (cases_eq x n) [
      | inl e ↦ ap (without n) (with_row-here x n xs e)
      | inr e ↦
          ap (without n) (with_row-other x n xs e)
          ∙ (without-other n x (with_row xs n) e ∙ (ap (λ (l : List ℕ). x ∷ l) (without-with_same n xs) ∙ sym (without-other n x xs e)))
    ]

without-with_other : (k n : ℕ) (xs : List ℕ) → k ≢ n → without k (with_row xs n) ≡ with_row (without k xs) n
without-with_other k n [] apart = without-other k n [] (λ e. apart (sym e))
without-with_other k n (x ∷ xs) apart =
    elim (cases_eq x n) [
      | inl e ↦
          let away : x ≢ k = λ same. apart (sym same ∙ e) in
          ap (without k) (with_row-here x n xs e)
          ∙ (without-other k x xs away
          ∙ (sym (with_row-here x n (without k xs) e)
          ∙ sym (ap (λ (l : List ℕ). with_row l n) (without-other k x xs away))))
      | inr e ↦
          ap (without k) (with_row-other x n xs e)
          ∙ elim (cases_eq x k) as (λ _. without k (x ∷ with_row xs n) ≡ with_row (without k (x ∷ xs)) n) [
            | inl same ↦
                without-here k x (with_row xs n) same
                ∙ (without-with_other k n xs apart ∙ sym (ap (λ (l : List ℕ). with_row l n) (without-here k x xs same)))
            | inr away ↦
                without-other k x (with_row xs n) away
                ∙ (ap (λ (l : List ℕ). x ∷ l) (without-with_other k n xs apart)
                ∙ (sym (with_row-other x n (without k xs) e)
                ∙ sym (ap (λ (l : List ℕ). with_row l n) (without-other k x xs away))))
          ]
    ]

pub distinct-push : (ns : List ℕ) (n : ℕ) → distinct_in_order (ns ++ n ∷ []) ≡ with_row (distinct_in_order ns) n
distinct-push [] n = refl
distinct-push (k ∷ ns) n =
    ap (λ (l : List ℕ). k ∷ without k l) (distinct-push ns n)
    ∙ elim (cases_eq k n) as (λ _. k ∷ without k (with_row (distinct_in_order ns) n) ≡ with_row (k ∷ without k (distinct_in_order ns)) n) [
      | inl e ↦
          ap (λ (m : ℕ). k ∷ without k (with_row (distinct_in_order ns) m)) (sym e)
          ∙ (ap (λ (l : List ℕ). k ∷ l) (without-with_same k (distinct_in_order ns))
          ∙ sym (with_row-here k n (without k (distinct_in_order ns)) e))
      | inr e ↦
          ap (λ (l : List ℕ). k ∷ l) (without-with_other k n (distinct_in_order ns) e)
          ∙ sym (with_row-other k n (without k (distinct_in_order ns)) e)
    ]

-- ---- positions

pub positions-push : {A : Type 0} (first : ℕ) (test : A → Bool) (xs : List A) (x : A)
    → positions_from first test (xs ++ x ∷ []) ≡ positions_from first test xs ++ cond (test x) ((first + length xs) ∷ []) []
positions-push first test [] x = at (test x)
  where
    at : (b : Bool) → cond b (first ∷ []) [] ≡ [] ++ cond b ((first + 0) ∷ []) []
    at true = ap (λ (n : ℕ). n ∷ []) (omega arith)
    at false = refl
positions-push first test (y ∷ xs) x =
    let tail : positions_from (suc first) test (xs ++ x ∷ []) ≡ positions_from (suc first) test xs ++ cond (test x) ((first + suc (length xs)) ∷ []) [] =
    positions-push (suc first) test xs x ∙ ap (λ (n : ℕ). positions_from (suc first) test xs ++ cond (test x) (n ∷ []) []) (omega arith) in
    elim (cases_Bool (test y)) [
      | inl t ↦
          cond-true (test y) (first ∷ positions_from (suc first) test (xs ++ x ∷ [])) (positions_from (suc first) test (xs ++ x ∷ [])) t
          ∙ (ap (λ (l : List ℕ). first ∷ l) tail
          ∙ ap (λ (l : List ℕ). l ++ cond (test x) ((first + suc (length xs)) ∷ []) [])
          (sym (cond-true (test y) (first ∷ positions_from (suc first) test xs) (positions_from (suc first) test xs) t)))
      | inr f ↦
          cond-false (test y) (first ∷ positions_from (suc first) test (xs ++ x ∷ [])) (positions_from (suc first) test (xs ++ x ∷ [])) f
          ∙ (tail
          ∙ ap (λ (l : List ℕ). l ++ cond (test x) ((first + suc (length xs)) ∷ []) [])
          (sym (cond-false (test y) (first ∷ positions_from (suc first) test xs) (positions_from (suc first) test xs) f)))
    ]

-- a row that no wire of the harness has, has no position
no_position : (p : Wire → Bool) (n first : ℕ) (ws : List Wire) → Lacks n (map (λ w. w.row) (filter p ws))
    → positions_from first (λ w. p w && eqb w.row n) ws ≡ []
no_position p n first [] h = refl
no_position p n first (w ∷ ws) h =
    let test = λ (w : Wire). p w && eqb w.row n in
    elim (cases_Bool (p w)) [
      | inl t ↦
          let g = subst (λ (l : List Wire). Lacks n (map (λ w. w.row) l)) (cond-true (p w) (w ∷ filter p ws) (filter p ws) t) h in
          let fails : (p w && eqb w.row n) ≡ false = ap (λ b. b && eqb w.row n) t ∙ ne_eqb w.row n g.0 in
          cond-false (test w) (first ∷ positions_from (suc first) test ws) (positions_from (suc first) test ws) fails
          ∙ no_position p n (suc first) ws g.1
      | inr f ↦
          let g = subst (λ (l : List Wire). Lacks n (map (λ w. w.row) l)) (cond-false (p w) (w ∷ filter p ws) (filter p ws) f) h in
          let fails : (p w && eqb w.row n) ≡ false = ap (λ b. b && eqb w.row n) f in
          cond-false (test w) (first ∷ positions_from (suc first) test ws) (positions_from (suc first) test ws) fails
          ∙ no_position p n (suc first) ws g
    ]

-- ---- the modules of rows

-- the modules of rows that lack this one don't change
maps_same : (n : ℕ) (before after : ℕ → Module) → ((r : ℕ) → r ≢ n → after r ≡ before r) → (rows : List ℕ) → Lacks n rows → map before rows ≡ map after rows
maps_same n before after others [] h = refl
maps_same n before after others (r ∷ rows) h =
    ap (λ (m : Module). m ∷ map before rows) (sym (others r h.0)) ∙ ap (λ (l : List Module). after r ∷ l) (maps_same n before after others rows h.1)

module _ (harness row position : ℕ) (before after : ℕ → Module)
    (of_harness : (r : ℕ) → (before r).harness ≡ harness) (of_row : (r : ℕ) → (before r).row ≡ r)
    (others : (r : ℕ) → r ≢ row → after r ≡ before r) (own : after row ≡ longer (before row) position) where
  row_put : (rows : List ℕ) → AreApart rows → (Lacks row rows → (before row).wires ≡ [])
      → with_wire (map before rows) harness row position ≡ map after (with_row rows row)
  row_put [] apart fresh =
      let new : longer (before row) position ≡ record { harness = harness; row = row; wires = position ∷ [] } =
      λ i. record { harness = of_harness row i; row = of_row row i; wires = (fresh tt i) ++ position ∷ [] } in
      ap (λ (m : Module). m ∷ []) (sym (own ∙ new))
  row_put (r ∷ rows) apart fresh =
      elim (cases_eq r row) [
        | inl e ↦
            let passes : is_module_of harness row (before r) ≡ true =
            and_from (eqb (before r).harness harness) (eqb (before r).row row) (eq-eqb (before r).harness harness (of_harness r)) (eq-eqb (before r).row row (of_row r ∙ e)) in
            let here : after r ≡ longer (before r) position = subst (λ (k : ℕ). after k ≡ longer (before k) position) (sym e) own in
            cond-true (is_module_of harness row (before r)) (longer (before r) position ∷ map before rows) (before r ∷ with_wire (map before rows) harness row position) passes
            ∙ (ap (λ (m : Module). m ∷ map before rows) (sym here)
            ∙ (ap (λ (l : List Module). after r ∷ l) (maps_same row before after others rows (subst (λ (k : ℕ). Lacks k rows) e apart.0))
            ∙ sym (ap (map after) (with_row-here r row rows e))))
        | inr e ↦
            let fails : is_module_of harness row (before r) ≡ false =
            ap (λ b. eqb (before r).harness harness && b) (ne_eqb (before r).row row (λ same. e (sym (of_row r) ∙ same))) ∙ and-false (eqb (before r).harness harness) in
            cond-false (is_module_of harness row (before r)) (longer (before r) position ∷ map before rows) (before r ∷ with_wire (map before rows) harness row position) fails
            ∙ (ap (λ (m : Module). m ∷ with_wire (map before rows) harness row position) (sym (others r e))
            ∙ (ap (λ (l : List Module). after r ∷ l) (row_put rows apart.1 (λ lacks. fresh (e, lacks)))
            ∙ sym (ap (map after) (with_row-other r row rows e))))
      ]
    where
      and-false : (b : Bool) → (b && false) ≡ false
      and-false true = refl
      and-false false = refl

-- ---- one more wire

module _ (topology : TopologyView) (ws : List Wire) (w : Wire) where
  rows-push : (h : ℕ) → rows_in topology (ws ++ w ∷ []) h
      ≡ distinct_in_order (map (λ w. w.row) (filter (λ w. eqb (harness_of topology w) h) ws) ++ map (λ w. w.row) (cond (eqb (harness_of topology w) h) (w ∷ []) []))
  rows-push h =
      ap (λ (l : List Wire). distinct_in_order (map (λ w. w.row) l)) (filter-append (λ w. eqb (harness_of topology w) h) ws (w ∷ []))
      ∙ ap distinct_in_order (map-append (λ (w : Wire). w.row) (filter (λ w. eqb (harness_of topology w) h) ws) (cond (eqb (harness_of topology w) h) (w ∷ []) []))

  rows-own : rows_in topology (ws ++ w ∷ []) (harness_of topology w) ≡ with_row (rows_in topology ws (harness_of topology w)) w.row
  rows-own =
      let h = harness_of topology w in
      rows-push h
      ∙ (ap (λ b. distinct_in_order (map (λ w. w.row) (filter (λ w. eqb (harness_of topology w) h) ws) ++ map (λ w. w.row) (cond b (w ∷ []) []))) (eq-eqb h h refl)
      ∙ distinct-push (map (λ w. w.row) (filter (λ w. eqb (harness_of topology w) h) ws)) w.row)

  rows-other : (h : ℕ) → harness_of topology w ≢ h → rows_in topology (ws ++ w ∷ []) h ≡ rows_in topology ws h
  rows-other h other =
      rows-push h
      ∙ (ap (λ b. distinct_in_order (map (λ w. w.row) (filter (λ w. eqb (harness_of topology w) h) ws) ++ map (λ w. w.row) (cond b (w ∷ []) []))) (ne_eqb (harness_of topology w) h other)
      ∙ ap distinct_in_order (append-nil (map (λ w. w.row) (filter (λ w. eqb (harness_of topology w) h) ws))))

  -- the module of a harness and a row grows where the wire has both
  module-push : (h r : ℕ) → module_of topology (ws ++ w ∷ []) h r
      ≡ record { harness = h; row = r; wires = (module_of topology ws h r).wires ++ cond (eqb (harness_of topology w) h && eqb w.row r) (length ws ∷ []) [] }
  module-push h r =
      let positions : positions_from 0 (λ w. eqb (harness_of topology w) h && eqb w.row r) (ws ++ w ∷ [])
      ≡ (module_of topology ws h r).wires ++ cond (eqb (harness_of topology w) h && eqb w.row r) (length ws ∷ []) [] =
      positions-push 0 (λ w. eqb (harness_of topology w) h && eqb w.row r) ws w
      ∙ ap (λ (n : ℕ). (module_of topology ws h r).wires ++ cond (eqb (harness_of topology w) h && eqb w.row r) (n ∷ []) []) (omega arith) in
      ap (λ (l : List ℕ). record { harness = h; row = r; wires = l }) positions

  module-same : (h r : ℕ) → (eqb (harness_of topology w) h && eqb w.row r) ≡ false → module_of topology (ws ++ w ∷ []) h r ≡ module_of topology ws h r
  module-same h r fails =
      module-push h r
      ∙ (ap (λ b. record { harness = h; row = r; wires = (module_of topology ws h r).wires ++ cond b (length ws ∷ []) [] }) fails
      ∙ ap (λ (l : List ℕ). record { harness = h; row = r; wires = l }) (append-nil (module_of topology ws h r).wires))

  module-grown : module_of topology (ws ++ w ∷ []) (harness_of topology w) w.row ≡ longer (module_of topology ws (harness_of topology w) w.row) (length ws)
  module-grown =
      let h = harness_of topology w in
      module-push h w.row
      ∙ ap (λ b. record { harness = h; row = w.row; wires = (module_of topology ws h w.row).wires ++ cond b (length ws ∷ []) [] })
      (and_from (eqb h h) (eqb w.row w.row) (eq-eqb h h refl) (eq-eqb w.row w.row refl))

  own_harness : with_wire (map (module_of topology ws (harness_of topology w)) (rows_in topology ws (harness_of topology w))) (harness_of topology w) w.row (length ws)
      ≡ map (module_of topology (ws ++ w ∷ []) (harness_of topology w)) (rows_in topology (ws ++ w ∷ []) (harness_of topology w))
  own_harness =
      let h = harness_of topology w in
      let numbers : List ℕ = map (λ w. w.row) (filter (λ w. eqb (harness_of topology w) h) ws) in
      row_put h w.row (length ws) (module_of topology ws h) (module_of topology (ws ++ w ∷ []) h)
      (λ r. refl) (λ r. refl)
      (λ r other. module-same h r (ap (λ b. eqb h h && b) (ne_eqb w.row r (λ e. other (sym e))) ∙ and-false (eqb h h)))
      module-grown
      (rows_in topology ws h) (apart-distinct numbers)
      (λ lacks. no_position (λ w. eqb (harness_of topology w) h) w.row 0 ws (lacks-distinct w.row numbers lacks))
      ∙ sym (ap (map (module_of topology (ws ++ w ∷ []) h)) rows-own)
    where
      and-false : (b : Bool) → (b && false) ≡ false
      and-false true = refl
      and-false false = refl

  other_harness : (h : ℕ) → harness_of topology w ≢ h
      → map (module_of topology ws h) (rows_in topology ws h) ≡ map (module_of topology (ws ++ w ∷ []) h) (rows_in topology (ws ++ w ∷ []) h)
  other_harness h other =
      let same : module_of topology ws h ≡ module_of topology (ws ++ w ∷ []) h =
      λ i r. sym (module-same h r (ap (λ b. b && eqb w.row r) (ne_eqb (harness_of topology w) h other))) i in
      ap (λ (f : ℕ → Module). map f (rows_in topology ws h)) same
      ∙ sym (ap (map (module_of topology (ws ++ w ∷ []) h)) (rows-other h other))

  -- the modules once the wire was added
  pub grouped_more : (modules : List Module) → AreGrouped topology ws modules → harness_of topology w ≤ greatest_harness topology
      → AreGrouped topology (ws ++ w ∷ []) (with_wire modules (harness_of topology w) w.row (length ws))
  grouped_more modules grouped small =
      let h0 = harness_of topology w in
      record {
        known = harness-with_wire (greatest_harness topology) h0 w.row (length ws) modules small grouped.known;
        each = λ h. elim (cases_eq h0 h) as (λ _. filter (λ m. eqb m.harness h) (with_wire modules h0 w.row (length ws))
            ≡ map (module_of topology (ws ++ w ∷ []) h) (rows_in topology (ws ++ w ∷ []) h)) [
              | inl same ↦
                  subst (λ (k : ℕ). filter (λ m. eqb m.harness k) (with_wire modules h0 w.row (length ws)) ≡ map (module_of topology (ws ++ w ∷ []) k) (rows_in topology (ws ++ w ∷ []) k)) same
                  (filter-own h0 w.row (length ws) modules
                  ∙ (ap (λ (l : List Module). with_wire l h0 w.row (length ws)) (grouped.each h0) ∙ own_harness))
              | inr other ↦ filter-other h h0 w.row (length ws) other modules ∙ (grouped.each h ∙ other_harness h other)
            ];
      }

pub grouped_none : (topology : TopologyView) → AreGrouped topology [] []
grouped_none topology = record { known = All-nil (λ (m : Module). m.harness ≤ greatest_harness topology); each = λ h. refl }

-- ---- harnesses

most_from : (a : ℕ) (nodes : List Node) → a ≤ fold (λ most node. max most node.harness) a nodes
most_from a [] = omega arith
most_from a (node ∷ nodes) = let h : max a node.harness ≤ fold (λ most node. max most node.harness) (max a node.harness) nodes = most_from (max a node.harness) nodes in omega arith

most_all : (a : ℕ) (nodes : List Node) → All (λ node. node.harness ≤ fold (λ most node. max most node.harness) a nodes) nodes
most_all a [] = All-nil (λ node. node.harness ≤ a)
most_all a (node ∷ nodes) =
    let h : max a node.harness ≤ fold (λ most node. max most node.harness) (max a node.harness) nodes = most_from (max a node.harness) nodes in
    All-cons (λ other. other.harness ≤ fold (λ most node. max most node.harness) (max a node.harness) nodes) node nodes (omega arith) (most_all (max a node.harness) nodes)

pub harness_known : (topology : TopologyView) (v : ℕ) → harness_at topology v ≤ greatest_harness topology
harness_known topology v =
    elim (cases_lt v (length topology.nodes)) [
      | inl within ↦ most_all 0 topology.nodes v no_node within
      | inr past ↦
          let none : harness_at topology v ≡ 0 = ap (λ node. node.harness) (get_or_past topology.nodes v no_node past) in
          omega arith
    ]
