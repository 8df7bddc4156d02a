-- What a map's look-ups by keys say of the list of what is kept.
use Rattle.std.proofs.Common.{◌≡◌, ◌≢◌, ℕ, Bool, true, false, cond, ◌&&◌, List, [], ◌∷◌, ◌++◌, map, get_or, Some, is_some, if◌then◌else◌, refl, sym, ap, subst, ◌∙◌, arith, inl, inr, true≢false, Contains}
use Rattle.std.specs.Prelude.{bytes_eq, nat_eq, Result, Ok, Err, IfOk}
use Rattle.std.specs.List.{AllPairs, IsDistinct}
use Rattle.std.specs.Bool.{Decides}
use Rattle.std.specs.Map.{lookup, keys_of as map_keys}
use Rattle.std.proofs.lemmas.Bool.{and_parts, eqb-true}
use Rattle.std.proofs.lemmas.Bool.Decides.{Decides-and}
use Rattle.std.proofs.lemmas.Slice.Eq.{bytes_eq-Decides}
use Rattle.std.proofs.lemmas.Option.{same_Some}
use Rattle.std.proofs.lemmas.Map.Made.{AllPairs-from_IsDistinct}
use Rattle.indexmap.specs.IndexMap.{insert_entry}
use Rattle.loom_base.proofs.Contained.{Contains-here, Contains-cons, Contains-cases, Contains-map}
use Rattle.loom_active.proofs.Pairs.{pairs-map}
use Rattle.loom_topology.specs.Table.{TableView}
use Rattle.loom_types.specs.declared.layout.Layout.{Layout}
use Rattle.loom_laid.specs.declared.key.TableKey.{TableKey}
use Rattle.loom_laid.specs.declared.kept.Entry.{Entry}
use Rattle.loom_laid.specs.Kept.{KeptTable, keys_of}
use Rattle.loom_laid.specs.Keys.{pair_of}
use Rattle.loom_laid.specs.KeptInside.{kept_of}
use Rattle.loom_laid.specs.Growth.{HasTable, HasLayout, kept_under}

abbrev pub key_eq : TableKey → TableKey → Bool
key_eq a b = bytes_eq a.class b.class && bytes_eq a.nodes b.nodes

pub key-same : (a b : TableKey) → key_eq a b ≡ true → a ≡ b
key-same a b e =
    let parts = and_parts (bytes_eq a.class b.class) (bytes_eq a.nodes b.nodes) e in
    let class : a.class ≡ b.class = (bytes_eq-Decides a.class b.class).0 parts.0 in
    let nodes : a.nodes ≡ b.nodes = (bytes_eq-Decides a.nodes b.nodes).0 parts.1 in
    λ i. record { class = class i; nodes = nodes i }

pub key-itself : (a : TableKey) → key_eq a a ≡ true
key-itself a =
    (Decides-and (bytes_eq a.class a.class) (bytes_eq a.nodes a.nodes) (bytes_eq-Decides a.class a.class) (bytes_eq-Decides a.nodes a.nodes)).1 (refl, refl)

key-decides : (a b : TableKey) → Decides (key_eq a b) (a ≡ b)
key-decides a b = (key-same a b, λ e. subst (λ (z : TableKey). key_eq a z ≡ true) e (key-itself a))

pub pair-same : (a b : TableKey) → pair_of a ≡ pair_of b → a ≡ b
pair-same a b e = λ i. record { class = (e i).0; nodes = (e i).1 }

-- a table that is found is kept
pub has-of_lookup : (q : TableKey) (es : List (TableKey × Entry)) → is_some (lookup (key_eq q) es) ≡ true → Contains (keys_of (map kept_of es)) (pair_of q)
has-of_lookup q [] e = absurd (true≢false (sym e))
has-of_lookup q (x ∷ es) e = by (has-of_lookup q es) (key_eq q x.0) refl e
  where
    by : (is_some (lookup (key_eq q) es) ≡ true → Contains (keys_of (map kept_of es)) (pair_of q)) → (b : Bool) → key_eq q x.0 ≡ b
        → is_some (cond b (Some x.1) (lookup (key_eq q) es)) ≡ true → Contains (keys_of (map kept_of (x ∷ es))) (pair_of q)
    by rest true same found =
        subst (λ (p : List ℕ × List ℕ). Contains (keys_of (map kept_of (x ∷ es))) p) (ap pair_of (sym (key-same q x.0 same)))
        (Contains-here (pair_of x.0) (keys_of (map kept_of es)))
    by rest false other found = Contains-cons (pair_of q) (pair_of x.0) (keys_of (map kept_of es)) (rest found)

-- and a table that is kept is found
pub lookup-of_has : (q : TableKey) (es : List (TableKey × Entry)) → Contains (keys_of (map kept_of es)) (pair_of q) → is_some (lookup (key_eq q) es) ≡ true
lookup-of_has q [] at = absurd (let lt = at.1 in omega arith)
lookup-of_has q (x ∷ es) at = by (lookup-of_has q es) (key_eq q x.0) refl
  where
    by : (Contains (keys_of (map kept_of es)) (pair_of q) → is_some (lookup (key_eq q) es) ≡ true) → (b : Bool) → key_eq q x.0 ≡ b → is_some (cond b (Some x.1) (lookup (key_eq q) es)) ≡ true
    by rest true same = refl
    by rest false other = elim (Contains-cases (pair_of q) (pair_of x.0) (keys_of (map kept_of es)) at) [
      | inl here ↦ absurd (true≢false (sym (key-itself q) ∙ ap (key_eq q) (pair-same q x.0 (sym here)) ∙ other))
      | inr later ↦ rest later
    ]

-- what is found stands among the entries, under an equal key
entry-of_lookup : (q : TableKey) (es : List (TableKey × Entry)) (found : Entry) → lookup (key_eq q) es ≡ Some found
    → (k : TableKey) × Contains es (k, found) × (k ≡ q)
entry-of_lookup q [] found e = absurd (cc)
entry-of_lookup q (x ∷ es) found e = by (entry-of_lookup q es found) (key_eq q x.0) refl e
  where
    by : (lookup (key_eq q) es ≡ Some found → (k : TableKey) × Contains es (k, found) × (k ≡ q)) → (b : Bool) → key_eq q x.0 ≡ b
        → cond b (Some x.1) (lookup (key_eq q) es) ≡ Some found → (k : TableKey) × Contains (x ∷ es) (k, found) × (k ≡ q)
    by later true same is =
        let value : x.1 ≡ found = same_Some x.1 found is in
        (x.0, subst (λ (v : Entry). Contains (x ∷ es) (x.0, v)) value (Contains-here x es), sym (key-same q x.0 same))
    by later false other is =
        let rest = later is in (rest.0, Contains-cons (rest.0, found) x es rest.1, rest.2)

number-found : (mask : ℕ) (es : List (ℕ × Layout)) (layout : Layout) → lookup (nat_eq mask) es ≡ Some layout → Contains es (mask, layout)
number-found mask [] layout e = absurd (cc)
number-found mask (x ∷ es) layout e = by (number-found mask es layout) (nat_eq mask x.0) refl e
  where
    by : (lookup (nat_eq mask) es ≡ Some layout → Contains es (mask, layout)) → (b : Bool) → nat_eq mask x.0 ≡ b
        → cond b (Some x.1) (lookup (nat_eq mask) es) ≡ Some layout → Contains (x ∷ es) (mask, layout)
    by later true same is =
        let number : x.0 ≡ mask = sym (eqb-true mask x.0 same) in
        let value : x.1 ≡ layout = same_Some x.1 layout is in
        let e : x ≡ (mask, layout) = λ i. (number i, value i) in
        subst (Contains (x ∷ es)) e (Contains-here x es)
    by later false other is = Contains-cons (mask, layout) x es (later is)

pub table-of_lookup : (q : TableKey) (es : List (TableKey × Entry)) (found : Entry) → lookup (key_eq q) es ≡ Some found → HasTable (map kept_of es) (pair_of q) found.table
table-of_lookup q es found e =
    let entry = entry-of_lookup q es found e in record {
      entry = kept_of (entry.0, found);
      there = Contains-map kept_of es (entry.0, found) entry.1;
      of_key = ap pair_of entry.2;
      is_table = refl;
    }

pub layout-of_lookup : (q : TableKey) (es : List (TableKey × Entry)) (found : Entry) (mask : ℕ) (layout : Layout) → lookup (key_eq q) es ≡ Some found
    → lookup (nat_eq mask) found.layouts.entries ≡ Some layout → HasLayout (map kept_of es) (pair_of q) mask layout
layout-of_lookup q es found mask layout e f =
    let entry = entry-of_lookup q es found e in record {
      entry = kept_of (entry.0, found);
      there = Contains-map kept_of es (entry.0, found) entry.1;
      of_key = ap pair_of entry.2;
      has = number-found mask found.layouts.entries layout f;
    }

keys-view : (es : List (TableKey × Entry)) → map pair_of (map_keys es) ≡ keys_of (map kept_of es)
keys-view [] = refl
keys-view (x ∷ es) = ap (λ l. pair_of x.0 ∷ l) (keys-view es)

-- different keys of the map are different classes or nodes
pub pairs-different : (es : List (TableKey × Entry)) → IsDistinct key_eq (map_keys es) → AllPairs (λ one other. one ≢ other) (keys_of (map kept_of es))
pairs-different es distinct =
    subst (λ (l : List (List ℕ × List ℕ)). AllPairs (λ one other. one ≢ other) l) (keys-view es)
    (pairs-map (λ one other. one ≢ other) pair_of (map_keys es)
    (λ i j d lt in_j e. AllPairs-from_IsDistinct key-decides (map_keys es) distinct i j d lt in_j
    (pair-same (get_or (map_keys es) i d) (get_or (map_keys es) j d) e)))

-- a new key goes last
insert-new : (q : TableKey) (entry : Entry) (es : List (TableKey × Entry)) → (Contains (keys_of (map kept_of es)) (pair_of q) → ⊥)
    → map kept_of (insert_entry key_eq es q entry) ≡ map kept_of es ++ kept_of (q, entry) ∷ []
insert-new q entry [] none = refl
insert-new q entry (x ∷ es) none = by (insert-new q entry es) (key_eq q x.0) refl
  where
    by : ((Contains (keys_of (map kept_of es)) (pair_of q) → ⊥) → map kept_of (insert_entry key_eq es q entry) ≡ map kept_of es ++ kept_of (q, entry) ∷ [])
        → (b : Bool) → key_eq q x.0 ≡ b → map kept_of (if b then (x.0, entry) ∷ es else x ∷ insert_entry key_eq es q entry) ≡ map kept_of (x ∷ es) ++ kept_of (q, entry) ∷ []
    by rest true same =
        absurd (none (subst (λ (p : List ℕ × List ℕ). Contains (keys_of (map kept_of (x ∷ es))) p) (ap pair_of (sym (key-same q x.0 same)))
        (Contains-here (pair_of x.0) (keys_of (map kept_of es)))))
    by rest false other =
        ap (λ l. kept_of x ∷ l) (rest (λ at. none (Contains-cons (pair_of q) (pair_of x.0) (keys_of (map kept_of es)) at)))

pub fill-added : (q : TableKey) (entry : Entry) (table : TableView) (shown : List KeptTable) (old mid new : List (TableKey × Entry))
    → map kept_of old ≡ shown → mid ≡ old → new ≡ insert_entry key_eq mid q entry → (Contains (keys_of shown) (pair_of q) → ⊥)
    → entry.table ≡ table → entry.layouts.entries ≡ [] → map kept_of new ≡ shown ++ kept_under (pair_of q) table ∷ []
fill-added q entry table shown old mid new view same inserted none of_table bare =
    let one : kept_of (q, entry) ≡ kept_under (pair_of q) table = λ i. record { class = q.class; nodes = q.nodes; table = of_table i; layouts = bare i } in
    ap (map kept_of) inserted ∙ ap (λ l. map kept_of (insert_entry key_eq l q entry)) same
    ∙ insert-new q entry old (λ at. none (subst (λ (l : List KeptTable). Contains (keys_of l) (pair_of q)) view at))
    ∙ ap (λ k. map kept_of old ++ k ∷ []) one ∙ ap (λ l. l ++ kept_under (pair_of q) table ∷ []) view

pub if_ok-weaker : {T E : Type 0} (r : Result T E) (P Q : T → Type 0) → ((x : T) → P x → Q x) → IfOk r P → IfOk r Q
if_ok-weaker (Ok x) P Q to h = to x h
if_ok-weaker (Err e) P Q to h = h
