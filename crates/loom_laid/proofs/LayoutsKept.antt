-- A layout put with a table that is kept.
use Rattle.std.proofs.Common.{◌≡◌, ℕ, zero, suc, Bool, true, false, ◌<◌, ◌⊎◌, List, [], ◌∷◌, Option, None, Some, Bor, slice_get, length, map, get_or, position, if◌then◌else◌, refl, sym, ap, subst, ◌∙◌, arith, inl, inr, Contains}
use Rattle.std.specs.Prelude.{nat_eq, option_copied, IfSome}
use Rattle.std.specs.Map.{lookup, keys_of as map_keys}
use Rattle.std.proofs.lemmas.Bool.{eqb-true}
use Rattle.std.proofs.lemmas.List.{length-map, get_or-map}
use Rattle.std.proofs.lemmas.List.Quantifiers.{position-Some}
use Rattle.std.proofs.lemmas.Option.{same_Some}
use Rattle.indexmap.specs.IndexMap.{insert_entry}
use Rattle.indexmap.specs.Layout.{set_value_at}
use Rattle.loom_base.proofs.Contained.{Contains-here, Contains-cons, Contains-cases, Contains-map, Contains-from_map, Contains-one}
use Rattle.loom_types.specs.declared.layout.Layout.{Layout}
use Rattle.loom_laid.specs.declared.key.TableKey.{TableKey}
use Rattle.loom_laid.specs.declared.kept.Entry.{Entry}
use Rattle.loom_laid.specs.Kept.{KeptTable, keys_of}
use Rattle.loom_laid.specs.Keys.{pair_of}
use Rattle.loom_laid.specs.KeptInside.{kept_of}
use Rattle.loom_laid.specs.Growth.{HasLayout, IsSameBut, GainsLayout}
use Rattle.loom_laid.proofs.KeyLemmas.{key_eq, key-same, layout-of_lookup}

keys-stay : (es : List (TableKey × Entry)) (at : ℕ) (w : Entry) → keys_of (map kept_of (set_value_at es at w)) ≡ keys_of (map kept_of es)
keys-stay [] at w = refl
keys-stay (e ∷ es) zero w = refl
keys-stay (e ∷ es) (suc at) w = ap (λ l. pair_of e.0 ∷ l) (keys-stay es at w)

-- an entry after a write by place was there, or is the written one
set-cases : (es : List (TableKey × Entry)) (at : ℕ) (w : Entry) (x : TableKey × Entry) → at < length es → Contains (set_value_at es at w) x
    → Contains es x ⊎ ((e : TableKey × Entry) × Contains es e × ((d : TableKey × Entry) → get_or es at d ≡ e) × (x ≡ (e.0, w)))
set-cases [] at w x lt there = absurd (omega (arith, lt))
set-cases (e ∷ es) zero w x lt there = elim (Contains-cases x (e.0, w) es there) [
  | inl here ↦ inr (e, Contains-here e es, (λ d. refl), sym here)
  | inr later ↦ inl (Contains-cons x e es later)
]
set-cases (e ∷ es) (suc at) w x lt there = elim (Contains-cases x e (set_value_at es at w) there) [
  | inl here ↦ inl (subst (Contains (e ∷ es)) here (Contains-here e es))
  | inr later ↦ elim (set-cases es at w x (omega (arith, lt)) later) as (λ _. Contains (e ∷ es) x ⊎ ((f : TableKey × Entry) × Contains (e ∷ es) f × ((d : TableKey × Entry) → get_or (e ∷ es) (suc at) d ≡ f) × (x ≡ (f.0, w)))) [
    | inl old ↦ inl (Contains-cons x e es old)
    | inr new ↦ inr (new.0, Contains-cons new.0 e es new.1, new.2, new.3)
  ]
]

inserted : (es : List (ℕ × Layout)) (mask : ℕ) (layout : Layout) (m : ℕ) (l : Layout) → Contains (insert_entry nat_eq es mask layout) (m, l)
    → Contains es (m, l) ⊎ ((m ≡ mask) × (l ≡ layout))
inserted [] mask layout m l there =
    let e = Contains-one (m, l) (mask, layout) there in inr (sym (ap (λ (p : ℕ × Layout). p.0) e), sym (ap (λ (p : ℕ × Layout). p.1) e))
inserted (x ∷ es) mask layout m l there = by (inserted es mask layout m l) (nat_eq mask x.0) refl there
  where
    by : (Contains (insert_entry nat_eq es mask layout) (m, l) → Contains es (m, l) ⊎ ((m ≡ mask) × (l ≡ layout))) → (b : Bool) → nat_eq mask x.0 ≡ b
        → Contains (if b then (x.0, layout) ∷ es else x ∷ insert_entry nat_eq es mask layout) (m, l) → Contains (x ∷ es) (m, l) ⊎ ((m ≡ mask) × (l ≡ layout))
    by rest true same at = elim (Contains-cases (m, l) (x.0, layout) es at) [
      | inl here ↦ inr (sym (ap (λ (p : ℕ × Layout). p.0) here) ∙ sym (eqb-true mask x.0 same), sym (ap (λ (p : ℕ × Layout). p.1) here))
      | inr later ↦ inl (Contains-cons (m, l) x es later)
    ]
    by rest false other at = elim (Contains-cases (m, l) x (insert_entry nat_eq es mask layout) at) [
      | inl here ↦ inl (subst (Contains (x ∷ es)) here (Contains-here x es))
      | inr later ↦ elim (rest later) [
        | inl old ↦ inl (Contains-cons (m, l) x es old)
        | inr new ↦ inr new
      ]
    ]

-- the layouts of an entry after an insert, which may have failed
pub record Holds (old new : List (ℕ × Layout)) (mask : ℕ) (layout : Layout) : Type 0 where
  pub each : (m : ℕ) (l : Layout) → Contains new (m, l) → Contains old (m, l) ⊎ ((m ≡ mask) × (l ≡ layout))

pub holds-inserted : (old new : List (ℕ × Layout)) (mask : ℕ) (layout : Layout) → new ≡ insert_entry nat_eq old mask layout → Holds old new mask layout
holds-inserted old new mask layout e = record { each = λ m l at. inserted old mask layout m l (subst (λ (es : List (ℕ × Layout)). Contains es (m, l)) e at) }

pub holds-same : (old new : List (ℕ × Layout)) (mask : ℕ) (layout : Layout) → new ≡ old → Holds old new mask layout
holds-same old new mask layout e = record { each = λ m l at. inl (subst (λ (es : List (ℕ × Layout)). Contains es (m, l)) e at) }

same-entry : (one : KeptTable) (key : List ℕ × List ℕ) (mask : ℕ) (layout : Layout) → IsSameBut one one key mask layout
same-entry one key mask layout = record { class = refl; nodes = refl; table = refl; layouts = λ m l at. inl at }

pub gains : (q : TableKey) (shown : List KeptTable) (es : List (TableKey × Entry)) (at : ℕ) (d : TableKey × Entry) (w : Entry) (mask : ℕ) (layout : Layout)
    → map kept_of es ≡ shown → position (key_eq q) (map_keys es) ≡ Some at → w.table ≡ (get_or es at d).1.table
    → Holds (get_or es at d).1.layouts.entries w.layouts.entries mask layout
    → GainsLayout shown (map kept_of (set_value_at es at w)) (pair_of q) mask layout
gains q shown es at d w mask layout view found table holds =
    let place = position-Some (key_eq q) (map_keys es) at d.0 found in
    let within : at < length es = (let lt = place.0 in omega (arith, lt, length-map es (λ (e : TableKey × Entry). e.0))) in
    let own : get_or (map_keys es) at d.0 ≡ (get_or es at d).0 = get_or-map (λ (e : TableKey × Entry). e.0) es at d d.0 within in
    let key : q ≡ (get_or es at d).0 = key-same q (get_or (map_keys es) at d.0) place.1 ∙ own in
    record {
      keys = keys-stay es at w ∙ ap keys_of view;
      each = λ after there.
          let x = Contains-from_map kept_of (set_value_at es at w) after there in
          elim (set-cases es at w x.0 within x.1) [
            | inl old ↦
                (after, subst (λ (l : List KeptTable). Contains l after) view (subst (Contains (map kept_of es)) x.2 (Contains-map kept_of es x.0 old)), same-entry after (pair_of q) mask layout)
            | inr new ↦
                let e : TableKey × Entry = new.0 in
                let is : get_or es at d ≡ e = new.2 d in
                let whole : kept_of (e.0, w) ≡ after = ap kept_of (sym new.3) ∙ x.2 in
                let under : pair_of e.0 ≡ pair_of q = ap pair_of (sym (key ∙ ap (λ (p : TableKey × Entry). p.0) is)) in
                let written : IsSameBut (kept_of e) (kept_of (e.0, w)) (pair_of q) mask layout = record {
                  class = refl;
                  nodes = refl;
                  table = table ∙ ap (λ (p : TableKey × Entry). p.1.table) is;
                  layouts = λ m l has. elim (holds.each m l has) [
                    | inl old ↦ inl (subst (λ (p : TableKey × Entry). Contains p.1.layouts.entries (m, l)) is old)
                    | inr same ↦ inr (under, same.0, same.1)
                  ];
                } in
                (kept_of e, subst (λ (l : List KeptTable). Contains l (kept_of e)) view (Contains-map kept_of es e new.1), subst (λ (k : KeptTable). IsSameBut (kept_of e) k (pair_of q) mask layout) whole written)
          ];
    }

value-at : (es : List (TableKey × Entry)) (at : ℕ) (d : TableKey × Entry) (v : Entry) → slice_get (map (λ e. e.1) es) at ≡ Some v → (get_or es at d).1 ≡ v
value-at [] at d v e = absurd (cc)
value-at (x ∷ es) zero d v e = same_Some x.1 v e
value-at (x ∷ es) (suc at) d v e = value-at es at d v e

-- a layout was put with the table at the key's place
pub gains-at : (q : TableKey) (shown : List KeptTable) (es : List (TableKey × Entry)) (at : ℕ) (v w : Entry) (mask : ℕ) (layout : Layout) (place : Option ℕ)
    → map kept_of es ≡ shown → place ≡ position (key_eq q) (map_keys es) → place ≡ Some at → slice_get (map (λ e. e.1) es) at ≡ Some v
    → w.table ≡ v.table → Holds v.layouts.entries w.layouts.entries mask layout
    → GainsLayout shown (map kept_of (set_value_at es at w)) (pair_of q) mask layout
gains-at q shown es at v w mask layout place view index is value table holds =
    let d : TableKey × Entry = (q, v) in
    let own : (get_or es at d).1 ≡ v = value-at es at d v value in
    gains q shown es at d w mask layout view (sym index ∙ is) (table ∙ ap (λ (e : Entry). e.table) (sym own))
    (subst (λ (e : Entry). Holds e.layouts.entries w.layouts.entries mask layout) (sym own) holds)

pub some-layout : (q : TableKey) (shown : List KeptTable) (es : List (TableKey × Entry)) (found : Entry) (mask : ℕ) (o : Option (Bor Layout))
    → map kept_of es ≡ shown → lookup (key_eq q) es ≡ Some found → option_copied o ≡ lookup (nat_eq mask) found.layouts.entries
    → IfSome o (λ layout. HasLayout shown (pair_of q) mask layout.now)
some-layout q shown es found mask None view e f = tt
some-layout q shown es found mask (Some layout) view e f =
    subst (λ (l : List KeptTable). HasLayout l (pair_of q) mask layout.now) view (layout-of_lookup q es found mask layout.now e (sym f))
