use Rattle.std.proofs.Common.{◌≡◌, ℕ, List, [], ◌∷◌, ◌||◌, map, String, Global, Bor, refl, ap}
use Rattle.std.specs.List.{list_all, list_any}
use Rattle.std.specs.Map.{keys_of}
use Rattle.std.specs.Str.{bytes_eq}
use Rattle.std.specs.String.{string_bytes}
use Rattle.serde_json.specs.View.{view, items_view, members_view}
use Rattle.serde_json.specs.declared.value.Value.{Value}
use Rattle.loom_json.specs.Fields.{list_of, is_among, has_keys_within}

pub list_of-items_view : (vs : List Value) → list_of (items_view vs) ≡ map view vs
list_of-items_view [] = refl
list_of-items_view (v ∷ vs) = ap (λ ds. view v ∷ ds) (list_of-items_view vs)

is_among-map : (keys : List (Bor (List ℕ))) (key : List ℕ) → is_among (map (λ listed. listed.now) keys) key ≡ list_any (λ listed. bytes_eq listed.now key) keys
is_among-map [] key = refl
is_among-map (k ∷ keys) key = ap (λ found. bytes_eq k.now key || found) (is_among-map keys key)

pub has_keys_within-members_view : (keys : List (Bor (List ℕ))) (es : List (String Global × Value))
    → has_keys_within (map (λ listed. listed.now) keys) (members_view es) ≡ list_all (λ key. list_any (λ listed. bytes_eq listed.now (string_bytes key)) keys) (keys_of es)
has_keys_within-members_view keys [] = refl
has_keys_within-members_view keys (e ∷ es) = rw (is_among-map keys (string_bytes e.0), has_keys_within-members_view keys es)

pub ruleset listed = (list_of-items_view, has_keys_within-members_view)
