-- Values whose text is read as they are: whole numbers, short words, objects with rising keys, and few layers.
use Rattle.std.proofs.Common.{◌≡◌, ℕ, zero, suc, ◌^◌, ◌<◌, ◌≤◌, List, [], ◌∷◌, ◌++◌, Bool, true, false, ◌&&◌, Some, option_map, option_and_then, map, refl, ap, ap₂, ◌∙◌, sym, arith, decimal, Ordering, Less, Equal, Greater}
use Rattle.std.specs.Prelude.{⊤}
use Rattle.std.specs.List.{All, list_all}
use Rattle.std.specs.Ordering.{nat_cmp, is_gt, match_ordering}
use Rattle.std.specs.Cmp.Lexicographic.{slice_cmp}
use Rattle.std.specs.Str.{IsUtf8}
use Rattle.std.proofs.lemmas.Bool.{and_parts}
use Rattle.std.proofs.lemmas.Str.{IsUtf8-append, IsUtf8-nil, IsUtf8-from_ascii}
use Rattle.std.proofs.lemmas.Fmt.{IsAscii-decimal}
use Rattle.std.proofs.lemmas.List.Elements.{All-head, All-tail}
use Rattle.json.specs.Tree as tree
use Rattle.json.proofs.Printed.Decimals.{IsNumber-decimal}
use Rattle.json.proofs.Printed.Utf8.{are_ascii, IsUtf8-are_ascii, IsUtf8-quoted, IsUtf8-boolean}
use Rattle.serde_json.specs.Data.{unsigned, negative, float, Data, null, boolean, number, string, array, object, Items, no_items, item, Members, no_members, member, put}
use Rattle.serde_json.specs.View.{items_of}
use Rattle.serde_json.specs.Read.{of_json, of_items, of_members}
use Rattle.serde_json.specs.Written.{outline, items_outline, members_outline, comma_if, compact_text, items_text, members_text}
use Rattle.serde_json.proofs.Numbers.{number_of-decimal}

-- whether a key stands behind the others
abbrev is_behind : List (List ℕ) → List ℕ → Bool
is_behind before key = list_all (λ other. is_gt (slice_cmp nat_cmp key other)) before

-- whether keys are ASCII and each stands behind the ones before it
abbrev pub rises : List (List ℕ) → Members → Bool
rises before no_members = true
rises before (member key d ms) = are_ascii key && (is_behind before key && rises (before ++ key ∷ []) ms)

-- a value that is printed plainly, nested no deeper than the number
abbrev mutual
  pub IsPlain : Data → ℕ → Type 0
  IsPlain null n = ⊤
  IsPlain (boolean b) n = ⊤
  IsPlain (number (unsigned k)) n = k < 2 ^ 64
  IsPlain (number (negative z)) n = ⊥
  IsPlain (number (float x)) n = ⊥
  IsPlain (string s) n = are_ascii s ≡ true
  IsPlain (array ds) zero = ⊥
  IsPlain (array ds) (suc n) = ItemsArePlain ds n
  IsPlain (object ms) zero = ⊥
  IsPlain (object ms) (suc n) = (rises [] ms ≡ true) × MembersArePlain ms n

  pub ItemsArePlain : Items → ℕ → Type 0
  ItemsArePlain no_items n = ⊤
  ItemsArePlain (item d ds) n = IsPlain d n × ItemsArePlain ds n

  pub MembersArePlain : Members → ℕ → Type 0
  MembersArePlain no_members n = ⊤
  MembersArePlain (member key d ms) n = IsPlain d n × MembersArePlain ms n

-- a list of things that are shown plainly is shown plainly
pub items_plain : {X : Type 0} (shows : X → Data) (n : ℕ) (xs : List X) → All (λ x. IsPlain (shows x) n) xs → ItemsArePlain (items_of (map shows xs)) n
items_plain shows n [] plain = tt
items_plain shows n (x ∷ xs) plain = (All-head (λ x. IsPlain (shows x) n) x xs plain, items_plain shows n xs (All-tail (λ x. IsPlain (shows x) n) x xs plain))

-- ---- members in order go in one behind another

abbrev snoc : Members → List ℕ → Data → Members
snoc no_members key d = member key d no_members
snoc (member other e ms) key d = member other e (snoc ms key d)

abbrev join : Members → Members → Members
join no_members ns = ns
join (member other e ms) ns = member other e (join ms ns)

abbrev keys : Members → List (List ℕ)
keys no_members = []
keys (member other e ms) = other ∷ keys ms

join-snoc : (ms : Members) (key : List ℕ) (d : Data) (ns : Members) → join (snoc ms key d) ns ≡ join ms (member key d ns)
join-snoc no_members key d ns = refl
join-snoc (member other e ms) key d ns = ap (member other e) (join-snoc ms key d ns)

join-no_members : (ms : Members) → join ms no_members ≡ ms
join-no_members no_members = refl
join-no_members (member other e ms) = ap (member other e) (join-no_members ms)

keys-snoc : (ms : Members) (key : List ℕ) (d : Data) → keys (snoc ms key d) ≡ keys ms ++ key ∷ []
keys-snoc no_members key d = refl
keys-snoc (member other e ms) key d = ap (λ ks. other ∷ ks) (keys-snoc ms key d)

behind : {X : Type 0} (o : Ordering) (a b c : X) → is_gt o ≡ true → match_ordering o a b c ≡ c
behind Less a b c e = cc
behind Equal a b c e = cc
behind Greater a b c e = refl

put-behind : (ms : Members) (key : List ℕ) (d : Data) → is_behind (keys ms) key ≡ true → put key d ms ≡ snoc ms key d
put-behind no_members key d e = refl
put-behind (member other f ms) key d e =
    let p = and_parts (is_gt (slice_cmp nat_cmp key other)) (is_behind (keys ms) key) e in
    behind (slice_cmp nat_cmp key other) _ _ _ p.0 ∙ ap (member other f) (put-behind ms key d p.1)

-- ---- a plain value is read from its outline

mutual
  pub of_json-outline : (d : Data) (n : ℕ) → IsPlain d n → of_json (outline d) ≡ Some d
  of_json-outline null n plain = refl
  of_json-outline (boolean b) n plain = refl
  of_json-outline (number (unsigned k)) n plain = ap (option_map number) (number_of-decimal k plain)
  of_json-outline (number (negative z)) n plain = absurd plain
  of_json-outline (number (float x)) n plain = absurd plain
  of_json-outline (string s) n plain = refl
  of_json-outline (array ds) zero plain = absurd plain
  of_json-outline (array ds) (suc n) plain = ap (option_map array) (of_items-outline ds n plain)
  of_json-outline (object ms) zero plain = absurd plain
  of_json-outline (object ms) (suc n) plain = ap (option_map object) (of_members-outline ms n no_members plain.0 plain.1)

  of_items-outline : (ds : Items) (n : ℕ) → ItemsArePlain ds n → of_items (items_outline ds) ≡ Some ds
  of_items-outline no_items n plain = refl
  of_items-outline (item d ds) n plain =
      ap₂ (λ first rest. option_and_then (λ e. option_map (item e) rest) first) (of_json-outline d n plain.0) (of_items-outline ds n plain.1)

  of_members-outline : (ms : Members) (n : ℕ) (found : Members) → rises (keys found) ms ≡ true → MembersArePlain ms n → of_members (members_outline ms) found ≡ Some (join found ms)
  of_members-outline no_members n found order plain = ap Some (sym (join-no_members found))
  of_members-outline (member key d ms) n found order plain =
      let p = and_parts (are_ascii key) _ order in
      let q = and_parts (is_behind (keys found) key) _ p.1 in
      let later : rises (keys (snoc found key d)) ms ≡ true = ap (λ ks. rises ks ms) (keys-snoc found key d) ∙ q.1 in
      ap (option_and_then (λ e. of_members (members_outline ms) (put key e found))) (of_json-outline d n plain.0)
      ∙ ap (of_members (members_outline ms)) (put-behind found key d q.0)
      ∙ of_members-outline ms n (snoc found key d) later plain.1
      ∙ ap Some (join-snoc found key d ms)

-- its numbers are numbers of JSON
mutual
  pub HasNumbers-outline : (d : Data) (n : ℕ) → IsPlain d n → tree.HasNumbers (outline d)
  HasNumbers-outline null n plain = tt
  HasNumbers-outline (boolean b) n plain = tt
  HasNumbers-outline (number (unsigned k)) n plain = IsNumber-decimal k plain
  HasNumbers-outline (number (negative z)) n plain = absurd plain
  HasNumbers-outline (number (float x)) n plain = absurd plain
  HasNumbers-outline (string s) n plain = tt
  HasNumbers-outline (array ds) zero plain = absurd plain
  HasNumbers-outline (array ds) (suc n) plain = ItemsHaveNumbers-outline ds n plain
  HasNumbers-outline (object ms) zero plain = absurd plain
  HasNumbers-outline (object ms) (suc n) plain = MembersHaveNumbers-outline ms n plain.1

  ItemsHaveNumbers-outline : (ds : Items) (n : ℕ) → ItemsArePlain ds n → tree.ItemsHaveNumbers (items_outline ds)
  ItemsHaveNumbers-outline no_items n plain = tt
  ItemsHaveNumbers-outline (item d ds) n plain = (HasNumbers-outline d n plain.0, ItemsHaveNumbers-outline ds n plain.1)

  MembersHaveNumbers-outline : (ms : Members) (n : ℕ) → MembersArePlain ms n → tree.MembersHaveNumbers (members_outline ms)
  MembersHaveNumbers-outline no_members n plain = tt
  MembersHaveNumbers-outline (member key d ms) n plain = (HasNumbers-outline d n plain.0, MembersHaveNumbers-outline ms n plain.1)

-- it nests no deeper than the number
mutual
  pub depth-outline : (d : Data) (n : ℕ) → IsPlain d n → tree.depth (outline d) ≤ n
  depth-outline null n plain = omega arith
  depth-outline (boolean b) n plain = omega arith
  depth-outline (number (unsigned k)) n plain = omega arith
  depth-outline (number (negative z)) n plain = absurd plain
  depth-outline (number (float x)) n plain = absurd plain
  depth-outline (string s) n plain = omega arith
  depth-outline (array ds) zero plain = absurd plain
  depth-outline (array ds) (suc n) plain = omega (arith, items_depth-outline ds n plain)
  depth-outline (object ms) zero plain = absurd plain
  depth-outline (object ms) (suc n) plain = omega (arith, members_depth-outline ms n plain.1)

  items_depth-outline : (ds : Items) (n : ℕ) → ItemsArePlain ds n → tree.items_depth (items_outline ds) ≤ n
  items_depth-outline no_items n plain = omega arith
  items_depth-outline (item d ds) n plain = omega (arith, depth-outline d n plain.0, items_depth-outline ds n plain.1)

  members_depth-outline : (ms : Members) (n : ℕ) → MembersArePlain ms n → tree.members_depth (members_outline ms) ≤ n
  members_depth-outline no_members n plain = omega arith
  members_depth-outline (member key d ms) n plain = omega (arith, depth-outline d n plain.0, members_depth-outline ms n plain.1)

-- its text is UTF-8
utf8_comma : (later : Bool) → IsUtf8 (comma_if later)
utf8_comma true = IsUtf8-are_ascii (44 ∷ []) refl
utf8_comma false = IsUtf8-nil

mutual
  pub IsUtf8-compact_text : (d : Data) (n : ℕ) → IsPlain d n → IsUtf8 (compact_text d)
  IsUtf8-compact_text null n plain = IsUtf8-are_ascii _ refl
  IsUtf8-compact_text (boolean b) n plain = IsUtf8-boolean b
  IsUtf8-compact_text (number (unsigned k)) n plain = IsUtf8-from_ascii (decimal k) (IsAscii-decimal k plain)
  IsUtf8-compact_text (number (negative z)) n plain = absurd plain
  IsUtf8-compact_text (number (float x)) n plain = absurd plain
  IsUtf8-compact_text (string s) n plain = IsUtf8-quoted s (IsUtf8-are_ascii s plain)
  IsUtf8-compact_text (array ds) zero plain = absurd plain
  IsUtf8-compact_text (array ds) (suc n) plain = IsUtf8-append (91 ∷ []) _ (IsUtf8-are_ascii (91 ∷ []) refl) (IsUtf8-items_text false ds n plain)
  IsUtf8-compact_text (object ms) zero plain = absurd plain
  IsUtf8-compact_text (object ms) (suc n) plain = IsUtf8-append (123 ∷ []) _ (IsUtf8-are_ascii (123 ∷ []) refl) (IsUtf8-members_text false [] ms n plain.0 plain.1)

  IsUtf8-items_text : (later : Bool) (ds : Items) (n : ℕ) → ItemsArePlain ds n → IsUtf8 (items_text later ds)
  IsUtf8-items_text later no_items n plain = IsUtf8-are_ascii (93 ∷ []) refl
  IsUtf8-items_text later (item d ds) n plain =
      IsUtf8-append _ _ (utf8_comma later) (IsUtf8-append _ _ (IsUtf8-compact_text d n plain.0) (IsUtf8-items_text true ds n plain.1))

  IsUtf8-members_text : (later : Bool) (before : List (List ℕ)) (ms : Members) (n : ℕ) → rises before ms ≡ true → MembersArePlain ms n → IsUtf8 (members_text later ms)
  IsUtf8-members_text later before no_members n order plain = IsUtf8-are_ascii (125 ∷ []) refl
  IsUtf8-members_text later before (member key d ms) n order plain =
      let p = and_parts (are_ascii key) _ order in
      let q = and_parts (is_behind before key) _ p.1 in
      let rest = IsUtf8-append _ _ (IsUtf8-compact_text d n plain.0) (IsUtf8-members_text true (before ++ key ∷ []) ms n q.1 plain.1) in
      let named = IsUtf8-quoted key (IsUtf8-are_ascii key p.0) in
      IsUtf8-append _ _ (utf8_comma later) (IsUtf8-append _ _ named (IsUtf8-append (58 ∷ []) _ (IsUtf8-are_ascii (58 ∷ []) refl) rest))
