use Rattle.std.proofs.Common.{◌≡◌, ℕ, List, [], ◌∷◌, ◌||◌, Bool, true, false, map, Ordering, Less, Equal, Greater, true≢false, refl}
use Rattle.std.specs.Ordering.{match_ordering}
use Rattle.serde_json.specs.Data.{Data, Members, no_members, member, put}
use Rattle.serde_json.specs.View.{items_of}
use Rattle.serde_json.specs.Written.{has_float, items_have_float, members_have_float}

neither : (a b : Bool) → a ≡ false → b ≡ false → (a || b) ≡ false
neither a b first second = rw (first, second)

first_hasn't : (a b : Bool) → (a || b) ≡ false → a ≡ false
first_hasn't true b is = absurd (true≢false is)
first_hasn't false b is = refl

rest_hasn't : (a b : Bool) → (a || b) ≡ false → b ≡ false
rest_hasn't true b is = absurd (true≢false is)
rest_hasn't false b is = is

-- the values of a list have no float where none of its elements' has
pub items_have_float-map : {X : Type 0} (shows : X → Data) → ((x : X) → has_float (shows x) ≡ false) → (xs : List X) → items_have_float (items_of (map shows xs)) ≡ false
items_have_float-map shows whole [] = refl
items_have_float-map shows whole (x ∷ xs) = neither _ _ (whole x) (items_have_float-map shows whole xs)

members_have_float-put_at : (order : Ordering) (key other : List ℕ) (d e : Data) (ms : Members) → has_float d ≡ false → has_float e ≡ false → members_have_float ms ≡ false → members_have_float (put key d ms) ≡ false
    → members_have_float (match_ordering order (member key d (member other e ms)) (member other d ms) (member other e (put key d ms))) ≡ false
members_have_float-put_at Less key other d e ms whole first rest more = neither _ _ whole (neither _ _ first rest)
members_have_float-put_at Equal key other d e ms whole first rest more = neither _ _ whole rest
members_have_float-put_at Greater key other d e ms whole first rest more = neither _ _ first more

-- members have no float after a value without one is put among them
pub members_have_float-put : (key : List ℕ) (d : Data) (ms : Members) → has_float d ≡ false → members_have_float ms ≡ false → members_have_float (put key d ms) ≡ false
members_have_float-put key d no_members whole rest = neither _ _ whole rest
members_have_float-put key d (member other e ms) whole rest =
    let first = first_hasn't (has_float e) (members_have_float ms) rest in
    let later = rest_hasn't (has_float e) (members_have_float ms) rest in
    members_have_float-put_at _ key other d e ms whole first later (members_have_float-put key d ms whole later)
