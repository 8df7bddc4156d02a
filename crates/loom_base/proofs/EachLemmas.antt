-- How a check goes on from what passed, and a check of a list from the elements that passed.
use Rattle.std.proofs.Common.{◌≡◌, ℕ, suc, ◌+◌, ◌<◌, List, [], ◌∷◌, ◌++◌, length, get_or, take, drop, map, refl, sym, ap, ◌∙◌, append_assoc, add-one, Result, Ok, Err, append-nil}
use Rattle.std.proofs.Math.Seq.{take-suc, drop-cons}
use Rattle.std.proofs.lemmas.List.{take_all, take-append-drop, map-append, get_or_default}
use Rattle.loom_base.specs.First.{Check, ◌>>◌, ◌>>=◌, every, each, each_after}

pub then_assoc : {A F : Type 0} (a b : Check F) (c : Result A F) → (a >> (b >> c)) ≡ ((a >> b) >> c)
then_assoc (Ok p) b c = refl
then_assoc (Err e) b c = refl

pub then_fails : {A F : Type 0} (a : Check F) (b : Result A F) (e : F) → a ≡ Err e → (a >> b) ≡ Err e
then_fails a b e h = rw h refl

pub then_passes : {A F : Type 0} (a : Check F) (b : Result A F) → a ≡ Ok tt → (a >> b) ≡ b
then_passes a b h = rw h refl

-- what came through a check passed it
pub then-parts : {A F : Type 0} (a : Check F) (b : Result A F) (x : A) → (a >> b) ≡ Ok x → (a ≡ Ok tt) × (b ≡ Ok x)
then-parts (Ok p) b x came = (refl, came)
then-parts (Err e) b x came = absurd (cc)

-- what came of a value, and the value
pub next-parts : {A B F : Type 0} (a : Result A F) (next : A → Result B F) (y : B) → (a >>= next) ≡ Ok y → (x : A) × (a ≡ Ok x) × (next x ≡ Ok y)
next-parts (Ok x) next y came = (x, refl, came)
next-parts (Err e) next y came = absurd (cc)

pub each_after-append : {A F : Type 0} (check : List A → A → Check F) (before xs ys : List A) → each_after check before (xs ++ ys) ≡ (each_after check before xs >> each_after check (before ++ xs) ys)
each_after-append check before [] ys = ap (λ z. each_after check z ys) (sym (append-nil before))
each_after-append check before (x ∷ xs) ys =
    ap (λ z. check before x >> z) (each_after-append check (before ++ x ∷ []) xs ys)
    ∙ ap (λ z. check before x >> (each_after check (before ++ x ∷ []) xs >> each_after check z ys)) (append_assoc before (x ∷ []) xs)
    ∙ then_assoc (check before x) (each_after check (before ++ x ∷ []) xs) (each_after check (before ++ x ∷ xs) ys)

pub every-append : {A F : Type 0} (check : A → Check F) (xs ys : List A) → every check (xs ++ ys) ≡ (every check xs >> every check ys)
every-append check [] ys = refl
every-append check (x ∷ xs) ys = ap (λ z. check x >> z) (every-append check xs ys) ∙ then_assoc (check x) (every check xs) (every check ys)

-- one more element passes, or is the first that fails
pub every-push : {A F : Type 0} (check : A → Check F) (xs : List A) (x : A) → every check xs ≡ Ok tt → check x ≡ Ok tt → every check (xs ++ x ∷ []) ≡ Ok tt
every-push check xs x front here =
    every-append check xs (x ∷ []) ∙ then_passes (every check xs) (check x >> Ok tt) front ∙ then_passes (check x) (Ok tt) here

pub every-stop : {A F : Type 0} (check : A → Check F) (xs : List A) (x : A) (ys : List A) (e : F) → every check xs ≡ Ok tt → check x ≡ Err e → every check (xs ++ x ∷ ys) ≡ Err e
every-stop check xs x ys e front here =
    every-append check xs (x ∷ ys) ∙ then_passes (every check xs) (check x >> every check ys) front ∙ then_fails (check x) (every check ys) e here

-- one more element is taken
pub take_next : {A : Type 0} (xs : List A) (i : ℕ) (x : A) → x ≡ get_or xs i x → i < length xs → take (i + 1) xs ≡ take i xs ++ x ∷ []
take_next xs i x is lt = rw add-one (take-suc xs i x lt ∙ ap (λ y. take i xs ++ y ∷ []) (sym is))

pub map_next : {A B : Type 0} (f : A → B) (xs : List A) (i : ℕ) (x : A) → x ≡ get_or xs i x → i < length xs → map f (take (i + 1) xs) ≡ map f (take i xs) ++ f x ∷ []
map_next f xs i x is lt = ap (map f) (take_next xs i x is lt) ∙ map-append f (take i xs) (x ∷ [])

-- the list falls into the elements before, the one at hand and the rest
pub parted : {A : Type 0} (xs : List A) (i : ℕ) (x : A) → x ≡ get_or xs i x → i < length xs → xs ≡ take i xs ++ x ∷ drop (suc i) xs
parted xs i x is lt = sym (take-append-drop i xs) ∙ ap (λ ys. take i xs ++ ys) (drop-cons xs i x lt ∙ ap (λ y. y ∷ drop (suc i) xs) (sym is))

-- where those before it pass, and it does, those up to it pass
pub each_next : {A F : Type 0} (check : List A → A → Check F) (xs : List A) (i : ℕ) (x : A) → x ≡ get_or xs i x → i < length xs → each check (take i xs) ≡ Ok tt → check (take i xs) x ≡ Ok tt → each check (take (i + 1) xs) ≡ Ok tt
each_next check xs i x is lt front here =
    ap (each check) (take_next xs i x is lt) ∙ each_after-append check [] (take i xs) (x ∷ [])
    ∙ then_passes (each check (take i xs)) (check (take i xs) x >> Ok tt) front ∙ then_passes (check (take i xs) x) (Ok tt) here

-- where those before it pass, and it fails, the list fails so
pub each_stops : {A F : Type 0} (check : List A → A → Check F) (xs : List A) (i : ℕ) (x : A) (failure : F) → x ≡ get_or xs i x → i < length xs → each check (take i xs) ≡ Ok tt → check (take i xs) x ≡ Err failure → each check xs ≡ Err failure
each_stops check xs i x failure is lt front here =
    ap (each check) (parted xs i x is lt) ∙ each_after-append check [] (take i xs) (x ∷ drop (suc i) xs)
    ∙ then_passes (each check (take i xs)) _ front
    ∙ then_fails (check (take i xs) x) (each_after check (take i xs ++ x ∷ []) (drop (suc i) xs)) failure here

pub every_next : {A F : Type 0} (check : A → Check F) (xs : List A) (i : ℕ) (x : A) → x ≡ get_or xs i x → i < length xs → every check (take i xs) ≡ Ok tt → check x ≡ Ok tt → every check (take (i + 1) xs) ≡ Ok tt
every_next check xs i x is lt front here =
    ap (every check) (take_next xs i x is lt) ∙ every-append check (take i xs) (x ∷ [])
    ∙ then_passes (every check (take i xs)) (check x >> Ok tt) front ∙ then_passes (check x) (Ok tt) here

pub every_stops : {A F : Type 0} (check : A → Check F) (xs : List A) (i : ℕ) (x : A) (failure : F) → x ≡ get_or xs i x → i < length xs → every check (take i xs) ≡ Ok tt → check x ≡ Err failure → every check xs ≡ Err failure
every_stops check xs i x failure is lt front here =
    ap (every check) (parted xs i x is lt) ∙ every-append check (take i xs) (x ∷ drop (suc i) xs)
    ∙ then_passes (every check (take i xs)) _ front
    ∙ then_fails (check x) (every check (drop (suc i) xs)) failure here

pub ruleset each_steps = (each_next, each_stops, take_next, map_next, take_all)

pub ruleset every_steps = (every_next, every_stops, take_all)

-- a list within its limit fails at its first element that fails
pub list_stops : {A F : Type 0} (limit : Check F) (check : List A → A → Check F) (xs : List A) (i : ℕ) (x : A) (failure : F) → Ok tt ≡ limit → x ≡ get_or xs i x → i < length xs → each check (take i xs) ≡ Ok tt → check (take i xs) x ≡ Err failure → (limit >> each check xs) ≡ Err failure
list_stops limit check xs i x failure few is lt front here =
    then_passes limit (each check xs) (sym few) ∙ each_stops check xs i x failure is lt front here

-- the same of numbers, which are read with the default 0
pub every_next_number : {F : Type 0} (check : ℕ → Check F) (xs : List ℕ) (i : ℕ) → i < length xs → every check (take i xs) ≡ Ok tt → check (get_or xs i 0) ≡ Ok tt → every check (take (i + 1) xs) ≡ Ok tt
every_next_number check xs i lt front here = every_next check xs i (get_or xs i 0) (get_or_default xs i 0 (get_or xs i 0) lt) lt front here

pub every_stops_number : {F : Type 0} (check : ℕ → Check F) (xs : List ℕ) (i : ℕ) (failure : F) → i < length xs → every check (take i xs) ≡ Ok tt → check (get_or xs i 0) ≡ Err failure → every check xs ≡ Err failure
every_stops_number check xs i failure lt front here = every_stops check xs i (get_or xs i 0) failure (get_or_default xs i 0 (get_or xs i 0) lt) lt front here

-- what is made of each element, with one more
pub made_next : {A B C : Type 0} (view : A → C) (f : B → C) (made after : List A) (one : A) (xs : List B) (i : ℕ) (x : B) → x ≡ get_or xs i x → i < length xs → map view made ≡ map f (take i xs) → view one ≡ f x → after ≡ made ++ one ∷ [] → map view after ≡ map f (take (i + 1) xs)
made_next view f made after one xs i x is lt was here added =
    ap (map view) added ∙ map-append view made (one ∷ []) ∙ ap (λ cs. cs ++ view one ∷ []) was
    ∙ ap (λ c. map f (take i xs) ++ c ∷ []) here ∙ sym (map_next f xs i x is lt)
