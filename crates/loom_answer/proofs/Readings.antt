-- Readings that go on behind what was read before.
use Rattle.std.proofs.Common.{◌≡◌, ℕ, ◌+◌, ◌<◌, List, [], ◌∷◌, ◌++◌, map, drop, length, get_or, Result, Ok, Err, refl, sym, ap, subst, ◌∙◌}
use Rattle.std.specs.Result.{result_map_both}
use Rattle.std.proofs.lemmas.List.{append_assoc, drop_more, drop-map}
use Rattle.serde_json.specs.View.{view}
use Rattle.serde_json.specs.declared.value.Value.{Value}
use Rattle.loom_base.specs.First.{◌>>=◌}
use Rattle.loom_json.specs.Forms.{Gives, under}
use Rattle.loom_json.specs.declared.path.ShapeStop.{ShapeStop}
use Rattle.loom_json.specs.declared.path.ShapeStop.TheVariants.{WrongShape, NoMemory}
use Rattle.loom_json.proofs.Lists.{with_front}
use Rattle.loom_answer.specs.ReadingSteps.{Reaches}

front_front : {Y : Type 0} (front piece : List Y) (rest : Result (List Y) (List ℕ)) → with_front front (with_front piece rest) ≡ with_front (front ++ piece) rest
front_front front piece (Ok ys) = ap Ok (sym (append_assoc front piece ys))
front_front front piece (Err path) = refl

same_ok : {T : Type 0} (x y : T) (r : Result T (List ℕ)) → Ok x ≡ r → r ≡ Ok y → x ≡ y
same_ok x y r one other = cc

same_err : {T : Type 0} (x y : List ℕ) (r : Result T (List ℕ)) → Err x ≡ r → r ≡ Err y → x ≡ y
same_err x y r one other = cc

-- a call gave the reading of what comes next, behind the front
abbrev pub GivesNext : {X Y : Type 0} → List Y → (X → List Y) → Result (Unit {0}) ShapeStop → List Y → Result X (List ℕ) → Type 0
GivesNext front piece result new reading = Gives (result_map_both (λ done. new) (λ stop. stop) result) (reading >>= λ x. Ok (front ++ piece x))

-- what a call gave, told at a part
abbrev pub Told : List ℕ → Result (Unit {0}) ShapeStop → Result (Unit {0}) ShapeStop → Type 0
Told part result told = (form : Result (Unit {0}) (List ℕ)) → Gives result form → Gives told (under part form)

module _ {X Y : Type 0} (front new : List Y) (piece : X → List Y) (part : List ℕ) (rest whole : Result (List Y) (List ℕ)) where
  abbrev Follows : Result X (List ℕ) → Type 0
  Follows reading = whole ≡ with_front front (under part reading >>= λ x. with_front (piece x) rest)

  -- what comes next was read, and the rest is left behind it
  pub went_on : (result : Result (Unit {0}) ShapeStop) (reading : Result X (List ℕ)) → GivesNext front piece result new reading → Told part result (Ok tt) → Follows reading → with_front new rest ≡ whole
  went_on (Ok done) (Ok x) gives told is =
      let e : front ++ piece x ≡ new = same_ok (front ++ piece x) new (Ok new) gives refl in
      sym (is ∙ front_front front (piece x) rest ∙ ap (λ ys. with_front ys rest) e)
  went_on (Ok done) (Err path) gives told is = absurd (cc)
  went_on (Err NoMemory) reading gives told is = absurd (let h = told (Err []) tt in cc)
  went_on (Err (WrongShape path)) reading gives told is = absurd (let h = told (Err path) refl in cc)

  -- what comes next has a failure, which is the whole reading's
  pub failed_next : (result : Result (Unit {0}) ShapeStop) (stop : ShapeStop) (reading : Result X (List ℕ)) → GivesNext front piece result new reading → Told part result (Err stop) → Follows reading → Gives {X = List Y} (Err stop) whole
  failed_next result NoMemory reading gives told is = tt
  failed_next (Ok done) (WrongShape path) reading gives told is = absurd (let h = told (Ok tt) refl in cc)
  failed_next (Err NoMemory) (WrongShape path) reading gives told is = absurd (let h = told (Ok tt) tt in cc)
  failed_next (Err (WrongShape at)) (WrongShape path) (Ok x) gives told is = absurd (cc)
  failed_next (Err (WrongShape at)) (WrongShape path) (Err place) gives told is =
      let at_place : place ≡ at = same_err {T = List Y} place at (Err at) gives refl in
      let at_part : 47 ∷ (part ++ at) ≡ path = same_err {T = Unit {0}} _ path (Err path) (told (Err at) refl) refl in
      is ∙ ap Err (ap (λ p. 47 ∷ (part ++ p)) at_place ∙ at_part)

  -- what was read stands behind the front
  pub new_is : (result : Result (Unit {0}) ShapeStop) (reading : Result X (List ℕ)) → GivesNext front piece result new reading → Told part result (Ok tt) → (x : X) × (new ≡ front ++ piece x)
  new_is (Ok done) (Ok x) gives told = (x, sym (same_ok (front ++ piece x) new (Ok new) gives refl))
  new_is (Ok done) (Err path) gives told = absurd (cc)
  new_is (Err NoMemory) reading gives told = absurd (let h = told (Err []) tt in cc)
  new_is (Err (WrongShape path)) reading gives told = absurd (let h = told (Err path) refl in cc)

-- the elements that are left, the next one first
pub elements_next : (elements : List Value) (position : ℕ) (element : Value) → position < length elements → element ≡ get_or elements position element
    → drop position (map view elements) ≡ view element ∷ drop (position + 1) (map view elements)
elements_next elements position element within is =
    drop-map view position elements ∙ ap (map view) (drop_more elements position element within ∙ ap (λ v. v ∷ drop (position + 1) elements) (sym is))
    ∙ ap (λ vs. view element ∷ vs) (sym (drop-map view (position + 1) elements))

-- a failure that a call passes on
pub passed_on : {X : Type 0} (result : Result X ShapeStop) (stop : ShapeStop) (whole : Result X (List ℕ)) → (e : ShapeStop) × (result ≡ Err e) × (e ≡ stop) → Gives {X = X} (Err stop) whole → Gives result whole
passed_on result stop whole (e, is, same) gives = subst (λ r. Gives r whole) (sym (is ∙ ap Err same)) gives

-- a failure of a call that changes something
pub passed_on_changed : {Y : Type 0} (new : Y) (result : Result (Unit {0}) ShapeStop) (stop : ShapeStop) (whole : Result Y (List ℕ)) → (e : ShapeStop) × (result ≡ Err e) × (e ≡ stop) → Gives {X = Y} (Err stop) whole
    → Gives (result_map_both (λ done. new) (λ s. s) result) whole
passed_on_changed new result stop whole (e, is, same) gives = subst (λ r. Gives (result_map_both (λ done. new) (λ s. s) r) whole) (sym (is ∙ ap Err same)) gives

-- a failure that a call passes on has the whole reading
pub reaches_failure : {Y : Type 0} (result : Result (Unit {0}) ShapeStop) (stop : ShapeStop) (next whole : Result Y (List ℕ)) → (e : ShapeStop) × (result ≡ Err e) × (e ≡ stop) → Gives {X = Y} (Err stop) whole → Reaches result next whole
reaches_failure result stop next whole (e, is, same) gives = subst (λ r. Reaches r next whole) (sym (is ∙ ap Err same)) gives

-- a failure of a reading is one of what is made of it
pub fails_then : {X Y : Type 0} (stop : ShapeStop) (reading : Result X (List ℕ)) (more : X → Result Y (List ℕ)) → Gives {X = X} (Err stop) reading → Gives {X = Y} (Err stop) (reading >>= more)
fails_then NoMemory reading more gives = tt
fails_then (WrongShape path) (Ok x) more gives = absurd (cc)
fails_then (WrongShape path) (Err place) more gives = ap Err (same_err {T = _} place path (Err path) gives refl)

module _ {X Y : Type 0} (front : List Y) (piece : X → List Y) (next : Result X (List ℕ)) (rest whole : Result (List Y) (List ℕ)) (follows : whole ≡ with_front front (next >>= λ x. with_front (piece x) rest)) where
  -- the next thing was read
  pub read_on : (x : X) → next ≡ Ok x → with_front (front ++ piece x) rest ≡ whole
  read_on x is = sym (follows ∙ ap (λ r. with_front front (r >>= λ x. with_front (piece x) rest)) is ∙ front_front front (piece x) rest)

  -- the next thing has a failure
  pub read_fails : (stop : ShapeStop) → Gives {X = X} (Err stop) next → Gives {X = List Y} (Err stop) whole
  read_fails NoMemory gives = tt
  read_fails (WrongShape path) gives = follows ∙ ap (λ r. with_front front (r >>= λ x. with_front (piece x) rest)) gives
