-- What a change of a list and its taking back leave.
use Rattle.std.proofs.Common.{◌≡◌, ℕ, zero, suc, ◌-◌, Bool, true, false, List, [], ◌∷◌, ◌++◌, length, get_or, slice_get, Some, None, refl, sym, ap, ◌∙◌, arith, Result, Ok, Err, Option}
use Rattle.std.specs.List.{insert, remove, position}
use Rattle.std.proofs.lemmas.List.{take_at, length_push}
use Rattle.std.proofs.lemmas.List.Quantifiers.{position-Some}
use Rattle.std.proofs.lemmas.Option.{slice_get-get_or, same_Some, none-some}
use Rattle.std.specs.Prelude.{bytes_eq, option_map, not}
use Rattle.std.specs.Option.{option_map_or}
use Rattle.loom_base.specs.First.{Check, ◌>>◌, ◌>>=◌, require}
use Rattle.loom_formula.proofs.NameLemmas.{position-stored}
use Rattle.loom_topology.specs.declared.kind.Kind.{Kind}
use Rattle.loom_topology.specs.declared.kind.Kind.TheVariants.{Run, Coupler}
use Rattle.loom_topology.specs.Topology.{is_coupler}
use Rattle.loom_project.specs.declared.draft.Draft.{Draft}
use Rattle.loom_project.specs.declared.draft.SegmentDraft.{SegmentDraft}
use Rattle.loom_project.specs.declared.fault.Of.{Of}
use Rattle.loom_edits.specs.declared.fault.EditFault.{EditFault}
use Rattle.loom_edits.specs.Places.{changed_at, is_coupler_at}
use Rattle.loom_edits.specs.Edits.{addressed}
use Rattle.loom_undo.specs.Inverse.{without_last, ◌>>?◌}

-- what was added last is dropped again
pub without_last-push : {A : Type 0} (xs : List A) (x : A) → without_last (xs ++ x ∷ []) ≡ xs
without_last-push xs x = take_at xs (x ∷ []) (length (xs ++ x ∷ []) - 1) (omega (arith, length_push xs x))

-- what was taken out stands at its place again
pub insert-remove : {A : Type 0} (xs : List A) (at : ℕ) (x : A) → slice_get xs at ≡ Some x → insert (remove xs at) at x ≡ xs
insert-remove [] at x is = absurd (none-some x is)
insert-remove (y ∷ ys) zero x is = ap (λ z. z ∷ ys) (sym (same_Some y x is))
insert-remove (y ∷ ys) (suc at) x is = ap (λ zs. y ∷ zs) (insert-remove ys at x is)

-- what was changed is as before
pub changed_back : {A : Type 0} (back change : A → A) (xs : List A) (at : ℕ) (x : A) → slice_get xs at ≡ Some x → back (change x) ≡ x → changed_at back (changed_at change xs at) at ≡ xs
changed_back back change [] at x is same = refl
changed_back back change (y ∷ ys) zero x is same = ap (λ z. z ∷ ys) (cc)
changed_back back change (y ∷ ys) (suc at) x is same = ap (λ zs. y ∷ zs) (changed_back back change ys at x is same)

-- something stands where it is found
pub standing : {A : Type 0} (test : A → Bool) (xs : List A) (at : ℕ) → position test xs ≡ Some at → (x : A) × (slice_get xs at ≡ Some x)
standing test [] at found = absurd (none-some at found)
standing test (y ∷ ys) at found =
    (get_or (y ∷ ys) at y, slice_get-get_or (y ∷ ys) at y (position-Some test (y ∷ ys) at y found).0)

-- what comes of the place of a thing, and the place
pub opened : {B : Type 0} (kind : Of) (name : List ℕ) (place : Option ℕ) (next : ℕ → Result B EditFault) (y : B) → (addressed kind name place >>= next) ≡ Ok y → (at : ℕ) × (place ≡ Some at) × (next at ≡ Ok y)
opened kind name (Some at) next y came = (at, refl, came)
opened kind name None next y came = absurd (cc)

-- what comes after a check that passed
pub passed : {A F : Type 0} (check : Check F) (rest : Result A F) (x : A) → (check >> rest) ≡ Ok x → rest ≡ Ok x
passed (Ok p) rest x came = came
passed (Err e) rest x came = absurd (cc)

pub same_Ok : {A F : Type 0} (x y : A) → ◌≡◌ {A = Result A F} (Ok x) (Ok y) → x ≡ y
same_Ok x y is = cc

-- a name stands where it is found
pub name_standing : (names : List (List ℕ)) (name : List ℕ) (place : ℕ) → position (bytes_eq name) names ≡ Some place → slice_get names place ≡ Some name
name_standing names name place found = position-stored names name place found

-- a test that had to hold held
pub required : {A F : Type 0} (holds : Bool) (failure : F) (rest : Result A F) (x : A) → (require holds failure >> rest) ≡ Ok x → (holds ≡ true) × (rest ≡ Ok x)
required true failure rest x came = (refl, came)
required false failure rest x came = absurd (cc)

-- what is made of a place that is found, and of what stands there
pub found_at : {A B : Type 0} (place : Option ℕ) (get : ℕ → Option A) (make : ℕ → A → B) (k : ℕ) (old : A) → place ≡ Some k → get k ≡ Some old → (place >>? λ k. option_map (make k) (get k)) ≡ Some (make k old)
found_at place get make k old is there = rw is (rw there refl)

-- the same, where it may be made or not
pub found_if : {A B : Type 0} (place : Option ℕ) (get : ℕ → Option A) (make : ℕ → A → Option B) (k : ℕ) (old : A) → place ≡ Some k → get k ≡ Some old → (place >>? λ k. get k >>? make k) ≡ make k old
found_if place get make k old is there = rw is (rw there refl)

-- a kind that isn't a coupler's is a run's
pub run_kind : (kind : Kind) → is_coupler kind ≡ false → (length : ℕ) × (kind ≡ Run length)
run_kind (Run length) is = (length, refl)
run_kind (Coupler price pins) is = absurd (cc)

pub coupler_kind : (kind : Kind) → is_coupler kind ≡ true → (price : ℕ) × (pins : ℕ) × (kind ≡ Coupler price pins)
coupler_kind (Run length) is = absurd (cc)
coupler_kind (Coupler price pins) is = (price, pins, refl)

-- whether a coupler stands at a place, by the kind of what stands there
pub kind_standing : (draft : Draft) (place : ℕ) (old : SegmentDraft) → slice_get draft.segments place ≡ Some old → is_coupler_at draft place ≡ is_coupler old.kind
kind_standing draft place old is = ap (λ o. option_map_or (λ (segment : SegmentDraft). is_coupler segment.kind) o false) is

pub not_true : (b : Bool) → not b ≡ true → b ≡ false
not_true true is = absurd (cc)
not_true false is = refl

-- what comes of a place that is found
pub found_next : {B : Type 0} (place : Option ℕ) (next : ℕ → Option B) (k : ℕ) (y : Option B) → place ≡ Some k → next k ≡ y → (place >>? next) ≡ y
found_next place next k y is came = ap (λ p. p >>? next) is ∙ came
