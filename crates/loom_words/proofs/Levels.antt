-- What the words of each level of the command come to where nothing fails.
use Rattle.std.proofs.Common.{◌≡◌, ◌∙◌, ◌⊎◌, inl, inr, ⊎_elim, ℕ, Bool, cond, true, false, refl, sym, ap, ap₂, subst, List, [], ◌∷◌, Option, Some, None, is_some, ◌&&◌, ◌||◌, codes}
use Rattle.std.specs.Prelude.{fold}
use Rattle.std.specs.List.{list_all}
use Rattle.clap.specs.declared.error.kind.ErrorKind.{ErrorKind}
use Rattle.clap.specs.Kinds.{Kinds, or_else}
use Rattle.clap.specs.ValueTests.{is_unsigned_in}
use Rattle.clap.specs.Walk.{Held, Names, Row, Text, Walk, arg_by_long, arg_by_short, finished, nothing_held, rows_after, settled, value, walk, walk_from, walked}
use Rattle.clap.specs.Simple.{Shape, built_leaf, inherited, new_shape}
use Rattle.clap.specs.Faults.{check_fault, defaults_fault, level_fault, settle_fault, step_fault, turn_fault, walk_fault}
use Rattle.clap.specs.Takes.{default_passes, is_valid, level_passes, settle_passes, turn_passes, walk_passes}
use Rattle.clap.proofs.OnLiterals.{clap_on_literals}
use Rattle.loom_words.specs.Command.{loom_app, trial_shape}
use Rattle.loom_words.specs.Jobs.{number_given}
use Rattle.loom_words.proofs.Flagless.{between, has_fault, holding, or_parts, word_goes}

-- a walk from here that fails nothing passes, and ends in a state that fits
abbrev Ends : Shape → Names → Walk → List Text → (Walk → Type 0) → Type 0
Ends s names w words P = (walk_passes s names w words ≡ true) × P (fold (walked s.rules names) w words)

-- one more word of a walk
one_more : (s : Shape) (names : Names) (w after : Walk) (word : Text) (rest : List Text) (P : Walk → Type 0) → walked s.rules names w word ≡ after
    → turn_passes s names w word ≡ true → Ends s names after rest P → Ends s names w (word ∷ rest) P
unfolding walk_passes
one_more s names w after word rest P is passes ends =
    (rw (passes, is) ends.0, subst (λ (v : Walk). P (fold (walked s.rules names) v rest)) (sym is) ends.1)

-- the walk's turn and the rest fail nothing
pub both_pass : (s : Shape) (names : Names) (w : Walk) (word : Text) (rest : List Text) → walk_fault s names w (word ∷ rest) ≡ []
    → (turn_fault s names w word ≡ []) × (walk_fault s names (walked s.rules names w word) rest ≡ [])
unfolding walk_fault
both_pass s names w word rest e = or_parts _ _ e

-- ---- a level that takes no further word

-- the walk stays at what is held
abbrev Stays : Held → ℕ → Walk → Type 0
Stays h position w = (is_trailing : Bool) × (w ≡ between h is_trailing position)

module _ (s : Shape) (rows : List Row) (pending : Option (Text × List Text)) (position : ℕ)
    (no_long : (name : Text) → arg_by_long s.rules name ≡ None) (no_short : (x : ℕ) → arg_by_short s.rules x ≡ None)
    (full : step_fault s position (holding rows pending) value ≡ [] → ⊥) where
  pub full_level : (is_trailing : Bool) (words : List Text) → walk_fault s [] (between (holding rows pending) is_trailing position) words ≡ []
      → Ends s [] (between (holding rows pending) is_trailing position) words (Stays (holding rows pending) position)
  unfolding walk_passes
  full_level is_trailing [] e = (refl, (is_trailing, refl))
  full_level is_trailing (word ∷ rest) e =
      let w = between (holding rows pending) is_trailing position in
      let parts = both_pass s [] w word rest e in
      let goes = word_goes s [] rows pending no_long no_short position (λ free. absurd (full free)) is_trailing word (λ _. refl) parts.0 in
      ⊎_elim
      (λ dashes. one_more s [] w _ word rest (Stays (holding rows pending) position) dashes goes.0
      (full_level true rest (subst (λ (v : Walk). walk_fault s [] v rest ≡ []) dashes parts.1)))
      (λ taken. absurd (full taken.0))
      goes.1

-- ---- below the program

-- a subcommand once the program is built
abbrev pub leaf : Shape → Shape
leaf s = built_leaf (inherited loom_app.top s)

-- one level that fails nothing passes, by what its walk ends in
level_by : (s : Shape) (words : List Text) (w : Walk) → walk s.rules [] nothing_held words ≡ w → walk_passes s [] (walk_from nothing_held) words ≡ true
    → (settle_passes s.rules s.args_override_self w.held && (list_all default_passes s.rules && is_valid s (finished s.rules w.held) false)) ≡ true
    → level_passes s [] nothing_held words false ≡ true
level_by s words w is passes after =
    ap₂ (λ (b : Bool) (v : Walk). b && (settle_passes s.rules s.args_override_self v.held && (list_all default_passes s.rules && is_valid s (finished s.rules v.held) false))) passes is
    ∙ after

-- a subcommand that is a word alone
pub bare_level : (name : Text) (words : List Text) → level_fault (leaf (new_shape name)) [] nothing_held words false [] ≡ []
    → level_passes (leaf (new_shape name)) [] nothing_held words false ≡ true
bare_level name words e =
    let s = leaf (new_shape name) in
    let ends = full_level s [] None 1 (λ _. refl) (λ _. refl) (λ free. has_fault _ _ free) false words (or_parts _ _ e).0 in
    level_by s words _ ends.1.1 ends.0 refl

-- the walk of `trial` ends with a text for its number or with none
abbrev holds_number : Text → Held
holds_number text = holding [] (Some (codes "N", text ∷ []))

abbrev TrialEnds : Walk → Type 0
TrialEnds w = ((text : Text) × Stays (holds_number text) 2 w) ⊎ Stays (holding [] None) 1 w

trial_walk : (is_trailing : Bool) (words : List Text) → walk_fault (leaf trial_shape) [] (between (holding [] None) is_trailing 1) words ≡ []
    → Ends (leaf trial_shape) [] (between (holding [] None) is_trailing 1) words TrialEnds
unfolding walk_passes
trial_walk is_trailing [] e = (refl, inr (is_trailing, refl))
trial_walk is_trailing (word ∷ rest) e =
    let s = leaf trial_shape in
    let w = between (holding [] None) is_trailing 1 in
    let parts = both_pass s [] w word rest e in
    let goes = word_goes s [] [] None (λ _. refl) (λ _. refl) 1 (λ _. refl) is_trailing word (λ _. refl) parts.0 in
    ⊎_elim
    (λ dashes. one_more s [] w _ word rest TrialEnds dashes goes.0
    (trial_walk true rest (subst (λ (v : Walk). walk_fault s [] v rest ≡ []) dashes parts.1)))
    (λ taken.
    let given = between (holds_number word) (is_trailing || false) 2 in
    let is : walked s.rules [] w word ≡ given = taken.1 in
    let ends = full_level s [] (Some (codes "N", word ∷ [])) 2 (λ _. refl) (λ _. refl) (λ free. has_fault _ _ free) (is_trailing || false) rest
    (subst (λ (v : Walk). walk_fault s [] v rest ≡ []) is parts.1) in
    one_more s [] w given word rest TrialEnds is goes.0 (ends.0, inl (word, ends.1)))
    goes.1

-- what may fail after the walk of `trial`
abbrev after_trial : Held → Kinds
after_trial h =
    let s = leaf trial_shape in
    or_else (settle_fault s.rules s.args_override_self h) (or_else (defaults_fault (settled s.rules h).rows s.rules) (check_fault s (finished s.rules h) false))

passed_value : (b : Bool) (k : ErrorKind) → or_else (cond b [] (k ∷ [])) [] ≡ [] → b ≡ true
passed_value true k e = refl
passed_value false k e = absurd (has_fault _ _ e)

number_accepted : (text : Text) → after_trial (holds_number text) ≡ [] → is_unsigned_in 1 200 text ≡ true
unfolding clap_on_literals
number_accepted text e = passed_value (is_unsigned_in 1 200 text) _ (or_parts _ _ e).0

none_given : after_trial (holding [] None) ≡ [] → ⊥
unfolding clap_on_literals
none_given e = has_fault _ _ e

abbrev TrialPasses : List Text → Type 0
TrialPasses words = (level_passes (leaf trial_shape) [] nothing_held words false ≡ true)
    × (is_some (number_given (rows_after (leaf trial_shape).rules [] words)) ≡ true)

trial_given : (words : List Text) (text : Text) (w : Walk) → walk (leaf trial_shape).rules [] nothing_held words ≡ w → Stays (holds_number text) 2 w
    → walk_passes (leaf trial_shape) [] (walk_from nothing_held) words ≡ true → is_unsigned_in 1 200 text ≡ true → TrialPasses words
unfolding clap_on_literals
trial_given words text w is stays passes accepted =
    let s = leaf trial_shape in
    let ends = is ∙ stays.1 in (
      level_by s words _ ends passes (rw accepted refl),
      ap (λ (v : Walk). is_some (number_given (finished s.rules v.held))) ends ∙ rw accepted refl,
    )

pub trial_level : (words : List Text) → level_fault (leaf trial_shape) [] nothing_held words false [] ≡ [] → TrialPasses words
trial_level words e =
    let s = leaf trial_shape in
    let parts = or_parts (walk_fault s [] (walk_from nothing_held) words) _ e in
    let ends = trial_walk false words parts.0 in
    ⊎_elim
    (λ given. trial_given words given.0 _ refl given.1 ends.0
    (number_accepted given.0 (subst (λ (v : Walk). after_trial v.held ≡ []) given.1.1 parts.1)))
    (λ none. absurd (none_given (subst (λ (v : Walk). after_trial v.held ≡ []) none.1 parts.1)))
    ends.1
