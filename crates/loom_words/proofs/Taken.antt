-- Words at which nothing fails are taken and mean a job.
use Rattle.std.proofs.Common.{◌≡◌, ◌∙◌, ⊎_elim, Bool, cond, true, false, refl, sym, ap, ap₂, subst, List, [], ◌∷◌, ◌++◌, append-nil, append_assoc, Option, Some, None, is_some, option_map, ◌&&◌, ◌||◌, codes, true≢false, Result, Ok, Err, IfErr, IsErrAnd, ◌≢◌}
use Rattle.std.specs.Prelude.{fold, find, not}
use Rattle.std.specs.Str.{bytes_eq}
use Rattle.std.specs.List.{list_all}
use Rattle.clap.specs.Kinds.{Kinds, or_else}
use Rattle.clap.specs.Walk.{Names, Text, Walk, after_step, answers_to, finished, idle, nothing_held, rows_after, settled, subcommand_or_other, walk, walk_from, walked}
use Rattle.clap.specs.Simple.{App, Shape, built, entered, is_simple, label_of, names_of, new_shape, subcommand_of}
use Rattle.clap.specs.Faults.{check_fault, defaults_fault, entered_fault, fault_of, is_simple_and_free, level_fault, settle_fault, walk_fault}
use Rattle.clap.specs.Takes.{default_passes, entered_passes, is_valid, level_passes, other_passes, settle_passes, step_passes, takes, walk_passes}
use Rattle.clap.proofs.OnLiterals.{clap_on_literals}
use Rattle.clap.specs.Words.{Row, HasMatchesOf, kind_of, subcommand_rows_of}
use Rattle.clap.specs.declared.parser.matches.ArgMatches.{ArgMatches}
use Rattle.clap.specs.declared.error.Error.{Error}
use Rattle.clap.specs.declared.error.kind.ErrorKind.TheVariants.{OutOfMemory}
use Rattle.loom_words.specs.declared.job.WordsStop.{WordsStop}
use Rattle.loom_words.specs.declared.job.WordsStop.TheVariants.{Usage}
use Rattle.loom_words.specs.Command.{loom_app, trial_shape}
use Rattle.loom_words.specs.Jobs.{job_in, job_named}
use Rattle.loom_words.proofs.Flagless.{between, has_fault, or_parts, word_goes}
use Rattle.loom_words.proofs.Levels.{bare_level, both_pass, leaf, trial_level}

-- the program once it is built, and the names of its subcommands
abbrev program : App
program = built loom_app

abbrev names : Names
names = names_of program

abbrev start : Walk
start = walk_from nothing_held

-- the walk met a subcommand, and these words follow it
abbrev stopped : Text → List Text → Walk
stopped name rest = record start { stopped = Some (name, rest) }

stopped_walk : (name : Text) (before rest : List Text) → fold (walked program.top.rules names) (stopped name before) rest ≡ stopped name (before ++ rest)
unfolding walked
stopped_walk name before [] = ap (stopped name) (sym (append-nil before))
stopped_walk name before (word ∷ rest) = stopped_walk name (before ++ word ∷ []) rest ∙ ap (stopped name) (append_assoc before (word ∷ []) rest)

stopped_passes : (name : Text) (before rest : List Text) → walk_passes program.top names (stopped name before) rest ≡ true
unfolding walked walk_passes
stopped_passes name before [] = refl
stopped_passes name before (word ∷ rest) = stopped_passes name (before ++ word ∷ []) rest

-- no word asks for help
no_help : (b : Bool) → (not b || true) ≡ true
no_help true = refl
no_help false = refl

module _ (word : Text) (rest : List Text) (name : Text) (met : find (answers_to word) names ≡ Some (name, [])) where
  met_walk : walk program.top.rules names nothing_held (word ∷ rest) ≡ stopped name rest
  unfolding walked
  met_walk =
      let one : walked program.top.rules names start word ≡ stopped name [] =
      ap (λ (o : Option (Text × List Text)). after_step program.top.rules word start
      (subcommand_or_other program.top.rules (option_map (λ s. s.0) o) idle 1 word nothing_held).0
      (subcommand_or_other program.top.rules (option_map (λ s. s.0) o) idle 1 word nothing_held).1) met in
      ap (λ (w : Walk). fold (walked program.top.rules names) w rest) one ∙ stopped_walk name [] rest

  met_passes : walk_passes program.top names start (word ∷ rest) ≡ true
  unfolding walked walk_passes
  met_passes =
      let turn = λ (o : Option (Text × List Text)). other_passes program.top (option_map (λ s. s.0) o) word nothing_held
      && step_passes program.top 1
      (subcommand_or_other program.top.rules (option_map (λ s. s.0) o) idle 1 word nothing_held).0
      (subcommand_or_other program.top.rules (option_map (λ s. s.0) o) idle 1 word nothing_held).1 in
      let after = λ (o : Option (Text × List Text)). after_step program.top.rules word start
      (subcommand_or_other program.top.rules (option_map (λ s. s.0) o) idle 1 word nothing_held).0
      (subcommand_or_other program.top.rules (option_map (λ s. s.0) o) idle 1 word nothing_held).1 in
      ap (λ (o : Option (Text × List Text)). turn o && walk_passes program.top names (after o) rest) met
      ∙ ap₂ (λ (a b : Bool). (a && true) && b) (no_help (bytes_eq name (codes "help"))) (stopped_passes name [] rest)

-- the words are taken and mean a job
pub record Reads (words : List Text) : Type 0 where
  pub taken : takes loom_app words ≡ true
  pub means : is_some (job_in (subcommand_of loom_app words)) ≡ true

-- at the level of a subcommand, what fails nothing passes and means a job
abbrev Serves : Shape → List Text → Type 0
Serves l rest = level_fault l [] nothing_held rest false [] ≡ []
    → (level_passes l [] nothing_held rest false ≡ true) × (is_some (job_named l.name (rows_after l.rules [] rest)) ≡ true)

abbrev taken_by : Walk → Bool → Bool
taken_by w passes = is_simple loom_app && (entered_passes program w.stopped
    && (passes && (settle_passes program.top.rules program.top.args_override_self w.held
    && (list_all default_passes program.top.rules && is_valid program.top (finished program.top.rules w.held) (is_some (entered program w.stopped))))))

enters : (word : Text) (rest : List Text) (name : Text) (l : Shape) → find (answers_to word) names ≡ Some (name, [])
    → find (λ s. answers_to name (label_of s)) program.subs ≡ Some l → Serves l rest → fault_of loom_app (word ∷ rest) ≡ [] → Reads (word ∷ rest)
unfolding clap_on_literals
enters word rest name l met at serves e =
    let w = walk program.top.rules names nothing_held (word ∷ rest) in
    let is = met_walk word rest name met in
    let below : entered_fault program w.stopped ≡ [] = (or_parts _ _ (or_parts (walk_fault program.top names start (word ∷ rest)) _ e).1).0 in
    let inner : entered_fault program (Some (name, rest)) ≡ [] = subst (λ (v : Walk). entered_fault program v.stopped ≡ []) is below in
    let served = serves (rw at at inner) in
    record {
      taken = ap₂ taken_by is (met_passes word rest name met) ∙ rw (at, served.0) refl;
      means = ap (λ (v : Walk). is_some (job_in (entered program v.stopped))) is ∙ rw at served.1;
    }

-- what fails at the end of the program's own words
abbrev ends_fault : Walk → Kinds
ends_fault w = or_else (settle_fault program.top.rules program.top.args_override_self w.held)
    (or_else (defaults_fault (settled program.top.rules w.held).rows program.top.rules)
    (check_fault program.top (finished program.top.rules w.held) (is_some (entered program w.stopped))))

-- a first word that is no subcommand fails
no_subcommand : (word : Text) (rest : List Text) → find (answers_to word) names ≡ None → fault_of loom_app (word ∷ rest) ≡ [] → ⊥
unfolding clap_on_literals
no_subcommand word rest none e =
    let parts = or_parts (walk_fault program.top names start (word ∷ rest)) _ e in
    let pass = both_pass program.top names start word rest parts.0 in
    let goes = word_goes program.top names [] None (λ _. refl) (λ _. refl) 1 (λ free. absurd (has_fault _ _ free)) false word
    (λ _. ap (option_map (λ s. s.0)) none) pass.0 in
    ⊎_elim
    (λ dashes. after rest dashes pass.1 (or_parts _ _ parts.1).1)
    (λ taken. has_fault _ _ taken.0)
    goes.1
  where
    after : (rest : List Text) → walked program.top.rules names start word ≡ between nothing_held true 1
        → walk_fault program.top names (walked program.top.rules names start word) rest ≡ []
        → ends_fault (fold (walked program.top.rules names) (walked program.top.rules names start word) rest) ≡ [] → ⊥
    after [] dashes walk end = has_fault _ _ (subst (λ (v : Walk). ends_fault v ≡ []) dashes end)
    after (x ∷ xs) dashes walk end =
        let w = between nothing_held true 1 in
        has_fault _ _ (both_pass program.top names w x xs (subst (λ (v : Walk). walk_fault program.top names v (x ∷ xs) ≡ []) dashes walk)).0

-- what holds of each element of a list
AtEach : {X : Type 0} → (X → Type 0) → List X → Type 0
AtEach P [] = Unit {0}
AtEach P (x ∷ xs) = P x × AtEach P xs

found_here : {X : Type 0} (P : Option X → Type 0) (x : X) (found : Option X) (b : Bool) → P (Some x) → P found → P (cond b (Some x) found)
found_here P x found true here after = here
found_here P x found false here after = after

-- what holds of each element and of none holds of the one that is found
found_cases : {X : Type 0} (p : X → Bool) (P : Option X → Type 0) (xs : List X) → AtEach (λ x. P (Some x)) xs → P None → P (find p xs)
unfolding AtEach
found_cases p P [] each none = none
found_cases p P (x ∷ xs) each none = found_here P x (find p xs) (p x) each.0 (found_cases p P xs each.1 none)

map_trial : {X Y : Type 0} (f : X → Y) (o : Option X) → is_some o ≡ true → is_some (option_map f o) ≡ true
map_trial f (Some x) e = refl
map_trial f None e = e

-- a word alone at the program's level
enters_bare : (name word : Text) (rest : List Text) → find (answers_to word) names ≡ Some (name, [])
    → find (λ s. answers_to name (label_of s)) program.subs ≡ Some (leaf (new_shape name)) → ((rows : List Row) → is_some (job_named name rows) ≡ true)
    → fault_of loom_app (word ∷ rest) ≡ [] → Reads (word ∷ rest)
enters_bare name word rest is at means e = enters word rest name (leaf (new_shape name)) is at (λ f. (bare_level name rest f, means (rows_after (leaf (new_shape name)).rules [] rest))) e

-- words that fail nothing
pub reads : (words : List Text) → fault_of loom_app words ≡ [] → Reads words
unfolding clap_on_literals AtEach
reads [] e = absurd (has_fault _ _ e)
reads (word ∷ rest) e =
    found_cases (answers_to word) (λ o. find (answers_to word) names ≡ o → Reads (word ∷ rest)) names (
      (λ is. enters_bare (codes "plan") word rest is refl (λ _. refl) e),
      (
        (λ is. enters_bare (codes "extract") word rest is refl (λ _. refl) e),
        (
          (λ is. enters_bare (codes "check") word rest is refl (λ _. refl) e),
          (
            (λ is. enters word rest (codes "trial") (leaf trial_shape) is refl (λ f. let t = trial_level rest f in (t.0, map_trial _ _ t.1)) e),
            tt,
          ),
        ),
      ),
    )
    (λ is. absurd (no_subcommand word rest is e)) refl

is_free : is_simple_and_free loom_app ≡ true
unfolding clap_on_literals
is_free = refl

-- of a parse that gave matches
pub parsed_reads : (a : App) (words : List Text) → a ≡ loom_app → (is_simple_and_free a ≡ true → fault_of a words ≡ []) → Reads words
parsed_reads a words is fails =
    reads words (subst (λ (x : App). is_simple_and_free x ≡ true → fault_of x words ≡ []) is fails is_free)

-- then the matches mean a job
pub parsed_means : (a : App) (words : List Text) (m : ArgMatches) → a ≡ loom_app → (is_simple_and_free a ≡ true → fault_of a words ≡ []) → HasMatchesOf a words m
    → job_in (subcommand_rows_of m) ≡ None → ⊥
unfolding clap_on_literals
parsed_means a words m is fails matches none =
    let simple : is_simple a ≡ true = ap is_simple is in
    let same : subcommand_rows_of m ≡ subcommand_of loom_app words = (matches simple).1 ∙ ap (λ (x : App). subcommand_of x words) is in
    true≢false (sym (parsed_reads a words is fails).means ∙ ap (λ o. is_some (job_in o)) (sym same) ∙ ap is_some none)

false_from : (b : Bool) → (b ≡ true → ⊥) → b ≡ false
false_from true never = absurd (never refl)
false_from false never = refl

-- of a parse that failed
pub refused : (a : App) (words : List Text) → a ≡ loom_app → (takes a words ≡ true → ⊥) → takes loom_app words ≡ false
refused a words is never = false_from (takes loom_app words) (λ taken. never (ap (λ (x : App). takes x words) is ∙ taken))

pub refused_by : {T : Type 0} (r : Result T WordsStop) (error : Error) (a : App) (words : List Text) → a ≡ loom_app
    → IsErrAnd r (λ stop. stop ≡ Usage → kind_of error ≢ OutOfMemory) → (takes a words ≡ true → kind_of error ≡ OutOfMemory)
    → IfErr r (λ stop. stop ≡ Usage → takes loom_app words ≡ false)
refused_by (Ok x) error a words is stop passes = tt
refused_by (Err x) error a words is stop passes = λ usage. refused a words is (λ taken. stop usage (passes taken))
