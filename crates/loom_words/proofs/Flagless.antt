-- A word at a level of the command that has no flags.
use Rattle.std.proofs.Common.{◌≡◌, ◌⊎◌, inl, inr, ℕ, zero, suc, Bool, cond, true, false, refl, subst, List, [], ◌∷◌, length, Option, Some, None, ◌&&◌, ◌||◌}
use Rattle.std.specs.Prelude.{slice_get, drop, encode_utf8}
use Rattle.std.specs.Option.{option_map_or}
use Rattle.std.specs.Str.{bytes_eq, chars}
use Rattle.clap.specs.Lexer.{long_of, short_of}
use Rattle.clap.specs.Kinds.{Kinds, or_else}
use Rattle.clap.specs.declared.error.kind.ErrorKind.{ErrorKind}
use Rattle.clap.specs.Walk.{Held, Names, Row, Rule, Step, Text, Walk, after_step, arg_by_index, arg_by_long, arg_by_short, bundle_met, bundle_step, idle, long_or_other, plain, short_or_plain, subcommand_met, subcommand_or_other, to_positional, trailing, value, walked}
use Rattle.clap.specs.Simple.{Shape}
use Rattle.clap.specs.Faults.{bundle_fault, bundle_step_fault, flag_word_fault, flags_fault, long_fault, other_fault, short_fault, step_fault, turn_fault}
use Rattle.clap.specs.Takes.{bundle_passes, bundle_step_passes, flag_word_passes, flags_pass, other_passes, step_passes, turn_passes}

-- a list of kinds that isn't empty is no empty one
pub has_fault : (k : ErrorKind) (ks : Kinds) → (k ∷ ks) ≡ [] → ⊥
has_fault k ks e = cc

-- where neither of two steps fails
pub or_parts : (a b : Kinds) → or_else a b ≡ [] → (a ≡ []) × (b ≡ [])
or_parts [] b e = (refl, e)
or_parts (k ∷ ks) b e = absurd (has_fault k ks e)

-- the two dashes after which each word is a value
abbrev pub dashes : Text
dashes = 45 ∷ 45 ∷ []

-- what is held of a level, of which no bundle was begun
abbrev pub holding : List Row → Option (Text × List Text) → Held
holding rows pending = record { rows = rows; pending = pending; skip = 0 }

-- a walk between two words, at a position
abbrev pub between : Held → Bool → ℕ → Walk
between h is_trailing position =
    record { held = h; waiting = idle; position = position; is_trailing = is_trailing; stopped = None }

module _ (s : Shape) (names : Names) (rows : List Row) (pending : Option (Text × List Text))
    (no_long : (name : Text) → arg_by_long s.rules name ≡ None) (no_short : (x : ℕ) → arg_by_short s.rules x ≡ None) where
  abbrev held : Held
  held = holding rows pending

  abbrev again : Bool
  again = s.args_override_self

  first_flag : (k : ℕ) (flags : Text) (o : Option ℕ) → bundle_step_fault s.rules again o flags 0 held (flags_fault s.rules again k) ≡ []
      → (bundle_step_passes s.rules again o flags 0 held (flags_pass s.rules again k) ≡ true)
      × (bundle_step s.rules o flags 0 plain held (bundle_met s.rules k) ≡ (held, plain))
  first_flag k flags None e = (refl, refl)
  first_flag k flags (Some x) e =
      let rest = drop (length (encode_utf8 x)) flags in
      absurd (has_fault _ _ (subst (λ (a : Option Rule). short_fault s.rules again a rest held (flags_fault s.rules again k rest 0) ≡ []) (no_short x) e))

  no_flags : (n : ℕ) (flags : Text) → flags_fault s.rules again n flags 0 held ≡ []
      → (flags_pass s.rules again n flags 0 held ≡ true) × (bundle_met s.rules n flags 0 plain held ≡ (held, plain))
  unfolding flags_fault flags_pass bundle_met
  no_flags zero flags e = (refl, refl)
  no_flags (suc k) flags e = first_flag k flags (slice_get (chars flags) 0) e

  short_case : (word : Text) (o : Option Text) → option_map_or (λ flags. bundle_fault s.rules again flags held) o [] ≡ []
      → (option_map_or (λ flags. bundle_passes s.rules again flags held) o true ≡ true)
      × (short_or_plain s.rules idle word o held ≡ (held, value))
  short_case word None e = (refl, refl)
  short_case word (Some flags) e =
      let met = no_flags (length flags) flags e in
      (met.0, rw met.1 refl)

  -- a word that isn't `--` and fails nothing is a value
  long_case : (word : Text) (o : Option (Text × Option Text)) → flag_word_fault s.rules again o word held ≡ []
      → (flag_word_passes s.rules again o word held ≡ true) × (long_or_other s.rules idle word o held ≡ (held, value))
  long_case word None e = short_case word (short_of word) e
  long_case word (Some p) e = absurd (has_fault _ _ (subst (λ (a : Option Rule). long_fault s.rules again a p.1 held ≡ []) (no_long p.0) e))

  module _ (position : ℕ) (takes_value : step_fault s position held value ≡ [] → step_passes s position held value ≡ true) where
    -- the word was `--`, or the level's positional at this place takes it
    abbrev Goes : Bool → Text → Walk → Type 0
    Goes is_trailing word after = (after ≡ between held true position)
        ⊎ ((step_fault s position held value ≡ [])
        × (after ≡ to_positional s.rules (arg_by_index s.rules position) word (between held is_trailing position) held))

    dashes_or_value : (word : Text) (b : Bool) (met : Held × Step) (fault : Kinds) (passes : Bool)
        → (fault ≡ [] → (passes ≡ true) × (met ≡ (held, value)))
        → or_else (cond b [] fault) (step_fault s position (cond b (held, trailing position) met).0 (cond b (held, trailing position) met).1) ≡ []
        → (((b || passes) && step_passes s position (cond b (held, trailing position) met).0 (cond b (held, trailing position) met).1) ≡ true)
        × Goes false word (after_step s.rules word (between held false position) (cond b (held, trailing position) met).0 (cond b (held, trailing position) met).1)
    dashes_or_value word true met fault passes flag e = (refl, inl refl)
    dashes_or_value word false met fault passes flag e =
        let parts = or_parts fault _ e in
        let is = flag parts.0 in
        let free : step_fault s position held value ≡ [] = subst (λ (m : Held × Step). step_fault s position m.0 m.1 ≡ []) is.1 parts.1 in
        (rw (is.0, is.1) (takes_value free), inr (free, rw is.1 refl))

    other_word : (word : Text) (met : Option Text) → met ≡ None
        → or_else (other_fault s met word held)
        (step_fault s position (subcommand_or_other s.rules met idle position word held).0 (subcommand_or_other s.rules met idle position word held).1) ≡ []
        → ((other_passes s met word held
        && step_passes s position (subcommand_or_other s.rules met idle position word held).0 (subcommand_or_other s.rules met idle position word held).1) ≡ true)
        × Goes false word (after_step s.rules word (between held false position)
        (subcommand_or_other s.rules met idle position word held).0 (subcommand_or_other s.rules met idle position word held).1)
    other_word word None none e =
        dashes_or_value word (bytes_eq word dashes) (long_or_other s.rules idle word (long_of word) held)
        (flag_word_fault s.rules again (long_of word) word held) (flag_word_passes s.rules again (long_of word) word held)
        (long_case word (long_of word)) e
    other_word word (Some name) none e = cc

    -- a word that names no subcommand
    pub word_goes : (is_trailing : Bool) (word : Text) → (is_trailing ≡ false → subcommand_met names idle word ≡ None)
        → turn_fault s names (between held is_trailing position) word ≡ []
        → (turn_passes s names (between held is_trailing position) word ≡ true)
        × Goes is_trailing word (walked s.rules names (between held is_trailing position) word)
    unfolding walked
    word_goes true word none e = (takes_value e, inr (e, refl))
    word_goes false word none e = other_word word (subcommand_met names idle word) (none refl) e
