-- What the nets of a sound draft are.
use Rattle.std.proofs.Common.{◌≡◌, ◌≢◌, ℕ, suc, ◌+◌, ◌<◌, ◌≤◌, Bool, true, false, not, ◌||◌, List, [], ◌∷◌, ◌++◌, length, map, get_or, take, drop, refl, sym, ap, ◌∙◌, Ok, arith, bytes_eq, if◌then◌else◌}
use Rattle.std.specs.Prelude.{nat_le, All, AllPairs}
use Rattle.std.specs.List.{list_any, position_or_len}
use Rattle.std.proofs.lemmas.Bool.{leb-true}
use Rattle.std.proofs.lemmas.List.{get_or-map, get_or-take, get_or_default, length-map, length-take-le}
use Rattle.std.proofs.lemmas.List.Folds.{list_any_at}
use Rattle.std.proofs.lemmas.List.Sums.{passes_at_first}
use Rattle.std.proofs.lemmas.Slice.Eq.{bytes_eq-Decides}
use Rattle.std.proofs.lemmas.Cmp.{nat_list_eq_equiv}
use Rattle.loom_base.specs.declared.limits.Which.TheVariants as limits
use Rattle.loom_formula.specs.declared.formula.Formula.TheVariants.{Always}
use Rattle.loom_base.specs.declared.positions.CavityNo.{CavityNo}
use Rattle.loom_formula.specs.NameIndex.{has_name}
use Rattle.loom_project.specs.declared.draft.Draft.{Draft}
use Rattle.loom_project.specs.declared.draft.NetDraft.{NetDraft}
use Rattle.loom_project.specs.declared.draft.TerminalDraft.{TerminalDraft}
use Rattle.loom_project.specs.declared.fault.Of.TheVariants as of
use Rattle.loom_project.specs.declared.fault.ProjectFault.{ProjectFault}
use Rattle.loom_project.specs.declared.fault.ProjectFault.TheVariants.{TooFewTerminals, TerminalRepeated, UnknownName}
use Rattle.loom_base.specs.First.{Check, ◌>>◌, require, each, each_after}
use Rattle.loom_project.specs.Draft.{index_of, cavity_names, rule_nodes, terminal_nodes, net_nodes, net_names}
use Rattle.loom_project.specs.Project.{terminal_places, net_at, no_net}
use Rattle.loom_project.specs.Sound.{within_limit, known, not_repeated, draft_check, nets_check, net_check, terminals_check, terminal_check}
use Rattle.loom_base.proofs.EachLemmas.{each_after-append, parted}
use Rattle.loom_project.proofs.SoundLemmas.{passes_both, required, few, passes}

-- where a list passes, each element passes with those before it
pub each_at : {A F : Type 0} (check : List A → A → Check F) (xs : List A) (i : ℕ) (x : A) → x ≡ get_or xs i x → i < length xs → each check xs ≡ Ok tt → check (take i xs) x ≡ Ok tt
each_at check xs i x is lt all =
    let parts : (each check (take i xs) >> (check (take i xs) x >> each_after check (take i xs ++ x ∷ []) (drop (suc i) xs))) ≡ Ok tt =
    sym (ap (each check) (parted xs i x is lt) ∙ each_after-append check [] (take i xs) (x ∷ drop (suc i) xs)) ∙ all in
    (passes_both (check (take i xs) x) _ (passes_both (each check (take i xs)) _ parts).1).0

pub place_below : (p : List ℕ → Bool) (names : List (List ℕ)) → list_any p names ≡ true → position_or_len p names < length names
place_below p [] h = cc
place_below p (x ∷ xs) h =
    elim (p x) as (λ b. (b || list_any p xs) ≡ true → (if not b then 1 + position_or_len p xs else 0) < length (x ∷ xs))
    [ true ↦ λ _. omega arith | false ↦ λ g. omega (arith, place_below p xs g) ] h

-- a name that is there stands at its place
name_at : (names : List (List ℕ)) (name : List ℕ) → has_name names name ≡ true → name ≡ get_or names (index_of names name) []
name_at names name there =
    (bytes_eq-Decides name (get_or names (index_of names name) [])).0 (passes_at_first (bytes_eq name) names [] (place_below (bytes_eq name) names there))

-- the terminals of a net, each with a cavity of the draft that no earlier one names
pub record AreSound (cavities : List (List ℕ)) (terminals : List TerminalDraft) : Type 0 where
  pub enough : 2 ≤ length terminals
  pub few : length terminals ≤ 12
  pub there : (k : ℕ) (d : TerminalDraft) → k < length terminals → has_name cavities (get_or terminals k d).cavity ≡ true
  pub new : (k : ℕ) (d : TerminalDraft) → k < length terminals → list_any (λ earlier. bytes_eq (get_or terminals k d).cavity earlier.cavity) (take k terminals) ≡ false

pub not_true : (b : Bool) → not b ≡ true → b ≡ false
not_true true h = cc
not_true false h = refl

terminal_sound : (options cavities : List (List ℕ)) (counted : ℕ) (net : List ℕ) (before : List TerminalDraft) (terminal : TerminalDraft) → terminal_check options cavities counted net before terminal ≡ Ok tt → (has_name cavities terminal.cavity ≡ true) × (list_any (λ earlier. bytes_eq terminal.cavity earlier.cavity) before ≡ false)
unfolding terminal_check
terminal_sound options cavities counted net before terminal h =
    let repeated : Bool = list_any (λ earlier. bytes_eq terminal.cavity earlier.cavity) before in
    let a = passes_both (known of.Cavity cavities terminal.cavity) _ h in
    let b = passes_both (require (not repeated) (TerminalRepeated net terminal.cavity)) _ a.1 in (
      required (has_name cavities terminal.cavity) (UnknownName of.Cavity terminal.cavity) a.0,
      not_true repeated (required (not repeated) (TerminalRepeated net terminal.cavity) b.0),
    )

pub terminals_sound : (options cavities : List (List ℕ)) (counted : ℕ) (net : NetDraft) → terminals_check options cavities counted net ≡ Ok tt → AreSound cavities net.terminals
unfolding terminals_check
terminals_sound options cavities counted net h =
    let terminals = net.terminals in
    let few_enough = passes_both (within_limit limits.Terminals 12 (length terminals)) _ h in
    let many = passes_both (require (nat_le 2 (length terminals)) (TooFewTerminals net.name (length terminals))) _ few_enough.1 in
    let check : List TerminalDraft → TerminalDraft → Check ProjectFault =
    λ before terminal. terminal_check options cavities (counted + terminal_nodes before) net.name before terminal in
    let at = λ (k : ℕ) (d : TerminalDraft) (lt : k < length terminals).
    terminal_sound options cavities (counted + terminal_nodes (take k terminals)) net.name (take k terminals) (get_or terminals k d)
    (each_at check terminals k (get_or terminals k d) (get_or_default terminals k d (get_or terminals k d) lt) lt many.1) in
    record {
      enough = leb-true 2 (length terminals) (required (nat_le 2 (length terminals)) (TooFewTerminals net.name (length terminals)) many.0);
      few = few limits.Terminals 12 (length terminals) few_enough.0;
      there = λ k d lt. (at k d lt).0;
      new = λ k d lt. (at k d lt).1;
    }

-- the terminals of each net of a sound draft are sound
pub net_sound : (draft : Draft) (n : ℕ) → draft_check draft ≡ Ok tt → n < length draft.nets → AreSound (cavity_names draft.cavities) (net_at draft n).terminals
unfolding nets_check net_check
net_sound draft n sound lt =
    let nets = draft.nets in
    let net = net_at draft n in
    let limited = passes_both (within_limit limits.Nets 2048 (length nets)) _ (passes draft sound).nets in
    let counted : List NetDraft → ℕ = λ before. rule_nodes draft.rules + net_nodes before in
    let check : List NetDraft → NetDraft → Check ProjectFault = λ before one. net_check draft.options (cavity_names draft.cavities) (counted before) (net_names before) one in
    let here = each_at check nets n net (get_or_default nets n no_net net lt) lt limited.1 in
    terminals_sound draft.options (cavity_names draft.cavities) (counted (take n nets)) net (passes_both (not_repeated of.Net (net_names (take n nets)) net.name) _ here).1

abbrev no_terminal : TerminalDraft
no_terminal = record { cavity = []; when = Always }

place_at : (names : List (List ℕ)) (terminals : List TerminalDraft) (k d : ℕ) → k < length terminals → get_or (terminal_places names terminals) k d ≡ index_of names (get_or terminals k no_terminal).cavity
place_at names terminals k d lt = get_or-map (λ terminal. index_of names terminal.cavity) terminals k no_terminal d lt

count_found : (names : List (List ℕ)) (terminals : List TerminalDraft) (found : List CavityNo) → map (λ c. c.0) found ≡ terminal_places names terminals → length found ≡ length terminals
count_found names terminals found same =
    sym (length-map found (λ c. c.0)) ∙ ap length same ∙ length-map terminals (λ terminal. index_of names terminal.cavity)

-- the cavities of sound terminals are 2 to 12, all of them in range
pub at_least_two : (names : List (List ℕ)) (terminals : List TerminalDraft) (found : List CavityNo) → AreSound names terminals → map (λ c. c.0) found ≡ terminal_places names terminals → 2 ≤ length found
at_least_two names terminals found sound same = rw (count_found names terminals found same) sound.enough

pub at_most_twelve : (names : List (List ℕ)) (terminals : List TerminalDraft) (found : List CavityNo) → AreSound names terminals → map (λ c. c.0) found ≡ terminal_places names terminals → length found ≤ 12
at_most_twelve names terminals found sound same = rw (count_found names terminals found same) sound.few

pub all_in_range : (names : List (List ℕ)) (terminals : List TerminalDraft) (found : List CavityNo) (n : ℕ) → AreSound names terminals → map (λ c. c.0) found ≡ terminal_places names terminals → length names ≡ n → All (λ c. c.0 < n) found
all_in_range names terminals found n sound same count = λ k d lt.
    let within : k < length terminals = omega (arith, count_found names terminals found same, lt) in
    let value : (get_or found k d).0 ≡ index_of names (get_or terminals k no_terminal).cavity =
    sym (get_or-map (λ c. c.0) found k d d.0 lt) ∙ ap (λ ps. get_or ps k d.0) same ∙ place_at names terminals k d.0 within in
    rw (value, ← count) (place_below (bytes_eq (get_or terminals k no_terminal).cavity) names (sound.there k no_terminal within))

-- the same by the places themselves
pub places_in_range : (names : List (List ℕ)) (terminals : List TerminalDraft) → AreSound names terminals → All (λ p. p < length names) (terminal_places names terminals)
places_in_range names terminals sound k d lt =
    let within : k < length terminals = omega (arith, length-map terminals (λ terminal. index_of names terminal.cavity), lt) in
    rw (place_at names terminals k d within)
    (place_below (bytes_eq (get_or terminals k no_terminal).cavity) names (sound.there k no_terminal within))

-- two names that stand at one place are equal
pub same_place : (names : List (List ℕ)) (a b : List ℕ) → has_name names a ≡ true → has_name names b ≡ true → index_of names a ≡ index_of names b → bytes_eq b a ≡ true
same_place names a b here there same =
    let equal : b ≡ a = name_at names b there ∙ ap (λ p. get_or names p []) (sym same) ∙ sym (name_at names a here) in
    rw equal (nat_list_eq_equiv.refl a)

-- no two terminals of a sound net have the same cavity
pub all_different : (names : List (List ℕ)) (terminals : List TerminalDraft) → AreSound names terminals → AllPairs (λ a b. a ≢ b) (terminal_places names terminals)
all_different names terminals sound = λ i j d before lt same.
    let jn : j < length terminals = omega (arith, length-map terminals (λ terminal. index_of names terminal.cavity), lt) in
    let in' : i < length terminals = omega (arith, before, jn) in
    let one : TerminalDraft = get_or terminals i no_terminal in
    let other : TerminalDraft = get_or terminals j no_terminal in
    let places : index_of names one.cavity ≡ index_of names other.cavity =
    sym (place_at names terminals i d in') ∙ same ∙ place_at names terminals j d jn in
    let test : TerminalDraft → Bool = λ earlier. bytes_eq other.cavity earlier.cavity in
    let hit : test (get_or (take j terminals) i no_terminal) ≡ true =
    ap test (get_or-take j terminals i no_terminal before)
    ∙ same_place names one.cavity other.cavity (sound.there i no_terminal in') (sound.there j no_terminal jn) places in
    let early : i < length (take j terminals) = omega (arith, length-take-le j terminals (omega (arith, jn)), before) in
    let found : list_any test (take j terminals) ≡ true = list_any_at test (take j terminals) i no_terminal early hit in
    let none : list_any test (take j terminals) ≡ false = sound.new j no_terminal jn in
    cc
