-- What is shown of the parts of a draft is read as those parts, and is plain.
use Rattle.std.proofs.Common.{◌≡◌, ℕ, suc, ◌≤◌, List, [], ◌∷◌, true, ◌&&◌, nat_le, nat_lt, length, decimal, Result, Ok, map, refl, ap₂, arith}
use Rattle.std.specs.List.{All, AllByRecursion, list_all}
use Rattle.std.proofs.lemmas.Bool.{le-leb, lt-ltb, and_parts}
use Rattle.std.proofs.lemmas.List.{length-map}
use Rattle.std.proofs.lemmas.List.Elements.{All-head, All-tail}
use Rattle.json.proofs.Printed.Utf8.{are_ascii}
use Rattle.serde_json.specs.Data.{Data, string}
use Rattle.serde_json.specs.View.{items_of}
use Rattle.loom_base.specs.First.{◌>>=◌}
use Rattle.loom_base.specs.Names.{is_name, is_name_byte}
use Rattle.loom_base.specs.declared.limits.TheConstants.{MAX_ELEMENTS}
use Rattle.loom_json.specs.Fields.{array_of}
use Rattle.loom_json.specs.Forms.{under, each, list, name_form}
use Rattle.loom_json.proofs.Again.{list_of-items_of}
use Rattle.loom_answer.specs.Values.{whole}
use Rattle.loom_answer.specs.Projects.{node_shown, cavity_shown}
use Rattle.loom_project.specs.declared.draft.NodeDraft.{NodeDraft}
use Rattle.loom_project.specs.declared.draft.CavityDraft.{CavityDraft}
use Rattle.loom_reader.specs.Parts.{node_form, cavity_form, pin_form}
use Rattle.loom_reader.proofs.Plain.{IsPlain, ItemsArePlain}
use Rattle.loom_reader.specs.Written.{IsName, IsPin, IsWrittenNode, IsWrittenCavity}
use Rattle.loom_reader.proofs.ToldParts.{AreTold}

-- a thing is read from what is shown of it, which is plain and nests no deeper than the number
pub record Told {X : Type 0} (form : Data → Result X (List ℕ)) (shows : X → Data) (n : ℕ) (x : X) : Type 0 where
  pub again : form (shows x) ≡ Ok x
  pub plain : IsPlain (shows x) n

-- ---- lists

every_told : {X : Type 0} (P Q : X → Type 0) → ((x : X) → P x → Q x) → (xs : List X) → All P xs → AllByRecursion Q xs
every_told P Q f [] all = tt
every_told P Q f (x ∷ xs) all = (f x (All-head P x xs all), every_told P Q f xs (All-tail P x xs all))

each_told : {X : Type 0} (form : Data → Result X (List ℕ)) (shows : X → Data) (n position : ℕ) (xs : List X) → AllByRecursion (Told form shows n) xs → each form position (map shows xs) ≡ Ok xs
each_told form shows n position [] all = refl
each_told form shows n position (x ∷ xs) all =
    ap₂ (λ first rest. under (decimal position) first >>= λ y. rest >>= λ ys. Ok (y ∷ ys)) all.0.again (each_told form shows n (suc position) xs all.1)

items_told : {X : Type 0} (form : Data → Result X (List ℕ)) (shows : X → Data) (n : ℕ) (xs : List X) → AllByRecursion (Told form shows n) xs → ItemsArePlain (items_of (map shows xs)) n
items_told form shows n [] all = tt
items_told form shows n (x ∷ xs) all = (all.0.plain, items_told form shows n xs all.1)

list_again : {X : Type 0} (form : Data → Result X (List ℕ)) (shows : X → Data) (xs : List X) → length xs ≤ MAX_ELEMENTS → each form 0 (map shows xs) ≡ Ok xs → list form (array_of (map shows xs)) ≡ Ok xs
list_again form shows xs few again = rw (list_of-items_of (map shows xs), length-map xs shows, le-leb (length xs) MAX_ELEMENTS few, again)

-- a list of told things is told
pub list_told : {X : Type 0} (form : Data → Result X (List ℕ)) (shows : X → Data) (n : ℕ) (IsTold : X → Type 0) (xs : List X) → ((x : X) → IsTold x → Told form shows n x) → AreTold IsTold xs
    → Told (list form) (λ ys. array_of (map shows ys)) (suc n) xs
list_told form shows n IsTold xs tell are =
    let all = every_told IsTold (Told form shows n) tell xs are.each in
    record { again = list_again form shows xs are.short (each_told form shows n 0 xs all); plain = items_told form shows n xs all }

-- ---- names and numbers

name_byte_ascii : (b : ℕ) → is_name_byte b ≡ true → nat_lt b 128 ≡ true
name_byte_ascii b e = lt-ltb b 128 (grind arith)

bytes_ascii : (bytes : List ℕ) → list_all is_name_byte bytes ≡ true → are_ascii bytes ≡ true
bytes_ascii [] e = refl
bytes_ascii (b ∷ bytes) e = let p = and_parts (is_name_byte b) (list_all is_name_byte bytes) e in rw (name_byte_ascii b p.0, bytes_ascii bytes p.1)

pub name_ascii : (bytes : List ℕ) → IsName bytes → are_ascii bytes ≡ true
unfolding is_name
name_ascii bytes named =
    bytes_ascii bytes (and_parts (nat_le 1 (length bytes) && nat_le (length bytes) 32) (list_all is_name_byte bytes) named).1

pub name_told : (n : ℕ) (bytes : List ℕ) → IsName bytes → Told name_form string n bytes
name_told n bytes named = record { again = rw named; plain = name_ascii bytes named }

pub pin_told : (n pin : ℕ) → IsPin pin → Told pin_form whole n pin
pin_told n pin is = record { again = rw (le-leb 1 pin is.low, le-leb pin 512 is.high); plain = omega (arith, is.high) }

pub node_told : (n : ℕ) (node : NodeDraft) → IsWrittenNode node → Told node_form node_shown (suc n) node
unfolding node_form
node_told n node is = record {
  again = rw (is.name, is.harness, le-leb 0 node.branch (omega arith), le-leb node.branch 1000000 is.branch);
  plain = (refl, (omega (arith, is.branch), (name_ascii node.harness is.harness, (name_ascii node.name is.name, tt))));
}

pub cavity_told : (n : ℕ) (cavity : CavityDraft) → IsWrittenCavity cavity → Told cavity_form cavity_shown (suc n) cavity
unfolding cavity_form
cavity_told n cavity is = record {
  again = rw (is.name, is.device, is.node);
  plain = (refl, (name_ascii cavity.device is.device, (name_ascii cavity.name is.name, (name_ascii cavity.node is.node, tt))));
}
