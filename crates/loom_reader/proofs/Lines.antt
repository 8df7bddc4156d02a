-- The line of a plain value is read as that value.
use Rattle.std.proofs.Common.{◌≡◌, ℕ, ◌≤◌, List, [], ◌∷◌, ◌++◌, Bool, true, false, cond, ◌&&◌, Option, Some, option_and_then, refl, sym, ap, ap₂, ◌∙◌, arith, append_assoc, append-nil}
use Rattle.std.proofs.lemmas.Str.{IsUtf8-append}
use Rattle.json.specs.Token.{Token, begin_object, end_object, begin_array, end_array, key, string, number, boolean, null, bad}
use Rattle.json.specs.Word.{ends_word, word}
use Rattle.json.specs.Lex.{token, comma, colon, string_token, lex, between, fresh, punctuate, tokens}
use Rattle.json.specs.Print.{escape, quoted, token_text, begins, ends, separator, print_from, IsPrintable, ArePrintable}
use Rattle.json.specs.Json as json
use Rattle.json.specs.Tree as tree
use Rattle.json.proofs.Printed.Strings.{content-escape, lex-escape}
use Rattle.json.proofs.Printed.Numbers.{lex-number, in_word-ended}
use Rattle.json.proofs.Printed.Tokens.{tokens-print}
use Rattle.json.proofs.Printed.Trees.{value-json_tokens, ArePrintable-json_tokens}
use Rattle.json.proofs.Printed.Utf8.{IsUtf8-are_ascii}
use Rattle.serde_json.specs.Data.{Data}
use Rattle.serde_json.specs.Read.{read, max_depth, of_json}
use Rattle.serde_json.specs.Written.{outline}
use Rattle.serde_json.proofs.Texts.{print-outline}
use Rattle.loom_json.specs.Text.{read_json, line_of}
use Rattle.loom_json.proofs.Read.{read_json-Some}
use Rattle.loom_reader.proofs.Plain.{IsPlain, of_json-outline, HasNumbers-outline, depth-outline, IsUtf8-compact_text}

-- ---- a newline behind printed tokens changes no lexeme

newline_ends : (ts : List Token) → ends_word (print_from true ts ++ 10 ∷ []) ≡ true
unfolding print_from
newline_ends [] = refl
newline_ends (begin_object ∷ ts) = refl
newline_ends (end_object ∷ ts) = refl
newline_ends (begin_array ∷ ts) = refl
newline_ends (end_array ∷ ts) = refl
newline_ends (key s ∷ ts) = refl
newline_ends (string s ∷ ts) = refl
newline_ends (number s ∷ ts) = refl
newline_ends (boolean b ∷ ts) = refl
newline_ends (null ∷ ts) = refl
newline_ends (bad ∷ ts) = refl

text_ends : (ts : List Token) → ends_word (print_from true ts) ≡ true
unfolding print_from
text_ends [] = refl
text_ends (begin_object ∷ ts) = refl
text_ends (end_object ∷ ts) = refl
text_ends (begin_array ∷ ts) = refl
text_ends (end_array ∷ ts) = refl
text_ends (key s ∷ ts) = refl
text_ends (string s ∷ ts) = refl
text_ends (number s ∷ ts) = refl
text_ends (boolean b ∷ ts) = refl
text_ends (null ∷ ts) = refl
text_ends (bad ∷ ts) = refl

lex-quoted : (s r : List ℕ) → lex between (quoted s ++ r) ≡ token (string s) ∷ lex between r
unfolding lex
lex-quoted s r =
    ap (λ l. lex between (34 ∷ l)) (append_assoc (escape s) (34 ∷ []) r)
    ∙ ap₂ (λ o l. token (string_token o) ∷ l) (content-escape s r) (lex-escape s r)

-- what follows a token's text counts by its lexemes alone
lex_after : (t : Token) (r q : List ℕ) → IsPrintable t → (ends t ≡ true → (ends_word r ≡ true) × (ends_word q ≡ true)) → lex between r ≡ lex between q → lex between (token_text t ++ r) ≡ lex between (token_text t ++ q)
unfolding lex word
lex_after begin_object r q h ended same = ap (λ l. token begin_object ∷ l) same
lex_after end_object r q h ended same = ap (λ l. token end_object ∷ l) same
lex_after begin_array r q h ended same = ap (λ l. token begin_array ∷ l) same
lex_after end_array r q h ended same = ap (λ l. token end_array ∷ l) same
lex_after (key s) r q h ended same =
    let at : (x : List ℕ) → lex between ((quoted s ++ 58 ∷ []) ++ x) ≡ token (string s) ∷ lex between (58 ∷ x) = λ x. ap (lex between) (append_assoc (quoted s) (58 ∷ []) x) ∙ lex-quoted s (58 ∷ x) in
    at r ∙ ap (λ l. token (string s) ∷ colon ∷ l) same ∙ sym (at q)
lex_after (string s) r q h ended same = lex-quoted s r ∙ ap (λ l. token (string s) ∷ l) same ∙ sym (lex-quoted s q)
lex_after (number s) r q h ended same = lex-number s r h (ended refl).0 ∙ ap (λ l. token (number s) ∷ l) same ∙ sym (lex-number s q h (ended refl).1)
lex_after (boolean true) r q h ended same =
    let at : (x : List ℕ) → ends_word x ≡ true → lex between (token_text (boolean true) ++ x) ≡ token (boolean true) ∷ lex between x = λ x e. ap₂ (λ b l. token (cond b (boolean true) bad) ∷ l) e (in_word-ended x e) in
    at r (ended refl).0 ∙ ap (λ l. token (boolean true) ∷ l) same ∙ sym (at q (ended refl).1)
lex_after (boolean false) r q h ended same =
    let at : (x : List ℕ) → ends_word x ≡ true → lex between (token_text (boolean false) ++ x) ≡ token (boolean false) ∷ lex between x = λ x e. ap₂ (λ b l. token (cond b (boolean false) bad) ∷ l) e (in_word-ended x e) in
    at r (ended refl).0 ∙ ap (λ l. token (boolean false) ∷ l) same ∙ sym (at q (ended refl).1)
lex_after null r q h ended same =
    let at : (x : List ℕ) → ends_word x ≡ true → lex between (token_text null ++ x) ≡ token null ∷ lex between x = λ x e. ap₂ (λ b l. token (cond b null bad) ∷ l) e (in_word-ended x e) in
    at r (ended refl).0 ∙ ap (λ l. token null ∷ l) same ∙ sym (at q (ended refl).1)
lex_after bad r q h ended same = absurd h

lex_comma : (b : Bool) (r q : List ℕ) → lex between r ≡ lex between q → lex between (cond b (44 ∷ []) [] ++ r) ≡ lex between (cond b (44 ∷ []) [] ++ q)
unfolding lex
lex_comma true r q same = ap (λ l. comma ∷ l) same
lex_comma false r q same = same

lex_newline : (c : Bool) (ts : List Token) → ArePrintable ts → lex between (print_from c ts ++ 10 ∷ []) ≡ lex between (print_from c ts)
unfolding lex print_from ArePrintable
lex_newline c [] h = refl
lex_newline c (t ∷ ts) h =
    let after = print_from (ends t) ts in
    let ended : ends t ≡ true → (ends_word (after ++ 10 ∷ []) ≡ true) × (ends_word after ≡ true) =
    λ e. (ap (λ b. ends_word (print_from b ts ++ 10 ∷ [])) e ∙ newline_ends ts, ap (λ b. ends_word (print_from b ts)) e ∙ text_ends ts) in
    ap (lex between) (append_assoc (separator c t) (token_text t ++ after) (10 ∷ []) ∙ ap (λ l. separator c t ++ l) (append_assoc (token_text t) after (10 ∷ [])))
    ∙ lex_comma (c && begins t) (token_text t ++ (after ++ 10 ∷ [])) (token_text t ++ after)
    (lex_after t (after ++ 10 ∷ []) after h.0 ended (lex_newline (ends t) ts h.1))

-- ---- the line is read

line_tokens : (d : Data) (n : ℕ) → IsPlain d n → tokens (line_of d) ≡ tree.json_tokens (outline d)
line_tokens d n plain =
    let ts = tree.json_tokens (outline d) in
    let printable = ArePrintable-json_tokens (outline d) (HasNumbers-outline d n plain) in
    ap (λ text. tokens (text ++ 10 ∷ [])) (sym (print-outline d)) ∙ ap (punctuate fresh) (lex_newline false ts printable) ∙ tokens-print ts printable

-- the value of the tokens that were read and of those that are left
abbrev whole : Option (json.Json × List Token) → Option Data
whole found = option_and_then of_json (option_and_then (λ p. json.if_last p.0 p.1) found)

line_read : (d : Data) (n : ℕ) → IsPlain d n → n ≤ 127 → read (line_of d) ≡ Some d
line_read d n plain few =
    ap whole (ap (json.value max_depth) (line_tokens d n plain ∙ sym (append-nil _)) ∙ value-json_tokens (outline d) max_depth [] (omega (arith, depth-outline d n plain))) ∙ of_json-outline d n plain

pub read_json-line_of : (d : Data) (n : ℕ) → IsPlain d n → n ≤ 127 → read_json (line_of d) ≡ Some d
read_json-line_of d n plain few =
    read_json-Some (line_of d) d (IsUtf8-append _ _ (IsUtf8-compact_text d n plain) (IsUtf8-are_ascii (10 ∷ []) refl)) (line_read d n plain few)
