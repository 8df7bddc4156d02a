-- A few letters and a number up to 200 spell a name.
use Rattle.std.proofs.Common.{◌≡◌, ℕ, ◌+◌, ◌≤◌, ◌<◌, Bool, true, false, ◌&&◌, nat_le, List, [], ◌∷◌, ◌++◌, length, decimal, refl, sym, ap, ◌∙◌, arith, true≢false}
use Rattle.std.specs.List.{list_all}
use Rattle.std.specs.Char.{digit_value}
use Rattle.std.specs.Str.Parse.{AllDigits}
use Rattle.std.proofs.Math.ListN.{length-append}
use Rattle.std.proofs.lemmas.Bool.Decides.{nat_tests}
use Rattle.std.proofs.lemmas.Fmt.{decimal_is_IsNumeral, length-decimal-le}
use Rattle.std.proofs.lemmas.List.Folds.{list_all-append}
use Rattle.std.proofs.lemmas.Str.Parse.{digit_from_value}
use Rattle.loom_base.specs.Names.{is_name, is_name_byte}
use Rattle.loom_trial.specs.Trial.{are_letters}

digit_named : (b : ℕ) → digit_value b < 10 → is_name_byte b ≡ true
digit_named b is = let within = digit_from_value b is in grind (arith, nat_tests)

digits_named : (ds : List ℕ) → AllDigits 10 ds → list_all is_name_byte ds ≡ true
digits_named [] all = refl
digits_named (c ∷ cs) all = rw (digit_named c all.0, digits_named cs all.1) refl

-- what two tests that both hold say
both : (a b : Bool) → (a && b) ≡ true → (a ≡ true) × (b ≡ true)
both true b is = (refl, is)
both false b is = absurd (true≢false (sym is))

sized : (size : ℕ) (spelled : Bool) → 1 ≤ size → size ≤ 32 → spelled ≡ true → (nat_le 1 size && nat_le size 32 && spelled) ≡ true
sized size spelled low high is = grind (arith, nat_tests)

few : (count : ℕ) → nat_le count 2 ≡ true → count ≤ 2
few count is = grind (arith, nat_tests)

pub numbered_spells : (letters : List ℕ) (number : ℕ) → are_letters letters ≡ true → number ≤ 200 → is_name (letters ++ decimal number) ≡ true
unfolding is_name
numbered_spells letters number are small =
    let numeral = decimal_is_IsNumeral number (omega (arith, small)) in
    let short : length (decimal number) ≤ 3 = length-decimal-le 3 number (omega arith) (omega (arith, small)) (omega (arith, small)) in
    let parts = both (nat_le (length letters) 2) (list_all is_name_byte letters) are in
    let at_most : length letters ≤ 2 = few (length letters) parts.0 in
    let size : length (letters ++ decimal number) ≡ length letters + length (decimal number) = length-append letters (decimal number) in
    let nonempty : 1 ≤ length (decimal number) = omega (arith, numeral.0.0) in
    let spelled : list_all is_name_byte (letters ++ decimal number) ≡ true =
    list_all-append is_name_byte letters (decimal number) ∙ rw (parts.1, digits_named (decimal number) numeral.0.1) refl in
    sized (length (letters ++ decimal number)) (list_all is_name_byte (letters ++ decimal number)) (omega (arith, size, nonempty)) (omega (arith, size, short, at_most)) spelled

-- the bytes of a numbered name are a name
pub numbered_is_name : (letters : List ℕ) (number : ℕ) (bytes : List ℕ) → bytes ≡ letters ++ decimal number → are_letters letters ≡ true → number ≤ 200 → is_name bytes ≡ true
numbered_is_name letters number bytes is are small = ap is_name is ∙ numbered_spells letters number are small
