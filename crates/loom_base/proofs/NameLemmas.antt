-- A name is a text.
use Rattle.std.proofs.Common.{◌≡◌, ℕ, ◌<◌, List, Bool, true, false, ◌&&◌, true≢false, sym, arith}
use Rattle.std.specs.Str.{IsUtf8}
use Rattle.std.proofs.lemmas.Bool.Decides.{nat_tests}
use Rattle.std.proofs.lemmas.List.Elements.{All-weaker}
use Rattle.std.proofs.lemmas.List.Sums.{AllPass-from_list_all}
use Rattle.std.proofs.lemmas.Str.{IsUtf8-from_ascii}
use Rattle.std.proofs.lemmas.Str.Ascii.{IsAscii-from_all}
use Rattle.loom_base.specs.Names.{is_name, is_name_byte}

second : (a b : Bool) → (a && b) ≡ true → b ≡ true
second true b is = is
second false b is = absurd (true≢false (sym is))

byte_below : (b : ℕ) → is_name_byte b ≡ true → b < 128
byte_below b is = grind (arith, nat_tests)

pub IsUtf8-from_is_name : (bytes : List ℕ) → is_name bytes ≡ true → IsUtf8 bytes
unfolding is_name
IsUtf8-from_is_name bytes is =
    let spelled = AllPass-from_list_all is_name_byte bytes (second _ _ is) in
    IsUtf8-from_ascii bytes (IsAscii-from_all bytes (All-weaker (λ b. is_name_byte b ≡ true) (λ b. b < 128) byte_below bytes spelled))

pub ruleset names = (IsUtf8-from_is_name)
