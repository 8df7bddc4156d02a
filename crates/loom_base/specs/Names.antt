use Rattle.std.specs.Prelude.{ℕ, List, ◌-◌, ◌≡◌, ◌≤◌, ◌++◌, ◌==◌, ◌||◌, ◌&&◌, Bool, IsTrue, nat_le, if◌then◌else◌, Option, Some, None, length, take, replicate}
use Rattle.std.specs.List.{list_all}
use Rattle.std.proofs.Common.{ap, sym, ◌∙◌}
use Rattle.loom_base.specs.declared.name.Name.TheInside.{Inside}

-- whether a byte may stand in a name: letters, digits, underscore, full stop and hyphen
abbrev pub is_name_byte : ℕ → Bool
is_name_byte b =
    (nat_le 65 b && nat_le b 90) || (nat_le 97 b && nat_le b 122) || (nat_le 48 b && nat_le b 57)
    || b == 95 || b == 46 || b == 45

-- whether bytes are a name: 1 to 32 such bytes
unfoldable pub is_name : List ℕ → Bool
is_name bytes = nat_le 1 (length bytes) && nat_le (length bytes) 32 && list_all is_name_byte bytes

-- the name that bytes spell
abbrev pub name_of : List ℕ → Option (List ℕ)
name_of bytes = if is_name bytes then Some bytes else None

-- the bytes that an array and a length hold
abbrev pub bytes_of : Inside → List ℕ
bytes_of name = take name.len name.padded

-- the array has the name's bytes, and zeros behind them
pub record IsPadded (name : Inside) : Type 0 where
  pub counted : length (bytes_of name) ≡ name.len
  pub within : name.len ≤ 32
  pub whole : length name.padded ≡ 32
  pub valid : IsTrue (is_name (bytes_of name))
  pub zeros : name.padded ≡ bytes_of name ++ replicate (32 - name.len) 0

-- the array and the length that spell these bytes
abbrev pub inside_of : List ℕ → Inside
inside_of bytes = record { padded = bytes ++ replicate (32 - length bytes) 0; len = length bytes }

pub inside_of-bytes_of : (name : Inside) → IsPadded name → inside_of (bytes_of name) ≡ name
inside_of-bytes_of name h =
    let e : inside_of (bytes_of name) ≡ record { padded = bytes_of name ++ replicate (32 - name.len) 0; len = name.len } =
    ap (λ (n : ℕ). record { padded = bytes_of name ++ replicate (32 - n) 0; len = n }) h.counted in
    let f : record { padded = bytes_of name ++ replicate (32 - name.len) 0; len = name.len } ≡ name =
    ap (λ (p : List ℕ). record { padded = p; len = name.len }) (sym h.zeros) in
    e ∙ f
