-- What sources and sinks of bytes give and take.
use Rattle.std.specs.Prelude.{ℕ, ◌+◌, ◌-◌, ◌≡◌, ◌<◌, ◌≤◌, ◌||◌, ◌&&◌, Bool, nat_le, nat_lt, nat_eq, min, if◌then◌else◌, List, ◌++◌, length, take, drop, Option}
use Rattle.std.specs.List.{list_any}
use Rattle.std.specs.Io.KnownBytes.{Appends, Consumes, IsAtEnd}
use Rattle.loom_base.specs.Causes.{next_count}

-- the number of the next call stands among the calls that fail
abbrev pub fails_next : List ℕ → ℕ → Bool
fails_next failing calls = list_any (λ number. nat_eq number (next_count calls)) failing

-- what a source of memory is: its bytes, the place of the first that is left, the calls that fail, and the counts of calls and faults
pub record MemorySourceState : Type 0 where
  pub bytes : List ℕ
  pub place : ℕ
  pub failing : List ℕ
  pub calls : ℕ
  pub faults : ℕ

-- what a sink of memory is: the bytes held, the most that it holds, the most that a call takes, the calls that fail, and the counts
pub record MemorySinkState : Type 0 where
  pub held : List ℕ
  pub room : ℕ
  pub per_call : ℕ
  pub failing : List ℕ
  pub calls : ℕ
  pub faults : ℕ

-- a source of memory that never fails
pub record SteadySourceState : Type 0 where
  pub bytes : List ℕ
  pub place : ℕ

-- a sink of memory that fails only for want of room
pub record SteadySinkState : Type 0 where
  pub held : List ℕ
  pub room : ℕ
  pub faults : ℕ

-- how many bytes a read into a buffer of that length takes
abbrev pub read_len : List ℕ → ℕ → ℕ → ℕ
read_len bytes place len = min len (length (drop place bytes))

-- the buffer after a read: the first bytes of what was left, and then what stood there
abbrev pub filled : List ℕ → ℕ → List ℕ → List ℕ
filled bytes place buf =
    take (read_len bytes place (length buf)) (drop place bytes) ++ drop (read_len bytes place (length buf)) buf

-- a source of memory after a read into a buffer of that length
abbrev pub after_read : MemorySourceState → ℕ → MemorySourceState
after_read source len =
    if fails_next source.failing source.calls
    then record source { calls = next_count source.calls; faults = next_count source.faults }
    else record source { place = source.place + read_len source.bytes source.place len; calls = next_count source.calls }

-- no room is free for the piece, which isn't empty
abbrev pub is_full_for : List ℕ → List ℕ → ℕ → Bool
is_full_for piece held room = nat_lt 0 (length piece) && nat_le room (length held)

-- a write of the piece fails
abbrev pub write_fails : MemorySinkState → List ℕ → Bool
write_fails sink piece = fails_next sink.failing sink.calls || is_full_for piece sink.held sink.room

-- how many bytes of the piece a write takes
abbrev pub write_len : MemorySinkState → List ℕ → ℕ
write_len sink piece = min (min (length piece) (sink.room - length sink.held)) sink.per_call

-- a sink of memory after a write of the piece
abbrev pub after_write : MemorySinkState → List ℕ → MemorySinkState
after_write sink piece =
    if write_fails sink piece
    then record sink { calls = next_count sink.calls; faults = next_count sink.faults }
    else record sink { held = sink.held ++ take (write_len sink piece) piece; calls = next_count sink.calls }

-- a steady sink after a write of the piece
abbrev pub after_steady_write : SteadySinkState → List ℕ → SteadySinkState
after_steady_write sink piece =
    if is_full_for piece sink.held sink.room
    then record sink { faults = next_count sink.faults }
    else record sink { held = sink.held ++ take (sink.room - length sink.held) piece }

-- the bytes are all that was left, at most so many, and the source is at its end
pub record ReadsAll (old new : Option (List ℕ)) (limit : ℕ) (bytes : List ℕ) : Type 0 where
  pub taken : Consumes old new bytes
  pub at_end : IsAtEnd new
  pub within : length bytes ≤ limit

-- exactly so many bytes were taken
abbrev pub Takes : Option (List ℕ) → Option (List ℕ) → ℕ → Type 0
Takes old new count = (bytes : List ℕ) × Consumes old new bytes × (length bytes ≡ count)

-- at most so many bytes were taken
abbrev pub TakesAtMost : Option (List ℕ) → Option (List ℕ) → ℕ → Type 0
TakesAtMost old new count = (bytes : List ℕ) × Consumes old new bytes × (length bytes ≤ count)

-- a front of the bytes that isn't all of them was appended
abbrev pub AppendsPart : Option (List ℕ) → Option (List ℕ) → List ℕ → Type 0
AppendsPart old new bytes = (count : ℕ) × (count < length bytes) × Appends old new (take count bytes)
