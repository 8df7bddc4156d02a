-- Checks that answer the first failure.
use Rattle.std.specs.Prelude.{Bool, List, [], ◌∷◌, ◌++◌, Result, Ok, Err, if◌then◌else◌}

-- a check passes, or it answers the first failure
abbrev pub Check : Type 0 → Type 0
Check F = Result (Unit {0}) F

infixr 4 ◌>>◌
-- a check, and where it passes what comes next
abbrev pub ◌>>◌ : {A F : Type 0} → Check F → Result A F → Result A F
(Ok passed) >> next = next
(Err failure) >> next = Err failure

infixl 10 ◌>>=◌
-- what comes next, of the value that the first gave
abbrev pub ◌>>=◌ : {A B F : Type 0} → Result A F → (A → Result B F) → Result B F
(Ok value) >>= next = next value
(Err failure) >>= next = Err failure

-- it passes exactly where the test holds
abbrev pub require : {F : Type 0} → Bool → F → Check F
require holds failure = if holds then Ok tt else Err failure

-- the first failure among elements, each checked by itself
abbrev pub every : {A F : Type 0} → (A → Check F) → List A → Check F
every check [] = Ok tt
every check (x ∷ xs) = check x >> every check xs

-- the first failure among elements, each checked with all those before it
abbrev pub each_after : {A F : Type 0} → (List A → A → Check F) → List A → List A → Check F
each_after check before [] = Ok tt
each_after check before (x ∷ xs) = check before x >> each_after check (before ++ x ∷ []) xs

-- the first failure of a list, each element checked with those before it
abbrev pub each : {A F : Type 0} → (List A → A → Check F) → List A → Check F
each check xs = each_after check [] xs
