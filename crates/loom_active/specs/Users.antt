use Rattle.std.specs.Prelude.{ℕ, List, [], ◌∷◌, ◌++◌, ◌≡◌, ◌<◌, ◌+◌, ◌==◌, if◌then◌else◌, Option, Some, None, slice_get, drop}
use Rattle.std.specs.List.{filter_map}
use Rattle.loom_rows.specs.Condition.{Meaning, value, both}
use Rattle.loom_rows.specs.Table.{Table, Has}
use Rattle.loom_rows.specs.Meet.{IsNever, Meet}
use Rattle.loom_active.specs.declared.clash.User.{User}
use Rattle.loom_active.specs.declared.terminals.Terminal.{Terminal}

-- the net as a user of a cavity, where the terminal names it
abbrev pub user_of : ℕ → ℕ → Terminal → Option User
user_of net cavity terminal = if terminal.cavity.0 == cavity then Some (record { net = record { 0 = net }; active = terminal.active }) else None

-- the users of a cavity among nets, of which the first has this number
abbrev pub users_from : ℕ → ℕ → List (List Terminal) → List User
users_from net cavity [] = []
users_from net cavity (terminals ∷ nets) = filter_map (user_of net cavity) terminals ++ users_from (net + 1) cavity nets

-- the users of a cavity, in order of nets
abbrev pub users_of : List (List Terminal) → ℕ → List User
users_of nets cavity = users_from 0 cavity nets

-- the table has each user's condition
abbrev pub HasUsers : Table → List User → Type 0
HasUsers t users = (i : ℕ) (user : User) → slice_get users i ≡ Some user → Has t user.active

-- none of the users' conditions holds together with this one
abbrev pub AreUnmet : Meaning → List User → Type 0
AreUnmet f users = (i : ℕ) (user : User) → slice_get users i ≡ Some user → IsNever (both f (value user.active))

-- the first of the users whose condition holds together with this one
pub record IsFirstMet (f : Meaning) (users : List User) (user : User) : Type 0 where
  pub i : ℕ
  pub at : slice_get users i ≡ Some user
  pub meets : Meet f (value user.active)
  pub before : (j : ℕ) (other : User) → j < i → slice_get users j ≡ Some other → IsNever (both f (value other.active))

-- no user before the n-th holds together with a later one
abbrev pub AreApartBefore : ℕ → List User → Type 0
AreApartBefore n users = (i : ℕ) (user : User) → i < n → slice_get users i ≡ Some user → AreUnmet (value user.active) (drop (i + 1) users)

-- the first two users whose conditions hold together, by the first and then by the second
pub record IsFirstPair (users : List User) (first second : User) : Type 0 where
  pub i : ℕ
  pub at : slice_get users i ≡ Some first
  pub met : IsFirstMet (value first.active) (drop (i + 1) users) second
  pub before : AreApartBefore i users
