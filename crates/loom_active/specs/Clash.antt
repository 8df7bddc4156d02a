use Rattle.std.specs.Prelude.{ℕ, Bool, ◌≡◌, ◌<◌, ◌⊎◌, IsTrue, Contains}
use Rattle.loom_formula.specs.Choice.{IsBefore}
use Rattle.loom_project.specs.declared.draft.Draft.{Draft}
use Rattle.loom_active.specs.Needs.{is_valid_for, need_of}

-- under a valid choice a cavity is active in two nets; a net may need it alone
pub record IsClash (draft : Draft) (cavity first second : ℕ) (choice : ℕ → Bool) : Type 0 where
  pub valid : IsTrue (is_valid_for draft choice)
  pub different : first < second
  pub in_first : Contains (need_of draft choice first) cavity
  pub in_second : Contains (need_of draft choice second) cavity

-- under no valid choice a cavity is active in two nets
abbrev pub HasNoClash : Draft → Type 0
HasNoClash draft = (cavity first second : ℕ) (choice : ℕ → Bool) → IsClash draft cavity first second choice → ⊥

-- clashes are ordered by cavity, then first net, then second net
abbrev pub IsClashBefore : ℕ → ℕ → ℕ → ℕ → ℕ → ℕ → Type 0
IsClashBefore cavity first second other_cavity other_first other_second =
    (cavity < other_cavity) ⊎ ((cavity ≡ other_cavity) × ((first < other_first) ⊎ ((first ≡ other_first) × (second < other_second))))

-- the clash of the lowest cavity, then the lowest first net, then the lowest second net, with the least choice that makes it
pub record IsFirstClash (draft : Draft) (cavity first second : ℕ) (choice : ℕ → Bool) : Type 0 where
  pub clash : IsClash draft cavity first second choice
  pub lowest : (c f s : ℕ) (other : ℕ → Bool) → IsClash draft c f s other → IsClashBefore c f s cavity first second → ⊥
  pub least : (other : ℕ → Bool) → IsClash draft cavity first second other → IsBefore other choice → ⊥
