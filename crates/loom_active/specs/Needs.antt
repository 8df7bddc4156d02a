use Rattle.std.specs.Prelude.{ℕ, List, Bool, filter}
use Rattle.loom_formula.specs.Choice.{is_valid}
use Rattle.loom_formula.specs.Formula.{holds_of}
use Rattle.loom_project.specs.declared.draft.Draft.{Draft}
use Rattle.loom_project.specs.declared.draft.TerminalDraft.{TerminalDraft}
use Rattle.loom_project.specs.Draft.{cavity_names}
use Rattle.loom_project.specs.Project.{net_at, terminal_places}

-- whether every rule of the draft holds under the choice
abbrev pub is_valid_for : Draft → (ℕ → Bool) → Bool
is_valid_for draft choice = is_valid draft.rules draft.options choice

-- the terminals of a net whose formulas hold under the choice
abbrev pub active_terminals : Draft → (ℕ → Bool) → ℕ → List TerminalDraft
active_terminals draft choice net = filter (λ terminal. holds_of terminal.when draft.options choice) (net_at draft net).terminals

-- the cavities that a net needs under a choice, by number and in the net's order
abbrev pub need_of : Draft → (ℕ → Bool) → ℕ → List ℕ
need_of draft choice net = terminal_places (cavity_names draft.cavities) (active_terminals draft choice net)
