use Rattle.std.specs.Prelude.{ℕ, List, [], ◌∷◌, ◌++◌, ◌+◌, ◌^◌, ◌&&◌, ◌==◌, map, length, take, slice_index_or}
use Rattle.std.specs.List.{flat_map, range_with_len}
use Rattle.loom_project.specs.declared.draft.Draft.{Draft}
use Rattle.loom_project.specs.declared.draft.NetDraft.{NetDraft}
use Rattle.loom_project.specs.declared.draft.TerminalDraft.{TerminalDraft}
use Rattle.loom_rows.specs.Condition.{Meaning, both, negation}
use Rattle.loom_rows.specs.Formulas.{never, worked_of, meaning_of}
use Rattle.loom_active.specs.Needs.{is_valid_for}
use Rattle.loom_active.specs.Valid.{rules_worked}
use Rattle.loom_active.specs.LiveSets.{mask_of}

-- when the formulas of a net's terminals hold
abbrev pub formulas_of : List (List ℕ) → NetDraft → List Meaning
formulas_of options net = map (λ terminal. meaning_of options terminal.when) net.terminals

-- of a terminal: the conditions of its formula, then that the choice is valid and the formula holds
abbrev pub terminal_worked : List (List ℕ) → Meaning → TerminalDraft → List Meaning
terminal_worked options valid terminal = worked_of options terminal.when ++ both valid (meaning_of options terminal.when) ∷ []

-- of the terminals of these nets, net by net
abbrev pub terminals_worked : List (List ℕ) → Meaning → List NetDraft → List Meaning
terminals_worked options valid nets = flat_map (λ net. flat_map (terminal_worked options valid) net.terminals) nets

-- valid, and the formulas have the signs of the mask: the i-th holds exactly where bit i is set
abbrev pub signed : Meaning → List Meaning → ℕ → Meaning
signed valid formulas mask c = valid c && mask_of (map (λ f. f c) formulas) == mask

-- the formulas with each pattern of signs, masks rising
abbrev pub patterns : Meaning → List Meaning → List Meaning
patterns valid formulas = map (signed valid formulas) (range_with_len 0 (2 ^ length formulas))

-- formula by formula: the negation of the k-th, then each pattern of signs of the formulas up to the k-th
abbrev pub signs_worked : Meaning → List Meaning → List Meaning
signs_worked valid formulas =
    flat_map (λ k. negation (slice_index_or formulas k never) ∷ patterns valid (take (k + 1) formulas)) (range_with_len 0 (length formulas))

-- those of nets in order
abbrev pub sets_worked : List (List ℕ) → Meaning → List NetDraft → List Meaning
sets_worked options valid nets = flat_map (λ net. signs_worked valid (formulas_of options net)) nets

-- what is worked out before clashes are looked for: the rules, then the terminals of all nets
abbrev pub needs_worked : Draft → List Meaning
needs_worked draft = rules_worked draft ++ terminals_worked draft.options (is_valid_for draft) draft.nets

-- what is worked out up to the sets of the first n nets
abbrev pub worked_through : Draft → ℕ → List Meaning
worked_through draft n = needs_worked draft ++ sets_worked draft.options (is_valid_for draft) (take n draft.nets)

-- what is worked out for the live sets of all nets
abbrev pub live_worked : Draft → List Meaning
live_worked draft = needs_worked draft ++ sets_worked draft.options (is_valid_for draft) draft.nets
