-- What a net needs is what the mask of its need chooses from its cavities.
use Rattle.std.proofs.Common.{◌≡◌, ℕ, ◌+◌, ◌*◌, ◌/◌, ◌%◌, inl, inr, Bool, cond, List, [], ◌∷◌, map, refl, sym, ap, ◌∙◌, arith, filter}
use Rattle.std.proofs.lemmas.Bool.{cases_Bool, cond-true, cond-false}
use Rattle.loom_formula.specs.Formula.{holds_of}
use Rattle.loom_topology.specs.Legal.{chosen}
use Rattle.loom_topology.proofs.Hangs.{chosen-one, chosen-none}
use Rattle.loom_project.specs.declared.draft.Draft.{Draft}
use Rattle.loom_project.specs.declared.draft.TerminalDraft.{TerminalDraft}
use Rattle.loom_project.specs.Draft.{index_of, cavity_names}
use Rattle.loom_project.specs.Project.{net_at, cavities_of}
use Rattle.loom_active.specs.Needs.{need_of}
use Rattle.loom_active.specs.LiveSets.{mask_of, need_mask}

odd_mask : (bit rest : ℕ) → bit ≡ 1 → ((bit + 2 * rest) % 2 ≡ 1) × ((bit + 2 * rest) / 2 ≡ rest)
odd_mask bit rest e = (omega arith, omega arith)

even_mask : (bit rest : ℕ) → bit ≡ 0 → ((bit + 2 * rest) % 2 ≡ 0) × ((bit + 2 * rest) / 2 ≡ rest)
even_mask bit rest e = (omega arith, omega arith)

module _ {X : Type 0} (place : X → ℕ) (holds : X → Bool) where
  chosen_by_mask : (ts : List X) → chosen (map place ts) (mask_of (map holds ts)) ≡ map place (filter holds ts)
  chosen_by_mask [] = refl
  chosen_by_mask (t ∷ ts) =
      let rest = mask_of (map holds ts) in
      elim (cases_Bool (holds t)) [
        | inl holding ↦
            let mask = odd_mask (cond (holds t) 1 0) rest (cond-true (holds t) 1 0 holding) in
            chosen-one (place t) (map place ts) (cond (holds t) 1 0 + 2 * rest) mask.0
            ∙ ap (λ (m : ℕ). place t ∷ chosen (map place ts) m) mask.1
            ∙ ap (λ (l : List ℕ). place t ∷ l) (chosen_by_mask ts)
            ∙ sym (ap (λ (b : Bool). map place (cond b (t ∷ filter holds ts) (filter holds ts))) holding)
        | inr lacking ↦
            let mask = even_mask (cond (holds t) 1 0) rest (cond-false (holds t) 1 0 lacking) in
            chosen-none (place t) (map place ts) (cond (holds t) 1 0 + 2 * rest) mask.0
            ∙ ap (λ (m : ℕ). chosen (map place ts) m) mask.1
            ∙ chosen_by_mask ts
            ∙ sym (ap (λ (b : Bool). map place (cond b (t ∷ filter holds ts) (filter holds ts))) lacking)
      ]

pub need-chosen : (draft : Draft) (choice : ℕ → Bool) (net : ℕ) → chosen (cavities_of draft net) (need_mask draft choice net) ≡ need_of draft choice net
need-chosen draft choice net =
    chosen_by_mask (λ (t : TerminalDraft). index_of (cavity_names draft.cavities) t.cavity)
    (λ (t : TerminalDraft). holds_of t.when draft.options choice) (net_at draft net).terminals
