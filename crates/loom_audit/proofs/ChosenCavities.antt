-- The cavities of a mask, one terminal after another.
use Rattle.std.proofs.Common.{◌≡◌, ◌≢◌, ℕ, ◌+◌, ◌/◌, ◌%◌, ◌<◌, ◌++◌, List, [], ◌∷◌, length, map, drop, get_or, sym, ap, ◌∙◌, arith, append_assoc}
use Rattle.std.proofs.lemmas.List.{drop_more, map_push}
use Rattle.loom_base.specs.declared.positions.CavityNo.{CavityNo}
use Rattle.loom_topology.specs.Legal.{chosen}
use Rattle.loom_topology.proofs.Hangs.{chosen-one, chosen-none}

module _ (cavities done new : List CavityNo) (all : List ℕ) (at rest : ℕ) (d : CavityNo) (lt : at < length cavities) where
  abbrev numbers : List CavityNo → List ℕ
  numbers cs = map (λ (c : CavityNo). c.0) cs

  module _ (so_far : all ≡ numbers done ++ chosen (numbers (drop at cavities)) rest) where
    at_next : all ≡ numbers done ++ chosen (numbers (get_or cavities at d ∷ drop (at + 1) cavities)) rest
    at_next = so_far ∙ ap (λ (cs : List CavityNo). numbers done ++ chosen (numbers cs) rest) (drop_more cavities at d lt)

    -- its bit is set
    pub taken-more : rest % 2 ≡ 1 → new ≡ done ++ get_or cavities at d ∷ [] → all ≡ numbers new ++ chosen (numbers (drop (at + 1) cavities)) (rest / 2)
    taken-more odd is =
        at_next
        ∙ ap (λ (cs : List ℕ). numbers done ++ cs) (chosen-one (get_or cavities at d).0 (numbers (drop (at + 1) cavities)) rest odd)
        ∙ sym (append_assoc (numbers done) ((get_or cavities at d).0 ∷ []) (chosen (numbers (drop (at + 1) cavities)) (rest / 2)))
        ∙ ap (λ (l : List ℕ). l ++ chosen (numbers (drop (at + 1) cavities)) (rest / 2))
        (sym (map_push (λ (c : CavityNo). c.0) done (get_or cavities at d)) ∙ ap numbers (sym is))

    -- its bit isn't set
    pub left-more : rest % 2 ≢ 1 → new ≡ done → all ≡ numbers new ++ chosen (numbers (drop (at + 1) cavities)) (rest / 2)
    left-more even is =
        at_next
        ∙ ap (λ (cs : List ℕ). numbers done ++ cs) (chosen-none (get_or cavities at d).0 (numbers (drop (at + 1) cavities)) rest (omega (arith, even)))
        ∙ ap (λ (l : List CavityNo). numbers l ++ chosen (numbers (drop (at + 1) cavities)) (rest / 2)) (sym is)
