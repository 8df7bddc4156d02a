-- A live set of a sound draft: what its mask chooses, its first cavity and the rest.
use Rattle.std.proofs.Common.{◌≡◌, ℕ, zero, suc, ◌-◌, ◌*◌, ◌^◌, ◌<◌, ◌≤◌, Bool, List, [], ◌∷◌, length, drop, map, Ok, refl, sym, ap, subst, ◌∙◌, arith, inl, inr, pow_mono}
use Rattle.std.proofs.lemmas.Bool.{cases_eq, cases_lt}
use Rattle.std.proofs.lemmas.List.{length-map}
use Rattle.std.proofs.lemmas.List.Elements.{All-get_or}
use Rattle.loom_formula.specs.Formula.{holds_of}
use Rattle.loom_topology.specs.Topology.{TopologyView}
use Rattle.loom_topology.specs.Legal.{IsMask, chosen, cavities_of_mask}
use Rattle.loom_topology.proofs.Hangs.{chosen-none}
use Rattle.loom_topology.proofs.Sound.{sound-cavity}
use Rattle.loom_project.specs.declared.draft.Draft.{Draft}
use Rattle.loom_project.specs.declared.draft.TerminalDraft.{TerminalDraft}
use Rattle.loom_project.specs.Draft.{index_of, cavity_names}
use Rattle.loom_project.specs.Project.{net_topology, net_at, cavities_of, HasSoundTopologies}
use Rattle.loom_project.specs.Sound.{draft_check}
use Rattle.loom_project.proofs.NetLemmas.{net_sound}
use Rattle.loom_types.specs.SetMask.{stem_of, rest_of, stem_cavity, stem_node}
use Rattle.loom_types.specs.Laws.{set_cavities}
use Rattle.loom_types.proofs.SetMasks.{set_is_stem_and_rest, stem_within}
use Rattle.loom_active.specs.Needs.{need_of}
use Rattle.loom_active.specs.LiveSets.{need_mask, IsLiveUnder}
use Rattle.loom_active.proofs.Masks.{mask_of-lt}
use Rattle.loom_active.proofs.NeedMasks.{need-chosen}
use Rattle.loom_active.proofs.SetLemmas.{live-in_range}

none_chosen : (xs : List ℕ) → chosen xs 0 ≡ []
none_chosen [] = refl
none_chosen (x ∷ xs) = chosen-none x xs 0 refl ∙ none_chosen xs

power_halved : (n : ℕ) → 1 ≤ n → 2 ^ n ≡ 2 * 2 ^ (n - 1)
power_halved zero some = absurd (omega (arith, some))
power_halved (suc n) some = let e : suc n - 1 ≡ n = omega arith in rw e (omega arith)

module _ (draft : Draft) (passed : draft_check draft ≡ Ok tt) (sound : HasSoundTopologies draft) (choice : ℕ → Bool) (net mask : ℕ)
    (live : IsLiveUnder draft choice net mask) where
  abbrev topology : TopologyView
  topology = net_topology draft net

  abbrev terminals : List ℕ
  terminals = cavities_of draft net

  pub net_within : net < length draft.nets
  net_within = live-in_range draft net mask (choice, live)

  pub few_terminals : length terminals ≤ 12
  few_terminals =
      let few = (net_sound draft net passed net_within).few in
      omega (arith, few, length-map (net_at draft net).terminals (λ (t : TerminalDraft). index_of (cavity_names draft.cavities) t.cavity))

  pub mask_within : mask < 2 ^ length terminals
  mask_within =
      let truths : List Bool = map (λ (t : TerminalDraft). holds_of t.when draft.options choice) (net_at draft net).terminals in
      let count : length truths ≡ length terminals =
      length-map (net_at draft net).terminals (λ (t : TerminalDraft). holds_of t.when draft.options choice)
      ∙ sym (length-map (net_at draft net).terminals (λ (t : TerminalDraft). index_of (cavity_names draft.cavities) t.cavity)) in
      let below : need_mask draft choice net < 2 ^ length terminals =
      subst (λ (n : ℕ). need_mask draft choice net < 2 ^ n) count (mask_of-lt truths) in
      subst (λ (m : ℕ). m < 2 ^ length terminals) live.needs below

  -- the mask chooses what the net needs
  pub chosen_is_need : chosen terminals mask ≡ need_of draft choice net
  chosen_is_need = ap (chosen terminals) (sym live.needs) ∙ need-chosen draft choice net

  pub two_chosen : 2 ≤ length (chosen terminals mask)
  two_chosen = let some = live.some in omega (arith, some, ap length chosen_is_need)

  some_terminal : 0 < mask
  some_terminal = elim (cases_eq mask 0) [
    | inl e ↦
        let none : length (chosen terminals mask) ≡ 0 = ap (λ m. length (chosen terminals m)) e ∙ ap length (none_chosen terminals) in
        absurd (omega (arith, none, two_chosen))
    | inr other ↦ omega (arith, other)
  ]

  stem_and_rest : chosen terminals mask ≡ set_cavities terminals mask
  stem_and_rest = set_is_stem_and_rest terminals mask some_terminal mask_within (omega (arith, few_terminals))

  pub need_is : need_of draft choice net ≡ set_cavities terminals mask
  need_is = sym chosen_is_need ∙ stem_and_rest

  stem_power : 2 ^ stem_of mask ≤ mask
  stem_power =
      stem_within mask some_terminal
      (omega (arith, mask_within, pow_mono {i = length terminals} {j = 32} (omega (arith, few_terminals))))

  stem_in_range : stem_of mask < length terminals
  stem_in_range = elim (cases_lt (stem_of mask) (length terminals)) [
    | inl within ↦ within
    | inr past ↦ absurd (omega (arith, stem_power, mask_within, pow_mono {i = length terminals} {j = stem_of mask} past))
  ]

  some_rest : 0 < rest_of mask
  some_rest = elim (cases_eq (rest_of mask) 0) [
    | inl e ↦
        let none : length (cavities_of_mask terminals (rest_of mask)) ≡ 0 =
        ap (λ m. length (cavities_of_mask terminals m)) e ∙ ap length (none_chosen (drop 1 terminals)) in
        absurd (omega (arith, two_chosen, none, ap length stem_and_rest))
    | inr other ↦ omega (arith, other)
  ]

  pub rest_is_mask : IsMask terminals (rest_of mask)
  rest_is_mask = (some_rest, omega (arith, mask_within, power_halved (length terminals) (omega (arith, stem_in_range))))

  pub home_within : stem_node topology terminals mask < length topology.nodes
  home_within =
      sound-cavity topology (sound.each net) (stem_cavity terminals mask)
      (All-get_or (λ c. c < length topology.cavities) terminals (stem_of mask) 0 stem_in_range (sound.terminals net net_within))
