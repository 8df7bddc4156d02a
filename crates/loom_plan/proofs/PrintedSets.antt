-- What holds of the printed sets of a sound draft: their terminals and their layouts.
use Rattle.std.proofs.Common.{◌≡◌, ◌≢◌, ℕ, ◌%◌, ◌/◌, ◌^◌, ◌<◌, ◌≤◌, ◌==◌, Bool, true, false, cond, List, [], ◌∷◌, length, map, get_or, Ok, sym, ap, subst, ◌∙◌, arith, Contains, inl, inr}
use Rattle.std.specs.List.{All, AllPairs}
use Rattle.std.proofs.lemmas.List.{length-map}
use Rattle.loom_base.proofs.Contained.{Contains-here, Contains-cons, Contains-cases}
use Rattle.loom_formula.specs.Formula.{holds_of}
use Rattle.loom_topology.specs.Topology.{TopologyView}
use Rattle.loom_topology.specs.Table.{cell_at}
use Rattle.loom_topology.specs.WiringTree.{Tree, IsWiringTree}
use Rattle.loom_topology.specs.TreeCost.{degree_of, cost_of}
use Rattle.loom_topology.specs.Legal.{IsMask, chosen, cavities_of_mask}
use Rattle.loom_project.specs.declared.draft.Draft.{Draft}
use Rattle.loom_project.specs.declared.draft.TerminalDraft.{TerminalDraft}
use Rattle.loom_project.specs.Draft.{index_of, cavity_names}
use Rattle.loom_project.specs.Project.{net_topology, net_at, cavities_of, HasSoundTopologies}
use Rattle.loom_project.specs.Sound.{draft_check}
use Rattle.loom_project.proofs.NetLemmas.{net_sound, all_different}
use Rattle.loom_types.specs.declared.plan.Plan.{Plan}
use Rattle.loom_types.specs.declared.plan.SetLine.{SetLine}
use Rattle.loom_types.specs.LayoutTree.{step_of, tree_of, IsLaidOut, layout_cost}
use Rattle.loom_types.specs.SetMask.{rest_of, stem_node, IsSet}
use Rattle.loom_types.specs.Laws.{set_cavities}
use Rattle.loom_steiner.specs.LeastTable.{IsLeastTable}
use Rattle.loom_layout.proofs.Sets as sets
use Rattle.loom_active.specs.Needs.{need_of}
use Rattle.loom_active.specs.LiveSets.{need_mask, IsLiveUnder, IsLiveSet}
use Rattle.loom_active.proofs.Masks.{mask_of-lt}
use Rattle.loom_active.proofs.NeedMasks.{need-chosen}
use Rattle.loom_active.proofs.Pairs.{at_index, pairs-none, pairs-cons, pairs-head, pairs-tail}
use Rattle.loom_active.proofs.SetLemmas.{live-in_range}
use Rattle.loom_plan.specs.PlanOf.{ArePlanTables, IsLaidLine}
use Rattle.loom_plan.proofs.LowerLaws.{LowerLaws}

-- ---- what a mask chooses

put_first : (x c : ℕ) (b : Bool) (rest cs : List ℕ) → (Contains rest x → Contains cs x) → Contains (cond b (c ∷ rest) rest) x → Contains (c ∷ cs) x
put_first x c true rest cs kept at = elim (Contains-cases x c rest at) [
  | inl same ↦ subst (Contains (c ∷ cs)) same (Contains-here c cs)
  | inr later ↦ Contains-cons x c cs (kept later)
]
put_first x c false rest cs kept at = Contains-cons x c cs (kept at)

pub chosen-member : (xs : List ℕ) (mask x : ℕ) → Contains (chosen xs mask) x → Contains xs x
chosen-member [] mask x at = at
chosen-member (c ∷ cs) mask x at = put_first x c (mask % 2 == 1) (chosen cs (mask / 2)) cs (chosen-member cs (mask / 2) x) at

chosen-pairs : (R : ℕ → ℕ → Type 0) (xs : List ℕ) (mask : ℕ) → AllPairs R xs → AllPairs R (chosen xs mask)
chosen-pairs R [] mask all = pairs-none R
chosen-pairs R (c ∷ cs) mask all =
    let rest = chosen-pairs R cs (mask / 2) (pairs-tail R c cs all) in
    elim (mask % 2 == 1) as (λ (b : Bool). AllPairs R (cond b (c ∷ chosen cs (mask / 2)) (chosen cs (mask / 2)))) [
      | true ↦ pairs-cons R c (chosen cs (mask / 2)) (λ y at. pairs-head R c cs all y (chosen-member cs (mask / 2) y at)) rest
      | false ↦ rest
    ]

pub All-member : (P : ℕ → Type 0) (xs : List ℕ) (x : ℕ) → All P xs → Contains xs x → P x
All-member P xs x all (k, below, at) = subst P at (all k x below)

chosen-all : (P : ℕ → Type 0) (xs : List ℕ) (mask : ℕ) → All P xs → All P (chosen xs mask)
chosen-all P xs mask all k d lt =
    All-member P xs (get_or (chosen xs mask) k d) all (chosen-member xs mask (get_or (chosen xs mask) k d) (at_index (chosen xs mask) k d lt))

-- ---- the terminals of a printed set

module _ (draft : Draft) (passed : draft_check draft ≡ Ok tt) (sound : HasSoundTopologies draft) where
  few_cavities : (net : ℕ) → net < length draft.nets → length (cavities_of draft net) ≤ 12
  few_cavities net within =
      let few = (net_sound draft net passed within).few in
      omega (arith, few, length-map (net_at draft net).terminals (λ (t : TerminalDraft). index_of (cavity_names draft.cavities) t.cavity))

  different_cavities : (net : ℕ) → net < length draft.nets → AllPairs (λ one other. one ≢ other) (cavities_of draft net)
  different_cavities net within = all_different (cavity_names draft.cavities) (net_at draft net).terminals (net_sound draft net passed within)

  pub mask_within : (choice : ℕ → Bool) (net : ℕ) → need_mask draft choice net < 2 ^ length (cavities_of draft net)
  mask_within choice net =
      let truths : List Bool = map (λ (t : TerminalDraft). holds_of t.when draft.options choice) (net_at draft net).terminals in
      let count : length truths ≡ length (cavities_of draft net) =
      length-map (net_at draft net).terminals (λ (t : TerminalDraft). holds_of t.when draft.options choice)
      ∙ sym (length-map (net_at draft net).terminals (λ (t : TerminalDraft). index_of (cavity_names draft.cavities) t.cavity)) in
      subst (λ (n : ℕ). need_mask draft choice net < 2 ^ n) count (mask_of-lt truths)

  -- a set that is live chooses what its net needs
  pub chosen_is_need : (choice : ℕ → Bool) (net mask : ℕ) → IsLiveUnder draft choice net mask → chosen (cavities_of draft net) mask ≡ need_of draft choice net
  chosen_is_need choice net mask live = ap (chosen (cavities_of draft net)) (sym live.needs) ∙ need-chosen draft choice net

  module _ (net mask : ℕ) (live : IsLiveSet draft net mask) where
    pub net_within : net < length draft.nets
    net_within = live-in_range draft net mask live

    pub is_set : IsSet (cavities_of draft net) mask
    is_set =
        let (choice, under) = live in
        let some = under.some in
        record {
          within = subst (λ (m : ℕ). m < 2 ^ length (cavities_of draft net)) under.needs (mask_within choice net);
          some = omega (arith, some, ap length (chosen_is_need choice net mask under));
        }

    pub stem_and_rest : chosen (cavities_of draft net) mask ≡ set_cavities (cavities_of draft net) mask
    stem_and_rest = sets.cut (cavities_of draft net) mask is_set (few_cavities net net_within)

    pub rest_is_mask : IsMask (cavities_of draft net) (rest_of mask)
    rest_is_mask = sets.rest_range (cavities_of draft net) mask is_set (few_cavities net net_within)

    pub set_different : AllPairs (λ one other. one ≢ other) (set_cavities (cavities_of draft net) mask)
    set_different =
        subst (AllPairs (λ one other. one ≢ other)) stem_and_rest
        (chosen-pairs (λ one other. one ≢ other) (cavities_of draft net) mask (different_cavities net net_within))

    pub set_in_range : All (λ c. c < length (net_topology draft net).cavities) (set_cavities (cavities_of draft net) mask)
    set_in_range =
        subst (All (λ c. c < length (net_topology draft net).cavities)) stem_and_rest
        (chosen-all (λ c. c < length (net_topology draft net).cavities) (cavities_of draft net) mask (sound.terminals net net_within))

-- ---- its layout

module _ (laws : LowerLaws) (draft : Draft) (plan : Plan) (sound : HasSoundTopologies draft) (tables : ArePlanTables draft plan) (set : SetLine)
    (within : set.net.0 < length draft.nets) (laid : IsLaidLine draft plan set) where
  abbrev topology : TopologyView
  topology = net_topology draft set.net.0

  abbrev terminals : List ℕ
  terminals = cavities_of draft set.net.0

  -- the table of its net has least costs
  pub net_table : IsLeastTable topology terminals laid.line.table
  net_table =
      subst (λ (n : ℕ). IsLeastTable (net_topology draft n) (cavities_of draft n) laid.line.table) laid.of_net
      (tables.least laid.line laid.printed)

  abbrev stem : ℕ
  stem = stem_node topology terminals set.mask

  abbrev tree : Tree
  tree = tree_of set.layout

  set_tree : IsWiringTree topology (cavities_of_mask terminals (rest_of set.mask)) stem tree
      × ((point : ℕ) → point ≤ length tree.steps → 2 ≤ degree_of tree point)
      × (cost_of topology stem tree ≡ set.cost)
  set_tree =
      laws.layouts topology terminals (cell_at laid.line.table) (rest_of set.mask) stem set.cost tree (sound.each set.net.0)
      (sound.terminals set.net.0 within) net_table.least laid.cost laid.layout

  pub set_laid : IsLaidOut topology terminals set.mask set.layout
  set_laid = record {
    tree = set_tree.0;
    degrees = λ point below. set_tree.1 point (omega (arith, below, length-map set.layout.steps step_of));
  }

  pub set_costs : layout_cost topology terminals set.mask set.layout ≡ set.cost
  set_costs = set_tree.2
