-- Live sets with their layouts.
use Rattle.std.proofs.Common.{◌≡◌, ℕ, ◌^◌, ◌<◌, ◌≤◌, List, Some, length, map, get_or, sym, ap, subst, ◌∙◌, arith, inl, inr, Contains}
use Rattle.std.specs.Prelude.{Result, Ok, Err, IfOk, OnOk}
use Rattle.std.specs.List.{All}
use Rattle.std.specs.List.Sorted.{IsStrictlyIncreasing, IsNonDecreasingBy, IsPartitionPoint}
use Rattle.std.specs.Ordering.{nat_cmp, ordering_index}
use Rattle.std.specs.declared.cmp.Ordering.TheVariants.{Less, Equal, Greater}
use Rattle.std.proofs.lemmas.Bool.{cases_lt}
use Rattle.std.proofs.lemmas.Bool.Decides.{nat_tests}
use Rattle.std.proofs.lemmas.Cmp.{ranked}
use Rattle.std.proofs.lemmas.List.{length-map, get_or-map}
use Rattle.std.proofs.lemmas.List.Kept.{AllPairs-from_increasing}
use Rattle.loom_base.proofs.Contained.{Contains-from_map}
use Rattle.loom_base.specs.declared.positions.NetNo.{NetNo}
use Rattle.loom_base.specs.declared.positions.CavityNo.{CavityNo}
use Rattle.loom_formula.specs.Formula.{holds_of}
use Rattle.loom_topology.specs.Topology.{TopologyView}
use Rattle.loom_topology.specs.Table.{cell_at}
use Rattle.loom_topology.specs.Legal.{chosen}
use Rattle.loom_topology.specs.Reach.{AreReached}
use Rattle.loom_types.specs.declared.plan.TableLine.{TableLine}
use Rattle.loom_types.specs.SetMask.{IsSet, rest_of, stem_node}
use Rattle.loom_layout.specs.Layout.{IsLayoutOf}
use Rattle.loom_project.specs.declared.draft.Draft.{Draft}
use Rattle.loom_project.specs.declared.draft.TerminalDraft.{TerminalDraft}
use Rattle.loom_project.specs.Draft.{index_of, cavity_names}
use Rattle.loom_project.specs.Project.{net_topology, cavities_of, net_at}
use Rattle.loom_project.proofs.PartsLemmas.{count_net_cavities}
use Rattle.loom_active.specs.declared.live.LiveSet.{LiveSet}
use Rattle.loom_active.specs.LiveSets.{IsLiveSet, need_mask}
use Rattle.loom_active.specs.Needs.{need_of}
use Rattle.loom_active.proofs.Masks.{mask_of-lt}
use Rattle.loom_active.proofs.NeedMasks.{need-chosen}
use Rattle.loom_laid.specs.declared.laid_set.LaidSet.{LaidSet}
use Rattle.loom_laid.specs.LaidSets.{IsLaid, live_of}
use Rattle.loom_laid.specs.LaidStops.{IsReached}

-- ---- the line of a net

index-rises : (a b n : ℕ) → a ≤ b → ordering_index (nat_cmp a n) ≤ ordering_index (nat_cmp b n)
index-rises a b n le = grind (arith, nat_tests)

module _ (tables : List TableLine) (net : NetNo) where
  lines-rise : IsStrictlyIncreasing (map (λ line. line.net.0) tables) → IsNonDecreasingBy (λ line. ordering_index (nat_cmp line.net.0 net.0)) tables
  lines-rise rising i j d le within =
      index-rises (get_or tables i d).net.0 (get_or tables j d).net.0 net.0 (elim (cases_lt i j) [
        | inl below ↦
            let number : TableLine → ℕ = λ line. line.net.0 in
            let up = AllPairs-from_increasing (map number tables) rising i j 0 below (omega (arith, within, length-map tables number)) in
            let a : get_or (map number tables) i 0 ≡ (get_or tables i d).net.0 = get_or-map number tables i d 0 (omega (arith, below, within)) in
            let b : get_or (map number tables) j 0 ≡ (get_or tables j d).net.0 = get_or-map number tables j d 0 within in
            omega (arith, up, a, b)
        | inr past ↦
            let same : i ≡ j = omega (arith, le, past) in
            let e : (get_or tables i d).net.0 ≡ (get_or tables j d).net.0 = ap (λ k. (get_or tables k d).net.0) same in
            omega (arith, e)
      ])

  -- a net that has a line is found
  pub not-missing : IsStrictlyIncreasing (map (λ line. line.net.0) tables) → Contains (map (λ line. line.net) tables) net → (i : ℕ)
      → (IsNonDecreasingBy (λ line. ordering_index (nat_cmp line.net.0 net.0)) tables
      → IsPartitionPoint (λ line. nat_cmp line.net.0 net.0 ≡ Less) (λ line. nat_cmp line.net.0 net.0 ≡ Greater) tables i) → ⊥
  not-missing rising there i parted =
      let found = Contains-from_map (λ (line : TableLine). line.net) tables net there in
      let line : TableLine = found.0 in
      let k = found.1.0 in
      let lt : k < length tables = found.1.1 in
      let same : (get_or tables k line).net.0 ≡ net.0 = ap (λ (l : TableLine). l.net.0) found.1.2 ∙ ap (λ (n : NetNo). n.0) found.2 in
      let parts = parted (lines-rise rising) in
      elim (cases_lt k i) [
        | inl below ↦ (let less : (get_or tables k line).net.0 < net.0 = ranked (get_or tables k line).net.0 net.0 Less (sym (parts.0 k line (omega arith) below)) in omega (arith, less, same))
        | inr past ↦ (let more : net.0 < (get_or tables k line).net.0 = ranked (get_or tables k line).net.0 net.0 Greater (sym (parts.1 k line (omega (arith, past)) lt)) in omega (arith, more, same))
      ]

  pub is-line : (line : TableLine) (at : ℕ) → line ≡ get_or tables at line → ((d : TableLine) → nat_cmp (get_or tables at d).net.0 net.0 ≡ Equal) → line.net ≡ net
  is-line line at is equal =
      let e : nat_cmp line.net.0 net.0 ≡ Equal = ap (λ (l : TableLine). nat_cmp l.net.0 net.0) is ∙ equal line in
      let same : line.net.0 ≡ net.0 = ranked line.net.0 net.0 Equal (sym e) in
      λ i. record { 0 = same i }

-- ---- one set

-- a live set is a set of its net's terminals
pub live-is_set : (draft : Draft) (net mask : ℕ) → IsLiveSet draft net mask → IsSet (cavities_of draft net) mask
live-is_set draft net mask (choice, live) =
    let terminals = (net_at draft net).terminals in
    let bound = mask_of-lt (map (λ (t : TerminalDraft). holds_of t.when draft.options choice) terminals) in
    let values = length-map terminals (λ (t : TerminalDraft). holds_of t.when draft.options choice) in
    let places = length-map terminals (λ (t : TerminalDraft). index_of (cavity_names draft.cavities) t.cavity) in
    let power : 2 ^ length (map (λ (t : TerminalDraft). holds_of t.when draft.options choice) terminals) ≡ 2 ^ length (cavities_of draft net) = ap (λ n. 2 ^ n) (values ∙ sym places) in
    let count : length (chosen (cavities_of draft net) (need_mask draft choice net)) ≡ length (need_of draft choice net) = ap length (need-chosen draft choice net) in
    let some = live.some in
    let needed : IsSet (cavities_of draft net) (need_mask draft choice net) = record { within = omega (arith, bound, power); some = omega (arith, count, some) } in
    subst (IsSet (cavities_of draft net)) live.needs needed

pub in_range-over : (draft : Draft) (net : ℕ) (topology : TopologyView) (cavities : List CavityNo) → topology ≡ net_topology draft net
    → All (λ c. c.0 < length draft.cavities) cavities → All (λ c. c.0 < length topology.cavities) cavities
in_range-over draft net topology cavities over in_range =
    let count : length topology.cavities ≡ length draft.cavities = ap (λ (t : TopologyView). length t.cavities) over ∙ count_net_cavities draft net in
    subst (λ (n : ℕ). All (λ c. c.0 < n) cavities) (sym count) in_range

module _ (draft : Draft) (set : LiveSet) (topology : TopologyView) (terminals : List ℕ)
    (over : topology ≡ net_topology draft set.net.0) (of : terminals ≡ cavities_of draft set.net.0) where
  pub laid-of : {E : Type 0} (r : Result LaidSet E) (tables : List TableLine) (line : TableLine) → Contains tables line → line.net ≡ set.net
      → IfOk r (λ laid. live_of laid ≡ set) → IfOk r (λ laid. IsLayoutOf topology terminals (cell_at line.table) laid.mask laid.layout)
      → IfOk r (λ laid. cell_at line.table (rest_of laid.mask) (stem_node topology terminals laid.mask) ≡ Some laid.cost)
      → IfOk r (IsLaid draft tables)
  laid-of (Ok laid) tables line there of_net same layout cost =
      let net : set.net.0 ≡ laid.net.0 = sym (ap (λ (s : LiveSet). s.net.0) same) in
      let over' : topology ≡ net_topology draft laid.net.0 = over ∙ ap (net_topology draft) net in
      let of' : terminals ≡ cavities_of draft laid.net.0 = of ∙ ap (cavities_of draft) net in
      record {
        line = line;
        has = there;
        of_net = ap (λ (n : NetNo). n.0) of_net ∙ net;
        layout =
            subst (λ (t : TopologyView). IsLayoutOf t (cavities_of draft laid.net.0) (cell_at line.table) laid.mask laid.layout) over'
            (subst (λ (l : List ℕ). IsLayoutOf topology l (cell_at line.table) laid.mask laid.layout) of' layout);
        cost =
            subst (λ (t : TopologyView). cell_at line.table (rest_of laid.mask) (stem_node t (cavities_of draft laid.net.0) laid.mask) ≡ Some laid.cost) over'
            (subst (λ (l : List ℕ). cell_at line.table (rest_of laid.mask) (stem_node topology l laid.mask) ≡ Some laid.cost) of' cost);
      }
  laid-of (Err e) tables line there of_net same layout cost = same

  pub reached-of : {T E : Type 0} (r : Result T E) → OnOk r (AreReached topology (chosen terminals set.mask) (stem_node topology terminals set.mask))
      → OnOk r (IsReached draft set.net.0 set.mask)
  reached-of (Ok x) reached =
      subst (λ (t : TopologyView). AreReached t (chosen (cavities_of draft set.net.0) set.mask) (stem_node t (cavities_of draft set.net.0) set.mask)) over
      (subst (λ (l : List ℕ). AreReached topology (chosen l set.mask) (stem_node topology l set.mask)) of reached)
  reached-of (Err e) reached = reached
