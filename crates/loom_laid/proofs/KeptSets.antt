-- A set with the layout that is kept for it, and one whose layout is kept from then on.
use Rattle.std.proofs.Common.{◌≡◌, ℕ, ◌<◌, ◌≤◌, List, Option, Some, length, refl, sym, ap, subst, ◌∙◌, Contains}
use Rattle.std.specs.Prelude.{Result, Ok, IsSome}
use Rattle.std.specs.List.{All}
use Rattle.loom_base.specs.declared.positions.NetNo.{NetNo}
use Rattle.loom_topology.specs.Topology.{TopologyView, IsSound}
use Rattle.loom_topology.specs.Table.{cell_at}
use Rattle.loom_types.specs.declared.plan.TableLine.{TableLine}
use Rattle.loom_types.specs.declared.layout.Layout.{Layout}
use Rattle.loom_types.specs.SetMask.{IsSet, stem_of, rest_of, stem_node, stem_cavity}
use Rattle.loom_steiner.specs.LeastTable.{IsLeastTable}
use Rattle.loom_layout.specs.Layout.{IsLayoutOf}
use Rattle.loom_layout.proofs.Sets.{stem_in_range, reached_of_number}
use Rattle.loom_project.specs.declared.draft.Draft.{Draft}
use Rattle.loom_project.specs.Project.{topology_of, net_topology, cavities_of, HasSoundTopologies}
use Rattle.loom_active.specs.declared.live.LiveSet.{LiveSet}
use Rattle.loom_active.specs.LiveSets.{IsLiveSet}
use Rattle.loom_laid.specs.declared.laid_set.LaidSet.{LaidSet}
use Rattle.loom_laid.specs.Kept.{KeptTable, AreTrueOf, key_of}
use Rattle.loom_laid.specs.Growth.{HasLayout, GainsLayout}
use Rattle.loom_laid.specs.LaidSets.{IsLaid, IsNetTable}
use Rattle.loom_laid.specs.LaidStops.{IsReached}
use Rattle.loom_laid.proofs.LaidLemmas.{live-is_set, laid-of}
use Rattle.loom_laid.proofs.LayoutsTrue.{layout-of_net, gains-true}

-- all topologies of a draft have its nodes and cavities
pub nodes-over : (draft : Draft) (net n : ℕ) (topology : TopologyView) → n ≡ length (net_topology draft net).nodes → topology ≡ topology_of draft → n ≡ length topology.nodes
unfolding net_topology
nodes-over draft net n topology e over = e ∙ ap (λ (t : TopologyView). length t.nodes) (sym over)

stem-over : (draft : Draft) (net mask : ℕ) (terminals : List ℕ) → stem_node (topology_of draft) terminals mask ≡ stem_node (net_topology draft net) terminals mask
unfolding net_topology
stem-over draft net mask terminals = refl

line-least : (draft : Draft) (net : NetNo) (line : TableLine) → IsNetTable draft line → line.net ≡ net
    → IsLeastTable (net_topology draft net.0) (cavities_of draft net.0) line.table
line-least draft net line holds same = subst (λ (n : NetNo). IsLeastTable (net_topology draft n.0) (cavities_of draft n.0) line.table) same holds.least

home-below : (topology : TopologyView) (terminals : List ℕ) (mask : ℕ) → IsSound topology → All (λ c. c < length topology.cavities) terminals
    → stem_of mask < length terminals → stem_node topology terminals mask < length topology.nodes
home-below topology terminals mask sound in_range lt = sound.cavities (stem_cavity terminals mask) 0 (in_range (stem_of mask) 0 lt)

module _ (draft : Draft) (set : LiveSet) (line : TableLine) (holds : IsNetTable draft line) (of_net : line.net ≡ set.net)
    (sound : HasSoundTopologies draft) (lt : set.net.0 < length draft.nets) where
  least : IsLeastTable (net_topology draft set.net.0) (cavities_of draft set.net.0) line.table
  least = line-least draft set.net line holds of_net

  module _ (topology : TopologyView) (terminals : List ℕ) (cell : Option ℕ) (cost : ℕ) (over : topology ≡ topology_of draft)
      (of : terminals ≡ cavities_of draft set.net.0)
      (at : cell ≡ cell_at line.table (rest_of set.mask) (stem_node topology terminals set.mask)) (some : cell ≡ Some cost) where
    cell-cost : cell_at line.table (rest_of set.mask) (stem_node (net_topology draft set.net.0) (cavities_of draft set.net.0) set.mask) ≡ Some cost
    cell-cost =
        let node : stem_node topology terminals set.mask ≡ stem_node (net_topology draft set.net.0) (cavities_of draft set.net.0) set.mask =
        ap (λ (t : TopologyView). stem_node t terminals set.mask) over ∙ ap (λ (l : List ℕ). stem_node (topology_of draft) l set.mask) of
        ∙ stem-over draft set.net.0 set.mask (cavities_of draft set.net.0) in
        sym (at ∙ ap (cell_at line.table (rest_of set.mask)) node) ∙ some

    pub kept-laid : (tables : List TableLine) (kept : List KeptTable) (key : List ℕ × List ℕ) (layout copied : Layout) → Contains tables line
        → AreTrueOf draft kept → key ≡ key_of draft set.net.0 → HasLayout kept key set.mask layout → copied ≡ layout
        → IsLaid draft tables (record { net = set.net; mask = set.mask; cond = set.cond; cost = cost; layout = copied })
    kept-laid tables kept key layout copied there are_true under has same =
        let laid : IsLayoutOf (net_topology draft set.net.0) (cavities_of draft set.net.0) (cell_at line.table) set.mask layout =
        layout-of_net draft set.net.0 line.table least holds.whole kept key set.mask layout are_true under has in
        let one : Result LaidSet ℕ = Ok (record { net = set.net; mask = set.mask; cond = set.cond; cost = cost; layout = copied }) in
        laid-of draft set (net_topology draft set.net.0) (cavities_of draft set.net.0) refl refl one tables line there of_net refl
        (subst (λ (l : Layout). IsLayoutOf (net_topology draft set.net.0) (cavities_of draft set.net.0) (cell_at line.table) set.mask l) (sym same) laid)
        cell-cost

    pub kept-reached : IsLiveSet draft set.net.0 set.mask → length terminals ≤ 12 → IsReached draft set.net.0 set.mask
    kept-reached live few =
        let cavities = cavities_of draft set.net.0 in
        let few' : length cavities ≤ 12 = subst (λ (l : List ℕ). length l ≤ 12) of few in
        let is_set : IsSet cavities set.mask = live-is_set draft set.net.0 set.mask live in
        let home = home-below (net_topology draft set.net.0) cavities set.mask (sound.each set.net.0) (sound.terminals set.net.0 lt)
        (stem_in_range cavities set.mask is_set few') in
        reached_of_number cavities set.mask is_set few' (net_topology draft set.net.0) (cell_at line.table) least.least home
        (subst (λ (o : Option ℕ). IsSome o) (sym cell-cost) refl)

  -- what is kept stays true with the new layout
  pub new-true : (topology : TopologyView) (terminals : List ℕ) (old new : List KeptTable) (key : List ℕ × List ℕ) (mask : ℕ) (layout copied : Layout)
      → IsLiveSet draft set.net.0 mask → length terminals ≤ 12 → topology ≡ net_topology draft set.net.0 → terminals ≡ cavities_of draft set.net.0 → key ≡ key_of draft set.net.0
      → IsLayoutOf topology terminals (cell_at line.table) mask layout → copied ≡ layout → GainsLayout old new key mask copied
      → AreTrueOf draft old → AreTrueOf draft new
  new-true topology terminals old new key mask layout copied live few over of under laid same gains are_true =
      let few' : length (cavities_of draft set.net.0) ≤ 12 = subst (λ (l : List ℕ). length l ≤ 12) of few in
      let within : stem_of mask < length (cavities_of draft set.net.0) =
      stem_in_range (cavities_of draft set.net.0) mask (live-is_set draft set.net.0 mask live) few' in
      let here : IsLayoutOf (net_topology draft set.net.0) (cavities_of draft set.net.0) (cell_at line.table) mask copied =
      subst (λ (l : Layout). IsLayoutOf (net_topology draft set.net.0) (cavities_of draft set.net.0) (cell_at line.table) mask l) (sym same)
      (subst (λ (t : TopologyView). IsLayoutOf t (cavities_of draft set.net.0) (cell_at line.table) mask layout) over
      (subst (λ (l : List ℕ). IsLayoutOf topology l (cell_at line.table) mask layout) of laid)) in
      gains-true draft set.net.0 line.table least holds.whole old new key mask copied under within here gains are_true
