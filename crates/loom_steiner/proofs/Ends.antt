-- What a filled table is, once all masks are done.
use Rattle.std.proofs.Common.{List, ℕ, ◌-◌, ◌^◌, ◌<◌, ◌≤◌, ◌≡◌, length, slice_index, sym, ap, subst, arith, ◌∙◌}
use Rattle.loom_base.specs.declared.positions.CavityNo.{CavityNo}
use Rattle.loom_topology.specs.Topology.{TopologyView, branch_at, IsSound}
use Rattle.loom_topology.specs.Table.{IsWhole}
use Rattle.loom_steiner.specs.Filled.{IsFilled}
use Rattle.loom_steiner.specs.LeastTable.{IsLeastTable}
use Rattle.loom_steiner.specs.Scratch.{scratch_view}
use Rattle.loom_steiner.proofs.Steps.{numbers_of, numbers_len}
use Rattle.loom_steiner.proofs.Finished.{filled_is_whole, filled_is_least_table}

-- all masks of a net are filled
pub record Ends (topology : TopologyView) (terminals : List CavityNo) (branches cells : List ℕ) (mask masks nodes : ℕ) (slice : List ℕ) : Type 0 where
  pub sound : IsSound topology
  pub few_terminals : length terminals ≤ 12
  pub value : (v : ℕ) → v < length topology.nodes → slice_index branches v ≡ branch_at topology v
  pub cheap : (v : ℕ) → slice_index branches v ≤ 1000000
  pub filled : IsFilled topology (numbers_of terminals) mask cells
  pub last : mask ≡ 2 ^ (length terminals - 1)
  pub masks_are : masks ≡ 2 ^ (length terminals - 1) - 1
  pub nodes_are : nodes ≡ length topology.nodes
  pub slice_is : slice ≡ cells

module _ (topology : TopologyView) (terminals : List CavityNo) (branches cells : List ℕ) (mask masks nodes : ℕ) (slice : List ℕ)
    (e : Ends topology terminals branches cells mask masks nodes slice) where
  few : length (numbers_of terminals) ≤ 12
  few = omega (arith, numbers_len terminals, e.few_terminals)

  cheap_branch : (v : ℕ) → v < length topology.nodes → branch_at topology v ≤ 1000000
  cheap_branch v range = omega (arith, e.value v range, e.cheap v)

  all_filled : IsFilled topology (numbers_of terminals) (2 ^ (length (numbers_of terminals) - 1)) cells
  all_filled =
      subst (λ (m : ℕ). IsFilled topology (numbers_of terminals) m cells) (e.last ∙ ap (λ (k : ℕ). 2 ^ (k - 1)) (sym (numbers_len terminals))) e.filled

  masks_of : 2 ^ (length (numbers_of terminals) - 1) - 1 ≡ masks
  masks_of = ap (λ (k : ℕ). 2 ^ (k - 1) - 1) (numbers_len terminals) ∙ sym e.masks_are

  pub ends_whole : IsWhole (scratch_view masks nodes slice)
  ends_whole =
      subst (λ (l : List ℕ). IsWhole (scratch_view masks nodes l)) (sym e.slice_is)
      (subst (λ (n : ℕ). IsWhole (scratch_view masks n cells)) (sym e.nodes_are)
      (subst (λ (m : ℕ). IsWhole (scratch_view m (length topology.nodes) cells)) masks_of
      (filled_is_whole topology (numbers_of terminals) cells e.sound e.sound.few_nodes few cheap_branch all_filled)))

  pub ends_least : IsLeastTable topology (numbers_of terminals) (scratch_view masks nodes slice)
  ends_least =
      subst (λ (l : List ℕ). IsLeastTable topology (numbers_of terminals) (scratch_view masks nodes l)) (sym e.slice_is)
      (subst (λ (n : ℕ). IsLeastTable topology (numbers_of terminals) (scratch_view masks n cells)) (sym e.nodes_are)
      (subst (λ (m : ℕ). IsLeastTable topology (numbers_of terminals) (scratch_view m (length topology.nodes) cells)) masks_of
      (filled_is_least_table topology (numbers_of terminals) cells e.sound e.sound.few_nodes few cheap_branch all_filled)))
