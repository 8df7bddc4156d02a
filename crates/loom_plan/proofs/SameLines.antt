-- The laid sets of a draft are the same but for their conditions: nets, masks, costs and layouts are fixed.
use Rattle.std.proofs.Common.{◌≡◌, ℕ, ◌+◌, ◌-◌, ◌*◌, ◌/◌, ◌%◌, ◌^◌, ◌<◌, inl, inr, List, Option, Some, None, map, length, get_or, refl, sym, ap, subst, ◌∙◌, arith, Contains}
use Rattle.std.specs.List.{All, AllPairs}
use Rattle.std.proofs.Math.Nat.{mod-lt, div-lt_iff_lt-mul, div-add-mod'}
use Rattle.std.proofs.lemmas.Bool.{cases_eq}
use Rattle.std.proofs.lemmas.List.{same_lists, get_or_default}
use Rattle.std.proofs.lemmas.Option.{same_Some}
use Rattle.loom_base.proofs.Contained.{Contains-map, Contains-from_map}
use Rattle.loom_topology.specs.Topology.{TopologyView}
use Rattle.loom_topology.specs.Table.{TableView, cell_at, IsWhole}
use Rattle.loom_topology.specs.Legal.{IsMask}
use Rattle.loom_topology.specs.Laws.{LeastCostsAreUnique}
use Rattle.loom_project.specs.declared.draft.Draft.{Draft}
use Rattle.loom_project.specs.Project.{net_topology, cavities_of}
use Rattle.loom_types.specs.declared.layout.Layout.{Layout}
use Rattle.loom_types.specs.declared.plan.SetLine.{SetLine}
use Rattle.loom_types.specs.declared.plan.TableLine.{TableLine}
use Rattle.loom_types.specs.SetMask.{rest_of, stem_node}
use Rattle.loom_steiner.specs.LeastTable.{IsLeastTable}
use Rattle.loom_layout.specs.Layout.{IsLayoutOf}
use Rattle.loom_layout.specs.Laws.{LayoutIsUnique}
use Rattle.loom_pins.specs.Laws.{PinsAreUnique, FirstWithoutIsUnique}
use Rattle.loom_active.specs.declared.live.LiveSet.{LiveSet}
use Rattle.loom_active.specs.FoundSets.{ComesBefore}
use Rattle.loom_active.specs.LiveSets.{IsLiveSet, IsListedBefore, IsSetBefore}
use Rattle.loom_active.proofs.Pairs.{pairs-map}
use Rattle.loom_laid.specs.declared.laid_set.LaidSet.{LaidSet}
use Rattle.loom_laid.specs.LaidSets.{AreTheLiveSets, AreTables, IsNetTable, IsLaid, AreLaid, live_of}
use Rattle.loom_plan.specs.Work.{line_of}
use Rattle.loom_plan.proofs.StrictOrders.{same-members, pairs-from_map, sets_once}

-- the laws of the crates below on which the laws on stops stand
pub record StageLaws : Type 0 where
  pub costs : LeastCostsAreUnique
  pub layouts : LayoutIsUnique
  pub pins : PinsAreUnique
  pub without : FirstWithoutIsUnique

pub member-has : {X : Type 0} (P : X → Type 0) (xs : List X) (x : X) → All P xs → Contains xs x → P x
member-has P xs x all (k, below, at) = subst P at (all k x below)

-- ---- tables

product_same : (a b c d m n : ℕ) → a ≡ m → b ≡ n → c ≡ m → d ≡ n → a * b ≡ c * d
product_same a b c d m n p q r s = cc

some_nodes : (k masks n : ℕ) → k < masks * n → 0 < n
some_nodes k masks n below = elim (cases_eq n 0) [
  | inl e ↦ (let none : masks * n ≡ masks * 0 = ap (λ (m : ℕ). masks * m) e in absurd (omega arith))
  | inr ne ↦ omega arith
]

module _ (topology : TopologyView) (terminals : List ℕ) (unique : LeastCostsAreUnique) where
  -- the cell at a place, by its mask and node
  cell_read : (table : TableView) → IsLeastTable topology terminals table → (k : ℕ) (d : Option ℕ) → k < length table.cells
      → get_or table.cells k d ≡ cell_at table (k / length topology.nodes + 1) (k % length topology.nodes)
  cell_read table least k d below =
      let n = length topology.nodes in
      let back : k / n + 1 - 1 ≡ k / n = omega arith in
      let place : (k / n + 1 - 1) * table.nodes + k % n ≡ k =
      ap (λ (m : ℕ). (k / n + 1 - 1) * m + k % n) least.nodes ∙ (ap (λ (m : ℕ). m * n + k % n) back ∙ div-add-mod' k n) in
      get_or_default table.cells k d None below ∙ sym (ap (λ (j : ℕ). get_or table.cells j None) place)

  same_cells : (one other : TableView) → IsLeastTable topology terminals one → IsLeastTable topology terminals other → IsWhole one
      → IsWhole other → one.cells ≡ other.cells
  same_cells one other a b whole also =
      let n = length topology.nodes in
      let masks = 2 ^ (length terminals - 1) - 1 in
      let count : length one.cells ≡ masks * n = whole.count ∙ product_same one.masks one.nodes masks n masks n a.masks a.nodes refl refl in
      let counted : length other.cells ≡ masks * n = also.count ∙ product_same other.masks other.nodes masks n masks n b.masks b.nodes refl refl in
      same_lists one.cells other.cells (count ∙ sym counted)
      (λ k d lt.
      let below : k < masks * n = omega (arith, lt, count) in
      let some = some_nodes k masks n below in
      let inside : k % n < n = mod-lt k some in
      let lower : k / n < masks = (div-lt_iff_lt-mul {k = n} {x = k} {y = masks} some).1 below in
      let range : IsMask terminals (k / n + 1) = (omega arith, omega (arith, lower)) in
      cell_read one a k d lt
      ∙ (unique topology terminals (cell_at one) (cell_at other) a.least b.least (k / n + 1) (k % n) range inside
      ∙ sym (cell_read other b k d (omega (arith, below, counted)))))

  pub same-table : (one other : TableView) → IsLeastTable topology terminals one → IsLeastTable topology terminals other → IsWhole one
      → IsWhole other → one ≡ other
  same-table one other a b whole also =
      let masks : one.masks ≡ other.masks = a.masks ∙ sym b.masks in
      let nodes : one.nodes ≡ other.nodes = a.nodes ∙ sym b.nodes in
      let cells = same_cells one other a b whole also in
      λ i. record { masks = masks i; nodes = nodes i; cells = cells i }

-- ---- one set

-- the set of a net has this layout and this cost, by the net's table
pub record IsFixed (draft : Draft) (net mask cost : ℕ) (layout : Layout) : Type 0 where
  pub table : TableView
  pub least : IsLeastTable (net_topology draft net) (cavities_of draft net) table
  pub whole : IsWhole table
  pub laid : IsLayoutOf (net_topology draft net) (cavities_of draft net) (cell_at table) mask layout
  pub costs : cell_at table (rest_of mask) (stem_node (net_topology draft net) (cavities_of draft net) mask) ≡ Some cost

same_fixed : StageLaws → (draft : Draft) (net mask cost price : ℕ) (one two : Layout) → IsFixed draft net mask cost one
    → IsFixed draft net mask price two → (one ≡ two) × (cost ≡ price)
same_fixed laws draft net mask cost price one two a b =
    let topology = net_topology draft net in
    let terminals = cavities_of draft net in
    let same : b.table ≡ a.table = same-table topology terminals laws.costs b.table a.table b.least a.least b.whole a.whole in
    let P = λ (t : TableView). IsLayoutOf topology terminals (cell_at t) mask two in
    let Q = λ (t : TableView). cell_at t (rest_of mask) (stem_node topology terminals mask) ≡ Some price in (
      laws.layouts topology terminals (cell_at a.table) mask one two a.laid (subst P same b.laid),
      same_Some cost price (sym a.costs ∙ subst Q same b.costs),
    )

laid-fixed : (draft : Draft) (tables : List TableLine) (set : LaidSet) → AreTables draft tables → IsLaid draft tables set
    → IsFixed draft set.net.0 set.mask set.cost set.layout
laid-fixed draft tables set are laid =
    let its : IsNetTable draft laid.line = member-has (IsNetTable draft) tables laid.line are.each laid.has in
    let P = λ (net : ℕ). IsLeastTable (net_topology draft net) (cavities_of draft net) laid.line.table in
    record { table = laid.line.table; least = subst P laid.of_net its.least; whole = its.whole; laid = laid.layout; costs = laid.cost }

-- ---- all sets

-- each live set once, in order, with the layout and the cost that are fixed
pub record AreFixed (draft : Draft) (laid : List LaidSet) : Type 0 where
  pub order : AllPairs (λ one other. IsListedBefore one.net.0 one.mask other.net.0 other.mask) laid
  pub each : (set : LaidSet) → Contains laid set → IsLiveSet draft set.net.0 set.mask
  pub all : (net mask : ℕ) → IsLiveSet draft net mask → (set : LaidSet) × Contains laid set × (set.net.0 ≡ net) × (set.mask ≡ mask)
  pub fixed : (set : LaidSet) → Contains laid set → IsFixed draft set.net.0 set.mask set.cost set.layout

pub fixed-from_laid : (draft : Draft) (tables : List TableLine) (sets : List LiveSet) (laid : List LaidSet) → AreTheLiveSets draft sets
    → AreTables draft tables → AreLaid draft tables sets laid → AreFixed draft laid
fixed-from_laid draft tables sets laid are_sets are_tables are_laid = record {
  order = pairs-from_map ComesBefore live_of laid (subst (λ (l : List LiveSet). AllPairs ComesBefore l) (sym are_laid.same) are_sets.order);
  each = λ set at. are_sets.each (live_of set) (subst (λ (l : List LiveSet). Contains l (live_of set)) are_laid.same (Contains-map live_of laid set at));
  all = λ net mask live.
      let s = are_sets.all net mask live in
      let t = Contains-from_map live_of laid s.0 (subst (λ (l : List LiveSet). Contains l s.0) (sym are_laid.same) s.1) in
      (t.0, t.1, ap (λ (x : LiveSet). x.net.0) t.2 ∙ s.2, ap (λ (x : LiveSet). x.mask) t.2 ∙ s.3);
  fixed = λ set at. laid-fixed draft tables set are_tables (member-has (IsLaid draft tables) laid set are_laid.each at);
}

module _ (laws : StageLaws) (draft : Draft) where
  same_line : (set twin : LaidSet) → set.net.0 ≡ twin.net.0 → set.mask ≡ twin.mask → IsFixed draft set.net.0 set.mask set.cost set.layout
      → IsFixed draft twin.net.0 twin.mask twin.cost twin.layout → line_of set ≡ line_of twin
  same_line set twin net mask fixed its =
      let P = λ (n : ℕ). IsFixed draft n set.mask set.cost set.layout in
      let Q = λ (m : ℕ). IsFixed draft twin.net.0 m set.cost set.layout in
      let same = same_fixed laws draft twin.net.0 twin.mask set.cost twin.cost set.layout twin.layout (subst Q mask (subst P net fixed)) its in
      λ i. record { net = record { 0 = net i }; mask = mask i; cost = same.1 i; row = 0; layout = same.0 i }

  lines_in : (one other : List LaidSet) → AreFixed draft one → AreFixed draft other → (line : SetLine) → Contains (map line_of one) line
      → Contains (map line_of other) line
  lines_in one other a b line listed =
      let s = Contains-from_map line_of one line listed in
      let t = b.all s.0.net.0 s.0.mask (a.each s.0 s.1) in
      let same : line_of t.0 ≡ line_of s.0 = same_line t.0 s.0 t.2 t.3 (b.fixed t.0 t.1) (a.fixed s.0 s.1) in
      subst (λ (l : SetLine). Contains (map line_of other) l) (same ∙ s.2) (Contains-map line_of other t.0 t.1)

  pub same-lines : (one other : List LaidSet) → AreFixed draft one → AreFixed draft other → map line_of one ≡ map line_of other
  same-lines one other a b =
      same-members IsSetBefore sets_once (map line_of one) (map line_of other) (pairs-map IsSetBefore line_of one a.order)
      (pairs-map IsSetBefore line_of other b.order) (lines_in one other a b) (lines_in other one b a)
