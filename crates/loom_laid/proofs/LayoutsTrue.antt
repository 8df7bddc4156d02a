-- Layouts that are kept hold of each net with the same class and nodes.
use Rattle.std.proofs.Common.{◌≡◌, ℕ, ◌+◌, ◌-◌, ◌*◌, ◌/◌, ◌%◌, ◌<◌, ◌≤◌, List, None, length, map, get_or, sym, ap, subst, ◌∙◌, arith, inl, inr}
use Rattle.std.proofs.lemmas.Bool.{cases_lt, cases_eq}
use Rattle.std.proofs.lemmas.List.{ext_get_or, length-map}
use Rattle.std.proofs.Math.Nat.{mul-le-mul_left}
use Rattle.std.proofs.lemmas.List.Elements.{All-contains, Contains-get_or}
use Rattle.loom_topology.specs.Topology.{TopologyView, node_of}
use Rattle.loom_topology.specs.Table.{TableView, cell_at, IsWhole}
use Rattle.loom_topology.specs.Legal.{IsMask}
use Rattle.loom_topology.proofs.LeastCost.{least_costs_are_unique}
use Rattle.loom_types.specs.declared.layout.Layout.{Layout}
use Rattle.loom_steiner.specs.LeastTable.{IsLeastTable}
use Rattle.loom_layout.specs.Layout.{IsLayoutOf}
use Rattle.loom_layout.proofs.Nodes.{nodes_fix_layouts}
use Rattle.loom_project.specs.declared.draft.Draft.{Draft}
use Rattle.loom_project.specs.Project.{net_topology, cavities_of}
use Rattle.loom_types.specs.SetMask.{stem_of}
use Rattle.loom_laid.specs.Kept.{KeptTable, IsTrueOf, AreTrueOf, all_of, kept_topology, key_of}
use Rattle.loom_laid.specs.Growth.{HasLayout, IsSameBut, GainsLayout}
use Rattle.loom_laid.proofs.KeptTrue.{length-all, key-nodes, kept-alike, alike-kept, kept-lie, of-entry}

abbrev Key : Type 0
Key = List ℕ × List ℕ

-- ---- one table at most is whole and of least costs

some-nodes : (i masks nodes : ℕ) → i < masks * nodes → 0 < nodes
some-nodes i masks nodes lt = elim (cases_eq nodes 0) [
  | inl none ↦ (let e : masks * nodes ≡ masks * 0 = ap (λ n. masks * n) none in absurd (omega (arith, lt, e)))
  | inr some ↦ omega (arith, some)
]

row-below : (i masks nodes : ℕ) → i < masks * nodes → i / nodes < masks
row-below i masks nodes lt =
    let some : 0 < nodes = some-nodes i masks nodes lt in
    elim (cases_lt (i / nodes) masks) [
      | inl below ↦ below
      | inr past ↦ (let le : masks ≤ i / nodes = omega (arith, past) in let more : nodes * masks ≤ nodes * (i / nodes) = mul-le-mul_left nodes le in absurd (omega (arith, lt, more, some)))
    ]

cell-index : (i nodes : ℕ) → 0 < nodes → (i / nodes + 1 - 1) * nodes + i % nodes ≡ i
cell-index i nodes some = let e : i / nodes + 1 - 1 ≡ i / nodes = omega arith in ap (λ n. n * nodes + i % nodes) e ∙ omega (arith, some)

module _ (topology : TopologyView) (terminals : List ℕ) (one two : TableView) (least : IsLeastTable topology terminals one)
    (other : IsLeastTable topology terminals two) (whole : IsWhole one) (whole' : IsWhole two) where
  same-masks : one.masks ≡ two.masks
  same-masks = least.masks ∙ sym other.masks

  same-nodes : one.nodes ≡ two.nodes
  same-nodes = least.nodes ∙ sym other.nodes

  same-cell : (i : ℕ) → i < length one.cells → get_or one.cells i None ≡ get_or two.cells i None
  same-cell i lt =
      let within : i < one.masks * one.nodes = subst (λ (n : ℕ). i < n) whole.count lt in
      let some : 0 < one.nodes = some-nodes i one.masks one.nodes within in
      let mask : ℕ = i / one.nodes + 1 in
      let v : ℕ = i % one.nodes in
      let row : i / one.nodes < one.masks = row-below i one.masks one.nodes within in
      let is_mask : IsMask terminals mask = (omega arith, (let m = least.masks in omega (arith, row, m))) in
      let node : v < length topology.nodes = (let n = least.nodes in let below : v < one.nodes = omega (arith, some) in omega (arith, below, n)) in
      let unique : cell_at one mask v ≡ cell_at two mask v = least_costs_are_unique topology terminals (cell_at one) (cell_at two) least.least other.least mask v is_mask node in
      let at : (mask - 1) * one.nodes + v ≡ i = cell-index i one.nodes some in
      let at' : (mask - 1) * two.nodes + v ≡ i = ap (λ n. (mask - 1) * n + v) (sym same-nodes) ∙ at in
      ap (λ n. get_or one.cells n None) (sym at) ∙ unique ∙ ap (λ n. get_or two.cells n None) at'

  table-unique : one ≡ two
  table-unique =
      let count : length one.cells ≡ length two.cells = whole.count ∙ ap (λ n. n * one.nodes) same-masks ∙ ap (λ n. two.masks * n) same-nodes ∙ sym whole'.count in
      let cells : one.cells ≡ two.cells = ext_get_or None one.cells two.cells count same-cell in
      λ i. record { masks = same-masks i; nodes = same-nodes i; cells = cells i }

-- ---- what is kept under a net's key

module _ (draft : Draft) (net : ℕ) (table : TableView)
    (least : IsLeastTable (net_topology draft net) (cavities_of draft net) table) (whole : IsWhole table) where
  own-table : (entry : KeptTable) → (entry.class, entry.nodes) ≡ key_of draft net → IsTrueOf draft entry → entry.table ≡ table
  own-table entry under holds =
      table-unique (net_topology draft net) (cavities_of draft net) entry.table table (of-entry draft net entry under holds) least holds.whole whole

  -- a layout that is kept is the net's
  pub layout-of_net : (kept : List KeptTable) (key : Key) (mask : ℕ) (layout : Layout) → AreTrueOf draft kept → key ≡ key_of draft net
      → HasLayout kept key mask layout → IsLayoutOf (net_topology draft net) (cavities_of draft net) (cell_at table) mask layout
  layout-of_net kept key mask layout holds under has =
      let entry = has.entry in
      let own : (entry.class, entry.nodes) ≡ key_of draft net = has.of_key ∙ under in
      let true' : IsTrueOf draft entry = All-contains (IsTrueOf draft) kept entry holds has.there in
      let within : stem_of mask < length (all_of entry.nodes) = subst (λ (n : ℕ). stem_of mask < n) (sym (length-all entry.nodes)) (true'.stems mask layout has.has) in
      subst (λ (t : TableView). IsLayoutOf (net_topology draft net) (cavities_of draft net) (cell_at t) mask layout) (own-table entry own true')
      (nodes_fix_layouts (kept_topology draft entry) (net_topology draft net) (kept-alike draft net entry own) (all_of entry.nodes) (cavities_of draft net)
      (cell_at entry.table) (kept-lie draft net entry own) mask layout within (true'.layouts mask layout has.has))

  -- the net's layout is that of all nets at the same nodes
  layout-moves : (entry : KeptTable) (mask : ℕ) (layout : Layout) → (entry.class, entry.nodes) ≡ key_of draft net → IsTrueOf draft entry
      → stem_of mask < length (cavities_of draft net)
      → IsLayoutOf (net_topology draft net) (cavities_of draft net) (cell_at table) mask layout
      → IsLayoutOf (kept_topology draft entry) (all_of entry.nodes) (cell_at entry.table) mask layout
  layout-moves entry mask layout own holds within laid =
      let here : IsLayoutOf (net_topology draft net) (cavities_of draft net) (cell_at entry.table) mask layout =
      subst (λ (t : TableView). IsLayoutOf (net_topology draft net) (cavities_of draft net) (cell_at t) mask layout) (sym (own-table entry own holds)) laid in
      nodes_fix_layouts (net_topology draft net) (kept_topology draft entry) (alike-kept draft net entry own) (cavities_of draft net) (all_of entry.nodes)
      (cell_at entry.table) (sym (kept-lie draft net entry own)) mask layout within here

  as_many : (entry : KeptTable) → (entry.class, entry.nodes) ≡ key_of draft net → length (cavities_of draft net) ≡ length entry.nodes
  as_many entry own =
      sym (length-map (cavities_of draft net) (node_of (net_topology draft net)))
      ∙ ap length (key-nodes draft net ∙ sym (ap (λ (k : Key). k.1) own))

  grown-true : (before after : KeptTable) (key : Key) (mask : ℕ) (layout : Layout) → key ≡ key_of draft net
      → stem_of mask < length (cavities_of draft net)
      → IsLayoutOf (net_topology draft net) (cavities_of draft net) (cell_at table) mask layout → IsSameBut before after key mask layout
      → IsTrueOf draft before → IsTrueOf draft after
  grown-true before after key mask layout under within laid same holds =
      let grown : KeptTable = record { class = before.class; nodes = before.nodes; table = before.table; layouts = after.layouts } in
      let is : after ≡ grown = λ i. record { class = same.class i; nodes = same.nodes i; table = same.table i; layouts = after.layouts } in
      let true' : IsTrueOf draft grown = record {
        whole = holds.whole;
        table = holds.table;
        stems = λ m l has. elim (same.layouts m l has) [
          | inl old ↦ holds.stems m l old
          | inr new ↦
              subst (λ (k : ℕ). stem_of k < length before.nodes) (sym new.1)
              (subst (λ (n : ℕ). stem_of mask < n) (as_many before (new.0 ∙ under)) within)
        ];
        layouts = λ m l has. elim (same.layouts m l has) [
          | inl old ↦ holds.layouts m l old
          | inr new ↦
              let moved = layout-moves before mask layout (new.0 ∙ under) holds within laid in
              subst (λ (k : ℕ). IsLayoutOf (kept_topology draft before) (all_of before.nodes) (cell_at before.table) k l) (sym new.1)
              (subst (λ (k : Layout). IsLayoutOf (kept_topology draft before) (all_of before.nodes) (cell_at before.table) mask k) (sym new.2) moved)
        ];
      } in
      subst (IsTrueOf draft) (sym is) true'

  -- what is kept stays true with a layout of the net
  pub gains-true : (old new : List KeptTable) (key : Key) (mask : ℕ) (layout : Layout) → key ≡ key_of draft net
      → stem_of mask < length (cavities_of draft net)
      → IsLayoutOf (net_topology draft net) (cavities_of draft net) (cell_at table) mask layout → GainsLayout old new key mask layout
      → AreTrueOf draft old → AreTrueOf draft new
  gains-true old new key mask layout under within laid gains holds k d lt =
      let after = get_or new k d in
      let from = gains.each after (Contains-get_or new k d lt) in
      grown-true from.0 after key mask layout under within laid from.2 (All-contains (IsTrueOf draft) old from.0 holds from.1)
