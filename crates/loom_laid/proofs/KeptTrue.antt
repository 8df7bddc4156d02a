-- What is kept holds of each net with the same class and nodes.
use Rattle.std.proofs.Common.{◌≡◌, ℕ, ◌-◌, ◌^◌, ◌<◌, List, [], ◌∷◌, ◌++◌, length, map, get_or, refl, sym, ap, subst, ◌∙◌, arith, Contains}
use Rattle.std.specs.List.{All}
use Rattle.std.specs.Prelude.{Result, Ok, Err, OnOk, OnErr}
use Rattle.std.specs.Prelude.{slice_index}
use Rattle.std.specs.List.{range_with_len}
use Rattle.std.proofs.lemmas.List.{length-map, map-append, ext_get_or}
use Rattle.std.proofs.lemmas.List.FromFn.{length-range_with_len, length-map-range_with_len, get_or-map-range_with_len}
use Rattle.std.proofs.lemmas.List.Elements.{All-push, All-contains, Contains-push}
use Rattle.loom_topology.specs.Topology.{TopologyView, node_of}
use Rattle.loom_topology.specs.Table.{TableView, cell_at, IsWhole}
use Rattle.loom_steiner.specs.LeastTable.{IsLeastTable}
use Rattle.loom_layout.specs.Laws.{AreAlike}
use Rattle.loom_layout.proofs.Nodes.{nodes_fix_layouts, nodes_fix_least_costs}
use Rattle.loom_project.specs.declared.draft.Draft.{Draft}
use Rattle.loom_project.specs.Project.{topology_of, class_topology, net_topology, net_at, cavities_of}
use Rattle.loom_laid.specs.Kept.{KeptTable, IsTrueOf, AreTrueOf, IsSameGround, KeptStaysTrue, with_cavities_at, all_of, kept_topology, keys_of, key_of}
use Rattle.loom_types.specs.SetMask.{stem_of}
use Rattle.loom_base.specs.Causes.{next_count}
use Rattle.loom_base.specs.declared.positions.CavityNo.{CavityNo}
use Rattle.loom_active.specs.LiveSets.{IsLiveSet}
use Rattle.loom_laid.specs.Growth.{HasTable, IsFilled, Grew, kept_under}
use Rattle.loom_laid.proofs.Growing.{grew-none, grew-one}

abbrev Key : Type 0
Key = List ℕ × List ℕ

-- a table over one topology is one of cavities at the same nodes over each that is alike
pub table-moves : (one other : TopologyView) (cavities others : List ℕ) (table : TableView) → AreAlike one other
    → map (node_of one) cavities ≡ map (node_of other) others → IsLeastTable one cavities table → IsLeastTable other others table
table-moves one other cavities others table alike same least =
    let as_many : length cavities ≡ length others =
    sym (length-map cavities (node_of one)) ∙ ap length same ∙ length-map others (node_of other) in
    record {
      masks = least.masks ∙ ap (λ n. 2 ^ (n - 1) - 1) as_many;
      nodes = least.nodes ∙ alike.as_many;
      least = nodes_fix_least_costs one other cavities others (cell_at table) alike same least.least;
    }

-- other cavities leave nodes and segments as they are
pub alike-moved : (topology : TopologyView) (nodes : List ℕ) → AreAlike topology (with_cavities_at topology nodes)
alike-moved topology nodes = record {
  as_many = refl;
  branch = λ v. refl;
  from = λ s. refl;
  to = λ s. refl;
  price = λ s. refl;
  is_open = λ s. refl;
}

pub alike-from : (topology : TopologyView) (nodes : List ℕ) → AreAlike (with_cavities_at topology nodes) topology
alike-from topology nodes = record {
  as_many = refl;
  branch = λ v. refl;
  from = λ s. refl;
  to = λ s. refl;
  price = λ s. refl;
  is_open = λ s. refl;
}

index-all : (xs : List ℕ) → map (slice_index xs) (range_with_len 0 (length xs)) ≡ xs
index-all xs =
    let many : length (map (slice_index xs) (range_with_len 0 (length xs))) ≡ length xs = length-map-range_with_len (slice_index xs) 0 (length xs) in
    ext_get_or 0 (map (slice_index xs) (range_with_len 0 (length xs))) xs many
    (λ i lt. get_or-map-range_with_len (slice_index xs) 0 (length xs) i i 0 (subst (λ (n : ℕ). i < n) many lt) (omega arith))

pub length-all : (nodes : List ℕ) → length (all_of nodes) ≡ length nodes
length-all nodes = length-range_with_len 0 (length nodes)

-- a net's key has the nodes of its cavities
pub key-nodes : (draft : Draft) (net : ℕ) → map (node_of (net_topology draft net)) (cavities_of draft net) ≡ (key_of draft net).1
unfolding net_topology
key-nodes draft net = refl

pub nodes-all : (topology : TopologyView) (nodes : List ℕ) → map (node_of (with_cavities_at topology nodes)) (all_of nodes) ≡ nodes
nodes-all topology nodes = index-all nodes

net-table-true : (draft : Draft) (net : ℕ) (table : TableView) → IsWhole table
    → IsLeastTable (net_topology draft net) (cavities_of draft net) table → IsTrueOf draft (kept_under (key_of draft net) table)
unfolding net_topology
net-table-true draft net table whole least =
    let class = (net_at draft net).class in
    let nodes = (key_of draft net).1 in
    record {
      whole = whole;
      table = table-moves (class_topology draft class) (with_cavities_at (class_topology draft class) nodes) (cavities_of draft net) (all_of nodes) table
          (alike-moved (class_topology draft class) nodes) (sym (nodes-all (class_topology draft class) nodes)) least;
      stems = λ mask layout at. absurd (let lt = at.1 in omega (arith, lt));
      layouts = λ mask layout at. absurd (let lt = at.1 in omega (arith, lt));
    }

-- what is kept stays true as the table of a net is filled
filled-true : (draft : Draft) (net : ℕ) (topology : TopologyView) (terminals : List ℕ) (key : Key) (old new : List KeptTable)
    → topology ≡ net_topology draft net → terminals ≡ cavities_of draft net → key ≡ key_of draft net
    → IsFilled topology terminals key old new → AreTrueOf draft old → AreTrueOf draft new
filled-true draft net topology terminals key old new over of under filled true' =
    let least : IsLeastTable (net_topology draft net) (cavities_of draft net) filled.table =
    subst (λ (t : TopologyView). IsLeastTable t (cavities_of draft net) filled.table) over
    (subst (λ (l : List ℕ). IsLeastTable topology l filled.table) of filled.least) in
    let one : IsTrueOf draft (kept_under key filled.table) =
    subst (λ (k : Key). IsTrueOf draft (kept_under k filled.table)) (sym under) (net-table-true draft net filled.table filled.whole least) in
    subst (λ (l : List KeptTable). AreTrueOf draft l) (sym filled.added) (All-push (IsTrueOf draft) old (kept_under key filled.table) true' one)

-- and its key is the one that came
filled-keys : (topology : TopologyView) (terminals : List ℕ) (key : Key) (old new : List KeptTable)
    → IsFilled topology terminals key old new → keys_of new ≡ keys_of old ++ key ∷ []
filled-keys topology terminals key old new filled =
    ap keys_of filled.added ∙ map-append (λ (k : KeptTable). (k.class, k.nodes)) old (kept_under key filled.table ∷ [])

filled-has : (topology : TopologyView) (terminals : List ℕ) (key : Key) (old new : List KeptTable)
    → IsFilled topology terminals key old new → Contains (keys_of new) key
filled-has topology terminals key old new filled =
    subst (λ (l : List Key). Contains l key) (sym (filled-keys topology terminals key old new filled)) (Contains-push (keys_of old) key)

-- the topology with cavities at a key's nodes is alike that of each net of the key, whose cavities lie at them
module _ (draft : Draft) (net : ℕ) (entry : KeptTable) (same : (entry.class, entry.nodes) ≡ key_of draft net) where
  pub kept-alike : AreAlike (kept_topology draft entry) (net_topology draft net)
  unfolding net_topology
  kept-alike = subst (λ (c : List ℕ). AreAlike (kept_topology draft entry) (class_topology draft c)) (ap (λ (k : Key). k.0) same)
      (alike-from (class_topology draft entry.class) entry.nodes)

  pub alike-kept : AreAlike (net_topology draft net) (kept_topology draft entry)
  unfolding net_topology
  alike-kept = subst (λ (c : List ℕ). AreAlike (class_topology draft c) (kept_topology draft entry)) (ap (λ (k : Key). k.0) same)
      (alike-moved (class_topology draft entry.class) entry.nodes)

  pub kept-lie : map (node_of (kept_topology draft entry)) (all_of entry.nodes) ≡ map (node_of (net_topology draft net)) (cavities_of draft net)
  kept-lie = nodes-all (class_topology draft entry.class) entry.nodes ∙ ap (λ (k : Key). k.1) same ∙ sym (key-nodes draft net)

  pub of-entry : IsTrueOf draft entry → IsLeastTable (net_topology draft net) (cavities_of draft net) entry.table
  of-entry holds =
      table-moves (kept_topology draft entry) (net_topology draft net) (all_of entry.nodes) (cavities_of draft net) entry.table
      kept-alike kept-lie holds.table

-- what is kept under a net's key is the net's table
pub table-of_net : (draft : Draft) (net : ℕ) (kept : List KeptTable) (key : Key) (table : TableView) → AreTrueOf draft kept
    → key ≡ key_of draft net → HasTable kept key table
    → IsLeastTable (net_topology draft net) (cavities_of draft net) table
table-of_net draft net kept key table holds under has =
    subst (λ (t : TableView). IsLeastTable (net_topology draft net) (cavities_of draft net) t) has.is_table
    (of-entry draft net has.entry (has.of_key ∙ under) (All-contains (IsTrueOf draft) kept has.entry holds has.there))

-- what is kept is true of each draft with the same ground
one-stays : (one other : Draft) (kept : KeptTable) → IsSameGround one other → IsTrueOf one kept → IsTrueOf other kept
one-stays one other kept same holds =
    let alike : AreAlike (kept_topology one kept) (kept_topology other kept) =
    record {
      as_many = (same kept.class).as_many;
      branch = (same kept.class).branch;
      from = (same kept.class).from;
      to = (same kept.class).to;
      price = (same kept.class).price;
      is_open = (same kept.class).is_open;
    } in
    let lie : map (node_of (kept_topology one kept)) (all_of kept.nodes) ≡ map (node_of (kept_topology other kept)) (all_of kept.nodes) = refl in
    record {
      whole = holds.whole;
      table = table-moves (kept_topology one kept) (kept_topology other kept) (all_of kept.nodes) (all_of kept.nodes) kept.table alike lie holds.table;
      stems = holds.stems;
      layouts = λ mask layout at.
          let within : stem_of mask < length (all_of kept.nodes) = subst (λ (n : ℕ). stem_of mask < n) (sym (length-all kept.nodes)) (holds.stems mask layout at) in
          nodes_fix_layouts (kept_topology one kept) (kept_topology other kept) alike (all_of kept.nodes) (all_of kept.nodes) (cell_at kept.table) lie mask layout
          within (holds.layouts mask layout at);
    }

pub kept-stays : KeptStaysTrue
kept-stays one other kept same holds k d lt = one-stays one other (get_or kept k d) same (holds k d lt)

map-numbers : (f : ℕ → ℕ) (cavities : List CavityNo) → map (λ cavity. f cavity.0) cavities ≡ map f (map (λ cavity. cavity.0) cavities)
map-numbers f [] = refl
map-numbers f (cavity ∷ cavities) = ap (λ l. f cavity.0 ∷ l) (map-numbers f cavities)

-- the key that is made of a net's class and the nodes of its cavities
pub key-is : (draft : Draft) (net : ℕ) (class nodes : List ℕ) (topology : TopologyView) (cavities : List CavityNo)
    → class ≡ (net_at draft net).class → nodes ≡ map (λ cavity. node_of topology cavity.0) cavities → topology ≡ topology_of draft
    → map (λ cavity. cavity.0) cavities ≡ cavities_of draft net → (class, nodes) ≡ key_of draft net
key-is draft net class nodes topology cavities same made over places =
    let all : nodes ≡ map (node_of (topology_of draft)) (cavities_of draft net) =
    made ∙ ap (λ (t : TopologyView). map (λ cavity. node_of t cavity.0) cavities) over
    ∙ map-numbers (node_of (topology_of draft)) cavities ∙ ap (map (node_of (topology_of draft))) places in
    λ i. (same i, all i)

module _ {T E : Type 0} (draft : Draft) (net : ℕ) (topology : TopologyView) (terminals : List ℕ) (key : Key) (old new : List KeptTable)
    (over : topology ≡ net_topology draft net) (of : terminals ≡ cavities_of draft net) (under : key ≡ key_of draft net) where
  -- what is kept stays true, whether the filler gave a table or not
  pub true-after : (r : Result T E) → OnOk r (IsFilled topology terminals key old new) → OnErr r (new ≡ old) → AreTrueOf draft old → AreTrueOf draft new
  true-after (Ok x) filled same holds = filled-true draft net topology terminals key old new over of under filled holds
  true-after (Err e) filled same holds = subst (λ (l : List KeptTable). AreTrueOf draft l) (sym same) holds

  pub has-after : (r : Result T E) → OnOk r (IsFilled topology terminals key old new) → OnOk r (Contains (keys_of new) (key_of draft net))
  has-after (Ok x) filled = subst (Contains (keys_of new)) under (filled-has topology terminals key old new filled)
  has-after (Err e) filled = filled

  pub grew-after : (r : Result T E) (before after : ℕ) → OnOk r (IsFilled topology terminals key old new) → OnOk r (after ≡ next_count before)
      → OnErr r (new ≡ old) → OnErr r (after ≡ before) → (Contains (keys_of old) key → ⊥) → (mask : ℕ) × IsLiveSet draft net mask
      → before < 2 ^ 64 → Grew draft old new before after
  grew-after (Ok x) before after filled next same none absent live lt =
      grew-one draft old new before after key (filled-keys topology terminals key old new filled) absent (net, live.0, live.1, under) next
  grew-after (Err e) before after filled next same none absent live lt =
      subst (λ (l : List KeptTable). Grew draft old l before after) (sym same)
      (subst (λ (n : ℕ). Grew draft old old before n) (sym none) (grew-none draft old before lt))
