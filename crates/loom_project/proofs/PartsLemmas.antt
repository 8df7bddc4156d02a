-- What a draft's parts are, once each of its lists has been gone through.
use Rattle.std.proofs.Common.{◌≡◌, ℕ, ◌<◌, Bool, true, not, ◌&&◌, eqb, List, [], length, map, get_or, refl, sym, ap, ◌∙◌, Ok, zero-add, arith}
use Rattle.std.proofs.Math.Bool.{and-true}
use Rattle.std.proofs.lemmas.Bool.{eq-eqb, eqb-true}
use Rattle.std.proofs.lemmas.List.{get_or-map, length-map}
use Rattle.std.proofs.lemmas.List.Folds.{list_any_at}
use Rattle.std.proofs.lemmas.List.FromFn.{length-range_with_len, get_or-range_with_len}
use Rattle.std.proofs.lemmas.Map.Views.{any-filter_same}
use Rattle.std.specs.Prelude.{filter}
use Rattle.std.specs.List.{list_any, range_with_len}
use Rattle.loom_formula.specs.NameIndex.{has_name}
use Rattle.loom_base.specs.declared.positions.CavityNo.{CavityNo}
use Rattle.loom_topology.specs.Topology.{TopologyView, Segment, no_segment, segment_at, shut_in}
use Rattle.loom_topology.proofs.ShutSegments.{length-shut_among, get_or-shut_among}
use Rattle.loom_project.specs.declared.draft.Draft.{Draft}
use Rattle.loom_project.specs.declared.draft.NodeDraft.{NodeDraft}
use Rattle.loom_project.specs.declared.draft.SegmentDraft.{SegmentDraft}
use Rattle.loom_project.specs.declared.draft.CavityDraft.{CavityDraft}
use Rattle.loom_project.specs.declared.draft.NetDraft.{NetDraft}
use Rattle.loom_base.specs.First.{Check, ◌>>◌}
use Rattle.loom_project.specs.Draft.{index_of, node_names}
use Rattle.loom_project.specs.Project.{placed_nodes, placed_segment, topology_of, terminal_places, net_places, no_net, net_at, bars_of, barred, net_topology}
use Rattle.loom_project.specs.Classes.{net_classes, barred_numbers, segment_bars}
use Rattle.loom_base.proofs.EachLemmas.{then_passes}
use Rattle.loom_project.proofs.ClassLemmas.{barred_is}

abbrev written : List NodeDraft → List SegmentDraft → List CavityDraft → TopologyView
written nodes segments cavities =
    record {
      nodes = placed_nodes nodes;
      segments = map (placed_segment (node_names nodes)) segments;
      cavities = map (λ cavity. index_of (node_names nodes) cavity.node) cavities;
    }

pub topology_made : (draft : Draft) (nodes : List NodeDraft) (segments : List SegmentDraft) (cavities : List CavityDraft) (names : List (List ℕ)) (start joined made : TopologyView) → nodes ≡ draft.nodes → segments ≡ draft.segments → cavities ≡ draft.cavities → names ≡ node_names nodes → start ≡ record { nodes = placed_nodes nodes; segments = []; cavities = [] } → joined ≡ record start { segments = map (placed_segment (node_names nodes)) segments } → made ≡ record joined { cavities = map (λ cavity. index_of names cavity.node) cavities } → made ≡ topology_of draft
unfolding topology_of
topology_made draft nodes segments cavities names start joined made ns ss cs named started joins makes =
    let join : TopologyView → TopologyView = λ t. record t { segments = map (placed_segment (node_names nodes)) segments } in
    let make : TopologyView → TopologyView = λ t. record t { cavities = map (λ cavity. index_of names cavity.node) cavities } in
    let at : List (List ℕ) → TopologyView = λ known. record {
      nodes = placed_nodes nodes;
      segments = map (placed_segment (node_names nodes)) segments;
      cavities = map (λ cavity. index_of known cavity.node) cavities;
    } in
    makes ∙ ap make (joins ∙ ap join started) ∙ ap at named
    ∙ ap (λ v. written v segments cavities) ns ∙ ap (λ v. written draft.nodes v cavities) ss ∙ ap (written draft.nodes draft.segments) cs

-- the last of six checks decides where the others pass
pub last_decides : {F : Type 0} (a b c d e f : Check F) (answer : Check F) → a ≡ Ok tt → b ≡ Ok tt → c ≡ Ok tt → d ≡ Ok tt → e ≡ Ok tt → f ≡ answer → (a >> b >> c >> d >> e >> f) ≡ answer
last_decides a b c d e f answer ha hb hc hd he hf =
    then_passes a _ ha ∙ then_passes b _ hb ∙ then_passes c _ hc ∙ then_passes d _ hd ∙ then_passes e _ he ∙ hf

-- the cavities of one net
pub places_at : (places : List (List CavityNo)) (names : List (List ℕ)) (nets : List NetDraft) (n : ℕ) (one : List CavityNo) → map (map (λ c. c.0)) places ≡ net_places names nets → one ≡ get_or places n one → n < length nets → map (λ c. c.0) one ≡ terminal_places names (get_or nets n no_net).terminals
places_at places names nets n one all is lt =
    let same : length places ≡ length nets =
    sym (length-map places (map (λ c. c.0))) ∙ ap length all ∙ length-map nets (λ net. terminal_places names net.terminals) in
    let here : n < length places = rw same lt in
    ap (map (λ c. c.0)) is ∙ sym (get_or-map (map (λ c. c.0)) places n one [] here) ∙ ap (λ ps. get_or ps n []) all
    ∙ get_or-map (λ net. terminal_places names net.terminals) nets n no_net [] lt

-- there are the cavities of each net
pub count_places : (places : List (List CavityNo)) (names : List (List ℕ)) (nets : List NetDraft) → map (map (λ c. c.0)) places ≡ net_places names nets → length places ≡ length nets
count_places places names nets all =
    sym (length-map places (map (λ c. c.0))) ∙ ap length all ∙ length-map nets (λ net. terminal_places names net.terminals)

-- a topology in which the segments are shut that bar the net's class, found by its number, is that of the net
pub net_made : (draft : Draft) (net : ℕ) (topology : TopologyView) (numbers : List ℕ) (bars : List (List ℕ)) (class : ℕ) → net < length draft.nets → topology ≡ topology_of draft
    → bars ≡ segment_bars (net_classes draft.nets) draft.segments → class ≡ index_of (net_classes draft.nets) (net_at draft net).class
    → numbers ≡ filter (λ s. list_any (λ b. eqb b class) (get_or bars s [])) (range_with_len 0 (length bars)) → shut_in topology numbers ≡ net_topology draft net
unfolding net_topology
net_made draft net topology numbers bars class lt whole bs cs made =
    let classes : List (List ℕ) = net_classes draft.nets in
    let found : List (List ℕ) → ℕ → ℕ → List ℕ = λ bars class n. filter (λ s. list_any (λ b. eqb b class) (get_or bars s [])) (range_with_len 0 n) in
    let known : List (List ℕ) = segment_bars classes draft.segments in
    ap (λ t. shut_in t numbers) whole
    ∙ ap (shut_in (topology_of draft))
    (made ∙ ap (λ bars. found bars class (length bars)) bs ∙ ap (λ class. found known class (length known)) cs
    ∙ ap (found known (index_of classes (net_at draft net).class)) (length-map draft.segments (λ segment. barred_numbers classes segment.bars)) ∙ barred_is draft net lt)

pub count_nodes : (draft : Draft) (topology : TopologyView) → topology ≡ topology_of draft → length topology.nodes ≡ length draft.nodes
unfolding topology_of
count_nodes draft topology whole = ap (λ t. length t.nodes) whole ∙ length-map draft.nodes _

pub count_segments : (draft : Draft) (topology : TopologyView) → topology ≡ topology_of draft → length topology.segments ≡ length draft.segments
unfolding topology_of
count_segments draft topology whole =
    ap (λ t. length t.segments) whole ∙ length-map draft.segments (placed_segment (node_names draft.nodes))

pub count_cavities : (draft : Draft) (topology : TopologyView) → topology ≡ topology_of draft → length topology.cavities ≡ length draft.cavities
unfolding topology_of
count_cavities draft topology whole =
    ap (λ t. length t.cavities) whole ∙ length-map draft.cavities (λ cavity. index_of (node_names draft.nodes) cavity.node)

-- each segment has its bars by number
pub count_bars : (draft : Draft) (bars : List (List ℕ)) → bars ≡ segment_bars (net_classes draft.nets) draft.segments → length bars ≡ length draft.segments
count_bars draft bars same =
    ap length same ∙ length-map draft.segments (λ segment. barred_numbers (net_classes draft.nets) segment.bars)

-- shutting segments takes none away
module _ (draft : Draft) (net : ℕ) where
  pub count_net_nodes : length (net_topology draft net).nodes ≡ length draft.nodes
  unfolding net_topology
  count_net_nodes = count_nodes draft (topology_of draft) refl

  pub count_net_segments : length (net_topology draft net).segments ≡ length draft.segments
  unfolding net_topology
  count_net_segments =
      length-shut_among (topology_of draft).segments (barred draft (net_at draft net).class) ∙ count_segments draft (topology_of draft) refl

  pub count_net_cavities : length (net_topology draft net).cavities ≡ length draft.cavities
  unfolding net_topology
  count_net_cavities = count_cavities draft (topology_of draft) refl

-- a number stands among those from 0 on that pass a test exactly where it passes
among_range : (p : ℕ → Bool) (n s : ℕ) → s < n → list_any (eqb s) (filter p (range_with_len 0 n)) ≡ p s
among_range p n s lt =
    let there : list_any (eqb s) (range_with_len 0 n) ≡ true =
    list_any_at (eqb s) (range_with_len 0 n) s 0 (omega (arith, lt, length-range_with_len 0 n))
    (eq-eqb s _ (sym (get_or-range_with_len 0 n s 0 lt ∙ zero-add s))) in
    any-filter_same (eqb s) p (p s) (λ k same. ap p (sym (eqb-true s k same))) (range_with_len 0 n)
    ∙ ap (λ b. p s && b) there ∙ and-true (p s)

-- a segment is open to a net exactly where its bars don't name the net's class
pub open_to_net : (draft : Draft) (net s : ℕ) → s < length draft.segments
    → not (has_name (bars_of draft s) (net_at draft net).class) ≡ (segment_at (net_topology draft net) s).is_open
unfolding net_topology topology_of
open_to_net draft net s lt =
    let names : List (List ℕ) = node_names draft.nodes in
    let placed : List Segment = map (placed_segment names) draft.segments in
    let shut : List ℕ = barred draft (net_at draft net).class in
    let there : s < length placed = omega (arith, lt, length-map draft.segments (placed_segment names)) in
    let is_barred : ℕ → Bool = λ k. has_name (bars_of draft k) (net_at draft net).class in
    sym (ap (λ (g : Segment). g.is_open) (get_or-shut_among placed shut s no_segment there)
    ∙ ap not (among_range is_barred (length draft.segments) s lt))
