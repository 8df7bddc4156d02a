-- The ways lead over open segments, and each open segment has a way that costs no more.
use Rattle.std.proofs.Common.{ℕ, List, length, get_or, ◌≡◌, ◌<◌, ◌≤◌, inl, refl, sym, ap, ◌∙◌, subst, arith}
use Rattle.std.proofs.lemmas.List.{length-map, get_or-map}
use Rattle.std.proofs.lemmas.List.Elements.{Contains-get_or}
use Rattle.loom_topology.specs.declared.ways.Way.{Way}
use Rattle.loom_topology.specs.Topology.{TopologyView, IsSound, Leads, segment_at, price_at}
use Rattle.loom_topology.specs.Ways.{IsCheapest, way_at, no_way}
use Rattle.loom_topology.proofs.LeastLegal.{leads_below}
use Rattle.loom_topology.proofs.OpenAt.{leads_back, leads_to}
use Rattle.loom_topology.proofs.CheapestSegments.{leads_between, price_below, some_cheapest}
use Rattle.loom_potential.specs.Ways.{AreWays, way_over}

-- a way leads over a segment of its price
pub record Leads-way (topology : TopologyView) (way : Way) : Type 0 where
  pub segment : ℕ
  pub leads : Leads topology segment way.from.0 way.to.0
  pub price : way.price ≡ price_at topology segment

over_leads : (topology : TopologyView) (s : ℕ) → IsCheapest topology s → Leads topology s (way_over topology s).from.0 (way_over topology s).to.0
over_leads topology s is_cheapest =
    let ends : Leads topology s (segment_at topology s).from (segment_at topology s).to = (is_cheapest.is_open, inl (refl, refl)) in
    subst (λ u. Leads topology s (segment_at topology s).from u)
    (sym (leads_to topology s (segment_at topology s).from (segment_at topology s).to ends)) ends

pub way_leads : (topology : TopologyView) (ways : List Way) (k : ℕ) → AreWays topology ways → k < length ways
    → Leads-way topology (way_at ways k)
way_leads topology ways k are within =
    let inside : k < length are.segments = omega (arith, within, ap length are.listed, length-map are.segments (way_over topology)) in
    let s = get_or are.segments k 0 in
    let at : way_at ways k ≡ way_over topology s =
    ap (λ l. way_at l k) are.listed ∙ get_or-map (way_over topology) are.segments k 0 no_way inside in
    let is_cheapest = (are.cheapest s).0 (Contains-get_or are.segments k 0 inside) in
    record {
      segment = s;
      leads = subst (λ (w : Way). Leads topology s w.from.0 w.to.0) (sym at) (over_leads topology s is_cheapest);
      price = ap (λ (w : Way). w.price) at;
    }

-- a way between the two nodes of an open segment that costs no more
pub record Covers-segment (topology : TopologyView) (ways : List Way) (s : ℕ) : Type 0 where
  pub place : ℕ
  pub within : place < length ways
  pub leads : Leads topology s (way_at ways place).from.0 (way_at ways place).to.0
  pub price : (way_at ways place).price ≤ price_at topology s

pub way_covers : (topology : TopologyView) (ways : List Way) (s v u : ℕ) → AreWays topology ways → Leads topology s v u
    → Covers-segment topology ways s
way_covers topology ways s v u are leads =
    let (t, is_cheapest, there, price) = some_cheapest topology s v u leads in
    let (k, inside, at_k) = (are.cheapest t).1 is_cheapest in
    let at : way_at ways k ≡ way_over topology t =
    ap (λ l. way_at l k) are.listed
    ∙ get_or-map (way_over topology) are.segments k t no_way inside
    ∙ ap (way_over topology) at_k in
    let between : Leads topology s (segment_at topology t).from (segment_at topology t).to = leads_between topology t s v u there leads in
    let ends : Leads topology t (segment_at topology t).from (segment_at topology t).to = (is_cheapest.is_open, inl (refl, refl)) in
    record {
      place = k;
      within = omega (arith, inside, ap length are.listed, length-map are.segments (way_over topology));
      leads = subst (λ (w : Way). Leads topology s w.from.0 w.to.0) (sym at)
          (subst (λ n. Leads topology s (segment_at topology t).from n)
          (sym (leads_to topology t (segment_at topology t).from (segment_at topology t).to ends)) between);
      price = omega (arith, ap (λ (w : Way). w.price) at, price);
    }

-- a way joins two nodes of the topology, at a price of a segment
pub way_from_below : (topology : TopologyView) (ways : List Way) (k : ℕ) → IsSound topology → AreWays topology ways → k < length ways
    → (way_at ways k).from.0 < length topology.nodes
way_from_below topology ways k sound are within =
    let way = way_leads topology ways k are within in
    leads_below topology way.segment (way_at ways k).to.0 (way_at ways k).from.0 sound
    (leads_back topology way.segment (way_at ways k).from.0 (way_at ways k).to.0 way.leads)

pub way_to_below : (topology : TopologyView) (ways : List Way) (k : ℕ) → IsSound topology → AreWays topology ways → k < length ways
    → (way_at ways k).to.0 < length topology.nodes
way_to_below topology ways k sound are within =
    let way = way_leads topology ways k are within in
    leads_below topology way.segment (way_at ways k).from.0 (way_at ways k).to.0 sound way.leads

pub way_price_below : (topology : TopologyView) (ways : List Way) (k : ℕ) → IsSound topology → AreWays topology ways → k < length ways
    → (way_at ways k).price ≤ 1000000
way_price_below topology ways k sound are within =
    let way = way_leads topology ways k are within in
    omega (arith, way.price, price_below topology way.segment (way_at ways k).from.0 (way_at ways k).to.0 sound way.leads)
