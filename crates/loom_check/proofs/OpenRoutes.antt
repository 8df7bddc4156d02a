-- The wires are routed over what is open to their nets, and so respect bars.
use Rattle.std.proofs.Common.{◌≡◌, ℕ, ◌<◌, false, List, [], ◌∷◌, length, ◌∙◌, subst, arith, Contains, inl, inr}
use Rattle.std.specs.Prelude.{IsTrue}
use Rattle.loom_base.specs.declared.positions.SegmentNo.{SegmentNo}
use Rattle.loom_base.proofs.Contained.{Contains-cases}
use Rattle.loom_topology.specs.Topology.{TopologyView, segment_at}
use Rattle.loom_topology.proofs.Places.{open_below}
use Rattle.loom_project.specs.declared.draft.Draft.{Draft}
use Rattle.loom_project.specs.Project.{net_topology}
use Rattle.loom_project.proofs.NetLemmas.{not_true}
use Rattle.loom_project.proofs.PartsLemmas.{count_net_segments, open_to_net}
use Rattle.loom_types.specs.declared.plan.Plan.{Plan}
use Rattle.loom_types.specs.declared.wire.End.{End}
use Rattle.loom_types.specs.declared.wire.Wire.{Wire}
use Rattle.loom_types.specs.Routes.{IsEndInRange, IsChainOfRuns, IsRouted}
use Rattle.loom_types.specs.Slots.{EndsAtPin}
use Rattle.loom_active.specs.RightPlan.{WiresAreRouted, RespectsBars, bars_net}
use Rattle.loom_check.specs.Verdict.{PassesAll}
use Rattle.loom_check.proofs.AgreeingLines.{each-member}
use Rattle.loom_check.proofs.WiresOfLiveSets.{where_sets_are}

-- an open segment doesn't bar the net
open_is_no_bar : (draft : Draft) (net s : ℕ) → IsTrue (segment_at (net_topology draft net) s).is_open → bars_net draft s net ≡ false
open_is_no_bar draft net s is_open =
    let within : s < length draft.segments = omega (arith, open_below (net_topology draft net) s is_open, count_net_segments draft net) in
    not_true (bars_net draft s net) (open_to_net draft net s within ∙ is_open)

-- the runs of a chain are open
chain_open : (topology : TopologyView) (v u : ℕ) (route : List SegmentNo) → IsChainOfRuns topology v u route
    → (s : SegmentNo) → Contains route s → IsTrue (segment_at topology s.0).is_open
chain_open topology v u [] chain s (k, below, at) = absurd (omega (arith, below))
chain_open topology v u (t ∷ route) (w, run, rest) s at = elim (Contains-cases s t route at) [
  | inl same ↦ subst (λ (r : SegmentNo). IsTrue (segment_at topology r.0).is_open) same run.1.0
  | inr later ↦ chain_open topology w u route rest s later
]

module _ (draft : Draft) (plan : Plan) (passes : PassesAll draft plan) where
  routed : (w : Wire) → Contains plan.wires w → IsRouted (net_topology draft w.net.0) w
  routed w listed = each-member (λ (v : Wire). IsRouted (net_topology draft v.net.0) v) plan.wires passes.routes w listed

  pub wires_are_routed : WiresAreRouted draft plan
  wires_are_routed w listed = record {
    net = (where_sets_are draft plan passes w listed).net;
    routed = routed w listed;
  }

  pin_open : (w : Wire) → Contains plan.wires w → (coupler pin : ℕ) → EndsAtPin w coupler pin
      → IsTrue (segment_at (net_topology draft w.net.0) coupler).is_open
  pin_open w listed coupler pin (side, inl e) = (subst (λ (x : End). IsEndInRange (net_topology draft w.net.0) x) e (routed w listed).from).0
  pin_open w listed coupler pin (side, inr e) = (subst (λ (x : End). IsEndInRange (net_topology draft w.net.0) x) e (routed w listed).to).0

  pub respects_bars : RespectsBars draft plan
  respects_bars = record {
    routes = λ w listed s at.
        open_is_no_bar draft w.net.0 s.0 (chain_open (net_topology draft w.net.0) _ _ w.route (routed w listed).chain s at);
    couplers = λ w listed coupler pin there. open_is_no_bar draft w.net.0 coupler (pin_open w listed coupler pin there);
  }
