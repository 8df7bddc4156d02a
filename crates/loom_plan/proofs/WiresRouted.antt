-- The printed wires are routed over what is open to their nets, and so respect bars.
use Rattle.std.proofs.Common.{◌≡◌, ℕ, ◌<◌, false, List, [], ◌∷◌, length, Ok, sym, subst, ◌∙◌, arith, Contains, inl, inr}
use Rattle.std.specs.Prelude.{IsTrue}
use Rattle.loom_base.specs.declared.positions.SegmentNo.{SegmentNo}
use Rattle.loom_base.proofs.Contained.{Contains-cases}
use Rattle.loom_topology.specs.Topology.{TopologyView, segment_at}
use Rattle.loom_topology.proofs.Places.{open_below}
use Rattle.loom_project.specs.declared.draft.Draft.{Draft}
use Rattle.loom_project.specs.Project.{net_topology, HasSoundTopologies}
use Rattle.loom_project.specs.Sound.{draft_check}
use Rattle.loom_project.proofs.NetLemmas.{not_true}
use Rattle.loom_project.proofs.PartsLemmas.{count_net_segments, open_to_net}
use Rattle.loom_types.specs.declared.plan.Plan.{Plan}
use Rattle.loom_types.specs.declared.wire.End.{End}
use Rattle.loom_types.specs.declared.wire.Wire.{Wire}
use Rattle.loom_types.specs.LayoutWires.{bare}
use Rattle.loom_types.specs.Routes.{IsEndInRange, IsChainOfRuns, IsRouted}
use Rattle.loom_types.specs.Slots.{EndsAtPin}
use Rattle.loom_active.specs.RightPlan.{WiresAreRouted, RespectsBars, bars_net}
use Rattle.loom_plan.specs.PlanOf.{IsPlanOf}
use Rattle.loom_plan.proofs.LowerLaws.{LowerLaws}
use Rattle.loom_plan.proofs.SetsWires.{wire_of_set, in_range, own_routed}

-- an open segment doesn't bar the net
open_is_no_bar : (draft : Draft) (net s : ℕ) → IsTrue (segment_at (net_topology draft net) s).is_open → bars_net draft s net ≡ false
open_is_no_bar draft net s is_open =
    let within : s < length draft.segments = omega (arith, open_below (net_topology draft net) s is_open, count_net_segments draft net) in
    not_true (bars_net draft s net) (open_to_net draft net s within ∙ is_open)

-- the runs of a chain are open
chain_open : (topology : TopologyView) (v u : ℕ) (route : List SegmentNo) → IsChainOfRuns topology v u route
    → (s : SegmentNo) → Contains route s → IsTrue (segment_at topology s.0).is_open
chain_open topology v u [] chain s (k, below, at) = absurd (omega (arith, below))
chain_open topology v u (t ∷ route) (w, run, rest) s at = elim (Contains-cases s t route at) [
  | inl same ↦ subst (λ (r : SegmentNo). IsTrue (segment_at topology r.0).is_open) same run.1.0
  | inr later ↦ chain_open topology w u route rest s later
]

module _ (draft : Draft) (plan : Plan) (passed : draft_check draft ≡ Ok tt) (sound : HasSoundTopologies draft) (is : IsPlanOf draft plan)
    (laws : LowerLaws) where
  pub wires_are_routed : WiresAreRouted draft plan
  wires_are_routed w listed =
      let (set, printed, has) = wire_of_set draft plan passed sound is w listed in
      let (over, net) = own_routed draft plan passed sound is laws set printed (bare w) has in
      let with_row : IsRouted (net_topology draft set.net.0) w =
      record { from = over.from; to = over.to; chain = over.chain; length = over.length } in
      record {
        net = subst (λ (n : ℕ). n < length draft.nets) (sym net) (in_range draft plan passed sound is laws set printed);
        routed = subst (λ (n : ℕ). IsRouted (net_topology draft n) w) (sym net) with_row;
      }

  pin_open : (w : Wire) → Contains plan.wires w → (coupler pin : ℕ) → EndsAtPin w coupler pin
      → IsTrue (segment_at (net_topology draft w.net.0) coupler).is_open
  pin_open w listed coupler pin (side, inl e) =
      (subst (λ (x : End). IsEndInRange (net_topology draft w.net.0) x) e (wires_are_routed w listed).routed.from).0
  pin_open w listed coupler pin (side, inr e) =
      (subst (λ (x : End). IsEndInRange (net_topology draft w.net.0) x) e (wires_are_routed w listed).routed.to).0

  pub respects_bars : RespectsBars draft plan
  respects_bars = record {
    routes = λ w listed s at.
        open_is_no_bar draft w.net.0 s.0 (chain_open (net_topology draft w.net.0) _ _ w.route (wires_are_routed w listed).routed.chain s at);
    couplers = λ w listed coupler pin there. open_is_no_bar draft w.net.0 coupler (pin_open w listed coupler pin there);
  }
