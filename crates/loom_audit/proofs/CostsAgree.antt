-- What the wires of a set cost, and which wires they are.
use Rattle.std.proofs.Common.{◌≡◌, ◌↔◌, ℕ, ◌+◌, ◌-◌, ◌*◌, ◌^◌, ◌<◌, Bool, true, List, [], ◌∷◌, cond, get_or, min, inl, inr, refl, sym, ap, ◌∙◌, arith, Contains, filter, sum_by, count_by}
use Rattle.std.specs.List.{All}
use Rattle.std.proofs.lemmas.Bool.{cases_Bool, false_from_ne_true, false≢true}
use Rattle.std.proofs.lemmas.Option.{slice_get-get_or}
use Rattle.loom_base.proofs.Contained.{Contains-here, Contains-cons}
use Rattle.loom_project.specs.declared.draft.Draft.{Draft}
use Rattle.loom_project.specs.Project.{topology_of, net_topology}
use Rattle.loom_types.specs.declared.plan.Plan.{Plan}
use Rattle.loom_types.specs.declared.plan.SetLine.{SetLine}
use Rattle.loom_types.specs.declared.wire.Wire.{Wire}
use Rattle.loom_types.specs.Routes.{IsEndInRange}
use Rattle.loom_types.specs.WireCost.{Point, CavityPoint, SplicePoint, PinPoint, is_same_point, points_of, distinct_points, point_cost, wires_cost}
use Rattle.loom_audit.specs.CostRule.{IsCellOf, DoCostsAgree}
use Rattle.loom_audit.specs.RouteRule.{AreRouted}
use Rattle.loom_audit.specs.SetWires.{AreWiresOf}
use Rattle.loom_audit.proofs.LaidParts.{end-whole}
use Rattle.loom_audit.proofs.NetTopologies.{branch-same, price-same}

pub both-whole : (draft : Draft) (plan : Plan) → AreRouted draft plan
    → All (λ w. IsEndInRange (topology_of draft) w.from × IsEndInRange (topology_of draft) w.to) plan.wires
both-whole draft plan routed k d lt =
    let w : Wire = get_or plan.wires k d in
    let is = routed k w (slice_get-get_or plan.wires k d lt) in
    (end-whole draft w.net.0 w.from is.from, end-whole draft w.net.0 w.to is.to)

point-same : (draft : Draft) (net : ℕ) (ends : List Point) (p : Point) → point_cost (topology_of draft) ends p ≡ point_cost (net_topology draft net) ends p
point-same draft net ends (CavityPoint c) = refl
point-same draft net ends (SplicePoint v j) =
    ap (λ (b : ℕ). (count_by (is_same_point (SplicePoint v j)) ends - 2) * b) (branch-same draft net v)
point-same draft net ends (PinPoint x p) = price-same draft net x

pub wires-same : (draft : Draft) (net : ℕ) (ws : List Wire) → wires_cost (topology_of draft) ws ≡ wires_cost (net_topology draft net) ws
wires-same draft net ws =
    λ i. sum_by (λ (w : Wire). w.length) ws + sum_by (λ (p : Point). point-same draft net (points_of ws) p i) (distinct_points (points_of ws))

-- two tests that agree at each member keep the same members
filter-alike : {X : Type 0} (p q : X → Bool) (xs : List X) → ((x : X) → Contains xs x → (p x ≡ true) ↔ (q x ≡ true))
    → filter p xs ≡ filter q xs
filter-alike p q [] same = refl
filter-alike {X} p q (x ∷ xs) same =
    let rest = filter-alike p q xs (λ y listed. same y (Contains-cons y x xs listed)) in
    let here = same x (Contains-here x xs) in
    elim (cases_Bool (q x)) [
      | inl holds ↦
          ap (λ (b : Bool). cond b (x ∷ filter p xs) (filter p xs)) (here.1 holds)
          ∙ ap (λ (l : List X). x ∷ l) rest
          ∙ sym (ap (λ (b : Bool). cond b (x ∷ filter q xs) (filter q xs)) holds)
      | inr lacks ↦
          ap (λ (b : Bool). cond b (x ∷ filter p xs) (filter p xs))
          (false_from_ne_true (p x) (λ passes. false≢true (sym lacks ∙ here.0 passes)))
          ∙ rest
          ∙ sym (ap (λ (b : Bool). cond b (x ∷ filter q xs) (filter q xs)) lacks)
    ]

-- a set's wires are one list
pub its-same : (plan : Plan) (set : SetLine) (ws vs : List Wire) → AreWiresOf plan set ws → AreWiresOf plan set vs → ws ≡ vs
its-same plan set ws vs one other =
    one.picked
    ∙ filter-alike one.is_its other.is_its plan.wires (λ w listed. (
      λ passes. (other.its w listed).1 ((one.its w listed).0 passes),
      λ passes. (one.its w listed).1 ((other.its w listed).0 passes),
    ))
    ∙ sym other.picked

-- a number of 64 bits is the lesser of a sum and the greatest number of 128 bits where it is the sum
pub uncapped : (cost total printed : ℕ) → printed < 2 ^ 64 → cost ≡ min total (2 ^ 128 - 1) → cost ≡ printed → total ≡ printed
uncapped cost total printed small is same = omega (arith, small, is, same)

pub capped : (cost total printed : ℕ) → printed < 2 ^ 64 → cost ≡ min total (2 ^ 128 - 1) → total ≡ printed → cost ≡ printed
capped cost total printed small is same = omega (arith, small, is, same)

module _ (draft : Draft) (plan : Plan) (set : SetLine) (ws : List Wire) (its : AreWiresOf plan set ws) (cost : ℕ) (small : set.cost < 2 ^ 64)
    (is : cost ≡ min (wires_cost (topology_of draft) ws) (2 ^ 128 - 1)) where
  pub costs_agree : IsCellOf draft plan set set.cost → cost ≡ set.cost → DoCostsAgree draft plan set
  costs_agree cell same = record {
    cell = cell;
    wires = ws;
    are_its = its;
    cost = sym (wires-same draft set.net.0 ws) ∙ uncapped cost (wires_cost (topology_of draft) ws) set.cost small is same;
  }

  pub cost_agrees : DoCostsAgree draft plan set → cost ≡ set.cost
  cost_agrees agree =
      capped cost (wires_cost (topology_of draft) ws) set.cost small is
      (wires-same draft set.net.0 ws
      ∙ ap (wires_cost (net_topology draft set.net.0)) (its-same plan set ws agree.wires its agree.are_its)
      ∙ agree.cost)
