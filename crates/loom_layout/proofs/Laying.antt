-- A bundle that is laid in part: what is left of it, laid, ends as the whole bundle does.
use Rattle.std.proofs.Common.{ℕ, List, [], ◌∷◌, Option, Some, IsSome, length, map, ◌++◌, ◌≡◌, ◌+◌, ◌-◌, ◌*◌, ◌^◌, ◌<◌, ◌≤◌, arith, refl, sym, ◌∙◌, ap, subst, pow_mono, length-append, length-set}
use Rattle.std.proofs.lemmas.List.{length-replicate, map-append}
use Rattle.std.proofs.lemmas.Nat.{mul-le}
use Rattle.loom_topology.specs.Topology.{TopologyView, IsSound, price_at, branch_at}
use Rattle.loom_base.specs.declared.positions.SegmentNo.{SegmentNo}
use Rattle.loom_topology.specs.WiringTree.{Step}
use Rattle.loom_topology.specs.Legal.{IsMask, plus}
use Rattle.loom_types.specs.LayoutTree.{step_of}
use Rattle.loom_topology.specs.Ties.{IsOneAt, IsFirstPart, Splits, StepsTo}
use Rattle.loom_layout.specs.Layout.{Laying, Laid, hang, split, over, stepped, next_point, nothing_laid, IsLeastOf}
use Rattle.loom_layout.specs.Rule.{IsLowestStep}
use Rattle.loom_layout.specs.Walk.{left_of, CanLay}
use Rattle.loom_layout.proofs.Apart.{some_part, some_rest}
use Rattle.loom_layout.proofs.Grown.{sum_of_two}
use Rattle.loom_layout.proofs.Left.{step_within, few_steps, left_after, left_part, left_rest, left_both, nearer-le}

-- one step more at the end of the code's list
pub pushed : (old new : List (ℕ × SegmentNo)) (points : List ℕ) (point : ℕ) (segment : SegmentNo) → new ≡ old ++ (point, segment) ∷ []
    → ◌≡◌ {A = Laying} (record { steps = map step_of new; points = points })
    (stepped (record { steps = map step_of old; points = points }) point segment.0)
pushed old new points point segment e =
    let steps : map step_of new ≡ map step_of old ++ record { parent = point; segment = segment.0 } ∷ [] =
    ap (map step_of) e ∙ map-append step_of old ((point, segment) ∷ []) in
    ap (λ (l : List Step). let laying : Laying = record { steps = l; points = points } in laying) steps

some_of : (o : Option ℕ) (m : ℕ) → o ≡ Some m → IsSome o
some_of o m e = subst (λ (x : Option ℕ). IsSome x) (sym e) refl

-- both parts of a split have a least cost, and so has a mask behind a step
pub parts_have_costs : (topology : TopologyView) (least : ℕ → ℕ → Option ℕ) (mask v part : ℕ) → Splits topology least mask v part
    → IsSome (least part v) × IsSome (least (mask - part) v)
parts_have_costs topology least mask v part splits =
    let (k, sum, full) = splits.1 in
    let (ab, br, both, branch, total) = sum_of_two (plus (least part v) (least (mask - part) v)) (Some (branch_at topology v)) k sum in
    let (a, b, at_part, at_rest, pair) = sum_of_two (least part v) (least (mask - part) v) ab both in
    (some_of (least part v) a at_part, some_of (least (mask - part) v) b at_rest)

pub behind_has_cost : (topology : TopologyView) (least : ℕ → ℕ → Option ℕ) (mask v s u : ℕ) → StepsTo topology least mask v s u
    → IsSome (least mask u)
behind_has_cost topology least mask v s u steps =
    let (k, sum, full) = steps.1 in
    let (a, price, behind, paid, total) = sum_of_two (least mask u) (Some (price_at topology s)) k sum in
    some_of (least mask u) a behind

pub part_range : (terminals : List ℕ) (mask part : ℕ) → IsMask terminals mask → IsFirstPart mask part → IsMask terminals part
part_range terminals mask part range first = (some_part mask part first, omega (arith, range.1, first.rest))

pub rest_range : (terminals : List ℕ) (mask part : ℕ) → IsMask terminals mask → IsFirstPart mask part → IsMask terminals (mask - part)
rest_range terminals mask part range first = (some_rest mask part first, omega (arith, range.1))

module _ (topology : TopologyView) (terminals : List ℕ) (least : ℕ → ℕ → Option ℕ) where
  -- no place of a cavity comes or goes
  pub places_kept : {mask v point : ℕ} {before after : Laying} → Laid topology terminals least mask v point before after
      → length after.points ≡ length before.points
  places_kept {point = point} {before = before} (hang i one) = length-set before.points i point
  places_kept (split part none low first rest) = places_kept rest ∙ places_kept first
  places_kept (over s u none whole low steps rest) = places_kept rest

  pub record GoesOn (mask v point : ℕ) (before : Laying) (left at end : ℕ) (now : Laying) : Type 0 where
    pub can : CanLay topology terminals least left at now
    pub no_more : left_of topology least left at ≤ left_of topology least mask v
    pub whole : (after : Laying) → Laid topology terminals least left at end now after
        → Laid topology terminals least mask v point before after

  pub goes_on_first : (mask v point : ℕ) (before : Laying) → CanLay topology terminals least mask v before
      → GoesOn mask v point before mask v point before
  goes_on_first mask v point before can = record { can = can; no_more = omega arith; whole = λ after laid. laid }

  module _ (sound : IsSound topology) (mask v point : ℕ) (before : Laying) (left at end : ℕ) (now : Laying)
      (state : GoesOn mask v point before left at end now) where
    module _ (part : ℕ) (none : (i : ℕ) → IsOneAt topology terminals left at i → ⊥) (low : IsLeastOf (Splits topology least left at) part) where
      some_node : 0 < length topology.nodes
      some_node = let node = state.can.node in omega (arith, node)

      pub less : left_of topology least part at < left_of topology least left at
      less = left_part topology least left at part low.holds.0 some_node

      pub less_rest : left_of topology least (left - part) at < left_of topology least left at
      less_rest = left_rest topology least left at part low.holds.0 some_node

      -- the part can be laid first
      pub can_part : CanLay topology terminals least part at now
      can_part = record {
        range = part_range terminals left part state.can.range low.holds.0;
        node = state.can.node;
        cost = (parts_have_costs topology least left at part low.holds).0;
        places = state.can.places;
        room = let room = state.can.room in omega (arith, room, less);
      }

      -- and then the rest
      pub goes_on_split : (middle : Laying) → Laid topology terminals least part at end now middle
          → GoesOn mask v point before (left - part) at end middle
      goes_on_split middle laid = record {
        can = record {
          range = rest_range terminals left part state.can.range low.holds.0;
          node = state.can.node;
          cost = (parts_have_costs topology least left at part low.holds).1;
          places = places_kept laid ∙ state.can.places;
          room =
              let room = state.can.room in
              omega (arith, room, few_steps topology least terminals sound laid, left_both topology least left at part low.holds.0);
        };
        no_more =
            let no_more = state.no_more in
            omega (arith, less_rest, no_more);
        whole = λ after rest. state.whole after (split part none low laid rest);
      }

    module _ (s u : ℕ) (none : (i : ℕ) → IsOneAt topology terminals left at i → ⊥)
        (parted : (part : ℕ) → Splits topology least left at part → ⊥) (step : IsLowestStep topology least left at s u) where
      pub fewer : left_of topology least left u < left_of topology least left at
      fewer = left_after topology least left at s u sound step.steps

      longer : length (stepped now end s).steps ≡ length now.steps + 1
      longer = length-append now.steps (record { parent = end; segment = s } ∷ [])

      pub goes_over : GoesOn mask v point before left u (next_point now) (stepped now end s)
      goes_over = record {
        can = record {
          range = state.can.range;
          node = (step_within topology least left at s u sound step.steps).1;
          cost = behind_has_cost topology least left at s u step.steps;
          places = state.can.places;
          room = let room = state.can.room in omega (arith, room, fewer, longer);
        };
        no_more = let no_more = state.no_more in omega (arith, no_more, fewer);
        whole = λ after rest. state.whole after (over s u none parted step.lowest step.steps rest);
      }

      pub next_in_room : next_point now < 2 ^ 32
      next_in_room = let room = state.can.room in omega (arith, room, fewer)

  -- at the start there is room for all steps
  pub can_begin : (mask v : ℕ) → length topology.nodes ≤ 1024 → length terminals ≤ 12 → IsMask terminals mask
      → v < length topology.nodes → IsSome (least mask v) → CanLay topology terminals least mask v (nothing_laid terminals)
  can_begin mask v few_nodes few range node cost = record {
    range = range;
    node = node;
    cost = cost;
    places = length-replicate (length terminals - 1) 0;
    room =
        let bound : mask < 2 ^ 11 = omega (arith, range.1, pow_mono {i = length terminals - 1} {j = 11} (omega (arith, few))) in
        let product : mask * length topology.nodes ≤ 2048 * 1024 = mul-le mask (length topology.nodes) 2048 1024 (omega (arith, bound)) few_nodes in
        omega (arith, product, few_nodes, nearer-le topology least mask v);
  }
