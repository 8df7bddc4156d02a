-- The stops of the search for live sets, of layouts and of pins are fixed.
use Rattle.std.proofs.Common.{◌≡◌, ℕ, zero, suc, ◌+◌, ◌<◌, ◌⊎◌, inl, inr, Bool, true, false, List, [], ◌∷◌, map, length, slice_get, slice_index, refl, sym, ap, subst, ◌∙◌, arith}
use Rattle.std.specs.Prelude.{◌≢◌}
use Rattle.std.proofs.lemmas.Bool.{cases_Bool, cases_lt, cases_order}
use Rattle.std.proofs.lemmas.List.Kept.{AllPairs-from_increasing}
use Rattle.std.proofs.lemmas.Option.{same_Some}
use Rattle.loom_base.specs.declared.limits.Which.{Which}
use Rattle.loom_base.specs.declared.positions.NodeNo.{NodeNo}
use Rattle.loom_formula.specs.Choice.{choice_at, IsBefore}
use Rattle.loom_topology.specs.Topology.{TopologyView, node_of}
use Rattle.loom_topology.specs.Legal.{chosen}
use Rattle.loom_topology.specs.Reach.{IsReached as Reaches}
use Rattle.loom_project.specs.declared.draft.Draft.{Draft}
use Rattle.loom_project.specs.Project.{net_topology, cavities_of}
use Rattle.loom_types.specs.Slots.{Slot}
use Rattle.loom_types.specs.SetMask.{stem_node}
use Rattle.loom_active.specs.declared.stop.ActiveStop.{ActiveStop}
use Rattle.loom_active.specs.declared.stop.ActiveStop.TheVariants as active
use Rattle.loom_active.specs.Valid.{rules_worked, SomeIsValid, NeedTooManyRows}
use Rattle.loom_active.specs.Clash.{IsClash, HasNoClash, IsClashBefore, IsFirstClash}
use Rattle.loom_active.specs.LiveSets.{IsListedBefore}
use Rattle.loom_active.specs.LiveWork.{needs_worked}
use Rattle.loom_active.specs.LiveStops.{IsLiveStop, PassesSets, PassesRows, PassesLimit}
use Rattle.loom_laid.specs.declared.stop.LaidStop.{LaidStop}
use Rattle.loom_laid.specs.declared.stop.LaidStop.TheVariants as laid
use Rattle.loom_laid.specs.LaidStops.{PassSteps, IsFirstUnreached}
use Rattle.loom_layout.specs.Stop.{IsFirstWithout as IsFirstUnreachedIn, AreTheReached}
use Rattle.loom_pins.specs.FirstFit.{IsFirstWithout}
use Rattle.loom_plan.specs.Work.{couplers_of}
use Rattle.loom_plan.specs.FirstStop.{StopsLaying, LacksPin}
use Rattle.loom_plan.proofs.StrictOrders.{same-members, numbers_once}
use Rattle.loom_plan.proofs.SameLines.{StageLaws}
use Rattle.loom_plan.proofs.AlikeSlots.{without-alike}
use Rattle.loom_plan.proofs.StopStages.{more_sets, rows-needs, rows-through, rows-further, cells-exclude, reach-excludes, slots_of, have-couplers, carried}

-- ---- the search for live sets

later_same : (x y : Bool) (xs ys : List Bool) (n : ℕ) → x ≡ y → ((k : ℕ) → k < n → choice_at xs k ≡ choice_at ys k) → (k : ℕ) → k < suc n
    → choice_at (x ∷ xs) k ≡ choice_at (y ∷ ys) k
later_same x y xs ys n first rest zero below = first
later_same x y xs ys n first rest (suc k) below = rest k (omega arith)

later : (x y : Bool) (xs ys : List Bool) → x ≡ y → IsBefore (choice_at xs) (choice_at ys) → IsBefore (choice_at (x ∷ xs)) (choice_at (y ∷ ys))
later x y xs ys first before =
    record { option = suc before.option; same = later_same x y xs ys before.option first before.same; lower = before.lower; higher = before.higher }

at_once : (x y : Bool) (xs ys : List Bool) → x ≡ false → y ≡ true → IsBefore (choice_at (x ∷ xs)) (choice_at (y ∷ ys))
at_once x y xs ys lower higher = record { option = 0; same = λ k below. absurd (omega (arith, below)); lower = lower; higher = higher }

-- choices of one length are one, where neither is before the other
same_choice : (xs ys : List Bool) → length xs ≡ length ys → (IsBefore (choice_at xs) (choice_at ys) → ⊥)
    → (IsBefore (choice_at ys) (choice_at xs) → ⊥) → xs ≡ ys
same_choice [] [] count before behind = refl
same_choice [] (y ∷ ys) count before behind = absurd (omega arith)
same_choice (x ∷ xs) [] count before behind = absurd (omega arith)
same_choice (x ∷ xs) (y ∷ ys) count before behind =
    let first : x ≡ y = elim (cases_Bool x) [
      | inl holds ↦ elim (cases_Bool y) [ inl also ↦ holds ∙ sym also | inr fails ↦ absurd (behind (at_once y x ys xs fails holds)) ]
      | inr fails ↦ elim (cases_Bool y) [ inl holds ↦ absurd (before (at_once x y xs ys fails holds)) | inr also ↦ fails ∙ sym also ]
    ] in
    let rest =
    same_choice xs ys (omega arith) (λ b. before (later x y xs ys first b)) (λ b. behind (later y x ys xs (sym first) b)) in
    λ i. first i ∷ rest i

same_listed : (a b c d : ℕ) → (IsListedBefore a b c d → ⊥) → (IsListedBefore c d a b → ⊥) → (a ≡ c) × (b ≡ d)
same_listed a b c d before behind = elim (cases_order a c) [
  | inl same ↦ elim (cases_order b d) [
    | inl too ↦ (same, too)
    | inr (inl less) ↦ absurd (before (inr (same, less)))
    | inr (inr more) ↦ absurd (behind (inr (sym same, more)))
  ]
  | inr (inl less) ↦ absurd (before (inl less))
  | inr (inr more) ↦ absurd (behind (inl more))
]

same_clash : (c f s d g t : ℕ) → (IsClashBefore c f s d g t → ⊥) → (IsClashBefore d g t c f s → ⊥) → (c ≡ d) × (f ≡ g) × (s ≡ t)
same_clash c f s d g t before behind = elim (cases_order c d) [
  | inl same ↦
      let (first, second) = same_listed f s g t (λ b. before (inr (same, b))) (λ b. behind (inr (sym same, b))) in
      (same, first, second)
  | inr (inl less) ↦ absurd (before (inl less))
  | inr (inr more) ↦ absurd (behind (inl more))
]

module _ (draft : Draft) where
  first_clash : (c f s d g t : ℕ) (xs ys : List Bool) → length xs ≡ length ys → IsFirstClash draft c f s (choice_at xs)
      → IsFirstClash draft d g t (choice_at ys) → (c ≡ d) × (f ≡ g) × (s ≡ t) × (xs ≡ ys)
  first_clash c f s d g t xs ys count a b =
      let (cavity, first, second) =
      same_clash c f s d g t (λ before. b.lowest c f s (choice_at xs) a.clash before) (λ before. a.lowest d g t (choice_at ys) b.clash before) in
      let there : IsClash draft d g t (choice_at xs) =
      subst (λ (n : ℕ). IsClash draft d g n (choice_at xs)) second
      (subst (λ (n : ℕ). IsClash draft d n s (choice_at xs)) first (subst (λ (n : ℕ). IsClash draft n f s (choice_at xs)) cavity a.clash)) in
      let back : IsClash draft c f s (choice_at ys) =
      subst (λ (n : ℕ). IsClash draft c f n (choice_at ys)) (sym second)
      (subst (λ (n : ℕ). IsClash draft c n t (choice_at ys)) (sym first)
      (subst (λ (n : ℕ). IsClash draft n g t (choice_at ys)) (sym cavity) b.clash)) in
      (cavity, first, second, same_choice xs ys count (λ before. b.least (choice_at xs) there before) (λ before. a.least (choice_at ys) back before))

  limit_some : (which : Which) (count : ℕ) → PassesLimit draft which count → SomeIsValid draft ⊎ NeedTooManyRows (rules_worked draft)
  limit_some which count (inl (is, counts, (net, (reached, few, many)))) = inl reached.some
  limit_some which count (inr (is, counts, inl rules)) = inr rules
  limit_some which count (inr (is, counts, inr (inl (some, few, needs)))) = inl some
  limit_some which count (inr (is, counts, inr (inr (net, reached, many)))) = inl reached.some

  limit_clear : (which : Which) (count : ℕ) → PassesLimit draft which count → HasNoClash draft ⊎ NeedTooManyRows (needs_worked draft)
  limit_clear which count (inl (is, counts, (net, (reached, few, many)))) = inl reached.clear
  limit_clear which count (inr (is, counts, inl rules)) = inr (rows-needs draft rules)
  limit_clear which count (inr (is, counts, inr (inl (some, few, needs)))) = inr needs
  limit_clear which count (inr (is, counts, inr (inr (net, reached, many)))) = inl reached.clear

  -- what passes the sets' limit doesn't pass that of rows
  sets_or_rows : (net : ℕ) → PassesSets draft net → PassesRows draft → ⊥
  sets_or_rows net (reached, few, many) (inl rules) = reached.few_rows (rows-through draft net (rows-needs draft rules))
  sets_or_rows net (reached, few, many) (inr (inl (some, fit, needs))) = reached.few_rows (rows-through draft net needs)
  sets_or_rows net (reached, few, many) (inr (inr (other, its, rows))) = elim (cases_lt net other) [
    | inl before ↦ its.few_sets (more_sets draft (net + 1) other 16384 (omega (arith, before)) many)
    | inr behind ↦ few (rows-further draft (other + 1) (net + 1) (omega (arith, behind)) rows)
  ]

  none_or_limit : (which : Which) (count : ℕ) → IsLiveStop draft active.NoChoice → PassesLimit draft which count → ⊥
  none_or_limit which count (none, few) limit = elim (limit_some which count limit) [ inl some ↦ none some.0 some.1 | inr rules ↦ few rules ]

  same_limit : (which kind : Which) (count number : ℕ) → PassesLimit draft which count → PassesLimit draft kind number
      → (which ≡ kind) × (count ≡ number)
  same_limit which kind count number (inl (is, counts, sets)) (inl (its, numbers, more)) = (is ∙ sym its, counts ∙ sym numbers)
  same_limit which kind count number (inl (is, counts, (net, sets))) (inr (its, numbers, rows)) = absurd (sets_or_rows net sets rows)
  same_limit which kind count number (inr (is, counts, rows)) (inl (its, numbers, (net, sets))) = absurd (sets_or_rows net sets rows)
  same_limit which kind count number (inr (is, counts, rows)) (inr (its, numbers, more)) = (is ∙ sym its, counts ∙ sym numbers)

  pub same-live_stop : (one other : ActiveStop) → IsLiveStop draft one → IsLiveStop draft other → one ≢ active.NoMemory → other ≢ active.NoMemory
      → one ≡ other
  same-live_stop active.NoMemory other a b not_one not_other = absurd (not_one refl)
  same-live_stop active.NoChoice active.NoMemory a b not_one not_other = absurd (not_other refl)
  same-live_stop active.NoChoice active.NoChoice a b not_one not_other = refl
  same-live_stop active.NoChoice (active.Clash c f s choice) a (few, count, first) not_one not_other = absurd (a.0 (choice_at choice.values) first.clash.valid)
  same-live_stop active.NoChoice (active.Limit which count) a b not_one not_other = absurd (none_or_limit which count a b)
  same-live_stop (active.Clash c f s choice) active.NoMemory a b not_one not_other = absurd (not_other refl)
  same-live_stop (active.Clash c f s choice) active.NoChoice (few, count, first) b not_one not_other = absurd (b.0 (choice_at choice.values) first.clash.valid)
  same-live_stop (active.Clash c f s choice) (active.Clash d g t pick) (few, count, first) (fit, number, least) not_one not_other =
      let (cavity, net, second, values) = first_clash c.0 f.0 s.0 d.0 g.0 t.0 choice.values pick.values (count ∙ sym number) first least in
      λ i. active.Clash (record { 0 = cavity i }) (record { 0 = net i }) (record { 0 = second i }) (record { values = values i })
  same-live_stop (active.Clash c f s choice) (active.Limit which number) (few, count, first) b not_one not_other = elim (limit_clear which number b) [
    | inl clear ↦ absurd (clear c.0 f.0 s.0 (choice_at choice.values) first.clash)
    | inr needs ↦ absurd (few needs)
  ]
  same-live_stop (active.Limit which count) active.NoMemory a b not_one not_other = absurd (not_other refl)
  same-live_stop (active.Limit which count) active.NoChoice a b not_one not_other = absurd (none_or_limit which count b a)
  same-live_stop (active.Limit which number) (active.Clash c f s choice) a (few, count, first) not_one not_other = elim (limit_clear which number a) [
    | inl clear ↦ absurd (clear c.0 f.0 s.0 (choice_at choice.values) first.clash)
    | inr needs ↦ absurd (few needs)
  ]
  same-live_stop (active.Limit which count) (active.Limit kind number) a b not_one not_other =
      let (same, counts) = same_limit which kind count number a b in
      λ i. active.Limit (same i) (counts i)

-- ---- layouts

node_back : ℕ → NodeNo
node_back v = record { 0 = v }

back_all : (nodes : List NodeNo) → map node_back (map (λ node. node.0) nodes) ≡ nodes
unfolding node_back
back_all [] = refl
back_all (node ∷ nodes) = ap (λ (rest : List NodeNo). node ∷ rest) (back_all nodes)

same_reached : (topology : TopologyView) (v : ℕ) (one other : List NodeNo) → AreTheReached topology v (map (λ node. node.0) one)
    → AreTheReached topology v (map (λ node. node.0) other) → one ≡ other
same_reached topology v one other a b =
    let numbers : NodeNo → ℕ = λ node. node.0 in
    let same : map numbers one ≡ map numbers other =
    same-members (λ x y. x < y) numbers_once (map numbers one) (map numbers other) (AllPairs-from_increasing (map numbers one) a.rising)
    (AllPairs-from_increasing (map numbers other) b.rising) (λ u at. (b.reached u).1 ((a.reached u).0 at))
    (λ u at. (a.reached u).1 ((b.reached u).0 at)) in
    sym (back_all one) ∙ (ap (map node_back) same ∙ back_all other)

first_same : (P : ℕ → Type 0) (cavities : List ℕ) (c d : ℕ) → IsFirstUnreachedIn P cavities c → IsFirstUnreachedIn P cavities d → c ≡ d
first_same P cavities c d a b = elim (cases_order a.place b.place) [
  | inl same ↦ sym a.at ∙ (ap (slice_index cavities) same ∙ b.at)
  | inr (inl less) ↦ absurd (a.without (subst P a.at (b.earlier a.place less)))
  | inr (inr more) ↦ absurd (b.without (subst P b.at (a.earlier b.place more)))
]

module _ (draft : Draft) where
  -- the set's first cavity that isn't reached, and what is reached
  record IsStuck (net mask cavity : ℕ) (reached : List NodeNo) : Type 0 where
    cavity_is : IsFirstUnreachedIn
        (λ c. Reaches (net_topology draft net) (stem_node (net_topology draft net) (cavities_of draft net) mask) (node_of (net_topology draft net) c))
        (chosen (cavities_of draft net) mask) cavity
    nodes : AreTheReached (net_topology draft net) (stem_node (net_topology draft net) (cavities_of draft net) mask) (map (λ node. node.0) reached)

  same_stuck : (net mask c d : ℕ) (one other : List NodeNo) → IsStuck net mask c one → IsStuck net mask d other → (c ≡ d) × (one ≡ other)
  same_stuck net mask c d one other a b =
      let topology = net_topology draft net in
      let stem = stem_node topology (cavities_of draft net) mask in (
        first_same (λ x. Reaches topology stem (node_of topology x)) (chosen (cavities_of draft net) mask) c d a.cavity_is b.cavity_is,
        same_reached topology stem one other a.nodes b.nodes,
      )

  same_unreached : (net mask m n c d : ℕ) (one other : List NodeNo) → IsFirstUnreached draft net mask → IsFirstUnreached draft m n
      → IsStuck net mask c one → IsStuck m n d other → (net ≡ m) × (c ≡ d) × (one ≡ other)
  same_unreached net mask m n c d one other first its a b =
      let (nets, masks) =
      same_listed net mask m n (λ before. reach-excludes draft net mask c (its.earlier net mask first.live before) a.cavity_is)
      (λ before. reach-excludes draft m n d (first.earlier m n its.live before) b.cavity_is) in
      let there : IsStuck m n c one =
      subst (λ (x : ℕ). IsStuck m x c one) masks (subst (λ (x : ℕ). IsStuck x mask c one) nets a) in
      let (cavity, reached) = same_stuck m n c d one other there b in
      (nets, cavity, reached)

  pub same-laid_stop : (one other : LaidStop) → StopsLaying draft one → StopsLaying draft other → one ≢ laid.NoMemory → other ≢ laid.NoMemory
      → one ≡ other
  same-laid_stop laid.NoMemory other a b not_one not_other = absurd (not_one refl)
  same-laid_stop laid.TooManyCells laid.NoMemory a b not_one not_other = absurd (not_other refl)
  same-laid_stop laid.TooManyCells laid.TooManyCells a b not_one not_other = refl
  same-laid_stop laid.TooManyCells (laid.Unreachable net cavity reached) a b not_one not_other = absurd (cells-exclude draft b.stops.0 a.stops)
  same-laid_stop laid.TooManyCells laid.TooManySteps a b not_one not_other = absurd (cells-exclude draft b.stops.0 a.stops)
  same-laid_stop (laid.Unreachable net cavity reached) laid.NoMemory a b not_one not_other = absurd (not_other refl)
  same-laid_stop (laid.Unreachable net cavity reached) laid.TooManyCells a b not_one not_other = absurd (cells-exclude draft a.stops.0 b.stops)
  same-laid_stop (laid.Unreachable net cavity reached) (laid.Unreachable other place nodes) a b not_one not_other =
      let (mask, first, due) = a.stops.1 in
      let (number, its, stop) = b.stops.1 in
      let (nets, cavities, same) =
      same_unreached net.0 mask other.0 number cavity.0 place.0 reached nodes first its (record { cavity_is = due.0; nodes = due.1 })
      (record { cavity_is = stop.0; nodes = stop.1 }) in
      λ i. laid.Unreachable (record { 0 = nets i }) (record { 0 = cavities i }) (same i)
  same-laid_stop (laid.Unreachable net cavity reached) laid.TooManySteps a b not_one not_other =
      let (mask, first, due) = a.stops.1 in
      let pass : PassSteps draft b.sets = b.stops.1 in
      absurd (reach-excludes draft net.0 mask cavity.0 (pass.reached net.0 mask first.live) due.0)
  same-laid_stop laid.TooManySteps laid.NoMemory a b not_one not_other = absurd (not_other refl)
  same-laid_stop laid.TooManySteps laid.TooManyCells a b not_one not_other = absurd (cells-exclude draft a.stops.0 b.stops)
  same-laid_stop laid.TooManySteps (laid.Unreachable net cavity reached) a b not_one not_other =
      let (mask, first, due) = b.stops.1 in
      let pass : PassSteps draft a.sets = a.stops.1 in
      absurd (reach-excludes draft net.0 mask cavity.0 (pass.reached net.0 mask first.live) due.0)
  same-laid_stop laid.TooManySteps laid.TooManySteps a b not_one not_other = refl

-- ---- pins

pub same-lack : StageLaws → (draft : Draft) (slot other : Slot) → LacksPin draft slot → LacksPin draft other → slot ≡ other
same-lack laws draft slot other a b =
    let (there, back, count) = carried laws draft b.laid a.laid b.slots a.slots b.works a.works b.used a.used b.are_used a.are_used in
    let here : IsFirstWithout (couplers_of draft) a.used b.at = without-alike b.used a.used there back (couplers_of draft) b.at b.is_first in
    let place : a.at ≡ b.at =
    (laws.without (couplers_of draft) a.used a.at (have-couplers draft a.laid a.slots a.used a.works.are_slots a.are_used) a.is_first).1 b.at here in
    let slots =
    slots_of laws draft a.laid b.laid a.slots b.slots a.works.lays b.works.lays a.works.are_slots b.works.are_slots in
    same_Some slot other (sym a.stands ∙ ((λ i. slice_get (slots i) (place i)) ∙ b.stands))
