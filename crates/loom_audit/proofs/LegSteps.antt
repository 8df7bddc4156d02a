-- The legs of a layout, step by step.
use Rattle.std.proofs.Common.{◌≡◌, ℕ, zero, suc, ◌+◌, ◌<◌, ◌≤◌, inl, inr, Bool, true, false, cond, List, [], ◌∷◌, ◌++◌, length, map, get_or, take, reverse, replicate, refl, sym, ap, ◌∙◌, subst, arith, eqb}
use Rattle.std.specs.List.{count_by}
use Rattle.std.proofs.Math.ListN.{set}
use Rattle.std.proofs.lemmas.Bool.{cases_Bool, cases_eq, eq-eqb, ne_eqb}
use Rattle.std.proofs.lemmas.List.{map-append, reverse-append, length-set, length-take-le, length-replicate, get_or-set_same, get_or-set_other, get_or-replicate, length-reverse, length-map}
use Rattle.std.proofs.lemmas.List.Sums.{count_by_more_yes, count_by_more_no, count_by-le-length}
use Rattle.loom_topology.specs.Topology.{TopologyView, IsSound, segment_at, is_coupler, no_segment}
use Rattle.loom_topology.specs.WiringTree.{Tree, step_at, no_step, place_of}
use Rattle.loom_types.specs.LayoutWires as layout
use Rattle.loom_types.specs.LayoutWires.{leg_of, legs_of, crossing_of, ordinal_of}
use Rattle.loom_audit.specs.declared.leg.Leg.{Leg}
use Rattle.loom_audit.specs.Threads.{leg_of_code, crossing_of_code, legs_back, added_length, AreLegs}

pub legs_back-push : (legs : List Leg) (leg : Leg) → legs_back (legs ++ leg ∷ []) ≡ leg_of_code leg ∷ legs_back legs
legs_back-push legs leg =
    ap reverse (map-append leg_of_code legs (leg ∷ [])) ∙ reverse-append (map leg_of_code legs) (leg_of_code leg ∷ [])

pub length-legs_back : (legs : List Leg) → length (legs_back legs) ≡ length legs
length-legs_back legs = length-reverse (map leg_of_code legs) ∙ length-map legs leg_of_code

pub length-legs_of : (topology : TopologyView) (v : ℕ) (pins : ℕ → ℕ → ℕ) (tree : Tree) (k : ℕ) → length (legs_of topology v pins tree k) ≡ k
length-legs_of topology v pins tree zero = refl
length-legs_of topology v pins tree (suc k) = ap suc (length-legs_of topology v pins tree k)

-- a crossing adds at most 1,000,000
pub crossing_adds : (topology : TopologyView) → IsSound topology → (start segment pin : ℕ) → segment < length topology.segments
    → added_length (crossing_of topology start segment pin) ≤ 1000000
crossing_adds topology sound start segment pin within =
    elim (cases_Bool (is_coupler (segment_at topology segment).kind)) [
      | inl is ↦ rw is (through (eqb (segment_at topology segment).from start))
      | inr run ↦ rw run (sound.segments segment no_segment within).price_to
    ]
  where
    through : (b : Bool) → added_length (cond b (layout.Through segment pin 1 2) (layout.Through segment pin 2 1)) ≤ 1000000
    through true = omega arith
    through false = omega arith

-- what is so after k steps
pub record AreLed (topology : TopologyView) (v : ℕ) (pins : ℕ → ℕ → ℕ) (tree : Tree) (ordinals : List ℕ) (legs : List Leg) (k : ℕ) : Type 0 where
  pub segments : length ordinals ≡ length topology.segments
  pub counts : (s : ℕ) → s < length ordinals → get_or ordinals s 0 ≡ count_by (λ step. eqb step.segment s) (take k tree.steps)
  pub legs_are : legs_back legs ≡ legs_of topology v pins tree k
  pub within : AreLegs (legs_back legs)

pub led_first : (topology : TopologyView) (v : ℕ) (pins : ℕ → ℕ → ℕ) (tree : Tree) (ordinals : List ℕ) (legs : List Leg)
    → ordinals ≡ replicate (length topology.segments) 0 → legs ≡ [] → AreLed topology v pins tree ordinals legs 0
led_first topology v pins tree ordinals legs e none =
    let long : length ordinals ≡ length topology.segments = ap length e ∙ length-replicate (length topology.segments) 0 in
    record {
      segments = long;
      counts = λ s within. ap (λ (l : List ℕ). get_or l s 0) e ∙ get_or-replicate (length topology.segments) s 0 0 (omega arith);
      legs_are = ap legs_back none;
      within = subst (λ (l : List Leg). AreLegs (legs_back l)) (sym none) tt;
    }

pub ordinal_fits : (topology : TopologyView) (v : ℕ) (pins : ℕ → ℕ → ℕ) (tree : Tree) (ordinals : List ℕ) (legs : List Leg) (k s : ℕ)
    → AreLed topology v pins tree ordinals legs k → k ≤ length tree.steps → s < length ordinals → get_or ordinals s 0 ≤ k
ordinal_fits topology v pins tree ordinals legs k s led within there =
    omega (
      arith,
      led.counts s there,
      count_by-le-length (λ step. eqb step.segment s) (take k tree.steps),
      length-take-le k tree.steps within,
    )

module _ (topology : TopologyView) (v : ℕ) (pins : ℕ → ℕ → ℕ) (tree : Tree) (ordinals : List ℕ) (legs : List Leg) (k : ℕ)
    (led : AreLed topology v pins tree ordinals legs k) (more : k < length tree.steps)
    (there : (step_at tree k).segment < length topology.segments) where
  counted : (ordinal : ℕ) → ordinal ≡ get_or ordinals (step_at tree k).segment 0 + 1
      → ordinal ≡ count_by (λ step. eqb step.segment (step_at tree k).segment) (take (k + 1) tree.steps)
  counted ordinal e =
      let s = (step_at tree k).segment in
      omega (
        arith,
        e,
        led.counts s (omega (arith, led.segments, there)),
        count_by_more_yes (λ step. eqb step.segment s) tree.steps k no_step more (eq-eqb s s refl),
      )

  counts_more : (ordinal : ℕ) → ordinal ≡ get_or ordinals (step_at tree k).segment 0 + 1
      → (s : ℕ) → s < length ordinals
      → get_or (set ordinals (step_at tree k).segment ordinal) s 0 ≡ count_by (λ step. eqb step.segment s) (take (k + 1) tree.steps)
  counts_more ordinal e s within =
      let segment = (step_at tree k).segment in
      elim (cases_eq s segment) [
        | inl same ↦
            rw same (get_or-set_same ordinals segment ordinal 0 (omega (arith, led.segments, there)) ∙ counted ordinal e)
        | inr other ↦
            get_or-set_other ordinals segment s ordinal 0 other
            ∙ (led.counts s within
            ∙ sym (count_by_more_no (λ step. eqb step.segment s) tree.steps k no_step more (ne_eqb segment s (λ e. other (sym e)))))
      ]

  pub led_more : IsSound topology → (step_at tree k).parent ≤ k
      → (ordinal start : ℕ) → ordinal ≡ get_or ordinals (step_at tree k).segment 0 + 1
      → start ≡ place_of topology v tree (step_at tree k).parent
      → (leg : Leg) → leg.parent ≡ (step_at tree k).parent
      → crossing_of_code leg.crossing ≡ crossing_of topology start (step_at tree k).segment (pins (step_at tree k).segment ordinal)
      → (after : List ℕ) → after ≡ set ordinals (step_at tree k).segment ordinal
      → (longer : List Leg) → longer ≡ legs ++ leg ∷ []
      → AreLed topology v pins tree after longer (k + 1)
  led_more sound below ordinal start e at leg parent crosses after put longer pushed =
      let s = (step_at tree k).segment in
      let same_crossing : crossing_of_code leg.crossing ≡ (leg_of topology v pins tree k).crossing =
      crosses
      ∙ (ap (λ (n : ℕ). crossing_of topology n s (pins s ordinal)) at
      ∙ ap (λ (n : ℕ). crossing_of topology (place_of topology v tree (step_at tree k).parent) s (pins s n)) (counted ordinal e)) in
      let same_leg : leg_of_code leg ≡ leg_of topology v pins tree k = λ i. record { parent = parent i; crossing = same_crossing i } in
      let grown : legs_back longer ≡ leg_of_code leg ∷ legs_back legs = ap legs_back pushed ∙ legs_back-push legs leg in
      let long : length (legs_back legs) ≡ k = ap length led.legs_are ∙ length-legs_of topology v pins tree k in
      let next : suc k ≡ k + 1 = omega arith in
      let adds : added_length (crossing_of_code leg.crossing) ≤ 1000000 =
      subst (λ (x : layout.Crossing). added_length x ≤ 1000000) (sym crosses) (crossing_adds topology sound start s (pins s ordinal) there) in
      record {
        segments = ap length put ∙ (length-set ordinals s ordinal ∙ led.segments);
        counts = λ t within.
            ap (λ (l : List ℕ). get_or l t 0) put
            ∙ counts_more ordinal e t (omega (arith, within, ap length put, length-set ordinals s ordinal));
        legs_are =
            grown
            ∙ (ap (λ (x : layout.Leg). x ∷ legs_back legs) same_leg
            ∙ (ap (λ (l : List layout.Leg). leg_of topology v pins tree k ∷ l) led.legs_are
            ∙ ap (legs_of topology v pins tree) next));
        within = subst AreLegs (sym grown) (omega (arith, parent, below, long), adds, led.within);
      }
