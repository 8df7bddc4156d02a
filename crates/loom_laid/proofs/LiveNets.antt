-- The nets that have a live set, as they are found along the sets.
use Rattle.std.proofs.Common.{◌≡◌, ℕ, zero, suc, ◌+◌, ◌<◌, ◌≤◌, ◌⊎◌, List, [], ◌∷◌, ◌++◌, length, map, get_or, refl, sym, ap, subst, ◌∙◌, arith, inl, inr, Contains}
use Rattle.std.specs.List.{All}
use Rattle.std.specs.List.Sorted.{IsStrictlyIncreasing}
use Rattle.std.proofs.lemmas.Bool.{cases_lt}
use Rattle.std.proofs.lemmas.List.{get_or_default, map-append}
use Rattle.std.proofs.lemmas.List.Elements.{Contains-append_left, Contains-push, Contains-push_cases, Contains-get_or}
use Rattle.loom_base.proofs.Contained.{Contains-map}
use Rattle.loom_base.specs.declared.positions.NetNo.{NetNo}
use Rattle.loom_project.specs.declared.draft.Draft.{Draft}
use Rattle.loom_active.specs.declared.live.LiveSet.{LiveSet}
use Rattle.loom_active.specs.FoundSets.{ComesBefore}
use Rattle.loom_active.specs.LiveSets.{IsLiveSet}
use Rattle.loom_active.proofs.SetLemmas.{live-in_range}
use Rattle.loom_rows.specs.declared.cond.Cond.TheVariants.{Never}
use Rattle.loom_laid.specs.LaidSets.{AreTheLiveSets, AreLiveNets}

-- the nets of the first sets; each is below `past`, and the last one is just below
pub record NetsSoFar (draft : Draft) (sets : List LiveSet) (i past : ℕ) (nets : List ℕ) : Type 0 where
  pub rising : IsStrictlyIncreasing nets
  pub below : (net : ℕ) → Contains nets net → net < past
  pub each : (net : ℕ) → Contains nets net → (mask : ℕ) × IsLiveSet draft net mask
  pub all : (k : ℕ) (d : LiveSet) → k < i → Contains nets (get_or sets k d).net.0
  pub last : (past ≡ 0) ⊎ ((k : ℕ) × ((d : LiveSet) → k < i → (get_or sets k d).net.0 + 1 ≡ past) × (k < i))
  pub few : length nets ≤ i

after : (k : ℕ) → suc k + 1 ≡ suc (k + 1)
after k = omega arith

rising-push : (nets : List ℕ) (net : ℕ) → IsStrictlyIncreasing nets → ((other : ℕ) → Contains nets other → other < net) → IsStrictlyIncreasing (nets ++ net ∷ [])
rising-push [] net rising below k lt = absurd (omega (arith, lt))
rising-push (x ∷ []) net rising below zero lt = below x (0, omega arith, refl)
rising-push (x ∷ []) net rising below (suc k) lt = absurd (omega (arith, lt))
rising-push (x ∷ y ∷ nets) net rising below zero lt = rising 0 (omega arith)
rising-push (x ∷ y ∷ nets) net rising below (suc k) lt =
    let later : IsStrictlyIncreasing (y ∷ nets) =
    λ j within. subst (λ (n : ℕ). get_or (y ∷ nets) j 0 < get_or (x ∷ y ∷ nets) n 0) (after j) (rising (suc j) (omega (arith, within))) in
    let rest = rising-push (y ∷ nets) net later
    (λ other at. below other (suc at.0, (let l = at.1 in omega (arith, l)), at.2)) k (omega (arith, lt)) in
    subst (λ (n : ℕ). get_or ((y ∷ nets) ++ net ∷ []) k 0 < get_or ((x ∷ y ∷ nets) ++ net ∷ []) n 0) (sym (after k)) rest

-- a set of a net past the last one adds its net
nets-more : (draft : Draft) (sets : List LiveSet) (i past : ℕ) (nets : List ℕ) (set : LiveSet) → AreTheLiveSets draft sets
    → NetsSoFar draft sets i past nets → i < length sets → ((d : LiveSet) → get_or sets i d ≡ set) → past ≤ set.net.0
    → NetsSoFar draft sets (i + 1) (set.net.0 + 1) (nets ++ set.net.0 ∷ [])
nets-more draft sets i past nets set sound so_far lt is le =
    let live : IsLiveSet draft set.net.0 set.mask = sound.each set (i, lt, is set) in
    record {
      rising = rising-push nets set.net.0 so_far.rising (λ other at. let b = so_far.below other at in omega (arith, b, le));
      below = λ net at. elim (Contains-push_cases nets set.net.0 net at) [
        | inl earlier ↦ (let b = so_far.below net earlier in omega (arith, b, le))
        | inr same ↦ omega (arith, same)
      ];
      each = λ net at. elim (Contains-push_cases nets set.net.0 net at) [
        | inl earlier ↦ so_far.each net earlier
        | inr same ↦ (set.mask, subst (λ (n : ℕ). IsLiveSet draft n set.mask) same live)
      ];
      all = λ k d below. elim (cases_lt k i) [
        | inl earlier ↦ Contains-append_left nets (set.net.0 ∷ []) (get_or sets k d).net.0 (so_far.all k d earlier)
        | inr past' ↦
            let same : k ≡ i = omega (arith, below, past') in
            let e : get_or sets k d ≡ set = ap (λ n. get_or sets n d) same ∙ is d in
            subst (λ (s : LiveSet). Contains (nets ++ set.net.0 ∷ []) s.net.0) (sym e) (Contains-push nets set.net.0)
      ];
      last = inr (i, (λ d below. ap (λ (s : LiveSet). s.net.0 + 1) (is d)), omega arith);
      few = let f = so_far.few in omega (arith, f, length-push nets set.net.0);
    }
  where
    length-push : (xs : List ℕ) (x : ℕ) → length (xs ++ x ∷ []) ≡ length xs + 1
    length-push [] x = refl
    length-push (y ∷ xs) x = omega (arith, length-push xs x)

-- a set of a net below `past` is of the last net
nets-same : (draft : Draft) (sets : List LiveSet) (i past : ℕ) (nets : List ℕ) (set : LiveSet) → AreTheLiveSets draft sets
    → NetsSoFar draft sets i past nets → i < length sets → ((d : LiveSet) → get_or sets i d ≡ set) → set.net.0 < past
    → NetsSoFar draft sets (i + 1) past nets
nets-same draft sets i past nets set sound so_far lt is below =
    let here : Contains nets set.net.0 =
    elim so_far.last [
      | inl none ↦ absurd (omega (arith, none, below))
      | inr there ↦
          let k = there.0 in
          let earlier : k < i = there.2 in
          let e : (get_or sets k set).net.0 + 1 ≡ past = there.1 set earlier in
          let order : ComesBefore (get_or sets k set) (get_or sets i set) = sound.order k i set earlier lt in
          let not_after : (get_or sets k set).net.0 ≤ set.net.0 = net-order (get_or sets k set) (get_or sets i set) set.net.0 order (ap (λ (s : LiveSet). s.net.0) (is set)) in
          let same : (get_or sets k set).net.0 ≡ set.net.0 = omega (arith, e, below, not_after) in
          subst (Contains nets) same (so_far.all k set earlier)
    ] in
    record {
      rising = so_far.rising;
      below = so_far.below;
      each = so_far.each;
      all = λ k d within. elim (cases_lt k i) [
        | inl earlier ↦ so_far.all k d earlier
        | inr past' ↦
            let same : k ≡ i = omega (arith, within, past') in
            let e : get_or sets k d ≡ set = ap (λ n. get_or sets n d) same ∙ is d in
            subst (λ (s : LiveSet). Contains nets s.net.0) (sym e) here
      ];
      last = elim so_far.last as (λ _. (past ≡ 0) ⊎ ((k : ℕ) × ((d : LiveSet) → k < i + 1 → (get_or sets k d).net.0 + 1 ≡ past) × (k < i + 1))) [
        | inl none ↦ inl none
        | inr there ↦ inr (there.0, (λ d within. there.1 d there.2), (let l = there.2 in omega (arith, l)))
      ];
      few = let f = so_far.few in omega (arith, f);
    }
  where
    net-order : (one other : LiveSet) (net : ℕ) → ComesBefore one other → other.net.0 ≡ net → one.net.0 ≤ net
    net-order one other net (inl lower) e = omega (arith, lower, e)
    net-order one other net (inr (same, lower)) e = omega (arith, same, e)

-- at the end they are the nets that have a live set
pub nets-all : (draft : Draft) (sets : List LiveSet) (i past : ℕ) (nets : List ℕ) → AreTheLiveSets draft sets → NetsSoFar draft sets i past nets
    → length sets ≤ i → AreLiveNets draft nets
nets-all draft sets i past nets sound so_far whole = record {
  rising = so_far.rising;
  each = so_far.each;
  all = λ net mask live.
      let found = sound.all net mask live in
      let set = found.0 in
      let at = found.1 in
      let within = at.1 in
      let there : Contains nets (get_or sets at.0 set).net.0 = so_far.all at.0 set (omega (arith, within, whole)) in
      subst (Contains nets) found.2 (subst (λ (s : LiveSet). Contains nets s.net.0) at.2 there);
}

-- the same, of the positions of nets
pub nets-live : (draft : Draft) (sets : List LiveSet) (i past : ℕ) (nets : List NetNo) → NetsSoFar draft sets i past (map (λ net. net.0) nets)
    → All (λ net. (mask : ℕ) × IsLiveSet draft net.0 mask) nets
nets-live draft sets i past nets so_far k d lt =
    so_far.each (get_or nets k d).0 (Contains-map (λ (net : NetNo). net.0) nets (get_or nets k d) (Contains-get_or nets k d lt))

pub nets-in_range : (draft : Draft) (sets : List LiveSet) (i past : ℕ) (nets : List NetNo) → NetsSoFar draft sets i past (map (λ net. net.0) nets)
    → All (λ net. net.0 < length draft.nets) nets
nets-in_range draft sets i past nets so_far k d lt =
    let live = nets-live draft sets i past nets so_far k d lt in live-in_range draft (get_or nets k d).0 live.0 live.1

nets-pushed : (nets pushed : List NetNo) (net : NetNo) → pushed ≡ nets ++ net ∷ []
    → map (λ n. n.0) pushed ≡ map (λ n. n.0) nets ++ net.0 ∷ []
nets-pushed nets pushed net e = ap (map (λ (n : NetNo). n.0)) e ∙ map-append (λ (n : NetNo). n.0) nets (net ∷ [])

abbrev pub no_set : LiveSet
no_set = record { net = record { 0 = 0 }; mask = 0; cond = Never }

pub set-there : (draft : Draft) (sets : List LiveSet) (i : ℕ) (d : LiveSet) → AreTheLiveSets draft sets → i < length sets
    → IsLiveSet draft (get_or sets i d).net.0 (get_or sets i d).mask
set-there draft sets i d sound lt = sound.each (get_or sets i d) (Contains-get_or sets i d lt)

pub net-in_range : (draft : Draft) (sets : List LiveSet) (i : ℕ) (d : LiveSet) → AreTheLiveSets draft sets → i < length sets
    → (get_or sets i d).net.0 < length draft.nets
net-in_range draft sets i d sound lt = live-in_range draft (get_or sets i d).net.0 (get_or sets i d).mask (set-there draft sets i d sound lt)

pub nets-then : (draft : Draft) (sets : List LiveSet) (i past next : ℕ) (nets pushed : List NetNo) (d : LiveSet) → AreTheLiveSets draft sets
    → NetsSoFar draft sets i past (map (λ net. net.0) nets) → i < length sets → past ≤ (get_or sets i d).net.0
    → pushed ≡ nets ++ (get_or sets i d).net ∷ [] → next ≡ (get_or sets i d).net.0 + 1
    → NetsSoFar draft sets (i + 1) next (map (λ net. net.0) pushed)
nets-then draft sets i past next nets pushed d sound so_far lt le e f =
    subst (λ (n : ℕ). NetsSoFar draft sets (i + 1) n (map (λ net. net.0) pushed)) (sym f)
    (subst (λ (l : List ℕ). NetsSoFar draft sets (i + 1) ((get_or sets i d).net.0 + 1) l) (sym (nets-pushed nets pushed (get_or sets i d).net e))
    (nets-more draft sets i past (map (λ net. net.0) nets) (get_or sets i d) sound so_far lt (λ other. get_or_default sets i other d lt) le))

pub nets-else : (draft : Draft) (sets : List LiveSet) (i past next : ℕ) (nets kept : List NetNo) (d : LiveSet) → AreTheLiveSets draft sets
    → NetsSoFar draft sets i past (map (λ net. net.0) nets) → i < length sets → (get_or sets i d).net.0 < past
    → kept ≡ nets → next ≡ past → NetsSoFar draft sets (i + 1) next (map (λ net. net.0) kept)
nets-else draft sets i past next nets kept d sound so_far lt below e f =
    subst (λ (n : ℕ). NetsSoFar draft sets (i + 1) n (map (λ net. net.0) kept)) (sym f)
    (subst (λ (l : List NetNo). NetsSoFar draft sets (i + 1) past (map (λ net. net.0) l)) (sym e)
    (nets-same draft sets i past (map (λ net. net.0) nets) (get_or sets i d) sound so_far lt (λ other. get_or_default sets i other d lt) below))
