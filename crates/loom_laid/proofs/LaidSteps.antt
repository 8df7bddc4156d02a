-- Live sets laid one after another.
use Rattle.std.proofs.Common.{◌≡◌, ℕ, ◌+◌, ◌<◌, ◌≤◌, List, [], ◌∷◌, ◌++◌, Option, length, map, get_or, take, sym, ap, subst, ◌∙◌, arith, inl, inr, Contains}
use Rattle.std.specs.List.{All}
use Rattle.std.specs.Option.{ForSome}
use Rattle.std.proofs.lemmas.Bool.{cases_lt}
use Rattle.std.proofs.lemmas.List.{get_or_default, map-append, take_more}
use Rattle.std.proofs.lemmas.List.Elements.{All-push}
use Rattle.loom_base.proofs.Contained.{Contains-map, Contains-from_map}
use Rattle.loom_base.specs.declared.positions.NetNo.{NetNo}
use Rattle.loom_layout.specs.declared.stop.LayoutStop.TheVariants as layout
use Rattle.loom_layout.specs.Stop.{StopIsDue}
use Rattle.loom_types.specs.declared.plan.TableLine.{TableLine}
use Rattle.loom_project.specs.declared.draft.Draft.{Draft}
use Rattle.loom_project.specs.Project.{net_topology, cavities_of}
use Rattle.loom_active.specs.declared.live.LiveSet.{LiveSet}
use Rattle.loom_active.specs.LiveSets.{IsLiveSet, IsListedBefore}
use Rattle.loom_laid.specs.declared.class_topology.ClassTopology.{ClassTopology}
use Rattle.loom_laid.specs.declared.laid_set.LaidSet.{LaidSet}
use Rattle.loom_laid.specs.declared.stop.LaidStop.{LaidStop}
use Rattle.loom_laid.specs.declared.stop.LaidStop.TheVariants.{TooManyCells, Unreachable, TooManySteps, NoMemory}
use Rattle.loom_laid.specs.Kept.{KeptTable, AreTrueOf, keys_of}
use Rattle.loom_laid.specs.LaidSets.{AreTheLiveSets, AreTables, IsLaid, live_of}
use Rattle.loom_laid.specs.LaidStops.{IsReached, AreAllReached, IsFirstUnreached}
use Rattle.loom_laid.specs.SetStops.{IsOfClass, IsSetStop, IsReachStop}
use Rattle.loom_laid.proofs.LiveNets.{set-there}

-- the first sets with their layouts
pub record LaidSoFar (draft : Draft) (tables : List TableLine) (sets : List LiveSet) (i : ℕ) (made : Option ClassTopology) (old now : List KeptTable)
    (laid : List LaidSet) : Type 0 where
  pub of_class : ForSome made (IsOfClass draft)
  pub holds : AreTrueOf draft now
  pub keys : keys_of now ≡ keys_of old
  pub same : map live_of laid ≡ take i sets
  pub each : All (IsLaid draft tables) laid
  pub reached : (k : ℕ) (d : LiveSet) → k < i → IsReached draft (get_or sets k d).net.0 (get_or sets k d).mask

pub laid-more : (draft : Draft) (tables : List TableLine) (sets : List LiveSet) (i : ℕ) (before after : Option ClassTopology)
    (old now next : List KeptTable) (laid more : List LaidSet) (one : LaidSet) (d : LiveSet) → LaidSoFar draft tables sets i before old now laid → i < length sets
    → ForSome after (IsOfClass draft) → AreTrueOf draft next → keys_of next ≡ keys_of now
    → more ≡ laid ++ one ∷ [] → live_of one ≡ get_or sets i d → IsLaid draft tables one
    → IsReached draft (get_or sets i d).net.0 (get_or sets i d).mask → LaidSoFar draft tables sets (i + 1) after old next more
laid-more draft tables sets i before after old now next laid more one d so_far lt made holds_next same_keys pushed is holds reached = record {
  of_class = made;
  holds = holds_next;
  keys = same_keys ∙ so_far.keys;
  same =
      ap (map live_of) pushed ∙ map-append live_of laid (one ∷ []) ∙ ap (λ l. l ++ live_of one ∷ []) so_far.same
      ∙ ap (λ s. take i sets ++ s ∷ []) is ∙ sym (take_more sets i d lt);
  each = subst (λ (l : List LaidSet). All (IsLaid draft tables) l) (sym pushed) (All-push (IsLaid draft tables) laid one so_far.each holds);
  reached = λ k e within. elim (cases_lt k i) [
    | inl earlier ↦ so_far.reached k e earlier
    | inr past ↦
        let here : k ≡ i = omega (arith, within, past) in
        let s : get_or sets i d ≡ get_or sets k e = get_or_default sets i d e lt ∙ ap (λ n. get_or sets n e) (sym here) in
        subst (λ (x : LiveSet). IsReached draft x.net.0 x.mask) s reached
  ];
}

pub reached-all : (draft : Draft) (tables : List TableLine) (sets : List LiveSet) (i : ℕ) (before : Option ClassTopology) (old now : List KeptTable) (laid : List LaidSet)
    → AreTheLiveSets draft sets → LaidSoFar draft tables sets i before old now laid → length sets ≤ i → AreAllReached draft
reached-all draft tables sets i before old now laid sound so_far whole net mask live =
    let found = sound.all net mask live in
    let set = found.0 in
    let at = found.1 in
    let within = at.1 in
    let there : IsReached draft (get_or sets at.0 set).net.0 (get_or sets at.0 set).mask = so_far.reached at.0 set (omega (arith, within, whole)) in
    let here : IsReached draft set.net.0 set.mask = subst (λ (s : LiveSet). IsReached draft s.net.0 s.mask) at.2 there in
    subst (λ (n : ℕ). IsReached draft n mask) found.2 (subst (λ (m : ℕ). IsReached draft set.net.0 m) found.3 here)

-- each live set's net has a line
pub has-line : (draft : Draft) (tables : List TableLine) (net : NetNo) (mask : ℕ) → AreTables draft tables → IsLiveSet draft net.0 mask
    → Contains (map (λ line. line.net) tables) net
has-line draft tables net mask sound live =
    let found = Contains-from_map (λ (line : TableLine). line.net.0) tables net.0 (sound.nets.all net.0 mask live) in
    let number : found.0.net.0 ≡ net.0 = found.2 in
    let same : found.0.net ≡ net = λ i. record { 0 = number i } in
    subst (Contains (map (λ (line : TableLine). line.net) tables)) same (Contains-map (λ (line : TableLine). line.net) tables found.0 found.1)

not-both : (a b c d : ℕ) → IsListedBefore a b c d → IsListedBefore c d a b → ⊥
not-both a b c d (inl one) (inl two) = omega (arith, one, two)
not-both a b c d (inl one) (inr two) = omega (arith, one, two.0)
not-both a b c d (inr one) (inl two) = omega (arith, one.0, two)
not-both a b c d (inr one) (inr two) = omega (arith, one.1, two.1)

-- where each set before it is reached, a set is the first that isn't
first-unreached : (draft : Draft) (sets : List LiveSet) (i : ℕ) (d : LiveSet) → AreTheLiveSets draft sets → i < length sets
    → ((k : ℕ) (e : LiveSet) → k < i → IsReached draft (get_or sets k e).net.0 (get_or sets k e).mask)
    → IsFirstUnreached draft (get_or sets i d).net.0 (get_or sets i d).mask
first-unreached draft sets i d sound lt reached = record {
  live = set-there draft sets i d sound lt;
  earlier = λ n m live before.
      let found = sound.all n m live in
      let set = found.0 in
      let at = found.1 in
      let net : set.net.0 ≡ n = found.2 in
      let mask : set.mask ≡ m = found.3 in
      let is : get_or sets at.0 set ≡ set = at.2 in
      let here : get_or sets i set ≡ get_or sets i d = get_or_default sets i set d lt in
      let set_before : IsListedBefore set.net.0 set.mask (get_or sets i set).net.0 (get_or sets i set).mask =
      subst (λ (s : LiveSet). IsListedBefore set.net.0 set.mask s.net.0 s.mask) (sym here)
      (subst (λ (k : ℕ). IsListedBefore k set.mask (get_or sets i d).net.0 (get_or sets i d).mask) (sym net)
      (subst (λ (k : ℕ). IsListedBefore n k (get_or sets i d).net.0 (get_or sets i d).mask) (sym mask) before)) in
      elim (cases_lt at.0 i) [
        | inl earlier ↦
            let there : IsReached draft set.net.0 set.mask = subst (λ (s : LiveSet). IsReached draft s.net.0 s.mask) is (reached at.0 set earlier) in
            subst (λ (k : ℕ). IsReached draft k m) net (subst (λ (k : ℕ). IsReached draft set.net.0 k) mask there)
        | inr past ↦
            absurd (elim (cases_lt i at.0) [
              | inl later ↦
                  let order : IsListedBefore (get_or sets i set).net.0 (get_or sets i set).mask (get_or sets at.0 set).net.0 (get_or sets at.0 set).mask =
                  sound.order i at.0 set later at.1 in
                  not-both set.net.0 set.mask (get_or sets i set).net.0 (get_or sets i set).mask set_before
                  (subst (λ (s : LiveSet). IsListedBefore (get_or sets i set).net.0 (get_or sets i set).mask s.net.0 s.mask) is order)
              | inr reversed ↦
                  let same : i ≡ at.0 = omega (arith, past, reversed) in
                  let own : get_or sets i set ≡ set = ap (λ k. get_or sets k set) same ∙ is in
                  let itself : IsListedBefore set.net.0 set.mask set.net.0 set.mask =
                  subst (λ (s : LiveSet). IsListedBefore set.net.0 set.mask s.net.0 s.mask) own set_before in
                  not-both set.net.0 set.mask set.net.0 set.mask itself itself
            ])
      ];
}

pub reach-stop : (draft : Draft) (sets : List LiveSet) (i : ℕ) (d : LiveSet) (stop : LaidStop) → AreTheLiveSets draft sets → i < length sets
    → ((k : ℕ) (e : LiveSet) → k < i → IsReached draft (get_or sets k e).net.0 (get_or sets k e).mask)
    → IsSetStop (net_topology draft (get_or sets i d).net.0) (cavities_of draft (get_or sets i d).net.0) (get_or sets i d).net (get_or sets i d).mask stop
    → IsReachStop draft stop
reach-stop draft sets i d TooManyCells sound lt reached due = due
reach-stop draft sets i d (Unreachable of cavity nodes) sound lt reached due =
    let set = get_or sets i d in
    let number : set.net.0 ≡ of.0 = ap (λ (n : NetNo). n.0) (sym due.0) in (
      set.mask,
      subst (λ (n : ℕ). IsFirstUnreached draft n set.mask) number (first-unreached draft sets i d sound lt reached),
      subst (λ (n : ℕ). StopIsDue (net_topology draft n) (cavities_of draft n) set.mask (layout.Unreachable cavity nodes)) number due.1,
    )
reach-stop draft sets i d TooManySteps sound lt reached due = due
reach-stop draft sets i d NoMemory sound lt reached due = tt
