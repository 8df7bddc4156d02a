-- What is kept, and under which keys.
use Rattle.std.proofs.Common.{◌≡◌, ◌≢◌, ℕ, ◌^◌, ◌<◌, ◌↔◌, List, [], length, map, get_or, sym, ap, subst, ◌∙◌, arith, Contains, inl, inr, Result, Ok, Err, IsErr, OnOk, OnErr}
use Rattle.std.specs.List.{All}
use Rattle.loom_base.specs.declared.positions.NetNo.{NetNo}
use Rattle.loom_base.proofs.Contained.{Contains-map, Contains-from_map}
use Rattle.loom_project.specs.declared.draft.Draft.{Draft}
use Rattle.loom_types.specs.declared.plan.TableLine.{TableLine}
use Rattle.loom_types.specs.declared.stop.PlanStop.{PlanStop}
use Rattle.loom_active.specs.LiveSets.{IsLiveSet}
use Rattle.loom_active.proofs.Pairs.{at_index, pairs-none}
use Rattle.loom_active.proofs.SetLemmas.{live-in_range}
use Rattle.loom_laid.specs.Kept.{KeptTable, keys_of, key_of, IsLiveKey, HasLiveKeys, KeepsLiveKeys, KeepsAll, RisesByNewKeys}
use Rattle.loom_laid.specs.LaidSets.{AreTables}

-- nothing came and nothing went
pub keeps-itself : (draft : Draft) (kept : List KeptTable) → KeepsAll draft kept kept
keeps-itself draft kept = record { all = λ key has. has; only = λ key has. inl has }

-- where the keys didn't go, all is kept
pub keeps_after_err : {A E F : Type 0} (draft : Draft) (old middle new : List KeptTable) (drop : Result A E) (r : Result F PlanStop) → IsErr drop
    → OnErr drop (new ≡ middle) → KeepsAll draft old middle → OnErr r (KeepsAll draft old new)
keeps_after_err draft old middle new (Ok x) r err same keeps = absurd (cc)
keeps_after_err draft old middle new (Err e) (Ok y) err same keeps = tt
keeps_after_err draft old middle new (Err e) (Err stop) err same keeps = subst (KeepsAll draft old) (sym same) keeps

-- the nets of the tables are those that have a live set
module _ (draft : Draft) (tables : List TableLine) (are : AreTables draft tables) (nets : List NetNo) (nets_are : nets ≡ map (λ line. line.net) tables) where
  net_is_live : (net : NetNo) → Contains nets net → (mask : ℕ) × IsLiveSet draft net.0 mask
  net_is_live net at =
      let (line, has, e) = Contains-from_map (λ (l : TableLine). l.net) tables net (subst (λ (l : List NetNo). Contains l net) nets_are at) in
      let (mask, live) = are.nets.each line.net.0 (Contains-map (λ (l : TableLine). l.net.0) tables line has) in
      (mask, subst (λ (n : NetNo). IsLiveSet draft n.0 mask) e live)

  live_has_net : (net mask : ℕ) → IsLiveSet draft net mask → (n : NetNo) × Contains nets n × (n.0 ≡ net)
  live_has_net net mask live =
      let (line, has, e) = Contains-from_map (λ (l : TableLine). l.net.0) tables net (are.nets.all net mask live) in
      (line.net, subst (λ (l : List NetNo). Contains l line.net) (sym nets_are) (Contains-map (λ (l : TableLine). l.net) tables line has), e)

  pub nets_within : All (λ net. net.0 < length draft.nets) nets
  nets_within = λ k d lt.
      let (mask, live) = net_is_live (get_or nets k d) (at_index nets k d lt) in
      live-in_range draft (get_or nets k d).0 mask live

  -- what is kept under the keys of these nets alone is kept under the live keys
  pub keeps_live : (old new : List KeptTable) → HasLiveKeys draft old
      → ((key : List ℕ × List ℕ) → Contains (keys_of new) key
      ↔ (Contains (keys_of old) key × ((net : NetNo) × Contains nets net × (key ≡ key_of draft net.0))))
      → KeepsLiveKeys draft new
  keeps_live old new has keeps key = (to, back)
    where
      to : Contains (keys_of new) key → IsLiveKey draft key
      to at =
          let (before, (net, listed, e)) = (keeps key).0 at in
          let (mask, live) = net_is_live net listed in
          (net.0, mask, live, e)

      back : IsLiveKey draft key → Contains (keys_of new) key
      back (net, mask, live, e) =
          let (n, listed, is) = live_has_net net mask live in
          (keeps key).1 (
            subst (Contains (keys_of old)) (sym e) (has net mask live),
            (n, listed, e ∙ ap (key_of draft) (sym is)),
          )

-- ---- how many keys are new

-- nothing came
pub rises-by_none : (kept : List KeptTable) (count : ℕ) → count < 2 ^ 64 → RisesByNewKeys kept kept count count
rises-by_none kept count few = record {
  keys = [];
  are_new = record {
    different = pairs-none (λ (one other : List ℕ × List ℕ). one ≢ other);
    are_new = λ key. ((λ at. absurd (omega (arith, at.1))), (λ (has, lacks). absurd (lacks has)));
  };
  count = omega (arith, few);
}

-- keys that go at last were there before, so that as many are new as after the laying
pub rises-after_drop : (draft : Draft) (old middle new : List KeptTable) (before after : ℕ) → KeepsAll draft old middle → HasLiveKeys draft middle
    → KeepsLiveKeys draft new → RisesByNewKeys old middle before after → RisesByNewKeys old new before after
rises-after_drop draft old middle new before after keeps has live rises = record {
  keys = rises.keys;
  are_new = record {
    different = rises.are_new.different;
    are_new = λ key. (
      (λ at.
          let (in_middle, lacks) = (rises.are_new.are_new key).0 at in
          (elim (keeps.only key in_middle) [ inl was ↦ absurd (lacks was) | inr is_live ↦ (live key).1 is_live ], lacks)),
      (λ (in_new, lacks).
          let (net, mask, set, e) = (live key).0 in_new in
          (rises.are_new.are_new key).1 (subst (Contains (keys_of middle)) (sym e) (has net mask set), lacks)),
    );
  };
  count = rises.count;
}

-- where the keys didn't go, as many are new
pub rises_after_err : {A E : Type 0} (old middle new : List KeptTable) (before after : ℕ) (drop : Result A E) → IsErr drop
    → OnErr drop (new ≡ middle) → RisesByNewKeys old middle before after → RisesByNewKeys old new before after
rises_after_err old middle new before after (Ok x) err same rises = absurd (cc)
rises_after_err old middle new before after (Err e) err same rises = subst (λ (k : List KeptTable). RisesByNewKeys old k before after) (sym same) rises

-- what holds of an answer holds where there is one
pub on_answer : {A E : Type 0} (P : Type 0) (r : Result A E) (x : A) → r ≡ Ok x → OnOk r P → P
on_answer {A} {E} P r x e told = subst (λ (s : Result A E). OnOk s P) e told
