-- The walk over the legs of a layout, leg by leg.
use Rattle.std.proofs.Common.{◌≡◌, ℕ, suc, ◌+◌, ◌-◌, ◌*◌, ◌≤◌, Some, List, [], ◌∷◌, ◌++◌, length, get_or, sym, ap, subst, ◌∙◌, arith, append_assoc}
use Rattle.std.specs.List.{All}
use Rattle.std.proofs.lemmas.List.{get_or_append_left, get_or_push, length-set, length_push}
use Rattle.std.proofs.lemmas.List.Elements.{All-head, All-weaker, All-pop}
use Rattle.loom_types.specs.declared.wire.End.{End}
use Rattle.loom_types.specs.declared.wire.Wire.{Wire}
use Rattle.loom_types.specs.LayoutWires.{Thread, Hung, Leg, Crossing, Over, Through, cut, crossed, finished, hung_after, led, spliced, thread_up, threads_at, threads_elsewhere}
use Rattle.loom_audit.specs.Threads.{AreHung, AreSplices, AreShort, AreLegs, added_length, with_thread}
use Rattle.loom_audit.proofs.HungSteps.{elsewhere, hung_more, short_more}

-- the threads that are hung make the wires that are left
pub record IsLeft (net : ℕ) (stem : End) (splice : ℕ → End) (stacks : List (List Thread)) (legs : List Leg) (wires total : List Wire) : Type 0 where
  pub hung : List Hung
  pub at : AreHung hung stacks
  pub rest : wires ++ cut net splice stem hung legs ≡ total

-- what is so once the legs before these were taken
pub record Goes (net : ℕ) (stem : End) (ends : List End) (start : List (List Thread)) (all : List Leg)
    (stacks : List (List Thread)) (legs : List Leg) (wires : List Wire) : Type 0 where
  pub points : length stacks ≡ length legs + 1
  pub names : length ends ≡ length all + 1
  pub legs_are : AreLegs legs
  pub fewer : length legs ≤ length all
  pub short : AreShort (1000000 * (length all - length legs)) stacks
  pub whole : (splice : ℕ → End) (hung : List Hung) → AreSplices splice ends → AreHung hung start
      → IsLeft net stem splice stacks legs wires (cut net splice stem hung all)

pub goes_first : (net : ℕ) (stem : End) (ends : List End) (start : List (List Thread)) (all : List Leg) (wires : List Wire)
    → length start ≡ length all + 1 → length ends ≡ length all + 1 → AreLegs all → AreShort 0 start → wires ≡ []
    → Goes net stem ends start all start all wires
goes_first net stem ends start all wires points names legs short none =
    let nothing : 0 ≡ 1000000 * (length all - length all) = omega arith in
    record {
      points = points;
      names = names;
      legs_are = legs;
      fewer = omega arith;
      short = subst (λ (n : ℕ). AreShort n start) nothing short;
      whole = λ splice hung named at. record { hung = hung; at = at; rest = ap (λ (l : List Wire). l ++ cut net splice stem hung all) none };
    }

-- ---- lengths

thread_up-short : (limit : ℕ) (splice : End) (threads : List Thread) → All (λ thread. thread.length ≤ limit) threads
    → (thread_up splice threads).length ≤ limit
thread_up-short limit splice [] h = omega arith
thread_up-short limit splice (thread ∷ []) h = All-head (λ thread. thread.length ≤ limit) thread [] h
thread_up-short limit splice (thread ∷ other ∷ threads) h = omega arith

led-short : (limit : ℕ) (thread : Thread) (crossing : Crossing) → thread.length ≤ limit → added_length crossing ≤ 1000000
    → (led thread crossing).length ≤ limit + 1000000
led-short limit thread (Over segment length) h g = omega arith
led-short limit thread (Through coupler pin near far) h g = omega arith

shorter : (limit more : ℕ) (stacks : List (List Thread)) → limit ≤ more → AreShort limit stacks → AreShort more stacks
shorter limit more stacks le short =
    All-weaker (All (λ thread. thread.length ≤ limit)) (All (λ thread. thread.length ≤ more))
    (λ threads h. All-weaker (λ thread. thread.length ≤ limit) (λ thread. thread.length ≤ more) (λ thread small. omega arith) threads h) stacks short

-- ---- a leg

module _ (net : ℕ) (stem : End) (ends : List End) (start : List (List Thread)) (all : List Leg)
    (stacks under : List (List Thread)) (here : List Thread) (legs : List Leg) (wires : List Wire)
    (goes : Goes net stem ends start all stacks legs wires) (popped : stacks ≡ under ++ here ∷ []) where
  pub under_is : length under ≡ length legs
  under_is = omega (arith, goes.points, ap length popped, length_push under here)

  parts_short : All (All (λ thread. thread.length ≤ 1000000 * (length all - length legs))) under × All (λ thread. thread.length ≤ 1000000 * (length all - length legs)) here
  parts_short =
      All-pop (All (λ thread. thread.length ≤ 1000000 * (length all - length legs))) stacks under (Some here) popped goes.short

  pub up_short : (splice : End) (up : Thread) → up ≡ thread_up splice here → up.length ≤ 1000000 * (length all - length legs)
  up_short splice up e =
      subst (λ (t : Thread). t.length ≤ 1000000 * (length all - length legs)) (sym e)
      (thread_up-short (1000000 * (length all - length legs)) splice here parts_short.1)

  here_is : (hung : List Hung) → AreHung hung stacks → here ≡ threads_at (length legs) hung
  here_is hung at =
      sym (get_or_push under here [] (length legs) under_is)
      ∙ (ap (λ (l : List (List Thread)). get_or l (length legs) []) (sym popped) ∙ at (length legs) (omega (arith, goes.points)))

  name_is : (splice : ℕ → End) → AreSplices splice ends → (name : End) → name ≡ get_or ends (length under) name → name ≡ splice (length legs)
  name_is splice named name e =
      e
      ∙ (ap (λ (k : ℕ). get_or ends k name) under_is
      ∙ named (length legs) name (omega (arith, goes.names, goes.fewer)))

  under_hung : (hung : List Hung) → AreHung hung stacks → AreHung (threads_elsewhere (length legs) hung) under
  under_hung hung at q below =
      sym (get_or_append_left under (here ∷ []) [] q below)
      ∙ (ap (λ (l : List (List Thread)). get_or l q []) (sym popped)
      ∙ (at q (omega (arith, goes.points, under_is, below))
      ∙ sym (elsewhere (length legs) q (λ e. absurd (omega (arith, e, under_is, below))) hung)))

regroup : (a b c d : List Wire) → ((a ++ b) ++ c) ++ d ≡ a ++ (b ++ (c ++ d))
regroup a b c d = append_assoc (a ++ b) c d ∙ append_assoc a b (c ++ d)

module _ (net : ℕ) (stem : End) (ends : List End) (start : List (List Thread)) (all : List Leg)
    (stacks under : List (List Thread)) (here : List Thread) (leg : Leg) (legs : List Leg) (wires : List Wire)
    (goes : Goes net stem ends start all stacks (leg ∷ legs) wires) (popped : stacks ≡ under ++ here ∷ [])
    (name : End) (name_at : name ≡ get_or ends (length under) name)
    (joined : List Wire) (joins : joined ≡ wires ++ spliced net name here)
    (up : Thread) (up_at : up ≡ thread_up name here)
    (longer : List Wire) (crosses : longer ≡ joined ++ crossed net up leg.crossing)
    (after : Thread) (after_at : after ≡ led up leg.crossing)
    (later : List (List Thread)) (hangs : later ≡ with_thread under leg.parent after) where
  pub goes_on : Goes net stem ends start all later legs longer
  goes_on =
      let long : length under ≡ suc (length legs) = under_is net stem ends start all stacks under here (leg ∷ legs) wires goes popped in
      let same_length : length later ≡ length under = ap length hangs ∙ length-set under leg.parent (after ∷ get_or under leg.parent []) in
      let limit = 1000000 * (length all - suc (length legs)) in
      let step : limit + 1000000 ≤ 1000000 * (length all - length legs) = omega (arith, goes.fewer) in
      let parts = parts_short net stem ends start all stacks under here (leg ∷ legs) wires goes popped in
      let after_short : after.length ≤ limit + 1000000 =
      subst (λ (t : Thread). t.length ≤ limit + 1000000) (sym after_at)
      (led-short limit up leg.crossing (up_short net stem ends start all stacks under here (leg ∷ legs) wires goes popped name up up_at) goes.legs_are.1) in
      record {
        points = omega (arith, long, same_length);
        names = goes.names;
        legs_are = goes.legs_are.2;
        fewer = omega (arith, goes.fewer);
        short = subst (AreShort (1000000 * (length all - length legs))) (sym hangs)
            (short_more (1000000 * (length all - length legs)) under leg.parent after (omega (arith, long, goes.legs_are.0)) (omega arith)
            (shorter limit (1000000 * (length all - length legs)) under (omega arith) parts.0));
        whole = λ splice hung named at.
            let left = goes.whole splice hung named at in
            let p = suc (length legs) in
            let name' : name ≡ splice p = name_is net stem ends start all stacks under here (leg ∷ legs) wires goes popped splice named name name_at in
            let here' : here ≡ threads_at p left.hung = here_is net stem ends start all stacks under here (leg ∷ legs) wires goes popped left.hung left.at in
            let up' : up ≡ thread_up (splice p) (threads_at p left.hung) =
            up_at ∙ (ap (λ (e : End). thread_up e here) name' ∙ ap (thread_up (splice p)) here') in
            let after' : after ≡ led (thread_up (splice p) (threads_at p left.hung)) leg.crossing =
            after_at ∙ ap (λ (t : Thread). led t leg.crossing) up' in
            let joined' : joined ≡ wires ++ spliced net (splice p) (threads_at p left.hung) =
            joins
            ∙ (ap (λ (e : End). wires ++ spliced net e here) name'
            ∙ ap (λ (l : List Thread). wires ++ spliced net (splice p) l) here') in
            let longer' : longer ≡ (wires ++ spliced net (splice p) (threads_at p left.hung)) ++ crossed net (thread_up (splice p) (threads_at p left.hung)) leg.crossing =
            crosses
            ∙ (ap (λ (l : List Wire). l ++ crossed net up leg.crossing) joined'
            ∙ ap (λ (t : Thread). (wires ++ spliced net (splice p) (threads_at p left.hung)) ++ crossed net t leg.crossing) up') in
            record {
              hung = hung_after (splice p) p leg left.hung;
              at = subst (AreHung (hung_after (splice p) p leg left.hung))
                  (ap (λ (t : Thread). with_thread under leg.parent t) (sym after') ∙ sym hangs)
                  (hung_more (threads_elsewhere p left.hung) under leg.parent (led (thread_up (splice p) (threads_at p left.hung)) leg.crossing)
                  (omega (arith, long, goes.legs_are.0))
                  (under_hung net stem ends start all stacks under here (leg ∷ legs) wires goes popped left.hung left.at));
              rest =
                  ap (λ (l : List Wire). l ++ cut net splice stem (hung_after (splice p) p leg left.hung) legs) longer'
                  ∙ (regroup wires (spliced net (splice p) (threads_at p left.hung))
                  (crossed net (thread_up (splice p) (threads_at p left.hung)) leg.crossing)
                  (cut net splice stem (hung_after (splice p) p leg left.hung) legs)
                  ∙ left.rest);
            };
      }

-- ---- the end

pub goes_home : (net : ℕ) (stem : End) (ends : List End) (start : List (List Thread)) (all : List Leg)
    (stacks under : List (List Thread)) (here : List Thread) (wires : List Wire)
    → Goes net stem ends start all stacks [] wires → stacks ≡ under ++ here ∷ []
    → (name : End) → name ≡ get_or ends 0 name
    → (joined : List Wire) → joined ≡ wires ++ spliced net name here
    → (up : Thread) → up ≡ thread_up name here
    → (longer : List Wire) → longer ≡ joined ++ finished net up stem ∷ []
    → (splice : ℕ → End) (hung : List Hung) → AreSplices splice ends → AreHung hung start
    → longer ≡ cut net splice stem hung all
goes_home net stem ends start all stacks under here wires goes popped name name_at joined joins up up_at longer ended splice hung named at =
    let left = goes.whole splice hung named at in
    let none : length under ≡ 0 = under_is net stem ends start all stacks under here [] wires goes popped in
    let name' : name ≡ splice 0 =
    name_is net stem ends start all stacks under here [] wires goes popped splice named name
    (name_at ∙ ap (λ (k : ℕ). get_or ends k name) (sym none)) in
    let here' : here ≡ threads_at 0 left.hung = here_is net stem ends start all stacks under here [] wires goes popped left.hung left.at in
    let up' : up ≡ thread_up (splice 0) (threads_at 0 left.hung) =
    up_at ∙ (ap (λ (e : End). thread_up e here) name' ∙ ap (thread_up (splice 0)) here') in
    let joined' : joined ≡ wires ++ spliced net (splice 0) (threads_at 0 left.hung) =
    joins
    ∙ (ap (λ (e : End). wires ++ spliced net e here) name'
    ∙ ap (λ (l : List Thread). wires ++ spliced net (splice 0) l) here') in
    ended
    ∙ (ap (λ (l : List Wire). l ++ finished net up stem ∷ []) joined'
    ∙ (ap (λ (t : Thread). (wires ++ spliced net (splice 0) (threads_at 0 left.hung)) ++ finished net t stem ∷ []) up'
    ∙ (append_assoc wires (spliced net (splice 0) (threads_at 0 left.hung)) (finished net (thread_up (splice 0) (threads_at 0 left.hung)) stem ∷ [])
    ∙ left.rest)))
