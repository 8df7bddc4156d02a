-- The usages of slots are worked out, slot by slot.
use Rattle.std.proofs.Common.{◌≡◌, List, [], ◌∷◌, ◌++◌, map, refl, sym, ap, subst, ◌∙◌, Ok, Err, append-nil, append_assoc}
use Rattle.std.specs.List.{All, Contains, flat_map}
use Rattle.std.proofs.lemmas.List.{map-append}
use Rattle.std.proofs.lemmas.List.Concat.{flat_map-append}
use Rattle.std.proofs.lemmas.List.Elements.{All-nil, All-push, All-weaker, All-contains, Contains-push, Contains-append_left}
use Rattle.loom_rows.specs.declared.cond.Cond.{Cond}
use Rattle.loom_rows.specs.declared.stop.RowsStop.{RowsStop}
use Rattle.loom_rows.specs.declared.stop.RowsStop.TheVariants.{NoMemory}
use Rattle.loom_rows.specs.Condition.{Meaning, value}
use Rattle.loom_rows.specs.Table.{Table, Has, IsSound}
use Rattle.loom_rows.specs.Disjunction.{some_hold}
use Rattle.loom_rows.specs.Leftovers.{AreSame, Works}
use Rattle.loom_rows.specs.Printing.{AreHad}
use Rattle.loom_rows.proofs.Conditions.{same}
use Rattle.loom_rows.proofs.Outcomes.{keeps}
use Rattle.loom_rows.proofs.Progress.{Progress, progress-none, progress-step, progress-done, progress-stop, progress-no_memory}
use Rattle.loom_pins.specs.declared.slot.Slot.{Slot}
use Rattle.loom_plan.specs.Work.{slot_at}
use Rattle.loom_plan.specs.SlotUsers.{Key, slot_of_key, usage_worked, AreJoined}

abbrev pub Entry : Type 0
Entry = Key × List Cond

-- so many slots have their usages, and the rest is left
pub record UsagesSoFar (entries rest : List Entry) (old t : Table) (used : List Slot) : Type 0 where
  pub done : List Entry
  pub split : entries ≡ done ++ rest
  pub progress : Progress (flat_map usage_worked done) old t
  pub joined : AreJoined done used
  pub has : All (λ slot. Has t slot.usage) used

pub usages-init : (entries : List Entry) (t : Table) → IsSound t → UsagesSoFar entries entries t t []
usages-init entries t sound = record {
  done = [];
  split = refl;
  progress = progress-none t sound;
  joined = record { slots = refl; usages = refl };
  has = All-nil (λ slot. Has t slot.usage);
}

module _ (entries rest later : List Entry) (old t : Table) (used : List Slot) (so : UsagesSoFar entries rest old t used) (e : Entry) (is : rest ≡ e ∷ later) where
  whole : entries ≡ (so.done ++ e ∷ []) ++ later
  whole = so.split ∙ ap (λ l. so.done ++ l) is ∙ sym (append_assoc so.done (e ∷ []) later)

  worked-more : flat_map usage_worked (so.done ++ e ∷ []) ≡ flat_map usage_worked so.done ++ usage_worked e
  worked-more = flat_map-append usage_worked so.done (e ∷ []) ∙ ap (λ l. flat_map usage_worked so.done ++ l) (append-nil (usage_worked e))

  worked-whole : flat_map usage_worked entries ≡ (flat_map usage_worked so.done ++ usage_worked e) ++ flat_map usage_worked later
  worked-whole = ap (flat_map usage_worked) whole ∙ flat_map-append usage_worked (so.done ++ e ∷ []) later ∙ ap (λ l. l ++ flat_map usage_worked later) worked-more

  -- the table has the conditions of the next slot
  pub usages-had : All (λ (x : Entry). AreHad old x.1) entries → AreHad t e.1
  usages-had all i x at =
      keeps so.progress.gains x (All-contains (λ (y : Entry). AreHad old y.1) entries e all (subst (λ l. Contains l e) (sym whole) (Contains-append_left (so.done ++ e ∷ []) later e (Contains-push so.done e))) i x at)

  pub usages-stop : (u : Table) (stop : RowsStop) → Works {A = Cond} (usage_worked e) t u (Err stop) → Works {A = List Slot} (flat_map usage_worked entries) old u (Err stop)
  usages-stop u stop w =
      subst (λ (l : List Meaning). Works {A = List Slot} l old u (Err stop)) (sym worked-whole)
      (progress-stop {A = Cond} {B = List Slot} (flat_map usage_worked so.done) (usage_worked e) (flat_map usage_worked later) old t u stop so.progress w)

  module _ (u : Table) (usage : Cond) (w : Works (usage_worked e) t u (Ok usage)) where
    pub usages-no_memory : Works {A = List Slot} (flat_map usage_worked entries) old u (Err NoMemory)
    usages-no_memory =
        subst (λ (l : List Meaning). Works {A = List Slot} l old u (Err NoMemory)) (sym worked-whole)
        (progress-no_memory {A = List Slot} (flat_map usage_worked so.done ++ usage_worked e) (flat_map usage_worked later) old u
        (progress-step (flat_map usage_worked so.done) (usage_worked e) old t u usage so.progress w))

    pub usages-next : (slot : Slot) → slot_at slot ≡ slot_of_key e.0 → slot.usage ≡ usage → Has u usage → AreSame (value usage) (some_hold (map value e.1))
        → (more : List Slot) → more ≡ used ++ slot ∷ [] → UsagesSoFar entries later old u more
    usages-next slot at is_usage has means more pushed = subst (λ (l : List Slot). UsagesSoFar entries later old u l) (sym pushed) (record {
      done = so.done ++ e ∷ [];
      split = whole;
      progress = subst (λ (l : List Meaning). Progress l old u) (sym worked-more) (progress-step (flat_map usage_worked so.done) (usage_worked e) old t u usage so.progress w);
      joined = record {
        slots =
            map-append slot_at used (slot ∷ []) ∙ (λ i. so.joined.slots i ++ at i ∷ [])
            ∙ sym (map-append (λ (x : Entry). slot_of_key x.0) so.done (e ∷ []));
        usages =
            map-append (λ (s : Slot). value s.usage) used (slot ∷ [])
            ∙ (λ i. so.joined.usages i ++ (ap value is_usage ∙ same means) i ∷ [])
            ∙ sym (map-append (λ (x : Entry). some_hold (map value x.1)) so.done (e ∷ []));
      };
      has =
          All-push (λ (s : Slot). Has u s.usage) used slot
          (All-weaker (λ (s : Slot). Has t s.usage) (λ (s : Slot). Has u s.usage) (λ s h. w.keeps s.usage h) used so.has)
          (subst (Has u) (sym is_usage) has);
    })

module _ (entries rest : List Entry) (old t : Table) (used : List Slot) (so : UsagesSoFar entries rest old t used) (none : rest ≡ []) where
  all-done : entries ≡ so.done
  all-done = so.split ∙ ap (λ l. so.done ++ l) none ∙ append-nil so.done

  pub usages-joined : AreJoined entries used
  usages-joined = subst (λ (l : List Entry). AreJoined l used) (sym all-done) so.joined

  pub usages-works : Works (flat_map usage_worked entries) old t (Ok used)
  usages-works = progress-done (flat_map usage_worked entries) old t used (subst (λ (l : List Entry). Progress (flat_map usage_worked l) old t) (sym all-done) so.progress)
