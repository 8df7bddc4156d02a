use Rattle.std.proofs.Common.{◌≡◌, ℕ, ◌<◌, List, Option, length, map, sym, ap, subst, ◌∙◌}
use Rattle.std.specs.List.{All}
use Rattle.std.specs.Option.{IfSome, IfNone}
use Rattle.loom_topology.specs.Topology.{TopologyView}
use Rattle.loom_types.specs.declared.plan.PinLine.{PinLine}
use Rattle.loom_types.specs.declared.plan.SetLine.{SetLine}
use Rattle.loom_project.specs.Project.{topology_of}
use Rattle.loom_audit.specs.FirstFailure.{Agree, DifferFirst}
use Rattle.loom_audit.specs.LayoutRule.{IsLineOfSlot}
use Rattle.loom_audit.specs.SlotSets.{Key, slot_of_key, AreSlotKeys}
use Rattle.loom_audit.proofs.LaidParts.{sets-within}
use Rattle.loom_audit.proofs.SlotLists.{are-slots}
use Rattle.loom_audit.proofs.pin_lines.first_other_pin.Goals as goal

when-none : {P Q : Type 0} (o : Option ℕ) → (P → Q) → IfNone o P → IfNone o Q
when-none Rattle.std.proofs.Common.None f h = f h
when-none (Rattle.std.proofs.Common.Some x) f h = tt

when-some : {P Q : ℕ → Type 0} (o : Option ℕ) → ((x : ℕ) → P x → Q x) → IfSome o P → IfSome o Q
when-some Rattle.std.proofs.Common.None f h = tt
when-some (Rattle.std.proofs.Common.Some x) f h = f x h

pub slots-requires : goal.slots-requires
slots-requires c =
    subst (λ (l : List SetLine). All (λ set. All (λ step. step.1.0 < length c.topology.result.now.segments) set.layout.steps) l) (sym c.as_slice.ensures)
    (subst (λ (n : ℕ). All (λ set. All (λ step. step.1.0 < n) set.layout.steps) c.args.plan.now.sets) (sym c.topology.ensures.segments)
    (sets-within c.args.project.now c.args.plan.now c.requires))

pub returns-clause-holds : goal.returns-clause-holds
returns-clause-holds c =
    let keys : c.deref.result.now ≡ c.in_ok-slots.slots.keys = c.deref.ensures.value ∙ c.in_ok-stated.ensures.keys in
    let are : AreSlotKeys (topology_of c.args.project.now) c.args.plan.now.sets c.in_ok-slots.slots =
    subst (λ (t : TopologyView). AreSlotKeys t c.args.plan.now.sets c.in_ok-slots.slots) c.topology.ensures.topology
    (subst (λ (l : List SetLine). AreSlotKeys c.topology.result.now l c.in_ok-slots.slots) c.as_slice.ensures c.in_ok-slots.ensures) in
    when-none c.first_difference.result
    (λ (agree : Agree IsLineOfSlot (map slot_of_key c.deref.result.now) c.as_slice-2.result.now).
    record {
      slots = map slot_of_key c.in_ok-slots.slots.keys;
      are_slots = are-slots c.args.project.now c.args.plan.now c.in_ok-slots.slots are c.in_ok-stated.ensures.ordered;
      lines =
          subst (λ (l : List PinLine). Agree IsLineOfSlot (map slot_of_key c.in_ok-slots.slots.keys) l) c.as_slice-2.ensures
          (subst (λ (l : List Key). Agree IsLineOfSlot (map slot_of_key l) c.as_slice-2.result.now) keys agree);
    })
    c.first_difference.ensures.holds

pub returns-clause-fails : goal.returns-clause-fails
returns-clause-fails c =
    let keys : c.deref.result.now ≡ c.in_ok-slots.slots.keys = c.deref.ensures.value ∙ c.in_ok-stated.ensures.keys in
    let are : AreSlotKeys (topology_of c.args.project.now) c.args.plan.now.sets c.in_ok-slots.slots =
    subst (λ (t : TopologyView). AreSlotKeys t c.args.plan.now.sets c.in_ok-slots.slots) c.topology.ensures.topology
    (subst (λ (l : List SetLine). AreSlotKeys c.topology.result.now l c.in_ok-slots.slots) c.as_slice.ensures c.in_ok-slots.ensures) in
    when-some c.first_difference.result
    (λ at (differ : DifferFirst IsLineOfSlot (map slot_of_key c.deref.result.now) c.as_slice-2.result.now at). (
      map slot_of_key c.in_ok-slots.slots.keys,
      are-slots c.args.project.now c.args.plan.now c.in_ok-slots.slots are c.in_ok-stated.ensures.ordered,
      subst (λ (l : List PinLine). DifferFirst IsLineOfSlot (map slot_of_key c.in_ok-slots.slots.keys) l at) c.as_slice-2.ensures
          (subst (λ (l : List Key). DifferFirst IsLineOfSlot (map slot_of_key l) c.as_slice-2.result.now at) keys differ),
    ))
    c.first_difference.ensures.fails
