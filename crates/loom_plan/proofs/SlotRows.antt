-- The rows that the usages of slots need.
use Rattle.std.proofs.Common.{◌≡◌, List, ◌++◌, map, sym, ap, subst, ◌∙◌, Result, Ok, Err, IfOk}
use Rattle.std.specs.List.{All, flat_map}
use Rattle.loom_project.specs.declared.draft.Draft.{Draft}
use Rattle.loom_project.specs.Project.{topology_of}
use Rattle.loom_rows.specs.declared.stop.RowsStop.{RowsStop}
use Rattle.loom_rows.specs.declared.stop.RowsStop.TheVariants.{TooManyRows}
use Rattle.loom_rows.specs.Condition.{Meaning, value}
use Rattle.loom_rows.specs.Leftovers.{AreSame, IsRowOf, AreMoreThan, StandsFor, Works}
use Rattle.loom_rows.specs.Table.{Table}
use Rattle.loom_rows.proofs.Worked.{stands-after, rows-few, rows-many}
use Rattle.loom_types.specs.Slots.{Slot}
use Rattle.loom_laid.specs.declared.laid_set.LaidSet.{LaidSet}
use Rattle.loom_pins.specs.declared.slot.Slot.{Slot as PinSlot}
use Rattle.loom_plan.specs.Work.{AreSlots, set_live, usages_worked, slot_at}
use Rattle.loom_plan.specs.SlotUsers.{Users, AreUsers, usage_worked, AreJoined}
use Rattle.loom_plan.proofs.SlotFacts.{are-slots, worked-is}

module _ (draft : Draft) (laid : List LaidSet) (users : Users) (are : AreUsers (topology_of draft) laid users)
    (live : All (λ set. AreSame (value set.cond) (set_live draft set)) laid) (worked : List Meaning) (old new : Table) (stands : StandsFor old worked) where
  -- what is worked out for these slots
  is-worked : (used : List PinSlot) → AreJoined users.entries used → flat_map usage_worked users.entries ≡ usages_worked draft laid (map slot_at used)
  is-worked used joined = worked-is draft laid users are live ∙ ap (usages_worked draft laid) (sym joined.slots)

  pub usages-stand : (r : Result (List PinSlot) RowsStop) → IfOk r (AreJoined users.entries) → Works (flat_map usage_worked users.entries) old new r
      → IfOk r (λ used. StandsFor new (worked ++ usages_worked draft laid (map slot_at used)))
  usages-stand (Ok used) joined works =
      subst (λ (l : List Meaning). StandsFor new (worked ++ l)) (is-worked used joined) (stands-after worked (flat_map usage_worked users.entries) old new stands used works)
  usages-stand (Err stop) joined works = tt

  pub usages-fit : (r : Result (List PinSlot) RowsStop) → IfOk r (AreJoined users.entries) → Works (flat_map usage_worked users.entries) old new r
      → IfOk r (λ used. AreMoreThan old.limit (IsRowOf (worked ++ usages_worked draft laid (map slot_at used))) → ⊥)
  usages-fit (Ok used) joined works =
      subst (λ (l : List Meaning). AreMoreThan old.limit (IsRowOf (worked ++ l)) → ⊥) (is-worked used joined) (rows-few worked (flat_map usage_worked users.entries) old new stands used works)
  usages-fit (Err stop) joined works = tt

  pub usages-many : (r : Result (List PinSlot) RowsStop) → r ≡ Err TooManyRows → Works (flat_map usage_worked users.entries) old new r
      → (slots : List Slot) × AreSlots draft laid slots × AreMoreThan old.limit (IsRowOf (worked ++ usages_worked draft laid slots))
  usages-many r e works = (
    _,
    are-slots draft laid users are,
    subst (λ (l : List Meaning). AreMoreThan old.limit (IsRowOf (worked ++ l))) (worked-is draft laid users are live) (rows-many worked (flat_map usage_worked users.entries) old new stands r e works),
  )
