use Rattle.std.specs.Prelude.{ℕ, Bool, ◌≡◌, ◌↔◌, IsTrue, Contains, filter, map}
use Rattle.loom_formula.specs.RowList.{value_of}
use Rattle.loom_topology.specs.Legal.{chosen}
use Rattle.loom_project.specs.declared.draft.Draft.{Draft}
use Rattle.loom_project.specs.Project.{cavities_of}
use Rattle.loom_types.specs.declared.wire.Wire.{Wire}
use Rattle.loom_types.specs.declared.plan.Plan.{Plan}
use Rattle.loom_types.specs.declared.plan.SetLine.{SetLine}
use Rattle.loom_types.specs.Slots.{EndsAtPin}
use Rattle.loom_types.specs.WireTree.{ends_of, FormsTree}
use Rattle.loom_rows.specs.Meet.{Meet}
use Rattle.loom_active.specs.Needs.{is_valid_for}

-- the conditions of two rows, by number, hold together under some choice
abbrev pub RowsMeet : Plan → ℕ → ℕ → Type 0
RowsMeet plan row other = Meet (λ choice. value_of plan.rows choice row) (λ choice. value_of plan.rows choice other)

-- the wires of a set are those of its net whose rows meet its row
abbrev pub IsWireOf : Plan → SetLine → Wire → Type 0
IsWireOf plan set w = (w.net.0 ≡ set.net.0) × RowsMeet plan w.row set.row

-- the test picks the set's wires out of the plan's
abbrev pub PicksWiresOf : Plan → SetLine → (Wire → Bool) → Type 0
PicksWiresOf plan set is_its = (w : Wire) → Contains plan.wires w → IsTrue (is_its w) ↔ IsWireOf plan set w

-- the wires of a set form one tree whose leaves are the set's cavities
pub record SetFormsTree (draft : Draft) (plan : Plan) (set : SetLine) : Type 0 where
  pub is_its : Wire → Bool
  pub its : PicksWiresOf plan set is_its
  pub tree : FormsTree (chosen (cavities_of draft set.net.0) set.mask) (map ends_of (filter is_its plan.wires))

-- those of every printed set do
abbrev pub EachSetFormsTree : Draft → Plan → Type 0
EachSetFormsTree draft plan = (set : SetLine) → Contains plan.sets set → SetFormsTree draft plan set

-- the wire is one of a printed set whose row holds under the choice
pub record IsOfLiveSet (plan : Plan) (choice : ℕ → Bool) (w : Wire) : Type 0 where
  pub set : SetLine
  pub printed : Contains plan.sets set
  pub live : IsTrue (value_of plan.rows choice set.row)
  pub has : IsWireOf plan set w

-- under every valid choice a wire is live exactly where it is one of a set whose row holds
abbrev pub LiveWiresAreOfLiveSets : Draft → Plan → Type 0
LiveWiresAreOfLiveSets draft plan =
    (choice : ℕ → Bool) → IsTrue (is_valid_for draft choice) → (w : Wire) → Contains plan.wires w
    → IsTrue (value_of plan.rows choice w.row) ↔ IsOfLiveSet plan choice w

-- two wires whose rows meet, and that end at one pin, on whichever sides, are of one net
abbrev pub PinsKeepToNets : Plan → Type 0
PinsKeepToNets plan =
    (w v : Wire) → Contains plan.wires w → Contains plan.wires v → RowsMeet plan w.row v.row
    → (coupler pin : ℕ) → EndsAtPin w coupler pin → EndsAtPin v coupler pin → w.net.0 ≡ v.net.0
