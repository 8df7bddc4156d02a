use Rattle.std.specs.Prelude.{ℕ, Bool, ◌≡◌, ◌≤◌, IsTrue, Contains, filter, map, length}
use Rattle.loom_project.specs.declared.draft.Draft.{Draft}
use Rattle.loom_types.specs.declared.wire.Wire.{Wire}
use Rattle.loom_types.specs.declared.plan.Plan.{Plan}
use Rattle.loom_types.specs.declared.plan.SetLine.{SetLine}
use Rattle.loom_types.specs.WireTree.{ends_of, FormsTree}
use Rattle.loom_active.specs.Needs.{is_valid_for, need_of}
use Rattle.loom_active.specs.Clash.{HasNoClash}
use Rattle.loom_active.specs.LiveSets.{IsLiveUnder, PrintsLiveSets}
use Rattle.loom_active.specs.RightPlan.{live_wires_of, JoinsWhatNetsNeed, IdleNetsHaveNoWires}
use Rattle.loom_active.specs.SetWires.{PicksWiresOf, EachSetFormsTree, LiveWiresAreOfLiveSets, PinsKeepToNets}

-- where a set is live, the live wires of its net are the set's
abbrev pub NetsHaveWiresOfLiveSets : Draft → Plan → Type 0
NetsHaveWiresOfLiveSets draft plan =
    (choice : ℕ → Bool) (set : SetLine) → Contains plan.sets set → IsLiveUnder draft choice set.net.0 set.mask
    → (is_its : Wire → Bool) → PicksWiresOf plan set is_its → live_wires_of plan choice set.net.0 ≡ filter is_its plan.wires

-- under every valid choice the live wires of each net that needs at least two cavities form one tree whose leaves are these cavities
abbrev pub EachNetFormsTree : Draft → Plan → Type 0
EachNetFormsTree draft plan =
    (choice : ℕ → Bool) → IsTrue (is_valid_for draft choice) → (net : ℕ) → 2 ≤ length (need_of draft choice net)
    → FormsTree (need_of draft choice net) (map ends_of (live_wires_of plan choice net))

-- where a plan prints the live sets, and its live wires are those of the live sets, the live wires of a net are those of its live set
abbrev pub PlansGiveNetsTheirWires : Type 0
PlansGiveNetsTheirWires =
    (draft : Draft) (plan : Plan) → PrintsLiveSets draft plan → LiveWiresAreOfLiveSets draft plan → NetsHaveWiresOfLiveSets draft plan

-- and a net that needs fewer than two cavities has none
abbrev pub PlansLeaveIdleNetsBare : Type 0
PlansLeaveIdleNetsBare =
    (draft : Draft) (plan : Plan) → PrintsLiveSets draft plan → LiveWiresAreOfLiveSets draft plan → IdleNetsHaveNoWires draft plan

-- if further the wires of each set form one tree, so do the live wires of each net
abbrev pub PlansFormTrees : Type 0
PlansFormTrees =
    (draft : Draft) (plan : Plan) → PrintsLiveSets draft plan → LiveWiresAreOfLiveSets draft plan → EachSetFormsTree draft plan
    → EachNetFormsTree draft plan

-- if further no valid choice makes a cavity active in two nets, and pins keep to nets, the live wires join what nets need, and nothing else
abbrev pub PlansJoinNeeds : Type 0
PlansJoinNeeds =
    (draft : Draft) (plan : Plan) → HasNoClash draft → PrintsLiveSets draft plan → LiveWiresAreOfLiveSets draft plan
    → EachSetFormsTree draft plan → PinsKeepToNets plan → JoinsWhatNetsNeed draft plan
