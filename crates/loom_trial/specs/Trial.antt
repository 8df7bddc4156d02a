-- The trial: the harness of a body, and a harness of each of its door branches.
use Rattle.std.specs.Prelude.{ℕ, ◌+◌, ◌-◌, ◌*◌, ◌%◌, List, [], ◌∷◌, ◌++◌, Bool, ◌&&◌, nat_le, length, map, codes, decimal}
use Rattle.std.specs.List.{list_all, range_with_len, flat_map}
use Rattle.loom_base.specs.Names.{is_name_byte}
use Rattle.loom_formula.specs.declared.formula.Formula.{Formula}
use Rattle.loom_formula.specs.declared.formula.Formula.TheVariants.{Always, Is, Or, One}
use Rattle.loom_formula.specs.declared.formula.Members.{Members, roll-Members}
use Rattle.loom_topology.specs.declared.kind.Kind.{Kind}
use Rattle.loom_topology.specs.declared.kind.Kind.TheVariants.{Run, Coupler}
use Rattle.loom_project.specs.declared.draft.Draft.{Draft}
use Rattle.loom_project.specs.declared.draft.NodeDraft.{NodeDraft}
use Rattle.loom_project.specs.declared.draft.SegmentDraft.{SegmentDraft}
use Rattle.loom_project.specs.declared.draft.CavityDraft.{CavityDraft}
use Rattle.loom_project.specs.declared.draft.NetDraft.{NetDraft}
use Rattle.loom_project.specs.declared.draft.TerminalDraft.{TerminalDraft}

-- the letters with which a numbered name begins: at most two, each of which may stand in a name
abbrev pub are_letters : List ℕ → Bool
are_letters letters = nat_le (length letters) 2 && list_all is_name_byte letters

-- the name of some letters and a number
unfoldable pub numbered : List ℕ → ℕ → List ℕ
numbered letters number = letters ++ decimal number

-- the doors, which are numbered from 1
abbrev pub doors : ℕ → List ℕ
doors n = range_with_len 1 n

-- the k-th option holds
abbrev pub option : ℕ → Formula
option k = Is (numbered (codes "O") k)

-- the members of a formula, in order
abbrev pub members : List Formula → Members
members formulas = roll-Members (record { list = formulas })

-- exactly one of the first three options holds
unfoldable pub one_of_three : Formula
one_of_three = One (members (option 1 ∷ option 2 ∷ option 3 ∷ []))

-- one of the first two options holds
unfoldable pub one_of_two : Formula
one_of_two = Or (members (option 1 ∷ option 2 ∷ []))

-- a numbered node of a harness, with a branch cost of 20
unfoldable pub node : List ℕ → ℕ → List ℕ → NodeDraft
node letters i harness = record { name = numbered letters i; harness = harness; branch = 20 }

-- the i-th node of the body
abbrev pub body_node : ℕ → NodeDraft
body_node i = node (codes "B") i (codes "BODY")

-- the nodes of a door, at its hinge and at its lock
abbrev pub door_nodes : ℕ → List NodeDraft
door_nodes i = node (codes "D") i (codes "DOOR") ∷ node (codes "E") i (codes "DOOR") ∷ []

-- the body's nodes from 0 to n, then those of the doors
unfoldable pub trial_nodes : ℕ → List NodeDraft
trial_nodes n = map body_node (range_with_len 0 (n + 1)) ++ flat_map door_nodes (doors n)

-- the length of the i-th run of the body
abbrev pub run_length : ℕ → ℕ
run_length i = 100 + (37 * i) % 50

-- a segment that no net is barred from and of which no pin is reserved
abbrev pub segment : List ℕ → ℕ → List ℕ → List ℕ → Kind → SegmentDraft
segment letters i from to kind =
    record { name = numbered letters i; from = from; to = to; kind = kind; bars = []; reserved = [] }

-- the i-th run of the body, from the node before
unfoldable pub body_run : ℕ → SegmentDraft
body_run i = segment (codes "R") i (numbered (codes "B") (i - 1)) (numbered (codes "B") i) (Run (run_length i))

-- the coupler at a door's hinge, from the body to the door
unfoldable pub hinge : ℕ → SegmentDraft
hinge i = segment (codes "X") i (numbered (codes "B") i) (numbered (codes "D") i) (Coupler 30 24)

-- the run of a door, from its hinge to its lock
unfoldable pub door_run : ℕ → SegmentDraft
door_run i = segment (codes "Q") i (numbered (codes "D") i) (numbered (codes "E") i) (Run 200)

-- the segments of a door
abbrev pub door_segments : ℕ → List SegmentDraft
door_segments i = hinge i ∷ door_run i ∷ []

-- the body's runs, then the segments of the doors
unfoldable pub trial_segments : ℕ → List SegmentDraft
trial_segments n = map body_run (doors n) ++ flat_map door_segments (doors n)

-- a cavity at a node, in a device that is named as the node's harness
unfoldable pub cavity : List ℕ → ℕ → List ℕ → List ℕ → CavityDraft
cavity letters i device at = record { name = numbered letters i; device = device; node = at }

-- the cavities of a door's two nets, in the body and in the door
abbrev pub door_cavities : ℕ → List CavityDraft
door_cavities i =
    cavity (codes "PB") i (codes "BODY") (numbered (codes "B") 0)
    ∷ cavity (codes "PD") i (codes "DOOR") (numbered (codes "E") i)
    ∷ cavity (codes "SB") i (codes "BODY") (numbered (codes "B") i)
    ∷ cavity (codes "SD") i (codes "DOOR") (numbered (codes "E") i)
    ∷ cavity (codes "SE") i (codes "BODY") (numbered (codes "B") (i - 1))
    ∷ cavity (codes "ST") i (codes "DOOR") (numbered (codes "D") i)
    ∷ []

-- a cavity that a net needs where a formula holds
unfoldable pub terminal : List ℕ → ℕ → Formula → TerminalDraft
terminal letters i when = record { cavity = numbered letters i; when = when }

-- a net of the standard class
abbrev pub net : List ℕ → ℕ → List TerminalDraft → NetDraft
net letters i terminals = record { name = numbered letters i; class = codes "std"; terminals = terminals }

-- the net that always joins the body's first node with a door's lock
unfoldable pub power_net : ℕ → NetDraft
power_net i = net (codes "P") i (terminal (codes "PB") i Always ∷ terminal (codes "PD") i Always ∷ [])

-- the net whose cavities depend on the options
unfoldable pub signal_net : ℕ → NetDraft
signal_net i = net (codes "S") i
    (terminal (codes "SB") i Always
    ∷ terminal (codes "SD") i one_of_two
    ∷ terminal (codes "SE") i (option 3)
    ∷ terminal (codes "ST") i (option 4)
    ∷ [])

-- the two nets of a door
abbrev pub door_nets : ℕ → List NetDraft
door_nets i = power_net i ∷ signal_net i ∷ []

-- the draft of a body with n doors
unfoldable pub trial_draft : ℕ → Draft
trial_draft n = record {
  options = map (numbered (codes "O")) (range_with_len 1 4);
  rules = one_of_three ∷ [];
  nodes = trial_nodes n;
  segments = trial_segments n;
  cavities = flat_map door_cavities (doors n);
  nets = flat_map door_nets (doors n);
}
