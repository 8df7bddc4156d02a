-- What contracts see of unfinished wires and of the steps that they take.
use Rattle.std.specs.Prelude.{ℕ, List, [], ◌∷◌, Vec, ◌≡◌, ◌<◌, ◌≤◌, All, length, map, reverse, slice_index_or, slice_set}
use Rattle.std.specs.declared.alloc.Global.{Global}
use Rattle.loom_types.specs.LayoutWires as layout
use Rattle.loom_types.specs.declared.wire.End.{End}
use Rattle.loom_audit.specs.declared.thread.Thread.{Thread}
use Rattle.loom_audit.specs.declared.leg.Crossing.{Crossing}
use Rattle.loom_audit.specs.declared.leg.Crossing.TheVariants.{Over, Through}
use Rattle.loom_audit.specs.declared.leg.Leg.{Leg}

-- a thread, a crossing and a leg of the code, as the definitions know them
abbrev pub thread_of : Thread → layout.Thread
thread_of thread = record { stop = thread.stop; route = thread.route; length = thread.length }

abbrev pub crossing_of_code : Crossing → layout.Crossing
crossing_of_code (Over segment length) = layout.Over segment.0 length
crossing_of_code (Through coupler pin near far) = layout.Through coupler.0 pin near far

abbrev pub leg_of_code : Leg → layout.Leg
leg_of_code leg = record { parent = leg.parent; crossing = crossing_of_code leg.crossing }

-- the legs with the last one first
abbrev pub legs_back : List Leg → List layout.Leg
legs_back legs = reverse (map leg_of_code legs)

-- a stack's threads, the newest first
abbrev pub newest_first : List Thread → List layout.Thread
newest_first threads = reverse (map thread_of threads)

-- the threads on the stack of each point
abbrev pub waiting : List (Vec Thread Global) → List (List layout.Thread)
waiting stacks = map (λ stack. newest_first stack.items) stacks

-- with one more thread that has come to a point
abbrev pub with_thread : List (List layout.Thread) → ℕ → layout.Thread → List (List layout.Thread)
with_thread stacks point thread = slice_set stacks point (thread ∷ slice_index_or stacks point [])

-- for each point, the threads that are hung on it
abbrev pub AreHung : List layout.Hung → List (List layout.Thread) → Type 0
AreHung hung stacks =
    (point : ℕ) → point < length stacks → slice_index_or stacks point [] ≡ layout.threads_at point hung

-- the ends are the points' splices
abbrev pub AreSplices : (ℕ → End) → List End → Type 0
AreSplices splice ends = (point : ℕ) (none : End) → point < length ends → slice_index_or ends point none ≡ splice point

-- no thread is longer than the limit
abbrev pub AreShort : ℕ → List (List layout.Thread) → Type 0
AreShort limit stacks = All (All (λ thread. thread.length ≤ limit)) stacks

-- what a crossing adds to a thread's length
abbrev pub added_length : layout.Crossing → ℕ
added_length (layout.Over segment length) = length
added_length (layout.Through coupler pin near far) = 0

-- each leg leads to a point before its own, and adds at most 1,000,000
abbrev pub AreLegs : List layout.Leg → Type 0
AreLegs [] = Unit {0}
AreLegs (leg ∷ legs) = (leg.parent ≤ length legs) × (added_length leg.crossing ≤ 1000000) × AreLegs legs
