use Rattle.std.specs.Prelude.{ℕ, List, ◌≡◌, ◌<◌, ◌+◌, ◌⊎◌, AllPairs, All, length}
use Rattle.loom_base.specs.declared.limits.Which.{Which}
use Rattle.loom_base.specs.declared.limits.Which.TheVariants.{Sets, Rows}
use Rattle.loom_formula.specs.Choice.{choice_at}
use Rattle.loom_project.specs.declared.draft.Draft.{Draft}
use Rattle.loom_active.specs.declared.stop.ActiveStop.{ActiveStop}
use Rattle.loom_active.specs.declared.stop.ActiveStop.TheVariants.{NoChoice, Clash, Limit, NoMemory}
use Rattle.loom_active.specs.Valid.{rules_worked, SomeIsValid, NoneIsValid, NeedTooManyRows}
use Rattle.loom_active.specs.LiveSets.{IsLiveSet, IsListedBefore}
use Rattle.loom_active.specs.Clash.{HasNoClash, IsFirstClash}
use Rattle.loom_active.specs.LiveWork.{needs_worked, worked_through}

-- more than so many different live sets, each a net and a mask, are of the first n nets
pub record HaveMoreSets (draft : Draft) (n limit : ℕ) : Type 0 where
  pub listed : List (ℕ × ℕ)
  pub different : AllPairs (λ one other. IsListedBefore one.0 one.1 other.0 other.1) listed
  pub live : All (λ set. (set.0 < n) × IsLiveSet draft set.0 set.1) listed
  pub many : limit < length listed

-- the sets of the net may be looked for: the conditions of rules and terminals are worked out, some choice is valid, there is no clash,
-- and the nets before have at most 16,384 live sets
pub record IsReached (draft : Draft) (net : ℕ) : Type 0 where
  pub in_range : net < length draft.nets
  pub some : SomeIsValid draft
  pub clear : HasNoClash draft
  pub few_rows : NeedTooManyRows (worked_through draft net) → ⊥
  pub few_sets : HaveMoreSets draft net 16384 → ⊥

-- a net with whose sets there are too many
abbrev pub PassesSets : Draft → ℕ → Type 0
PassesSets draft net = IsReached draft net × (NeedTooManyRows (worked_through draft (net + 1)) → ⊥) × HaveMoreSets draft (net + 1) 16384

-- too many rows are needed for the rules; or they fit, some choice is valid, and too many are needed with the terminals; or they fit as
-- well, and too many are needed with the sets of some net
abbrev pub PassesRows : Draft → Type 0
PassesRows draft =
    NeedTooManyRows (rules_worked draft)
    ⊎ (SomeIsValid draft × (NeedTooManyRows (rules_worked draft) → ⊥) × NeedTooManyRows (needs_worked draft))
    ⊎ ((net : ℕ) × IsReached draft net × NeedTooManyRows (worked_through draft (net + 1)))

-- a limit that the search for live sets passes
abbrev pub PassesLimit : Draft → Which → ℕ → Type 0
PassesLimit draft which count =
    ((which ≡ Sets) × (count ≡ 16385) × ((net : ℕ) × PassesSets draft net))
    ⊎ ((which ≡ Rows) × (count ≡ 262145) × PassesRows draft)

-- the search for live sets stops so, in this order: the rules need too many rows; no choice is valid; rules and terminals need too many
-- rows; some valid choice makes one cavity active in two nets; and net by net, rules, terminals and sets so far need too many rows, or
-- the nets so far have too many live sets. Memory may run out at any time
abbrev pub IsLiveStop : Draft → ActiveStop → Type 0
IsLiveStop draft NoChoice = NoneIsValid draft × (NeedTooManyRows (rules_worked draft) → ⊥)
IsLiveStop draft (Clash cavity first second choice) =
    (NeedTooManyRows (needs_worked draft) → ⊥) × (length choice.values ≡ length draft.options)
    × IsFirstClash draft cavity.0 first.0 second.0 (choice_at choice.values)
IsLiveStop draft (Limit which count) = PassesLimit draft which count
IsLiveStop draft NoMemory = Unit {0}
