-- No failure of a project's check is among the causes why a draft can't be changed.
use Rattle.std.proofs.Common.{◌≡◌, ◌≢◌, ℕ, Bool, true, false, not, List, Option, Some, None, Result, Ok, Err, ap, ◌∙◌, subst}
use Rattle.std.specs.Prelude.{⊤, nat_lt, length}
use Rattle.loom_base.specs.First.{Check, ◌>>◌, ◌>>=◌, require}
use Rattle.loom_project.specs.declared.draft.Draft.{Draft}
use Rattle.loom_project.specs.declared.fault.Of.{Of}
use Rattle.loom_project.specs.declared.fault.Of.TheVariants as of
use Rattle.loom_project.specs.declared.fault.ProjectFault.{ProjectFault}
use Rattle.loom_edits.specs.declared.edit.Edit.{Edit}
use Rattle.loom_edits.specs.declared.edit.Edit.TheVariants as edits
use Rattle.loom_edits.specs.declared.fault.EditFault.{EditFault}
use Rattle.loom_edits.specs.declared.fault.EditFault.TheVariants.{UnknownRule, WrongKind, InUse, Project, NoMemory}
use Rattle.loom_project.specs.Project.{net_at}
use Rattle.loom_edits.specs.Places.{option_place, node_place, segment_place, cavity_place, net_place, terminal_place, is_coupler_at}
use Rattle.loom_edits.specs.Uses.{is_option_used, is_node_used, is_cavity_used}
use Rattle.loom_edits.specs.Edits.{changed, addressed}

-- it isn't a failure of a project's check
IsOwnFault : EditFault → Type 0
IsOwnFault (Project failure) = ⊥
IsOwnFault fault = ⊤

IsOwn : {A : Type 0} → Result A EditFault → Type 0
IsOwn (Ok made) = ⊤
IsOwn (Err fault) = IsOwnFault fault

own-next : {A B : Type 0} (r : Result A EditFault) (next : A → Result B EditFault) → IsOwn r → ((x : A) → IsOwn (next x)) → IsOwn (r >>= next)
unfolding IsOwn
own-next (Ok x) next here later = later x
own-next (Err fault) next here later = here

own-then : {A : Type 0} (r : Check EditFault) (next : Result A EditFault) → IsOwn r → IsOwn next → IsOwn (r >> next)
unfolding IsOwn
own-then (Ok passed) next here later = later
own-then (Err fault) next here later = here

made : {A : Type 0} (x : A) → IsOwn {A = A} (Ok x)
unfolding IsOwn
made x = tt

found : (kind : Of) (name : List ℕ) (place : Option ℕ) → IsOwn (addressed kind name place)
unfolding IsOwn IsOwnFault
found kind name (Some at) = tt
found kind name None = tt

in_use : (kind : Of) (name : List ℕ) (test : Bool) → IsOwn (require test (InUse kind name))
unfolding IsOwn IsOwnFault
in_use kind name true = tt
in_use kind name false = tt

wrong : (name : List ℕ) (test : Bool) → IsOwn (require test (WrongKind name))
unfolding IsOwn IsOwnFault
wrong name true = tt
wrong name false = tt

past : (number : ℕ) (test : Bool) → IsOwn (require test (UnknownRule number))
unfolding IsOwn IsOwnFault
past number true = tt
past number false = tt

module _ (draft : Draft) where
  own-changed : (edit : Edit) → IsOwn (changed draft edit)
  unfolding changed
  own-changed (edits.AddOption name) = made _
  own-changed (edits.RemoveOption name) =
      own-next _ _ (found of.OptionName name (option_place draft name)) (λ at. own-then _ _ (in_use of.OptionName name (not (is_option_used draft name))) (made _))
  own-changed (edits.AddRule when) = made _
  own-changed (edits.RemoveRule number) = own-then _ _ (past number (nat_lt number (length draft.rules))) (made _)
  own-changed (edits.AddNode name harness branch) = made _
  own-changed (edits.RemoveNode name) =
      own-next _ _ (found of.Node name (node_place draft name)) (λ at. own-then _ _ (in_use of.Node name (not (is_node_used draft name))) (made _))
  own-changed (edits.AddRun name from to length bars) = made _
  own-changed (edits.AddCoupler name from to price pins bars reserved) = made _
  own-changed (edits.RemoveSegment name) = own-next _ _ (found of.Segment name (segment_place draft name)) (λ at. made _)
  own-changed (edits.AddCavity name device node) = made _
  own-changed (edits.RemoveCavity name) =
      own-next _ _ (found of.Cavity name (cavity_place draft name)) (λ at. own-then _ _ (in_use of.Cavity name (not (is_cavity_used draft name))) (made _))
  own-changed (edits.AddNet name class terminals) = made _
  own-changed (edits.RemoveNet name) = own-next _ _ (found of.Net name (net_place draft name)) (λ at. made _)
  own-changed (edits.AddTerminal net cavity when) = own-next _ _ (found of.Net net (net_place draft net)) (λ at. made _)
  own-changed (edits.RemoveTerminal net cavity) =
      own-next _ _ (found of.Net net (net_place draft net)) (λ at. own-next _ _ (found of.Terminal cavity (terminal_place (net_at draft at) cavity)) (λ terminal. made _))
  own-changed (edits.SetLength name length) =
      own-next _ _ (found of.Segment name (segment_place draft name)) (λ at. own-then _ _ (wrong name (not (is_coupler_at draft at))) (made _))
  own-changed (edits.SetPrice name price) =
      own-next _ _ (found of.Segment name (segment_place draft name)) (λ at. own-then _ _ (wrong name (is_coupler_at draft at)) (made _))
  own-changed (edits.SetPins name pins) =
      own-next _ _ (found of.Segment name (segment_place draft name)) (λ at. own-then _ _ (wrong name (is_coupler_at draft at)) (made _))
  own-changed (edits.SetBranch name branch) = own-next _ _ (found of.Node name (node_place draft name)) (λ at. made _)
  own-changed (edits.SetWhen net cavity when) =
      own-next _ _ (found of.Net net (net_place draft net)) (λ at. own-next _ _ (found of.Terminal cavity (terminal_place (net_at draft at) cavity)) (λ terminal. made _))
  own-changed (edits.SetClass name class) = own-next _ _ (found of.Net name (net_place draft name)) (λ at. made _)
  own-changed (edits.SetBars name bars) = own-next _ _ (found of.Segment name (segment_place draft name)) (λ at. made _)
  own-changed (edits.SetReserved name reserved) =
      own-next _ _ (found of.Segment name (segment_place draft name)) (λ at. own-then _ _ (wrong name (is_coupler_at draft at)) (made _))

-- a draft that can't be changed has another cause than a failure of a project's check
pub no_failure : (draft : Draft) (edit : Edit) (fault : EditFault) (failure : ProjectFault) → (fault ≢ NoMemory → changed draft edit ≡ Err fault) → fault ≢ Project failure
unfolding IsOwn IsOwnFault
no_failure draft edit fault failure gives is =
    let came : changed draft edit ≡ Err (Project failure) = gives (λ other. cc) ∙ ap Err is in
    subst IsOwn came (own-changed draft edit)
