-- An edit that sets a number alone leaves a sound draft sound.
use Rattle.std.proofs.Common.{◌≡◌, ℕ, zero, suc, ◌<◌, Bool, true, false, not, List, [], ◌∷◌, length, Option, Some, Result, Ok, Err, refl, sym, ap, subst, ◌∙◌, arith, slice_get}
use Rattle.std.specs.Option.{option_map_or}
use Rattle.loom_base.specs.declared.positions.NodeNo.{NodeNo}
use Rattle.loom_base.specs.declared.positions.SegmentNo.{SegmentNo}
use Rattle.loom_base.specs.First.{◌>>◌, ◌>>=◌}
use Rattle.loom_topology.specs.declared.kind.Kind.{Kind}
use Rattle.loom_topology.specs.declared.kind.Kind.TheVariants.{Run, Coupler}
use Rattle.loom_topology.specs.Topology.{priced, is_coupler}
use Rattle.loom_project.specs.declared.draft.Draft.{Draft}
use Rattle.loom_project.specs.declared.draft.NodeDraft.{NodeDraft}
use Rattle.loom_project.specs.declared.draft.SegmentDraft.{SegmentDraft}
use Rattle.loom_project.specs.declared.fault.Of.TheVariants as of
use Rattle.loom_project.specs.declared.fault.ProjectFault.TheVariants as failures
use Rattle.loom_project.specs.declared.numbers.NumberChange.{NumberChange}
use Rattle.loom_project.specs.declared.numbers.NumberChange.TheVariants as numbers
use Rattle.loom_project.specs.Numbers.{no_node, segments_with_price, nodes_with_branch, with_number}
use Rattle.loom_project.specs.Sound.{draft_check}
use Rattle.loom_project.proofs.SoundLemmas.{required}
use Rattle.loom_project.proofs.NetLemmas.{not_true}
use Rattle.loom_project.proofs.NumberLemmas.{sound-with_price, sound-with_branch}
use Rattle.loom_edits.specs.declared.edit.Edit.{Edit}
use Rattle.loom_edits.specs.declared.edit.Edit.TheVariants as edits
use Rattle.loom_edits.specs.declared.fault.EditFault.{EditFault}
use Rattle.loom_edits.specs.declared.fault.EditFault.TheVariants.{WrongKind, Project}
use Rattle.loom_edits.specs.Places.{changed_at, node_place, segment_place, is_coupler_at}
use Rattle.loom_edits.specs.Edits.{addressed, on_run, on_coupler, with_price, sound, changed, if_sound, edited}
use Rattle.loom_edits.specs.Numbers.{SetsNumber, IsNumberOf}
use Rattle.loom_edits.proofs.CauseLemmas.{no_failure}
use Rattle.loom_edits.proofs.ElementLemmas.{changed_by_set}

run_priced : (price : ℕ) (kind : Kind) → is_coupler kind ≡ false → priced price kind ≡ Run price
run_priced price (Run length) is = refl
run_priced price (Coupler before pins) is = absurd (cc)

coupler_priced : (price : ℕ) (kind : Kind) → is_coupler kind ≡ true → priced price kind ≡ with_price price kind
coupler_priced price (Run length) is = absurd (cc)
coupler_priced price (Coupler before pins) is = refl

-- another price of a run is another length, of a coupler another price
pub run_changed : (segments : List SegmentDraft) (at price : ℕ) → at < length segments → option_map_or (λ (segment : SegmentDraft). is_coupler segment.kind) (slice_get segments at) false ≡ false
    → changed_at (λ (old : SegmentDraft). record old { kind = Run price }) segments at ≡ segments_with_price segments at price
run_changed [] at price lt is = absurd (omega (arith, lt))
run_changed (x ∷ xs) zero price lt is = ap (λ k. (record x { kind = k }) ∷ xs) (sym (run_priced price x.kind is))
run_changed (x ∷ xs) (suc at) price lt is = ap (λ ys. x ∷ ys) (run_changed xs at price (omega (arith, lt)) is)

pub coupler_changed : (segments : List SegmentDraft) (at price : ℕ) → at < length segments → option_map_or (λ (segment : SegmentDraft). is_coupler segment.kind) (slice_get segments at) false ≡ true
    → changed_at (λ (old : SegmentDraft). record old { kind = with_price price old.kind }) segments at ≡ segments_with_price segments at price
coupler_changed [] at price lt is = absurd (omega (arith, lt))
coupler_changed (x ∷ xs) zero price lt is = ap (λ k. (record x { kind = k }) ∷ xs) (sym (coupler_priced price x.kind is))
coupler_changed (x ∷ xs) (suc at) price lt is = ap (λ ys. x ∷ ys) (coupler_changed xs at price (omega (arith, lt)) is)

pub branch_changed : (nodes : List NodeDraft) (at branch : ℕ) → at < length nodes → changed_at (λ (old : NodeDraft). record old { branch = branch }) nodes at ≡ nodes_with_branch nodes at branch
branch_changed nodes at branch lt = sym (changed_by_set (λ (old : NodeDraft). record old { branch = branch }) nodes at no_node lt)

sound_same : (draft : Draft) (change : NumberChange) → draft_check (with_number draft change) ≡ draft_check draft
sound_same draft (numbers.Price segment price) = sound-with_price draft segment.0 price
sound_same draft (numbers.Branch node branch) = sound-with_branch draft node.0 branch

-- a number that is set in a sound draft makes another sound one
edited_so : (draft : Draft) (edit : Edit) (change : NumberChange) → draft_check draft ≡ Ok tt → changed draft edit ≡ Ok (with_number draft change) → edited draft edit ≡ Ok (with_number draft change)
unfolding edited
edited_so draft edit change passed made =
    let still : draft_check (with_number draft change) ≡ Ok tt = sound_same draft change ∙ passed in
    rw made (rw still refl)

run_at : (draft : Draft) (name : List ℕ) (at : ℕ) → on_run draft name at ≡ Ok tt → is_coupler_at draft at ≡ false
run_at draft name at is = not_true (is_coupler_at draft at) (required (not (is_coupler_at draft at)) (WrongKind name) is)

coupler_at : (draft : Draft) (name : List ℕ) (at : ℕ) → on_coupler draft name at ≡ Ok tt → is_coupler_at draft at ≡ true
coupler_at draft name at is = required (is_coupler_at draft at) (WrongKind name) is

module _ (draft : Draft) (passed : draft_check draft ≡ Ok tt) (name : List ℕ) where
  pub sets_length : (price : ℕ) (segment : SegmentNo) → addressed of.Segment name (segment_place draft name) ≡ Ok segment.0 → segment.0 < length draft.segments → on_run draft name segment.0 ≡ Ok tt → SetsNumber draft (edits.SetLength name price) (numbers.Price segment price)
  unfolding changed
  sets_length price segment found within run =
      let made : changed draft (edits.SetLength name price) ≡ Ok (with_number draft (numbers.Price segment price)) =
      rw (found, run) (ap (λ (s : List SegmentDraft). Ok (record draft { segments = s })) (run_changed draft.segments segment.0 price within (run_at draft name segment.0 run))) in
      record { there = within; made = edited_so draft (edits.SetLength name price) (numbers.Price segment price) passed made }

  pub sets_price : (price : ℕ) (segment : SegmentNo) → addressed of.Segment name (segment_place draft name) ≡ Ok segment.0 → segment.0 < length draft.segments → on_coupler draft name segment.0 ≡ Ok tt → SetsNumber draft (edits.SetPrice name price) (numbers.Price segment price)
  unfolding changed
  sets_price price segment found within coupler =
      let made : changed draft (edits.SetPrice name price) ≡ Ok (with_number draft (numbers.Price segment price)) =
      rw (found, coupler) (ap (λ (s : List SegmentDraft). Ok (record draft { segments = s })) (coupler_changed draft.segments segment.0 price within (coupler_at draft name segment.0 coupler))) in
      record { there = within; made = edited_so draft (edits.SetPrice name price) (numbers.Price segment price) passed made }

  pub sets_branch : (branch : ℕ) (node : NodeNo) → addressed of.Node name (node_place draft name) ≡ Ok node.0 → node.0 < length draft.nodes → SetsNumber draft (edits.SetBranch name branch) (numbers.Branch node branch)
  unfolding changed
  sets_branch branch node found within =
      let made : changed draft (edits.SetBranch name branch) ≡ Ok (with_number draft (numbers.Branch node branch)) =
      rw found (ap (λ (s : List NodeDraft). Ok (record draft { nodes = s })) (branch_changed draft.nodes node.0 branch within)) in
      record { there = within; made = edited_so draft (edits.SetBranch name branch) (numbers.Branch node branch) passed made }

-- the same, of a draft that is looked at in the place of another
module _ (draft seen : Draft) (same : seen ≡ draft) (passed : draft_check draft ≡ Ok tt) (name : List ℕ) where
  pub length_seen : (price : ℕ) (segment : SegmentNo) → Ok segment.0 ≡ addressed of.Segment name (segment_place seen name) → segment.0 < length seen.segments → Ok tt ≡ on_run seen name segment.0 → SetsNumber draft (edits.SetLength name price) (numbers.Price segment price)
  length_seen price segment found within run =
      subst (λ (d : Draft). SetsNumber d (edits.SetLength name price) (numbers.Price segment price)) same
      (sets_length seen (ap draft_check same ∙ passed) name price segment (sym found) within (sym run))

  pub price_seen : (price : ℕ) (segment : SegmentNo) → Ok segment.0 ≡ addressed of.Segment name (segment_place seen name) → segment.0 < length seen.segments → Ok tt ≡ on_coupler seen name segment.0 → SetsNumber draft (edits.SetPrice name price) (numbers.Price segment price)
  price_seen price segment found within coupler =
      subst (λ (d : Draft). SetsNumber d (edits.SetPrice name price) (numbers.Price segment price)) same
      (sets_price seen (ap draft_check same ∙ passed) name price segment (sym found) within (sym coupler))

  pub branch_seen : (branch : ℕ) (node : NodeNo) → Ok node.0 ≡ addressed of.Node name (node_place seen name) → node.0 < length seen.nodes → SetsNumber draft (edits.SetBranch name branch) (numbers.Branch node branch)
  branch_seen branch node found within =
      subst (λ (d : Draft). SetsNumber d (edits.SetBranch name branch) (numbers.Branch node branch)) same
      (sets_branch seen (ap draft_check same ∙ passed) name branch node (sym found) within)

-- an edit that can't be made makes nothing
pub fails_so : (draft : Draft) (edit : Edit) (fault : EditFault) → changed draft edit ≡ Err fault → edited draft edit ≡ Err fault
unfolding edited
fails_so draft edit fault is = rw is refl

-- no failure of a project's check is among the causes why a number can't be set
pub own_number : (draft : Draft) (edit : Edit) (found : Result (Option NumberChange) EditFault) → IsNumberOf draft edit found → found ≡ Err (Project failures.NoMemory) → ⊥
own_number draft edit (Ok number) is came = cc
own_number draft edit (Err fault) is came =
    let same : fault ≡ Project failures.NoMemory = cc in
    no_failure draft edit fault failures.NoMemory (λ other. is) same
