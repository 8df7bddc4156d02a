-- An inverse that sets a length, a price or a branch cost changes a number alone.
use Rattle.std.proofs.Common.{◌≡◌, ℕ, ◌<◌, true, false, List, length, Some, sym, ap, ◌∙◌, slice_get}
use Rattle.std.specs.Option.{option_map_or}
use Rattle.loom_base.specs.declared.positions.NodeNo.{NodeNo}
use Rattle.loom_base.specs.declared.positions.SegmentNo.{SegmentNo}
use Rattle.loom_topology.specs.Topology.{is_coupler}
use Rattle.loom_project.specs.declared.draft.Draft.{Draft}
use Rattle.loom_project.specs.declared.draft.NodeDraft.{NodeDraft}
use Rattle.loom_project.specs.declared.draft.SegmentDraft.{SegmentDraft}
use Rattle.loom_project.specs.declared.numbers.NumberChange.TheVariants as numbers
use Rattle.loom_edits.proofs.NumberLemmas.{run_changed, coupler_changed, branch_changed}
use Rattle.loom_undo.specs.declared.inverse.Inverse.TheVariants as inverses
use Rattle.loom_undo.specs.Inverse.{taken_back}
use Rattle.loom_undo.specs.Numbers.{SetsBack}

module _ (draft : Draft) (price : ℕ) (segment : SegmentNo) (old : SegmentDraft) (standing : Some old ≡ slice_get draft.segments segment.0) (within : segment.0 < length draft.segments) where
  pub length_sets_back : is_coupler old.kind ≡ false → SetsBack draft (inverses.SetLength segment.0 price) (numbers.Price segment price)
  unfolding taken_back
  length_sets_back run = record {
    there = within;
    made = ap (λ (s : List SegmentDraft). record draft { segments = s })
        (run_changed draft.segments segment.0 price within
        (ap (λ o. option_map_or (λ (x : SegmentDraft). is_coupler x.kind) o false) (sym standing) ∙ run));
  }

  pub price_sets_back : is_coupler old.kind ≡ true → SetsBack draft (inverses.SetPrice segment.0 price) (numbers.Price segment price)
  unfolding taken_back
  price_sets_back coupler = record {
    there = within;
    made = ap (λ (s : List SegmentDraft). record draft { segments = s })
        (coupler_changed draft.segments segment.0 price within
        (ap (λ o. option_map_or (λ (x : SegmentDraft). is_coupler x.kind) o false) (sym standing) ∙ coupler));
  }

pub branch_sets_back : (draft : Draft) (branch : ℕ) (node : NodeNo) → node.0 < length draft.nodes → SetsBack draft (inverses.SetBranch node.0 branch) (numbers.Branch node branch)
unfolding taken_back
branch_sets_back draft branch node within = record {
  there = within;
  made = ap (λ (s : List NodeDraft). record draft { nodes = s }) (branch_changed draft.nodes node.0 branch within);
}
