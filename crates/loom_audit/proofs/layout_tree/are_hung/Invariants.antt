use Rattle.std.proofs.Common.{ℕ, ◌<◌, get_or, map}
use Rattle.loom_base.specs.declared.positions.CavityNo.{CavityNo}
use Rattle.loom_base.specs.declared.positions.NodeNo.{NodeNo}
use Rattle.loom_audit.specs.LayoutTests.{HangsAt}
use Rattle.loom_audit.proofs.layout_tree.are_hung.Given as goal

abbrev pub invariant-loop-at : goal.invariant-loop-at
invariant-loop-at l =
    (k : ℕ) → k < l.at
    → HangsAt l.topology (map (λ (v : NodeNo). v.0) l.places) (get_or (map (λ (c : CavityNo). c.0) l.cavities) k 0) (get_or l.hangs k 0)
