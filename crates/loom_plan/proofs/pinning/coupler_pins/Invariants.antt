use Rattle.std.proofs.Common.{◌≡◌, map, take}
use Rattle.loom_project.specs.declared.draft.SegmentDraft.{SegmentDraft}
use Rattle.loom_project.specs.Draft.{pins_of}
use Rattle.loom_plan.proofs.pinning.coupler_pins.Given as goal

abbrev pub invariant-loop-segment : goal.invariant-loop-segment
invariant-loop-segment l =
    l.couplers ≡ map (λ (s : SegmentDraft). record { pins = pins_of s.kind; reserved = s.reserved }) (take l.segment-index l.segment-items)
