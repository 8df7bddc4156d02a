-- The parts of a plan are read again from what they are shown as.
use Rattle.std.proofs.Common.{◌≡◌, ℕ, ◌≤◌, List, map, Result, Ok, ap, arith}
use Rattle.std.specs.List.{All}
use Rattle.std.proofs.lemmas.Bool.{le-leb}
use Rattle.std.proofs.lemmas.List.Elements.{All-weaker}
use Rattle.serde_json.specs.Data.{Data}
use Rattle.loom_base.specs.First.{◌>>=◌}
use Rattle.loom_base.specs.declared.positions.SegmentNo.{SegmentNo}
use Rattle.loom_json.specs.Fields.{array_of}
use Rattle.loom_json.specs.Forms.{list}
use Rattle.loom_json.proofs.Again.{IsReadAgain, number_form-number, list-array}
use Rattle.loom_types.specs.declared.wire.End.{End}
use Rattle.loom_types.specs.declared.wire.End.TheVariants.{Cavity, Splice, Pin}
use Rattle.loom_types.specs.declared.wire.Wire.{Wire}
use Rattle.loom_types.specs.declared.plan.SetLine.{SetLine}
use Rattle.loom_types.specs.declared.plan.PinLine.{PinLine}
use Rattle.loom_types.specs.declared.plan.Module.{Module}
use Rattle.loom_answer.specs.NumberForms.{small_form, whole_form, pin_number_form, segment_no_form}
use Rattle.loom_answer.specs.Plans.{step_shown, set_shown, pin_shown, module_shown}
use Rattle.loom_answer.specs.PlanForms.{step_of, step_form, set_form, pin_form, module_form}
use Rattle.loom_answer.specs.Readable.{IsSmall, IsWide, IsPinNumber, IsFew, IsStepReadable, IsSetReadable, IsPinReadable, IsEndReadable, IsWireReadable, IsModuleReadable}
use Rattle.loom_answer.specs.Values.{whole}
use Rattle.loom_answer.specs.WireForms.{cavity_end, splice_end, pin_end, end_of, end_form, wire_form}
use Rattle.loom_answer.specs.Wires.{segment_shown, end_shown, wire_shown}

pub small_again : (n : ℕ) → IsSmall n → IsReadAgain small_form whole n
small_again n small = number_form-number 0 4294967295 n (omega arith) small

pub wide_again : (n : ℕ) → IsWide n → IsReadAgain whole_form whole n
wide_again n wide = number_form-number 0 18446744073709551615 n (omega arith) wide

pub pin_number_again : (n : ℕ) → IsPinNumber n → IsReadAgain pin_number_form whole n
pin_number_again n small = number_form-number 0 65535 n (omega arith) small

least : (n : ℕ) → 0 ≤ n
least n = omega arith

pub pin_again : (line : PinLine) → IsPinReadable line → IsReadAgain pin_form pin_shown line
unfolding pin_form
pin_again line r =
    rw (
      le-leb 0 line.net.0 (least line.net.0),
      le-leb line.net.0 4294967295 r.net_small,
      le-leb 0 line.coupler.0 (least line.coupler.0),
      le-leb line.coupler.0 4294967295 r.coupler_small,
      le-leb 0 line.ordinal (least line.ordinal),
      le-leb line.ordinal 4294967295 r.ordinal_small,
      le-leb 0 line.pin (least line.pin),
      le-leb line.pin 65535 r.pin_number,
    )

pub end_again : (end : End) → IsEndReadable end → IsReadAgain end_form end_shown end
unfolding end_form end_of cavity_end splice_end pin_end
end_again (Cavity cavity) r = rw (le-leb 0 cavity.0 (least cavity.0), le-leb cavity.0 4294967295 r)
end_again (Splice node ordinal) r =
    rw (le-leb 0 node.0 (least node.0), le-leb node.0 4294967295 r.0, le-leb 0 ordinal (least ordinal), le-leb ordinal 4294967295 r.1)
end_again (Pin coupler pin side) r =
    rw (le-leb 0 coupler.0 (least coupler.0), le-leb coupler.0 4294967295 r.0, le-leb 0 pin (least pin), le-leb pin 65535 r.1, le-leb 0 side (least side), le-leb side 4294967295 r.2)

pub step_again : (step : ℕ × SegmentNo) → IsStepReadable step → IsReadAgain step_form step_shown step
unfolding step_form step_of
step_again step r =
    rw (le-leb 0 step.0 (least step.0), le-leb step.0 4294967295 r.parent_small, le-leb 0 step.1.0 (least step.1.0), le-leb step.1.0 4294967295 r.segment_small)

pub segment_again : (segment : SegmentNo) → IsSmall segment.0 → IsReadAgain segment_no_form segment_shown segment
segment_again segment small = ap (λ r. r >>= λ n. Ok (record { 0 = n })) (small_again segment.0 small)

-- a list of things that are each read again where they are readable
pub list_again : {X : Type 0} (form : Data → Result X (List ℕ)) (shows : X → Data) (P : X → Type 0) → ((x : X) → P x → IsReadAgain form shows x) → (xs : List X) → IsFew xs → All P xs → list form (array_of (map shows xs)) ≡ Ok xs
list_again form shows P again xs few each = list-array form shows xs few (All-weaker P (IsReadAgain form shows) again xs each)

pub set_again : (line : SetLine) → IsSetReadable line → IsReadAgain set_form set_shown line
unfolding set_form
set_again line r =
    rw (
      small_again line.net.0 r.net_small,
      small_again line.mask r.mask_small,
      wide_again line.cost r.cost_wide,
      small_again line.row r.row_small,
      list_again step_form step_shown IsStepReadable step_again line.layout.steps r.few_steps r.each_step,
      list_again small_form whole IsSmall small_again line.layout.hangs r.few_hangs r.each_hang,
    )

pub wire_again : (w : Wire) → IsWireReadable w → IsReadAgain wire_form wire_shown w
unfolding wire_form
wire_again w r =
    rw (
      small_again w.net.0 r.net_small,
      end_again w.from r.from_readable,
      end_again w.to r.to_readable,
      list_again segment_no_form segment_shown (λ segment. IsSmall segment.0) segment_again w.route r.few_segments r.each_segment,
      wide_again w.length r.length_wide,
      small_again w.row r.row_small,
    )

pub module_again : (part : Module) → IsModuleReadable part → IsReadAgain module_form module_shown part
unfolding module_form
module_again part r =
    rw (
      small_again part.harness r.harness_small,
      small_again part.row r.row_small,
      list_again small_form whole IsSmall small_again part.wires r.few_wires r.each_wire,
    )
