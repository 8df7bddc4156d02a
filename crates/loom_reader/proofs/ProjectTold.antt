-- What is shown of a project in the forms of a version is read as that project, and is plain.
use Rattle.std.proofs.Common.{◌≡◌, ℕ, suc, ◌≤◌, List, [], Bool, true, false, Ok, refl, sym, arith}
use Rattle.std.specs.List.{All}
use Rattle.std.proofs.lemmas.Bool.{le-leb}
use Rattle.serde_json.specs.Data.{string}
use Rattle.loom_topology.specs.declared.kind.Kind.{Kind}
use Rattle.loom_topology.specs.declared.kind.Kind.TheVariants.{Run, Coupler}
use Rattle.loom_project.specs.declared.draft.Draft.{Draft}
use Rattle.loom_project.specs.declared.draft.SegmentDraft.{SegmentDraft}
use Rattle.loom_project.specs.declared.draft.TerminalDraft.{TerminalDraft}
use Rattle.loom_project.specs.declared.draft.NetDraft.{NetDraft}
use Rattle.loom_json.specs.Forms.{name_form}
use Rattle.loom_answer.specs.Values.{whole}
use Rattle.loom_answer.specs.Projects.{formula_shown, node_shown, run_shown, coupler_shown, kind_shown, segment_draft_shown, cavity_shown, terminal_shown, net_shown, project_shown}
use Rattle.loom_reader.specs.Formula.{formula_form}
use Rattle.loom_reader.specs.Parts.{pin_form, node_form, run_form, coupler_form, segment_form, cavity_form, terminal_form, net_form}
use Rattle.loom_reader.specs.Project.{project_form}
use Rattle.loom_reader.proofs.Plain.{IsPlain}
use Rattle.loom_reader.proofs.Told.{Told, list_told, name_ascii, name_told, pin_told, node_told, cavity_told}
use Rattle.loom_reader.proofs.FormulasTold.{formula_told}
use Rattle.loom_reader.specs.Written.{IsName, IsPin, IsPrice, IsWrittenNode, IsWrittenCavity}
use Rattle.loom_reader.specs.ReadBack.{SegmentFits, NetFits, DraftFits}
use Rattle.loom_reader.proofs.ToldParts.{AreTold, IsToldFormula, IsToldKind, IsToldSegment, IsToldTerminal, IsToldNet, IsToldDraft}

terminal_told : (n : ℕ) (terminal : TerminalDraft) → 64 ≤ n → IsToldTerminal terminal → Told terminal_form terminal_shown (suc n) terminal
unfolding terminal_form
terminal_told n terminal room is =
    let when = formula_told n terminal.when room is.when in
    record { again = rw (is.cavity, when.again); plain = (refl, (name_ascii terminal.cavity is.cavity, (when.plain, tt))) }

-- the version in whose forms a draft is shown
abbrev pub version_of : Bool → ℕ
version_of true = 2
version_of false = 1

-- ---- segments

first_run : (n length : ℕ) (segment : SegmentDraft) → IsToldSegment segment → IsPrice length → segment.kind ≡ Run length → segment.bars ≡ [] → segment.reserved ≡ []
    → (segment_form 1 (run_shown false segment length) ≡ Ok segment) × IsPlain (run_shown false segment length) (suc n)
unfolding segment_form run_form
first_run n length segment is price kind bars reserved = (
  rw (is.name, is.from, is.to, le-leb 1 length price.low, le-leb length 1000000 price.high, sym kind, sym bars, sym reserved),
  (refl, (name_ascii segment.from is.from, (omega (arith, price.high), (name_ascii segment.name is.name, (name_ascii segment.to is.to, tt))))),
)

second_run : (n length : ℕ) (segment : SegmentDraft) → IsToldSegment segment → IsPrice length → segment.kind ≡ Run length → segment.reserved ≡ []
    → (segment_form 2 (run_shown true segment length) ≡ Ok segment) × IsPlain (run_shown true segment length) (suc (suc n))
unfolding segment_form run_form
second_run n length segment is price kind reserved =
    let bars = list_told name_form string n IsName segment.bars (name_told n) is.bars in (
      rw (is.name, is.from, is.to, le-leb 1 length price.low, le-leb length 1000000 price.high, bars.again, sym kind, sym reserved),
      (refl, (bars.plain, (name_ascii segment.from is.from, (omega (arith, price.high), (name_ascii segment.name is.name, (name_ascii segment.to is.to, tt)))))),
    )

first_coupler : (n price pins : ℕ) (segment : SegmentDraft) → IsToldSegment segment → IsPrice price → IsPin pins → segment.kind ≡ Coupler price pins → segment.bars ≡ [] → segment.reserved ≡ []
    → (segment_form 1 (coupler_shown false segment price pins) ≡ Ok segment) × IsPlain (coupler_shown false segment price pins) (suc n)
unfolding segment_form coupler_form
first_coupler n price pins segment is costs has kind bars reserved = (
  rw (is.name, is.from, is.to, le-leb 1 price costs.low, le-leb price 1000000 costs.high, le-leb 1 pins has.low, le-leb pins 512 has.high, sym kind, sym bars, sym reserved),
  (refl, (name_ascii segment.from is.from, (name_ascii segment.name is.name, (omega (arith, has.high), (omega (arith, costs.high), (name_ascii segment.to is.to, tt)))))),
)

second_coupler : (n price pins : ℕ) (segment : SegmentDraft) → IsToldSegment segment → IsPrice price → IsPin pins → segment.kind ≡ Coupler price pins → AreTold IsPin segment.reserved
    → (segment_form 2 (coupler_shown true segment price pins) ≡ Ok segment) × IsPlain (coupler_shown true segment price pins) (suc (suc n))
unfolding segment_form coupler_form
second_coupler n price pins segment is costs has kind are =
    let bars = list_told name_form string n IsName segment.bars (name_told n) is.bars in
    let reserved = list_told pin_form whole n IsPin segment.reserved (pin_told n) are in (
      rw (is.name, is.from, is.to, le-leb 1 price costs.low, le-leb price 1000000 costs.high, le-leb 1 pins has.low, le-leb pins 512 has.high, bars.again, reserved.again, sym kind),
      (refl, (bars.plain, (name_ascii segment.from is.from, (name_ascii segment.name is.name, (omega (arith, has.high), (omega (arith, costs.high), (reserved.plain, (name_ascii segment.to is.to, tt)))))))),
    )

kind_told : (second : Bool) (n : ℕ) (segment : SegmentDraft) (kind : Kind) → segment.kind ≡ kind → IsToldSegment segment → IsToldKind kind segment.reserved → SegmentFits second segment
    → (segment_form (version_of second) (kind_shown second segment kind) ≡ Ok segment) × IsPlain (kind_shown second segment kind) (suc (suc n))
kind_told true n segment (Run length) kind is told fits = second_run n length segment is told.0 kind told.1
kind_told false n segment (Run length) kind is told fits = first_run (suc n) length segment is told.0 kind fits.0 fits.1
kind_told true n segment (Coupler price pins) kind is told fits = second_coupler n price pins segment is told.0 told.1 kind told.2
kind_told false n segment (Coupler price pins) kind is told fits = first_coupler (suc n) price pins segment is told.0 told.1 kind fits.0 fits.1

-- a segment that a version tells
record FitSegment (second : Bool) (segment : SegmentDraft) : Type 0 where
  told : IsToldSegment segment
  fits : SegmentFits second segment

segment_told : (second : Bool) (n : ℕ) (segment : SegmentDraft) → FitSegment second segment → Told (segment_form (version_of second)) (segment_draft_shown second) (suc (suc n)) segment
segment_told second n segment is = let both = kind_told second n segment segment.kind refl is.told is.told.kind is.fits in record { again = both.0; plain = both.1 }

-- ---- nets

-- a net that a version tells
record FitNet (second : Bool) (net : NetDraft) : Type 0 where
  told : IsToldNet net
  fits : NetFits second net

net_told : (second : Bool) (n : ℕ) (net : NetDraft) → 64 ≤ n → FitNet second net → Told (net_form (version_of second)) (net_shown second) (suc (suc (suc n))) net
unfolding net_form
net_told true n net room is =
    let terminals = list_told terminal_form terminal_shown (suc n) IsToldTerminal net.terminals (λ terminal. terminal_told n terminal room) is.told.terminals in
    record {
      again = rw (is.told.name, is.told.class, terminals.again);
      plain = (refl, (name_ascii net.class is.told.class, (name_ascii net.name is.told.name, (terminals.plain, tt))));
    }
net_told false n net room is =
    let terminals = list_told terminal_form terminal_shown (suc n) IsToldTerminal net.terminals (λ terminal. terminal_told n terminal room) is.told.terminals in
    record {
      again = rw (is.told.name, terminals.again, sym is.fits);
      plain = (refl, (name_ascii net.name is.told.name, (terminals.plain, tt)));
    }

-- ---- the project

zipped : {X : Type 0} (P Q R : X → Type 0) → ((x : X) → P x → Q x → R x) → (xs : List X) → All P xs → All Q xs → All R xs
zipped P Q R f xs ps qs k d within = f _ (ps k d within) (qs k d within)

pub project_told : (second : Bool) (n : ℕ) (draft : Draft) → 64 ≤ n → IsToldDraft draft → DraftFits second draft → Told (project_form (version_of second)) (project_shown second) (suc (suc (suc (suc (suc n))))) draft
unfolding project_form
project_told second n draft room is fits =
    let deep = suc (suc (suc n)) in
    let options = list_told name_form string deep IsName draft.options (name_told deep) is.options in
    let rules = list_told formula_form formula_shown deep IsToldFormula draft.rules (λ f. formula_told deep f (omega (arith, room))) is.rules in
    let nodes = list_told node_form node_shown deep IsWrittenNode draft.nodes (node_told (suc (suc n))) is.nodes in
    let fit_segments : AreTold (FitSegment second) draft.segments = record {
      short = is.segments.short;
      each = zipped IsToldSegment (SegmentFits second) (FitSegment second) (λ s told fit. record { told = told; fits = fit }) draft.segments is.segments.each fits.segments;
    } in
    let segments = list_told (segment_form (version_of second)) (segment_draft_shown second) deep (FitSegment second) draft.segments (segment_told second (suc n)) fit_segments in
    let cavities = list_told cavity_form cavity_shown deep IsWrittenCavity draft.cavities (cavity_told (suc (suc n))) is.cavities in
    let fit_nets : AreTold (FitNet second) draft.nets = record {
      short = is.nets.short;
      each = zipped IsToldNet (NetFits second) (FitNet second) (λ s told fit. record { told = told; fits = fit }) draft.nets is.nets.each fits.nets;
    } in
    let nets = list_told (net_form (version_of second)) (net_shown second) deep (FitNet second) draft.nets (λ net. net_told second n net room) fit_nets in
    record {
      again = rw (options.again, rules.again, nodes.again, segments.again, cavities.again, nets.again);
      plain = (refl, (cavities.plain, (nets.plain, (nodes.plain, (options.plain, (rules.plain, (segments.plain, tt)))))));
    }
