-- A sound draft with names and numbers is told in full.
use Rattle.std.proofs.Common.{◌≡◌, ℕ, ◌+◌, ◌≤◌, ◌&&◌, Bool, true, false, nat_le, List, [], ◌∷◌, ◌++◌, length, Ok, refl, arith}
use Rattle.std.specs.List.{All}
use Rattle.std.proofs.lemmas.Bool.{and_parts, leb-true}
use Rattle.std.proofs.lemmas.List.Elements.{All-nil, All-cons}
use Rattle.loom_base.specs.First.{Check, require, every, each, each_after}
use Rattle.loom_base.specs.declared.limits.Which.{Which}
use Rattle.loom_base.specs.declared.limits.Which.TheVariants as limits
use Rattle.loom_base.specs.declared.limits.TheConstants.{MAX_ELEMENTS}
use Rattle.loom_base.proofs.EachLemmas.{then-parts}
use Rattle.loom_formula.specs.declared.formula.Formula.{Formula}
use Rattle.loom_formula.specs.Formula.{nodes_of, depth_of}
use Rattle.loom_topology.specs.declared.kind.Kind.{Kind}
use Rattle.loom_topology.specs.declared.kind.Kind.TheVariants.{Run, Coupler}
use Rattle.loom_project.specs.declared.draft.Draft.{Draft}
use Rattle.loom_project.specs.declared.draft.NodeDraft.{NodeDraft}
use Rattle.loom_project.specs.declared.draft.SegmentDraft.{SegmentDraft}
use Rattle.loom_project.specs.declared.draft.TerminalDraft.{TerminalDraft}
use Rattle.loom_project.specs.declared.draft.NetDraft.{NetDraft}
use Rattle.loom_project.specs.declared.fault.ProjectFault.{ProjectFault}
use Rattle.loom_project.specs.Draft.{pins_of, segment_names, cavity_names, net_names, rule_nodes, terminal_nodes, net_nodes}
use Rattle.loom_project.specs.Sound.{within_limit, options_check, formula_check, rules_check, nodes_check, pin_check, segment_check, segments_check, cavities_check, terminal_check, terminals_check, net_check, nets_check, draft_check}
use Rattle.loom_reader.specs.Written.{IsPin, FormulaHasNames, IsWrittenKind, IsWrittenSegment, IsWrittenTerminal, IsWrittenNet, IsWrittenDraft}
use Rattle.loom_reader.proofs.ToldParts.{IsToldFormula, IsToldKind, IsToldSegment, IsToldTerminal, IsToldNet, IsToldDraft}
use Rattle.loom_reader.proofs.Widths.{ReservesFew}

-- ---- what passes

required_holds : {F : Type 0} (b : Bool) (failure : F) → require b failure ≡ Ok tt → b ≡ true
required_holds true failure e = refl
required_holds false failure e = absurd (cc)

within : (which : Which) (limit count : ℕ) → within_limit which limit count ≡ Ok tt → count ≤ limit
within which limit count e = leb-true count limit (required_holds (nat_le count limit) _ e)

sixty_four_fit : 64 ≤ MAX_ELEMENTS
sixty_four_fit = omega arith

twelve_fit : 12 ≤ MAX_ELEMENTS
twelve_fit = omega arith

few_of : (limit count : ℕ) → limit ≤ MAX_ELEMENTS → count ≤ limit → count ≤ MAX_ELEMENTS
few_of limit count small few = omega (arith, small, few)

-- an element passed, with some elements before it
record Passed {A F : Type 0} (check : List A → A → Check F) (x : A) : Type 0 where
  before : List A
  passes : check before x ≡ Ok tt

each_passed : {A F : Type 0} (check : List A → A → Check F) (before xs : List A) → each_after check before xs ≡ Ok tt → All (Passed check) xs
each_passed check before [] e = All-nil (Passed check)
each_passed check before (x ∷ xs) e =
    let p = then-parts (check before x) (each_after check (before ++ x ∷ []) xs) tt e in
    All-cons (Passed check) x xs (record { before = before; passes = p.0 }) (each_passed check (before ++ x ∷ []) xs p.1)

every_passed : {A F : Type 0} (check : A → Check F) (xs : List A) → every check xs ≡ Ok tt → All (λ x. check x ≡ Ok tt) xs
every_passed check [] e = All-nil (λ x. check x ≡ Ok tt)
every_passed check (x ∷ xs) e =
    let p = then-parts (check x) (every check xs) tt e in
    All-cons (λ x. check x ≡ Ok tt) x xs p.0 (every_passed check xs p.1)

both : {X : Type 0} (P Q R : X → Type 0) → ((x : X) → P x → Q x → R x) → (xs : List X) → All P xs → All Q xs → All R xs
both P Q R f xs ps qs k d in_list = f _ (ps k d in_list) (qs k d in_list)

-- ---- formulas

formula_sound : (options : List (List ℕ)) (counted : ℕ) (f : Formula) → formula_check options counted f ≡ Ok tt → FormulaHasNames f → IsToldFormula f
unfolding formula_check
formula_sound options counted f e named =
    let p = then-parts (within_limit limits.FormulaDepth 64 (depth_of f)) _ tt e in
    let q = then-parts _ (within_limit limits.FormulaNodes 65536 (counted + nodes_of f)) tt p.1 in
    record {
      told = named;
      shallow = within limits.FormulaDepth 64 (depth_of f) p.0;
      few = omega (arith, within limits.FormulaNodes 65536 (counted + nodes_of f) q.1);
    }

-- ---- segments

pin_sound : (name : List ℕ) (pins pin : ℕ) → pin_check name pins pin ≡ Ok tt → (1 ≤ pin) × (pin ≤ pins)
pin_sound name pins pin e =
    let p = and_parts (nat_le 1 pin) (nat_le pin pins) (required_holds (nat_le 1 pin && nat_le pin pins) _ e) in
    (leb-true 1 pin p.0, leb-true pin pins p.1)

no_pins : (name : List ℕ) (reserved : List ℕ) → every (pin_check name 0) reserved ≡ Ok tt → reserved ≡ []
no_pins name [] e = refl
no_pins name (pin ∷ pins) e =
    let p = then-parts (pin_check name 0 pin) (every (pin_check name 0) pins) tt e in
    let within_none = pin_sound name 0 pin p.0 in
    absurd (omega (arith, within_none.0, within_none.1))

few_pins : (name : List ℕ) (pins : ℕ) (reserved : List ℕ) → pins ≤ 512 → every (pin_check name pins) reserved ≡ Ok tt → All IsPin reserved
few_pins name pins [] few e = All-nil IsPin
few_pins name pins (pin ∷ more) few e =
    let p = then-parts (pin_check name pins pin) (every (pin_check name pins) more) tt e in
    let is = pin_sound name pins pin p.0 in
    All-cons IsPin pin more (record { low = is.0; high = omega (arith, is.1, few) }) (few_pins name pins more few p.1)

kind_sound : (kind : Kind) (name : List ℕ) (reserved : List ℕ) → every (pin_check name (pins_of kind)) reserved ≡ Ok tt → ((price pins : ℕ) → kind ≡ Coupler price pins → length reserved ≤ MAX_ELEMENTS) → IsWrittenKind kind → IsToldKind kind reserved
kind_sound (Run length) name reserved e few is = (is, no_pins name reserved e)
kind_sound (Coupler price pins) name reserved e few is = (is.0, is.1, record { short = few price pins refl; each = few_pins name pins reserved is.1.high e })

segment_sound : (nodes : List NodeDraft) (taken : List (List ℕ)) (segment : SegmentDraft) → segment_check nodes taken segment ≡ Ok tt → ReservesFew MAX_ELEMENTS segment → IsWrittenSegment segment → IsToldSegment segment
unfolding segment_check
segment_sound nodes taken segment e few is =
    let p = then-parts _ _ tt e in
    let q = then-parts (within_limit limits.Bars 64 (length segment.bars)) _ tt p.1 in
    let r = then-parts _ (every (pin_check segment.name (pins_of segment.kind)) segment.reserved) tt q.1 in
    record {
      name = is.name;
      from = is.from;
      to = is.to;
      kind = kind_sound segment.kind segment.name segment.reserved r.1 few is.kind;
      bars = record { short = few_of 64 (length segment.bars) sixty_four_fit (within limits.Bars 64 (length segment.bars) q.0); each = is.bars };
    }

-- ---- nets

terminal_sound : (options cavities : List (List ℕ)) (counted : ℕ) (net : List ℕ) (before : List TerminalDraft) (terminal : TerminalDraft)
    → terminal_check options cavities counted net before terminal ≡ Ok tt → IsWrittenTerminal terminal → IsToldTerminal terminal
unfolding terminal_check
terminal_sound options cavities counted net before terminal e is =
    let p = then-parts _ _ tt e in
    let q = then-parts _ (formula_check options counted terminal.when) tt p.1 in
    record { cavity = is.cavity; when = formula_sound options counted terminal.when q.1 is.when }

-- a net's terminals are checked with those before them
abbrev terminal_after : List (List ℕ) → List (List ℕ) → ℕ → List ℕ → List TerminalDraft → TerminalDraft → Check ProjectFault
terminal_after options cavities counted net before terminal = terminal_check options cavities (counted + terminal_nodes before) net before terminal

net_sound : (options cavities : List (List ℕ)) (counted : ℕ) (taken : List (List ℕ)) (net : NetDraft) → net_check options cavities counted taken net ≡ Ok tt → IsWrittenNet net → IsToldNet net
unfolding net_check terminals_check
net_sound options cavities counted taken net e is =
    let p = then-parts _ _ tt e in
    let q = then-parts (within_limit limits.Terminals 12 (length net.terminals)) _ tt p.1 in
    let check = terminal_after options cavities counted net.name in
    let r = then-parts _ (each check net.terminals) tt q.1 in
    let passed = each_passed check [] net.terminals r.1 in
    record {
      name = is.name;
      class = is.class;
      terminals = record {
        short = few_of 12 (length net.terminals) twelve_fit (within limits.Terminals 12 (length net.terminals) q.0);
        each = both (Passed check) IsWrittenTerminal IsToldTerminal (λ terminal pass written. terminal_sound options cavities (counted + terminal_nodes pass.before) net.name pass.before terminal pass.passes written) net.terminals passed is.terminals;
      };
    }

-- ---- the draft

-- a segment with names and numbers that reserves few pins
abbrev IsFewSegment : SegmentDraft → Type 0
IsFewSegment segment = IsWrittenSegment segment × ReservesFew MAX_ELEMENTS segment

module _ (draft : Draft) where
  abbrev rule_after : List Formula → Formula → Check ProjectFault
  rule_after before rule = formula_check draft.options (rule_nodes before) rule

  abbrev segment_after : List SegmentDraft → SegmentDraft → Check ProjectFault
  segment_after before segment = segment_check draft.nodes (segment_names before) segment

  abbrev net_after : List NetDraft → NetDraft → Check ProjectFault
  net_after before net = net_check draft.options (cavity_names draft.cavities) (rule_nodes draft.rules + net_nodes before) (net_names before) net

pub sound_told : (draft : Draft) → draft_check draft ≡ Ok tt → All (ReservesFew MAX_ELEMENTS) draft.segments → IsWrittenDraft draft → IsToldDraft draft
unfolding draft_check options_check rules_check nodes_check segments_check cavities_check nets_check
sound_told draft e reserves is =
    let options = then-parts _ _ tt e in
    let rules = then-parts _ _ tt options.1 in
    let nodes = then-parts _ _ tt rules.1 in
    let segments = then-parts _ _ tt nodes.1 in
    let cavities = then-parts _ _ tt segments.1 in
    let few_options = then-parts (within_limit limits.Options 512 (length draft.options)) _ tt options.0 in
    let few_rules = then-parts (within_limit limits.Rules 1024 (length draft.rules)) _ tt rules.0 in
    let few_nodes = then-parts (within_limit limits.Nodes 1024 (length draft.nodes)) _ tt nodes.0 in
    let few_segments = then-parts (within_limit limits.Segments 4096 (length draft.segments)) _ tt segments.0 in
    let few_cavities = then-parts (within_limit limits.Cavities 8192 (length draft.cavities)) _ tt cavities.0 in
    let few_nets = then-parts (within_limit limits.Nets 2048 (length draft.nets)) _ tt cavities.1 in
    record {
      options = record { short = omega (arith, within limits.Options 512 (length draft.options) few_options.0); each = is.options };
      rules = record {
        short = omega (arith, within limits.Rules 1024 (length draft.rules) few_rules.0);
        each = both (Passed (rule_after draft)) FormulaHasNames IsToldFormula (λ f pass named. formula_sound draft.options (rule_nodes pass.before) f pass.passes named) draft.rules (each_passed (rule_after draft) [] draft.rules few_rules.1) is.rules;
      };
      nodes = record { short = omega (arith, within limits.Nodes 1024 (length draft.nodes) few_nodes.0); each = is.nodes };
      segments = record {
        short = omega (arith, within limits.Segments 4096 (length draft.segments) few_segments.0);
        each = both (Passed (segment_after draft)) IsFewSegment IsToldSegment (λ s pass written. segment_sound draft.nodes (segment_names pass.before) s pass.passes written.1 written.0) draft.segments (each_passed (segment_after draft) [] draft.segments few_segments.1) (both IsWrittenSegment (ReservesFew MAX_ELEMENTS) IsFewSegment (λ s written few. (written, few)) draft.segments is.segments reserves);
      };
      cavities = record { short = omega (arith, within limits.Cavities 8192 (length draft.cavities) few_cavities.0); each = is.cavities };
      nets = record {
        short = omega (arith, within limits.Nets 2048 (length draft.nets) few_nets.0);
        each = both (Passed (net_after draft)) IsWrittenNet IsToldNet (λ net pass written. net_sound draft.options (cavity_names draft.cavities) (rule_nodes draft.rules + net_nodes pass.before) (net_names pass.before) net pass.passes written) draft.nets (each_passed (net_after draft) [] draft.nets few_nets.1) is.nets;
      };
    }
