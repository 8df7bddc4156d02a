use Rattle.std.proofs.Common.{◌≡◌, ◌^◌, ◌<◌, ◌∙◌, ℕ, sym, ap, arith}
use Rattle.std.specs.Int.{w32, trailing_zeros}
use Rattle.std.proofs.lemmas.Bool.{eqb-true, eqb-false}
use Rattle.loom_base.specs.declared.positions.CavityNo.{CavityNo}
use Rattle.loom_layout.proofs.OneCavity.{shifted, lone_bit, bit_in_terminals, is_one_at, of_one_at}
use Rattle.loom_layout.proofs.rule.one_at.Goals as goal
use Rattle.loom_layout.proofs.rule.one_at.Goals.{else-mask-bit-via-then-mask-bit+else-eq, else-mask-bit-via-else-mask-bit}

pub bounds-terminals-bit : goal.bounds-terminals-bit
bounds-terminals-bit c =
    let fits : c.args.mask < 2 ^ 32 = omega arith in
    let power : c.args.mask ≡ 2 ^ trailing_zeros w32 c.args.mask = c.if-mask-bit.true ∙ shifted c.args.mask c.requires.mask.0 fits in
    bit_in_terminals c.args.topology.now c.args.terminals.now c.args.mask c.args.node.0 (trailing_zeros w32 c.args.mask) c.requires.mask power

pub returns-then-eq : goal.returns-then-eq
returns-then-eq c =
    let none : CavityNo = record { 0 = 0 } in
    let fits : c.args.mask < 2 ^ 32 = omega arith in
    let power : c.args.mask ≡ 2 ^ trailing_zeros w32 c.args.mask = c.if-mask-bit.true ∙ shifted c.args.mask c.requires.mask.0 fits in
    is_one_at c.args.topology.now c.args.terminals.now c.args.mask c.args.node.0 (trailing_zeros w32 c.args.mask) c.requires.mask none power
    (sym c.cavity_node.ensures.node ∙ eqb-true c.cavity_node.result.0 c.args.node.0 (sym c.eq.ensures ∙ c.if-eq.true))

pub returns-else-mask-bit : goal.returns-else-mask-bit
returns-else-mask-bit c = λ i one.
    let none : CavityNo = record { 0 = 0 } in
    let fits : c.args.mask < 2 ^ 32 = omega arith in
    let lowest : i ≡ trailing_zeros w32 c.args.mask = lone_bit c.args.mask i c.requires.mask.0 fits one.1 in
    elim c.else-mask-bit.branch [
      | else-mask-bit-via-then-mask-bit+else-eq w ↦
          eqb-false w.cavity_node.result.0 c.args.node.0 (sym w.eq.ensures ∙ w.if-eq.false)
          (w.cavity_node.ensures.node ∙ of_one_at c.args.topology.now c.args.terminals.now c.args.mask c.args.node.0
          (trailing_zeros w32 c.args.mask) c.requires.mask none i lowest one)
      | else-mask-bit-via-else-mask-bit w ↦
          w.if-mask-bit.false (one.1 ∙ (ap (λ (k : ℕ). 2 ^ k) lowest ∙ sym (shifted c.args.mask c.requires.mask.0 fits)))
    ]
