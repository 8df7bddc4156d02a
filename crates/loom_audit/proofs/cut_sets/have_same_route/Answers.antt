use Rattle.std.proofs.Common.{◌≡◌, ℕ, eqb, Decides, sym, ap, ◌∙◌}
use Rattle.std.proofs.lemmas.Bool.{eqb-true, eq-eqb, false≢true}
use Rattle.std.proofs.lemmas.Slice.Eq.{slice_eq-Decides}
use Rattle.loom_base.specs.declared.positions.SegmentNo.{SegmentNo}
use Rattle.loom_audit.proofs.cut_sets.have_same_route.Goals as goal

same_segment : (a b : SegmentNo) → Decides (eqb a.0 b.0) (a ≡ b)
same_segment a b = (λ e. ap (λ (n : ℕ). record { 0 = n }) (eqb-true a.0 b.0 e), λ e. eq-eqb a.0 b.0 (ap (λ (s : SegmentNo). s.0) e))

pub returns-then-eq : goal.returns-then-eq
returns-then-eq c =
    let d = slice_eq-Decides same_segment c.as_slice.result.now c.as_slice-2.result.now c.eq.result c.eq.ensures in (
      λ e. (sym c.as_slice.ensures ∙ d.0 c.if-eq.true ∙ c.as_slice-2.ensures, eqb-true c.args.one.now.length c.args.other.now.length e),
      λ p. eq-eqb c.args.one.now.length c.args.other.now.length p.1,
    )

pub returns-else-eq : goal.returns-else-eq
returns-else-eq c =
    let d = slice_eq-Decides same_segment c.as_slice.result.now c.as_slice-2.result.now c.eq.result c.eq.ensures in (
      λ e. absurd (false≢true (sym c.if-eq.false ∙ e)),
      λ p. d.1 (c.as_slice.ensures ∙ p.0 ∙ sym c.as_slice-2.ensures),
    )
