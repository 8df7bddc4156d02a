-- The degrees of points, from two counts.
use Rattle.std.proofs.Common.{◌≡◌, ℕ, ◌+◌, ◌<◌, inl, inr, cond, List, length, map, get_or, replicate, take, sym, ap, ◌∙◌, arith, eqb}
use Rattle.std.specs.List.{count_by}
use Rattle.std.proofs.Math.ListN.{set}
use Rattle.std.proofs.lemmas.Bool.{cases_eq, eq-eqb, ne_eqb}
use Rattle.std.proofs.lemmas.List.{length-replicate, length-set, get_or-replicate, get_or-set_same, get_or-set_other, get_or_read}
use Rattle.std.proofs.lemmas.List.Folds.{fold-map}
use Rattle.std.proofs.lemmas.List.Sums.{count_by_more_yes, count_by_more_no}
use Rattle.loom_topology.specs.WiringTree.{Tree}
use Rattle.loom_topology.specs.TreeCost.{degree_of}
use Rattle.loom_audit.specs.Degrees.{AreCounted, AreDegrees}

pub degrees_are : (tree : Tree) (points : ℕ) (ones steps both : List ℕ)
    → ones ≡ replicate points 1 → points ≡ length tree.steps + 1
    → AreCounted ones (map (λ step. step.parent) tree.steps) steps → AreCounted steps tree.hangs both → AreDegrees tree both
unfolding degree_of
degrees_are tree points ones steps both same counted first second =
    let long : length ones ≡ points = ap length same ∙ length-replicate points 1 in
    record {
      count = omega (arith, first.same, second.same);
      each = λ p below.
          let one : get_or ones p 0 ≡ 1 = ap (λ (l : List ℕ). get_or l p 0) same ∙ get_or-replicate points p 1 0 (omega (arith, first.same, second.same, long, below)) in
          let parents : count_by (λ point. eqb point p) (map (λ step. step.parent) tree.steps) ≡ count_by (λ step. eqb step.parent p) tree.steps =
          fold-map (λ n point. n + cond (eqb point p) 1 0) (λ step. step.parent) 0 tree.steps in
          omega (
            arith,
            one,
            parents,
            first.risen p (omega (arith, first.same, second.same, below)),
            second.risen p (omega (arith, second.same, below)),
          );
    }

-- one more point is counted
pub counted_more : (old points counts later : List ℕ) (k before now : ℕ) → k < length points → get_or points k 0 < length old
    → AreCounted old (take k points) counts → before ≡ get_or counts (get_or points k 0) before → now ≡ before + 1
    → later ≡ set counts (get_or points k 0) now → AreCounted old (take (k + 1) points) later
counted_more old points counts later k before now within there counted read risen put =
    let point : ℕ = get_or points k 0 in
    let first : before ≡ get_or counts point 0 = get_or_read counts point before (omega (arith, counted.same, there)) read 0 in
    record {
      same = ap length put ∙ (length-set counts point now ∙ counted.same);
      risen = λ at below.
          ap (λ (l : List ℕ). get_or l at 0) put
          ∙ elim (cases_eq at point) as (λ _. get_or (set counts point now) at 0
          ≡ get_or old at 0 + count_by (λ p. eqb p at) (take (k + 1) points)) [
            | inl same ↦
                ap (λ (n : ℕ). get_or (set counts point now) n 0) same
                ∙ (get_or-set_same counts point now 0 (omega (arith, counted.same, there))
                ∙ omega (
                  arith,
                  first,
                  risen,
                  counted.risen at below,
                  ap (λ (n : ℕ). get_or counts n 0) same,
                  count_by_more_yes (λ p. eqb p at) points k 0 within (eq-eqb point at (sym same)),
                ))
            | inr other ↦
                get_or-set_other counts point at now 0 other
                ∙ (counted.risen at below
                ∙ ap (λ (n : ℕ). get_or old at 0 + n)
                (sym (count_by_more_no (λ p. eqb p at) points k 0 within (ne_eqb point at (λ e. other (sym e))))))
          ];
    }
