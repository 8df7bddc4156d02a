use Rattle.std.proofs.Common.{◌≡◌, map, sym, ap, ◌∙◌, subst}
use Rattle.serde_json.specs.View.{view}
use Rattle.loom_json.specs.Forms.{Gives}
use Rattle.loom_reader.specs.Formula.{formula_form, compound_form}
use Rattle.loom_reader.proofs.Formulas.{formula_form-Array}
use Rattle.loom_reader.proofs.formula.+reading.Goals as goal

pub read_formula-returns-in-Array : goal.read_formula-returns-in-Array
read_formula-returns-in-Array t c =
    let elements : compound_form (map view c.deref.result.now) ≡ compound_form (map view c.in-Array.elements.items) =
    ap (λ vs. compound_form (map view vs)) c.deref.ensures.value in
    let seen : formula_form (view c.args.value.now) ≡ compound_form (map view c.deref.result.now) =
    ap (λ v. formula_form (view v)) c.in-Array.is ∙ formula_form-Array c.in-Array.elements ∙ sym elements in
    subst (λ r. Gives c.read_compound.result r) (sym seen) c.read_compound.ensures
