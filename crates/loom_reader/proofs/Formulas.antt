use Rattle.std.proofs.Common.{◌≡◌, ℕ, suc, List, [], ◌∷◌, map, Ok, decimal, Vec, Global, refl, ap, ◌∙◌}
use Rattle.serde_json.specs.Data.{Data, array}
use Rattle.serde_json.specs.View.{view, items_of}
use Rattle.serde_json.specs.declared.value.Value.{Value, Array}
use Rattle.serde_json.proofs.Views.{view-Array}
use Rattle.loom_base.specs.First.{◌>>=◌}
use Rattle.loom_json.specs.Forms.{under, each}
use Rattle.loom_json.proofs.Again.{list_of-items_of}
use Rattle.loom_reader.specs.Formula.{formula_form, members_form, compound_form}

-- members are elements that are each read as a formula
members_form-each : (position : ℕ) (ds : List Data) → members_form position (items_of ds) ≡ each formula_form position ds
members_form-each position [] = refl
members_form-each position (d ∷ ds) = ap (λ rest. under (decimal position) (formula_form d) >>= λ f. rest >>= λ fs. Ok (f ∷ fs)) (members_form-each (suc position) ds)

-- an array is read as the formula of its elements
pub formula_form-items : (ds : List Data) → formula_form (array (items_of ds)) ≡ compound_form ds
unfolding compound_form
formula_form-items [] = refl
formula_form-items (d ∷ ds) = rw (list_of-items_of ds, members_form-each 1 ds) refl

pub formula_form-Array : (v : Vec Value Global) → formula_form (view (Array v)) ≡ compound_form (map view v.items)
formula_form-Array v = ap formula_form (view-Array v) ∙ formula_form-items (map view v.items)
