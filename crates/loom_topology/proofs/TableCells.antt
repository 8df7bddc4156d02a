-- The cells of a table, seen through their codes.
use Rattle.std.proofs.Common.{◌≡◌, ◌≤◌, ◌*◌, ◌^◌, ◌∷◌, map, replicate, ℕ, Option, Some, None, false, eqb, sym, ap, ◌∙◌, refl, arith, subst, cond, zero, suc}
use Rattle.std.specs.Option.{IfSome, ForSome, unwrap_or}
use Rattle.std.proofs.lemmas.Bool.{ne_eqb}
use Rattle.std.proofs.lemmas.List.{length-set, length-replicate}
use Rattle.std.proofs.lemmas.List.Elements.{All-set, All-replicate}
use Rattle.loom_topology.specs.Table.{TableView, IsWhole, with_cell, empty_table, cell_index}
use Rattle.loom_topology.specs.TableInside.{value_of_code}

pub IsWhole-empty_table : (table : TableView) (masks nodes : ℕ) → table ≡ empty_table masks nodes → IsWhole table
IsWhole-empty_table table masks nodes e =
    let P : TableView → Type 0 = λ t. IsWhole t in
    subst P (sym e) (record {
      count = length-replicate (masks * nodes) None;
      small = All-replicate (λ cell. IfSome cell (λ value. value ≤ 2 ^ 40)) (masks * nodes) None tt;
    })

pub IsWhole-with_cell : (old new : TableView) (mask v : ℕ) (value : Option ℕ) → IsWhole old → new ≡ with_cell old mask v value → IfSome value (λ cost. cost ≤ 2 ^ 40) → IsWhole new
IsWhole-with_cell old new mask v value whole e small =
    let P : TableView → Type 0 = λ t. IsWhole t in
    subst P (sym e) (record {
      count = length-set old.cells (cell_index old mask v) value ∙ whole.count;
      small = All-set (λ cell. IfSome cell (λ value. value ≤ 2 ^ 40)) old.cells (cell_index old mask v) value small whole.small;
    })

-- a cost has itself as its code
pub value_of_code-cost : (value : Option ℕ) → ForSome value (λ cost. cost ≤ 2 ^ 40) → value_of_code (unwrap_or value 18446744073709551615) ≡ value
value_of_code-cost None small = refl
value_of_code-cost (Some cost) small =
    let e : eqb cost 18446744073709551615 ≡ false =
    ne_eqb cost 18446744073709551615 (λ e. omega (arith, small cost refl, e)) in
    ap (λ b. cond b None (Some cost)) e

pub small_value : (value : Option ℕ) → ForSome value (λ cost. cost ≤ 2 ^ 40) → IfSome value (λ cost. cost ≤ 2 ^ 40)
small_value None small = tt
small_value (Some cost) small = small cost refl

pub map-replicate : (f : ℕ → Option ℕ) (n : ℕ) (code : ℕ) → map f (replicate n code) ≡ replicate n (f code)
map-replicate f zero code = refl
map-replicate f (suc n) code = ap (λ l. f code ∷ l) (map-replicate f n code)
