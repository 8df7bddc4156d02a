-- A table that takes the cells of another, mask after mask.
use Rattle.std.proofs.Common.{List, [], ◌∷◌, ℕ, suc, Bool, true, false, cond, None, Some, ◌+◌, ◌-◌, ◌*◌, ◌^◌, ◌<◌, ◌≤◌, ◌≡◌, ◌≢◌, Option, map, length, get_or, slice_index, slice_index_or, inl, inr, refl, sym, ap, subst, arith, ◌∙◌}
use Rattle.std.proofs.Math.ListN.{length-set}
use Rattle.std.proofs.lemmas.List.{get_or-set_same, get_or-set_other, get_or-map, length-map}
use Rattle.std.proofs.lemmas.Bool.{cases_lt, cases_eq}
use Rattle.std.specs.Option.{IfSome}
use Rattle.std.specs.Bool.{then_some}
use Rattle.loom_topology.specs.Table.{TableView, cell_at, cell_index, with_cell, IsWhole}
use Rattle.loom_steiner.specs.Scratch.{CopiesRow, scratch_view}
use Rattle.loom_steiner.specs.Row.{cost_from}
use Rattle.loom_steiner.proofs.Growing.{place_within}

-- the cells of the first masks are those of the source
pub record Copies (source : TableView) (done : ℕ) (table : TableView) : Type 0 where
  pub masks : table.masks ≡ source.masks
  pub nodes : table.nodes ≡ source.nodes
  pub len : length table.cells ≡ source.masks * source.nodes
  pub copied : (place : ℕ) → place < done * source.nodes → slice_index_or table.cells place None ≡ slice_index_or source.cells place None

pub copies_more : (source : TableView) (done : ℕ) (table new : TableView) → CopiesRow source (done + 1) source.nodes table new
    → Copies source done table → Copies source (done + 1) new
copies_more source done table new r c = record {
  masks = r.masks ∙ c.masks;
  nodes = r.nodes ∙ c.nodes;
  len = r.len ∙ c.len;
  copied = λ place below.
      (let n = source.nodes in
      let back : done + 1 - 1 ≡ done = omega arith in
      let start : (done + 1 - 1) * n ≡ done * n = ap (λ (m : ℕ). m * n) back in
      elim (cases_lt place (done * n)) [
        | inl lt ↦ r.kept place (omega arith) ∙ c.copied place lt
        | inr ge ↦
            (let v = place - done * n in
            let grown : (done + 1) * n ≡ done * n + n = omega arith in
            let at : (done + 1 - 1) * n + v ≡ place = omega arith in
            let h = r.copied v (omega arith) in
            let new_at : (done + 1 - 1) * new.nodes + v ≡ place = ap (λ (m : ℕ). (done + 1 - 1) * m + v) (r.nodes ∙ c.nodes) ∙ at in
            sym (ap (λ (p : ℕ). slice_index_or new.cells p None) new_at) ∙ (h ∙ ap (λ (p : ℕ). slice_index_or source.cells p None) at))
      ]);
}

-- one cell more
pub copies_row_more : (source initial table : TableView) (mask done : ℕ) → 1 ≤ mask → mask ≤ source.masks → done < source.nodes
    → initial.nodes ≡ source.nodes → length initial.cells ≡ source.masks * source.nodes
    → CopiesRow source mask done initial table
    → CopiesRow source mask (done + 1) initial (with_cell table mask done (cell_at source mask done))
copies_row_more source initial table mask done from to range nodes len c =
    let n = source.nodes in
    let value = cell_at source mask done in
    let place = cell_index table mask done in
    let same_nodes : table.nodes ≡ n = c.nodes ∙ nodes in
    let start : (mask - 1) * table.nodes ≡ (mask - 1) * n = ap (λ (m : ℕ). (mask - 1) * m) same_nodes in
    let inside : place < length table.cells =
    omega (arith, start, c.len, len, place_within mask source.masks n done from to range) in
    record {
      masks = c.masks;
      nodes = c.nodes;
      len = length-set table.cells place value ∙ c.len;
      copied = λ v h. elim (cases_eq v done) [
        | inl e ↦ subst (λ (w : ℕ). cell_at (with_cell table mask done value) mask w ≡ cell_at source mask w) (sym e)
            (get_or-set_same table.cells place value None inside)
        | inr other ↦
            (let apart : (mask - 1) * table.nodes + v ≢ place = omega arith in
            get_or-set_other table.cells place ((mask - 1) * table.nodes + v) value None apart ∙ c.copied v (omega arith))
      ];
      kept = λ k h.
          (let apart : k ≢ place = omega (arith, start) in
          get_or-set_other table.cells place k value None apart ∙ c.kept k h);
    }

same_elements : {X : Type 0} (xs ys : List X) (d : X) → length xs ≡ length ys
    → ((k : ℕ) → k < length xs → get_or xs k d ≡ get_or ys k d) → xs ≡ ys
same_elements [] [] d len same = refl
same_elements [] (y ∷ ys) d len same = absurd (omega arith)
same_elements (x ∷ xs) [] d len same = absurd (omega arith)
same_elements (x ∷ xs) (y ∷ ys) d len same =
    let head : x ≡ y = same 0 (omega arith) in
    let tail : xs ≡ ys = same_elements xs ys d (omega arith) (λ k h. same (suc k) (omega arith)) in
    cc

-- a table that took all cells is the source
pub same_tables : (source table : TableView) → IsWhole source → Copies source source.masks table → table ≡ source
same_tables source table whole c =
    let cells : table.cells ≡ source.cells =
    same_elements table.cells source.cells None (omega (arith, c.len, whole.count)) (λ k h. c.copied k (omega (arith, c.len))) in
    let made = λ (m n : ℕ) (l : List (Option ℕ)). (let t : TableView = record { masks = m; nodes = n; cells = l } in t) in
    ap (λ (m : ℕ). made m table.nodes table.cells) c.masks
    ∙ (ap (λ (n : ℕ). made source.masks n table.cells) c.nodes ∙ ap (λ (l : List (Option ℕ)). made source.masks source.nodes l) cells)

-- no cell of a scratch table is above the bound
pub small_scratch : (masks nodes : ℕ) (cells : List ℕ) (mask v : ℕ) → IsWhole (scratch_view masks nodes cells) → 1 ≤ mask → mask ≤ masks → v < nodes
    → IfSome (cost_from (slice_index cells ((mask - 1) * nodes + v))) (λ value. value ≤ 2 ^ 40)
small_scratch masks nodes cells mask v whole from to range =
    let place = (mask - 1) * nodes + v in
    let inside : place < length (map cost_from cells) = omega (arith, whole.count, place_within mask masks nodes v from to range) in
    let e : get_or (map cost_from cells) place None ≡ cost_from (slice_index cells place) =
    get_or-map cost_from cells place 0 None (omega (arith, length-map cells cost_from)) in
    subst (λ (c : Option ℕ). IfSome c (λ value. value ≤ 2 ^ 40)) e (whole.small place None inside)

pub then_some_cost : (b : Bool) (x : ℕ) → then_some b x ≡ cond b (Some x) None
then_some_cost true x = refl
then_some_cost false x = refl
