-- Cells that are written into a table, one behind the other.
use Rattle.std.proofs.Common.{◌≡◌, ℕ, suc, ◌+◌, ◌*◌, ◌-◌, ◌<◌, ◌≤◌, List, [], ◌∷◌, ◌++◌, take, drop, length, Option, Result, Ok, Err, decimal, sym, ap, subst, ◌∙◌, arith}
use Rattle.std.specs.Prelude.{slice_set}
use Rattle.std.proofs.Math.Nat.{mul-le-mul_right}
use Rattle.std.proofs.lemmas.Grind.{take-set_at}
use Rattle.std.proofs.lemmas.List.{length-set, take_all}
use Rattle.serde_json.specs.Data.{Data}
use Rattle.loom_json.specs.Forms.{Gives, under, each}
use Rattle.loom_json.specs.declared.path.ShapeStop.{ShapeStop}
use Rattle.loom_topology.specs.Table.{TableView, IsWhole, with_cell}
use Rattle.loom_answer.specs.ReadingSteps.{behind, AreOneSize}
use Rattle.loom_answer.specs.TableForms.{cell_form, mask_form, cells_from}
use Rattle.loom_answer.proofs.Readings.{GivesNext, Told, went_on, failed_next, read_on, read_fails}

-- so many cells of a mask are read and written, from a start on
pub record AreCellsRead (old table : TableView) (start node : ℕ) (cells : List Data) : Type 0 where
  pub size : AreOneSize old table
  pub so_far : behind (take (start + node) table.cells) (each cell_form node (drop node cells)) ≡ behind (take start old.cells) (each cell_form 0 cells)

-- so many masks are read and written
pub record AreMasksRead (old table : TableView) (place : ℕ) (masks : List Data) : Type 0 where
  pub reached : place ≤ old.masks
  pub size : AreOneSize old table
  pub so_far : behind (take (place * old.nodes) table.cells) (cells_from old.nodes place (drop place masks)) ≡ cells_from old.nodes 0 masks

-- a cell of a mask stands among the cells of a table
within : (place nodes masks node count : ℕ) → place < masks → node < nodes → count ≡ masks * nodes → place * nodes + node < count
within place nodes masks node count mask_in node_in is =
    let most : (place + 1) * nodes ≤ masks * nodes = mul-le-mul_right nodes (let h : place + 1 ≤ masks = omega (arith, mask_in) in h) in
    omega (arith, most, node_in, is)

module _ (old table : TableView) (mask node : ℕ) (cells : List Data) (d : Data) (read : AreCellsRead old table ((mask - 1) * old.nodes) node cells) (next : drop node cells ≡ d ∷ drop (node + 1) cells) where
  abbrev start : ℕ
  start = (mask - 1) * old.nodes

  abbrev cells_whole : Result (List (Option ℕ)) (List ℕ)
  cells_whole = behind (take start old.cells) (each cell_form 0 cells)

  abbrev cells_rest : Result (List (Option ℕ)) (List ℕ)
  cells_rest = each cell_form (suc node) (drop (node + 1) cells)

  cells_follow : cells_whole ≡ behind (take (start + node) table.cells) (each cell_form node (d ∷ drop (node + 1) cells))
  cells_follow = sym read.so_far ∙ ap (λ l. behind (take (start + node) table.cells) (each cell_form node l)) next

  pub cells_fail : (stop : ShapeStop) → Gives {X = Option ℕ} (Err stop) (under (decimal node) (cell_form d)) → Gives {X = List (Option ℕ)} (Err stop) cells_whole
  cells_fail stop gives = read_fails (take (start + node) table.cells) (λ cell. cell ∷ []) (under (decimal node) (cell_form d)) cells_rest cells_whole cells_follow stop gives

  pub cells_next : (after : TableView) (found : Option ℕ) → IsWhole old → 1 ≤ mask → mask ≤ old.masks → node < old.nodes → under (decimal node) (cell_form d) ≡ Ok found → after ≡ with_cell table mask node found
      → AreCellsRead old after start (node + 1) cells
  cells_next after found whole mask_from mask_to node_in is set =
      let count : length table.cells ≡ old.masks * old.nodes = read.size.count ∙ whole.count in
      let in_cells : start + node < length table.cells = within (mask - 1) old.nodes old.masks node (length table.cells) (omega (arith, mask_from, mask_to)) node_in count in
      let cells_are : after.cells ≡ slice_set table.cells (start + node) found = ap (λ (t : TableView). t.cells) set ∙ ap (λ n. slice_set table.cells ((mask - 1) * n + node) found) read.size.nodes in
      let front : take (start + (node + 1)) after.cells ≡ take (start + node) table.cells ++ found ∷ [] =
      ap (take (start + (node + 1))) cells_are ∙ take-set_at table.cells (start + node) (start + (node + 1)) found (omega arith) in_cells in
      let one_more : suc node ≡ node + 1 = omega arith in
      record {
        size = record {
          masks = ap (λ (t : TableView). t.masks) set ∙ read.size.masks;
          nodes = ap (λ (t : TableView). t.nodes) set ∙ read.size.nodes;
          count = ap length cells_are ∙ length-set table.cells (start + node) found ∙ read.size.count;
        };
        so_far = ap (λ l. behind l (each cell_form (node + 1) (drop (node + 1) cells))) front
            ∙ ap (λ n. behind (take (start + node) table.cells ++ found ∷ []) (each cell_form n (drop (node + 1) cells))) (sym one_more)
            ∙ read_on (take (start + node) table.cells) (λ cell. cell ∷ []) (under (decimal node) (cell_form d)) cells_rest cells_whole cells_follow found is;
      }

module _ (old table after : TableView) (place : ℕ) (masks : List Data) (d : Data) (read : AreMasksRead old table place masks) (next : drop place masks ≡ d ∷ drop (place + 1) masks) (size : AreOneSize table after) (result : Result (Unit {0}) ShapeStop)
    (gives : GivesNext (take ((place + 1 - 1) * table.nodes) table.cells) (λ cells. cells) result (take ((place + 1) * table.nodes) after.cells) (mask_form table.nodes d)) where
  abbrev front : List (Option ℕ)
  front = take (place * old.nodes) table.cells

  abbrev new : List (Option ℕ)
  new = take ((place + 1) * old.nodes) after.cells

  abbrev masks_rest : Result (List (Option ℕ)) (List ℕ)
  masks_rest = cells_from old.nodes (suc place) (drop (place + 1) masks)

  mask_given : GivesNext front (λ cells. cells) result new (mask_form old.nodes d)
  mask_given =
      let at : place + 1 - 1 ≡ place = omega arith in
      let same = subst (λ n. GivesNext (take ((place + 1 - 1) * n) table.cells) (λ cells. cells) result (take ((place + 1) * n) after.cells) (mask_form n d)) read.size.nodes gives in
      subst (λ p. GivesNext (take (p * old.nodes) table.cells) (λ cells. cells) result new (mask_form old.nodes d)) at same

  masks_follow : cells_from old.nodes 0 masks ≡ behind front (cells_from old.nodes place (d ∷ drop (place + 1) masks))
  masks_follow = sym read.so_far ∙ ap (λ l. behind front (cells_from old.nodes place l)) next

  pub masks_fail : (stop : ShapeStop) → Told (decimal place) result (Err stop) → Gives {X = List (Option ℕ)} (Err stop) (cells_from old.nodes 0 masks)
  masks_fail stop told = failed_next front new (λ cells. cells) (decimal place) masks_rest (cells_from old.nodes 0 masks) result stop (mask_form old.nodes d) mask_given told masks_follow

  pub masks_next : place < old.masks → Told (decimal place) result (Ok tt) → AreMasksRead old after (place + 1) masks
  masks_next in_range told =
      let one_more : suc place ≡ place + 1 = omega arith in
      record {
        reached = omega (arith, in_range);
        size = record {
          masks = size.masks ∙ read.size.masks;
          nodes = size.nodes ∙ read.size.nodes;
          count = size.count ∙ read.size.count;
        };
        so_far = ap (λ n. behind new (cells_from old.nodes n (drop (place + 1) masks))) (sym one_more)
            ∙ went_on front new (λ cells. cells) (decimal place) masks_rest (cells_from old.nodes 0 masks) result (mask_form old.nodes d) mask_given told masks_follow;
      }

-- all masks of the table are written
pub masks_end : (old table : TableView) (place : ℕ) (masks : List Data) → IsWhole old → AreMasksRead old table place masks → place ≡ old.masks
    → cells_from old.nodes 0 masks ≡ behind table.cells (cells_from old.nodes old.masks (drop old.masks masks))
masks_end old table place masks whole read at =
    let all : take (place * old.nodes) table.cells ≡ table.cells = take_all (place * old.nodes) table.cells (let e : length table.cells ≡ old.masks * old.nodes = read.size.count ∙ whole.count in rw (e, at) (omega arith)) in
    sym read.so_far ∙ ap (λ l. behind l (cells_from old.nodes place (drop place masks))) all
    ∙ ap (λ n. behind table.cells (cells_from old.nodes n (drop n masks))) at
