-- The table of the masks, once all that have the first one's width are written.
use Rattle.std.proofs.Common.{◌≡◌, ℕ, suc, ◌+◌, ◌<◌, ◌≤◌, List, [], ◌∷◌, ◌++◌, drop, length, get_or, slice_get, Option, Some, None, Result, Ok, Err, decimal, refl, sym, ap, subst, ◌∙◌, arith}
use Rattle.std.proofs.lemmas.List.{append-nil, drop_all, drop_more}
use Rattle.std.proofs.lemmas.Option.{slice_get-get_or}
use Rattle.serde_json.specs.Data.{Data, null}
use Rattle.loom_base.specs.First.{◌>>=◌}
use Rattle.loom_json.specs.Forms.{Gives, under, required, each}
use Rattle.loom_json.specs.declared.path.ShapeStop.{ShapeStop}
use Rattle.loom_json.specs.declared.path.ShapeStop.TheVariants.{WrongShape}
use Rattle.loom_topology.specs.Table.{TableView, empty_table}
use Rattle.loom_answer.specs.NumberForms.{items_of_length}
use Rattle.loom_answer.specs.ReadingSteps.{behind, AreOneSize}
use Rattle.loom_answer.specs.TableForms.{cell_form, width_of, cells_from, masks_of}
use Rattle.loom_answer.proofs.Readings.{fails_then}

module _ (ds : List Data) (start : TableView) (even width : ℕ) where
  -- a mask has a failure
  pub masks_stop : (stop : ShapeStop) → width ≡ width_of ds → start ≡ empty_table even width → Gives {X = List (Option ℕ)} (Err stop) (cells_from start.nodes 0 ds) → Gives {X = TableView} (Err stop) (masks_of ds)
  unfolding masks_of
  masks_stop stop wide is gives =
      let nodes : start.nodes ≡ width_of ds = ap (λ (t : TableView). t.nodes) is ∙ wide in
      let here : Gives {X = List (Option ℕ)} (Err stop) (cells_from (width_of ds) 0 ds) = subst (λ n. Gives {X = List (Option ℕ)} (Err stop) (cells_from n 0 ds)) nodes gives in
      fails_then stop (cells_from (width_of ds) 0 ds) (λ cells. Ok (record { masks = length ds; nodes = width_of ds; cells = cells })) here

  -- the first mask of another width ends the reading
  pub uneven_stops : (after : TableView) (result : Result TableView ShapeStop) (stop : ShapeStop) → stop ≡ WrongShape [] → width ≡ width_of ds → start ≡ empty_table even width
      → cells_from start.nodes 0 ds ≡ behind after.cells (cells_from start.nodes start.masks (drop start.masks ds))
      → ((d : Data) → slice_get ds even ≡ Some d → items_of_length width d ≡ None) → even < length ds
      → ((form : Result TableView (List ℕ)) → Gives {X = TableView} (Err stop) form → Gives result (under (decimal even) form)) → Gives result (masks_of ds)
  unfolding masks_of
  uneven_stops after result stop here wide is reaches end less told =
      let found : slice_get ds even ≡ Some (get_or ds even null) = slice_get-get_or ds even null less in
      let d : Data = get_or ds even null in
      let another : items_of_length width d ≡ None = end d found in
      let left : drop even ds ≡ d ∷ drop (even + 1) ds = drop_more ds even null less in
      let stops : cells_from width even (drop even ds) ≡ Err (47 ∷ (decimal even ++ [])) =
      ap (cells_from width even) left ∙ ap (λ o. under (decimal even) (required o >>= each cell_form 0) >>= λ cells. cells_from width (suc even) (drop (even + 1) ds) >>= λ rest. Ok (cells ++ rest)) another in
      let all : cells_from width 0 ds ≡ Err (47 ∷ (decimal even ++ [])) =
      subst (λ (t : TableView). cells_from t.nodes 0 ds ≡ behind after.cells (cells_from t.nodes t.masks (drop t.masks ds))) is reaches ∙ ap (behind after.cells) stops in
      let whole : masks_of ds ≡ Err (47 ∷ (decimal even ++ [])) =
      ap (λ r. r >>= λ cells. Ok (record { masks = length ds; nodes = width_of ds; cells = cells })) (ap (λ n. cells_from n 0 ds) (sym wide) ∙ all) in
      subst (λ r. Gives result r) (sym whole) (told (Err []) (subst (λ s. Gives {X = TableView} (Err s) (Err [])) (sym here) refl))

  -- all masks have the width of the first one
  pub even_end : (after : TableView) → width ≡ width_of ds → start ≡ empty_table even width → AreOneSize start after
      → cells_from start.nodes 0 ds ≡ behind after.cells (cells_from start.nodes start.masks (drop start.masks ds)) → even ≡ length ds → masks_of ds ≡ Ok after
  unfolding masks_of
  even_end after wide is size reaches all =
      let nothing : drop even ds ≡ [] = drop_all even ds (let h : length ds ≤ even = omega (arith, all) in h) in
      let cells : cells_from width 0 ds ≡ Ok after.cells =
      subst (λ (t : TableView). cells_from t.nodes 0 ds ≡ behind after.cells (cells_from t.nodes t.masks (drop t.masks ds))) is reaches
      ∙ ap (λ l. behind after.cells (cells_from width even l)) nothing ∙ ap Ok (append-nil after.cells) in
      let masks : length ds ≡ after.masks = sym (size.masks ∙ ap (λ (t : TableView). t.masks) is ∙ all) in
      let nodes : width_of ds ≡ after.nodes = sym (size.nodes ∙ ap (λ (t : TableView). t.nodes) is ∙ wide) in
      ap (λ r. r >>= λ cells. Ok (record { masks = length ds; nodes = width_of ds; cells = cells })) (ap (λ n. cells_from n 0 ds) (sym wide) ∙ cells)
      ∙ ap (λ m. Ok (record { masks = m; nodes = width_of ds; cells = after.cells })) masks
      ∙ ap (λ n. Ok (record { masks = after.masks; nodes = n; cells = after.cells })) nodes
