-- Nets, tables, cells and layouts put together.
use Rattle.std.proofs.Common.{◌≡◌, ℕ, ◌≤◌, ◌↔◌, Bool, false, List, [], ◌∷◌, map, refl, sym, ap, subst, ◌∙◌, arith, inl, inr, Contains, true≢false}
use Rattle.std.specs.Prelude.{IsTrue}
use Rattle.std.specs.List.{All}
use Rattle.std.proofs.lemmas.Bool.{cases_lt}
use Rattle.loom_base.proofs.Contained.{Contains-from_map}
use Rattle.loom_base.specs.declared.positions.NetNo.{NetNo}
use Rattle.loom_types.specs.declared.plan.TableLine.{TableLine}
use Rattle.loom_project.specs.declared.draft.Draft.{Draft}
use Rattle.loom_active.specs.declared.live.LiveSet.{LiveSet}
use Rattle.loom_laid.specs.declared.laid_set.LaidSet.{LaidSet}
use Rattle.loom_laid.specs.Kept.{KeptTable, keys_of, key_of, HasLiveKeys}
use Rattle.loom_laid.specs.LaidSets.{AreLiveNets, AreTables, AreLaid, IsNetTable, cells_of, steps_of}
use Rattle.loom_laid.specs.LaidStops.{FitCells, PassSteps, AreAllReached}

numbers-of : (tables : List TableLine) → map (λ line. line.net.0) tables ≡ map (λ net. net.0) (map (λ line. line.net) tables)
numbers-of [] = refl
numbers-of (line ∷ tables) = ap (λ l. line.net.0 ∷ l) (numbers-of tables)

-- a table for each net that has a live set
pub tables-are : (draft : Draft) (nets slice : List NetNo) (tables shown : List TableLine) → slice ≡ nets → AreLiveNets draft (map (λ net. net.0) nets)
    → map (λ line. line.net) tables ≡ slice → All (IsNetTable draft) tables → shown ≡ tables → AreTables draft shown
tables-are draft nets slice tables shown same live lines each is =
    let numbers : map (λ (line : TableLine). line.net.0) tables ≡ map (λ (net : NetNo). net.0) nets =
    numbers-of tables ∙ ap (map (λ (net : NetNo). net.0)) (lines ∙ same) in
    subst (AreTables draft) (sym is) (record { nets = subst (AreLiveNets draft) (sym numbers) live; each = each })

pub cells-fit : (draft : Draft) (nets slice : List NetNo) (cells : ℕ) → slice ≡ nets → AreLiveNets draft (map (λ net. net.0) nets)
    → cells ≡ cells_of draft (map (λ net. net.0) slice) → cells ≤ 2097152 → FitCells draft
cells-fit draft nets slice cells same live counted few =
    let e : cells ≡ cells_of draft (map (λ (net : NetNo). net.0) nets) = counted ∙ ap (λ (l : List NetNo). cells_of draft (map (λ net. net.0) l)) same in
    record { nets = map (λ net. net.0) nets; are_nets = live; few = subst (λ (n : ℕ). n ≤ 2097152) e few }

pub steps-pass : (draft : Draft) (sets : List LiveSet) (tables : List TableLine) (laid slice : List LaidSet) (answer : Bool) → AreAllReached draft
    → AreTables draft tables → AreLaid draft tables sets laid → slice ≡ laid → IsTrue answer ↔ (steps_of slice ≤ 1000000) → answer ≡ false
    → PassSteps draft sets
steps-pass draft sets tables laid slice answer reached are_tables are_laid same test too_many = record {
  reached = reached;
  tables = tables;
  are_tables = are_tables;
  laid = laid;
  are_laid = are_laid;
  many = elim (cases_lt 1000000 (steps_of laid)) [
    | inl many ↦ many
    | inr few ↦
        let le : steps_of laid ≤ 1000000 = omega (arith, few) in
        absurd (true≢false (sym (test.1 (subst (λ (l : List LaidSet). steps_of l ≤ 1000000) (sym same) le)) ∙ too_many))
  ];
}

pub live-keys : (draft : Draft) (nets slice : List NetNo) (kept : List KeptTable) → slice ≡ nets → AreLiveNets draft (map (λ net. net.0) nets)
    → ((net : NetNo) → Contains slice net → Contains (keys_of kept) (key_of draft net.0)) → HasLiveKeys draft kept
live-keys draft nets slice kept same live has net mask is_live =
    let found = Contains-from_map (λ (n : NetNo). n.0) nets net (live.all net mask is_live) in
    subst (λ (n : ℕ). Contains (keys_of kept) (key_of draft n)) found.2
    (has found.0 (subst (λ (l : List NetNo). Contains l found.0) (sym same) found.1))

pub live-keys-kept : (draft : Draft) (kept next : List KeptTable) → keys_of next ≡ keys_of kept → HasLiveKeys draft kept → HasLiveKeys draft next
live-keys-kept draft kept next same has net mask live = subst (λ (l : List (List ℕ × List ℕ)). Contains l (key_of draft net)) (sym same) (has net mask live)
