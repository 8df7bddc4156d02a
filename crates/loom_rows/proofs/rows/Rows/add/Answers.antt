use Rattle.std.proofs.Common.{◌≡◌, ◌+◌, ℕ, Some, slice_get, refl, sym, ap, subst, ◌∙◌, Ok, length}
use Rattle.std.specs.Map.{keys_of}
use Rattle.std.proofs.lemmas.Map.Entries.{length-keys_of}
use Rattle.loom_rows.specs.declared.cond.Cond.{Cond}
use Rattle.loom_rows.specs.Table.{Table, Triple, Has, IsSound}
use Rattle.loom_rows.specs.Outcome.{Outcome, IsRowWith, branch}
use Rattle.loom_rows.specs.Condition.{value, number_of}
use Rattle.loom_rows.proofs.Made.{with_row, added, added-sound, added-has}
use Rattle.loom_rows.proofs.Index.{IsIndexOf, table-added, kept-added}
use Rattle.loom_rows.proofs.rows.Rows.add.Goals as goal

-- the table with the row, and that the row's condition is the new one
record Grown (c : goal.In_ok-insert) : Type 0 where
  row : IsRowWith (length c.args.self.now.rows + 2) c.args.at c.args.low c.args.high c.in_ok-cond.cond
  sound : IsSound c.args.self.now
  same_table : with_row c.args.self.now c.args.at c.args.low c.args.high ≡ record { options = c.self.inside.options; limit = c.self.inside.limit; rows = keys_of c.insert.new.self.entries }
  kept : (i : ℕ) (r : Triple) (y : Cond) → slice_get c.insert.new.self.entries i ≡ Some (r, y) → Has (with_row c.args.self.now c.args.at c.args.low c.args.high) y × (number_of y ≡ i + 2)

grown : (c : goal.In_ok-insert) → Grown c
grown c =
    let t = c.args.self.now in
    let es = c.self.inside.index.entries in
    let row : IsRowWith (length t.rows + 2) c.args.at c.args.low c.args.high c.in_ok-cond.cond =
    subst (λ (u : Table). IsRowWith (length u.rows + 2) c.args.at c.args.low c.args.high c.in_ok-cond.cond) c.self.view_is
    (subst (λ (n : ℕ). IsRowWith (n + 2) c.args.at c.args.low c.args.high c.in_ok-cond.cond) (c.len.ensures.len ∙ sym (length-keys_of es)) c.in_ok-cond.ensures) in
    let sound = subst IsSound c.self.view_is c.self.invariant.sound in
    let index : IsIndexOf t es = subst (λ (u : Table). IsIndexOf u es) c.self.view_is (record { keyed = refl; kept = c.self.invariant.kept }) in
    let key_is : (c.args.at, c.number.result, c.number-2.result) ≡ (c.args.at, number_of c.args.low, number_of c.args.high) = λ i. (c.args.at, c.number.ensures i, c.number-2.ensures i) in
    let has = added-has t c.args.at c.args.low c.args.high c.requires.has_low c.requires.has_high c.requires.low_rises c.requires.high_rises sound c.requires.apart c.requires.missing c.in_ok-cond.cond row c.requires.room in
    record {
      row = row;
      sound = sound;
      same_table = table-added t c.args.at c.args.low c.args.high es c.insert.new.self.entries index _ c.in_ok-cond.cond key_is c.in_ok-insert.ensures.entries c.requires.missing
          c.self.inside.options c.self.inside.limit (sym (ap (λ u. u.options) c.self.view_is)) (sym (ap (λ u. u.limit) c.self.view_is));
      kept = kept-added t c.args.at c.args.low c.args.high es c.insert.new.self.entries index _ c.in_ok-cond.cond key_is c.in_ok-insert.ensures.entries c.requires.missing has.0 has.1;
    }

pub invariant_of-self-2 : goal.invariant_of-self-2
invariant_of-self-2 c =
    let g = grown c in
    record {
      sound = subst IsSound g.same_table (added-sound c.args.self.now c.args.at c.args.low c.args.high c.requires.has_low c.requires.has_high c.requires.low_rises c.requires.high_rises g.sound c.requires.apart c.requires.missing c.in_ok-cond.cond g.row c.requires.room);
      kept = λ i r y h. let k = g.kept i r y h in (subst (λ (u : Table). Has u y) g.same_table k.0, k.1);
    }

pub returns : goal.returns
returns c =
    let g = grown c in
    subst (λ (u : Table). Outcome (branch c.args.at (value c.args.low) (value c.args.high)) c.args.at c.args.self.now u (Ok c.in_ok-cond.cond)) g.same_table
    (added c.args.self.now c.args.at c.args.low c.args.high c.requires.has_low c.requires.has_high c.requires.low_rises c.requires.high_rises g.sound c.requires.apart c.requires.missing c.in_ok-cond.cond g.row c.requires.room)
