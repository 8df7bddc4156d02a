use Rattle.std.proofs.Common.{◌≡◌, Some, List, get_or, slice_get, refl, sym, ap, subst, ◌∙◌, arith}
use Rattle.std.proofs.lemmas.Bool.{eq-eqb, false≢true}
use Rattle.std.proofs.lemmas.Option.{slice_get_read, same_Some}
use Rattle.loom_rows.specs.declared.cond.Cond.{Cond}
use Rattle.loom_rows.specs.Condition.{value}
use Rattle.loom_rows.specs.Leftovers.{AreSame}
use Rattle.loom_rows.specs.RowLists.{meaning_at}
use Rattle.loom_types.specs.declared.wire.Wire.{Wire}
use Rattle.loom_active.specs.SetWires.{RowsMeet}
use Rattle.loom_check.specs.PinTables.{IsRival}
use Rattle.loom_check.proofs.MetPlaces.{meet-same, never-meet}
use Rattle.loom_check.proofs.PinClashes.{told}
use Rattle.loom_check.proofs.PrintedConditions.{condition-same}
use Rattle.loom_check.proofs.pins.is_rival.Goals as goal

pub returns-clause-rival : goal.returns-clause-rival
returns-clause-rival c =
    let plan = c.args.plan.now in
    let w : Wire = c.args.wire.now in
    let v : Wire = c.index-as_slice-place.result in
    let stands : slice_get plan.wires c.args.place ≡ Some v =
    slice_get_read plan.wires _ c.args.place v refl c.requires.place
    (c.index-as_slice-place.is ∙ ap (λ (l : List Wire). get_or l c.args.place v) c.as_slice.ensures) in
    let own : AreSame (value c.condition.result) (meaning_at plan.rows w.row) =
    subst (λ (x : Cond). AreSame (value x) (meaning_at plan.rows w.row)) (sym c.condition.ensures)
    (condition-same plan.rows c.args.meetings.now c.args.conds.now w.row c.requires.conds c.requires.counted c.requires.row) in
    let other : AreSame (value c.condition-2.result) (meaning_at plan.rows v.row) =
    subst (λ (x : Cond). AreSame (value x) (meaning_at plan.rows v.row)) (sym c.condition-2.ensures)
    (condition-same plan.rows c.args.meetings.now c.args.conds.now v.row c.requires.conds c.requires.counted (c.requires.refer c.args.place v stands)) in
    told c.meet.result (IsRival plan c.args.at w c.args.place)
    (λ e. record {
      later = omega (arith, c.if-place-at.false);
      v = v;
      stands = stands;
      different = λ same. false≢true (c.if-eq.ensures ∙ eq-eqb v.net.0 w.net.0 (sym same));
      together =
          meet-same (value c.condition.result) (value c.condition-2.result) (meaning_at plan.rows w.row) (meaning_at plan.rows v.row) own other
          (c.meet.ensures.some e);
    })
    (λ e rival.
    never-meet (value c.condition.result) (value c.condition-2.result) (meaning_at plan.rows w.row) (meaning_at plan.rows v.row) own other
    (c.meet.ensures.none e)
    (subst (λ (u : Wire). RowsMeet plan w.row u.row) (same_Some rival.v v (sym rival.stands ∙ stands)) rival.together))
