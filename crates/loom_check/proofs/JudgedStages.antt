-- What stands once some rules hold: the live sets in a grown table, the nets of sets and wires, and why the judging stops.
use Rattle.std.proofs.Common.{◌≡◌, ℕ, ◌≤◌, List, length, Ok, Err, refl, sym, subst}
use Rattle.std.proofs.lemmas.Option.{slice_get_within}
use Rattle.loom_project.specs.declared.draft.Draft.{Draft}
use Rattle.loom_project.specs.Project.{HasSoundTopologies}
use Rattle.loom_project.specs.Sound.{draft_check}
use Rattle.loom_rows.specs.declared.cond.Cond.{Cond}
use Rattle.loom_rows.specs.declared.stop.RowsStop.{RowsStop}
use Rattle.loom_rows.specs.declared.stop.RowsStop.TheVariants.{TooManyRows, NoMemory}
use Rattle.loom_rows.specs.Table.{Table, Has}
use Rattle.loom_rows.specs.Leftovers.{IsRowOf, AreMoreThan, StandsFor, Works}
use Rattle.loom_rows.specs.RowLists.{meanings_of}
use Rattle.loom_rows.proofs.Worked.{rows-few, rows-many}
use Rattle.loom_types.specs.declared.plan.Plan.{Plan}
use Rattle.loom_active.specs.declared.live.LiveSet.{LiveSet}
use Rattle.loom_active.specs.declared.stop.ActiveStop.TheVariants as active
use Rattle.loom_active.specs.FoundSets.{AreLiveSets, AreLiveSetsBelow}
use Rattle.loom_active.specs.LiveStops.{HaveMoreSets}
use Rattle.loom_active.specs.LiveWork.{live_worked}
use Rattle.loom_active.specs.Valid.{NeedTooManyRows, stop_of}
use Rattle.loom_active.proofs.ClashLemmas.{at_place}
use Rattle.loom_active.proofs.SetLemmas.{live-in_range, sets-few}
use Rattle.loom_audit.specs.declared.spot.Spot.{Spot}
use Rattle.loom_audit.specs.LiveLines.{AreSetsLive}
use Rattle.loom_audit.specs.Rows.{AreRowsSound}
use Rattle.loom_audit.specs.SetWires.{HasSets, HasNets}
use Rattle.loom_check.specs.ConditionAnswers.{ConditionsFailAt, wire, StopsConditions}
use Rattle.loom_check.specs.Stages.{FindsLiveSets, TakesRows, HasConditions, rows_worked}
use Rattle.loom_check.specs.Verdict.{FailsFirst, condition, StopsCheck, seeking, rows, wires}
use Rattle.loom_check.proofs.LiveSetsPrinted.{prints_live_sets}
use Rattle.loom_check.proofs.SetsOfNeeds.{net_within, mask_within, two_chosen}

-- a table that only grew has the live sets
pub live-kept : (draft : Draft) (t u : Table) (sets : List LiveSet) → ((x : Cond) → Has t x → Has u x)
    → AreLiveSets draft t sets → AreLiveSets draft u sets
live-kept draft t u sets kept live = record {
  order = live.order;
  each = live.each;
  all = live.all;
  has = λ set at. kept set.cond (live.has set at);
  condition = live.condition;
}

pub no-more-sets : (draft : Draft) (t : Table) (sets : List LiveSet) → AreLiveSets draft t sets → length sets ≤ 16384
    → HaveMoreSets draft (length draft.nets) 16384 → ⊥
no-more-sets draft t sets live few =
    let below : AreLiveSetsBelow draft t (length draft.nets) sets = record {
      order = live.order;
      each = λ set at. (live-in_range draft set.net.0 set.mask (live.each set at), live.each set at);
      all = λ net mask within is. live.all net mask is;
      has = live.has;
      condition = live.condition;
    } in
    sets-few draft t (length draft.nets) 16384 sets below few

pub has-sets : (draft : Draft) (plan : Plan) → draft_check draft ≡ Ok tt → HasSoundTopologies draft → AreSetsLive draft plan → HasSets draft plan
has-sets draft plan passed sound live set printed =
    let (choice, under) = (prints_live_sets draft plan live).each set printed in (
      net_within draft passed sound choice set.net.0 set.mask under,
      record {
        within = mask_within draft passed sound choice set.net.0 set.mask under;
        some = two_chosen draft passed sound choice set.net.0 set.mask under;
      },
    )

pub has-nets : (draft : Draft) (plan : Plan) → HasConditions draft plan (length plan.wires) → HasNets draft plan
has-nets draft plan has w at =
    let stands = at_place plan.wires w at in (has.conditions at.0 w (slice_get_within plan.wires at.0 w stands) stands).net

-- taking in the printed rows: they fit, or they are too many
module _ (draft : Draft) (plan : Plan) (old new : Table) where
  many-of-limit : old.limit ≡ 262144 → AreMoreThan old.limit (IsRowOf (rows_worked draft plan)) → NeedTooManyRows (rows_worked draft plan)
  many-of-limit limit = subst (λ (n : ℕ). AreMoreThan n (IsRowOf (rows_worked draft plan))) limit

  pub takes-rows : {A : Type 0} (a : A) → old.limit ≡ 262144 → StandsFor old (live_worked draft) → FindsLiveSets draft → AreRowsSound draft plan
      → Works (meanings_of plan.rows) old new (Ok a) → TakesRows draft plan
  takes-rows a limit stands found sound works = record {
    found = found;
    rows = sound;
    few_rows = λ many.
        rows-few (live_worked draft) (meanings_of plan.rows) old new stands a works
        (subst (λ (n : ℕ). AreMoreThan n (IsRowOf (rows_worked draft plan))) (sym limit) many);
  }

  pub rows-stop : (A : Type 0) (stop : RowsStop) → old.limit ≡ 262144 → StandsFor old (live_worked draft) → FindsLiveSets draft
      → AreRowsSound draft plan → Works {A = A} (meanings_of plan.rows) old new (Err stop) → StopsCheck draft plan (stop_of stop)
  rows-stop A TooManyRows limit stands found sound works =
      rows found sound (many-of-limit limit (rows-many (live_worked draft) (meanings_of plan.rows) old new stands {A = A} (Err TooManyRows) refl works))
  rows-stop A NoMemory limit stands found sound works = seeking active.NoMemory tt

-- those of the wires are
pub wires-stop : (draft : Draft) (plan : Plan) (stop : RowsStop) → StopsConditions draft plan stop → StopsCheck draft plan (stop_of stop)
wires-stop draft plan TooManyRows due = wires due.at due.before due.many
wires-stop draft plan NoMemory due = seeking active.NoMemory tt

-- the first wire without its condition is the first failure
pub condition-fails : (draft : Draft) (plan : Plan) (place : Spot) → ConditionsFailAt draft plan place → FailsFirst draft plan 3 place
condition-fails draft plan place (wire at fails) = condition at fails
