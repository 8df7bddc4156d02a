-- The laid sets are the live sets.
use Rattle.std.proofs.Common.{◌≡◌, ℕ, ◌≤◌, ◌==◌, ◌&&◌, Bool, true, false, List, length, map, refl, sym, ap, subst, ◌∙◌, arith, Contains}
use Rattle.std.specs.Prelude.{count_ones}
use Rattle.std.specs.List.{AllPairs}
use Rattle.std.proofs.lemmas.Bool.{and_parts, and_from, eq-eqb, eqb-true}
use Rattle.std.proofs.lemmas.List.{length-map}
use Rattle.loom_base.proofs.Contained.{Contains-map, Contains-from_map}
use Rattle.loom_project.specs.declared.draft.Draft.{Draft}
use Rattle.loom_rows.specs.declared.cond.Cond.{Cond}
use Rattle.loom_rows.specs.Condition.{value}
use Rattle.loom_rows.specs.Table.{Table, Has}
use Rattle.loom_rows.specs.Leftovers.{AreSame}
use Rattle.loom_active.specs.declared.live.LiveSet.{LiveSet}
use Rattle.loom_active.specs.Needs.{is_valid_for}
use Rattle.loom_active.specs.LiveSets.{need_mask, IsLiveUnder, IsLiveSet}
use Rattle.loom_active.specs.LiveStops.{HaveMoreSets}
use Rattle.loom_active.specs.FoundSets.{AreLiveSets, AreLiveSetsBelow, ComesBefore}
use Rattle.loom_active.proofs.SetLemmas.{need-count, live-two, live-in_range, sets-few}
use Rattle.loom_laid.specs.declared.laid_set.LaidSet.{LaidSet}
use Rattle.loom_laid.specs.declared.laid_set.Laid.{Laid}
use Rattle.loom_laid.specs.LaidSets.{AreTheLiveSets, AreTables, AreLaid, live_of}
use Rattle.loom_plan.specs.Work.{set_live}
use Rattle.loom_plan.specs.FirstStop.{LaysSets}
use Rattle.loom_plan.specs.Stages.{AreLiveLaid, HasFound, HasLaid}
use Rattle.loom_plan.proofs.Zipped.{pairs-of_map}

-- tests that hold together are equal
both_tests : (a b : Bool) → (a ≡ true → b ≡ true) → (b ≡ true → a ≡ true) → a ≡ b
both_tests true true to back = refl
both_tests true false to back = sym (to refl)
both_tests false true to back = back refl
both_tests false false to back = refl

-- a set that is live under some choice is live under each valid choice that needs exactly it
pub live-under : (draft : Draft) (net mask : ℕ) (choice : ℕ → Bool) → IsLiveSet draft net mask
    → (is_valid_for draft choice && need_mask draft choice net == mask) ≡ true → IsLiveUnder draft choice net mask
live-under draft net mask choice (other, live) holds =
    let parts = and_parts (is_valid_for draft choice) (need_mask draft choice net == mask) holds in
    let needs : need_mask draft choice net ≡ mask = eqb-true (need_mask draft choice net) mask parts.1 in
    record {
      valid = parts.0;
      needs = needs;
      some = omega (arith, need-count draft net choice, ap count_ones needs, live-two draft net mask other live);
    }

pub under-live : (draft : Draft) (net mask : ℕ) (choice : ℕ → Bool) → IsLiveUnder draft choice net mask
    → (is_valid_for draft choice && need_mask draft choice net == mask) ≡ true
under-live draft net mask choice live =
    and_from (is_valid_for draft choice) (need_mask draft choice net == mask) live.valid (eq-eqb (need_mask draft choice net) mask live.needs)

module _ (draft : Draft) (t : Table) (sets : List LiveSet) (live : AreLiveSets draft t sets) where
  -- the sets without their conditions
  pub the_live_sets : AreTheLiveSets draft sets
  the_live_sets = record { order = live.order; each = live.each; all = live.all }

  pub no_more_sets : length sets ≤ 16384 → HaveMoreSets draft (length draft.nets) 16384 → ⊥
  no_more_sets few =
      let below : AreLiveSetsBelow draft t (length draft.nets) sets = record {
        order = live.order;
        each = λ set at. (live-in_range draft set.net.0 set.mask (live.each set at), live.each set at);
        all = λ net mask within is. live.all net mask is;
        has = live.has;
        condition = live.condition;
      } in
      sets-few draft t (length draft.nets) 16384 sets below few

  module _ (laid : List LaidSet) (same : map live_of laid ≡ sets) where
    listed : (set : LaidSet) → Contains laid set → Contains sets (live_of set)
    listed set at = subst (λ (l : List LiveSet). Contains l (live_of set)) same (Contains-map live_of laid set at)

    condition : (set : LaidSet) → Contains laid set → AreSame (value set.cond) (set_live draft set)
    condition set at choice =
        let says = live.condition (live_of set) (listed set at) choice in
        both_tests (value set.cond choice) (set_live draft set choice)
        (λ holds. under-live draft set.net.0 set.mask choice (says.0 holds))
        (λ holds. says.1 (live-under draft set.net.0 set.mask choice (live.each (live_of set) (listed set at)) holds))

    pub live_laid : AreLiveLaid draft t laid
    live_laid = record {
      order = pairs-of_map ComesBefore live_of laid (subst (AllPairs ComesBefore) (sym same) live.order);
      each = λ set at. live.each (live_of set) (listed set at);
      all = λ net mask is.
          let (set, at, net_is, mask_is) = live.all net mask is in
          let (s, has, e) = Contains-from_map live_of laid set (subst (λ (l : List LiveSet). Contains l set) (sym same) at) in
          (s, has, ap (λ (x : LiveSet). x.net.0) e ∙ net_is, ap (λ (x : LiveSet). x.mask) e ∙ mask_is);
      has = λ set at. live.has (live_of set) (listed set at);
      condition = condition;
    }

pub laid_from : (draft : Draft) (t : Table) (sets : List LiveSet) (laid : Laid) → HasFound draft t sets → LaysSets draft laid.sets → AreTables draft laid.tables
    → AreLaid draft laid.tables sets laid.sets → HasLaid draft t laid
laid_from draft t sets laid found lays tables are = record {
  live = live_laid draft t sets found.live laid.sets are.same;
  lays = lays;
  tables = tables;
  each = are.each;
  few = let few = found.few in omega (arith, few, ap length are.same, length-map laid.sets live_of);
}

-- conditions that the table keeps
pub laid_kept : (draft : Draft) (t u : Table) (laid : Laid) → ((x : Cond) → Has t x → Has u x) → HasLaid draft t laid → HasLaid draft u laid
laid_kept draft t u laid keeps has = let live = has.live in record {
  live = record {
    order = live.order;
    each = live.each;
    all = live.all;
    has = λ set at. keeps set.cond (live.has set at);
    condition = live.condition;
  };
  lays = has.lays;
  tables = has.tables;
  each = has.each;
  few = has.few;
}
