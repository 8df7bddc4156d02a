-- A printed set is a live one where the net, the mask and the condition are its.
use Rattle.std.proofs.Common.{◌≡◌, ℕ, ◌<◌, Bool, List, length, map, get_or, sym, ap₂, subst, ◌∙◌, IsTrue, Contains}
use Rattle.std.specs.Prelude.{◌↔◌}
use Rattle.std.specs.Cmp.{both_ways}
use Rattle.loom_base.proofs.Contained.{Contains-map, Contains-from_map}
use Rattle.loom_formula.specs.RowList.{value_of}
use Rattle.loom_project.specs.declared.draft.Draft.{Draft}
use Rattle.loom_types.specs.declared.plan.Plan.{Plan}
use Rattle.loom_types.specs.declared.plan.SetLine.{SetLine}
use Rattle.loom_rows.specs.declared.cond.Cond.{Cond}
use Rattle.loom_rows.specs.Condition.{value}
use Rattle.loom_rows.specs.Table.{Table}
use Rattle.loom_rows.specs.Leftovers.{AreSame}
use Rattle.loom_rows.specs.RowLists.{meaning_at}
use Rattle.loom_active.specs.declared.live.LiveSet.{LiveSet}
use Rattle.loom_active.specs.FoundSets.{AreLiveSets}
use Rattle.loom_active.proofs.Pairs.{pairs-map, at_index}
use Rattle.loom_active.specs.LiveSets.{IsLiveUnder, IsLiveSet, IsListedBefore}
use Rattle.loom_audit.specs.LiveLines.{AreLiveKeys, IsPrintedSet}
use Rattle.loom_check.specs.LiveKeys.{key_of, HoldsWhereLive}

module _ (draft : Draft) (plan : Plan) (live : LiveSet) (set : SetLine) (holds : HoldsWhereLive draft live) (cond : Cond)
    (means : AreSame (value cond) (meaning_at plan.rows set.row)) where
  -- the same condition is the set's
  pub printed-same : set.net.0 ≡ live.net.0 → set.mask ≡ live.mask → AreSame (value live.cond) (value cond) → IsPrintedSet draft plan (key_of live) set
  printed-same net mask same = record {
    net = net;
    mask = mask;
    condition = λ choice.
        subst (λ (b : Bool). IsTrue b ↔ IsLiveUnder draft choice live.net.0 live.mask) (same choice ∙ means choice) (holds choice);
  }

  -- and only that one is
  pub same-printed : IsPrintedSet draft plan (key_of live) set → AreSame (value live.cond) (value cond)
  same-printed printed choice =
      both_ways (value live.cond choice) (value_of plan.rows choice set.row)
      (λ yes. (printed.condition choice).1 ((holds choice).0 yes)) (λ yes. (holds choice).1 ((printed.condition choice).0 yes))
      ∙ sym (means choice)

-- found sets are the live ones, as keys
pub keys-of-sets : (draft : Draft) (t : Table) (sets : List LiveSet) → AreLiveSets draft t sets → AreLiveKeys draft (map key_of sets)
keys-of-sets draft t sets are = record {
  order = pairs-map (λ one other. IsListedBefore one.0 one.1 other.0 other.1) key_of sets are.order;
  each = λ key at.
      let from = Contains-from_map key_of sets key at in
      subst (λ (k : ℕ × ℕ). IsLiveSet draft k.0 k.1) from.2 (are.each from.0 from.1);
  all = λ net mask is.
      let (set, at, of_net, of_mask) = are.all net mask is in
      subst (λ (k : ℕ × ℕ). Contains (map key_of sets) k) (ap₂ (λ (n m : ℕ). (n, m)) of_net of_mask) (Contains-map key_of sets set at);
}

-- a live set at a position is one of the list
pub live-at : (sets : List LiveSet) (at : ℕ) (d : LiveSet) → at < length sets → Contains sets (get_or sets at d)
live-at sets at d within = at_index sets at d within
