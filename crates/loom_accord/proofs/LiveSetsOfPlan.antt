-- The printed sets of a plan are the draft's live sets, in order.
use Rattle.std.proofs.Common.{◌≡◌, ℕ, map, refl, sym, subst, ◌∙◌, Contains}
use Rattle.std.proofs.lemmas.List.{length-map}
use Rattle.std.proofs.lemmas.Option.{same_Some}
use Rattle.loom_base.proofs.Contained.{Contains-map, Contains-from_map}
use Rattle.loom_project.specs.declared.draft.Draft.{Draft}
use Rattle.loom_types.specs.declared.plan.Plan.{Plan}
use Rattle.loom_types.specs.declared.plan.SetLine.{SetLine}
use Rattle.loom_active.specs.LiveSets.{IsLiveSet, PrintsLiveSets}
use Rattle.loom_active.proofs.Pairs.{pairs-map, slice_get-map}
use Rattle.loom_audit.specs.LiveLines.{AreLiveKeys, IsPrintedSet, AreSetsLive}
use Rattle.loom_check.proofs.AgreeingLines.{member_at}
use Rattle.loom_accord.proofs.Refusals.{IsKeyBefore}

module _ (draft : Draft) (plan : Plan) (prints : PrintsLiveSets draft plan) where
  abbrev key_of : SetLine → ℕ × ℕ
  key_of set = (set.net.0, set.mask)

  keys : AreLiveKeys draft (map key_of plan.sets)
  keys = record {
    order = pairs-map IsKeyBefore key_of plan.sets prints.order;
    each = λ key listed.
        let (set, printed, is) = Contains-from_map key_of plan.sets key listed in
        subst (λ (k : ℕ × ℕ). IsLiveSet draft k.0 k.1) is (prints.each set printed);
    all = λ net mask live.
        let (set, printed, of_net, of_mask) = prints.all net mask live in
        subst (λ (k : ℕ × ℕ). Contains (map key_of plan.sets) k) (λ i. (of_net i, of_mask i)) (Contains-map key_of plan.sets set printed);
  }

  pub sets_are_live : AreSetsLive draft plan
  sets_are_live = record {
    live = map key_of plan.sets;
    keys = keys;
    printed = record {
      counted = length-map plan.sets key_of;
      lines = λ i key set within at_key at_set.
          let same : key_of set ≡ key = same_Some (key_of set) key (sym (slice_get-map key_of plan.sets i set at_set) ∙ at_key) in
          subst (λ (k : ℕ × ℕ). IsPrintedSet draft plan k set) same
          (record { net = refl; mask = refl; condition = prints.condition set (member_at plan.sets i set at_set) });
    };
  }
