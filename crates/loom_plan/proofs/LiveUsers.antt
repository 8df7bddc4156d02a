-- When some of the sets that pass a test is live.
use Rattle.std.proofs.Common.{◌≡◌, ℕ, Bool, true, List, map, filter, ap, ◌∙◌, Contains}
use Rattle.std.specs.List.{list_any}
use Rattle.std.proofs.lemmas.List.Folds.{Any-from_list_any, list_any-from_Any}
use Rattle.loom_base.proofs.Contained.{Contains-map, Contains-from_map, Contains-filter, Contains-from_filter}
use Rattle.loom_project.specs.declared.draft.Draft.{Draft}
use Rattle.loom_rows.specs.Condition.{Meaning}
use Rattle.loom_rows.specs.Disjunction.{some_hold}
use Rattle.loom_laid.specs.declared.laid_set.LaidSet.{LaidSet}
use Rattle.loom_plan.specs.Work.{set_live}

pub member_of_any : {X : Type 0} (p : X → Bool) (xs : List X) → list_any p xs ≡ true → (x : X) × Contains xs x × (p x ≡ true)
member_of_any p xs holds = let (k, x, lt, at, passes) = Any-from_list_any p xs holds in (x, (k, lt, at), passes)

pub any_of_member : {X : Type 0} (p : X → Bool) (xs : List X) (x : X) → Contains xs x → p x ≡ true → list_any p xs ≡ true
any_of_member p xs x (k, lt, at) passes = list_any-from_Any p xs (k, x, lt, at, passes)

module _ (draft : Draft) (p : LaidSet → Bool) (laid : List LaidSet) (choice : ℕ → Bool) where
  pub live_user : some_hold (map (set_live draft) (filter p laid)) choice ≡ true
      → (set : LaidSet) × Contains laid set × (p set ≡ true) × (set_live draft set choice ≡ true)
  live_user holds =
      let (f, in_f, is_live) = member_of_any (λ (g : Meaning). g choice) (map (set_live draft) (filter p laid)) holds in
      let (set, in_filter, e) = Contains-from_map (set_live draft) (filter p laid) f in_f in
      let (in_laid, passes) = Contains-from_filter p laid set in_filter in
      (set, in_laid, passes, ap (λ (g : Meaning). g choice) e ∙ is_live)

  pub user_live : (set : LaidSet) → Contains laid set → p set ≡ true → set_live draft set choice ≡ true
      → some_hold (map (set_live draft) (filter p laid)) choice ≡ true
  user_live set in_laid passes is_live =
      any_of_member (λ (g : Meaning). g choice) (map (set_live draft) (filter p laid)) (set_live draft set)
      (Contains-map (set_live draft) (filter p laid) set (Contains-filter p laid set in_laid passes)) is_live
