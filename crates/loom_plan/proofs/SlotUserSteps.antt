-- The conditions of sets are added to their slots, set by set.
use Rattle.std.proofs.Common.{◌≡◌, ℕ, ◌+◌, ◌<◌, ◌≤◌, true, false, cond, Some, List, [], ◌∷◌, ◌++◌, length, get_or, take, map, refl, sym, ap, ◌∙◌, arith, inl, inr, append-nil}
use Rattle.std.specs.Prelude.{unwrap_or, filter}
use Rattle.std.specs.BTreeMap.{IsOrdered, get, is_at}
use Rattle.std.specs.Map.{lookup}
use Rattle.std.proofs.lemmas.Bool.{cases_Bool, cond-true, cond-false}
use Rattle.std.proofs.lemmas.List.{map-append}
use Rattle.std.proofs.lemmas.List.Elements.{filter_more}
use Rattle.std.proofs.lemmas.List.Sums.{sum_by_more, get_or-le-sum_by}
use Rattle.loom_topology.specs.Topology.{TopologyView}
use Rattle.loom_rows.specs.declared.cond.Cond.{Cond}
use Rattle.loom_laid.specs.declared.laid_set.LaidSet.{LaidSet}
use Rattle.loom_laid.specs.LaidSets.{steps_of}
use Rattle.loom_plan.specs.SlotUsers.{Key, Users, key_cmp, conds_at, crosses, IsAdded, conds_of, unless_empty, AreUsers}

push-some : (xs : List Cond) (x : Cond) → Some (xs ++ x ∷ []) ≡ unless_empty (xs ++ x ∷ [])
push-some [] x = refl
push-some (y ∷ ys) x = refl

pub unwrapped : (xs : List Cond) → unwrap_or (unless_empty xs) [] ≡ xs
unwrapped [] = refl
unwrapped (y ∷ ys) = refl

pub users-init : (topology : TopologyView) (users : Users) → users.entries ≡ [] → IsOrdered key_cmp users → AreUsers topology [] users
users-init topology users empty ordered = record {
  at = λ q. ap (lookup (is_at (key_cmp q))) empty;
  few = omega (arith, ap length empty);
  ordered = ordered;
}

-- a set has no more steps than all sets together
pub set-few : (laid : List LaidSet) (k : ℕ) (set : LaidSet) → k < length laid → set ≡ get_or laid k set → steps_of laid ≤ 1000000 → length set.layout.steps ≤ 1000000
set-few laid k set lt at few =
    let e = ap (λ (s : LaidSet). length s.layout.steps) at in
    omega (arith, get_or-le-sum_by (λ (s : LaidSet). length s.layout.steps) laid k set lt)

module _ (topology : TopologyView) (laid : List LaidSet) (k : ℕ) (set : LaidSet) (lt : k < length laid) (at : set ≡ get_or laid k set) where
  conds-more : (q : Key) → conds_of topology (take (k + 1) laid) q ≡ conds_of topology (take k laid) q ++ map (λ s. s.cond) (cond (crosses topology set q) (set ∷ []) [])
  conds-more q =
      ap (map (λ (s : LaidSet). s.cond)) (filter_more (λ s. crosses topology s q) laid k set lt)
      ∙ map-append (λ (s : LaidSet). s.cond) (filter (λ s. crosses topology s q) (take k laid)) (cond (crosses topology (get_or laid k set) q) (get_or laid k set ∷ []) [])
      ∙ ap (λ (s : LaidSet). conds_of topology (take k laid) q ++ map (λ (z : LaidSet). z.cond) (cond (crosses topology s q) (s ∷ []) [])) (sym at)

  module _ (users later : Users) (are : AreUsers topology (take k laid) users) (added : IsAdded topology set users later) where
    at-user : (q : Key) → crosses topology set q ≡ true → get key_cmp later q ≡ unless_empty (conds_of topology (take (k + 1) laid) q)
    at-user q has =
        added.at q
        ∙ cond-true (crosses topology set q) (Some (conds_at users q ++ set.cond ∷ [])) (get key_cmp users q) has
        ∙ ap (λ o. Some (unwrap_or o [] ++ set.cond ∷ [])) (are.at q)
        ∙ ap (λ xs. Some (xs ++ set.cond ∷ [])) (unwrapped (conds_of topology (take k laid) q))
        ∙ push-some (conds_of topology (take k laid) q) set.cond
        ∙ ap (λ b. unless_empty (conds_of topology (take k laid) q ++ map (λ (s : LaidSet). s.cond) (cond b (set ∷ []) []))) (sym has)
        ∙ ap unless_empty (sym (conds-more q))

    at-none : (q : Key) → crosses topology set q ≡ false → get key_cmp later q ≡ unless_empty (conds_of topology (take (k + 1) laid) q)
    at-none q hasnt =
        added.at q
        ∙ cond-false (crosses topology set q) (Some (conds_at users q ++ set.cond ∷ [])) (get key_cmp users q) hasnt
        ∙ are.at q
        ∙ ap unless_empty (sym (append-nil (conds_of topology (take k laid) q)))
        ∙ ap (λ b. unless_empty (conds_of topology (take k laid) q ++ map (λ (s : LaidSet). s.cond) (cond b (set ∷ []) []))) (sym hasnt)
        ∙ ap unless_empty (sym (conds-more q))

    pub users-next : AreUsers topology (take (k + 1) laid) later
    users-next = record {
      at = λ q. elim (cases_Bool (crosses topology set q)) [ inl has ↦ at-user q has | inr hasnt ↦ at-none q hasnt ];
      few =
          let f = are.few in
          let g = added.few in
          let more : steps_of (take (k + 1) laid) ≡ steps_of (take k laid) + length set.layout.steps =
          sum_by_more (λ (s : LaidSet). length s.layout.steps) laid k set lt ∙ ap (λ (s : LaidSet). steps_of (take k laid) + length s.layout.steps) (sym at) in
          omega arith;
      ordered = added.ordered are.ordered;
    }
