-- Printed lines that agree with the live sets in order are the live sets.
use Rattle.std.proofs.Common.{◌≡◌, ℕ, Bool, inl, inr, sym, subst, ◌∙◌, arith}
use Rattle.loom_project.specs.declared.draft.Draft.{Draft}
use Rattle.loom_types.specs.declared.plan.Plan.{Plan}
use Rattle.loom_types.specs.declared.plan.SetLine.{SetLine}
use Rattle.loom_active.specs.LiveSets.{IsLiveUnder, IsListedBefore, IsSetBefore, PrintsLiveSets}
use Rattle.loom_audit.specs.LiveLines.{IsPrintedSet, AreSetsLive}
use Rattle.loom_check.proofs.AgreeingLines.{agree-printed, agree-stated, agree-pairs}

-- the order of keys is that of the lines that have them
before_moved : (n m k l a b c d : ℕ) → a ≡ n → b ≡ m → c ≡ k → d ≡ l → IsListedBefore n m k l → IsListedBefore a b c d
before_moved n m k l a b c d e f g h (inl less) = inl (omega (arith, less, e, g))
before_moved n m k l a b c d e f g h (inr (same, less)) = inr (e ∙ (same ∙ sym g), omega (arith, less, f, h))

module _ (draft : Draft) (plan : Plan) (live : AreSetsLive draft plan) where
  under_line : (key : ℕ × ℕ) (set : SetLine) → IsPrintedSet draft plan key set → (choice : ℕ → Bool)
      → IsLiveUnder draft choice key.0 key.1 → IsLiveUnder draft choice set.net.0 set.mask
  under_line key set is choice under =
      subst (λ (m : ℕ). IsLiveUnder draft choice set.net.0 m) (sym is.mask)
      (subst (λ (n : ℕ). IsLiveUnder draft choice n key.1) (sym is.net) under)

  under_key : (key : ℕ × ℕ) (set : SetLine) → IsPrintedSet draft plan key set → (choice : ℕ → Bool)
      → IsLiveUnder draft choice set.net.0 set.mask → IsLiveUnder draft choice key.0 key.1
  under_key key set is choice under =
      subst (λ (m : ℕ). IsLiveUnder draft choice key.0 m) is.mask
      (subst (λ (n : ℕ). IsLiveUnder draft choice n set.mask) is.net under)

  pub prints_live_sets : PrintsLiveSets draft plan
  prints_live_sets = record {
    order =
        agree-pairs (IsPrintedSet draft plan) live.live plan.sets live.printed
        (λ one other. IsListedBefore one.0 one.1 other.0 other.1) IsSetBefore live.keys.order
        (λ s t p q is_s is_t before.
        before_moved s.0 s.1 t.0 t.1 p.net.0 p.mask q.net.0 q.mask is_s.net is_s.mask is_t.net is_t.mask before);
    each = λ set printed.
        let (key, listed, is) = agree-printed (IsPrintedSet draft plan) live.live plan.sets live.printed set printed in
        let (choice, under) = live.keys.each key listed in
        (choice, under_line key set is choice under);
    all = λ net mask some.
        let (set, printed, is) =
        agree-stated (IsPrintedSet draft plan) live.live plan.sets live.printed (net, mask) (live.keys.all net mask some) in
        (set, printed, is.net, is.mask);
    condition = λ set printed choice.
        let (key, listed, is) = agree-printed (IsPrintedSet draft plan) live.live plan.sets live.printed set printed in (
          λ holds. under_line key set is choice ((is.condition choice).0 holds),
          λ under. (is.condition choice).1 (under_key key set is choice under),
        );
  }
