-- The steps of one layout, each over a coupler adding the slot of its crossing.
use Rattle.std.proofs.Common.{◌≡◌, ℕ, ◌+◌, ◌<◌, ◌≤◌, ◌==◌, ◌&&◌, ◌||◌, Bool, true, false, cond, List, [], ◌∷◌, ◌++◌, length, get_or, take, refl, sym, ap, subst, ◌∙◌, arith, nat_eq, inl, inr}
use Rattle.std.specs.Prelude.{nat_le, count_by, unwrap_or}
use Rattle.std.specs.Cmp.{both_ways}
use Rattle.std.specs.List.{list_any}
use Rattle.std.specs.Ordering.{is_eq}
use Rattle.std.specs.BTreeSet.{BTreeSet, contains}
use Rattle.std.specs.Map.{lookup}
use Rattle.std.specs.HashMap.{HashMap}
use Rattle.std.proofs.lemmas.Bool.{leb-true, le-leb, eq-eqb, ne_eqb, and_parts, and_from, and_left, cases_eq, cases_lt, cases_Bool, true≢false, cond-true, cond-false}
use Rattle.std.proofs.lemmas.List.{take_all, take_more}
use Rattle.std.proofs.lemmas.List.Folds.{list_any-append}
use Rattle.std.proofs.lemmas.List.Sums.{sum_by_more}
use Rattle.loom_base.specs.declared.positions.SegmentNo.{SegmentNo}
use Rattle.loom_topology.specs.Topology.{TopologyView, segment_at, is_coupler}
use Rattle.loom_types.specs.declared.plan.SetLine.{SetLine}
use Rattle.loom_audit.specs.SlotSets.{Key, key_cmp, crossings, crosses, AreAdded, AreSlotKeys}
use Rattle.loom_audit.proofs.SlotKeys.{key-same, key-here}

abbrev pub Step : Type 0
Step = ℕ × SegmentNo

abbrev pub no_step : Step
no_step = (0, record { 0 = 0 })

abbrev pub crossed : List Step → ℕ → ℕ
crossed steps segment = count_by (λ step. step.1.0 == segment) steps

-- whether a coupler is crossed so often by the net
abbrev pub within : Bool → ℕ → ℕ → ℕ → ℕ → Bool
within coupler net of ordinal n = coupler && (net == of && (nat_le 1 ordinal && nat_le ordinal n))

abbrev pub is_coupler_at : TopologyView → ℕ → Bool
is_coupler_at topology segment = is_coupler (segment_at topology segment).kind

within-none : (c : Bool) (net of ordinal : ℕ) → within c net of ordinal 0 ≡ false
within-none c net of ordinal =
    both_ways (within c net of ordinal 0) false
    (λ e.
    let p = and_parts c (net == of && (nat_le 1 ordinal && nat_le ordinal 0)) e in
    let q = and_parts (net == of) (nat_le 1 ordinal && nat_le ordinal 0) p.1 in
    let r = and_parts (nat_le 1 ordinal) (nat_le ordinal 0) q.1 in
    let one = leb-true 1 ordinal r.0 in
    let zero = leb-true ordinal 0 r.1 in
    absurd (omega arith))
    (λ e. absurd (true≢false (sym e)))

within-past : (c : Bool) (net of n : ℕ) → within c net of (n + 1) n ≡ false
within-past c net of n =
    both_ways (within c net of (n + 1) n) false
    (λ e.
    let p = and_parts c (net == of && (nat_le 1 (n + 1) && nat_le (n + 1) n)) e in
    let q = and_parts (net == of) (nat_le 1 (n + 1) && nat_le (n + 1) n) p.1 in
    let r = and_parts (nat_le 1 (n + 1)) (nat_le (n + 1) n) q.1 in
    let more = leb-true (n + 1) n r.1 in
    absurd (omega arith))
    (λ e. absurd (true≢false (sym e)))

within-new : (c : Bool) (net n : ℕ) → c ≡ true → within c net net (n + 1) (n + 1) ≡ true
within-new c net n e =
    and_from c (net == net && (nat_le 1 (n + 1) && nat_le (n + 1) (n + 1))) e
    (and_from (net == net) (nat_le 1 (n + 1) && nat_le (n + 1) (n + 1)) (eq-eqb net net refl)
    (and_from (nat_le 1 (n + 1)) (nat_le (n + 1) (n + 1)) (le-leb 1 (n + 1) (omega arith)) (le-leb (n + 1) (n + 1) (omega arith))))

lower : (ordinal n : ℕ) → ordinal ≤ n + 1 → (ordinal ≡ n + 1 → ⊥) → ordinal ≤ n
lower ordinal n h apart = elim (cases_lt n ordinal) [ inl above ↦ absurd (apart (omega arith)) | inr below ↦ below ]

le-other : (ordinal n : ℕ) → (ordinal ≡ n + 1 → ⊥) → nat_le ordinal (n + 1) ≡ nat_le ordinal n
le-other ordinal n apart =
    both_ways (nat_le ordinal (n + 1)) (nat_le ordinal n)
    (λ e. le-leb ordinal n (lower ordinal n (leb-true ordinal (n + 1) e) apart))
    (λ e. let h = leb-true ordinal n e in le-leb ordinal (n + 1) (omega arith))

-- one crossing more is the next slot's alone
within-other : (c : Bool) (net of ordinal n : ℕ) → (net ≡ of → ordinal ≡ n + 1 → ⊥) → within c net of ordinal (n + 1) ≡ within c net of ordinal n
within-other c net of ordinal n apart =
    elim (cases_eq net of) [
      | inl same ↦ ap (λ b. c && (net == of && (nat_le 1 ordinal && b))) (le-other ordinal n (apart same))
      | inr differ ↦
          ap (λ b. c && (b && (nat_le 1 ordinal && nat_le ordinal (n + 1)))) (ne_eqb net of differ)
          ∙ sym (ap (λ b. c && (b && (nat_le 1 ordinal && nat_le ordinal n))) (ne_eqb net of differ))
    ]

module _ (topology : TopologyView) (net : ℕ) (steps : List Step) where
  abbrev pub crosses_in : List Step → Key → Bool
  crosses_in some key = within (is_coupler_at topology key.1) net key.0 key.2 (crossed some key.1)

  -- the slots of the first k steps were added
  pub record StepsSoFar {S : Type 0} (k : ℕ) (counts : HashMap ℕ ℕ S) (old new : BTreeSet Key) : Type 0 where
    pub counted : (s : ℕ) → is_coupler_at topology s ≡ true → crossings counts s ≡ crossed (take k steps) s
    pub at : (q : Key) → contains key_cmp new q ≡ (crosses_in (take k steps) q || contains key_cmp old q)

  pub steps-init : {S : Type 0} (counts : HashMap ℕ ℕ S) (slots : BTreeSet Key) → counts.entries ≡ [] → StepsSoFar 0 counts slots slots
  steps-init counts slots empty = record {
    counted = λ s c. ap (λ es. unwrap_or (lookup (nat_eq s) es) 0) empty;
    at = λ q. ap (λ b. b || contains key_cmp slots q) (sym (within-none (is_coupler_at topology q.1) net q.0 q.2));
  }

  module _ (k : ℕ) (lt : k < length steps) where
    abbrev segment : ℕ
    segment = (get_or steps k no_step).1.0

    crossed-more : (s : ℕ) → crossed (take (k + 1) steps) s ≡ crossed (take k steps) s + cond (segment == s) 1 0
    crossed-more s = sum_by_more (λ (step : Step). cond (step.1.0 == s) 1 0) steps k no_step lt

    crossed-apart : (s : ℕ) → (segment ≡ s → ⊥) → crossed (take (k + 1) steps) s ≡ crossed (take k steps) s
    crossed-apart s apart =
        let e : crossed (take (k + 1) steps) s ≡ crossed (take k steps) s + 0 =
        crossed-more s ∙ ap (λ n. crossed (take k steps) s + n) (cond-false {A = ℕ} (segment == s) 1 0 (ne_eqb segment s apart)) in
        omega arith

    crossed-here : crossed (take (k + 1) steps) segment ≡ crossed (take k steps) segment + 1
    crossed-here =
        crossed-more segment ∙ ap (λ n. crossed (take k steps) segment + n) (cond-true {A = ℕ} (segment == segment) 1 0 (eq-eqb segment segment refl))

    module _ {S : Type 0} (counts : HashMap ℕ ℕ S) (old new : BTreeSet Key) (so : StepsSoFar k counts old new) where
      -- a step over a run
      pub steps-run : is_coupler_at topology segment ≡ false → StepsSoFar (k + 1) counts old new
      steps-run run =
          let apart : (s : ℕ) → is_coupler_at topology s ≡ true → segment ≡ s → ⊥ =
          λ s c e. true≢false (sym c ∙ ap (is_coupler_at topology) (sym e) ∙ run) in
          record {
            counted = λ s c. so.counted s c ∙ sym (crossed-apart s (apart s c));
            at = λ q. so.at q ∙ ap (λ b. b || contains key_cmp old q)
                (elim (cases_Bool (is_coupler_at topology q.1)) [
                  | inl is ↦ ap (within (is_coupler_at topology q.1) net q.0 q.2) (sym (crossed-apart q.1 (apart q.1 is)))
                  | inr isnt ↦ and_left (is_coupler_at topology q.1) _ isnt ∙ sym (and_left (is_coupler_at topology q.1) _ isnt)
                ]);
          }

      -- a step over a coupler
      module _ {S' : Type 0} (c : is_coupler_at topology segment ≡ true) (more : HashMap ℕ ℕ S') (ordinal : ℕ) (later : BTreeSet Key)
          (is : ordinal ≡ crossings counts segment + 1)
          (counted : (s : ℕ) → crossings more s ≡ crossings counts s + cond (segment == s) 1 0)
          (added : (q : Key) → contains key_cmp later q ≡ cond (is_eq (key_cmp (net, segment, ordinal) q)) true (contains key_cmp new q)) where
        abbrev key : Key
        key = (net, segment, ordinal)

        next : ordinal ≡ crossed (take k steps) segment + 1
        next = let e = so.counted segment c in omega arith

        -- the slot was not there before
        was-not : crosses_in (take k steps) key ≡ false
        was-not =
            ap (λ n. within (is_coupler_at topology segment) net net n (crossed (take k steps) segment)) next
            ∙ within-past (is_coupler_at topology segment) net net (crossed (take k steps) segment)

        is-now : crosses_in (take (k + 1) steps) key ≡ true
        is-now =
            (λ i. within (is_coupler_at topology segment) net net (next i) (crossed-here i))
            ∙ within-new (is_coupler_at topology segment) net (crossed (take k steps) segment) c

        same-else : (q : Key) → (key ≡ q → ⊥) → crosses_in (take (k + 1) steps) q ≡ crosses_in (take k steps) q
        same-else q apart =
            elim (cases_eq segment q.1) [
              | inl same ↦
                  let here : crossed (take (k + 1) steps) q.1 ≡ crossed (take k steps) q.1 + 1 =
                  subst (λ s. crossed (take (k + 1) steps) s ≡ crossed (take k steps) s + 1) same crossed-here in
                  ap (within (is_coupler_at topology q.1) net q.0 q.2) here
                  ∙ within-other (is_coupler_at topology q.1) net q.0 q.2 (crossed (take k steps) q.1)
                  (λ of_net at_last.
                  let last : ordinal ≡ q.2 = next ∙ ap (λ s. crossed (take k steps) s + 1) same ∙ sym at_last in
                  apart (λ i. (of_net i, same i, last i)))
              | inr differ ↦ ap (within (is_coupler_at topology q.1) net q.0 q.2) (crossed-apart q.1 differ)
            ]

        abbrev At : Key → Type 0
        At q = contains key_cmp later q ≡ (crosses_in (take (k + 1) steps) q || contains key_cmp old q)

        at-key : At key
        at-key =
            added key
            ∙ cond-true (is_eq (key_cmp key key)) true (contains key_cmp new key) (key-here key)
            ∙ sym (ap (λ b. b || contains key_cmp old key) is-now)

        at-other : (q : Key) → is_eq (key_cmp key q) ≡ false → At q
        at-other q apart =
            added q
            ∙ cond-false (is_eq (key_cmp key q)) true (contains key_cmp new q) apart
            ∙ so.at q
            ∙ ap (λ b. b || contains key_cmp old q)
            (sym (same-else q (λ e. true≢false (sym (ap (λ r. is_eq (key_cmp key r)) (sym e) ∙ key-here key) ∙ apart))))

        pub steps-coupler : StepsSoFar (k + 1) more old later
        steps-coupler = record {
          counted = λ s d. counted s ∙ ap (λ n. n + cond (segment == s) 1 0) (so.counted s d) ∙ sym (crossed-more s);
          at = λ q. elim (cases_Bool (is_eq (key_cmp key q))) [
            | inl is ↦ subst At (key-same key q is) at-key
            | inr isnt ↦ at-other q isnt
          ];
        }

-- all steps of the layout of a set
pub set-done : (topology : TopologyView) (set : SetLine) (steps : List Step) → steps ≡ set.layout.steps → {S : Type 0} (k : ℕ) (counts : HashMap ℕ ℕ S) (old new : BTreeSet Key)
    → length steps ≤ k → StepsSoFar topology set.net.0 steps k counts old new → AreAdded topology set old new
set-done topology set steps s k counts old new e so q =
    so.at q
    ∙ ap (λ l. crosses_in topology set.net.0 steps l q || contains key_cmp old q) (take_all k steps e)
    ∙ ap (λ l. crosses_in topology set.net.0 steps l q || contains key_cmp old q) s

-- ---- set by set

or-swap : (a b : Bool) → (a || b) ≡ (b || (a || false))
or-swap true true = refl
or-swap true false = refl
or-swap false true = refl
or-swap false false = refl

pub sets-init : (topology : TopologyView) (slots : BTreeSet Key) → slots.keys ≡ [] → AreSlotKeys topology [] slots
sets-init topology slots empty q = ap (list_any (λ k. is_eq (key_cmp q k))) empty

pub sets-next : (topology : TopologyView) (sets : List SetLine) (k : ℕ) (set : SetLine) → k < length sets → set ≡ get_or sets k set
    → (slots later : BTreeSet Key) → AreSlotKeys topology (take k sets) slots → AreAdded topology set slots later
    → AreSlotKeys topology (take (k + 1) sets) later
sets-next topology sets k set lt at slots later are added q =
    added q
    ∙ ap (λ b. crosses topology set q || b) (are q)
    ∙ or-swap (crosses topology set q) (list_any (λ s. crosses topology s q) (take k sets))
    ∙ sym (list_any-append (λ s. crosses topology s q) (take k sets) (set ∷ []))
    ∙ ap (list_any (λ s. crosses topology s q)) (ap (λ s. take k sets ++ s ∷ []) at ∙ sym (take_more sets k set lt))
