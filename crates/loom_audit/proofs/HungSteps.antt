-- Stacks of threads at points.
use Rattle.std.proofs.Common.{◌≡◌, ◌≢◌, ℕ, ◌+◌, ◌<◌, ◌≤◌, inl, inr, cond, List, [], ◌∷◌, ◌++◌, length, map, get_or, drop, replicate, reverse, refl, sym, ap, subst, ◌∙◌, arith, eqb}
use Rattle.std.specs.List.{All}
use Rattle.std.proofs.Math.ListN.{set}
use Rattle.std.proofs.lemmas.Bool.{cases_Bool, cases_eq, cond-true, cond-false, eq-eqb, ne_eqb}
use Rattle.std.proofs.lemmas.List.{map-append, map-set, get_or-map, get_or-set_same, get_or-set_other, length-set, length-replicate, get_or-replicate, reverse-append, drop_more, drop_all}
use Rattle.std.proofs.lemmas.List.Elements.{All-cons, All-set, All-get_or, All-nil, All-replicate}
use Rattle.loom_types.specs.declared.wire.End.TheVariants.{Cavity}
use Rattle.loom_types.specs.LayoutWires as layout
use Rattle.loom_audit.specs.declared.thread.Thread.{Thread}
use Rattle.loom_audit.specs.Threads.{thread_of, newest_first, with_thread, AreHung, AreShort}

pub newest_first-push : (threads : List Thread) (thread : Thread) → newest_first (threads ++ thread ∷ []) ≡ thread_of thread ∷ newest_first threads
newest_first-push threads thread =
    ap reverse (map-append thread_of threads (thread ∷ [])) ∙ reverse-append (map thread_of threads) (thread_of thread ∷ [])

-- the stacks, seen through f, once a thread is pushed on one of them
pub hung_there : {X : Type 0} (f : X → List layout.Thread) (stacks : List X) (point : ℕ) (old new : X) (thread : layout.Thread)
    → point < length stacks → old ≡ get_or stacks point old → f new ≡ thread ∷ f old
    → map f (set stacks point new) ≡ with_thread (map f stacks) point thread
hung_there f stacks point old new thread within at pushed =
    map-set f stacks point new
    ∙ ap (set (map f stacks) point) (pushed ∙ ap (λ l. thread ∷ l) (ap f at ∙ sym (get_or-map f stacks point old [] within)))

-- the threads at a point, once one more thread is hung
pub threads_at-cons : (q : ℕ) (h : layout.Hung) (hung : List layout.Hung)
    → layout.threads_at q (h ∷ hung) ≡ cond (eqb h.point q) (h.thread ∷ layout.threads_at q hung) (layout.threads_at q hung)
threads_at-cons q h hung =
    elim (cases_Bool (eqb h.point q)) [
      | inl e ↦ rw e refl
      | inr e ↦ rw e refl
    ]

pub elsewhere : (p q : ℕ) → q ≢ p → (hung : List layout.Hung) → layout.threads_at q (layout.threads_elsewhere p hung) ≡ layout.threads_at q hung
elsewhere p q ne [] = refl
elsewhere p q ne (h ∷ hung) =
    elim (cases_eq h.point p) [
      | inl e ↦
          let there = eq-eqb h.point p e in
          let not_here = ne_eqb h.point q (λ same. ne (sym same ∙ e)) in
          rw (there, not_here) (elsewhere p q ne hung)
      | inr other ↦
          let not_there = ne_eqb h.point p other in
          rw not_there
          (threads_at-cons q h (layout.threads_elsewhere p hung)
          ∙ (ap (λ l. cond (eqb h.point q) (h.thread ∷ l) l) (elsewhere p q ne hung)
          ∙ sym (threads_at-cons q h hung)))
    ]

-- one more thread, hung and on its stack
pub hung_more : (hung : List layout.Hung) (stacks : List (List layout.Thread)) (point : ℕ) (thread : layout.Thread)
    → point < length stacks → AreHung hung stacks
    → AreHung (record { point = point; thread = thread } ∷ hung) (with_thread stacks point thread)
hung_more hung stacks point thread within at q below =
    let longer : length (with_thread stacks point thread) ≡ length stacks = length-set stacks point (thread ∷ get_or stacks point []) in
    elim (cases_eq q point) [
      | inl e ↦
          ap (λ (k : ℕ). get_or (with_thread stacks point thread) k []) e
          ∙ (get_or-set_same stacks point (thread ∷ get_or stacks point []) [] within
          ∙ (ap (λ l. thread ∷ l) (at point within)
          ∙ (sym (cond-true (eqb point point) (thread ∷ layout.threads_at point hung) (layout.threads_at point hung) (eq-eqb point point refl))
          ∙ (sym (threads_at-cons point (record { point = point; thread = thread }) hung)
          ∙ ap (λ (k : ℕ). layout.threads_at k (record { point = point; thread = thread } ∷ hung)) (sym e)))))
      | inr other ↦
          get_or-set_other stacks point q (thread ∷ get_or stacks point []) [] other
          ∙ (at q (omega arith)
          ∙ (sym (cond-false (eqb point q) (thread ∷ layout.threads_at q hung) (layout.threads_at q hung) (ne_eqb point q (λ same. other (sym same))))
          ∙ sym (threads_at-cons q (record { point = point; thread = thread }) hung)))
    ]

-- no threads
pub none_hung : (count : ℕ) (stacks : List (List layout.Thread)) → stacks ≡ replicate count [] → AreHung [] stacks
none_hung count stacks e q below =
    let counted : length stacks ≡ count = ap length e ∙ length-replicate count [] in
    ap (λ l. get_or l q []) e ∙ get_or-replicate count q [] [] (omega arith)

pub none_short : (count : ℕ) (stacks : List (List layout.Thread)) → stacks ≡ replicate count [] → AreShort 0 stacks
none_short count stacks e =
    subst (AreShort 0) (sym e) (All-replicate (All (λ thread. thread.length ≤ 0)) count [] (All-nil (λ thread. thread.length ≤ 0)))

-- one more short thread
pub short_more : (limit : ℕ) (stacks : List (List layout.Thread)) (point : ℕ) (thread : layout.Thread)
    → point < length stacks → thread.length ≤ limit → AreShort limit stacks → AreShort limit (with_thread stacks point thread)
short_more limit stacks point thread within small short =
    All-set (All (λ t. t.length ≤ limit)) stacks point (thread ∷ get_or stacks point [])
    (All-cons (λ t. t.length ≤ limit) thread (get_or stacks point []) small
    (All-get_or (All (λ t. t.length ≤ limit)) stacks point [] within short)) short

-- the threads of the cavities, from the k-th on
abbrev pub hung_from : List ℕ → List ℕ → ℕ → List layout.Hung
hung_from cavities hangs k = layout.hung_of (drop k cavities) (drop k hangs)

pub hung_from-more : (cavities hangs : List ℕ) (k : ℕ) → k < length cavities → k < length hangs
    → hung_from cavities hangs k
    ≡ record { point = get_or hangs k 0; thread = layout.thread_from (Cavity (record { 0 = get_or cavities k 0 })) } ∷ hung_from cavities hangs (k + 1)
hung_from-more cavities hangs k within enough =
    ap (λ l. layout.hung_of l (drop k hangs)) (drop_more cavities k 0 within)
    ∙ ap (λ l. layout.hung_of (get_or cavities k 0 ∷ drop (k + 1) cavities) l) (drop_more hangs k 0 enough)

-- what is so before the k-th cavity's thread is hung
pub record IsHungFrom (cavities hangs : List ℕ) (points k : ℕ) (stacks : List (List layout.Thread)) : Type 0 where
  pub count : length stacks ≡ points
  pub at : AreHung (hung_from cavities hangs k) stacks
  pub short : AreShort 0 stacks

pub hung_first : (cavities hangs : List ℕ) (points k : ℕ) (stacks : List (List layout.Thread))
    → length cavities ≤ k → length hangs ≤ k → stacks ≡ replicate points [] → IsHungFrom cavities hangs points k stacks
hung_first cavities hangs points k stacks few none e =
    let empty : hung_from cavities hangs k ≡ [] =
    ap (λ l. layout.hung_of l (drop k hangs)) (drop_all k cavities few) in
    record {
      count = ap length e ∙ length-replicate points [];
      at = subst (λ (l : List layout.Hung). AreHung l stacks) (sym empty) (none_hung points stacks e);
      short = none_short points stacks e;
    }

pub hung_next : (cavities hangs : List ℕ) (points k : ℕ) (stacks : List (List layout.Thread))
    → IsHungFrom cavities hangs points (k + 1) stacks → k < length cavities → k < length hangs → get_or hangs k 0 < points
    → (thread : layout.Thread) → thread ≡ layout.thread_from (Cavity (record { 0 = get_or cavities k 0 }))
    → (later : List (List layout.Thread)) → later ≡ with_thread stacks (get_or hangs k 0) thread
    → IsHungFrom cavities hangs points k later
hung_next cavities hangs points k stacks before within enough below thread is later hangs_on =
    let there : get_or hangs k 0 < length stacks = omega (arith, before.count) in
    let first = layout.thread_from (Cavity (record { 0 = get_or cavities k 0 })) in
    let later' : later ≡ with_thread stacks (get_or hangs k 0) first = hangs_on ∙ ap (with_thread stacks (get_or hangs k 0)) is in
    record {
      count = ap length later' ∙ (length-set stacks (get_or hangs k 0) (first ∷ get_or stacks (get_or hangs k 0) []) ∙ before.count);
      at = subst (AreHung (hung_from cavities hangs k)) (sym later')
          (subst (λ (l : List layout.Hung). AreHung l (with_thread stacks (get_or hangs k 0) first)) (sym (hung_from-more cavities hangs k within enough))
          (hung_more (hung_from cavities hangs (k + 1)) stacks (get_or hangs k 0) first there before.at));
      short = subst (AreShort 0) (sym later') (short_more 0 stacks (get_or hangs k 0) first there (omega arith) before.short);
    }
