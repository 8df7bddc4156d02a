-- Positions of lines with a property, put together line by line; the sets that a wire meets, out of those of its net.
use Rattle.std.proofs.Common.{◌≡◌, ◌↔◌, ℕ, ◌+◌, ◌<◌, ◌≤◌, inl, inr, ◌&&◌, List, [], ◌∷◌, ◌++◌, Some, length, get_or, take, refl, sym, ap, subst, ◌∙◌, arith, eqb, length-append, slice_get, Contains}
use Rattle.std.specs.List.{All, AllPairs}
use Rattle.std.proofs.lemmas.Bool.{cases_eq, cond-true, cond-false, eq-eqb, ne_eqb, false≢true}
use Rattle.std.proofs.lemmas.List.{take_more, take_all, length-take-le, get_or-take, get_or_default}
use Rattle.std.proofs.lemmas.List.Elements.{All-nil, All-push, All-weaker, All-contains, All-get_or, All-from_get_or, Contains-get_or, Contains-push, Contains-append_left, Contains-push_cases}
use Rattle.std.proofs.lemmas.List.Quantifiers.{all_pairs_push}
use Rattle.std.proofs.lemmas.Option.{slice_get_read, slice_get_within, get_or_from_slice_get}
use Rattle.loom_rows.specs.Condition.{Meaning, both}
use Rattle.loom_rows.specs.Meet.{Meet, IsNever}
use Rattle.loom_rows.specs.Leftovers.{AreSame}
use Rattle.loom_rows.proofs.Made.{slice_get-append_cases}
use Rattle.loom_types.specs.declared.plan.Plan.{Plan}
use Rattle.loom_types.specs.declared.plan.SetLine.{SetLine}
use Rattle.loom_types.specs.declared.wire.Wire.{Wire}
use Rattle.loom_active.specs.SetWires.{RowsMeet}
use Rattle.loom_active.proofs.Pairs.{pairs-none}
use Rattle.loom_check.specs.MetSets.{AreMet}
use Rattle.loom_check.specs.MetParts.{ArePlaces, IsOfNet, KnowsNets, NetTable, positions_in, with_position}

-- ---- places of lines with a property

module _ {X : Type 0} (P : X → Type 0) where
  pub places-none : ArePlaces P [] []
  places-none = record {
    rising = pairs-none (λ (one other : ℕ). one < other);
    within = All-nil (λ (at : ℕ). at < 0);
    each = λ at line e. absurd (omega (arith, slice_get_within [] at line e));
  }

  module _ (lines : List X) (x : X) (positions : List ℕ) (before : ArePlaces P lines positions) where
    longer : length (lines ++ x ∷ []) ≡ length lines + 1
    longer = length-append lines (x ∷ [])

    still-within : All (λ at. at < length (lines ++ x ∷ [])) positions
    still-within = All-weaker (λ at. at < length lines) (λ at. at < length (lines ++ x ∷ [])) (λ at lt. omega (arith, lt, longer)) positions before.within

    pub places-with : P x → ArePlaces P (lines ++ x ∷ []) (positions ++ length lines ∷ [])
    places-with has = record {
      rising =
          all_pairs_push (λ (one other : ℕ). one < other) positions (length lines) before.rising
          (λ k d lt. All-get_or (λ at. at < length lines) positions k d lt before.within);
      within = All-push (λ at. at < length (lines ++ x ∷ [])) positions (length lines) still-within (omega (arith, longer));
      each = λ at line e. elim (slice_get-append_cases lines x line at e) [
        | inl old ↦ (
          λ listed. elim (Contains-push_cases positions (length lines) at listed) [
            | inl known ↦ (before.each at line old.1).0 known
            | inr new ↦ absurd (omega (arith, new, old.0))
          ],
          λ holds. Contains-append_left positions (length lines ∷ []) at ((before.each at line old.1).1 holds),
        )
        | inr new ↦ (
          λ listed. subst P new.1 has,
          λ holds. subst (Contains (positions ++ length lines ∷ [])) (sym new.0) (Contains-push positions (length lines)),
        )
      ];
    }

    pub places-without : (P x → ⊥) → ArePlaces P (lines ++ x ∷ []) positions
    places-without lacks = record {
      rising = before.rising;
      within = still-within;
      each = λ at line e. elim (slice_get-append_cases lines x line at e) [
        | inl old ↦ before.each at line old.1
        | inr new ↦ (
          λ listed. absurd (omega (arith, new.0, All-contains (λ k. k < length lines) positions at before.within listed)),
          λ holds. absurd (lacks (subst P (sym new.1) holds)),
        )
      ];
    }

-- ---- the sets of each net

pub nets-none : (sets : List SetLine) (table : NetTable) → ((net : ℕ) → positions_in table net ≡ []) → KnowsNets (take 0 sets) table
nets-none sets table none net = subst (ArePlaces (IsOfNet net) []) (sym (none net)) (places-none (IsOfNet net))

pub nets-more : (sets : List SetLine) (n position : ℕ) (set : SetLine) (old new : NetTable) → n < length sets → set ≡ get_or sets n set → position ≡ n
    → ((net : ℕ) → positions_in new net ≡ with_position set.net.0 position (positions_in old net) net)
    → KnowsNets (take n sets) old → KnowsNets (take (n + 1) sets) new
nets-more sets n position set old new within is placed added known net =
    let positions : List ℕ = positions_in old net in
    let lines : List SetLine = take n sets in
    let more : lines ++ set ∷ [] ≡ take (n + 1) sets = ap (λ (s : SetLine). lines ++ s ∷ []) is ∙ sym (take_more sets n set within) in
    let place : length lines ≡ position = length-take-le n sets (omega (arith, within)) ∙ sym placed in
    subst (λ (l : List SetLine). ArePlaces (IsOfNet net) l (positions_in new net)) more
    (subst (ArePlaces (IsOfNet net) (lines ++ set ∷ [])) (sym (added net))
    (elim (cases_eq set.net.0 net) [
      | inl same ↦
          subst (ArePlaces (IsOfNet net) (lines ++ set ∷ []))
          (ap (λ (k : ℕ). positions ++ k ∷ []) place ∙ sym (cond-true (eqb set.net.0 net) (positions ++ position ∷ []) positions (eq-eqb set.net.0 net same)))
          (places-with (IsOfNet net) lines set positions (known net) same)
      | inr other ↦
          subst (ArePlaces (IsOfNet net) (lines ++ set ∷ []))
          (sym (cond-false (eqb set.net.0 net) (positions ++ position ∷ []) positions (ne_eqb set.net.0 net other)))
          (places-without (IsOfNet net) lines set positions (known net) other)
    ]))

pub nets-all : (sets : List SetLine) (n : ℕ) (table : NetTable) → length sets ≤ n → KnowsNets (take n sets) table → KnowsNets sets table
nets-all sets n table past known = subst (λ (l : List SetLine). KnowsNets l table) (take_all n sets past) known

-- ---- out of a net's sets those that a wire meets

-- those among the first k
pub record AreMetAmong (plan : Plan) (w : Wire) (among met : List ℕ) (k : ℕ) : Type 0 where
  pub rising : AllPairs (λ one other. one < other) met
  pub from : (at : ℕ) → Contains met at → Contains (take k among) at
  pub each : (at : ℕ) (set : SetLine) → slice_get plan.sets at ≡ Some set → Contains (take k among) at → Contains met at ↔ RowsMeet plan w.row set.row

module _ (plan : Plan) (w : Wire) (among : List ℕ) where
  pub among-none : AreMetAmong plan w among [] 0
  among-none = record {
    rising = pairs-none (λ (one other : ℕ). one < other);
    from = λ at listed. listed;
    each = λ at set e listed. absurd (omega (arith, listed.1));
  }

  module _ (net : ArePlaces (IsOfNet w.net.0) plan.sets among) where
    pub among-within : (k : ℕ) → k < length among → get_or among k 0 < length plan.sets
    among-within k lt = All-get_or (λ at. at < length plan.sets) among k 0 lt net.within

    pub set-there : (k : ℕ) (shown : List SetLine) (set : SetLine) → k < length among → shown ≡ plan.sets → set ≡ get_or shown (get_or among k 0) set
        → slice_get plan.sets (get_or among k 0) ≡ Some set
    set-there k shown set lt same is =
        slice_get_read plan.sets (length plan.sets) (get_or among k 0) set refl (among-within k lt)
        (is ∙ ap (λ (l : List SetLine). get_or l (get_or among k 0) set) same)

    -- the next set
    module _ (k p : ℕ) (set : SetLine) (met : List ℕ) (lt : k < length among) (is : p ≡ get_or among k 0) (at_p : slice_get plan.sets p ≡ Some set)
        (before : AreMetAmong plan w among met k) where
      more : take (k + 1) among ≡ take k among ++ p ∷ []
      more = take_more among k 0 lt ∙ ap (λ (n : ℕ). take k among ++ n ∷ []) (sym is)

      one-set : (other : SetLine) → slice_get plan.sets p ≡ Some other → set ≡ other
      one-set other e = sym (get_or_from_slice_get plan.sets p set set at_p) ∙ get_or_from_slice_get plan.sets p other set e

      earlier : (at : ℕ) → Contains (take k among) at → at < p
      earlier at (i, i_in, e) =
          let short : length (take k among) ≡ k = length-take-le k among (omega (arith, lt)) in
          let i_lt : i < k = omega (arith, i_in, short) in
          let here : get_or among i 0 ≡ at = sym (get_or-take k among i 0 i_lt) ∙ get_or_default (take k among) i 0 at i_in ∙ e in
          omega (arith, net.rising i k 0 i_lt lt, here, is)

      pub among-with : RowsMeet plan w.row set.row → AreMetAmong plan w among (met ++ p ∷ []) (k + 1)
      among-with meet = record {
        rising =
            all_pairs_push (λ (one other : ℕ). one < other) met p before.rising
            (λ j d j_lt. earlier (get_or met j d) (before.from (get_or met j d) (Contains-get_or met j d j_lt)));
        from = λ at listed. subst (λ (l : List ℕ). Contains l at) (sym more) (elim (Contains-push_cases met p at listed) [
          | inl old ↦ Contains-append_left (take k among) (p ∷ []) at (before.from at old)
          | inr new ↦ subst (Contains (take k among ++ p ∷ [])) new (Contains-push (take k among) p)
        ]);
        each = λ at other e listed. elim (Contains-push_cases (take k among) p at (subst (λ (l : List ℕ). Contains l at) more listed)) [
          | inl old ↦ (
            λ in_met. elim (Contains-push_cases met p at in_met) [
              | inl known ↦ (before.each at other e old).0 known
              | inr new ↦ absurd (omega (arith, new, earlier at old))
            ],
            λ meets. Contains-append_left met (p ∷ []) at ((before.each at other e old).1 meets),
          )
          | inr new ↦ (
            λ in_met. subst (λ (s : SetLine). RowsMeet plan w.row s.row) (one-set other (subst (λ (n : ℕ). slice_get plan.sets n ≡ Some other) (sym new) e)) meet,
            λ meets. subst (Contains (met ++ p ∷ [])) new (Contains-push met p),
          )
        ];
      }

      pub among-without : (RowsMeet plan w.row set.row → ⊥) → AreMetAmong plan w among met (k + 1)
      among-without apart = record {
        rising = before.rising;
        from = λ at listed. subst (λ (l : List ℕ). Contains l at) (sym more) (Contains-append_left (take k among) (p ∷ []) at (before.from at listed));
        each = λ at other e listed. elim (Contains-push_cases (take k among) p at (subst (λ (l : List ℕ). Contains l at) more listed)) [
          | inl old ↦ before.each at other e old
          | inr new ↦ (
            λ in_met. absurd (omega (arith, new, earlier at (before.from at in_met))),
            λ meets.
                absurd (apart (subst (λ (s : SetLine). RowsMeet plan w.row s.row)
                (sym (one-set other (subst (λ (n : ℕ). slice_get plan.sets n ≡ Some other) (sym new) e))) meets)),
          )
        ];
      }

    -- all of them
    pub among-all : (met : List ℕ) (k : ℕ) → length among ≤ k → AreMetAmong plan w among met k → AreMet plan w met
    among-all met k past are =
        let whole : take k among ≡ among = take_all k among past in
        let from : (at : ℕ) → Contains met at → Contains among at = λ at listed. subst (λ (l : List ℕ). Contains l at) whole (are.from at listed) in
        record {
          rising = are.rising;
          within = All-from_get_or (λ at. at < length plan.sets) met 0 (λ i lt.
              All-contains (λ at. at < length plan.sets) among (get_or met i 0) net.within (from (get_or met i 0) (Contains-get_or met i 0 lt)));
          each = λ at set e. (
            λ listed. (
              sym ((net.each at set e).0 (from at listed)),
              (are.each at set e (are.from at listed)).0 listed,
            ),
            λ its. (are.each at set e (subst (λ (l : List ℕ). Contains l at) (sym whole) ((net.each at set e).1 (sym its.0)))).1 its.1,
          );
        }

-- conditions that mean the same meet where these do
pub meet-same : (f g h i : Meaning) → AreSame f h → AreSame g i → Meet f g → Meet h i
meet-same f g h i same other (c, in_f, in_g) = (c, sym (same c) ∙ in_f, sym (other c) ∙ in_g)

pub never-meet : (f g h i : Meaning) → AreSame f h → AreSame g i → IsNever (both f g) → Meet h i → ⊥
never-meet f g h i same other never (c, in_h, in_i) =
    absurd (false≢true (sym (never c) ∙ (λ j. (same c ∙ in_h) j && (other c ∙ in_i) j)))
