-- The judging of a plan that passes stops for want of memory alone: what it works out for wires is fixed, and needs few rows.
use Rattle.std.proofs.Common.{◌≡◌, ℕ, zero, suc, ◌+◌, ◌-◌, ◌⊎◌, List, [], ◌++◌, append_assoc, length, slice_get, Some, refl, sym, ap, subst, ◌∙◌, arith, inl, inr}
use Rattle.std.proofs.lemmas.Option.{same_Some, slice_get_within}
use Rattle.loom_project.specs.declared.draft.Draft.{Draft}
use Rattle.loom_rows.specs.Condition.{Meaning}
use Rattle.loom_rows.specs.Disjunction.{any_worked}
use Rattle.loom_rows.proofs.Worked.{rows-more}
use Rattle.loom_types.specs.declared.plan.Plan.{Plan}
use Rattle.loom_types.specs.declared.plan.SetLine.{SetLine}
use Rattle.loom_types.specs.declared.wire.Wire.{Wire}
use Rattle.loom_active.specs.declared.stop.ActiveStop.{ActiveStop}
use Rattle.loom_active.specs.declared.stop.ActiveStop.TheVariants.{NoMemory}
use Rattle.loom_active.specs.Valid.{NeedTooManyRows}
use Rattle.loom_plan.specs.FirstStop.{FindsSets}
use Rattle.loom_plan.proofs.StopStages.{live-passed}
use Rattle.loom_check.specs.Stages.{FindsLiveSets, AreSetsOf, conditions_of, AreWorked, none, next, WorksTooMuch, rows_worked}
use Rattle.loom_check.specs.Verdict.{PassesAll, StopsCheck, seeking as stopped_search, rows as stopped_rows, wires as stopped_wires}
use Rattle.loom_accord.specs.Laws.{PassingNeverStops}
use Rattle.loom_accord.proofs.ListFacts.{filter-alike}

-- the last wire for which something is worked out
record IsNext (plan : Plan) (n : ℕ) (made : List Meaning) : Type 0 where
  count : ℕ
  worked : List Meaning
  wire : Wire
  sets : List SetLine
  before : AreWorked plan count worked
  stands : slice_get plan.wires count ≡ Some wire
  are_sets : AreSetsOf plan wire sets
  one_more : count + 1 ≡ n
  made_is : worked ++ any_worked (conditions_of plan sets) ≡ made

view : (plan : Plan) (n : ℕ) (made : List Meaning) → AreWorked plan n made → ((n ≡ 0) × (made ≡ [])) ⊎ IsNext plan n made
view plan n made none = inl (refl, refl)
view plan n made (next count worked wire sets before stands are_sets) =
    inr (record {
      count = count;
      worked = worked;
      wire = wire;
      sets = sets;
      before = before;
      stands = stands;
      are_sets = are_sets;
      one_more = refl;
      made_is = refl;
    })

-- a wire is one of one list of sets
same_sets : (plan : Plan) (w : Wire) (one other : List SetLine) → AreSetsOf plan w one → AreSetsOf plan w other → one ≡ other
same_sets plan w one other a b =
    a.picked
    ∙ (filter-alike a.has_it b.has_it plan.sets (λ set at. (
      λ has. (b.have set at).1 ((a.have set at).0 has),
      λ has. (a.have set at).1 ((b.have set at).0 has),
    ))
    ∙ sym b.picked)

-- what is worked out for so many wires is fixed
same_worked : (plan : Plan) (n : ℕ) (one other : List Meaning) → AreWorked plan n one → AreWorked plan n other → one ≡ other
same_worked plan zero one other a b = elim (view plan 0 one a) [
  | inl first ↦ elim (view plan 0 other b) [ inl also ↦ first.1 ∙ sym also.1 | inr more ↦ absurd (omega (arith, more.one_more)) ]
  | inr more ↦ absurd (omega (arith, more.one_more))
]
same_worked plan (suc n) one other a b = elim (view plan (suc n) one a) [
  | inl first ↦ absurd (omega (arith, first.0))
  | inr p ↦ elim (view plan (suc n) other b) [
    | inl first ↦ absurd (omega (arith, first.0))
    | inr q ↦
        let at_p : p.count ≡ n = omega (arith, p.one_more) in
        let at_q : q.count ≡ n = omega (arith, q.one_more) in
        let same : p.worked ≡ q.worked =
        same_worked plan n p.worked q.worked (subst (λ (k : ℕ). AreWorked plan k p.worked) at_p p.before)
        (subst (λ (k : ℕ). AreWorked plan k q.worked) at_q q.before) in
        let wire : p.wire ≡ q.wire =
        same_Some p.wire q.wire (sym p.stands ∙ (ap (λ (k : ℕ). slice_get plan.wires k) (at_p ∙ sym at_q) ∙ q.stands)) in
        let sets : p.sets ≡ q.sets =
        same_sets plan q.wire p.sets q.sets (subst (λ (w : Wire). AreSetsOf plan w p.sets) wire p.are_sets) q.are_sets in
        sym p.made_is ∙ ((λ i. same i ++ any_worked (conditions_of plan (sets i))) ∙ q.made_is)
  ]
]

-- more wires need no fewer rows
rows_carried : (plan : Plan) (start : List Meaning) (n more m : ℕ) (one other : List Meaning) → n + more ≡ m → AreWorked plan n one
    → AreWorked plan m other → NeedTooManyRows (start ++ one) → NeedTooManyRows (start ++ other)
rows_carried plan start n zero m one other total a b many =
    let here : n ≡ m = omega (arith, total) in
    let same : one ≡ other = same_worked plan m one other (subst (λ (k : ℕ). AreWorked plan k one) here a) b in
    subst (λ (l : List Meaning). NeedTooManyRows (start ++ l)) same many
rows_carried plan start n (suc more) m one other total a b many = elim (view plan m other b) [
  | inl first ↦ absurd (omega (arith, first.0, total))
  | inr q ↦
      let added : List Meaning = any_worked (conditions_of plan q.sets) in
      let earlier : NeedTooManyRows (start ++ q.worked) =
      rows_carried plan start n more q.count one q.worked (omega (arith, total, q.one_more)) a q.before many in
      subst (λ (l : List Meaning). NeedTooManyRows (start ++ l)) q.made_is
      (subst NeedTooManyRows (append_assoc start q.worked added) (rows-more 262144 (start ++ q.worked) added earlier))
]

module _ (draft : Draft) (plan : Plan) (passes : PassesAll draft plan) where
  found : FindsLiveSets draft
  found = passes.conditions.sets.takes.found

  finds : FindsSets draft
  finds = record { some_choice = found.some_choice; clear = found.clear; few_sets = found.few_sets; few_rows = found.few_rows }

  few_for_wires : (at : ℕ) → WorksTooMuch draft plan (at + 1) → ⊥
  few_for_wires at much =
      let works = passes.conditions.works in
      let within : at + 1 + (length plan.wires - (at + 1)) ≡ length plan.wires = elim (view plan (at + 1) much.worked much.are_worked) [
        | inl first ↦ absurd (omega (arith, first.0))
        | inr q ↦ omega (arith, q.one_more, slice_get_within plan.wires q.count q.wire q.stands)
      ] in
      works.few_rows
      (rows_carried plan (rows_worked draft plan) (at + 1) (length plan.wires - (at + 1)) (length plan.wires) much.worked works.worked within
      much.are_worked works.are_worked much.many)

  none_stops : (stop : ActiveStop) → StopsCheck draft plan stop → stop ≡ NoMemory
  none_stops stop (stopped_search of live) = live-passed draft of finds live
  none_stops stop (stopped_rows of sound many) = absurd (passes.conditions.sets.takes.few_rows many)
  none_stops stop (stopped_wires at before much) = absurd (few_for_wires at much)

pub passing_never_stops : PassingNeverStops
passing_never_stops draft plan passes stop due = none_stops draft plan passes stop due
