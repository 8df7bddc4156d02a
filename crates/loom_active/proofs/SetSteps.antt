-- The live sets of nets, net after net.
use Rattle.std.proofs.Common.{◌≡◌, ℕ, ◌+◌, ◌<◌, ◌≤◌, inl, inr, List, [], ◌++◌, length, get_or, take, Some, slice_get, refl, sym, ap, subst, ◌∙◌, arith, Result, Ok, Err, append_assoc, append-nil}
use Rattle.std.specs.List.{flat_map, filter_map}
use Rattle.std.proofs.lemmas.List.{take_all, get_or_default, length-map}
use Rattle.std.proofs.lemmas.Option.{slice_get-get_or, slice_get_within}
use Rattle.loom_base.specs.declared.limits.Which.TheVariants.{Sets}
use Rattle.loom_base.specs.declared.positions.NetNo.{NetNo}
use Rattle.loom_project.specs.declared.draft.Draft.{Draft}
use Rattle.loom_project.specs.declared.draft.NetDraft.{NetDraft}
use Rattle.loom_project.specs.Project.{net_at, no_net}
use Rattle.loom_rows.specs.declared.cond.Cond.{Cond}
use Rattle.loom_rows.specs.declared.stop.RowsStop.{RowsStop}
use Rattle.loom_rows.specs.declared.stop.RowsStop.TheVariants.{TooManyRows, NoMemory}
use Rattle.loom_rows.specs.Condition.{Meaning, value}
use Rattle.loom_rows.specs.Table.{Table, Has, IsSound}
use Rattle.loom_rows.specs.Leftovers.{AreSame, IsRowOf, AreMoreThan, StandsFor, Works}
use Rattle.loom_rows.specs.Meet.{IsPossible}
use Rattle.loom_rows.proofs.Conditions.{same}
use Rattle.loom_rows.proofs.Worked.{stands-after, rows-few, rows-many}
use Rattle.loom_active.specs.declared.live.LiveSet.{LiveSet}
use Rattle.loom_active.specs.declared.patterns.Pattern.{Pattern}
use Rattle.loom_active.specs.declared.stop.ActiveStop.TheVariants.{Limit}
use Rattle.loom_active.specs.declared.terminals.Terminal.{Terminal}
use Rattle.loom_active.specs.Needs.{is_valid_for}
use Rattle.loom_active.specs.Valid.{SomeIsValid, NeedTooManyRows, stop_of}
use Rattle.loom_active.specs.Clash.{HasNoClash}
use Rattle.loom_active.specs.LiveWork.{formulas_of, signs_worked, needs_worked, worked_through, live_worked}
use Rattle.loom_active.specs.LiveStops.{IsReached, IsLiveStop}
use Rattle.loom_active.specs.Patterns.{ArePatterns}
use Rattle.loom_active.specs.Terminals.{AreTerminalsOf, AreTerminals, whens_of, HasWhens, IsSameJob}
use Rattle.loom_active.specs.FoundSets.{AreLiveSets, AreLiveSetsBelow, set_of}
use Rattle.loom_active.proofs.Steps.{parts-more}
use Rattle.loom_active.proofs.SetLemmas.{whens-formulas, sets-none, sets-next, sets-all, sets-many, sets-few}
use Rattle.loom_rows.proofs.Counted.{element}

abbrev pub signs_of : Draft → NetDraft → List Meaning
signs_of draft net = signs_worked (is_valid_for draft) (formulas_of draft.options net)

-- the sets of the first n nets are found
pub record SetsSoFar (draft : Draft) (n : ℕ) (old t : Table) (found : List LiveSet) : Type 0 where
  pub sets : AreLiveSetsBelow draft t n found
  pub few : length found ≤ 16384
  pub stands : StandsFor t (worked_through draft n)
  pub few_rows : NeedTooManyRows (worked_through draft n) → ⊥
  pub sound : IsSound t
  pub keeps : (x : Cond) → Has old x → Has t x
  pub same_job : IsSameJob old t

through_none : (draft : Draft) → worked_through draft 0 ≡ needs_worked draft
through_none draft = append-nil (needs_worked draft)

pub found-init : (draft : Draft) (t : Table) → IsSound t → StandsFor t (needs_worked draft) → (NeedTooManyRows (needs_worked draft) → ⊥) → SetsSoFar draft 0 t t []
found-init draft t sound stands few = record {
  sets = sets-none draft t;
  few = omega arith;
  stands = subst (StandsFor t) (sym (through_none draft)) stands;
  few_rows = subst (λ (l : List Meaning). NeedTooManyRows l → ⊥) (sym (through_none draft)) few;
  sound = sound;
  keeps = λ x h. h;
  same_job = record { options = refl; limit = refl };
}

module _ (draft : Draft) (some : SomeIsValid draft) (clear : HasNoClash draft) (valid : Cond) (is : AreSame (value valid) (is_valid_for draft)) (nets : List (List Terminal)) (counted : length nets ≡ length draft.nets)
    (n : ℕ) (lt : n < length draft.nets) (old t : Table) (limit : old.limit ≡ 262144) (terminals_are : AreTerminals draft old (value valid) nets) (sets : List LiveSet) (s : SetsSoFar draft n old t sets)
    (terminals : List Terminal) (at : terminals ≡ get_or nets n terminals) where
  at_net : slice_get nets n ≡ Some terminals
  at_net = slice_get-get_or nets n terminals (omega (arith, lt, counted)) ∙ ap Some (sym at)

  here : AreTerminalsOf draft old (value valid) n terminals
  here = terminals_are n terminals at_net

  pub terminals-few : length terminals ≤ 12
  terminals-few = here.few

  pub possible : IsPossible (value valid)
  possible = (some.0, is some.0 ∙ some.1)

  pub valid-has : Has old valid → Has t valid
  valid-has h = s.keeps valid h

  whens_are : whens_of terminals ≡ formulas_of draft.options (net_at draft n)
  whens_are = whens-formulas draft old (value valid) n terminals here

  pub whens-has : HasWhens t terminals
  whens-has k x at_x =
      let lt_k = slice_get_within terminals k x at_x in
      let f = element (formulas_of draft.options (net_at draft n)) k (omega (arith, lt_k, ap length whens_are, length-map terminals (λ (y : Terminal). value y.when))) in
      s.keeps x.when (here.each k x f.0 at_x f.1).has_when

  net_is : net_at draft n ≡ get_or draft.nets n (net_at draft n)
  net_is = get_or_default draft.nets n no_net (net_at draft n) lt

  through_next : worked_through draft (n + 1) ≡ worked_through draft n ++ signs_of draft (net_at draft n)
  through_next =
      ap (λ l. needs_worked draft ++ l) (parts-more (signs_of draft) draft.nets n (net_at draft n) lt net_is)
      ∙ sym (append_assoc (needs_worked draft) (flat_map (signs_of draft) (take n draft.nets)) (signs_of draft (net_at draft n)))

  own : {A : Type 0} (u : Table) (r : Result A RowsStop) → Works (signs_worked (value valid) (whens_of terminals)) t u r → Works (signs_of draft (net_at draft n)) t u r
  own u r w = subst (λ (l : List Meaning). Works l t u r) (λ i. signs_worked (same is i) (whens_are i)) w

  t_limit : t.limit ≡ 262144
  t_limit = s.same_job.limit ∙ limit

  reached : IsReached draft n
  reached = record { in_range = lt; some = some; clear = clear; few_rows = s.few_rows; few_sets = sets-few draft t n 16384 sets s.sets s.few }

  pub found-stop : (u : Table) (e : RowsStop) → Works {A = List Pattern} (signs_worked (value valid) (whens_of terminals)) t u (Err e) → IsLiveStop draft (stop_of e)
  found-stop u TooManyRows w =
      inr (
        refl,
        refl,
        inr (inr (
          n,
          reached,
          subst (λ (l : List Meaning). NeedTooManyRows l) (sym through_next)
              (subst (λ (m : ℕ). AreMoreThan m (IsRowOf (worked_through draft n ++ signs_of draft (net_at draft n)))) t_limit
              (rows-many (worked_through draft n) (signs_of draft (net_at draft n)) t u s.stands (Err TooManyRows) refl (own {A = List Pattern} u (Err TooManyRows) w))),
        )),
      )
  found-stop u NoMemory w = tt

  module _ {A : Type 0} (u : Table) (r : Result A RowsStop) (w : Works (signs_worked (value valid) (whens_of terminals)) t u r) where
    pub found-keeps : (x : Cond) → Has old x → Has u x
    found-keeps x h = w.keeps x (s.keeps x h)

    pub found-same_job : IsSameJob old u
    found-same_job = record { options = w.gains.same_options ∙ s.same_job.options; limit = w.gains.same_limit ∙ s.same_job.limit }

  module _ (u : Table) (ps : List Pattern) (w : Works (signs_worked (value valid) (whens_of terminals)) t u (Ok ps)) (patterns : ArePatterns u (value valid) (whens_of terminals) ps) (net : NetNo) (number : net.0 ≡ n) (more : List LiveSet) (more_is : more ≡ sets ++ filter_map (set_of net) ps) where
    next_sets : AreLiveSetsBelow draft u (n + 1) more
    next_sets = subst (λ (l : List LiveSet). AreLiveSetsBelow draft u (n + 1) l) (sym more_is)
        (sets-next draft t u n net number sets s.sets w.keeps ps (subst (λ (f : Meaning). ArePatterns u f (formulas_of draft.options (net_at draft n)) ps) (same is) (subst (λ (l : List Meaning). ArePatterns u (value valid) l ps) whens_are patterns)))

    rows_fit : NeedTooManyRows (worked_through draft (n + 1)) → ⊥
    rows_fit many =
        rows-few (worked_through draft n) (signs_of draft (net_at draft n)) t u s.stands ps (own u (Ok ps) w)
        (subst (λ (m : ℕ). AreMoreThan m (IsRowOf (worked_through draft n ++ signs_of draft (net_at draft n)))) (sym t_limit) (subst (λ (l : List Meaning). NeedTooManyRows l) through_next many))

    pub found-many : 16384 < length more → IsLiveStop draft (Limit Sets 16385)
    found-many many = inl (refl, refl, (n, (reached, rows_fit, sets-many draft u (n + 1) 16384 more next_sets many)))

    pub found-next : length more ≤ 16384 → SetsSoFar draft (n + 1) old u more
    found-next few = record {
      sets = next_sets;
      few = few;
      stands = subst (StandsFor u) (sym through_next) (stands-after (worked_through draft n) (signs_of draft (net_at draft n)) t u s.stands ps (own u (Ok ps) w));
      few_rows = rows_fit;
      sound = w.sound;
      keeps = λ x h. w.keeps x (s.keeps x h);
      same_job = record { options = w.gains.same_options ∙ s.same_job.options; limit = w.gains.same_limit ∙ s.same_job.limit };
    }

module _ (draft : Draft) (n : ℕ) (past : length draft.nets ≤ n) (old t : Table) (sets : List LiveSet) (s : SetsSoFar draft n old t sets) where
  through_all : worked_through draft n ≡ live_worked draft
  through_all = ap (λ l. needs_worked draft ++ flat_map (signs_of draft) l) (take_all n draft.nets past)

  pub found-sets : AreLiveSets draft t sets
  found-sets = sets-all draft t n sets past s.sets

  pub found-stands : StandsFor t (live_worked draft)
  found-stands = subst (StandsFor t) through_all s.stands

  pub found-fit : NeedTooManyRows (live_worked draft) → ⊥
  found-fit = subst (λ (l : List Meaning). NeedTooManyRows l → ⊥) through_all s.few_rows
