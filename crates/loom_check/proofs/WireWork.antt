-- The conditions of wires, worked out wire by wire.
use Rattle.std.proofs.Common.{◌≡◌, ◌↔◌, ℕ, ◌+◌, ◌<◌, ◌==◌, ◌&&◌, inl, inr, Bool, true, List, [], ◌∷◌, ◌++◌, append-nil, append_assoc, Some, length, refl, sym, ap, subst, ◌∙◌, arith, slice_get, IsTrue, Contains, Ok, Err}
use Rattle.std.specs.List.{list_any}
use Rattle.std.proofs.lemmas.Bool.{cases_Bool, cases_eq, and_parts, and_from, eq-eqb, eqb-true}
use Rattle.std.proofs.lemmas.List.Folds.{list_any_at}
use Rattle.std.proofs.lemmas.Option.{same_Some, slice_get_within, get_or_from_slice_get}
use Rattle.loom_base.proofs.Contained.{Contains-here, Contains-cons, Contains-map, Contains-from_map}
use Rattle.loom_project.specs.declared.draft.Draft.{Draft}
use Rattle.loom_rows.specs.declared.stop.RowsStop.{RowsStop}
use Rattle.loom_rows.specs.declared.stop.RowsStop.TheVariants.{TooManyRows, NoMemory}
use Rattle.loom_rows.specs.Condition.{Meaning}
use Rattle.loom_rows.specs.Disjunction.{some_hold, any_worked}
use Rattle.loom_rows.specs.Leftovers.{IsRowOf, AreMoreThan, StandsFor, Works}
use Rattle.loom_rows.specs.RowLists.{meaning_at}
use Rattle.loom_rows.specs.Table.{Table}
use Rattle.loom_rows.proofs.Worked.{stands-after, rows-few, rows-many}
use Rattle.loom_types.specs.declared.plan.Plan.{Plan}
use Rattle.loom_types.specs.declared.plan.SetLine.{SetLine}
use Rattle.loom_types.specs.declared.wire.Wire.{Wire}
use Rattle.loom_active.specs.SetWires.{RowsMeet, IsWireOf, IsOfLiveSet}
use Rattle.loom_active.specs.Valid.{NeedTooManyRows}
use Rattle.loom_active.proofs.ClashLemmas.{at_place}
use Rattle.loom_active.proofs.SetLemmas.{live-in_range}
use Rattle.loom_audit.specs.Conditions.{IsWhereSetsAre}
use Rattle.loom_audit.specs.FirstFailure.{EachBefore}
use Rattle.loom_check.specs.ConditionAnswers.{StopsAtWire, StopsConditions}
use Rattle.loom_check.specs.MetSets.{AreMet}
use Rattle.loom_check.specs.Stages.{HasLiveSets, HasConditions, AreSetsOf, AreWorked, none, next, WorksWires, conditions_of, rows_worked}
use Rattle.loom_check.specs.Verdict.{ConditionFails}
use Rattle.loom_check.specs.WireConditions.{sets_at, HoldsWithSets}
use Rattle.loom_check.proofs.AgreeingLines.{element}
use Rattle.loom_check.proofs.LiveSetsPrinted.{prints_live_sets}
use Rattle.loom_check.proofs.PickedSets.{places-pick}
use Rattle.loom_check.proofs.SetConditions.{into-picks, at-printed}

-- ---- a test that some member passes

module _ {X : Type 0} (p : X → Bool) where
  pub any-member : (xs : List X) → list_any p xs ≡ true → (x : X) × Contains xs x × (p x ≡ true)
  any-member [] e = absurd (cc)
  any-member (x ∷ xs) e = elim (cases_Bool (p x)) [
    | inl passes ↦ (x, Contains-here x xs, passes)
    | inr fails ↦
        let rest : list_any p xs ≡ true = rw fails at e in
        let (y, at, passes) = any-member xs rest in (y, Contains-cons y x xs at, passes)
  ]

  pub member-any : (xs : List X) (x : X) → Contains xs x → p x ≡ true → list_any p xs ≡ true
  member-any xs x (at, within, is) passes = list_any_at p xs at x within (ap p is ∙ passes)

stands-in : {X : Type 0} (xs : List X) (at : ℕ) (x : X) → slice_get xs at ≡ Some x → Contains xs x
stands-in xs at x stands = (at, slice_get_within xs at x stands, get_or_from_slice_get xs at x x stands)

module _ (plan : Plan) (w : Wire) (positions : List ℕ) (met : AreMet plan w positions) where
  abbrev sets : List SetLine
  sets = sets_at plan positions

  printed-at : (set : SetLine) → Contains sets set → Contains plan.sets set × IsWireOf plan set w
  printed-at set listed =
      let (at, known, stands) = at-printed plan positions met.within set listed in (stands-in plan.sets at set stands, (met.each at set stands).0 known)

  listed-back : (set : SetLine) → Contains plan.sets set → IsWireOf plan set w → Contains sets set
  listed-back set printed its =
      let stands = at_place plan.sets set printed in into-picks (slice_get plan.sets) positions printed.0 set ((met.each printed.0 set stands).1 its) stands

  -- of the wire's net, with a row that a met set has
  has_it : SetLine → Bool
  has_it set = w.net.0 == set.net.0 && list_any (λ other. other.row == set.row) sets

  has-its : (set : SetLine) → Contains plan.sets set → IsTrue (has_it set) ↔ IsWireOf plan set w
  unfolding has_it
  has-its set printed = (
    λ has.
        let parts = and_parts (w.net.0 == set.net.0) (list_any (λ other. other.row == set.row) sets) has in
        let (other, listed, same) = any-member (λ (o : SetLine). o.row == set.row) sets parts.1 in
        let its : IsWireOf plan other w = (printed-at other listed).1 in (
          eqb-true w.net.0 set.net.0 parts.0,
          subst (λ (row : ℕ). RowsMeet plan w.row row) (eqb-true other.row set.row same) its.1,
        ),
    λ its.
        and_from (w.net.0 == set.net.0) (list_any (λ other. other.row == set.row) sets) (eq-eqb w.net.0 set.net.0 its.0)
        (member-any (λ (o : SetLine). o.row == set.row) sets set (listed-back set printed its) (eq-eqb set.row set.row refl)),
  )

  pub sets-of-wire : AreSetsOf plan w sets
  sets-of-wire = record {
    has_it = has_it;
    have = has-its;
    picked = places-pick has_it plan.sets positions (record {
      rising = met.rising;
      within = met.within;
      each = λ at set stands.
          let has = has-its set (stands-in plan.sets at set stands) in (
            λ known. has.1 ((met.each at set stands).0 known),
            λ passes. (met.each at set stands).1 (has.0 passes),
          );
    });
  }

  some-set-holds : (choice : ℕ → Bool) → IsTrue (some_hold (conditions_of plan sets) choice) → IsOfLiveSet plan choice w
  some-set-holds choice holds =
      let (f, in_conditions, true_here) = any-member (λ (g : Meaning). g choice) (conditions_of plan sets) holds in
      let (set, listed, is) = Contains-from_map (λ (s : SetLine). meaning_at plan.rows s.row) sets f in_conditions in
      let its = printed-at set listed in
      record { set = set; printed = its.0; live = ap (λ (g : Meaning). g choice) is ∙ true_here; has = its.1 }

  set-holds : (choice : ℕ → Bool) → IsOfLiveSet plan choice w → IsTrue (some_hold (conditions_of plan sets) choice)
  set-holds choice of =
      member-any (λ (g : Meaning). g choice) (conditions_of plan sets) (meaning_at plan.rows of.set.row)
      (Contains-map (λ (s : SetLine). meaning_at plan.rows s.row) sets of.set (listed-back of.set of.printed of.has)) of.live

  pub where-sets : (draft : Draft) → HasLiveSets draft plan → HoldsWithSets plan w sets → IsWhereSetsAre draft plan w
  where-sets draft live holds =
      let (set, stands) = element sets 0 holds.some in
      let its = printed-at set (stands-in sets 0 set stands) in
      let within : set.net.0 < length draft.nets =
      live-in_range draft set.net.0 set.mask ((prints_live_sets draft plan live.sets).each set its.0) in
      record {
        net = omega (arith, its.1.0, within);
        some = (set, its.0, its.1);
        condition = λ choice. (
          λ yes. some-set-holds choice ((holds.condition choice).0 yes),
          λ of. (holds.condition choice).1 (set-holds choice of),
        );
      }

  pub sets-where : (draft : Draft) → IsWhereSetsAre draft plan w → HoldsWithSets plan w sets
  sets-where draft is =
      let (set, printed, its) = is.some in
      let (at, within, e) = listed-back set printed its in
      record {
        some = omega (arith, within);
        condition = λ choice. (
          λ yes. set-holds choice ((is.condition choice).0 yes),
          λ holds. (is.condition choice).1 (some-set-holds choice holds),
        );
      }

-- ---- from wire to wire

-- the first k wires have their conditions, and the table stands for what was worked out
pub record WorkedBefore (draft : Draft) (plan : Plan) (t : Table) (k : ℕ) : Type 0 where
  pub works : WorksWires draft plan k
  pub stands : StandsFor t (rows_worked draft plan ++ works.worked)
  pub conditions : EachBefore (λ i w. IsWhereSetsAre draft plan w) plan.wires k

module _ (draft : Draft) (plan : Plan) (live : HasLiveSets draft plan) where
  pub worked-start : (t : Table) → StandsFor t (rows_worked draft plan) → WorkedBefore draft plan t 0
  worked-start t stands = record {
    works = record {
      worked = [];
      are_worked = none;
      few_rows = λ many. live.takes.few_rows (subst NeedTooManyRows (append-nil (rows_worked draft plan)) many);
    };
    stands = subst (StandsFor t) (sym (append-nil (rows_worked draft plan))) stands;
    conditions = λ i w below. absurd (omega (arith, below));
  }

  pub has-conditions : (t : Table) (k : ℕ) → WorkedBefore draft plan t k → HasConditions draft plan k
  has-conditions t k worked = record { sets = live; works = worked.works; conditions = worked.conditions }

  module _ (t u : Table) (k : ℕ) (before : WorkedBefore draft plan t k) (limit : t.limit ≡ 262144) (w : Wire) (stands : slice_get plan.wires k ≡ Some w)
      (positions : List ℕ) (met : AreMet plan w positions) where
    abbrev added : List Meaning
    added = any_worked (conditions_of plan (sets_at plan positions))

    abbrev all : List Meaning
    all = (rows_worked draft plan ++ before.works.worked) ++ added

    grouped : all ≡ rows_worked draft plan ++ (before.works.worked ++ added)
    grouped = append_assoc (rows_worked draft plan) before.works.worked added

    one-more : AreWorked plan (k + 1) (before.works.worked ++ added)
    one-more = next k before.works.worked w (sets_at plan positions) before.works.are_worked stands (sets-of-wire plan w positions met)

    works-next : (b : Bool) → Works added t u (Ok b) → WorksWires draft plan (k + 1)
    works-next b works = record {
      worked = before.works.worked ++ added;
      are_worked = one-more;
      few_rows = λ many.
          rows-few (rows_worked draft plan ++ before.works.worked) added t u before.stands b works
          (subst (λ (n : ℕ). AreMoreThan n (IsRowOf all)) (sym limit) (subst NeedTooManyRows (sym grouped) many));
    }

    pub worked-next : (b : Bool) → Works added t u (Ok b) → HoldsWithSets plan w (sets_at plan positions) → WorkedBefore draft plan u (k + 1)
    unfolding works-next
    worked-next b works holds = record {
      works = works-next b works;
      stands = subst (StandsFor u) grouped (stands-after (rows_worked draft plan ++ before.works.worked) added t u before.stands b works);
      conditions = λ i v below at. elim (cases_eq i k) [
        | inl e ↦
            let same : w ≡ v = same_Some w v (sym stands ∙ (ap (slice_get plan.wires) (sym e) ∙ at)) in
            subst (λ (x : Wire). IsWhereSetsAre draft plan x) same (where-sets plan w positions met draft live holds)
        | inr other ↦ before.conditions i v (omega (arith, below, other)) at
      ];
    }

    pub condition-fails : (b : Bool) → Works added t u (Ok b) → (HoldsWithSets plan w (sets_at plan positions) → ⊥) → ConditionFails draft plan k
    condition-fails b works fails = record {
      before = has-conditions t k before;
      works = works-next b works;
      wire = w;
      stands = stands;
      fails = λ is. fails (sets-where plan w positions met draft is);
    }

    pub stops-there : Works {A = Bool} added t u (Err TooManyRows) → StopsAtWire draft plan
    stops-there works = record {
      at = k;
      before = has-conditions t k before;
      many = record {
        worked = before.works.worked ++ added;
        are_worked = one-more;
        many =
            subst NeedTooManyRows grouped
            (subst (λ (n : ℕ). AreMoreThan n (IsRowOf all)) limit
            (rows-many (rows_worked draft plan ++ before.works.worked) added t u before.stands {A = Bool} (Err TooManyRows) refl works));
      };
    }

    -- why the working out of a wire stops is why that of all wires does
    pub work-stops : (stop : RowsStop) → Works {A = Bool} added t u (Err stop) → StopsConditions draft plan stop
    work-stops TooManyRows works = stops-there works
    work-stops NoMemory works = tt
