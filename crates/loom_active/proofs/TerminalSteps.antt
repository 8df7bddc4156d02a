-- Terminals, worked out one after another, and nets.
use Rattle.std.proofs.Common.{◌≡◌, ◌≢◌, ℕ, ◌+◌, ◌<◌, ◌≤◌, ◌&&◌, inl, inr, List, [], ◌∷◌, ◌++◌, length, map, get_or, take, refl, sym, ap, subst, ◌∙◌, arith, Result, Ok, Err, Some, slice_get}
use Rattle.std.specs.List.{flat_map, All, AllPairs}
use Rattle.std.proofs.lemmas.List.{get_or-map, length-map, take_more, take_all, get_or_default, get_or-take, length-take, length-append, map-append}
use Rattle.std.proofs.lemmas.Option.{slice_get-get_or, slice_get_within, same_Some}
use Rattle.loom_base.specs.declared.positions.CavityNo.{CavityNo}
use Rattle.loom_formula.specs.declared.formula.Formula.TheVariants.{Always}
use Rattle.loom_project.specs.declared.draft.Draft.{Draft}
use Rattle.loom_project.specs.declared.draft.NetDraft.{NetDraft}
use Rattle.loom_project.specs.declared.draft.TerminalDraft.{TerminalDraft}
use Rattle.loom_project.specs.Draft.{index_of, cavity_names}
use Rattle.loom_project.specs.Project.{net_at, no_net, cavities_of, when_at}
use Rattle.loom_rows.specs.declared.cond.Cond.{Cond}
use Rattle.loom_rows.specs.declared.stop.RowsStop.{RowsStop}
use Rattle.loom_rows.specs.declared.stop.RowsStop.TheVariants.{NoMemory}
use Rattle.loom_rows.specs.Condition.{Meaning, value, both}
use Rattle.loom_rows.specs.Table.{Table, Has, IsSound}
use Rattle.loom_rows.specs.Leftovers.{AreSame, Works}
use Rattle.loom_rows.specs.Formulas.{worked_of, meaning_of}
use Rattle.loom_rows.proofs.Conditions.{same}
use Rattle.loom_rows.proofs.Outcomes.{keeps}
use Rattle.loom_rows.proofs.Made.{slice_get-append_cases}
use Rattle.loom_rows.proofs.Progress.{Progress, progress-none, stop-first}
use Rattle.loom_rows.proofs.WorkFolds.{works-then}
use Rattle.loom_active.specs.declared.terminals.Terminal.{Terminal}
use Rattle.loom_active.specs.LiveWork.{formulas_of, terminal_worked, terminals_worked}
use Rattle.loom_active.specs.Terminals.{IsWorkedOut, AreTerminalsOf, AreTerminals}
use Rattle.loom_active.proofs.Steps.{step-next, step-stop, step-no_memory, step-done}

abbrev pub no_terminal : TerminalDraft
no_terminal = record { cavity = []; when = Always }

-- the terminals of a net, as they are written down
abbrev pub drafts_of : Draft → ℕ → List TerminalDraft
drafts_of draft net = (net_at draft net).terminals

-- the first k terminals of a net are worked out
pub record TerminalsSoFar (draft : Draft) (valid : Meaning) (net k : ℕ) (old t : Table) (terminals : List Terminal) : Type 0 where
  pub progress : Progress (flat_map (terminal_worked draft.options valid) (take k (drafts_of draft net))) old t
  pub counted : length terminals ≡ k
  pub cavities : map (λ x. x.cavity.0) terminals ≡ take k (cavities_of draft net)
  pub each : (j : ℕ) (x : Terminal) (formula : Meaning) → slice_get terminals j ≡ Some x → slice_get (formulas_of draft.options (net_at draft net)) j ≡ Some formula → IsWorkedOut t valid formula x

pub terminals-init : (draft : Draft) (valid : Meaning) (net : ℕ) (t : Table) → IsSound t → TerminalsSoFar draft valid net 0 t t []
terminals-init draft valid net t sound = record {
  progress = progress-none t sound;
  counted = refl;
  cavities = refl;
  each = λ j x formula e. absurd (cc);
}

-- what was worked out stays so
pub worked-keeps : (t u : Table) (valid formula : Meaning) (x : Terminal) → ((y : Cond) → Has t y → Has u y) → IsWorkedOut t valid formula x → IsWorkedOut u valid formula x
worked-keeps t u valid formula x kept w = record { has_when = kept x.when w.has_when; when = w.when; has_active = kept x.active w.has_active; active = w.active }

module _ (draft : Draft) (valid : Cond) (net k : ℕ) (lt : k < length (drafts_of draft net)) (old t : Table) (terminals : List Terminal) (s : TerminalsSoFar draft (value valid) net k old t terminals) (options : List (List ℕ)) (of_draft : options ≡ draft.options) where
  abbrev x : TerminalDraft
  x = get_or (drafts_of draft net) k no_terminal

  at : x ≡ get_or (drafts_of draft net) k x
  at = get_or_default (drafts_of draft net) k no_terminal x lt

  formula_is : when_at draft net k ≡ x.when
  formula_is = get_or-map (λ d. d.when) (drafts_of draft net) k no_terminal Always lt

  abbrev part : TerminalDraft → List Meaning
  part = terminal_worked draft.options (value valid)

  of_when : {A : Type 0} (u : Table) (r : Result A RowsStop) → Works (worked_of options (when_at draft net k)) t u r → Works (worked_of draft.options x.when) t u r
  of_when u r w = subst (λ (l : List Meaning). Works l t u r) (λ i. worked_of (of_draft i) (formula_is i)) w

  pub terminal-has : Has old valid → Has t valid
  terminal-has h = keeps s.progress.gains valid h

  pub terminal-stop1 : (u : Table) (e : RowsStop) → Works {A = Cond} (worked_of options (when_at draft net k)) t u (Err e) → Works {A = List Terminal} (flat_map part (drafts_of draft net)) old u (Err e)
  terminal-stop1 u e w =
      step-stop part (drafts_of draft net) k x lt at {A = Cond} {B = List Terminal} old t u e s.progress
      (stop-first {A = Cond} {B = Cond} (worked_of draft.options x.when) (both (value valid) (meaning_of draft.options x.when) ∷ []) t u e (of_when u (Err e) w))

  module _ (u : Table) (when : Cond) (w1 : Works (worked_of options (when_at draft net k)) t u (Ok when)) (has_when : Has u when) (is : AreSame (value when) (meaning_of options (when_at draft net k))) where
    pub terminal-has2 : Has old valid → Has u valid
    terminal-has2 h = w1.keeps valid (terminal-has h)

    is_when : AreSame (value when) (meaning_of draft.options x.when)
    is_when c = is c ∙ λ i. meaning_of (of_draft i) (formula_is i) c

    pair : {A : Type 0} (v : Table) (r : Result A RowsStop) → Works (both (value valid) (value when) ∷ []) u v r → Works (part x) t v r
    pair v r w =
        works-then (worked_of draft.options x.when) (both (value valid) (meaning_of draft.options x.when) ∷ []) t u v when r (of_when u (Ok when) w1)
        (subst (λ (f : Meaning). Works (both (value valid) f ∷ []) u v r) (same is_when) w)

    pub terminal-stop2 : (v : Table) (e : RowsStop) → Works {A = Cond} (both (value valid) (value when) ∷ []) u v (Err e) → Works {A = List Terminal} (flat_map part (drafts_of draft net)) old v (Err e)
    terminal-stop2 v e w = step-stop part (drafts_of draft net) k x lt at {A = Cond} {B = List Terminal} old t v e s.progress (pair v (Err e) w)

    module _ (v : Table) (active : Cond) (w2 : Works (both (value valid) (value when) ∷ []) u v (Ok active)) (has_active : Has v active) (is_active : AreSame (value active) (both (value valid) (value when))) where
      pub terminal-no_memory : Works {A = List Terminal} (flat_map part (drafts_of draft net)) old v (Err NoMemory)
      terminal-no_memory = step-no_memory part (drafts_of draft net) k x lt at {A = Cond} {B = List Terminal} old t v active s.progress (pair v (Ok active) w2)

      pub terminal-next : (y : Terminal) → y.when ≡ when → y.active ≡ active → y.cavity.0 ≡ get_or (cavities_of draft net) k 0 → (more : List Terminal) → more ≡ terminals ++ y ∷ [] → TerminalsSoFar draft (value valid) net (k + 1) old v more
      terminal-next y y_when y_active y_cavity more e = subst (λ (l : List Terminal). TerminalsSoFar draft (value valid) net (k + 1) old v l) (sym e) (record {
        progress = step-next part (drafts_of draft net) k x lt at old t v active s.progress (pair v (Ok active) w2);
        counted = omega (arith, s.counted, length-append terminals (y ∷ []));
        cavities =
            map-append (λ z. z.cavity.0) terminals (y ∷ []) ∙ (λ i. s.cavities i ++ y_cavity i ∷ [])
            ∙ sym (take_more (cavities_of draft net) k 0 (omega (arith, lt, length-map (drafts_of draft net) (λ d. index_of (cavity_names draft.cavities) d.cavity))));
        each = λ j z formula at_z at_formula. elim (slice_get-append_cases terminals y z j at_z) [
          | inl before ↦ worked-keeps t v (value valid) formula z (λ c h. w2.keeps c (w1.keeps c h)) (s.each j z formula before.1 at_formula)
          | inr last ↦
              let j_is : j ≡ k = omega (arith, last.0, s.counted) in
              let f_is : formula ≡ meaning_of draft.options x.when =
              same_Some formula (meaning_of draft.options x.when)
              (sym at_formula ∙ ap (slice_get (formulas_of draft.options (net_at draft net))) j_is
              ∙ slice_get-get_or (formulas_of draft.options (net_at draft net)) k (meaning_of draft.options x.when) (omega (arith, lt, length-map (drafts_of draft net) (λ d. meaning_of draft.options d.when)))
              ∙ ap Some (get_or-map (λ d. meaning_of draft.options d.when) (drafts_of draft net) k x (meaning_of draft.options x.when) lt ∙ ap (λ d. meaning_of draft.options d.when) (sym at))) in
              subst (λ (w : Terminal). IsWorkedOut v (value valid) formula w) last.1
              (subst (λ (g : Meaning). IsWorkedOut v (value valid) g y) (sym f_is) (record {
                has_when = subst (Has v) (sym y_when) (w2.keeps when has_when);
                when = λ c. ap (λ z. value z c) y_when ∙ is_when c;
                has_active = subst (Has v) (sym y_active) has_active;
                active = λ c. ap (λ z. value z c) y_active ∙ is_active c ∙ λ i. value valid c && is_when c i;
              }))
        ];
      })

module _ (draft : Draft) (valid : Meaning) (net k : ℕ) (past : length (drafts_of draft net) ≤ k) (old t : Table) (terminals : List Terminal) (s : TerminalsSoFar draft valid net k old t terminals) where
  pub terminals-done : k ≤ 12 → AllPairs (λ one other. one ≢ other) (cavities_of draft net) → (cavities : List CavityNo) → map (λ c. c.0) cavities ≡ cavities_of draft net
      → All (λ c. c.0 < length draft.cavities) cavities → AreTerminalsOf draft t valid net terminals
  terminals-done few different cavities places in_range = record {
    different = different;
    in_range = λ j x at_x.
        let lt = slice_get_within terminals j x at_x in
        let here : x.cavity.0 ≡ get_or (cavities_of draft net) j 0 =
        ap (λ (y : Terminal). y.cavity.0) (same_Some x (get_or terminals j x) (sym at_x ∙ slice_get-get_or terminals j x lt))
        ∙ sym (get_or-map (λ (y : Terminal). y.cavity.0) terminals j x 0 lt) ∙ ap (λ l. get_or l j 0) s.cavities ∙ get_or-take k (cavities_of draft net) j 0 (omega (arith, lt, s.counted)) in
        let long : j < length cavities = omega (arith, lt, s.counted, ap length s.cavities, length-map terminals (λ (y : Terminal). y.cavity.0), length-take k (cavities_of draft net), ap length places, length-map cavities (λ (c : CavityNo). c.0)) in
        let zero_cavity : CavityNo = record { 0 = 0 } in
        subst (λ (n : ℕ). n < length draft.cavities) (sym (get_or-map (λ (c : CavityNo). c.0) cavities j zero_cavity 0 long) ∙ ap (λ l. get_or l j 0) places ∙ sym here) (in_range j zero_cavity long);
    few = omega (arith, few, s.counted);
    cavities = s.cavities ∙ take_all k (cavities_of draft net) (omega (arith, past, length-map (drafts_of draft net) (λ d. index_of (cavity_names draft.cavities) d.cavity)));
    each = s.each;
  }

  pub terminals-works : Works (flat_map (terminal_worked draft.options valid) (drafts_of draft net)) old t (Ok terminals)
  terminals-works = step-done (terminal_worked draft.options valid) (drafts_of draft net) k past old t terminals s.progress

-- ---- nets

-- what a net's terminals are stays so
pub terminals-keep : (draft : Draft) (t u : Table) (valid : Meaning) (net : ℕ) (terminals : List Terminal) → ((y : Cond) → Has t y → Has u y) → AreTerminalsOf draft t valid net terminals → AreTerminalsOf draft u valid net terminals
terminals-keep draft t u valid net terminals kept a = record { cavities = a.cavities; few = a.few; different = a.different; in_range = a.in_range; each = λ j x formula at_x at_f. worked-keeps t u valid formula x kept (a.each j x formula at_x at_f) }

-- the terminals of the first k nets are worked out
pub record NetsSoFar (draft : Draft) (valid : Meaning) (k : ℕ) (old t : Table) (nets : List (List Terminal)) : Type 0 where
  pub progress : Progress (flat_map (λ net. flat_map (terminal_worked draft.options valid) net.terminals) (take k draft.nets)) old t
  pub counted : length nets ≡ k
  pub terminals : AreTerminals draft t valid nets

pub nets-init : (draft : Draft) (valid : Meaning) (t : Table) → IsSound t → NetsSoFar draft valid 0 t t []
nets-init draft valid t sound = record { progress = progress-none t sound; counted = refl; terminals = λ net terminals e. absurd (cc) }

module _ (draft : Draft) (valid : Meaning) (k : ℕ) (lt : k < length draft.nets) (old t : Table) (nets : List (List Terminal)) (s : NetsSoFar draft valid k old t nets) where
  abbrev net_part : NetDraft → List Meaning
  net_part net = flat_map (terminal_worked draft.options valid) net.terminals

  net_is : net_at draft k ≡ get_or draft.nets k (net_at draft k)
  net_is = get_or_default draft.nets k no_net (net_at draft k) lt

  pub net-stop : (u : Table) (e : RowsStop) → Works {A = List Terminal} (net_part (net_at draft k)) t u (Err e) → Works {A = List (List Terminal)} (terminals_worked draft.options valid draft.nets) old u (Err e)
  net-stop u e w = step-stop net_part draft.nets k (net_at draft k) lt net_is {A = List Terminal} {B = List (List Terminal)} old t u e s.progress w

  module _ (u : Table) (terminals : List Terminal) (w : Works (net_part (net_at draft k)) t u (Ok terminals)) where
    pub net-no_memory : Works {A = List (List Terminal)} (terminals_worked draft.options valid draft.nets) old u (Err NoMemory)
    net-no_memory = step-no_memory net_part draft.nets k (net_at draft k) lt net_is {A = List Terminal} {B = List (List Terminal)} old t u terminals s.progress w

    pub net-next : AreTerminalsOf draft u valid k terminals → (more : List (List Terminal)) → more ≡ nets ++ terminals ∷ [] → NetsSoFar draft valid (k + 1) old u more
    net-next are more e = subst (λ (l : List (List Terminal)). NetsSoFar draft valid (k + 1) old u l) (sym e) (record {
      progress = step-next net_part draft.nets k (net_at draft k) lt net_is old t u terminals s.progress w;
      counted = omega (arith, s.counted, length-append nets (terminals ∷ []));
      terminals = λ net ts at_net. elim (slice_get-append_cases nets terminals ts net at_net) [
        | inl before ↦ terminals-keep draft t u valid net ts w.keeps (s.terminals net ts before.1)
        | inr last ↦
            let net_at_k : k ≡ net = omega (arith, last.0, s.counted) in
            subst (λ (n : ℕ). AreTerminalsOf draft u valid n ts) net_at_k (subst (λ (l : List Terminal). AreTerminalsOf draft u valid k l) last.1 are)
      ];
    })

module _ (draft : Draft) (valid : Meaning) (k : ℕ) (past : length draft.nets ≤ k) (old t : Table) (nets : List (List Terminal)) (s : NetsSoFar draft valid k old t nets) where
  pub nets-works : Works (terminals_worked draft.options valid draft.nets) old t (Ok nets)
  nets-works = step-done (λ net. flat_map (terminal_worked draft.options valid) net.terminals) draft.nets k past old t nets s.progress
