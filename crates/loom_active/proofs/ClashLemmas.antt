-- The first clash, from the first two users of a cavity that hold together.
use Rattle.std.proofs.Common.{◌≡◌, ℕ, zero, suc, ◌+◌, ◌-◌, ◌<◌, inl, inr, Bool, true, ◌&&◌, List, [], ◌∷◌, length, get_or, drop, Some, slice_get, refl, sym, ap, subst, ◌∙◌, arith, IsTrue, Contains}
use Rattle.std.specs.List.{AllPairs}
use Rattle.std.proofs.lemmas.Bool.{cases_lt, cases_order, and_parts, and_from, true≢false}
use Rattle.std.proofs.lemmas.List.{get_or-map, length-map, get_or_past}
use Rattle.std.proofs.lemmas.Option.{slice_get-get_or, slice_get_within, same_Some}
use Rattle.loom_base.proofs.Contained.{Contains-map, Contains-from_map, Contains-filter, Contains-from_filter}
use Rattle.loom_formula.specs.Choice.{IsLeastChoice}
use Rattle.loom_formula.specs.Formula.{holds_of}
use Rattle.loom_project.specs.declared.draft.Draft.{Draft}
use Rattle.loom_project.specs.declared.draft.TerminalDraft.{TerminalDraft}
use Rattle.loom_project.specs.Draft.{index_of, cavity_names}
use Rattle.loom_project.specs.Project.{no_net}
use Rattle.loom_rows.specs.Condition.{Meaning, value, both}
use Rattle.loom_rows.specs.Table.{Table, Has}
use Rattle.loom_rows.specs.Formulas.{meaning_of}
use Rattle.loom_rows.proofs.Counted.{element}
use Rattle.loom_active.specs.declared.clash.User.{User}
use Rattle.loom_active.specs.declared.terminals.Terminal.{Terminal}
use Rattle.loom_active.specs.Needs.{is_valid_for, need_of, active_terminals}
use Rattle.loom_active.specs.Clash.{IsClash, HasNoClash, IsClashBefore, IsFirstClash}
use Rattle.loom_active.specs.Terminals.{AreTerminalsOf, AreTerminals}
use Rattle.loom_active.specs.Users.{users_of, HasUsers, AreUnmet, AreApartBefore, IsFirstPair}
use Rattle.loom_active.proofs.Pairs.{slice_get-map}
use Rattle.loom_active.proofs.TerminalSteps.{drafts_of}
use Rattle.loom_active.proofs.UserLemmas.{UserBefore, users-some, some-users, users-order}

pub at_place : {X : Type 0} (xs : List X) (x : X) (at : Contains xs x) → slice_get xs at.0 ≡ Some x
at_place xs x at = slice_get-get_or xs at.0 x at.1 ∙ ap Some at.2

pub place_in : {X : Type 0} (xs : List X) (k : ℕ) (x : X) → slice_get xs k ≡ Some x → Contains xs x
place_in xs k x at = let lt = slice_get_within xs k x at in (k, lt, sym (same_Some x (get_or xs k x) (sym at ∙ slice_get-get_or xs k x lt)))

pub slice_get-drop : {X : Type 0} (n : ℕ) (xs : List X) (k : ℕ) → slice_get (drop n xs) k ≡ slice_get xs (n + k)
slice_get-drop zero xs k = let e : k ≡ 0 + k = omega arith in ap (slice_get xs) e
slice_get-drop (suc n) [] k = refl
slice_get-drop (suc n) (x ∷ xs) k = let e : suc (n + k) ≡ suc n + k = omega arith in slice_get-drop n xs k ∙ ap (slice_get (x ∷ xs)) e

-- ---- users in order

module _ (users : List User) (order : AllPairs UserBefore users) (i j : ℕ) (u v : User) (at_u : slice_get users i ≡ Some u) (at_v : slice_get users j ≡ Some v) where
  in_order : i < j → u.net.0 < v.net.0
  in_order lt =
      let lt_j = slice_get_within users j v at_v in
      let here : get_or users i u ≡ u = same_Some (get_or users i u) u (sym (slice_get-get_or users i u (omega arith)) ∙ at_u) in
      let there : get_or users j u ≡ v = same_Some (get_or users j u) v (sym (slice_get-get_or users j u lt_j) ∙ at_v) in
      subst (λ (w : User). w.net.0 < v.net.0) here (subst (λ (w : User). (get_or users i u).net.0 < w.net.0) there (order i j u lt lt_j))

module _ (users : List User) (order : AllPairs UserBefore users) (i j : ℕ) (u v : User) (at_u : slice_get users i ≡ Some u) (at_v : slice_get users j ≡ Some v) where
  pub earlier-index : u.net.0 < v.net.0 → i < j
  earlier-index lt =
      elim (cases_order i j) [
        | inl e ↦ absurd (omega (arith, ap (λ (w : User). w.net.0) (same_Some u v (sym at_u ∙ ap (slice_get users) e ∙ at_v)), lt))
        | inr (inl less) ↦ less
        | inr (inr more) ↦ absurd (omega (arith, in_order users order j i v u at_v at_u more, lt))
      ]

  pub same-index : u.net.0 ≡ v.net.0 → i ≡ j
  same-index e =
      elim (cases_order i j) [
        | inl is ↦ is
        | inr (inl less) ↦ absurd (omega (arith, in_order users order i j u v at_u at_v less, e))
        | inr (inr more) ↦ absurd (omega (arith, in_order users order j i v u at_v at_u more, e))
      ]

-- two users of which no later one holds together with the first don't hold together
unmet-at : (users : List User) (f : Meaning) (i j : ℕ) (v : User) (c : ℕ → Bool) → i < j → slice_get users j ≡ Some v → AreUnmet f (drop (i + 1) users) → f c ≡ true → value v.active c ≡ true → ⊥
unmet-at users f i j v c lt at_v unmet holds holds_v =
    let e : (i + 1) + (j - (i + 1)) ≡ j = omega arith in
    let at : slice_get (drop (i + 1) users) (j - (i + 1)) ≡ Some v = slice_get-drop (i + 1) users (j - (i + 1)) ∙ ap (slice_get users) e ∙ at_v in
    true≢false (sym (and_from (f c) (value v.active c) holds holds_v) ∙ unmet (j - (i + 1)) v at c)

-- ---- users and needs

module _ (draft : Draft) (t : Table) (nets : List (List Terminal)) (are : AreTerminals draft t (is_valid_for draft) nets) (counted : length nets ≡ length draft.nets) where
  abbrev place : TerminalDraft → ℕ
  place d = index_of (cavity_names draft.cavities) d.cavity

  -- a terminal's cavity and its place in the draft
  cavity-at : (net : ℕ) (ts : List Terminal) → AreTerminalsOf draft t (is_valid_for draft) net ts → (k : ℕ) (x : Terminal) → slice_get ts k ≡ Some x → (d : TerminalDraft) → slice_get (drafts_of draft net) k ≡ Some d → x.cavity.0 ≡ place d
  cavity-at net ts of k x at_x d at_d =
      same_Some x.cavity.0 (place d) (sym (slice_get-map (λ (y : Terminal). y.cavity.0) ts k x at_x) ∙ ap (λ l. slice_get l k) of.cavities ∙ slice_get-map place (drafts_of draft net) k d at_d)

  same_length : (net : ℕ) (ts : List Terminal) → AreTerminalsOf draft t (is_valid_for draft) net ts → length ts ≡ length (drafts_of draft net)
  same_length net ts of = sym (length-map ts (λ (y : Terminal). y.cavity.0)) ∙ ap length of.cavities ∙ length-map (drafts_of draft net) place

  active-at : (net : ℕ) (ts : List Terminal) → AreTerminalsOf draft t (is_valid_for draft) net ts → (k : ℕ) (x : Terminal) → slice_get ts k ≡ Some x → (d : TerminalDraft) → slice_get (drafts_of draft net) k ≡ Some d
      → (c : ℕ → Bool) → value x.active c ≡ (is_valid_for draft c && holds_of d.when draft.options c)
  active-at net ts of k x at_x d at_d c = (of.each k x (meaning_of draft.options d.when) at_x (slice_get-map (λ (e : TerminalDraft). meaning_of draft.options e.when) (drafts_of draft net) k d at_d)).active c

  -- where a net needs a cavity, it is a user of it whose condition holds
  pub needs-user : (net cavity : ℕ) (c : ℕ → Bool) → IsTrue (is_valid_for draft c) → Contains (need_of draft c net) cavity
      → (u : User) × Contains (users_of nets cavity) u × (u.net.0 ≡ net) × (value u.active c ≡ true) × (cavity < length draft.cavities)
  needs-user net cavity c valid need =
      let d = Contains-from_map place (active_terminals draft c net) cavity need in
      let p = Contains-from_filter (λ (e : TerminalDraft). holds_of e.when draft.options c) (drafts_of draft net) d.0 d.1 in
      let at_d = at_place (drafts_of draft net) d.0 p.0 in
      let net_lt : net < length nets = omega (arith, counted, net-in_range net d.0 p.0) in
      let ts = element nets net net_lt in
      let of = are net ts.0 ts.1 in
      let x = element ts.0 p.0.0 (omega (arith, p.0.1, same_length net ts.0 of)) in
      let cavity_is : x.0.cavity.0 ≡ cavity = cavity-at net ts.0 of p.0.0 x.0 x.1 d.0 at_d ∙ d.2 in
      let u = some-users 0 cavity nets net ts.0 x.0 ts.1 (place_in ts.0 p.0.0 x.0 x.1) cavity_is in (
        u.0,
        u.1,
        omega (arith, u.2),
        ap (λ y. value y c) u.3 ∙ active-at net ts.0 of p.0.0 x.0 x.1 d.0 at_d c ∙ and_from (is_valid_for draft c) (holds_of d.0.when draft.options c) valid p.1,
        subst (λ (n : ℕ). n < length draft.cavities) cavity_is (of.in_range p.0.0 x.0 x.1),
      )
    where
      net-in_range : (n : ℕ) (d : TerminalDraft) → Contains (drafts_of draft n) d → n < length draft.nets
      net-in_range n d at =
          elim (cases_lt n (length draft.nets)) [
            | inl lt ↦ lt
            | inr past ↦ let none : length (drafts_of draft n) ≡ 0 = ap (λ m. length m.terminals) (get_or_past draft.nets n no_net past) in absurd (omega (arith, at.1, none))
          ]

  -- and the other way round
  pub user-needs : (cavity : ℕ) (u : User) → Contains (users_of nets cavity) u → (c : ℕ → Bool) → value u.active c ≡ true → IsTrue (is_valid_for draft c) × Contains (need_of draft c u.net.0) cavity
  user-needs cavity u at c holds =
      let r = users-some 0 cavity nets u at in
      let of = are r.place r.terminals r.listed in
      let at_x = at_place r.terminals r.terminal r.names in
      let d = element (drafts_of draft r.place) r.names.0 (omega (arith, r.names.1, same_length r.place r.terminals of)) in
      let net_is : r.place ≡ u.net.0 = omega (arith, r.number) in
      let parts = and_parts (is_valid_for draft c) (holds_of d.0.when draft.options c) (sym (active-at r.place r.terminals of r.names.0 r.terminal at_x d.0 d.1 c) ∙ ap (λ y. value y c) r.active ∙ holds) in
      let needed = Contains-map place (active_terminals draft c r.place) d.0 (Contains-filter (λ (e : TerminalDraft). holds_of e.when draft.options c) (drafts_of draft r.place) d.0 (place_in (drafts_of draft r.place) r.names.0 d.0 d.1) parts.1) in
      (parts.0, subst (λ (n : ℕ). Contains (need_of draft c n) cavity) net_is (subst (λ (k : ℕ). Contains (need_of draft c r.place) k) (sym (cavity-at r.place r.terminals of r.names.0 r.terminal at_x d.0 d.1) ∙ r.cavity) needed))

  order : (cavity : ℕ) → AllPairs UserBefore (users_of nets cavity)
  order cavity =
      users-order 0 cavity nets
      (λ net ts listed i j d lt in_j.
      let of = are net ts listed in
      let f : Terminal → ℕ = λ y. y.cavity.0 in
      λ e. of.different i j (f d) lt (omega (arith, in_j, length-map ts f, ap length of.cavities))
      (ap (λ l. get_or l i (f d)) (sym of.cavities) ∙ get_or-map f ts i d (f d) (omega arith) ∙ e ∙ sym (get_or-map f ts j d (f d) in_j) ∙ ap (λ l. get_or l j (f d)) of.cavities))

  -- each user's condition is the table's
  pub users-have : (cavity : ℕ) → HasUsers t (users_of nets cavity)
  users-have cavity i u at_u =
      let r = users-some 0 cavity nets u (place_in (users_of nets cavity) i u at_u) in
      let of = are r.place r.terminals r.listed in
      let d = element (drafts_of draft r.place) r.names.0 (omega (arith, r.names.1, same_length r.place r.terminals of)) in
      subst (Has t) r.active
      (of.each r.names.0 r.terminal (meaning_of draft.options d.0.when) (at_place r.terminals r.terminal r.names) (slice_get-map (λ (e : TerminalDraft). meaning_of draft.options e.when) (drafts_of draft r.place) r.names.0 d.0 d.1)).has_active

  -- and so are those of a pair
  pub pair-has : (cavity : ℕ) (u v : User) → IsFirstPair (users_of nets cavity) u v → Has t u.active × Has t v.active
  pair-has cavity u v pair = (
    users-have cavity pair.i u pair.at,
    users-have cavity ((pair.i + 1) + pair.met.i) v (sym (slice_get-drop (pair.i + 1) (users_of nets cavity) pair.met.i) ∙ pair.met.at),
  )

  -- the two users of a clash
  record Users (cavity first second : ℕ) (c : ℕ → Bool) : Type 0 where
    one : User
    two : User
    at_one : Contains (users_of nets cavity) one
    at_two : Contains (users_of nets cavity) two
    net_one : one.net.0 ≡ first
    net_two : two.net.0 ≡ second
    holds_one : value one.active c ≡ true
    holds_two : value two.active c ≡ true
    in_range : cavity < length draft.cavities

  clash-users : (cavity first second : ℕ) (c : ℕ → Bool) → IsClash draft cavity first second c → Users cavity first second c
  clash-users cavity first second c clash =
      let a = needs-user first cavity c clash.valid clash.in_first in
      let b = needs-user second cavity c clash.valid clash.in_second in
      record { one = a.0; two = b.0; at_one = a.1; at_two = b.1; net_one = a.2; net_two = b.2; holds_one = a.3; holds_two = b.3; in_range = a.4 }

  -- where no two users of a cavity hold together, no clash is of it
  apart-clash : (cavity first second : ℕ) (c : ℕ → Bool) → IsClash draft cavity first second c → AreApartBefore (length (users_of nets cavity)) (users_of nets cavity) → ⊥
  apart-clash cavity first second c clash apart =
      let s = clash-users cavity first second c clash in
      let users = users_of nets cavity in
      let lt = earlier-index users (order cavity) s.at_one.0 s.at_two.0 s.one s.two (at_place users s.one s.at_one) (at_place users s.two s.at_two) (omega (arith, s.net_one, s.net_two, clash.different)) in
      unmet-at users (value s.one.active) s.at_one.0 s.at_two.0 s.two c lt (at_place users s.two s.at_two) (apart s.at_one.0 s.one s.at_one.1 (at_place users s.one s.at_one)) s.holds_one s.holds_two

  pub no-clash : ((cavity : ℕ) → cavity < length draft.cavities → AreApartBefore (length (users_of nets cavity)) (users_of nets cavity)) → HasNoClash draft
  no-clash apart cavity first second c clash = apart-clash cavity first second c clash (apart cavity (clash-users cavity first second c clash).in_range)

  module _ (cavity : ℕ) (u v : User) (pair : IsFirstPair (users_of nets cavity) u v) (c : ℕ → Bool) (least : IsLeastChoice (both (value u.active) (value v.active)) c)
      (before : (earlier : ℕ) → earlier < cavity → AreApartBefore (length (users_of nets earlier)) (users_of nets earlier)) where
    abbrev users : List User
    users = users_of nets cavity

    abbrev j : ℕ
    j = (pair.i + 1) + pair.met.i

    at_v : slice_get users j ≡ Some v
    at_v = sym (slice_get-drop (pair.i + 1) users pair.met.i) ∙ pair.met.at

    lowest : (d f s : ℕ) (other : ℕ → Bool) → IsClash draft d f s other → IsClashBefore d f s cavity u.net.0 v.net.0 → ⊥
    lowest d f s other clash (inl less) = apart-clash d f s other clash (before d less)
    lowest d f s other clash (inr (d_is, rest)) =
        let here : IsClash draft cavity f s other = subst (λ (n : ℕ). IsClash draft n f s other) d_is clash in
        let a = clash-users cavity f s other here in
        let at_one = at_place users a.one a.at_one in
        let at_two = at_place users a.two a.at_two in
        elim rest [
          | inl less ↦
              let i_lt = earlier-index users (order cavity) a.at_one.0 pair.i a.one u at_one pair.at (omega (arith, a.net_one, less)) in
              let lt = earlier-index users (order cavity) a.at_one.0 a.at_two.0 a.one a.two at_one at_two (omega (arith, a.net_one, a.net_two, here.different)) in
              unmet-at users (value a.one.active) a.at_one.0 a.at_two.0 a.two other lt at_two (pair.before a.at_one.0 a.one i_lt at_one) a.holds_one a.holds_two
          | inr (f_is, less) ↦
              let i_is = same-index users (order cavity) a.at_one.0 pair.i a.one u at_one pair.at (a.net_one ∙ f_is) in
              let one_is : a.one ≡ u = same_Some a.one u (sym at_one ∙ ap (slice_get users) i_is ∙ pair.at) in
              let lt = earlier-index users (order cavity) a.at_one.0 a.at_two.0 a.one a.two at_one at_two (omega (arith, a.net_one, a.net_two, here.different)) in
              let j_lt = earlier-index users (order cavity) a.at_two.0 j a.two v at_two at_v (omega (arith, a.net_two, less)) in
              let k : ℕ = a.at_two.0 - (pair.i + 1) in
              let e : (pair.i + 1) + k ≡ a.at_two.0 = omega arith in
              let at_k : slice_get (drop (pair.i + 1) users) k ≡ Some a.two = slice_get-drop (pair.i + 1) users k ∙ ap (slice_get users) e ∙ at_two in
              true≢false (sym (and_from (value u.active other) (value a.two.active other) (ap (λ (w : User). value w.active other) (sym one_is) ∙ a.holds_one) a.holds_two) ∙ pair.met.before k a.two (omega arith) at_k other)
        ]

    pub first-clash : IsFirstClash draft cavity u.net.0 v.net.0 c
    first-clash =
        let holds = and_parts (value u.active c) (value v.active c) least.holds in
        let in_u = user-needs cavity u (place_in users pair.i u pair.at) c holds.0 in
        let in_v = user-needs cavity v (place_in users j v at_v) c holds.1 in
        record {
          clash = record { valid = in_u.0; different = in_order users (order cavity) pair.i j u v pair.at at_v (omega arith); in_first = in_u.1; in_second = in_v.1 };
          lowest = lowest;
          least = λ other clash earlier.
              let a = clash-users cavity u.net.0 v.net.0 other clash in
              let at_one = at_place users a.one a.at_one in
              let at_two = at_place users a.two a.at_two in
              let one_is : a.one ≡ u = same_Some a.one u (sym at_one ∙ ap (slice_get users) (same-index users (order cavity) a.at_one.0 pair.i a.one u at_one pair.at a.net_one) ∙ pair.at) in
              let two_is : a.two ≡ v = same_Some a.two v (sym at_two ∙ ap (slice_get users) (same-index users (order cavity) a.at_two.0 j a.two v at_two at_v a.net_two) ∙ at_v) in
              least.least other
              (and_from (value u.active other) (value v.active other) (ap (λ (w : User). value w.active other) (sym one_is) ∙ a.holds_one) (ap (λ (w : User). value w.active other) (sym two_is) ∙ a.holds_two)) earlier;
        }
