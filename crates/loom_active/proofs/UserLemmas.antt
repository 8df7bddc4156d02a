-- The users of a cavity, and when a cavity is active in two nets.
use Rattle.std.proofs.Common.{◌≡◌, ◌≢◌, ℕ, zero, suc, ◌+◌, ◌<◌, inl, inr, List, [], ◌∷◌, Some, None, Option, slice_get, refl, sym, ap, subst, ◌∙◌, arith, Contains, if◌then◌else◌}
use Rattle.std.specs.List.{filter_map, cons_option, AllPairs}
use Rattle.std.proofs.lemmas.Bool.{cases_eq, eq-eqb, ne_eqb}
use Rattle.std.proofs.lemmas.List.Elements.{Contains-append_left, Contains-append_right, Contains-append_cases}
use Rattle.std.proofs.lemmas.Option.{same_Some}
use Rattle.loom_base.proofs.Contained.{Contains-here, Contains-cons, Contains-cases}
use Rattle.loom_active.specs.declared.clash.User.{User}
use Rattle.loom_active.specs.declared.terminals.Terminal.{Terminal}
use Rattle.loom_active.specs.Users.{user_of, users_from}
use Rattle.loom_active.proofs.Pairs.{pairs-none, pairs-cons, pairs-head, pairs-tail, pairs-append}

-- ---- the users of a cavity

abbrev pub user_at : ℕ → Terminal → User
user_at net terminal = record { net = record { 0 = net }; active = terminal.active }

pub named : (net c : ℕ) (x : Terminal) → x.cavity.0 ≡ c → user_of net c x ≡ Some (user_at net x)
named net c x e = ap (λ b. if b then Some (user_at net x) else None) (eq-eqb x.cavity.0 c e)

pub other : (net c : ℕ) (x : Terminal) → x.cavity.0 ≢ c → user_of net c x ≡ None
other net c x ne = ap (λ b. if b then Some (user_at net x) else None) (ne_eqb x.cavity.0 c ne)

net-some : (net c : ℕ) (ts : List Terminal) (u : User) → Contains (filter_map (user_of net c) ts) u → (x : Terminal) × Contains ts x × (x.cavity.0 ≡ c) × (user_at net x ≡ u)
net-some net c [] u at = absurd (let lt : at.0 < 0 = at.1 in omega arith)
net-some net c (y ∷ ts) u at =
    elim (cases_eq y.cavity.0 c) [
      | inr ne ↦
          let rest = net-some net c ts u (subst (λ (o : Option User). Contains (cons_option o (filter_map (user_of net c) ts)) u) (other net c y ne) at) in
          (rest.0, Contains-cons rest.0 y ts rest.1, rest.2, rest.3)
      | inl e ↦ elim (Contains-cases u (user_at net y) (filter_map (user_of net c) ts) (subst (λ (o : Option User). Contains (cons_option o (filter_map (user_of net c) ts)) u) (named net c y e) at)) [
        | inl is ↦ (y, Contains-here y ts, e, is)
        | inr later ↦ let rest = net-some net c ts u later in (rest.0, Contains-cons rest.0 y ts rest.1, rest.2, rest.3)
      ]
    ]

some-net : (net c : ℕ) (ts : List Terminal) (x : Terminal) → Contains ts x → x.cavity.0 ≡ c → Contains (filter_map (user_of net c) ts) (user_at net x)
some-net net c [] x at e = absurd (let lt : at.0 < 0 = at.1 in omega arith)
some-net net c (y ∷ ts) x at e =
    elim (Contains-cases x y ts at) [
      | inl is ↦ subst (λ (o : Option User). Contains (cons_option o (filter_map (user_of net c) ts)) (user_at net x)) (sym (ap (user_of net c) is ∙ named net c x e)) (Contains-here (user_at net x) (filter_map (user_of net c) ts))
      | inr later ↦ elim (cases_eq y.cavity.0 c) [
        | inr ne ↦ subst (λ (o : Option User). Contains (cons_option o (filter_map (user_of net c) ts)) (user_at net x)) (sym (other net c y ne)) (some-net net c ts x later e)
        | inl q ↦
            subst (λ (o : Option User). Contains (cons_option o (filter_map (user_of net c) ts)) (user_at net x)) (sym (named net c y q))
            (Contains-cons (user_at net x) (user_at net y) (filter_map (user_of net c) ts) (some-net net c ts x later e))
      ]
    ]

abbrev pub UserBefore : User → User → Type 0
UserBefore one two = one.net.0 < two.net.0

abbrev NamesOnce : List Terminal → Type 0
NamesOnce ts = AllPairs (λ (one two : Terminal). one.cavity.0 ≢ two.cavity.0) ts

-- a net is a user of a cavity once
net-once : (net c : ℕ) (ts : List Terminal) → NamesOnce ts → AllPairs UserBefore (filter_map (user_of net c) ts)
net-once net c [] once = pairs-none UserBefore
net-once net c (y ∷ ts) once =
    let differ : Terminal → Terminal → Type 0 = λ one two. one.cavity.0 ≢ two.cavity.0 in
    let rest = net-once net c ts (pairs-tail differ y ts once) in
    elim (cases_eq y.cavity.0 c) [
      | inr ne ↦ subst (λ (o : Option User). AllPairs UserBefore (cons_option o (filter_map (user_of net c) ts))) (sym (other net c y ne)) rest
      | inl e ↦
          subst (λ (o : Option User). AllPairs UserBefore (cons_option o (filter_map (user_of net c) ts))) (sym (named net c y e))
          (pairs-cons UserBefore (user_at net y) (filter_map (user_of net c) ts)
          (λ u at. let x = net-some net c ts u at in absurd (pairs-head differ y ts once x.0 x.1 (e ∙ sym x.2)))
          rest)
    ]

-- a user is a net with a terminal that names the cavity
pub record IsUser (nets : List (List Terminal)) (first c : ℕ) (u : User) : Type 0 where
  pub place : ℕ
  pub number : u.net.0 ≡ first + place
  pub terminals : List Terminal
  pub listed : slice_get nets place ≡ Some terminals
  pub terminal : Terminal
  pub names : Contains terminals terminal
  pub cavity : terminal.cavity.0 ≡ c
  pub active : terminal.active ≡ u.active

pub users-some : (first c : ℕ) (nets : List (List Terminal)) (u : User) → Contains (users_from first c nets) u → IsUser nets first c u
users-some first c [] u at = absurd (let lt : at.0 < 0 = at.1 in omega arith)
users-some first c (ts ∷ nets) u at =
    elim (Contains-append_cases (filter_map (user_of first c) ts) (users_from (first + 1) c nets) u at) [
      | inl here ↦
          let x = net-some first c ts u here in
          record { place = 0; number = omega (arith, ap (λ (v : User). v.net.0) x.3); terminals = ts; listed = refl; terminal = x.0; names = x.1; cavity = x.2; active = ap (λ (v : User). v.active) x.3 }
      | inr later ↦
          let r = users-some (first + 1) c nets u later in
          record { place = suc r.place; number = omega (arith, r.number); terminals = r.terminals; listed = r.listed; terminal = r.terminal; names = r.names; cavity = r.cavity; active = r.active }
    ]

pub some-users : (first c : ℕ) (nets : List (List Terminal)) (place : ℕ) (ts : List Terminal) (x : Terminal) → slice_get nets place ≡ Some ts → Contains ts x → x.cavity.0 ≡ c
    → (u : User) × Contains (users_from first c nets) u × (u.net.0 ≡ first + place) × (u.active ≡ x.active)
some-users first c [] place ts x listed at e = absurd (cc)
some-users first c (us ∷ nets) zero ts x listed at e =
    let same = same_Some us ts listed in (
      user_at first x,
      Contains-append_left (filter_map (user_of first c) us) (users_from (first + 1) c nets) (user_at first x) (some-net first c us x (subst (λ (l : List Terminal). Contains l x) (sym same) at) e),
      omega arith,
      refl,
    )
some-users first c (us ∷ nets) (suc place) ts x listed at e =
    let r = some-users (first + 1) c nets place ts x listed at e in
    (r.0, Contains-append_right (filter_map (user_of first c) us) (users_from (first + 1) c nets) r.0 r.1, omega (arith, r.2), r.3)

pub users-order : (first c : ℕ) (nets : List (List Terminal)) → ((place : ℕ) (ts : List Terminal) → slice_get nets place ≡ Some ts → NamesOnce ts) → AllPairs UserBefore (users_from first c nets)
users-order first c [] once = pairs-none UserBefore
users-order first c (ts ∷ nets) once =
    pairs-append UserBefore (filter_map (user_of first c) ts) (users_from (first + 1) c nets)
    (net-once first c ts (once 0 ts refl))
    (users-order (first + 1) c nets (λ place us at. once (suc place) us at))
    (λ u v at_u at_v.
    let x = net-some first c ts u at_u in
    let r = users-some (first + 1) c nets v at_v in
    omega (arith, ap (λ (w : User). w.net.0) x.3, r.number))
