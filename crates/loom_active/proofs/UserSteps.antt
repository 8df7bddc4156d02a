-- The users of cavities, put together net after net.
use Rattle.std.proofs.Common.{◌≡◌, ℕ, zero, suc, ◌+◌, ◌-◌, ◌<◌, inl, inr, List, [], ◌∷◌, ◌++◌, length, get_or, take, refl, sym, ap, ◌∙◌, arith, append_assoc, append-nil, slice_set}
use Rattle.std.specs.List.{filter_map, cons_option}
use Rattle.std.proofs.lemmas.Bool.{cases_eq, cases_lt}
use Rattle.std.proofs.lemmas.List.{take_more, get_or_default, get_or_append_left, get_or-append_right, get_or-set_same, get_or-set_other, length-take-le}
use Rattle.std.proofs.lemmas.List.Elements.{filter_map-append}
use Rattle.loom_active.specs.declared.clash.User.{User}
use Rattle.loom_active.specs.declared.terminals.Terminal.{Terminal}
use Rattle.loom_active.specs.Users.{user_of, users_from, users_of}
use Rattle.loom_active.proofs.UserLemmas.{user_at, named, other}

-- where there is nothing at each place, there is nothing with one more nothing behind
pub none-more : (users : List (List User)) → ((c : ℕ) → get_or users c [] ≡ []) → (c : ℕ) → get_or (users ++ [] ∷ []) c [] ≡ []
none-more users none c =
    elim (cases_lt c (length users)) [
      | inl lt ↦ get_or_append_left users ([] ∷ []) [] c lt ∙ none c
      | inr past ↦ get_or-append_right {X = List User} users ([] ∷ []) (length users) c [] refl past ∙ one (c - length users)
    ]
  where
    one : (k : ℕ) → get_or {A = List User} ([] ∷ []) k [] ≡ []
    one zero = refl
    one (suc k) = refl

-- a further terminal of a net
more-users : (net c : ℕ) (ts : List Terminal) (k : ℕ) (x : Terminal) → k < length ts → (d : Terminal) → x ≡ get_or ts k d → filter_map (user_of net c) (take (k + 1) ts) ≡ filter_map (user_of net c) (take k ts) ++ cons_option (user_of net c x) []
more-users net c ts k x lt d is =
    ap (filter_map (user_of net c)) (take_more ts k d lt) ∙ filter_map-append (user_of net c) (take k ts) (get_or ts k d ∷ [])
    ∙ ap (λ y. filter_map (user_of net c) (take k ts) ++ cons_option (user_of net c y) []) (sym is)

-- it is put behind the users of its cavity, and the other cavities keep theirs
pub added-more : (first users : List (List User)) (net : ℕ) (ts : List Terminal) (k : ℕ) (x : Terminal) → k < length ts → (d : Terminal) → x ≡ get_or ts k d → length users ≡ length first → x.cavity.0 < length first
    → ((c : ℕ) → c < length first → get_or users c [] ≡ get_or first c [] ++ filter_map (user_of net c) (take k ts))
    → (old new : List User) → old ≡ get_or users x.cavity.0 old → new ≡ old ++ user_at net x ∷ []
    → (c : ℕ) → c < length first → get_or (slice_set users x.cavity.0 new) c [] ≡ get_or first c [] ++ filter_map (user_of net c) (take (k + 1) ts)
added-more first users net ts k x lt d is counted in_range added old new old_is new_is c c_lt =
    elim (cases_eq x.cavity.0 c) [
      | inl e ↦
          let here : get_or (slice_set users x.cavity.0 new) c [] ≡ new = ap (λ n. get_or (slice_set users x.cavity.0 new) n []) (sym e) ∙ get_or-set_same users x.cavity.0 new [] (omega (arith, in_range, counted)) in
          let before : old ≡ get_or first c [] ++ filter_map (user_of net c) (take k ts) =
          old_is ∙ get_or_default users x.cavity.0 old [] (omega (arith, in_range, counted)) ∙ ap (λ n. get_or users n []) e ∙ added c c_lt in
          here ∙ new_is ∙ ap (λ l. l ++ user_at net x ∷ []) before
          ∙ append_assoc (get_or first c []) (filter_map (user_of net c) (take k ts)) (user_at net x ∷ [])
          ∙ ap (λ o. get_or first c [] ++ (filter_map (user_of net c) (take k ts) ++ cons_option o [])) (sym (named net c x e))
          ∙ ap (λ l. get_or first c [] ++ l) (sym (more-users net c ts k x lt d is))
      | inr ne ↦
          get_or-set_other users x.cavity.0 c new [] (λ e. ne (sym e)) ∙ added c c_lt
          ∙ ap (λ l. get_or first c [] ++ l) (sym (append-nil (filter_map (user_of net c) (take k ts))))
          ∙ ap (λ o. get_or first c [] ++ (filter_map (user_of net c) (take k ts) ++ cons_option o [])) (sym (other net c x ne))
          ∙ ap (λ l. get_or first c [] ++ l) (sym (more-users net c ts k x lt d is))
    ]

users_from-push : (first c : ℕ) (nets : List (List Terminal)) (ts : List Terminal) → users_from first c (nets ++ ts ∷ []) ≡ users_from first c nets ++ filter_map (user_of (first + length nets) c) ts
users_from-push first c [] ts = let e : first ≡ first + 0 = omega arith in append-nil (filter_map (user_of first c) ts) ∙ ap (λ n. filter_map (user_of n c) ts) e
users_from-push first c (us ∷ nets) ts =
    let e : (first + 1) + length nets ≡ first + suc (length nets) = omega arith in
    ap (λ l. filter_map (user_of first c) us ++ l) (users_from-push (first + 1) c nets ts)
    ∙ sym (append_assoc (filter_map (user_of first c) us) (users_from (first + 1) c nets) (filter_map (user_of ((first + 1) + length nets) c) ts))
    ∙ ap (λ n. (filter_map (user_of first c) us ++ users_from (first + 1) c nets) ++ filter_map (user_of n c) ts) e

-- a further net
pub users-more : (nets : List (List Terminal)) (k : ℕ) (ts : List Terminal) → k < length nets → ts ≡ get_or nets k ts → (c : ℕ) → users_of (take (k + 1) nets) c ≡ users_of (take k nets) c ++ filter_map (user_of k c) ts
users-more nets k ts lt is c =
    let e : 0 + length (take k nets) ≡ k = omega (arith, length-take-le k nets (omega arith)) in
    ap (λ l. users_of l c) (take_more nets k ts lt) ∙ users_from-push 0 c (take k nets) (get_or nets k ts)
    ∙ (λ i. users_of (take k nets) c ++ filter_map (user_of (e i) c) (sym is i))

-- the users of a cavity, as they were found
pub found-users : (nets : List (List Terminal)) (cavities : ℕ) (items shown : List (List User)) → shown ≡ items → length items ≡ cavities → ((c : ℕ) → c < cavities → get_or items c [] ≡ users_of nets c)
    → (c : ℕ) → c < length shown → (item slice : List User) → item ≡ get_or shown c item → slice ≡ item → slice ≡ users_of nets c
found-users nets cavities items shown shown_is counted all c lt item slice item_is slice_is =
    slice_is ∙ item_is ∙ get_or_default shown c item [] lt ∙ ap (λ l. get_or l c []) shown_is ∙ all c (omega (arith, lt, counted, ap length shown_is))
