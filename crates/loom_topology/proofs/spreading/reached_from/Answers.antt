use Rattle.std.proofs.Common.{ℕ, true, ◌↔◌, ◌≡◌, ◌<◌, length, map, false, sym, subst, inl, inr}
use Rattle.std.specs.List.{Contains, filter, range_with_len}
use Rattle.std.specs.List.Sorted.{IsStrictlyIncreasing}
use Rattle.std.proofs.lemmas.Bool.{cases_lt, both_ways}
use Rattle.std.proofs.lemmas.List.{get_or_past}
use Rattle.std.proofs.lemmas.Result.{IfOk-weaker}
use Rattle.loom_topology.specs.Reach.{IsReached}
use Rattle.loom_topology.specs.Found.{FoundView, is_marked, view_of_found}
use Rattle.loom_topology.proofs.Found.{Contains-marked, marked_rise}
use Rattle.loom_topology.proofs.spreading.reached_from.Goals as goal

marked_below : (found : FoundView) (u : ℕ) → is_marked found u ≡ true → u < length found.marks
marked_below found u marked =
    elim (cases_lt u (length found.marks)) [
      | inl below ↦ below
      | inr past ↦ absurd (both_ways (is_marked found u) (get_or_past found.marks u false past) marked)
    ]

pub returns-clause-rising : goal.returns-clause-rising
returns-clause-rising c =
    IfOk-weaker c.rising.result
    (λ list. map (λ v. v.0) list ≡ filter (is_marked (view_of_found c.in_ok-found.found)) (range_with_len 0 (length c.in_ok-found.found.marks.items)))
    (λ list. IsStrictlyIncreasing (map (λ v. v.0) list))
    (λ list is. subst IsStrictlyIncreasing (sym is)
    (marked_rise (is_marked (view_of_found c.in_ok-found.found)) (length c.in_ok-found.found.marks.items))) c.rising.ensures

pub returns-clause-reached : goal.returns-clause-reached
returns-clause-reached c =
    IfOk-weaker c.rising.result
    (λ list. map (λ v. v.0) list ≡ filter (is_marked (view_of_found c.in_ok-found.found)) (range_with_len 0 (length c.in_ok-found.found.marks.items)))
    (λ list. (u : ℕ) → Contains (map (λ v. v.0) list) u ↔ IsReached c.args.topology.now c.args.start.0 u)
    (λ list is u.
    let there = Contains-marked (is_marked (view_of_found c.in_ok-found.found)) (length c.in_ok-found.found.marks.items)
    (marked_below (view_of_found c.in_ok-found.found)) u in
    let reached = c.in_ok-found.ensures.reached u in (
      λ listed. reached.0 (there.0 (subst (λ l. Contains l u) is listed)),
      λ chain. subst (λ l. Contains l u) (sym is) (there.1 (reached.1 chain)),
    )) c.rising.ensures
