use Rattle.std.proofs.Common.{ℕ, List, ◌≡◌, Option, Some, None, length, sym, ap, ◌∙◌, subst, Vec, Global, IsTrue}
use Rattle.std.specs.Prelude.{◌↔◌, MatchOption}
use Rattle.std.specs.List.{All}
use Rattle.std.proofs.lemmas.Bool.{false≢true}
use Rattle.std.proofs.lemmas.Option.{MatchOption-at_some, MatchOption-at_none}
use Rattle.loom_audit.specs.Classes.{class_of, JoinsApart, AreOneClass, AreParents, IsForestOf, IsLinkBelow}
use Rattle.loom_audit.proofs.TreeTests.{one_piece_from, links_apart, links_one, links_below}
use Rattle.loom_audit.proofs.trees.are_one_piece.Goals as goal

abbrev Found : List (ℕ × ℕ) → ℕ → Vec ℕ Global → Type 0
Found links count parents = JoinsApart links × (length parents.items ≡ count) × AreParents parents.items × IsForestOf (class_of links) parents.items

pub joined-requires : goal.joined-requires
joined-requires c = record {
  within = subst (λ (l : List (ℕ × ℕ)). All (IsLinkBelow c.in_ok-links.links.point_count) l) (sym c.deref.ensures.value)
      (links_below c.args.wires.now c.in_ok-links.links.pairs.items c.in_ok-links.links.point_count c.in_ok-links.ensures);
}

pub are_all_joined-requires-clause-within : goal.are_all_joined-requires-clause-within
are_all_joined-requires-clause-within c =
    let links : List (ℕ × ℕ) = c.in_ok-links.links.pairs.items in
    let count : ℕ = c.in_ok-links.links.point_count in
    let found = MatchOption-at_some (JoinsApart c.deref.result.now → ⊥) (Found c.deref.result.now count) c.in-Some.parents c.in-Some.is c.in_ok-parents.ensures in
    let within = links_below c.args.wires.now links count c.in_ok-links.ensures in
    subst (λ (n : ℕ). All (IsLinkBelow n) c.deref-in-Some.result.now) (sym found.1) (subst (λ (l : List (ℕ × ℕ)). All (IsLinkBelow count) l) (sym c.deref-in-Some.ensures.value) within)

pub returns-in-Some : goal.returns-in-Some
returns-in-Some c =
    let links : List (ℕ × ℕ) = c.in_ok-links.links.pairs.items in
    let count : ℕ = c.in_ok-links.links.point_count in
    let found = MatchOption-at_some (JoinsApart c.deref.result.now → ⊥) (Found c.deref.result.now count) c.in-Some.parents c.in-Some.is c.in_ok-parents.ensures in
    let apart : JoinsApart links = subst JoinsApart c.deref.ensures.value found.0 in
    let told = subst (λ (t : List (ℕ × ℕ) × List (ℕ × ℕ)). IsTrue c.are_all_joined.result ↔ AreOneClass (class_of t.0) t.1)
    (λ i. (c.deref.ensures.value i, c.deref-in-Some.ensures.value i)) (c.are_all_joined.ensures (class_of c.deref.result.now) found.3) in (
      λ holds. one_piece_from c.args.wires.now links count c.in_ok-links.ensures apart (told.0 holds),
      λ piece. told.1 (links_one c.args.wires.now links count c.in_ok-links.ensures piece),
    )

pub returns : goal.returns
returns c =
    let links : List (ℕ × ℕ) = c.in_ok-links.links.pairs.items in
    let count : ℕ = c.in_ok-links.links.point_count in
    let none : JoinsApart c.deref.result.now → ⊥ = MatchOption-at_none (JoinsApart c.deref.result.now → ⊥) (Found c.deref.result.now count) c.in-None.is c.in_ok-parents.ensures in (
      λ never. absurd (false≢true never),
      λ piece. absurd (none (subst JoinsApart (sym c.deref.ensures.value) (links_apart c.args.wires.now links count c.in_ok-links.ensures piece))),
    )
