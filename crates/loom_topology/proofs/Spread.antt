-- The other ends of the open segments at a node are added one after another.
use Rattle.std.proofs.Common.{ℕ, List, [], ◌++◌, Some, length, get_or, ◌≡◌, ◌+◌, ◌<◌, ◌≤◌, sym, ap, ◌∙◌, subst, inl, inr, arith, append_assoc, append-nil}
use Rattle.std.specs.List.{Contains}
use Rattle.std.proofs.lemmas.Bool.{cases_eq}
use Rattle.std.proofs.lemmas.List.{get_or_default}
use Rattle.std.proofs.lemmas.List.Elements.{Contains-append_left}
use Rattle.loom_topology.specs.Topology.{TopologyView, IsSound, Leads, open_at, other_end_at}
use Rattle.loom_topology.specs.Reach.{IsReached}
use Rattle.loom_topology.specs.Found.{FoundView, IsFound, IsSpread, with_found}
use Rattle.loom_topology.proofs.Leads.{Contains-from_Leads, other_end-from_Leads}
use Rattle.loom_topology.proofs.Reach.{reached_on}
use Rattle.loom_topology.proofs.LeastLegal.{leads_below}
use Rattle.loom_topology.proofs.Found.{with_found-kept, with_found-front, with_found-there}

-- the first i open segments at node v have been gone over
pub record IsSpreading (topology : TopologyView) (v i : ℕ) (old now : FoundView) : Type 0 where
  pub front : (more : List ℕ) × (now.nodes ≡ old.nodes ++ more)
  pub kept : (start : ℕ) → IsReached topology start v → IsFound topology start old → IsFound topology start now
  pub ends : (start : ℕ) → IsReached topology start v → IsFound topology start old → (k : ℕ) → k < i → (u : ℕ)
      → other_end_at topology (get_or (open_at topology v) k 0) v ≡ Some u → Contains now.nodes u

pub IsSpreading-none : (topology : TopologyView) (v : ℕ) (old : FoundView) → IsSpreading topology v 0 old old
IsSpreading-none topology v old = record {
  front = ([], sym (append-nil old.nodes));
  kept = λ start reached found. found;
  ends = λ start reached found k below u is. absurd (omega arith);
}

pub IsSpreading-more : (topology : TopologyView) (v i s end : ℕ) (old now after : FoundView) → IsSound topology
    → IsSpreading topology v i old now → s ≡ get_or (open_at topology v) i 0 → Leads topology s v end
    → other_end_at topology s v ≡ Some end → after ≡ with_found now end → IsSpreading topology v (i + 1) old after
IsSpreading-more topology v i s end old now after sound before at leads end_is is =
    let (tail, split) = with_found-front now end in
    let longer : after.nodes ≡ now.nodes ++ tail = ap (λ (f : FoundView). f.nodes) is ∙ split in
    let (more, first) = before.front in
    record {
      front = (more ++ tail, longer ∙ (ap (λ l. l ++ tail) first ∙ append_assoc old.nodes more tail));
      kept = λ start reached found.
          subst (IsFound topology start) (sym is)
          (with_found-kept topology start now (before.kept start reached found) end (leads_below topology s v end sound leads)
          (reached_on topology start v end s reached leads));
      ends = λ start reached found k below u other.
          elim (cases_eq k i) [
            | inr earlier ↦
                subst (λ l. Contains l u) (sym longer)
                (Contains-append_left now.nodes tail u (before.ends start reached found k (omega arith) u other))
            | inl e ↦
                let same : Some end ≡ Some u =
                sym end_is ∙ (ap (λ t. other_end_at topology t v) (at ∙ ap (λ j. get_or (open_at topology v) j 0) (sym e)) ∙ other) in
                let ends : end ≡ u = cc in
                subst (Contains after.nodes) ends
                (subst (λ f. Contains f.nodes end) (sym is) (with_found-there topology start now (before.kept start reached found) end))
          ];
    }

pub IsSpread-from_all : (topology : TopologyView) (v i : ℕ) (old now : FoundView) → IsSound topology
    → length (open_at topology v) ≤ i → IsSpreading topology v i old now → IsSpread topology v old now
IsSpread-from_all topology v i old now sound all spreading = record {
  front = spreading.front;
  kept = spreading.kept;
  ends = λ start reached found s u leads.
      let (k, below, at) = Contains-from_Leads topology s v u leads in
      let default : get_or (open_at topology v) k 0 ≡ s = get_or_default (open_at topology v) k 0 s below ∙ at in
      spreading.ends start reached found k (omega arith) u
      (ap (λ t. other_end_at topology t v) default ∙ other_end-from_Leads topology s v u sound leads);
}
