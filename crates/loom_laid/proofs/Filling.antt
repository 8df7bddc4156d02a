-- Tables of nets, one after another.
use Rattle.std.proofs.Common.{◌≡◌, ℕ, ◌+◌, ◌<◌, List, [], ◌∷◌, ◌++◌, length, map, get_or, take, sym, ap, subst, ◌∙◌, inl, inr, Contains}
use Rattle.std.specs.List.{All}
use Rattle.std.proofs.lemmas.List.{map-append, take_more}
use Rattle.std.proofs.lemmas.List.Elements.{All-push, Contains-push_cases}
use Rattle.loom_base.specs.declared.positions.NetNo.{NetNo}
use Rattle.loom_types.specs.declared.plan.TableLine.{TableLine}
use Rattle.loom_topology.specs.Table.{TableView, IsWhole}
use Rattle.loom_steiner.specs.LeastTable.{IsLeastTable}
use Rattle.loom_project.specs.declared.draft.Draft.{Draft}
use Rattle.loom_project.specs.Project.{net_topology, cavities_of}
use Rattle.loom_laid.specs.LaidSets.{IsNetTable}
use Rattle.loom_laid.specs.Kept.{KeptTable, AreTrueOf, keys_of, key_of}
use Rattle.loom_laid.specs.Growth.{Grew}
use Rattle.loom_laid.proofs.Growing.{grew-then, grew-keeps}

-- the tables of the first nets, and what is kept since
pub record TablesSoFar (draft : Draft) (nets : List NetNo) (i : ℕ) (tables : List TableLine) (old now : List KeptTable) (before count : ℕ) : Type 0 where
  pub lines : map (λ line. line.net) tables ≡ take i nets
  pub each : All (IsNetTable draft) tables
  pub holds : AreTrueOf draft now
  pub grew : Grew draft old now before count
  pub has : (net : NetNo) → Contains (take i nets) net → Contains (keys_of now) (key_of draft net.0)

pub tables-more : (draft : Draft) (nets : List NetNo) (i : ℕ) (net : NetNo) (table : TableView) (tables more : List TableLine)
    (old now next : List KeptTable) (before count counted : ℕ)
    → TablesSoFar draft nets i tables old now before count → net ≡ get_or nets i net → i < length nets
    → more ≡ tables ++ (record { net = net; table = table }) ∷ []
    → IsLeastTable (net_topology draft net.0) (cavities_of draft net.0) table → IsWhole table
    → AreTrueOf draft next → Grew draft now next count counted → Contains (keys_of next) (key_of draft net.0)
    → TablesSoFar draft nets (i + 1) more old next before counted
tables-more draft nets i net table tables more old now next before count counted so_far is lt pushed least whole holds grew has =
    let line : TableLine = record { net = net; table = table } in
    let taken : take (i + 1) nets ≡ take i nets ++ net ∷ [] = take_more nets i net lt ∙ ap (λ (n : NetNo). take i nets ++ n ∷ []) (sym is) in
    record {
      lines =
          ap (map (λ (l : TableLine). l.net)) pushed ∙ map-append (λ (l : TableLine). l.net) tables (line ∷ [])
          ∙ ap (λ (l : List NetNo). l ++ net ∷ []) so_far.lines ∙ sym taken;
      each =
          subst (λ (l : List TableLine). All (IsNetTable draft) l) (sym pushed)
          (All-push (IsNetTable draft) tables line so_far.each (record { least = least; whole = whole }));
      holds = holds;
      grew = grew-then draft old now next before count counted so_far.grew grew;
      has = λ other at. elim (Contains-push_cases (take i nets) net other (subst (λ (l : List NetNo). Contains l other) taken at)) [
        | inl earlier ↦ grew-keeps draft now next count counted grew (key_of draft other.0) (so_far.has other earlier)
        | inr same ↦ subst (λ (n : NetNo). Contains (keys_of next) (key_of draft n.0)) same has
      ];
    }
