use Rattle.std.proofs.Common.{◌≡◌, Ok, map, ap, sym, ◌∙◌}
use Rattle.std.proofs.lemmas.List.{length-map}
use Rattle.loom_project.specs.Draft.{cavity_names}
use Rattle.loom_project.specs.Project.{net_places, net_at, cavities_of}
use Rattle.loom_project.specs.Sound.{draft_check}
use Rattle.std.proofs.lemmas.Bool.Decides.{Decides-eqb}
use Rattle.std.proofs.lemmas.Map.Made.{IsDistinct-from_AllPairs}
use Rattle.loom_project.proofs.PartsLemmas.{places_at}
use Rattle.loom_project.proofs.NetLemmas.{net_sound, at_least_two, at_most_twelve, all_in_range, all_different}
use Rattle.loom_project.proofs.project.Project.cavities.Goals as goal

pub returns : goal.returns
returns c =
    let draft = c.args.self.now in
    let places : map (λ cavity. cavity.0) c.as_slice-2.result.now ≡ cavities_of draft c.args.net.0 =
    ap (map (λ cavity. cavity.0)) c.as_slice-2.ensures
    ∙ places_at c.as_slice.result.now (cavity_names draft.cavities) draft.nets c.args.net.0 c.index-as_slice-net.result
    (ap (map (map (λ cavity. cavity.0))) c.as_slice.ensures ∙ c.self.invariant.cavities ∙ ap (λ d. net_places (cavity_names d.cavities) d.nets) c.self.view_is)
    c.index-as_slice-net.is c.requires in
    let passed : draft_check draft ≡ Ok tt = ap draft_check (sym c.self.view_is) ∙ c.self.invariant.sound in
    let sound = net_sound draft c.args.net.0 passed c.requires in
    let names = cavity_names draft.cavities in
    let terminals = (net_at draft c.args.net.0).terminals in
    let found = c.as_slice-2.result.now in
    record {
      places = places;
      at_least = at_least_two names terminals found sound places;
      at_most = at_most_twelve names terminals found sound places;
      in_range = all_in_range names terminals found _ sound places (length-map draft.cavities (λ cavity. cavity.name));
      different = all_different names terminals sound;
      each_once = IsDistinct-from_AllPairs Decides-eqb _ (all_different names terminals sound);
    }
