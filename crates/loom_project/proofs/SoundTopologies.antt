-- The topologies of a sound draft are sound.
use Rattle.std.proofs.Common.{◌≡◌, ℕ, ◌<◌, length, sym, subst, ◌∙◌, Ok}
use Rattle.std.specs.Prelude.{All}
use Rattle.std.proofs.lemmas.List.{length-map}
use Rattle.loom_topology.specs.Topology.{TopologyView, IsSound}
use Rattle.loom_topology.proofs.ShutSegments.{IsSound-shut_in}
use Rattle.loom_project.specs.declared.draft.Draft.{Draft}
use Rattle.loom_project.specs.Draft.{cavity_names}
use Rattle.loom_project.specs.Project.{topology_of, net_topology, net_at, cavities_of, barred, HasSoundTopologies}
use Rattle.loom_project.specs.Sound.{draft_check}
use Rattle.loom_project.proofs.NetLemmas.{net_sound, places_in_range}
use Rattle.loom_project.proofs.PartsLemmas.{count_net_cavities}

sound_net : (draft : Draft) (net : ℕ) → IsSound (topology_of draft) → IsSound (net_topology draft net)
unfolding net_topology
sound_net draft net sound = IsSound-shut_in (topology_of draft) (barred draft (net_at draft net).class) sound

pub sound_topologies : (draft : Draft) (topology : TopologyView) → draft_check draft ≡ Ok tt → topology ≡ topology_of draft → IsSound topology → HasSoundTopologies draft
sound_topologies draft topology passed same sound =
    let whole : IsSound (topology_of draft) = subst IsSound same sound in
    record {
      whole = whole;
      each = λ net. sound_net draft net whole;
      terminals = λ net lt.
          let count : length (cavity_names draft.cavities) ≡ length (net_topology draft net).cavities =
          length-map draft.cavities (λ cavity. cavity.name) ∙ sym (count_net_cavities draft net) in
          subst (λ (n : ℕ). All (λ c. c < n) (cavities_of draft net)) count
          (places_in_range (cavity_names draft.cavities) (net_at draft net).terminals (net_sound draft net passed lt));
    }
