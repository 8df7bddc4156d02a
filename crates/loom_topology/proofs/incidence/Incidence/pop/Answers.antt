use Rattle.std.proofs.Common.{ap, ◌∙◌, map, take, length, ◌-◌, ◌≡◌, sym, arith}
use Rattle.std.specs.Vec.{vec_len}
use Rattle.std.specs.List.{take-map}
use Rattle.std.proofs.lemmas.List.{length-map}
use Rattle.loom_topology.proofs.NodeLists.{map-set-pop}
use Rattle.loom_topology.proofs.incidence.Incidence.pop.Goals as goal

pub returns : goal.returns
returns c =
    let old = c.index_mut.result.now in
    let e : vec_len old - 1 ≡ length (map (λ s. s.0) old.items) - 1 =
    omega (arith, old.ok.0, length-map old.items (λ s. s.0)) in
    map-set-pop (λ l. map (λ s. s.0) l.items) c.self.inside.lists.items c.args.self.now c.args.node.0
    c.index_mut.result.now c.pop.new.self c.self.view_is c.requires c.index_mut.ensures.value
    (ap (map (λ s. s.0)) c.pop.ensures.rest
    ∙ sym (take-map (λ s. s.0) (vec_len old - 1) old.items)
    ∙ ap (λ n. take n (map (λ s. s.0) old.items)) e)
