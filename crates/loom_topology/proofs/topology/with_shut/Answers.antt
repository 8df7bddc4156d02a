use Rattle.std.proofs.Common.{ap, ◌∙◌, ◌≡◌, ◌++◌, [], length, map, take, drop, sym, arith}
use Rattle.std.proofs.Math.Seq.{take-append_seam}
use Rattle.std.proofs.lemmas.List.{length-map}
use Rattle.loom_topology.specs.Topology.{shut_among}
use Rattle.loom_topology.specs.TopologyInside.{segment_of_link}
use Rattle.loom_topology.proofs.ShutSegments.{length-shut_among, shut_among-shut_among}
use Rattle.loom_topology.proofs.topology.with_shut.Goals as goal

pub shut_links-requires-clause-in_range : goal.shut_links-requires-clause-in_range
shut_links-requires-clause-in_range c k d below =
    let old = map segment_of_link c.args.links.now in
    let opened = ap (map segment_of_link) c.deref_mut.ensures.value ∙ c.in_ok-copy.ensures in
    omega (
      arith,
      c.requires k d below,
      ap length opened,
      length-shut_among old [],
      length-map c.args.links.now segment_of_link,
      length-map c.deref_mut.result.now segment_of_link,
    )

pub shut_links-requires-clause-are_open : goal.shut_links-requires-clause-are_open
shut_links-requires-clause-are_open c =
    let old = map segment_of_link c.args.links.now in
    let opened = ap (map segment_of_link) c.deref_mut.ensures.value ∙ c.in_ok-copy.ensures in
    opened ∙ sym (ap (λ l. shut_among l []) opened ∙ shut_among-shut_among old [] [])

pub returns : goal.returns
returns c =
    let list = map (λ s. s.0) c.args.segments.now in
    let rest = drop (length c.shut_links.new.links) c.in_ok-copy.copy.items in
    let opened = ap (map segment_of_link) c.deref_mut.ensures.value ∙ c.in_ok-copy.ensures in
    let count : c.in_ok-copy.copy.len ≡ length c.shut_links.new.links = omega (arith, c.deref_mut.ensures.len, c.shut_links.auto.links) in
    ap (map segment_of_link) (ap (λ n. take n (c.shut_links.new.links ++ rest)) count ∙ take-append_seam c.shut_links.new.links rest)
    ∙ c.shut_links.ensures
    ∙ ap (λ l. shut_among l list) opened
    ∙ shut_among-shut_among (map segment_of_link c.args.links.now) [] list
