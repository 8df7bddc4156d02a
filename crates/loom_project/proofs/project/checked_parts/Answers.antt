use Rattle.std.proofs.Common.{◌≡◌, Ok, ap, ◌∙◌}
use Rattle.std.proofs.lemmas.Result.{err_from_is_err_and}
use Rattle.loom_project.specs.Draft.{node_names, cavity_names}
use Rattle.loom_project.specs.Project.{net_places}
use Rattle.loom_project.specs.Sound.{options_check, rules_check, nodes_check, segments_check, cavities_check, draft_check}
use Rattle.loom_project.proofs.PartsLemmas.{topology_made, last_decides}
use Rattle.loom_project.proofs.project.checked_parts.Goals as goal

pub returns-in_err-cavities-clause-gives : goal.returns-in_err-cavities-clause-gives
unfolding draft_check
returns-in_err-cavities-clause-gives c =
    let p = err_from_is_err_and c.from_residual-in_err-cavities.result c.from_residual-in_err-cavities.ensures.1 in
    let draft = c.args.draft.now in
    let options : options_check draft.options ≡ Ok tt = rw (← c.as_slice.ensures) c.in_ok-options.ensures.gives in
    let rules : rules_check draft.options draft.rules ≡ Ok tt =
    rw (← c.as_slice.ensures, ← c.in_ok-options.ensures.options, ← c.as_slice-2.ensures) c.in_ok-rules.ensures.answers in
    let nodes : nodes_check draft.nodes ≡ Ok tt = rw (← c.as_slice-nodes.ensures) c.in_ok-names.ensures.gives in
    let segments : segments_check draft.nodes draft.segments ≡ Ok tt =
    rw (← c.as_slice-nodes.ensures, ← c.as_slice-3.ensures) c.in_ok-add_segments.ensures.gives in
    let cavities : cavities_check (node_names draft.nodes) draft.cavities ≡ Ok tt =
    rw (← c.as_slice-nodes.ensures, ← c.in_ok-names.ensures.names, ← c.as_slice-4.ensures) c.in_ok-places.ensures.gives in
    rw (p.1, p.2) (λ fresh. last_decides _ _ _ _ _ _ _ options rules nodes segments cavities
    (rw (← c.as_slice.ensures, ← c.in_ok-options.ensures.options, ← c.as_slice-4.ensures, ← c.in_ok-places.ensures.names, ← c.as_slice-2.ensures, ← c.in_ok-rules.ensures.counted, ← c.as_slice-5.ensures)
    (c.in_err-cavities.ensures.gives fresh)))

pub returns-clause-topology : goal.returns-clause-topology
returns-clause-topology c =
    topology_made _ _ _ _ _ _ _ _ c.as_slice-nodes.ensures c.as_slice-3.ensures c.as_slice-4.ensures c.in_ok-names.ensures.names c.in_ok-names.ensures.topology
    c.in_ok-add_segments.ensures.added c.in_ok-places.ensures.added

pub returns-clause-cavities : goal.returns-clause-cavities
returns-clause-cavities c =
    c.in_ok-cavities.ensures.places
    ∙ ap (λ names. net_places names c.as_slice-5.result.now) (c.in_ok-places.ensures.names ∙ ap cavity_names c.as_slice-4.ensures)
    ∙ ap (net_places (cavity_names c.args.draft.now.cavities)) c.as_slice-5.ensures
