use Rattle.std.proofs.Common.{ℕ, List, [], Option, unwrap_or, sym, ap, subst, ◌∙◌}
use Rattle.loom_check.specs.MetParts.{ArePlaces, IsOfNet}
use Rattle.loom_check.proofs.met_sets.met_of.Goals as goal

pub met_among-requires-clause-among : goal.met_among-requires-clause-among
met_among-requires-clause-among c =
    let net : ℕ = c.args.wire.now.net.0 in
    subst (ArePlaces (IsOfNet net) c.args.plan.now.sets)
    (ap (λ (o : Option (List ℕ)). unwrap_or o []) (sym c.in-Some.ensures.value) ∙ sym c.as_slice.ensures)
    (c.requires.by_net net)

pub met_among-requires-in-None-clause-among : goal.met_among-requires-in-None-clause-among
met_among-requires-in-None-clause-among c =
    let net : ℕ = c.args.wire.now.net.0 in
    subst (ArePlaces (IsOfNet net) c.args.plan.now.sets)
    (ap (λ (o : Option (List ℕ)). unwrap_or o []) (sym c.in-None.ensures.value))
    (c.requires.by_net net)
