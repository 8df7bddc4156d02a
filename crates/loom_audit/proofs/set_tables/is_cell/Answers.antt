use Rattle.std.proofs.Common.{ℕ, List, ◌≡◌, ◌<◌, ◌≤◌, ◌==◌, length, get_or, sym, ap, ap₂, subst, ◌∙◌, arith, rules}
use Rattle.std.proofs.lemmas.Bool.{false≢true, eq-eqb}
use Rattle.std.proofs.lemmas.List.{length-map}
use Rattle.loom_base.specs.declared.positions.CavityNo.{CavityNo}
use Rattle.loom_topology.specs.Table.{cell_at}
use Rattle.loom_project.specs.Project.{net_topology, cavities_of}
use Rattle.loom_types.specs.SetMask.{rest_of, stem_node}
use Rattle.loom_types.specs.declared.plan.TableLine.{TableLine}
use Rattle.loom_audit.specs.TableRule.{IsTableFor}
use Rattle.loom_audit.proofs.FirstLineLemmas.{place_within}
use Rattle.loom_audit.proofs.SetParts.{mask_some}
use Rattle.loom_audit.proofs.SetTables.{rest_range, found-line, none-passes, table-fits, cell_back}
use Rattle.loom_audit.proofs.set_tables.is_cell.Goals as goal

pub returns-in_default-clause-is : goal.returns-in_default-clause-is
returns-in_default-clause-is c =
    let net = c.args.set.now.net.0 in
    let none = sym (c.requires.places net) ∙ sym c.in_default.ensures.value in (
      λ never. absurd (false≢true never),
      λ is. absurd (none-passes (λ (l : TableLine). l.net.0 == net) 0 c.args.plan.now.tables is.line none is.printed (eq-eqb is.line.net.0 net is.of_net)),
    )

pub offset_bounds-as_slice-place : goal.offset_bounds-as_slice-place
offset_bounds-as_slice-place c =
    let net = c.args.set.now.net.0 in
    let found = sym (c.requires.places net) ∙ sym c.in-Some.ensures.value in
    let within : c.in-Some.place.now < length c.as_slice.result.now =
    omega (arith, ap length c.as_slice.ensures, (place_within (λ (l : TableLine). l.net.0 == net) 0 c.args.plan.now.tables c.in-Some.place.now found).1) in
    search rules

pub bounds-as_slice-place : goal.bounds-as_slice-place
bounds-as_slice-place c =
    let net = c.args.set.now.net.0 in
    let found = sym (c.requires.places net) ∙ sym c.in-Some.ensures.value in
    omega (arith, ap length c.as_slice.ensures, (place_within (λ (l : TableLine). l.net.0 == net) 0 c.args.plan.now.tables c.in-Some.place.now found).1)

pub rest-requires : goal.rest-requires
rest-requires c = mask_some (cavities_of c.args.project.now c.args.set.now.net.0) c.args.set.now.mask c.requires.set

pub is_cell_at-requires-clause-mask_from : goal.is_cell_at-requires-clause-mask_from
is_cell_at-requires-clause-mask_from c =
    let terminals = cavities_of c.args.project.now c.args.set.now.net.0 in
    let few : length terminals ≤ 12 =
    omega (arith, c.cavities-cavities.ensures.at_most, ap length c.cavities-cavities.ensures.places, length-map c.cavities-cavities.result.now (λ (x : CavityNo). x.0)) in
    omega (arith, (rest_range terminals c.args.set.now.mask c.requires.set few).0, c.rest.ensures)

pub is_cell_at-requires-clause-mask_to : goal.is_cell_at-requires-clause-mask_to
is_cell_at-requires-clause-mask_to c =
    let draft = c.args.project.now in
    let set = c.args.set.now in
    let tables = c.args.plan.now.tables in
    let terminals = cavities_of draft set.net.0 in
    let few : length terminals ≤ 12 =
    omega (arith, c.cavities-cavities.ensures.at_most, ap length c.cavities-cavities.ensures.places, length-map c.cavities-cavities.result.now (λ (x : CavityNo). x.0)) in
    let range = rest_range terminals set.mask c.requires.set few in
    let line : TableLine = c.index-as_slice-place.result in
    let at : line ≡ get_or tables c.in-Some.place.now line =
    c.index-as_slice-place.is ∙ ap (λ (l : List TableLine). get_or l c.in-Some.place.now line) c.as_slice.ensures in
    let (listed, of_net) = found-line tables set.net.0 c.in-Some.place.now line (sym (c.requires.places set.net.0) ∙ sym c.in-Some.ensures.value) at in
    let fits : IsTableFor draft set.net.0 line =
    subst (λ (n : ℕ). IsTableFor draft n line) of_net (table-fits draft c.args.plan.now c.requires.tables line listed) in
    omega (arith, range.1, c.rest.ensures, fits.masks)

pub is_cell_at-requires-clause-node : goal.is_cell_at-requires-clause-node
is_cell_at-requires-clause-node c =
    let draft = c.args.project.now in
    let set = c.args.set.now in
    let tables = c.args.plan.now.tables in
    let terminals = cavities_of draft set.net.0 in
    let few : length terminals ≤ 12 =
    omega (arith, c.cavities-cavities.ensures.at_most, ap length c.cavities-cavities.ensures.places, length-map c.cavities-cavities.result.now (λ (x : CavityNo). x.0)) in
    let range = rest_range terminals set.mask c.requires.set few in
    let line : TableLine = c.index-as_slice-place.result in
    let at : line ≡ get_or tables c.in-Some.place.now line =
    c.index-as_slice-place.is ∙ ap (λ (l : List TableLine). get_or l c.in-Some.place.now line) c.as_slice.ensures in
    let (listed, of_net) = found-line tables set.net.0 c.in-Some.place.now line (sym (c.requires.places set.net.0) ∙ sym c.in-Some.ensures.value) at in
    let fits : IsTableFor draft set.net.0 line =
    subst (λ (n : ℕ). IsTableFor draft n line) of_net (table-fits draft c.args.plan.now c.requires.tables line listed) in
    omega (arith, c.home-home.ensures.in_range, fits.nodes)

pub returns-clause-is : goal.returns-clause-is
returns-clause-is c =
    let draft = c.args.project.now in
    let set = c.args.set.now in
    let tables = c.args.plan.now.tables in
    let terminals = cavities_of draft set.net.0 in
    let few : length terminals ≤ 12 =
    omega (arith, c.cavities-cavities.ensures.at_most, ap length c.cavities-cavities.ensures.places, length-map c.cavities-cavities.result.now (λ (x : CavityNo). x.0)) in
    let range = rest_range terminals set.mask c.requires.set few in
    let line : TableLine = c.index-as_slice-place.result in
    let at : line ≡ get_or tables c.in-Some.place.now line =
    c.index-as_slice-place.is ∙ ap (λ (l : List TableLine). get_or l c.in-Some.place.now line) c.as_slice.ensures in
    let (listed, of_net) = found-line tables set.net.0 c.in-Some.place.now line (sym (c.requires.places set.net.0) ∙ sym c.in-Some.ensures.value) at in
    let fits : IsTableFor draft set.net.0 line =
    subst (λ (n : ℕ). IsTableFor draft n line) of_net (table-fits draft c.args.plan.now c.requires.tables line listed) in
    let read : cell_at line.table c.rest.result c.home-home.result.0 ≡ cell_at line.table (rest_of set.mask) (stem_node (net_topology draft set.net.0) terminals set.mask) =
    ap₂ (λ (m v : ℕ). cell_at line.table m v) c.rest.ensures c.home-home.ensures.node in (
      λ yes. record { line = line; printed = listed; of_net = of_net; cell = sym read ∙ c.is_cell_at.ensures.is.0 yes },
      λ is. c.is_cell_at.ensures.is.1 (read ∙ cell_back draft c.args.plan.now c.requires.tables set set.cost line listed of_net is),
    )
