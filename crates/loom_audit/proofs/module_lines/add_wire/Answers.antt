use Rattle.std.proofs.Common.{◌≡◌, ◌-◌, ℕ, cond, List, [], ◌∷◌, ◌++◌, Option, Some, length, get_or, sym, ap, ◌∙◌, arith}
use Rattle.std.specs.HashMap.{get}
use Rattle.std.specs.List.{position_from}
use Rattle.std.proofs.Math.ListN.{set}
use Rattle.loom_types.specs.declared.plan.Module.{Module}
use Rattle.loom_audit.specs.Grouping.{is_module_of, is_same_pair, with_wire}
use Rattle.loom_audit.proofs.GroupSteps.{module_within, places_grow, places_stay, wire_new, wire_there}
use Rattle.loom_audit.proofs.module_lines.add_wire.Goals as goal
use Rattle.loom_audit.proofs.module_lines.add_wire.Goals.{In_ok-push, In_ok-push-3}

pub index_mut-requires : goal.index_mut-requires
index_mut-requires c =
    let found = sym (c.requires c.args.harness c.args.row) ∙ sym c.in-Some.ensures.value in
    omega (arith, (module_within c.args.harness c.args.row 0 c.args.modules.now.items c.in-Some.place.now found).1, c.args.modules.now.ok.0)

-- the module that was found has the wire
taken : (c : In_ok-push) → set c.args.modules.now.items c.in-Some.place.now (record { harness = c.index_mut.result.now.harness; row = c.index_mut.result.now.row; wires = c.push.new.self })
    ≡ with_wire c.args.modules.now.items c.args.harness c.args.row c.args.position
taken c =
    let modules = c.args.modules.now.items in
    let place = c.in-Some.place.now in
    let old : Module = c.index_mut.result.now in
    let new : Module = record { harness = old.harness; row = old.row; wires = c.push.new.self } in
    let found = sym (c.requires c.args.harness c.args.row) ∙ sym c.in-Some.ensures.value in
    let same : place ≡ place - 0 = omega arith in
    let is : new ≡ record (get_or modules (place - 0) old) { wires = (get_or modules (place - 0) old).wires ++ c.args.position ∷ [] } =
    ap (λ (l : List ℕ). record { harness = old.harness; row = old.row; wires = l }) c.in_ok-push.ensures.ok
    ∙ ap (λ (m : Module). record m { wires = m.wires ++ c.args.position ∷ [] }) (c.index_mut.ensures.value ∙ ap (λ (k : ℕ). get_or modules k old) same) in
    ap (λ (k : ℕ). set modules k new) same ∙ wire_there c.args.harness c.args.row c.args.position 0 modules place old new found is

pub returns-in-Some-clause-added : goal.returns-in-Some-clause-added
returns-in-Some-clause-added c = taken (goal.at.returns-in-Some-clause-added c).In_ok-push

pub returns-in-Some-clause-finds : goal.returns-in-Some-clause-finds
returns-in-Some-clause-finds c harness row =
    let found = sym (c.requires c.args.harness c.args.row) ∙ sym c.in-Some.ensures.value in
    c.requires harness row
    ∙ (sym (places_stay c.args.harness c.args.row c.args.position harness row 0 c.args.modules.now.items 0 c.in-Some.place.now found)
    ∙ sym (ap (position_from (is_module_of harness row) 0) (taken (goal.at.returns-in-Some-clause-finds c).In_ok-push)))

-- the module that was made stands at the end
appended : (c : In_ok-push-3) → c.push-3.new.self.items ≡ c.args.modules.now.items ++ record { harness = c.args.harness; row = c.args.row; wires = c.args.position ∷ [] } ∷ []
appended c =
    let wires = c.in_ok-push-2.ensures.ok ∙ ap (λ (l : List ℕ). l ++ c.args.position ∷ []) c.new-wires.ensures in
    c.in_ok-push-3.ensures.items
    ∙ ap (λ (l : List ℕ). c.args.modules.now.items ++ record { harness = c.args.harness; row = c.args.row; wires = l } ∷ []) wires

pub returns-clause-added : goal.returns-clause-added
returns-clause-added c =
    let none = sym (c.requires c.args.harness c.args.row) ∙ sym c.in_default.ensures.value in
    appended (goal.at.returns-clause-added c).In_ok-push-3 ∙ wire_new c.args.harness c.args.row c.args.position 0 c.args.modules.now.items none

pub returns-clause-finds : goal.returns-clause-finds
returns-clause-finds c harness row =
    let modules = c.args.modules.now.items in
    let none = sym (c.requires c.args.harness c.args.row) ∙ sym c.in_default.ensures.value in
    let last : c.len.result ≡ length modules = omega (arith, c.len.ensures, c.args.modules.now.ok.0) in
    let before : Option ℕ = get is_same_pair c.args.places.now (harness, row) in
    places_grow c.args.harness c.args.row c.args.position harness row modules (get is_same_pair c.insert.new.self (harness, row)) before none
    (c.in_ok-insert.ensures.updates.0 (harness, row)
    ∙ ap (λ (n : ℕ). cond (is_same_pair (c.args.harness, c.args.row) (harness, row)) (Some n) before) last)
    (c.requires harness row)
    ∙ sym (ap (position_from (is_module_of harness row) 0) (appended (goal.at.returns-clause-finds c).In_ok-push-3))
