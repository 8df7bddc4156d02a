use Rattle.std.proofs.Common.{◌≡◌, refl}
use Rattle.serde_json.specs.View.{view}
use Rattle.serde_json.specs.declared.value.Value.TheVariants.{Object}
use Rattle.serde_json.proofs.Views.{view-Object}
use Rattle.loom_top.specs.Variants.{variant_shown}
use Rattle.loom_top.proofs.Variants.{plain_variant}
use Rattle.loom_top.proofs.variant.variant_value.Goals as goal

pub returns-clause-plain : goal.returns-clause-plain
returns-clause-plain c =
    let shown : view (Object c.in_ok-members-2.members) ≡ variant_shown c.args.plan.now c.args.positions.now =
    rw (
      view-Object c.in_ok-members-2.members,
      c.in_ok-members-2.ensures,
      c.in_ok-members.ensures,
      view-Object c.in_ok-with.field-0,
      c.in_ok-with.ensures,
      c.in_ok-variant.ensures,
      c.in_ok-wires.ensures,
      c.in_ok-numbers.ensures,
      c.as_slice.ensures,
      c.from.ensures,
      c.new.ensures.empty,
      c.new-2.ensures.empty,
    ) refl in
    plain_variant (view (Object c.in_ok-members-2.members)) c.args.plan.now c.args.positions.now shown
