use Rattle.std.proofs.Common.{◌≡◌, ◌++◌, ◌∷◌, [], ℕ, List, Some, cond, ap, ◌∙◌, arith}
use Rattle.std.specs.HashMap.Entry.{map_with_value}
use Rattle.std.specs.Map.{lookup}
use Rattle.std.proofs.lemmas.Grind.{common_steps}
use Rattle.loom_audit.specs.Grouping.{is_same_pair}
use Rattle.loom_check.specs.PinTables.{positions_at}
use Rattle.loom_check.proofs.pin_tables.add_place.Goals as goal

put : (now was entries : List ((ℕ × ℕ) × List ℕ)) (pin other : ℕ × ℕ) (pushed positions : List ℕ) → now ≡ entries → pushed ≡ positions
    → lookup (is_same_pair other) entries ≡ cond (is_same_pair pin other) (Some pushed) (lookup (is_same_pair other) was)
    → lookup (is_same_pair other) now ≡ cond (is_same_pair pin other) (Some positions) (lookup (is_same_pair other) was)
put now was entries pin other pushed positions ends is value =
    ap (lookup (is_same_pair other)) ends ∙ value ∙ ap (λ (l : List ℕ). cond (is_same_pair pin other) (Some l) (lookup (is_same_pair other) was)) is

pub returns : goal.returns
returns c =
    let pushed : List ℕ = positions_at c.args.by_pin.now c.args.pin ++ c.args.position ∷ [] in
    let had : c.or_insert.result.now ≡ positions_at c.args.by_pin.now c.args.pin = grind (arith, common_steps) in
    let is : c.push.new.self ≡ pushed = grind (arith, common_steps, had) in
    λ other. put _ c.args.by_pin.now.entries (map_with_value c.in_ok-by_pin.field-0 c.push.new.self).entries c.args.pin other c.push.new.self pushed (grind arith) is
    ((c.in_ok-by_pin.ensures.update.0 c.push.new.self).0 other)
