-- The slot's entry has the condition behind the others.
use Rattle.std.proofs.Common.{arith, rules, ◌≡◌, ◌++◌, ◌∷◌, [], List, ap, ◌∙◌}
use Rattle.std.specs.Option.{unwrap_or}
use Rattle.loom_rows.specs.declared.cond.Cond.{Cond}
use Rattle.loom_plan.specs.SlotUsers.{conds_at}
use Rattle.loom_plan.proofs.UserAdded.{added-few, added-at}
use Rattle.loom_plan.proofs.slot_users.add_user.Goals as goal

pub returns : goal.returns
returns c =
    let conds : c.push.new.self ≡ conds_at c.args.users.now c.args.key ++ c.args.cond ∷ [] =
    c.in_ok-push.ensures.ok ∙ ap (λ (l : List Cond). l ++ c.args.cond ∷ []) (c.or_insert.ensures.value ∙ (λ i. unwrap_or (c.in_ok-users.ensures.value i) (c.new.ensures i))) in
    record {
      at = λ q. added-at c.args.key c.args.cond c.args.users.now _ c.push.new.self (grind arith) q conds;
      few = added-few c.args.key c.args.cond c.args.users.now _ c.push.new.self (grind arith);
      ordered = search rules;
    }
