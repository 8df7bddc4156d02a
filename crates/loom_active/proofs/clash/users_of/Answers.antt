use Rattle.std.proofs.Common.{◌≡◌, ◌++◌, List, get_or, sym, ap, subst, ◌∙◌, arith}
use Rattle.std.specs.List.{filter_map}
use Rattle.loom_active.specs.declared.terminals.Terminal.{Terminal}
use Rattle.loom_active.specs.Users.{user_of}
use Rattle.loom_active.proofs.UserSteps.{users-more}
use Rattle.loom_active.proofs.clash.users_of.Goals as goal

pub loop-net-preserved : goal.loop-net-preserved
loop-net-preserved c = record {
  counted = c.in_ok-add_users.ensures.counted ∙ c.loop-net.invariant.counted;
  users = λ cavity lt.
      c.in_ok-add_users.ensures.added cavity (omega (arith, lt, c.loop-net.invariant.counted)) ∙ ap (λ l. l ++ filter_map (user_of c.loop-net.net cavity) c.as_slice.result.now) (c.loop-net.invariant.users cavity lt)
      ∙ sym (users-more c.args.nets.now c.loop-net.net c.as_slice.result.now c.loop-net-test.true (subst (λ (l : List Terminal). l ≡ get_or c.args.nets.now c.loop-net.net l) (sym c.as_slice.ensures) c.index-nets-net.is) cavity);
}
