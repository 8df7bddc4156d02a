use Rattle.std.proofs.Common.{List, [], ◌∷◌, sym, subst, arith}
use Rattle.std.specs.List.{All}
use Rattle.std.proofs.lemmas.List.Elements.{All-from_recursion}
use Rattle.loom_types.specs.declared.wire.Wire.{Wire}
use Rattle.loom_types.specs.Routes.{IsEndInRange}
use Rattle.loom_wires.proofs.LaidByTest.{begin_in_range, cavity, coupler_and_run}
use Rattle.loom_wires.proofs.tests.modules_keep_to_harnesses.Goals as goal

pub modules-requires : goal.modules-requires
modules-requires g c =
    subst (λ (l : List Wire). All (λ w. IsEndInRange c.in_ok-topology.topology w.from) l) (sym c.as_slice.ensures)
    (begin_in_range c.in_ok-topology.topology coupler_and_run c.in_ok-wires.wires _ c.in_ok-topology.ensures c.in_ok-wires.ensures
    (All-from_recursion (IsEndInRange coupler_and_run) (cavity 0 ∷ cavity 1 ∷ cavity 2 ∷ c.splice.result ∷ c.splice-2.result ∷ []) (
      omega arith,
      (
        omega arith,
        (
          omega arith,
          (
            subst (IsEndInRange coupler_and_run) (sym c.splice.ensures) (omega arith, omega arith),
            (subst (IsEndInRange coupler_and_run) (sym c.splice-2.ensures) (omega arith, omega arith), tt),
          ),
        ),
      ),
    )))
