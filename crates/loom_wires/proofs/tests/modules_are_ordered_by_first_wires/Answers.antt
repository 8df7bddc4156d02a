use Rattle.std.proofs.Common.{List, [], ◌∷◌, sym, subst, arith}
use Rattle.std.specs.List.{All}
use Rattle.std.proofs.lemmas.List.Elements.{All-from_recursion}
use Rattle.loom_types.specs.declared.wire.Wire.{Wire}
use Rattle.loom_types.specs.Routes.{IsEndInRange}
use Rattle.loom_wires.specs.Built.{fork}
use Rattle.loom_wires.proofs.LaidByTest.{begin_in_range, cavity}
use Rattle.loom_wires.proofs.tests.modules_are_ordered_by_first_wires.Goals as goal

pub modules-requires : goal.modules-requires
modules-requires g c =
    subst (λ (l : List Wire). All (λ w. IsEndInRange c.in_ok-topology.topology w.from) l) (sym c.as_slice.ensures)
    (begin_in_range c.in_ok-topology.topology fork c.in_ok-wires.wires _ c.in_ok-topology.ensures c.in_ok-wires.ensures
    (All-from_recursion (IsEndInRange fork) (cavity 0 ∷ cavity 1 ∷ cavity 1 ∷ cavity 2 ∷ c.splice.result ∷ []) (
      omega arith,
      (
        omega arith,
        (
          omega arith,
          (
            omega arith,
            (subst (IsEndInRange fork) (sym c.splice.ensures) (omega arith, omega arith), tt),
          ),
        ),
      ),
    )))
