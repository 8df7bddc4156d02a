-- What is told of a place that was found, and where none was.
use Rattle.std.proofs.Common.{◌≡◌, Option, None, Some, IfSome, IfNone, refl, subst}
use Rattle.loom_audit.specs.declared.spot.Spot.{Spot}

pub found-some : (P : Spot → Type 0) (found : Option Spot) (place : Spot) → found ≡ Some place → IfSome found P → P place
found-some P found place is told = subst (λ (o : Option Spot). IfSome o P) is told

pub found-none : (P : Type 0) (found : Option Spot) → ((place : Spot) → found ≡ Some place → ⊥) → IfNone found P → P
found-none P None not_some told = told
found-none P (Some place) not_some told = absurd (not_some place refl)
