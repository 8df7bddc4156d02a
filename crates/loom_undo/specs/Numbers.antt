-- Inverses that set a number alone.
use Rattle.std.specs.Prelude.{◌≡◌}
use Rattle.loom_project.specs.declared.draft.Draft.{Draft}
use Rattle.loom_project.specs.declared.numbers.NumberChange.{NumberChange}
use Rattle.loom_project.specs.Numbers.{with_number, IsThere}
use Rattle.loom_undo.specs.declared.inverse.Inverse.{Inverse}
use Rattle.loom_undo.specs.Inverse.{taken_back}

-- all that the inverse makes of the draft is another number
pub record SetsBack (draft : Draft) (inverse : Inverse) (change : NumberChange) : Type 0 where
  pub there : IsThere draft change
  pub made : taken_back inverse draft ≡ with_number draft change
