use Rattle.std.proofs.Common.{◌≡◌, true, Option, Some, None, is_some, Bor}
use Rattle.std.specs.Prelude.{IsSome, option_copied}

pub some_copied : {X : Type 0} (o : Option (Bor X)) → is_some (option_copied o) ≡ true → IsSome o
some_copied None e = e
some_copied (Some x) e = e
