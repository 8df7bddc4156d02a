use Rattle.std.proofs.Common.{◌++◌, ap, length}
use Rattle.std.proofs.lemmas.List.{drop-replicate}
use Rattle.loom_base.proofs.name.padded.Goals as goal

pub returns : goal.returns
returns c = rw c.copy_from_slice.ensures.after (ap (λ z. c.args.bytes.now ++ z) (drop-replicate (length c.args.bytes.now) 32 0))
