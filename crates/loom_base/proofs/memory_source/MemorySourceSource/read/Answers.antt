use Rattle.std.proofs.Common.{ap, sym, ◌∙◌, drop}
use Rattle.loom_base.specs.Streams.{MemorySourceState}
use Rattle.loom_base.proofs.StreamLemmas.{moved_from, none_left}
use Rattle.loom_base.proofs.memory_source.MemorySourceSource.read.Goals as goal

pub returns-clause-bytes : goal.returns-clause-bytes
returns-clause-bytes c =
    let fields = c.self.inside in
    let read = c.fill_front-count in
    let left = ap (λ (source : MemorySourceState). drop source.place source.bytes) c.self.view_is in (
      sym left ∙ moved_from fields.bytes c.as_slice-2.result.now c.args.buf.now read.new.buf fields.place read.result c.as_slice-2.ensures read.ensures.count read.ensures.buffer,
      none_left fields.bytes c.as_slice-2.result.now c.args.buf.now read.new.buf fields.place read.result c.as_slice-2.ensures read.ensures.count read.auto.buf,
    )
