use Rattle.std.proofs.Common.{not, ap, ◌∙◌}
use Rattle.loom_project.specs.Classes.{net_classes, segment_bars}
use Rattle.loom_project.proofs.ClassLemmas.{bars_name}
use Rattle.loom_project.proofs.PartsLemmas.{open_to_net}
use Rattle.loom_project.proofs.project.Project.is_open_to.Goals as goal

pub returns : goal.returns
returns c =
    let draft = c.args.self.now in
    let row = c.as_slice-2.result.now in
    let named = c.is_among.ensures
    ∙ bars_name draft c.args.net.0 c.args.segment.0 c.class_number.result c.as_slice.result.now row c.index-as_slice-segment.result c.requires.net c.requires.segment
    (c.as_slice.ensures ∙ c.self.invariant.bars ∙ ap (λ d. segment_bars (net_classes d.nets) d.segments) c.self.view_is)
    c.as_slice-2.ensures c.index-as_slice-segment.is c.class_number.ensures in
    record {
      bars = ap not named;
      topology = ap not named ∙ open_to_net draft c.args.net.0 c.args.segment.0 c.requires.segment;
    }
