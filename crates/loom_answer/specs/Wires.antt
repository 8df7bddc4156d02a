use Rattle.std.specs.Prelude.{[], ◌∷◌, map, codes}
use Rattle.serde_json.specs.Data.{Data, object, put, no_members}
use Rattle.loom_base.specs.declared.positions.SegmentNo.{SegmentNo}
use Rattle.loom_types.specs.declared.wire.End.{End}
use Rattle.loom_types.specs.declared.wire.End.TheVariants.{Cavity, Splice, Pin}
use Rattle.loom_types.specs.declared.wire.Wire.{Wire}
use Rattle.loom_json.specs.Fields.{array_of}
use Rattle.loom_answer.specs.Values.{whole, tagged}

-- a segment is printed as its position
abbrev pub segment_shown : SegmentNo → Data
segment_shown segment = whole segment.0

-- how an end is printed: a word and its numbers
abbrev pub end_shown : End → Data
end_shown (Cavity cavity) = tagged (codes "cavity") (cavity.0 ∷ [])
end_shown (Splice node ordinal) = tagged (codes "splice") (node.0 ∷ ordinal ∷ [])
end_shown (Pin coupler pin side) = tagged (codes "pin") (coupler.0 ∷ pin ∷ side ∷ [])

-- how a wire is printed
abbrev pub wire_shown : Wire → Data
wire_shown w = object
    (put (codes "to") (end_shown w.to)
    (put (codes "row") (whole w.row)
    (put (codes "route") (array_of (map segment_shown w.route))
    (put (codes "net") (whole w.net.0)
    (put (codes "length") (whole w.length)
    (put (codes "from") (end_shown w.from)
    no_members))))))
