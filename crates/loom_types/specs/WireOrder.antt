use Rattle.std.specs.Prelude.{List, ◌≡◌}
use Rattle.std.specs.declared.cmp.Ordering.{Ordering}
use Rattle.std.specs.declared.cmp.Ordering.TheVariants.{Less, Greater}
use Rattle.std.specs.Ordering.{nat_cmp, ordering_then}
use Rattle.std.specs.Cmp.Lexicographic.{slice_cmp}
use Rattle.loom_base.specs.declared.positions.SegmentNo.{SegmentNo}
use Rattle.loom_types.specs.declared.wire.End.{End}
use Rattle.loom_types.specs.declared.wire.End.TheVariants.{Cavity, Splice, Pin}
use Rattle.loom_types.specs.declared.wire.Wire.{Wire}

-- the order of ends: cavities by number, then splices by node and ordinal, then pins by coupler, pin and side
abbrev pub end_cmp : End → End → Ordering
end_cmp (Cavity c) (Cavity d) = nat_cmp c.0 d.0
end_cmp (Cavity c) (Splice w k) = Less
end_cmp (Cavity c) (Pin y q t) = Less
end_cmp (Splice v j) (Cavity d) = Greater
end_cmp (Splice v j) (Splice w k) = ordering_then (nat_cmp v.0 w.0) (nat_cmp j k)
end_cmp (Splice v j) (Pin y q t) = Less
end_cmp (Pin x p s) (Cavity d) = Greater
end_cmp (Pin x p s) (Splice w k) = Greater
end_cmp (Pin x p s) (Pin y q t) = ordering_then (nat_cmp x.0 y.0) (ordering_then (nat_cmp p q) (nat_cmp s t))

-- routes segment by segment; one that begins another comes before it
abbrev pub route_cmp : List SegmentNo → List SegmentNo → Ordering
route_cmp one other = slice_cmp (λ s t. nat_cmp s.0 t.0) one other

-- the order of wires: by net, from, to and route
abbrev pub wire_cmp : Wire → Wire → Ordering
wire_cmp w v =
    ordering_then (ordering_then (ordering_then (nat_cmp w.net.0 v.net.0) (end_cmp w.from v.from)) (end_cmp w.to v.to))
    (route_cmp w.route v.route)

abbrev pub IsWireBefore : Wire → Wire → Type 0
IsWireBefore w v = wire_cmp w v ≡ Less
