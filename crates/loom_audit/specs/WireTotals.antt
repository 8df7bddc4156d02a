use Rattle.std.specs.Prelude.{ℕ, List, [], ◌∷◌, ◌≡◌, refl}
use Rattle.std.proofs.Common.{ap, subst}
use Rattle.std.specs.declared.cmp.Ordering.{Ordering}
use Rattle.std.specs.declared.cmp.Ordering.TheVariants.{Less, Equal, Greater}
use Rattle.std.specs.Ordering.{nat_cmp, ordering_then}
use Rattle.std.specs.Cmp.{IsTotalOrder, on_total, then_total, nat_cmp_total}
use Rattle.std.specs.Cmp.Lexicographic.{slice_cmp, lists_total, nat_list_cmp_total}
use Rattle.loom_base.specs.declared.positions.SegmentNo.{SegmentNo}
use Rattle.loom_types.specs.declared.wire.End.{End}
use Rattle.loom_types.specs.declared.wire.End.TheVariants.{Cavity, Splice, Pin}
use Rattle.loom_types.specs.declared.wire.Wire.{Wire}
use Rattle.loom_types.specs.WireOrder.{end_cmp, route_cmp, wire_cmp}

-- an end as a list of numbers: its kind, and then its own numbers
abbrev pub code_of_end : End → List ℕ
code_of_end (Cavity c) = 0 ∷ c.0 ∷ []
code_of_end (Splice v j) = 1 ∷ v.0 ∷ j ∷ []
code_of_end (Pin x p s) = 2 ∷ x.0 ∷ p ∷ s ∷ []

pub then-Equal : (o : Ordering) → ordering_then o Equal ≡ o
then-Equal Less = refl
then-Equal Equal = refl
then-Equal Greater = refl

-- ends are ordered as these lists are
pub end_cmp-codes : (e f : End) → slice_cmp nat_cmp (code_of_end e) (code_of_end f) ≡ end_cmp e f
end_cmp-codes (Cavity c) (Cavity d) = then-Equal (nat_cmp c.0 d.0)
end_cmp-codes (Cavity c) (Splice w k) = refl
end_cmp-codes (Cavity c) (Pin y q t) = refl
end_cmp-codes (Splice v j) (Cavity d) = refl
end_cmp-codes (Splice v j) (Splice w k) = ap (ordering_then (nat_cmp v.0 w.0)) (then-Equal (nat_cmp j k))
end_cmp-codes (Splice v j) (Pin y q t) = refl
end_cmp-codes (Pin x p s) (Cavity d) = refl
end_cmp-codes (Pin x p s) (Splice w k) = refl
end_cmp-codes (Pin x p s) (Pin y q t) = ap (λ o. ordering_then (nat_cmp x.0 y.0) (ordering_then (nat_cmp p q) o)) (then-Equal (nat_cmp s t))

pub end_cmp_total : IsTotalOrder end_cmp
end_cmp_total = subst IsTotalOrder (λ i e f. end_cmp-codes e f i) (on_total code_of_end nat_list_cmp_total)

pub route_cmp_total : IsTotalOrder route_cmp
route_cmp_total = lists_total (on_total (λ (s : SegmentNo). s.0) nat_cmp_total)

-- the order of wires is total, up to lengths and rows
pub wire_cmp_total : IsTotalOrder wire_cmp
wire_cmp_total =
    then_total
    (then_total
    (then_total (on_total (λ (w : Wire). w.net.0) nat_cmp_total) (on_total (λ (w : Wire). w.from) end_cmp_total))
    (on_total (λ (w : Wire). w.to) end_cmp_total))
    (on_total (λ (w : Wire). w.route) route_cmp_total)
