-- Wires that are equal but for their rows, and that wires in order are different.
use Rattle.std.proofs.Common.{◌≡◌, ℕ, ◌==◌, ◌&&◌, Bool, true, false, cond, List, [], ◌∷◌, map, bytes_eq, refl, sym, ap, ◌∙◌, filter}
use Rattle.std.specs.declared.cmp.Ordering.{Ordering}
use Rattle.std.specs.declared.cmp.Ordering.TheVariants.{Equal}
use Rattle.std.specs.Ordering.{nat_cmp, ordering_then}
use Rattle.std.specs.Cmp.{nat_cmp_total}
use Rattle.std.specs.List.{AllPairs}
use Rattle.std.proofs.lemmas.Bool.{eq-eqb, eqb-true, and_parts, and_from}
use Rattle.std.proofs.lemmas.Cmp.{tied_itself}
use Rattle.std.proofs.lemmas.Slice.Eq.{bytes_eq-Decides}
use Rattle.loom_base.specs.declared.positions.SegmentNo.{SegmentNo}
use Rattle.loom_base.proofs.Contained.{Contains-from_map, Contains-from_filter}
use Rattle.loom_types.specs.declared.wire.End.{End}
use Rattle.loom_types.specs.declared.wire.End.TheVariants.{Cavity, Splice, Pin}
use Rattle.loom_types.specs.declared.wire.Wire.{Wire}
use Rattle.loom_types.specs.WireOrder.{end_cmp, route_cmp, wire_cmp, IsWireBefore}
use Rattle.loom_types.specs.WireTree.{is_same_end}
use Rattle.loom_types.specs.LayoutWires.{bare}
use Rattle.loom_types.proofs.EndTests.{same_end-true, same_end-refl}
use Rattle.loom_active.proofs.Pairs.{pairs-head, pairs-tail}
use Rattle.loom_plan.proofs.Reorder.{AreDifferent}

numbers_of : List SegmentNo → List ℕ
numbers_of route = map (λ s. s.0) route

numbers-same : (a b : List SegmentNo) → numbers_of a ≡ numbers_of b → a ≡ b
unfolding numbers_of
numbers-same [] [] e = refl
numbers-same [] (y ∷ b) e = absurd (cc)
numbers-same (x ∷ a) [] e = absurd (cc)
numbers-same (x ∷ a) (y ∷ b) e =
    let first : x.0 ≡ y.0 = cc in
    let rest : map (λ (s : SegmentNo). s.0) a ≡ map (λ (s : SegmentNo). s.0) b = cc in
    λ i. record { 0 = first i } ∷ numbers-same a b rest i

-- the two are one wire but for their rows
pub is_same_wire : Wire → Wire → Bool
is_same_wire w v =
    w.net.0 == v.net.0
    && (is_same_end w.from v.from && (is_same_end w.to v.to && (bytes_eq (numbers_of w.route) (numbers_of v.route) && w.length == v.length)))

pub same_wire-true : (w v : Wire) → is_same_wire w v ≡ true → bare w ≡ bare v
unfolding is_same_wire
same_wire-true w v h =
    let a = and_parts (w.net.0 == v.net.0) _ h in
    let b = and_parts (is_same_end w.from v.from) _ a.1 in
    let c = and_parts (is_same_end w.to v.to) _ b.1 in
    let d = and_parts (bytes_eq (numbers_of w.route) (numbers_of v.route)) (w.length == v.length) c.1 in
    let net : w.net.0 ≡ v.net.0 = eqb-true w.net.0 v.net.0 a.0 in
    let start : w.from ≡ v.from = same_end-true w.from v.from b.0 in
    let finish : w.to ≡ v.to = same_end-true w.to v.to c.0 in
    let route : w.route ≡ v.route = numbers-same w.route v.route ((bytes_eq-Decides (numbers_of w.route) (numbers_of v.route)).0 d.0) in
    let length : w.length ≡ v.length = eqb-true w.length v.length d.1 in
    λ i. record { net = record { 0 = net i }; from = start i; to = finish i; route = route i; length = length i; row = 0 }

pub same_wire-refl : (w : Wire) → is_same_wire w w ≡ true
unfolding is_same_wire
same_wire-refl w =
    and_from (w.net.0 == w.net.0) _ (eq-eqb w.net.0 w.net.0 refl)
    (and_from (is_same_end w.from w.from) _ (same_end-refl w.from)
    (and_from (is_same_end w.to w.to) _ (same_end-refl w.to)
    (and_from (bytes_eq (numbers_of w.route) (numbers_of w.route)) (w.length == w.length)
    ((bytes_eq-Decides (numbers_of w.route) (numbers_of w.route)).1 refl) (eq-eqb w.length w.length refl))))

pub same_wire-from : (w v : Wire) → bare w ≡ v → is_same_wire w v ≡ true
unfolding is_same_wire
same_wire-from w v e = ap (is_same_wire w) (sym e) ∙ same_wire-refl w

-- ---- the order of wires

number_itself : (n : ℕ) → nat_cmp n n ≡ Equal
number_itself n = tied_itself nat_cmp_total n

then_equal : (one other : Ordering) → one ≡ Equal → other ≡ Equal → ordering_then one other ≡ Equal
then_equal one other e f = ap (λ (o : Ordering). ordering_then o other) e ∙ f

end_itself : (e : End) → end_cmp e e ≡ Equal
end_itself (Cavity c) = number_itself c.0
end_itself (Splice v j) = then_equal (nat_cmp v.0 v.0) (nat_cmp j j) (number_itself v.0) (number_itself j)
end_itself (Pin x p s) =
    then_equal (nat_cmp x.0 x.0) (ordering_then (nat_cmp p p) (nat_cmp s s)) (number_itself x.0)
    (then_equal (nat_cmp p p) (nat_cmp s s) (number_itself p) (number_itself s))

route_itself : (route : List SegmentNo) → route_cmp route route ≡ Equal
route_itself [] = refl
route_itself (s ∷ route) = then_equal (nat_cmp s.0 s.0) (route_cmp route route) (number_itself s.0) (route_itself route)

wire_itself : (w : Wire) → wire_cmp w w ≡ Equal
wire_itself w =
    then_equal (ordering_then (ordering_then (nat_cmp w.net.0 w.net.0) (end_cmp w.from w.from)) (end_cmp w.to w.to)) (route_cmp w.route w.route)
    (then_equal (ordering_then (nat_cmp w.net.0 w.net.0) (end_cmp w.from w.from)) (end_cmp w.to w.to)
    (then_equal (nat_cmp w.net.0 w.net.0) (end_cmp w.from w.from) (number_itself w.net.0) (end_itself w.from)) (end_itself w.to))
    (route_itself w.route)

not_before_same : (w v : Wire) → IsWireBefore w v → bare v ≡ bare w → ⊥
not_before_same w v before same =
    let level : wire_cmp w v ≡ Equal = ap (wire_cmp w) same ∙ wire_itself w in
    absurd (cc)

-- wires in order are different, whatever their rows
pub different-bare : (p : Wire → Bool) (ws : List Wire) → AllPairs IsWireBefore ws → AreDifferent (map bare (filter p ws))
different-bare p [] order = tt
different-bare p (w ∷ ws) order =
    let rest = different-bare p ws (pairs-tail IsWireBefore w ws order) in
    elim (p w) as (λ (b : Bool). AreDifferent (map bare (cond b (w ∷ filter p ws) (filter p ws)))) [
      | true ↦ (
        λ at.
            let (v, kept, same) = Contains-from_map bare (filter p ws) (bare w) at in
            let (listed, passes) = Contains-from_filter p ws v kept in
            not_before_same w v (pairs-head IsWireBefore w ws order v listed) same,
        rest,
      )
      | false ↦ rest
    ]
