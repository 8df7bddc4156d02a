use Rattle.std.proofs.Common.{◌≡◌, ℕ, ◌<◌, length, map, get_or, refl, sym, subst, arith, below_more}
use Rattle.std.proofs.lemmas.Bool.{false≢true}
use Rattle.std.proofs.lemmas.List.{length-map, get_or-map}
use Rattle.loom_base.specs.declared.positions.CavityNo.{CavityNo}
use Rattle.loom_base.specs.declared.positions.NodeNo.{NodeNo}
use Rattle.loom_audit.specs.LayoutTests.{HangsAt}
use Rattle.loom_audit.proofs.LaidOut.{hung-at, hung-all}
use Rattle.loom_audit.proofs.layout_tree.are_hung.Goals as goal

pub returns-then-not-hangs_at : goal.returns-then-not-hangs_at
returns-then-not-hangs_at c =
    let topology = c.args.topology.now in
    let places = map (λ (v : NodeNo). v.0) c.args.places.now in
    let numbers = map (λ (x : CavityNo). x.0) c.args.cavities.now in
    let hangs = c.args.hangs.now in
    let at = c.loop-at.at in
    let within : at < length c.args.cavities.now = omega (arith, c.loop-at-test.true, c.if-cavities-hangs.false) in
    let read : get_or numbers at 0 ≡ (get_or c.args.cavities.now at (record { 0 = 0 })).0 =
    get_or-map (λ (x : CavityNo). x.0) c.args.cavities.now at (record { 0 = 0 }) 0 within in (
      λ f. absurd (false≢true f),
      λ hung. c.if-not-hangs_at.ensures.1 (subst (λ (n : ℕ). HangsAt topology places n (get_or hangs at 0)) read
          (hung-at topology places numbers hangs hung at (omega (arith, within, length-map c.args.cavities.now (λ (x : CavityNo). x.0))))),
    )

pub loop-at-preserved : goal.loop-at-preserved
loop-at-preserved c =
    let topology = c.args.topology.now in
    let places = map (λ (v : NodeNo). v.0) c.args.places.now in
    let numbers = map (λ (x : CavityNo). x.0) c.args.cavities.now in
    let hangs = c.args.hangs.now in
    let at = c.loop-at.at in
    let within : at < length c.args.cavities.now = omega (arith, c.loop-at-test.true, c.if-cavities-hangs.false) in
    let read : get_or numbers at 0 ≡ (get_or c.args.cavities.now at (record { 0 = 0 })).0 =
    get_or-map (λ (x : CavityNo). x.0) c.args.cavities.now at (record { 0 = 0 }) 0 within in
    below_more (λ k. HangsAt topology places (get_or numbers k 0) (get_or hangs k 0)) at c.loop-at.invariant
    (subst (λ (n : ℕ). HangsAt topology places n (get_or hangs at 0)) (sym read) (c.if-not-hangs_at.ensures.0 refl))

pub returns : goal.returns
returns c =
    let topology = c.args.topology.now in
    let places = map (λ (v : NodeNo). v.0) c.args.places.now in
    let numbers = map (λ (x : CavityNo). x.0) c.args.cavities.now in
    let hangs = c.args.hangs.now in (
      λ e. hung-all topology places numbers hangs (omega (arith, c.if-cavities-hangs.false, length-map c.args.cavities.now (λ (x : CavityNo). x.0)))
          (λ k lt. c.loop-at.invariant k (omega (arith, lt, c.loop-at-test.false))),
      λ hung. refl,
    )
