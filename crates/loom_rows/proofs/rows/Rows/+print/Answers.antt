-- Each row is printed behind its parts.
use Rattle.std.proofs.Common.{◌≡◌, Some, refl, sym, ap, subst, ◌∙◌, arith, length, ◌+◌, ◌∷◌, [], cond, eqb, length-append}
use Rattle.loom_rows.specs.Table.{Has}
use Rattle.loom_rows.specs.declared.cond.Cond.{Cond}
use Rattle.loom_rows.specs.Printing.{IsPrintStep, known_by}
use Rattle.loom_rows.proofs.PrintSteps.{step-found, step-row, printed-few}
use Rattle.loom_rows.proofs.rows.Rows.+print.Goals as goal

pub returns-in-Never : goal.returns-in-Never
returns-in-Never t c =
    subst (λ (x : Cond). IsPrintStep c.args.self.now c.args.rows.now c.args.rows.now (known_by c.args.known.now) (known_by c.args.known.now) x 0) (sym c.in-Never.is)
    (step-found c.args.self.now c.args.rows.now (known_by c.args.known.now) c.requires.printing _ 0 refl)

pub returns-in-Always : goal.returns-in-Always
returns-in-Always t c =
    subst (λ (x : Cond). IsPrintStep c.args.self.now c.args.rows.now c.args.rows.now (known_by c.args.known.now) (known_by c.args.known.now) x 1) (sym c.in-Always.is)
    (step-found c.args.self.now c.args.rows.now (known_by c.args.known.now) c.requires.printing _ 1 refl)

pub returns-in-Some : goal.returns-in-Some
returns-in-Some t c =
    subst (λ (x : Cond). IsPrintStep c.args.self.now c.args.rows.now c.args.rows.now (known_by c.args.known.now) (known_by c.args.known.now) x c.in-Some.number.now) (sym c.in-Row.is)
    (step-found c.args.self.now c.args.rows.now (known_by c.args.known.now) c.requires.printing _ c.in-Some.number.now (sym c.in-Some.ensures.value))

pub append-requires-clause-room : goal.append-requires-clause-room
append-requires-clause-room t c =
    omega (arith, printed-few c.args.self.now c.print-2.new.rows (known_by c.print-2.new.known) c.in_ok-high.ensures.printing, c.requires.sound.within, c.requires.sound.bounded)

pub returns : goal.returns
returns t c =
    let r = c.in-Row.row in
    let rows = c.print-2.new.rows in
    let numbered : c.count-number.result + 1 ≡ length rows + 2 = omega (arith, c.count-number.ensures.count, ap length c.in_ok-append.ensures, length-append rows (record { option = r.now.option.0; low = c.in_ok-low.low; high = c.in_ok-high.high } ∷ [])) in
    subst (λ (x : Cond). IsPrintStep c.args.self.now c.args.rows.now c.append.new.rows (known_by c.args.known.now) (known_by c.insert.new.self) x (c.count-number.result + 1)) (sym c.in-Row.is)
    (step-row c.args.self.now _ r.now.number r.now.option r.now.low r.now.high (subst (Has c.args.self.now) c.in-Row.is c.requires.has) c.args.rows.now c.print.new.rows rows
    (known_by c.args.known.now) (known_by c.print.new.known) (known_by c.print-2.new.known) (known_by c.insert.new.self) c.in_ok-low.low c.in_ok-high.high
    (sym c.in_default.ensures.value) c.in_ok-low.ensures c.in_ok-high.ensures
    (λ m. c.in_ok-insert.ensures.updates.0 m ∙ ap (λ v. cond (eqb r.now.number m) (Some v) (known_by c.print-2.new.known m)) numbered)
    c.append.new.rows (c.count-number.result + 1) c.in_ok-append.ensures numbered)
