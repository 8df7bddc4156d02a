use Rattle.loom_undo.proofs.finding.found_inverse.Goals as goal

pub returns-in-AddTerminal : goal.returns-in-AddTerminal
returns-in-AddTerminal c = let e = c.added_terminal.ensures c.in-AddTerminal.cavity c.in-AddTerminal.when in cc

pub returns-in-SetLength : goal.returns-in-SetLength
returns-in-SetLength c = let e = c.old_length.ensures c.in-SetLength.length in cc

pub returns-in-SetPrice : goal.returns-in-SetPrice
returns-in-SetPrice c = let e = c.old_price.ensures c.in-SetPrice.price in cc

pub returns-in-SetPins : goal.returns-in-SetPins
returns-in-SetPins c = let e = c.old_pins.ensures c.in-SetPins.pins in cc

pub returns-in-SetBranch : goal.returns-in-SetBranch
returns-in-SetBranch c = let e = c.old_branch.ensures c.in-SetBranch.branch in cc

pub returns-in-SetWhen : goal.returns-in-SetWhen
returns-in-SetWhen c = rw c.in-SetWhen.is (c.old_when.ensures c.in-SetWhen.when)

pub returns-in-SetClass : goal.returns-in-SetClass
returns-in-SetClass c = let e = c.old_class.ensures c.in-SetClass.class in cc

pub returns-in-SetBars : goal.returns-in-SetBars
returns-in-SetBars c = rw (c.in-SetBars.is, ← c.draft-draft.ensures.value) (c.old_bars.ensures c.in-SetBars.bars)

pub returns-in-SetReserved : goal.returns-in-SetReserved
returns-in-SetReserved c = rw (c.in-SetReserved.is, ← c.draft-draft.ensures.value) (c.old_reserved.ensures c.in-SetReserved.reserved)
