use Rattle.std.proofs.Common.{◌-◌, min}
use Rattle.loom_rows.specs.Condition.{first_option}
use Rattle.loom_rows.proofs.rows.Rows.+meet.Given as goal

abbrev pub decreases-meet : goal.decreases-meet
decreases-meet l = l.self.now.options - min (first_option l.self.now.options l.a) (first_option l.self.now.options l.b)
