use Rattle.loom_rows.proofs.WorkLaws.{no_rows_stand_for_none, work_is_appended, calls_are_refused_where_too_many}
use Rattle.loom_rows.proofs.laws.work_is_appended.Goals as goal

pub returns-clause-none : goal.returns-clause-none
returns-clause-none c = no_rows_stand_for_none

pub returns-clause-appended : goal.returns-clause-appended
returns-clause-appended c = work_is_appended

pub returns-clause-refused : goal.returns-clause-refused
returns-clause-refused c = calls_are_refused_where_too_many
