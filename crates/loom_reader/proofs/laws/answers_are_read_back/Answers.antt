use Rattle.loom_reader.proofs.AnswerRead.{answers_read}
use Rattle.loom_reader.proofs.laws.answers_are_read_back.Goals as goal

pub returns : goal.returns
returns c = answers_read
