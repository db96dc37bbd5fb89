use Rattle.flow_law.proofs.MarkLemmas.{marks_exist}
use Rattle.flow_law.proofs.marks.there_are_marks.Goals as goal

pub returns : goal.returns
returns c = marks_exist
