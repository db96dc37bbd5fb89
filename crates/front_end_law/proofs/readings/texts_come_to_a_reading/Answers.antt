use Rattle.front_end_law.proofs.ReadingLemmas.{texts_read}
use Rattle.front_end_law.proofs.readings.texts_come_to_a_reading.Goals as goal

pub returns : goal.returns
returns c = texts_read
