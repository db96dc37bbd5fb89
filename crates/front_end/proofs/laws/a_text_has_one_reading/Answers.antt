use Rattle.front_end.proofs.OneReading.{reading_is_one}
use Rattle.front_end.proofs.laws.a_text_has_one_reading.Goals as goal

pub returns : goal.returns
returns c = reading_is_one
