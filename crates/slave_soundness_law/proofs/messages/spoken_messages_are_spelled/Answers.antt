use Rattle.slave_soundness_law.proofs.MessagesSaying.{spoken_messages_are_spelled}
use Rattle.slave_soundness_law.proofs.messages.spoken_messages_are_spelled.Goals as goal

pub returns : goal.returns
returns c = spoken_messages_are_spelled
