use Rattle.wire.proofs.StreamLaws.{one_stream}
use Rattle.wire.proofs.laws.one_stream.Goals as goal

pub returns : goal.returns
returns c = one_stream
