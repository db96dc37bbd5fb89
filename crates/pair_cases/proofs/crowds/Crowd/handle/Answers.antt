use Rattle.pair_cases.proofs.Beginning.{served_anyway}
use Rattle.pair_cases.proofs.crowds.Crowd.handle.Goals as goal

pub returns-in-Ok : goal.returns-in-Ok
returns-in-Ok c = served_anyway c.hears.result c.handle.new.self c.requires.served.0 c.args.peer.now.session (c.handle.ensures.others c.requires.served.0 c.requires.served.1)
