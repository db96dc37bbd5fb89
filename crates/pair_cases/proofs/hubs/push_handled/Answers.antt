use Rattle.pair_cases.proofs.Beginning.{served_anyway}
use Rattle.pair_cases.proofs.hubs.push_handled.Goals as goal

pub returns-in-Ok : goal.returns-in-Ok
returns-in-Ok c = served_anyway c.push_told.result c.handle.new.self c.requires.served.0 c.args.session (c.handle.ensures.others c.requires.served.0 c.requires.served.1)

pub returns : goal.returns
returns c = served_anyway c.push_refused.result c.handle.new.self c.requires.served.0 c.args.session (c.handle.ensures.others c.requires.served.0 c.requires.served.1)
