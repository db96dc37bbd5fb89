use Rattle.split_law.proofs.Accepted.{accepted_shares_nothing}
use Rattle.split_law.proofs.accepted_programs_share_nothing.Goals as goal

pub returns : goal.returns
returns c = accepted_shares_nothing
