use Rattle.std.proofs.Common.{◌∙◌}
use Rattle.sessions.proofs.HubSeats.{full_as}
use Rattle.sessions.proofs.hub.Hub.is_full.Goals as goal

pub returns : goal.returns
returns c h is = full_as c.args.self.now h c.len.result is (c.len.ensures ∙ c.args.self.now.seats.ok.0)
