use Rattle.std.proofs.Common.{ap, sym}
use Rattle.std.specs.Prelude.{is_some}
use Rattle.sessions.proofs.HubSeats.{rising, sits_at, sits_nowhere}
use Rattle.sessions.proofs.hub.Hub.is_open.Goals as goal

pub place-requires : goal.place-requires
place-requires c = rising c.args.self.now c.requires

pub returns-in-Some : goal.returns-in-Some
returns-in-Some c h is = sym (ap is_some (sits_at c.args.self.now h c.args.session c.in-Some.field-0 is c.in-Some.ensures).found)

pub returns-in-None : goal.returns-in-None
returns-in-None c h is = sym (ap is_some (sits_nowhere c.args.self.now h c.args.session is c.in-None.ensures))
