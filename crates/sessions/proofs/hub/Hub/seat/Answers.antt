use Rattle.std.proofs.Common.{◌<◌, subst, sym}
use Rattle.std.specs.Prelude.{All}
use Rattle.host_table.specs.Hosts.{Hosts}
use Rattle.host_table.specs.RunHosts.{models_of}
use Rattle.pt_core.specs.CodeTree.{view_monitor}
use Rattle.monitor_soundness_law.specs.ServingSound.{HostsServe}
use Rattle.sessions.proofs.HubSeats.{begun_seat}
use Rattle.sessions.proofs.hub.Hub.seat.Goals as goal

-- a session has the hub's models, and its own input

pub new-requires-clause-well_formed : goal.new-requires-clause-well_formed
new-requires-clause-well_formed c = c.requires.1.well_formed

pub new-requires-clause-hosts : goal.new-requires-clause-hosts
new-requires-clause-hosts c =
    subst (λ (k : Hosts). HostsServe (view_monitor c.args.self.now.program) (models_of k.models)) (sym c.in_ok-host.ensures) c.requires.1.serve

pub new-requires-clause-bytes : goal.new-requires-clause-bytes
new-requires-clause-bytes c = subst (λ (k : Hosts). All (λ b. b < 256) k.input) (sym c.in_ok-host.ensures) c.are_bytes.ensures

pub returns : goal.returns
returns c h is = begun_seat c.args.self.now h c.args.input.now c.in_ok-host.host c.in_ok-policy.policy c.in_ok-seat.seat is c.in_ok-host.ensures c.in_ok-policy.ensures c.in_ok-seat.ensures
