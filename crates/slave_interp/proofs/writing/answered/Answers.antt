use Rattle.host_table.specs.Hosts.{hosts_of}
use Rattle.slave_interp.proofs.HearingLemmas.{called_is, nothing_called}
use Rattle.slave_interp.proofs.writing.answered.Goals as goal

pub returns-in_ok-result-in-Some : goal.returns-in_ok-result-in-Some
returns-in_ok-result-in-Some c =
    let heard = c.in_ok-result-in-Some.field-0 in
    called_is (hosts_of c.args.hosts.now) (hosts_of c.called.new.hosts) c.args.signed.now.signatures c.args.wrote.now heard.wrote c.args.f.0 c.args.args.now heard.result c.in-Some.field-0.now c.in-Some.ensures
    c.in_ok-result-in-Some.ensures.result c.in_ok-result-in-Some.ensures.wrote c.in_ok-result-in-Some.ensures.hosts

pub returns-in-None : goal.returns-in-None
returns-in-None c = nothing_called (hosts_of c.args.hosts.now) c.args.signed.now.signatures c.args.wrote.now c.args.f.0 c.args.args.now c.in-None.ensures
