use Rattle.std.proofs.Common.{sym}
use Rattle.host_table.specs.Hosts.{hosts_of}
use Rattle.host_table.proofs.AnswerLemmas.{none_result, none_out, none_hosts, host_result, host_out, host_hosts, host_takes_none}
use Rattle.host_table.proofs.host.Host.answer.Goals as goal

pub returns-in-None-clause-result : goal.returns-in-None-clause-result
returns-in-None-clause-result c = none_result (hosts_of c.args.self.now) c.args.f.0 c.args.args.now (sym c.in-None.ensures)

pub returns-in-None-clause-out : goal.returns-in-None-clause-out
returns-in-None-clause-out c = none_out (hosts_of c.args.self.now) c.args.f.0 c.args.args.now c.args.out.now.items (sym c.in-None.ensures)

pub returns-in-None-clause-hosts : goal.returns-in-None-clause-hosts
returns-in-None-clause-hosts c = none_hosts (hosts_of c.args.self.now) c.args.f.0 c.args.args.now (sym c.in-None.ensures)
