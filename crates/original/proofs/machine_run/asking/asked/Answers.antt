use Rattle.std.proofs.Common.{arith}
use Rattle.host_table.specs.Hosts.{hosts_of}
use Rattle.original.proofs.MachineRunGateLemmas.{asked_is, called_past}
use Rattle.original.proofs.machine_run.asking.asked.Goals as goal

pub returns-then-past : goal.returns-then-past
returns-then-past c = called_past (hosts_of c.args.hosts.now) c.args.written.now.items c.args.is_host.now c.args.f.0 c.args.args.now (grind arith)

pub returns : goal.returns
returns c = asked_is (hosts_of c.args.hosts.now) _ c.args.written.now.items _ c.args.is_host.now c.args.f.0 c.args.args.now _ (grind arith) c.in_ok-answer.ensures.result c.in_ok-answer.ensures.out c.in_ok-answer.ensures.hosts
