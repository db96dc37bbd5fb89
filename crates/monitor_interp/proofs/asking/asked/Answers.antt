use Rattle.std.proofs.Common.{ap, sym}
use Rattle.std.specs.Prelude.{is_some}
use Rattle.host_table.specs.Hosts.{hosts_of}
use Rattle.monitor_interp.proofs.GateLemmas.{asked_is, called_absent}
use Rattle.monitor_interp.proofs.asking.asked.Goals as goal

pub returns-in_ok-answer-in-Some : goal.returns-in_ok-answer-in-Some
returns-in_ok-answer-in-Some c =
    asked_is (hosts_of c.args.hosts.now) _ c.args.written.now.items _ c.args.marks.now c.args.f.0 c.args.args.now _ (ap is_some (sym c.in-Some.ensures)) c.in_ok-answer-in-Some.ensures.result c.in_ok-answer-in-Some.ensures.out c.in_ok-answer-in-Some.ensures.hosts

pub returns-in-None : goal.returns-in-None
returns-in-None c = called_absent (hosts_of c.args.hosts.now) c.args.written.now.items c.args.marks.now c.args.f.0 c.args.args.now (ap is_some (sym c.in-None.ensures))
