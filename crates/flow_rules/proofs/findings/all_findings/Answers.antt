use Rattle.flow_rules.specs.Findings.{findings_of}
use Rattle.flow_rules.proofs.FindingLemmas.{four_kept}
use Rattle.flow_rules.proofs.findings.all_findings.Goals as goal

pub returns : goal.returns
unfolding findings_of
returns c =
    four_kept c.new-list.result.items _ _ _ _ _ _ _ _ c.new-list.ensures.items c.in_ok-add_slave.ensures c.in_ok-add_monitor.ensures c.in_ok-add_globals.ensures c.in_ok-add_functions.ensures
