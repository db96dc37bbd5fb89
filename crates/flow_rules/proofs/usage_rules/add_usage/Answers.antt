-- What each rule finds, one after the other.
use Rattle.flow_rules.proofs.FindingLemmas.{five_kept}
use Rattle.flow_rules.proofs.usage_rules.add_usage.Goals as goal

pub returns-clause-found : goal.returns-clause-found
returns-clause-found c =
    five_kept c.args.list.now.items _ _ _ _ _ _ _ _ _ _ c.in_ok-add_operated.ensures c.in_ok-add_changed.ensures c.in_ok-add_to_host.ensures c.in_ok-add_to_plain.ensures.found c.in_ok-add_status.ensures
