use Rattle.flow_rules.proofs.FindingLemmas.{two_kept}
use Rattle.flow_rules.proofs.function_rules.add_function.Goals as goal

pub returns : goal.returns
returns c = two_kept c.args.list.now.items _ _ _ _ c.in_ok-add_unmarked_outs.ensures c.in_ok-add_main.ensures
