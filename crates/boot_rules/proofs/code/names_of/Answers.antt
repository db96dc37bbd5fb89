use Rattle.boot_rules.proofs.CodeLemmas.{ordered_lists}
use Rattle.boot_rules.proofs.code.names_of.Goals as goal

pub returns-clause-ordered : goal.returns-clause-ordered
returns-clause-ordered c = ordered_lists c.args.candidate.now.boot.now _ _ c.as_slice-2.ensures c.as_slice-3.ensures c.args.candidate.now.in_order
