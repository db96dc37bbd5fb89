use Rattle.policy.proofs.LineLemmas.{line_cut, line_last}
use Rattle.policy.proofs.line.first_line.Goals as goal

pub returns-then-end-text-clause-lines : goal.returns-then-end-text-clause-lines
returns-then-end-text-clause-lines c = line_cut c.args.text.now c.line_length-end.result c.requires c.line_length-end.ensures.length

pub returns-else-end-text-clause-lines : goal.returns-else-end-text-clause-lines
returns-else-end-text-clause-lines c = line_last c.args.text.now c.line_length-end.result c.requires c.line_length-end.ensures.length c.if-end-text.false
