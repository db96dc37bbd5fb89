use Rattle.std.proofs.Common.{◌∙◌}
use Rattle.boot_rules.proofs.FunctionLemmas.{all_params, other_count}
use Rattle.boot_rules.proofs.functions.has_params.Goals as goal

pub returns-then-count-params : goal.returns-then-count-params
returns-then-count-params c = other_count c.args.params.now c.args.vars.now c.args.count c.if-count-params.true

pub returns : goal.returns
returns c = c.params_lead.ensures ∙ all_params c.args.params.now c.args.vars.now c.args.count c.if-count-params.false
