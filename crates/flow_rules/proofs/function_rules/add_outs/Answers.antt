use Rattle.std.proofs.Common.{◌∙◌, sym}
use Rattle.flow_rules.proofs.ObjectLemmas.{next_out, nothing_more, outs_end}
use Rattle.flow_rules.proofs.function_rules.add_outs.Goals as goal

pub returns-in_default : goal.returns-in_default
returns-in_default c = nothing_more c.loop-number.list.items _ _ (outs_end _ c.args.vars.now c.loop-number.number (sym c.in_default.is ∙ c.span_at.ensures)) c.loop-number.invariant

pub loop-number-preserved : goal.loop-number-preserved
loop-number-preserved c =
    next_out c.args.params.now c.args.vars.now c.loop-number.number _ c.in-Some.span _ c.loop-number.list.items _ _ c.loop-number-test.true
    c.is_unmarked_out-wrong.ensures c.in-Some.ensures c.in_ok-add_if.ensures c.loop-number.invariant
