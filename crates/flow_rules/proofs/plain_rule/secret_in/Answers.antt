-- The question is answered from what was asked before, or its answer is learned.
use Rattle.flow_rules.specs.FlowsView.{view_flows}
use Rattle.flow_rules.proofs.MemoLemmas.{answers_type, type_answers, was_known, was_new}
use Rattle.flow_rules.proofs.plain_rule.secret_in.Goals as goal

pub returns-in-Some-clause-secret : goal.returns-in-Some-clause-secret
returns-in-Some-clause-secret c =
    answers_type (view_flows c.args.flows.now) c.args.asked c.args.ty _ c.requires.named
    (was_known _ c.in-Some.answer c.args.memo.now c.answer.new.self c.args.asked (view_flows c.args.flows.now) c.in-Some.is c.in_ok-known.ensures.known c.requires.memo).0

pub returns-in-Some-clause-memo : goal.returns-in-Some-clause-memo
returns-in-Some-clause-memo c =
    (was_known _ c.in-Some.answer c.args.memo.now c.answer.new.self c.args.asked (view_flows c.args.flows.now) c.in-Some.is c.in_ok-known.ensures.known c.requires.memo).1

pub returns-clause-memo : goal.returns-clause-memo
returns-clause-memo c =
    c.in_ok-learn.ensures (view_flows c.args.flows.now) c.args.asked
    (was_new _ c.answer.new.self c.args.asked (view_flows c.args.flows.now) c.in_default.is (c.in_ok-known.ensures.new (view_flows c.args.flows.now) c.requires.memo))
    (type_answers (view_flows c.args.flows.now) c.args.asked c.args.ty _ c.requires.named c.in_ok-secret.ensures)
