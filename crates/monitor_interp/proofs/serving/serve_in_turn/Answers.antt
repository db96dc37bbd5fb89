use Rattle.monitor_interp.specs.Standing.{Stands}
use Rattle.monitor_interp.proofs.MessageLemmas.{left_is, rules_act, spent_acts}
use Rattle.monitor_interp.proofs.serving.serve_in_turn.Goals as goal

pub act-requires-clause-stands : goal.act-requires-clause-stands
act-requires-clause-stands c =
    let m = c.requires.stands.0 in
    let stands = c.requires.stands.1 in
    (m, stands, left_is c.args.program.now c.args.state.now m c.args.message.now c.in-Some.left stands c.in-Some.ensures)

pub returns-in_ok-handled-in-Some : goal.returns-in_ok-handled-in-Some
returns-in_ok-handled-in-Some c m stands early =
    let left = left_is c.args.program.now c.args.state.now m c.args.message.now c.in-Some.left stands c.in-Some.ensures in
    rules_act (Stands c.args.program.now c.act.new.state) m c.args.message.now c.in-Some.left c.in_ok-handled-in-Some.handled c.args.out.now.items c.act.new.out.items early left (c.in_ok-handled-in-Some.ensures m stands left)

pub returns-in-None : goal.returns-in-None
returns-in-None c m stands early = spent_acts c.args.program.now c.args.state.now m c.args.message.now c.args.out.now.items stands early c.in-None.ensures
