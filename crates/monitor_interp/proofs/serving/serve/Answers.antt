use Rattle.monitor_interp.proofs.MessageLemmas.{early_acts, no_early}
use Rattle.monitor_interp.proofs.serving.serve.Goals as goal

pub returns-in-Some : goal.returns-in-Some
returns-in-Some c m stands = early_acts c.args.program.now c.args.state.now m c.args.message.now c.in-Some.rule c.args.out.now.items stands c.in-Some.ensures

pub returns-in_ok-handled-in-None : goal.returns-in_ok-handled-in-None
returns-in_ok-handled-in-None c m stands = c.in_ok-handled-in-None.ensures m stands (no_early c.args.program.now c.args.state.now m c.args.message.now stands c.in-None.ensures)
