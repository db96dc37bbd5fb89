use Rattle.std.proofs.Common.{subst, sym}
use Rattle.serving_rules.specs.Permitting.{Permits, permission}
use Rattle.monitor_interp.specs.Handling.{Acts}
use Rattle.monitor_interp.specs.Standing.{Stands}
use Rattle.monitor_interp.proofs.CallLemmas.{few_calls, granted_so, refused_so}
use Rattle.monitor_interp.proofs.calls.serve_opened.Goals as goal

pub permit-requires : goal.permit-requires
permit-requires c = few_calls c.args.program.now c.args.state.now c.requires.0 c.requires.2.stands

pub serve_granted-requires : goal.serve_granted-requires
serve_granted-requires c =
    let made = granted_so c.args.program.now c.args.state.now c.args.call c.args.asked c.args.inputs c.args.left c.requires.0 c.requires.1 c.permit.new.policy c.in-Granted.calls c.requires.2 (subst (λ p. Permits p c.args.state.now.policy c.permit.new.policy (permission c.args.state.now.policy c.args.state.now.calls c.args.call.function.0 c.args.asked.signature.now c.args.call.body.now)) c.in-Granted.is c.in_ok-calls.ensures) in
    (c.requires.0, made.made, made.ready)

pub returns-in-Granted : goal.returns-in-Granted
returns-in-Granted c m x a ready said =
    let made = granted_so c.args.program.now c.args.state.now c.args.call c.args.asked c.args.inputs c.args.left m a c.permit.new.policy c.in-Granted.calls ready (subst (λ p. Permits p c.args.state.now.policy c.permit.new.policy (permission c.args.state.now.policy c.args.state.now.calls c.args.call.function.0 c.args.asked.signature.now c.args.call.body.now)) c.in-Granted.is c.in_ok-calls.ensures) in
    subst (λ v. Acts (Stands c.args.program.now c.serve_granted.new.state) m x c.args.left v c.in_ok-handled-in-Granted.handled c.args.out.now.items c.serve_granted.new.out.items) (sym made.verdict) (c.in_ok-handled-in-Granted.ensures m x made.made made.ready said)

pub returns : goal.returns
returns c m x a ready said =
    refused_so c.args.program.now c.args.state.now c.args.call c.args.asked c.args.inputs c.args.left m x a c.permit.new.policy c.in-Refused.end c.args.out.now.items ready (subst (λ p. Permits p c.args.state.now.policy c.permit.new.policy (permission c.args.state.now.policy c.args.state.now.calls c.args.call.function.0 c.args.asked.signature.now c.args.call.body.now)) c.in-Refused.is c.in_ok-calls.ensures)
