use Rattle.std.proofs.Common.{◌≡◌, Err, Option, arith, rules, subst}
use Rattle.wire.specs.declared.message.Message.{Message}
use Rattle.slave_interp.specs.Slaves.{HasRun, IsSlave}
use Rattle.pair_runner.specs.Sending.{Parts, Talks}
use Rattle.pair_runner.proofs.Moving.{talks_none}
use Rattle.slave_runner.specs.declared.fault.WorkFault.TheVariants.{Memory}
use Rattle.slave_runner.proofs.SayLemmas.{broke_first, broke_on, went_on, went_silently}
use Rattle.slave_runner.proofs.TurnLemmas.{speaks_within}
use Rattle.slave_runner.proofs.LinkLemmas.{idle}
use Rattle.slave_runner.proofs.saying.go_on.Goals as goal

pub returns-in_err-said-clause-err : goal.returns-in_err-said-clause-err
returns-in_err-said-clause-err g c =
    let is : c.from_residual.result ≡ Err Memory = search rules in
    rw is (λ x at. broke_first (Parts g.L.Link.sent g.L.Link.given c.args.link.now c.args.link.now _) x c.args.waiting.now.items (λ bytes. (idle g.L.Link.sent g.L.Link.given c.args.link.now bytes)))

pub returns-in_default-clause-ok : goal.returns-in_default-clause-ok
returns-in_default-clause-ok g c = λ x at.
    went_silently (Talks g.L.Link.came g.L.Link.sent g.L.Link.given c.args.link.now c.args.link.now) c.run.new.self c.in_ok-said.field-0.made 18_446_744_073_709_551_615 x c.args.waiting.now.items
    (subst (λ (o : Option Message). HasRun c.in_ok-said.field-0.made 18_446_744_073_709_551_615 x o c.run.new.self) c.in_default.is (c.in_ok-said.ensures x at)) (omega arith) (talks_none g.L.Link.came g.L.Link.sent g.L.Link.given g.met.L.Link.same c.args.link.now)

pub returns-in_err-gather-clause-err : goal.returns-in_err-gather-clause-err
returns-in_err-gather-clause-err g c =
    let is : c.from_residual-in_err-gather.result ≡ Err c.in_err-gather.field-0.0 = search rules in
    rw is (λ x at. broke_on (Parts g.L.Link.sent g.L.Link.given c.args.link.now c.gather.new.link _) c.run.new.self c.in_ok-said.field-0.made 18_446_744_073_709_551_615 x c.in-Some.message c.args.waiting.now.items c.in_err-gather.field-0.0
    (subst (λ (o : Option Message). HasRun c.in_ok-said.field-0.made 18_446_744_073_709_551_615 x o c.run.new.self) c.in-Some.is (c.in_ok-said.ensures x at)) c.in_err-gather.ensures.err)

pub returns-clause-ok : goal.returns-clause-ok
returns-clause-ok g c = λ x at.
    went_on (Talks g.L.Link.came g.L.Link.sent g.L.Link.given c.args.link.now c.gather.new.link) c.run.new.self c.in_ok-said.field-0.made 18_446_744_073_709_551_615 x c.in-Some.message c.args.waiting.now.items c.gather.new.waiting.items
    (subst (λ (o : Option Message). HasRun c.in_ok-said.field-0.made 18_446_744_073_709_551_615 x o c.run.new.self) c.in-Some.is (c.in_ok-said.ensures x at)) (omega arith) c.in_ok-gather.ensures.ok

pub gather-requires-clause-keeps : goal.gather-requires-clause-keeps
gather-requires-clause-keeps g c =
    let ran = subst (λ (o : Option Message). HasRun c.in_ok-said.field-0.made 18_446_744_073_709_551_615 c.requires.speaks.slave o c.run.new.self) c.in-Some.is (c.in_ok-said.ensures c.requires.speaks.slave c.requires.speaks.there) in
    speaks_within (IsSlave c.args.slave.now) c.requires.speaks c.in_ok-said.field-0.made ran.to c.in-Some.message ran.came_to
