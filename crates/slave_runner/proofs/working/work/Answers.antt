use Rattle.std.proofs.Common.{◌≡◌, Err, rules}
use Rattle.pair_meaning.specs.SlaveRun.{slave_of}
use Rattle.pair_runner.proofs.Causes.{cause_after}
use Rattle.slave_runner.proofs.working.work.Goals as goal

pub returns-in_err-slave-clause-err : goal.returns-in_err-slave-clause-err
returns-in_err-slave-clause-err g c =
    let is : c.from_residual.result ≡ Err c.in_err-slave.field-0.0 = search rules in
    rw is c.in_err-slave.ensures.err

pub returns-in_err-run-clause-err : goal.returns-in_err-run-clause-err
returns-in_err-run-clause-err g c =
    let is : c.from_residual-in_err-run.result ≡ Err c.in_err-run.field-0.0 = search rules in
    let begun = c.in_ok-slave.ensures.ok in
    rw is (c.in_err-run.ensures.err c.args.link.now begun.0 (slave_of begun.0) begun.1 begun.2)

pub returns-in_err-run-clause-cause : goal.returns-in_err-run-clause-cause
returns-in_err-run-clause-cause g c =
    let is : c.from_residual-in_err-run.result ≡ Err c.in_err-run.field-0.0 = search rules in
    rw is (cause_after _ _ _ _ _ _ c.in_ok-slave.ensures.cause.stays c.in_err-run.ensures.cause)

pub returns-clause-ok : goal.returns-clause-ok
returns-clause-ok g c =
    let begun = c.in_ok-slave.ensures.ok in
    c.in_ok-run.ensures.ok c.args.link.now begun.0 (slave_of begun.0) begun.1 begun.2
