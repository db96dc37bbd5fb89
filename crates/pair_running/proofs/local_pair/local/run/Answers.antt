use Rattle.std.proofs.Common.{◌≡◌, Err, rules}
use Rattle.stages.specs.declared.refusal.Stop.TheVariants.{Memory}
use Rattle.pair_texts.specs.Seen.{texts_with}
use Rattle.pair_running.proofs.LocalPairBeginning.{none_run}
use Rattle.pair_running.proofs.local_pair.local.run.Goals as goal

pub returns-in_err-pair-clause-outcome : goal.returns-in_err-pair-clause-outcome
returns-in_err-pair-clause-outcome g c =
    let is : c.from_residual.result ≡ Err c.in_err-pair.field-0.0 = search rules in
    rw is c.in_err-pair.ensures

pub returns-in_err-pair-clause-whole : goal.returns-in_err-pair-clause-whole
returns-in_err-pair-clause-whole g c =
    let is : c.from_residual.result ≡ Err c.in_err-pair.field-0.0 = search rules in
    rw is (none_run (texts_with c.args.program.now c.args.beside) c.args.beside.turns c.args.window (g.C.Chooser.answers c.args.chooser.now) c.in_err-pair.field-0.0)

pub run_pair-requires-clause-texts : goal.run_pair-requires-clause-texts
run_pair-requires-clause-texts g c = (texts_with c.args.program.now c.args.beside, record { begins = c.in_ok-pair.ensures; bytes = c.are_bytes.ensures })

pub returns-in_err-ran-clause-outcome : goal.returns-in_err-ran-clause-outcome
returns-in_err-ran-clause-outcome g c =
    let is : c.from_residual-in_err-ran.result ≡ Err Memory = search rules in
    rw is (tt {0})

pub returns-in_err-ran-clause-whole : goal.returns-in_err-ran-clause-whole
returns-in_err-ran-clause-whole g c =
    let is : c.from_residual-in_err-ran.result ≡ Err Memory = search rules in
    rw is (tt {0})

pub returns-clause-outcome : goal.returns-clause-outcome
returns-clause-outcome g c = c.in_ok-ran.ensures.outcome (texts_with c.args.program.now c.args.beside) (record { begins = c.in_ok-pair.ensures; bytes = c.are_bytes.ensures })

pub returns-clause-whole : goal.returns-clause-whole
returns-clause-whole g c = c.in_ok-ran.ensures.whole (texts_with c.args.program.now c.args.beside) (record { begins = c.in_ok-pair.ensures; bytes = c.are_bytes.ensures })
