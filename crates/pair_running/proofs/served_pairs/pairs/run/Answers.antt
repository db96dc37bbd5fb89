use Rattle.std.proofs.Common.{◌≡◌, Err, rules}
use Rattle.stages.specs.declared.refusal.Stop.TheVariants.{Memory}
use Rattle.pair_texts.specs.Several.{shared_with}
use Rattle.pair_running.proofs.ServedPairsBeginning.{none_turned}
use Rattle.pair_running.proofs.served_pairs.pairs.run.Goals as goal

pub returns-in_err-shared-clause-outcome : goal.returns-in_err-shared-clause-outcome
returns-in_err-shared-clause-outcome g c =
    let is : c.from_residual.result ≡ Err c.in_err-shared.field-0.0 = search rules in
    rw is c.in_err-shared.ensures.stop

pub returns-in_err-shared-clause-whole : goal.returns-in_err-shared-clause-whole
returns-in_err-shared-clause-whole g c =
    let is : c.from_residual.result ≡ Err c.in_err-shared.field-0.0 = search rules in
    rw is (none_turned (shared_with c.args.given) c.args.all.now c.args.turns (g.C.Chooser.answers c.args.chooser.now) c.in_err-shared.field-0.0)

pub served-requires-clause-texts : goal.served-requires-clause-texts
served-requires-clause-texts g c = (shared_with c.args.given, record { shared = c.in_ok-shared.ensures.shared; short = c.in_ok-shared.ensures.short; bytes = c.of_bytes.ensures })

pub returns-in_err-served-clause-outcome : goal.returns-in_err-served-clause-outcome
returns-in_err-served-clause-outcome g c =
    let is : c.from_residual-in_err-served.result ≡ Err Memory = search rules in
    rw is (tt {0})

pub returns-in_err-served-clause-whole : goal.returns-in_err-served-clause-whole
returns-in_err-served-clause-whole g c =
    let is : c.from_residual-in_err-served.result ≡ Err Memory = search rules in
    rw is (tt {0})

pub returns-clause-outcome : goal.returns-clause-outcome
returns-clause-outcome g c = c.in_ok-served.ensures.outcome (shared_with c.args.given) (record { shared = c.in_ok-shared.ensures.shared; short = c.in_ok-shared.ensures.short; bytes = c.of_bytes.ensures })

pub returns-clause-whole : goal.returns-clause-whole
returns-clause-whole g c = c.in_ok-served.ensures.whole (shared_with c.args.given) (record { shared = c.in_ok-shared.ensures.shared; short = c.in_ok-shared.ensures.short; bytes = c.of_bytes.ensures })
