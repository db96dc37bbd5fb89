use Rattle.std.proofs.Common.{◌≡◌, ◌∙◌, Err, rules}
use Rattle.stages.specs.declared.refusal.Stop.TheVariants.{Memory}
use Rattle.pair_running.specs.LocalPairOutcomeSeen.{view_ran}
use Rattle.pair_running.proofs.GeneratedPairOutcomes.{none_taken, run_told, stop_told, texts_are, whole_told}
use Rattle.pair_running.proofs.generated_pair.pair.run.Goals as goal

pub returns-in_err-ran-clause-outcome : goal.returns-in_err-ran-clause-outcome
returns-in_err-ran-clause-outcome g c =
    let made = c.in_ok-made.ensures in
    let program = c.as_slice-program.ensures.value ∙ made.program in
    let texts = texts_are c.args.seed c.args.functions _ _ _ program (c.deref.ensures.value ∙ made.host) (c.deref-2.ensures.value ∙ made.policy) in
    let is : c.from_residual-in_err-ran.result ≡ Err c.in_err-ran.field-0.0 = search rules in
    rw is (stop_told _ c.args.seed c.args.functions c.in_err-ran.field-0.0 texts c.in_err-ran.ensures.outcome)

pub returns-in_err-ran-clause-whole : goal.returns-in_err-ran-clause-whole
returns-in_err-ran-clause-whole g c =
    let made = c.in_ok-made.ensures in
    let program = c.as_slice-program.ensures.value ∙ made.program in
    let texts = texts_are c.args.seed c.args.functions _ _ _ program (c.deref.ensures.value ∙ made.host) (c.deref-2.ensures.value ∙ made.policy) in
    let is : c.from_residual-in_err-ran.result ≡ Err c.in_err-ran.field-0.0 = search rules in
    rw is (none_taken _ c.args.seed c.args.functions _ _ c.in_err-ran.field-0.0 texts c.in_err-ran.ensures.whole)

pub returns-in_err-written-clause-outcome : goal.returns-in_err-written-clause-outcome
returns-in_err-written-clause-outcome g c =
    let is : c.from_residual-in_err-written.result ≡ Err Memory = search rules in
    rw is (tt {0})

pub returns-in_err-written-clause-whole : goal.returns-in_err-written-clause-whole
returns-in_err-written-clause-whole g c =
    let is : c.from_residual-in_err-written.result ≡ Err Memory = search rules in
    rw is (tt {0})

pub returns-clause-outcome : goal.returns-clause-outcome
returns-clause-outcome g c =
    let made = c.in_ok-made.ensures in
    let program = c.as_slice-program.ensures.value ∙ made.program in
    let texts = texts_are c.args.seed c.args.functions _ _ _ program (c.deref.ensures.value ∙ made.host) (c.deref-2.ensures.value ∙ made.policy) in
    run_told _ c.args.seed c.args.functions (view_ran c.in_ok-ran.ran) _ _ _ texts program c.deref-3.ensures.value c.in_ok-written.ensures c.in_ok-ran.ensures.outcome

pub returns-clause-whole : goal.returns-clause-whole
returns-clause-whole g c =
    let made = c.in_ok-made.ensures in
    let program = c.as_slice-program.ensures.value ∙ made.program in
    let texts = texts_are c.args.seed c.args.functions _ _ _ program (c.deref.ensures.value ∙ made.host) (c.deref-2.ensures.value ∙ made.policy) in
    whole_told _ c.args.seed c.args.functions _ _ _ _ c.in_ok-ran.ran.end _ _ texts program c.deref-3.ensures.value c.in_ok-written.ensures c.in_ok-ran.ensures.whole
