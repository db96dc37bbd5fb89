use Rattle.std.proofs.Common.{◌≡◌, Err, rules}
use Rattle.c_parser.proofs.Steps.{built}
use Rattle.c_parser.proofs.postfixes.arrow.Goals as goal

pub returns-in_err-after-clause-parses : goal.returns-in_err-after-clause-parses
returns-in_err-after-clause-parses c = let is : c.from_residual.result ≡ Err c.in_err-after.field-0.0 = search rules in rw is (λ ps. record { from = λ o e rest parts. (c.in_err-after.ensures.expects c.args.depth).from o e _ _ })

pub returns-in_err-name-clause-parses : goal.returns-in_err-name-clause-parses
returns-in_err-name-clause-parses c = let is : c.from_residual-in_err-name.result ≡ Err c.in_err-name.field-0.0 = search rules in rw is (λ ps. record { from = λ o e rest parts. (c.in_ok-after.ensures.expects c.args.depth).from _ _ _ ((c.in_err-name.ensures.word c.args.depth).from o e _ _) })

pub returns-clause-parses : goal.returns-clause-parses
returns-clause-parses c = record { from = λ ps rest parts o k. (c.in_ok-after.ensures.expects c.args.depth).from _ _ _ ((c.in_ok-name.ensures.word c.args.depth).from _ _ _ (built _ _ _ _ _ _ _ _ _ (search rules) (k))) }
