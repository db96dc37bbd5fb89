use Rattle.std.proofs.Common.{◌≡◌, Err, rules}
use Rattle.c_parser.proofs.heads.do_end.Goals as goal

pub returns-in_err-test-clause-parses : goal.returns-in_err-test-clause-parses
returns-in_err-test-clause-parses c = let is : c.from_residual.result ≡ Err c.in_err-test.field-0.0 = search rules in rw is (record { from = λ o e rest parts. c.in_err-test.ensures.parses.from o e _ _ })

pub returns-in_err-next-clause-parses : goal.returns-in_err-next-clause-parses
returns-in_err-next-clause-parses c = let is : c.from_residual-in_err-next.result ≡ Err c.in_err-next.field-0.0 = search rules in rw is (record { from = λ o e rest parts. c.in_ok-test.ensures.parses.from _ _ _ ((c.in_err-next.ensures.expects c.args.depth).from o e _ _) })

pub returns-clause-parses : goal.returns-clause-parses
returns-clause-parses c = record { from = λ rest parts o k. c.in_ok-test.ensures.parses.from _ _ _ ((c.in_ok-next.ensures.expects c.args.depth).from _ _ _ (k)) }
