use Rattle.std.proofs.Common.{◌≡◌, Err, rules}
use Rattle.c_parser.proofs.Steps.{built}
use Rattle.c_parser.proofs.built.block_end.Goals as goal

pub returns-in_err-next-clause-parses : goal.returns-in_err-next-clause-parses
returns-in_err-next-clause-parses c = λ depth. let is : c.from_residual.result ≡ Err c.in_err-next.field-0.0 = search rules in rw is (record { from = λ o e rest parts. (c.in_err-next.ensures.expects depth).from o e _ _ })

pub returns-clause-parses : goal.returns-clause-parses
returns-clause-parses c = λ depth. record { from = λ rest parts o k. (c.in_ok-next.ensures.expects depth).from _ _ _ (built _ _ _ _ _ _ _ _ _ (search rules) (k)) }
