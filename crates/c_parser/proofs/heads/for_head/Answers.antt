use Rattle.std.proofs.Common.{◌≡◌, Err, rules}
use Rattle.c_parser.proofs.heads.for_head.Goals as goal

pub returns-in_err-word-clause-parses : goal.returns-in_err-word-clause-parses
returns-in_err-word-clause-parses c = let is : c.from_residual.result ≡ Err c.in_err-word.field-0.0 = search rules in rw is (record { from = λ o e rest parts. (c.in_err-word.ensures.expects c.args.depth).from o e _ _ })

pub returns-in_err-inside-clause-parses : goal.returns-in_err-inside-clause-parses
returns-in_err-inside-clause-parses c = let is : c.from_residual-in_err-inside.result ≡ Err c.in_err-inside.field-0.0 = search rules in rw is (record { from = λ o e rest parts. (c.in_ok-word.ensures.expects c.args.depth).from _ _ _ ((c.in_err-inside.ensures.expects c.args.depth).from o e _ _) })

pub returns-in_err-init-clause-parses : goal.returns-in_err-init-clause-parses
returns-in_err-init-clause-parses c = let is : c.from_residual-in_err-init.result ≡ Err c.in_err-init.field-0.0 = search rules in rw is (record { from = λ o e rest parts. (c.in_ok-word.ensures.expects c.args.depth).from _ _ _ ((c.in_ok-inside.ensures.expects c.args.depth).from _ _ _ (c.in_err-init.ensures.parses.from o e _ _)) })

pub returns-in_err-controls-clause-parses : goal.returns-in_err-controls-clause-parses
returns-in_err-controls-clause-parses c = let is : c.from_residual-in_err-controls.result ≡ Err c.in_err-controls.field-0.0 = search rules in rw is (record { from = λ o e rest parts. (c.in_ok-word.ensures.expects c.args.depth).from _ _ _ ((c.in_ok-inside.ensures.expects c.args.depth).from _ _ _ (c.in_ok-init.ensures.parses.from _ _ _ (c.in_err-controls.ensures.parses.from o e _ _))) })

pub returns-clause-parses : goal.returns-clause-parses
returns-clause-parses c = record { from = λ rest parts o k. (c.in_ok-word.ensures.expects c.args.depth).from _ _ _ ((c.in_ok-inside.ensures.expects c.args.depth).from _ _ _ (c.in_ok-init.ensures.parses.from _ _ _ (c.in_ok-controls.ensures.parses.from _ _ _ (k)))) }
