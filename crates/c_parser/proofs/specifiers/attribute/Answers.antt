use Rattle.std.proofs.Common.{◌≡◌, Err, rules, sym}
use Rattle.c_parser.proofs.Steps.{built, same_top}
use Rattle.c_grammar.specs.Part as q
use Rattle.c_parser.proofs.specifiers.attribute.Goals as goal

pub returns-in_err-after-clause-parses : goal.returns-in_err-after-clause-parses
returns-in_err-after-clause-parses c = λ depth. let is : c.from_residual-in_err-after.result ≡ Err c.in_err-after.field-0.0 = search rules in rw is (record { from = λ o e rest parts. c.in_ok-begin.ensures.from _ _ _ _ ((c.in_err-after.ensures.expects depth).from o e _ _) })

pub returns-in_err-outer-clause-parses : goal.returns-in_err-outer-clause-parses
returns-in_err-outer-clause-parses c = λ depth. let is : c.from_residual-in_err-outer.result ≡ Err c.in_err-outer.field-0.0 = search rules in rw is (record { from = λ o e rest parts. c.in_ok-begin.ensures.from _ _ _ _ ((c.in_ok-after.ensures.expects depth).from _ _ _ ((c.in_err-outer.ensures.expects depth).from o e _ _)) })

pub returns-in_err-inner-clause-parses : goal.returns-in_err-inner-clause-parses
returns-in_err-inner-clause-parses c = λ depth. let is : c.from_residual-in_err-inner.result ≡ Err c.in_err-inner.field-0.0 = search rules in rw is (record { from = λ o e rest parts. c.in_ok-begin.ensures.from _ _ _ _ ((c.in_ok-after.ensures.expects depth).from _ _ _ ((c.in_ok-outer.ensures.expects depth).from _ _ _ ((c.in_err-inner.ensures.expects depth).from o e _ _))) })

pub returns-in_err-first-clause-parses : goal.returns-in_err-first-clause-parses
returns-in_err-first-clause-parses c = λ depth. let is : c.from_residual-in_err-first.result ≡ Err c.in_err-first.field-0.0 = search rules in rw is (record { from = λ o e rest parts. c.in_ok-begin.ensures.from _ _ _ _ ((c.in_ok-after.ensures.expects depth).from _ _ _ ((c.in_ok-outer.ensures.expects depth).from _ _ _ ((c.in_ok-inner.ensures.expects depth).from _ _ _ ((c.in_err-first.ensures.word depth).from o e _ _)))) })

pub returns-in_err-all-clause-parses : goal.returns-in_err-all-clause-parses
returns-in_err-all-clause-parses c = λ depth. let is : c.from_residual-in_err-all.result ≡ Err c.in_err-all.field-0.0 = search rules in rw is (record { from = λ o e rest parts. c.in_ok-begin.ensures.from _ _ _ _ ((c.in_ok-after.ensures.expects depth).from _ _ _ ((c.in_ok-outer.ensures.expects depth).from _ _ _ ((c.in_ok-inner.ensures.expects depth).from _ _ _ ((c.in_ok-first.ensures.word depth).from _ _ _ (built _ _ _ _ _ _ _ _ _ (same_top q.names _ _ _ (sym c.in_ok-names.ensures)) ((c.in_err-all.ensures.parses depth).from o e _ _)))))) })

pub returns-in_err-closed-clause-parses : goal.returns-in_err-closed-clause-parses
returns-in_err-closed-clause-parses c = λ depth. let is : c.from_residual-in_err-closed.result ≡ Err c.in_err-closed.field-0.0 = search rules in rw is (record { from = λ o e rest parts. c.in_ok-begin.ensures.from _ _ _ _ ((c.in_ok-after.ensures.expects depth).from _ _ _ ((c.in_ok-outer.ensures.expects depth).from _ _ _ ((c.in_ok-inner.ensures.expects depth).from _ _ _ ((c.in_ok-first.ensures.word depth).from _ _ _ (built _ _ _ _ _ _ _ _ _ (same_top q.names _ _ _ (sym c.in_ok-names.ensures)) ((c.in_ok-all.ensures.parses depth).from _ _ _ ((c.in_err-closed.ensures.expects depth).from o e _ _))))))) })

pub returns-in_err-next-clause-parses : goal.returns-in_err-next-clause-parses
returns-in_err-next-clause-parses c = λ depth. let is : c.from_residual-in_err-next.result ≡ Err c.in_err-next.field-0.0 = search rules in rw is (record { from = λ o e rest parts. c.in_ok-begin.ensures.from _ _ _ _ ((c.in_ok-after.ensures.expects depth).from _ _ _ ((c.in_ok-outer.ensures.expects depth).from _ _ _ ((c.in_ok-inner.ensures.expects depth).from _ _ _ ((c.in_ok-first.ensures.word depth).from _ _ _ (built _ _ _ _ _ _ _ _ _ (same_top q.names _ _ _ (sym c.in_ok-names.ensures)) ((c.in_ok-all.ensures.parses depth).from _ _ _ ((c.in_ok-closed.ensures.expects depth).from _ _ _ ((c.in_err-next.ensures.expects depth).from o e _ _)))))))) })

pub returns-clause-parses : goal.returns-clause-parses
returns-clause-parses c = λ depth. record { from = λ rest parts o k. c.in_ok-begin.ensures.from _ _ _ _ ((c.in_ok-after.ensures.expects depth).from _ _ _ ((c.in_ok-outer.ensures.expects depth).from _ _ _ ((c.in_ok-inner.ensures.expects depth).from _ _ _ ((c.in_ok-first.ensures.word depth).from _ _ _ (built _ _ _ _ _ _ _ _ _ (same_top q.names _ _ _ (sym c.in_ok-names.ensures)) ((c.in_ok-all.ensures.parses depth).from _ _ _ ((c.in_ok-closed.ensures.expects depth).from _ _ _ ((c.in_ok-next.ensures.expects depth).from _ _ _ (built _ _ _ _ _ _ _ _ _ (search rules) (k)))))))))) }
