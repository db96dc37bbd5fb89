use Rattle.std.proofs.Common.{◌≡◌, Err, rules, sym, map}
use Rattle.c_grammar.specs.Part as q
use Rattle.pt_tree.specs.StatementTree.{view_init_declarator}
use Rattle.c_parser.proofs.Steps.{built, same_top}
use Rattle.c_parser.proofs.program.external_tail.Goals as goal

pub returns-in_err-takes-clause-parses : goal.returns-in_err-takes-clause-parses
returns-in_err-takes-clause-parses c = let is : c.from_residual.result ≡ Err c.in_err-takes.field-0.0 = search rules in rw is (record { from = λ o e rest parts. (c.in_err-takes.ensures.fails c.args.depth).from o e _ _ })

pub returns-in_err-inside-clause-parses : goal.returns-in_err-inside-clause-parses
returns-in_err-inside-clause-parses c = let is : c.from_residual-in_err-inside.result ≡ Err c.in_err-inside.field-0.0 = search rules in rw is (record { from = λ o e rest parts. (c.in_ok-takes.ensures.goes.first c.if-takes.true).from _ _ _ _ ((c.in_err-inside.ensures.expects c.args.depth).from o e _ _) })

pub returns-in_err-params-clause-parses : goal.returns-in_err-params-clause-parses
returns-in_err-params-clause-parses c = let is : c.from_residual-in_err-params.result ≡ Err c.in_err-params.field-0.0 = search rules in rw is (record { from = λ o e rest parts. (c.in_ok-takes.ensures.goes.first c.if-takes.true).from _ _ _ _ ((c.in_ok-inside.ensures.expects c.args.depth).from _ _ _ (c.in_err-params.ensures.parses.from o e _ _)) })

pub returns-in_err-closed-clause-parses : goal.returns-in_err-closed-clause-parses
returns-in_err-closed-clause-parses c = let is : c.from_residual-in_err-closed.result ≡ Err c.in_err-closed.field-0.0 = search rules in rw is (record { from = λ o e rest parts. (c.in_ok-takes.ensures.goes.first c.if-takes.true).from _ _ _ _ ((c.in_ok-inside.ensures.expects c.args.depth).from _ _ _ (c.in_ok-params.ensures.parses.from _ _ _ ((c.in_err-closed.ensures.expects c.args.depth).from o e _ _))) })

pub returns-in_err-body-clause-parses : goal.returns-in_err-body-clause-parses
returns-in_err-body-clause-parses c = let is : c.from_residual-in_err-body.result ≡ Err c.in_err-body.field-0.0 = search rules in rw is (record { from = λ o e rest parts. (c.in_ok-takes.ensures.goes.first c.if-takes.true).from _ _ _ _ ((c.in_ok-inside.ensures.expects c.args.depth).from _ _ _ (c.in_ok-params.ensures.parses.from _ _ _ ((c.in_ok-closed.ensures.expects c.args.depth).from _ _ _ (c.in_err-body.ensures.parses.from o e _ _)))) })

pub returns-then-takes-clause-parses : goal.returns-then-takes-clause-parses
returns-then-takes-clause-parses c = record { from = λ rest parts o k. (c.in_ok-takes.ensures.goes.first c.if-takes.true).from _ _ _ _ ((c.in_ok-inside.ensures.expects c.args.depth).from _ _ _ (c.in_ok-params.ensures.parses.from _ _ _ ((c.in_ok-closed.ensures.expects c.args.depth).from _ _ _ (c.in_ok-body.ensures.parses.from _ _ _ (built _ _ _ _ _ _ _ _ _ (search rules) (k)))))) }

pub returns-in_err-init-clause-parses : goal.returns-in_err-init-clause-parses
returns-in_err-init-clause-parses c = let is : c.from_residual-in_err-init.result ≡ Err c.in_err-init.field-0.0 = search rules in rw is (record { from = λ o e rest parts. (c.in_ok-takes.ensures.goes.second c.if-takes.false).from _ _ _ _ (c.in_err-init.ensures.parses.from o e _ _) })

pub returns-in_err-all-clause-parses : goal.returns-in_err-all-clause-parses
returns-in_err-all-clause-parses c = let is : c.from_residual-in_err-all.result ≡ Err c.in_err-all.field-0.0 = search rules in rw is (record { from = λ o e rest parts. (c.in_ok-takes.ensures.goes.second c.if-takes.false).from _ _ _ _ (c.in_ok-init.ensures.parses.from _ _ _ (built _ _ _ _ _ _ _ _ _ (same_top (λ xs. q.init_declarators (map view_init_declarator xs)) _ _ _ (sym c.in_ok-objects.ensures)) (c.in_err-all.ensures.parses.from o e _ _))) })

pub returns-in_err-next-clause-parses : goal.returns-in_err-next-clause-parses
returns-in_err-next-clause-parses c = let is : c.from_residual-in_err-next.result ≡ Err c.in_err-next.field-0.0 = search rules in rw is (record { from = λ o e rest parts. (c.in_ok-takes.ensures.goes.second c.if-takes.false).from _ _ _ _ (c.in_ok-init.ensures.parses.from _ _ _ (built _ _ _ _ _ _ _ _ _ (same_top (λ xs. q.init_declarators (map view_init_declarator xs)) _ _ _ (sym c.in_ok-objects.ensures)) (c.in_ok-all.ensures.parses.from _ _ _ ((c.in_err-next.ensures.expects c.args.depth).from o e _ _)))) })

pub returns-clause-parses : goal.returns-clause-parses
returns-clause-parses c = record { from = λ rest parts o k. (c.in_ok-takes.ensures.goes.second c.if-takes.false).from _ _ _ _ (c.in_ok-init.ensures.parses.from _ _ _ (built _ _ _ _ _ _ _ _ _ (same_top (λ xs. q.init_declarators (map view_init_declarator xs)) _ _ _ (sym c.in_ok-objects.ensures)) (c.in_ok-all.ensures.parses.from _ _ _ ((c.in_ok-next.ensures.expects c.args.depth).from _ _ _ (k))))) }
