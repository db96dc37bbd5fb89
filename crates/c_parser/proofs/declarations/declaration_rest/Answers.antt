use Rattle.std.proofs.Common.{◌≡◌, Err, rules, sym, map}
use Rattle.c_grammar.specs.Part as q
use Rattle.pt_tree.specs.StatementTree.{view_init_declarator}
use Rattle.c_parser.proofs.Steps.{built, same_top}
use Rattle.c_parser.proofs.declarations.declaration_rest.Goals as goal

pub returns-in_err-ends-clause-parses : goal.returns-in_err-ends-clause-parses
returns-in_err-ends-clause-parses c = let is : c.from_residual.result ≡ Err c.in_err-ends.field-0.0 = search rules in rw is (record { from = λ o e rest parts. (c.in_err-ends.ensures.fails c.args.depth).from o e _ _ })

pub returns-in_err-end-clause-parses : goal.returns-in_err-end-clause-parses
returns-in_err-end-clause-parses c = let is : c.from_residual-in_err-end.result ≡ Err c.in_err-end.field-0.0 = search rules in rw is (record { from = λ o e rest parts. (c.in_ok-ends.ensures.goes.first c.if-ends.true).from _ _ _ _ ((c.in_err-end.ensures.expects c.args.depth).from o e _ _) })

pub returns-then-ends-clause-parses : goal.returns-then-ends-clause-parses
returns-then-ends-clause-parses c = record { from = λ rest parts o k. (c.in_ok-ends.ensures.goes.first c.if-ends.true).from _ _ _ _ ((c.in_ok-end.ensures.expects c.args.depth).from _ _ _ (built _ _ _ _ _ _ _ _ _ (search rules) (k))) }

pub returns-in_err-first-clause-parses : goal.returns-in_err-first-clause-parses
returns-in_err-first-clause-parses c = let is : c.from_residual-in_err-first.result ≡ Err c.in_err-first.field-0.0 = search rules in rw is (record { from = λ o e rest parts. (c.in_ok-ends.ensures.goes.second c.if-ends.false).from _ _ _ _ ((c.in_err-first.ensures.parses c.args.depth).from o e _ _) })

pub returns-in_err-init-clause-parses : goal.returns-in_err-init-clause-parses
returns-in_err-init-clause-parses c = let is : c.from_residual-in_err-init.result ≡ Err c.in_err-init.field-0.0 = search rules in rw is (record { from = λ o e rest parts. (c.in_ok-ends.ensures.goes.second c.if-ends.false).from _ _ _ _ ((c.in_ok-first.ensures.parses c.args.depth).from _ _ _ (c.in_err-init.ensures.parses.from o e _ _)) })

pub returns-in_err-all-clause-parses : goal.returns-in_err-all-clause-parses
returns-in_err-all-clause-parses c = let is : c.from_residual-in_err-all.result ≡ Err c.in_err-all.field-0.0 = search rules in rw is (record { from = λ o e rest parts. (c.in_ok-ends.ensures.goes.second c.if-ends.false).from _ _ _ _ ((c.in_ok-first.ensures.parses c.args.depth).from _ _ _ (c.in_ok-init.ensures.parses.from _ _ _ (built _ _ _ _ _ _ _ _ _ (same_top (λ xs. q.init_declarators (map view_init_declarator xs)) _ _ _ (sym c.in_ok-objects.ensures)) (c.in_err-all.ensures.parses.from o e _ _)))) })

pub returns-in_err-next-clause-parses : goal.returns-in_err-next-clause-parses
returns-in_err-next-clause-parses c = let is : c.from_residual-in_err-next.result ≡ Err c.in_err-next.field-0.0 = search rules in rw is (record { from = λ o e rest parts. (c.in_ok-ends.ensures.goes.second c.if-ends.false).from _ _ _ _ ((c.in_ok-first.ensures.parses c.args.depth).from _ _ _ (c.in_ok-init.ensures.parses.from _ _ _ (built _ _ _ _ _ _ _ _ _ (same_top (λ xs. q.init_declarators (map view_init_declarator xs)) _ _ _ (sym c.in_ok-objects.ensures)) (c.in_ok-all.ensures.parses.from _ _ _ ((c.in_err-next.ensures.expects c.args.depth).from o e _ _))))) })

pub returns-clause-parses : goal.returns-clause-parses
returns-clause-parses c = record { from = λ rest parts o k. (c.in_ok-ends.ensures.goes.second c.if-ends.false).from _ _ _ _ ((c.in_ok-first.ensures.parses c.args.depth).from _ _ _ (c.in_ok-init.ensures.parses.from _ _ _ (built _ _ _ _ _ _ _ _ _ (same_top (λ xs. q.init_declarators (map view_init_declarator xs)) _ _ _ (sym c.in_ok-objects.ensures)) (c.in_ok-all.ensures.parses.from _ _ _ ((c.in_ok-next.ensures.expects c.args.depth).from _ _ _ (k)))))) }
