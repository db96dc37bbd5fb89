use Rattle.std.proofs.Common.{◌≡◌, Err, rules, sym, map}
use Rattle.c_grammar.specs.Part as q
use Rattle.pt_tree.specs.ExpressionTree.{view_expr}
use Rattle.c_parser.proofs.Steps.{built, same_top}
use Rattle.c_parser.proofs.declarations.initial_value.Goals as goal

pub returns-in_err-single-clause-parses : goal.returns-in_err-single-clause-parses
returns-in_err-single-clause-parses c = let is : c.from_residual.result ≡ Err c.in_err-single.field-0.0 = search rules in rw is (record { from = λ o e rest parts. (c.in_err-single.ensures.fails c.args.depth).from o e _ _ })

pub returns-in_err-value-clause-parses : goal.returns-in_err-value-clause-parses
returns-in_err-value-clause-parses c = let is : c.from_residual-in_err-value.result ≡ Err c.in_err-value.field-0.0 = search rules in rw is (record { from = λ o e rest parts. (c.in_ok-single.ensures.goes.first c.if-single.true).from _ _ _ _ (c.in_err-value.ensures.parses.from o e _ _) })

pub returns-then-single-clause-parses : goal.returns-then-single-clause-parses
returns-then-single-clause-parses c = record { from = λ rest parts o k. (c.in_ok-single.ensures.goes.first c.if-single.true).from _ _ _ _ (c.in_ok-value.ensures.parses.from _ _ _ (built _ _ _ _ _ _ _ _ _ (search rules) (k))) }

pub returns-in_err-inside-clause-parses : goal.returns-in_err-inside-clause-parses
returns-in_err-inside-clause-parses c = let is : c.from_residual-in_err-inside.result ≡ Err c.in_err-inside.field-0.0 = search rules in rw is (record { from = λ o e rest parts. (c.in_ok-single.ensures.goes.second c.if-single.false).from _ _ _ _ ((c.in_err-inside.ensures.expects c.args.depth).from o e _ _) })

pub returns-in_err-first-clause-parses : goal.returns-in_err-first-clause-parses
returns-in_err-first-clause-parses c = let is : c.from_residual-in_err-first.result ≡ Err c.in_err-first.field-0.0 = search rules in rw is (record { from = λ o e rest parts. (c.in_ok-single.ensures.goes.second c.if-single.false).from _ _ _ _ ((c.in_ok-inside.ensures.expects c.args.depth).from _ _ _ (c.in_err-first.ensures.parses.from o e _ _)) })

pub returns-in_err-all-clause-parses : goal.returns-in_err-all-clause-parses
returns-in_err-all-clause-parses c = let is : c.from_residual-in_err-all.result ≡ Err c.in_err-all.field-0.0 = search rules in rw is (record { from = λ o e rest parts. (c.in_ok-single.ensures.goes.second c.if-single.false).from _ _ _ _ ((c.in_ok-inside.ensures.expects c.args.depth).from _ _ _ (c.in_ok-first.ensures.parses.from _ _ _ (built _ _ _ _ _ _ _ _ _ (same_top (λ xs. q.exprs (map view_expr xs)) _ _ _ (sym c.in_ok-values.ensures)) (c.in_err-all.ensures.parses.from o e _ _)))) })

pub returns-in_err-next-clause-parses : goal.returns-in_err-next-clause-parses
returns-in_err-next-clause-parses c = let is : c.from_residual-in_err-next.result ≡ Err c.in_err-next.field-0.0 = search rules in rw is (record { from = λ o e rest parts. (c.in_ok-single.ensures.goes.second c.if-single.false).from _ _ _ _ ((c.in_ok-inside.ensures.expects c.args.depth).from _ _ _ (c.in_ok-first.ensures.parses.from _ _ _ (built _ _ _ _ _ _ _ _ _ (same_top (λ xs. q.exprs (map view_expr xs)) _ _ _ (sym c.in_ok-values.ensures)) (c.in_ok-all.ensures.parses.from _ _ _ ((c.in_err-next.ensures.expects c.args.depth).from o e _ _))))) })

pub returns-clause-parses : goal.returns-clause-parses
returns-clause-parses c = record { from = λ rest parts o k. (c.in_ok-single.ensures.goes.second c.if-single.false).from _ _ _ _ ((c.in_ok-inside.ensures.expects c.args.depth).from _ _ _ (c.in_ok-first.ensures.parses.from _ _ _ (built _ _ _ _ _ _ _ _ _ (same_top (λ xs. q.exprs (map view_expr xs)) _ _ _ (sym c.in_ok-values.ensures)) (c.in_ok-all.ensures.parses.from _ _ _ ((c.in_ok-next.ensures.expects c.args.depth).from _ _ _ (built _ _ _ _ _ _ _ _ _ (search rules) (k))))))) }
