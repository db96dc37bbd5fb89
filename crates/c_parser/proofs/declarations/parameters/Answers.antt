use Rattle.std.proofs.Common.{◌≡◌, Err, rules, sym, map}
use Rattle.c_grammar.specs.Part as q
use Rattle.pt_tree.specs.ProgramTree.{view_param}
use Rattle.c_parser.proofs.Steps.{built, same_top}
use Rattle.c_parser.proofs.declarations.parameters.Goals as goal

pub returns-in_err-stands-clause-parses : goal.returns-in_err-stands-clause-parses
returns-in_err-stands-clause-parses c = let is : c.from_residual.result ≡ Err c.in_err-stands.field-0.0 = search rules in rw is (record { from = λ o e rest parts. (c.in_err-stands.ensures.fails c.args.depth).from o e _ _ })

pub returns-in_err-first-clause-parses : goal.returns-in_err-first-clause-parses
returns-in_err-first-clause-parses c = let is : c.from_residual-in_err-first.result ≡ Err c.in_err-first.field-0.0 = search rules in rw is (record { from = λ o e rest parts. (c.in_ok-stands.ensures.goes.first c.if-stands.true).from _ _ _ _ (c.in_err-first.ensures.parses.from o e _ _) })

pub returns-in_err-all-clause-parses : goal.returns-in_err-all-clause-parses
returns-in_err-all-clause-parses c = let is : c.from_residual-in_err-all.result ≡ Err c.in_err-all.field-0.0 = search rules in rw is (record { from = λ o e rest parts. (c.in_ok-stands.ensures.goes.first c.if-stands.true).from _ _ _ _ (c.in_ok-first.ensures.parses.from _ _ _ (built _ _ _ _ _ _ _ _ _ (same_top (λ xs. q.params (map view_param xs)) _ _ _ (sym c.in_ok-params.ensures)) (c.in_err-all.ensures.parses.from o e _ _))) })

pub returns-then-stands-clause-parses : goal.returns-then-stands-clause-parses
returns-then-stands-clause-parses c = record { from = λ rest parts o k. (c.in_ok-stands.ensures.goes.first c.if-stands.true).from _ _ _ _ (c.in_ok-first.ensures.parses.from _ _ _ (built _ _ _ _ _ _ _ _ _ (same_top (λ xs. q.params (map view_param xs)) _ _ _ (sym c.in_ok-params.ensures)) (c.in_ok-all.ensures.parses.from _ _ _ (k)))) }

pub returns-clause-parses : goal.returns-clause-parses
returns-clause-parses c = record { from = λ rest parts o k. (c.in_ok-stands.ensures.goes.second c.if-stands.false).from _ _ _ _ (built _ _ _ _ _ _ _ _ _ (search rules) (k)) }
