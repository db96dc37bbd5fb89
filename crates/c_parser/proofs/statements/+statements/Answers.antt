use Rattle.std.proofs.Common.{◌≡◌, [], Err, rules, arith, sym, map, subst}
use Rattle.c_grammar.specs.declared.symbol.Symbol.TheVariants as s
use Rattle.c_grammar.specs.Part as q
use Rattle.pt_tree.specs.StatementTree.{view_stmt, view_section}
use Rattle.c_parser.specs.Parses.{Enters}
use Rattle.c_parser.specs.RuleNames.{statement_number}
use Rattle.c_grammar.specs.Machine.{wanted}
use Rattle.c_parser.proofs.Steps.{built, builds_on, same_top, pushed, by_rule, opened}
use Rattle.c_parser.proofs.Ends.{followed, made, made_further, further}
use Rattle.c_parser.specs.Parts.{of_stmt, of_block}
use Rattle.c_parser.proofs.statements.+statements.Goals as goal

pub statement-returns-clause-parses : goal.statement-returns-clause-parses
statement-returns-clause-parses t c = opened of_stmt c.args.tokens.now s.Statement c.args.at c.args.depth _ (omega arith) c.any_statement.ensures.parses

pub any_statement-returns-in-Block-clause-parses : goal.any_statement-returns-in-Block-clause-parses
any_statement-returns-in-Block-clause-parses t c = by_rule [] of_stmt c.args.tokens.now s.Statement c.args.at c.args.depth 68 _ (subst (λ r. Enters c.args.tokens.now s.Statement c.args.at (statement_number r)) c.in-Block.is c.in_ok-rule.ensures.enters) c.block_statement.ensures.parses

pub any_statement-returns-in-Empty-clause-parses : goal.any_statement-returns-in-Empty-clause-parses
any_statement-returns-in-Empty-clause-parses t c = by_rule [] of_stmt c.args.tokens.now s.Statement c.args.at c.args.depth 69 _ (subst (λ r. Enters c.args.tokens.now s.Statement c.args.at (statement_number r)) c.in-Empty.is c.in_ok-rule.ensures.enters) (c.empty_statement.ensures.parses c.args.depth)

pub any_statement-returns-in-Expression-clause-parses : goal.any_statement-returns-in-Expression-clause-parses
any_statement-returns-in-Expression-clause-parses t c = by_rule [] of_stmt c.args.tokens.now s.Statement c.args.at c.args.depth 70 _ (subst (λ r. Enters c.args.tokens.now s.Statement c.args.at (statement_number r)) c.in-Expression.is c.in_ok-rule.ensures.enters) c.expression_statement.ensures.parses

pub any_statement-returns-in-If-clause-parses : goal.any_statement-returns-in-If-clause-parses
any_statement-returns-in-If-clause-parses t c = by_rule [] of_stmt c.args.tokens.now s.Statement c.args.at c.args.depth 71 _ (subst (λ r. Enters c.args.tokens.now s.Statement c.args.at (statement_number r)) c.in-If.is c.in_ok-rule.ensures.enters) c.if_statement.ensures.parses

pub any_statement-returns-in-While-clause-parses : goal.any_statement-returns-in-While-clause-parses
any_statement-returns-in-While-clause-parses t c = by_rule [] of_stmt c.args.tokens.now s.Statement c.args.at c.args.depth 72 _ (subst (λ r. Enters c.args.tokens.now s.Statement c.args.at (statement_number r)) c.in-While.is c.in_ok-rule.ensures.enters) c.while_statement.ensures.parses

pub any_statement-returns-in-Do-clause-parses : goal.any_statement-returns-in-Do-clause-parses
any_statement-returns-in-Do-clause-parses t c = by_rule [] of_stmt c.args.tokens.now s.Statement c.args.at c.args.depth 73 _ (subst (λ r. Enters c.args.tokens.now s.Statement c.args.at (statement_number r)) c.in-Do.is c.in_ok-rule.ensures.enters) c.do_statement.ensures.parses

pub any_statement-returns-in-For-clause-parses : goal.any_statement-returns-in-For-clause-parses
any_statement-returns-in-For-clause-parses t c = by_rule [] of_stmt c.args.tokens.now s.Statement c.args.at c.args.depth 74 _ (subst (λ r. Enters c.args.tokens.now s.Statement c.args.at (statement_number r)) c.in-For.is c.in_ok-rule.ensures.enters) c.for_statement.ensures.parses

pub any_statement-returns-in-Return-clause-parses : goal.any_statement-returns-in-Return-clause-parses
any_statement-returns-in-Return-clause-parses t c = by_rule [] of_stmt c.args.tokens.now s.Statement c.args.at c.args.depth 75 _ (subst (λ r. Enters c.args.tokens.now s.Statement c.args.at (statement_number r)) c.in-Return.is c.in_ok-rule.ensures.enters) c.return_statement.ensures.parses

pub any_statement-returns-in-Break-clause-parses : goal.any_statement-returns-in-Break-clause-parses
any_statement-returns-in-Break-clause-parses t c = by_rule [] of_stmt c.args.tokens.now s.Statement c.args.at c.args.depth 76 _ (subst (λ r. Enters c.args.tokens.now s.Statement c.args.at (statement_number r)) c.in-Break.is c.in_ok-rule.ensures.enters) (c.break_statement.ensures.parses c.args.depth)

pub any_statement-returns-in-Continue-clause-parses : goal.any_statement-returns-in-Continue-clause-parses
any_statement-returns-in-Continue-clause-parses t c = by_rule [] of_stmt c.args.tokens.now s.Statement c.args.at c.args.depth 77 _ (subst (λ r. Enters c.args.tokens.now s.Statement c.args.at (statement_number r)) c.in-Continue.is c.in_ok-rule.ensures.enters) (c.continue_statement.ensures.parses c.args.depth)

pub any_statement-returns-in-Switch-clause-parses : goal.any_statement-returns-in-Switch-clause-parses
any_statement-returns-in-Switch-clause-parses t c = by_rule [] of_stmt c.args.tokens.now s.Statement c.args.at c.args.depth 169 _ (subst (λ r. Enters c.args.tokens.now s.Statement c.args.at (statement_number r)) c.in-Switch.is c.in_ok-rule.ensures.enters) c.switch_statement.ensures.parses

pub block-returns-in_err-inside-clause-parses : goal.block-returns-in_err-inside-clause-parses
block-returns-in_err-inside-clause-parses t c = let is : c.from_residual.result ≡ Err c.in_err-inside.field-0.0 = search rules in rw is (c.in_err-inside.ensures.starts c.args.depth)

pub block-returns-in_err-items-clause-parses : goal.block-returns-in_err-items-clause-parses
block-returns-in_err-items-clause-parses t c = let is : c.from_residual-in_err-items.result ≡ Err c.in_err-items.field-0.0 = search rules in rw is (record { from = λ o e rest parts. c.in_ok-inside.ensures.starts.from _ _ _ _ (built _ _ _ _ _ _ _ _ _ (same_top (λ xs. q.stmts (map view_stmt xs)) _ _ _ (sym c.new-none.ensures.items)) (c.in_err-items.ensures.parses.from o e _ _)) })

pub block-returns-clause-parses : goal.block-returns-clause-parses
block-returns-clause-parses t c = followed [] _ of_block _ _ _ _ _ _ _ (λ rest parts o k. c.in_ok-inside.ensures.starts.from _ _ _ _ (built _ _ _ _ _ _ _ _ _ (same_top (λ xs. q.stmts (map view_stmt xs)) _ _ _ (sym c.new-none.ensures.items)) (c.in_ok-items.ensures.parses.from _ _ _ k))) (c.block_end.ensures.parses c.args.depth)

pub block-returns-clause-goes_on : goal.block-returns-clause-goes_on
block-returns-clause-goes_on t c = further c.args.at c.in_ok-items.items.next _ _ (omega (arith, c.in_ok-inside.ensures.goes_on.0, c.in_ok-items.ensures.goes_on.0)) c.block_end.ensures.goes_on

pub more_items-loop-items-init : goal.more_items-loop-items-init
more_items-loop-items-init t c = record { repeats = record { from = λ rest parts o k. k }; after = omega arith; within = omega arith }

pub more_items-returns-in_err-more-clause-parses : goal.more_items-returns-in_err-more-clause-parses
more_items-returns-in_err-more-clause-parses t c = let is : c.from_residual.result ≡ Err c.in_err-more.field-0.0 = search rules in rw is (record { from = λ o e rest parts. c.loop-items.invariant.repeats.from _ _ _ ((c.in_err-more.ensures.fails c.args.depth).from o e _ _) })

pub more_items-returns-then-not-more-clause-parses : goal.more_items-returns-then-not-more-clause-parses
more_items-returns-then-not-more-clause-parses t c = record { from = λ rest parts o k. c.loop-items.invariant.repeats.from _ _ _ ((c.in_ok-more.ensures.goes.second c.if-not-more.true).from _ _ _ _ (k)) }

pub more_items-returns-in_err-one-clause-parses : goal.more_items-returns-in_err-one-clause-parses
more_items-returns-in_err-one-clause-parses t c = let is : c.from_residual-in_err-one.result ≡ Err c.in_err-one.field-0.0 = search rules in rw is (record { from = λ o e rest parts. c.loop-items.invariant.repeats.from _ _ _ ((c.in_ok-more.ensures.goes.first c.if-not-more.false).from _ _ _ _ (c.in_err-one.ensures.parses.from o e _ _)) })

pub more_items-loop-items-preserved : goal.more_items-loop-items-preserved
more_items-loop-items-preserved t c = record { repeats = record { from = λ rest parts o k. c.loop-items.invariant.repeats.from _ _ _ ((c.in_ok-more.ensures.goes.first c.if-not-more.false).from _ _ _ _ (c.in_ok-one.ensures.parses.from _ _ _ (built _ _ _ _ _ _ _ _ _ (pushed q.stmts view_stmt _ _ _ _ c.in_ok-push_few.ensures.items) (k)))) }; after = omega (arith, c.loop-items.invariant.after, c.loop-items.invariant.within, c.in_ok-one.ensures.goes_on.0, c.in_ok-one.ensures.goes_on.1); within = omega (arith, c.loop-items.invariant.after, c.loop-items.invariant.within, c.in_ok-one.ensures.goes_on.0, c.in_ok-one.ensures.goes_on.1) }

pub item-returns-in_err-declares-clause-parses : goal.item-returns-in_err-declares-clause-parses
item-returns-in_err-declares-clause-parses t c = let is : c.from_residual.result ≡ Err c.in_err-declares.field-0.0 = search rules in rw is (record { from = λ o e rest parts. (c.in_err-declares.ensures.fails c.args.depth).from o e _ _ })

pub item-returns-then-declares-clause-parses : goal.item-returns-then-declares-clause-parses
item-returns-then-declares-clause-parses t c = by_rule [] of_stmt c.args.tokens.now s.Item c.args.at c.args.depth 63 _ (c.in_ok-declares.ensures.goes.first c.if-declares.true) c.declared.ensures.parses

pub item-returns-else-declares-clause-parses : goal.item-returns-else-declares-clause-parses
item-returns-else-declares-clause-parses t c = by_rule [] of_stmt c.args.tokens.now s.Item c.args.at c.args.depth 64 _ (c.in_ok-declares.ensures.goes.second c.if-declares.false) c.statement.ensures.parses

pub block_statement-returns-in_err-inner-clause-parses : goal.block_statement-returns-in_err-inner-clause-parses
block_statement-returns-in_err-inner-clause-parses t c = let is : c.from_residual.result ≡ Err c.in_err-inner.field-0.0 = search rules in rw is (record { from = λ o e rest parts. c.in_err-inner.ensures.parses.from o e _ _ })

pub block_statement-returns-clause-parses : goal.block_statement-returns-clause-parses
block_statement-returns-clause-parses t c = record { from = λ rest parts o k. c.in_ok-inner.ensures.parses.from _ _ _ (built _ _ _ _ _ _ _ _ _ (search rules) (k)) }

pub if_statement-returns-in_err-test-clause-parses : goal.if_statement-returns-in_err-test-clause-parses
if_statement-returns-in_err-test-clause-parses t c = let is : c.from_residual.result ≡ Err c.in_err-test.field-0.0 = search rules in rw is (record { from = λ o e rest parts. c.in_err-test.ensures.parses.from o e _ _ })

pub if_statement-returns-in_err-yes-clause-parses : goal.if_statement-returns-in_err-yes-clause-parses
if_statement-returns-in_err-yes-clause-parses t c = let is : c.from_residual-in_err-yes.result ≡ Err c.in_err-yes.field-0.0 = search rules in rw is (record { from = λ o e rest parts. c.in_ok-test.ensures.parses.from _ _ _ (c.in_err-yes.ensures.parses.from o e _ _) })

pub if_statement-returns-in_err-no-clause-parses : goal.if_statement-returns-in_err-no-clause-parses
if_statement-returns-in_err-no-clause-parses t c = let is : c.from_residual-in_err-no.result ≡ Err c.in_err-no.field-0.0 = search rules in rw is (record { from = λ o e rest parts. c.in_ok-test.ensures.parses.from _ _ _ (c.in_ok-yes.ensures.parses.from _ _ _ (c.in_err-no.ensures.parses.from o e _ _)) })

pub if_statement-returns-clause-parses : goal.if_statement-returns-clause-parses
if_statement-returns-clause-parses t c = made c.args.tokens.now (wanted c.args.at 71) c.args.at c.args.depth _ _ _ c.choice.ensures.built c.choice.ensures.memory (record { from = λ rest parts o k. c.in_ok-test.ensures.parses.from _ _ _ (c.in_ok-yes.ensures.parses.from _ _ _ (c.in_ok-no.ensures.parses.from _ _ _ (builds_on _ _ _ _ _ _ _ _ k))) })

pub if_statement-returns-clause-goes_on : goal.if_statement-returns-clause-goes_on
if_statement-returns-clause-goes_on t c = made_further c.args.at c.in_ok-no.no.next _ _ _ c.choice.ensures.built (omega (arith, c.in_ok-test.ensures.goes_on.0, c.in_ok-yes.ensures.goes_on.0, c.in_ok-no.ensures.goes_on.0)) (omega (arith, c.in_ok-no.ensures.goes_on.1))

pub else_part-returns-in_err-stands-clause-parses : goal.else_part-returns-in_err-stands-clause-parses
else_part-returns-in_err-stands-clause-parses t c = let is : c.from_residual.result ≡ Err c.in_err-stands.field-0.0 = search rules in rw is (record { from = λ o e rest parts. (c.in_err-stands.ensures.fails c.args.depth).from o e _ _ })

pub else_part-returns-in_err-word-clause-parses : goal.else_part-returns-in_err-word-clause-parses
else_part-returns-in_err-word-clause-parses t c = let is : c.from_residual-in_err-word.result ≡ Err c.in_err-word.field-0.0 = search rules in rw is (record { from = λ o e rest parts. (c.in_ok-stands.ensures.goes.first c.if-stands.true).from _ _ _ _ ((c.in_err-word.ensures.expects c.args.depth).from o e _ _) })

pub else_part-returns-in_err-no-clause-parses : goal.else_part-returns-in_err-no-clause-parses
else_part-returns-in_err-no-clause-parses t c = let is : c.from_residual-in_err-no.result ≡ Err c.in_err-no.field-0.0 = search rules in rw is (record { from = λ o e rest parts. (c.in_ok-stands.ensures.goes.first c.if-stands.true).from _ _ _ _ ((c.in_ok-word.ensures.expects c.args.depth).from _ _ _ (c.in_err-no.ensures.parses.from o e _ _)) })

pub else_part-returns-then-stands-clause-parses : goal.else_part-returns-then-stands-clause-parses
else_part-returns-then-stands-clause-parses t c = record { from = λ rest parts o k. (c.in_ok-stands.ensures.goes.first c.if-stands.true).from _ _ _ _ ((c.in_ok-word.ensures.expects c.args.depth).from _ _ _ (c.in_ok-no.ensures.parses.from _ _ _ (built _ _ _ _ _ _ _ _ _ (search rules) (k)))) }

pub else_part-returns-clause-parses : goal.else_part-returns-clause-parses
else_part-returns-clause-parses t c = record { from = λ rest parts o k. (c.in_ok-stands.ensures.goes.second c.if-stands.false).from _ _ _ _ (built _ _ _ _ _ _ _ _ _ (search rules) (k)) }

pub while_statement-returns-in_err-test-clause-parses : goal.while_statement-returns-in_err-test-clause-parses
while_statement-returns-in_err-test-clause-parses t c = let is : c.from_residual.result ≡ Err c.in_err-test.field-0.0 = search rules in rw is (record { from = λ o e rest parts. c.in_err-test.ensures.parses.from o e _ _ })

pub while_statement-returns-in_err-body-clause-parses : goal.while_statement-returns-in_err-body-clause-parses
while_statement-returns-in_err-body-clause-parses t c = let is : c.from_residual-in_err-body.result ≡ Err c.in_err-body.field-0.0 = search rules in rw is (record { from = λ o e rest parts. c.in_ok-test.ensures.parses.from _ _ _ (c.in_err-body.ensures.parses.from o e _ _) })

pub while_statement-returns-clause-parses : goal.while_statement-returns-clause-parses
while_statement-returns-clause-parses t c = made c.args.tokens.now (wanted c.args.at 72) c.args.at c.args.depth _ _ _ c.while_loop.ensures.built c.while_loop.ensures.memory (record { from = λ rest parts o k. c.in_ok-test.ensures.parses.from _ _ _ (c.in_ok-body.ensures.parses.from _ _ _ (builds_on _ _ _ _ _ _ _ _ k)) })

pub while_statement-returns-clause-goes_on : goal.while_statement-returns-clause-goes_on
while_statement-returns-clause-goes_on t c = made_further c.args.at c.in_ok-body.body.next _ _ _ c.while_loop.ensures.built (omega (arith, c.in_ok-test.ensures.goes_on.0, c.in_ok-body.ensures.goes_on.0)) (omega (arith, c.in_ok-body.ensures.goes_on.1))

pub do_statement-returns-in_err-word-clause-parses : goal.do_statement-returns-in_err-word-clause-parses
do_statement-returns-in_err-word-clause-parses t c = let is : c.from_residual.result ≡ Err c.in_err-word.field-0.0 = search rules in rw is (record { from = λ o e rest parts. (c.in_err-word.ensures.expects c.args.depth).from o e _ _ })

pub do_statement-returns-in_err-body-clause-parses : goal.do_statement-returns-in_err-body-clause-parses
do_statement-returns-in_err-body-clause-parses t c = let is : c.from_residual-in_err-body.result ≡ Err c.in_err-body.field-0.0 = search rules in rw is (record { from = λ o e rest parts. (c.in_ok-word.ensures.expects c.args.depth).from _ _ _ (c.in_err-body.ensures.parses.from o e _ _) })

pub do_statement-returns-clause-parses : goal.do_statement-returns-clause-parses
do_statement-returns-clause-parses t c = followed [] _ of_stmt _ _ _ _ _ _ _ (λ rest parts o k. (c.in_ok-word.ensures.expects c.args.depth).from _ _ _ (c.in_ok-body.ensures.parses.from _ _ _ k)) c.do_loop.ensures.parses

pub do_statement-returns-clause-goes_on : goal.do_statement-returns-clause-goes_on
do_statement-returns-clause-goes_on t c = further c.args.at c.in_ok-body.body.next _ _ (omega (arith, c.in_ok-word.ensures.goes_on.0, c.in_ok-body.ensures.goes_on.0)) c.do_loop.ensures.goes_on

pub for_statement-returns-in_err-head-clause-parses : goal.for_statement-returns-in_err-head-clause-parses
for_statement-returns-in_err-head-clause-parses t c = let is : c.from_residual.result ≡ Err c.in_err-head.field-0.0 = search rules in rw is (record { from = λ o e rest parts. c.in_err-head.ensures.parses.from o e _ _ })

pub for_statement-returns-in_err-body-clause-parses : goal.for_statement-returns-in_err-body-clause-parses
for_statement-returns-in_err-body-clause-parses t c = let is : c.from_residual-in_err-body.result ≡ Err c.in_err-body.field-0.0 = search rules in rw is (record { from = λ o e rest parts. c.in_ok-head.ensures.parses.from _ _ _ (c.in_err-body.ensures.parses.from o e _ _) })

pub for_statement-returns-clause-parses : goal.for_statement-returns-clause-parses
for_statement-returns-clause-parses t c = made c.args.tokens.now (wanted c.args.at 74) c.args.at c.args.depth _ _ _ c.for_loop.ensures.built c.for_loop.ensures.memory (record { from = λ rest parts o k. c.in_ok-head.ensures.parses.from _ _ _ (c.in_ok-body.ensures.parses.from _ _ _ (builds_on _ _ _ _ _ _ _ _ k)) })

pub for_statement-returns-clause-goes_on : goal.for_statement-returns-clause-goes_on
for_statement-returns-clause-goes_on t c = made_further c.args.at c.in_ok-body.body.next _ _ _ c.for_loop.ensures.built (omega (arith, c.in_ok-head.ensures.goes_on.0, c.in_ok-body.ensures.goes_on.0)) (omega (arith, c.in_ok-body.ensures.goes_on.1))

pub switch_statement-returns-in_err-on-clause-parses : goal.switch_statement-returns-in_err-on-clause-parses
switch_statement-returns-in_err-on-clause-parses t c = let is : c.from_residual.result ≡ Err c.in_err-on.field-0.0 = search rules in rw is (record { from = λ o e rest parts. c.in_err-on.ensures.parses.from o e _ _ })

pub switch_statement-returns-in_err-sections-clause-parses : goal.switch_statement-returns-in_err-sections-clause-parses
switch_statement-returns-in_err-sections-clause-parses t c = let is : c.from_residual-in_err-sections.result ≡ Err c.in_err-sections.field-0.0 = search rules in rw is (record { from = λ o e rest parts. c.in_ok-on.ensures.parses.from _ _ _ (built _ _ _ _ _ _ _ _ _ (same_top (λ xs. q.sections (map view_section xs)) _ _ _ (sym c.new-none.ensures.items)) (c.in_err-sections.ensures.parses.from o e _ _)) })

pub switch_statement-returns-clause-parses : goal.switch_statement-returns-clause-parses
switch_statement-returns-clause-parses t c = followed [] _ of_stmt _ _ _ _ _ _ _ (λ rest parts o k. c.in_ok-on.ensures.parses.from _ _ _ (built _ _ _ _ _ _ _ _ _ (same_top (λ xs. q.sections (map view_section xs)) _ _ _ (sym c.new-none.ensures.items)) (c.in_ok-sections.ensures.parses.from _ _ _ k))) (c.switch_end.ensures.parses c.args.depth)

pub switch_statement-returns-clause-goes_on : goal.switch_statement-returns-clause-goes_on
switch_statement-returns-clause-goes_on t c = further c.args.at c.in_ok-sections.sections.next _ _ (omega (arith, c.in_ok-on.ensures.goes_on.0, c.in_ok-sections.ensures.goes_on.0)) c.switch_end.ensures.goes_on

pub more_sections-loop-sections-init : goal.more_sections-loop-sections-init
more_sections-loop-sections-init t c = record { repeats = record { from = λ rest parts o k. k }; after = omega arith; within = omega arith }

pub more_sections-returns-in_err-more-clause-parses : goal.more_sections-returns-in_err-more-clause-parses
more_sections-returns-in_err-more-clause-parses t c = let is : c.from_residual.result ≡ Err c.in_err-more.field-0.0 = search rules in rw is (record { from = λ o e rest parts. c.loop-sections.invariant.repeats.from _ _ _ ((c.in_err-more.ensures.fails c.args.depth).from o e _ _) })

pub more_sections-returns-then-not-more-clause-parses : goal.more_sections-returns-then-not-more-clause-parses
more_sections-returns-then-not-more-clause-parses t c = record { from = λ rest parts o k. c.loop-sections.invariant.repeats.from _ _ _ ((c.in_ok-more.ensures.goes.second c.if-not-more.true).from _ _ _ _ (k)) }

pub more_sections-returns-in_err-one-clause-parses : goal.more_sections-returns-in_err-one-clause-parses
more_sections-returns-in_err-one-clause-parses t c = let is : c.from_residual-in_err-one.result ≡ Err c.in_err-one.field-0.0 = search rules in rw is (record { from = λ o e rest parts. c.loop-sections.invariant.repeats.from _ _ _ ((c.in_ok-more.ensures.goes.first c.if-not-more.false).from _ _ _ _ (c.in_err-one.ensures.parses.from o e _ _)) })

pub more_sections-loop-sections-preserved : goal.more_sections-loop-sections-preserved
more_sections-loop-sections-preserved t c = record { repeats = record { from = λ rest parts o k. c.loop-sections.invariant.repeats.from _ _ _ ((c.in_ok-more.ensures.goes.first c.if-not-more.false).from _ _ _ _ (c.in_ok-one.ensures.parses.from _ _ _ (built _ _ _ _ _ _ _ _ _ (pushed q.sections view_section _ _ _ _ c.in_ok-push_few.ensures.items) (k)))) }; after = omega (arith, c.loop-sections.invariant.after, c.loop-sections.invariant.within, c.in_ok-one.ensures.goes_on.0, c.in_ok-one.ensures.goes_on.1); within = omega (arith, c.loop-sections.invariant.after, c.loop-sections.invariant.within, c.in_ok-one.ensures.goes_on.0, c.in_ok-one.ensures.goes_on.1) }

pub section-returns-in_err-label-clause-parses : goal.section-returns-in_err-label-clause-parses
section-returns-in_err-label-clause-parses t c = let is : c.from_residual-in_err-label.result ≡ Err c.in_err-label.field-0.0 = search rules in rw is (record { from = λ o e rest parts. c.in_ok-begin.ensures.from _ _ _ _ (c.in_err-label.ensures.parses.from o e _ _) })

pub section-returns-in_err-body-clause-parses : goal.section-returns-in_err-body-clause-parses
section-returns-in_err-body-clause-parses t c = let is : c.from_residual-in_err-body.result ≡ Err c.in_err-body.field-0.0 = search rules in rw is (record { from = λ o e rest parts. c.in_ok-begin.ensures.from _ _ _ _ (c.in_ok-label.ensures.parses.from _ _ _ (built _ _ _ _ _ _ _ _ _ (same_top (λ xs. q.stmts (map view_stmt xs)) _ _ _ (sym c.new-none.ensures.items)) (c.in_err-body.ensures.parses.from o e _ _))) })

pub section-returns-clause-parses : goal.section-returns-clause-parses
section-returns-clause-parses t c = record { from = λ rest parts o k. c.in_ok-begin.ensures.from _ _ _ _ (c.in_ok-label.ensures.parses.from _ _ _ (built _ _ _ _ _ _ _ _ _ (same_top (λ xs. q.stmts (map view_stmt xs)) _ _ _ (sym c.new-none.ensures.items)) (c.in_ok-body.ensures.parses.from _ _ _ (built _ _ _ _ _ _ _ _ _ (search rules) (k))))) }

pub section_items-loop-items-init : goal.section_items-loop-items-init
section_items-loop-items-init t c = record { repeats = record { from = λ rest parts o k. k }; after = omega arith; within = omega arith }

pub section_items-returns-in_err-more-clause-parses : goal.section_items-returns-in_err-more-clause-parses
section_items-returns-in_err-more-clause-parses t c = let is : c.from_residual.result ≡ Err c.in_err-more.field-0.0 = search rules in rw is (record { from = λ o e rest parts. c.loop-items.invariant.repeats.from _ _ _ ((c.in_err-more.ensures.fails c.args.depth).from o e _ _) })

pub section_items-returns-then-not-more-clause-parses : goal.section_items-returns-then-not-more-clause-parses
section_items-returns-then-not-more-clause-parses t c = record { from = λ rest parts o k. c.loop-items.invariant.repeats.from _ _ _ ((c.in_ok-more.ensures.goes.second c.if-not-more.true).from _ _ _ _ (k)) }

pub section_items-returns-in_err-one-clause-parses : goal.section_items-returns-in_err-one-clause-parses
section_items-returns-in_err-one-clause-parses t c = let is : c.from_residual-in_err-one.result ≡ Err c.in_err-one.field-0.0 = search rules in rw is (record { from = λ o e rest parts. c.loop-items.invariant.repeats.from _ _ _ ((c.in_ok-more.ensures.goes.first c.if-not-more.false).from _ _ _ _ (c.in_err-one.ensures.parses.from o e _ _)) })

pub section_items-loop-items-preserved : goal.section_items-loop-items-preserved
section_items-loop-items-preserved t c = record { repeats = record { from = λ rest parts o k. c.loop-items.invariant.repeats.from _ _ _ ((c.in_ok-more.ensures.goes.first c.if-not-more.false).from _ _ _ _ (c.in_ok-one.ensures.parses.from _ _ _ (built _ _ _ _ _ _ _ _ _ (pushed q.stmts view_stmt _ _ _ _ c.in_ok-push_few.ensures.items) (k)))) }; after = omega (arith, c.loop-items.invariant.after, c.loop-items.invariant.within, c.in_ok-one.ensures.goes_on.0, c.in_ok-one.ensures.goes_on.1); within = omega (arith, c.loop-items.invariant.after, c.loop-items.invariant.within, c.in_ok-one.ensures.goes_on.0, c.in_ok-one.ensures.goes_on.1) }
