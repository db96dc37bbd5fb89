use Rattle.std.proofs.Common.{◌≡◌, [], Err, rules, arith, sym, map, subst}
use Rattle.c_grammar.specs.declared.symbol.Symbol.TheVariants as s
use Rattle.c_parser.proofs.Steps.{built, same_top, pushed, by_rule, opened}
use Rattle.c_parser.specs.Parses.{Enters}
use Rattle.c_parser.proofs.LastRules.{last_Spec}
use Rattle.c_grammar.specs.Part as q
use Rattle.pt_tree.specs.SpecifierTree.{view_spec, view_field}
use Rattle.c_parser.specs.Parts.{of_spec, of_field}
use Rattle.c_parser.proofs.specifiers.+specifiers.Goals as goal

pub specifiers-returns-in_err-first-clause-parses : goal.specifiers-returns-in_err-first-clause-parses
specifiers-returns-in_err-first-clause-parses t c = let is : c.from_residual-in_err-first.result ≡ Err c.in_err-first.field-0.0 = search rules in rw is (record { from = λ o e rest parts. c.in_ok-begin.ensures.from _ _ _ _ ((c.in_err-first.ensures.parses).from o e _ _) })

pub specifiers-returns-in_err-all-clause-parses : goal.specifiers-returns-in_err-all-clause-parses
specifiers-returns-in_err-all-clause-parses t c = let is : c.from_residual-in_err-all.result ≡ Err c.in_err-all.field-0.0 = search rules in rw is (record { from = λ o e rest parts. c.in_ok-begin.ensures.from _ _ _ _ (c.in_ok-first.ensures.parses.from _ _ _ (built _ _ _ _ _ _ _ _ _ (same_top (λ xs. q.specs (map view_spec xs)) _ _ _ (sym c.in_ok-specs.ensures)) ((c.in_err-all.ensures.parses).from o e _ _))) })

pub specifiers-returns-clause-parses : goal.specifiers-returns-clause-parses
specifiers-returns-clause-parses t c = record { from = λ rest parts o k. c.in_ok-begin.ensures.from _ _ _ _ (c.in_ok-first.ensures.parses.from _ _ _ (built _ _ _ _ _ _ _ _ _ (same_top (λ xs. q.specs (map view_spec xs)) _ _ _ (sym c.in_ok-specs.ensures)) (c.in_ok-all.ensures.parses.from _ _ _ (k)))) }

pub more_specifiers-loop-specs-init : goal.more_specifiers-loop-specs-init
more_specifiers-loop-specs-init t c = record { repeats = record { from = λ rest parts o k. k }; after = omega arith; within = omega arith }

pub more_specifiers-returns-in_err-more-clause-parses : goal.more_specifiers-returns-in_err-more-clause-parses
more_specifiers-returns-in_err-more-clause-parses t c = let is : c.from_residual.result ≡ Err c.in_err-more.field-0.0 = search rules in rw is (record { from = λ o e rest parts. c.loop-specs.invariant.repeats.from _ _ _ ((c.in_err-more.ensures.fails c.args.depth).from o e _ _) })

pub more_specifiers-returns-then-not-more-clause-parses : goal.more_specifiers-returns-then-not-more-clause-parses
more_specifiers-returns-then-not-more-clause-parses t c = record { from = λ rest parts o k. c.loop-specs.invariant.repeats.from _ _ _ ((c.in_ok-more.ensures.goes.second c.if-not-more.true).from _ _ _ _ (k)) }

pub more_specifiers-returns-in_err-one-clause-parses : goal.more_specifiers-returns-in_err-one-clause-parses
more_specifiers-returns-in_err-one-clause-parses t c = let is : c.from_residual-in_err-one.result ≡ Err c.in_err-one.field-0.0 = search rules in rw is (record { from = λ o e rest parts. c.loop-specs.invariant.repeats.from _ _ _ ((c.in_ok-more.ensures.goes.first c.if-not-more.false).from _ _ _ _ ((c.in_err-one.ensures.parses).from o e _ _)) })

pub more_specifiers-loop-specs-preserved : goal.more_specifiers-loop-specs-preserved
more_specifiers-loop-specs-preserved t c = record { repeats = record { from = λ rest parts o k. c.loop-specs.invariant.repeats.from _ _ _ ((c.in_ok-more.ensures.goes.first c.if-not-more.false).from _ _ _ _ (c.in_ok-one.ensures.parses.from _ _ _ (built _ _ _ _ _ _ _ _ _ (pushed q.specs view_spec _ _ _ _ c.in_ok-push.ensures.items) (k)))) }; after = omega (arith, c.loop-specs.invariant.after, c.loop-specs.invariant.within, c.in_ok-one.ensures.goes_on.0, c.in_ok-one.ensures.goes_on.1); within = omega (arith, c.loop-specs.invariant.after, c.loop-specs.invariant.within, c.in_ok-one.ensures.goes_on.0, c.in_ok-one.ensures.goes_on.1) }

pub specifier-returns-in-13-clause-parses : goal.specifier-returns-in-13-clause-parses
specifier-returns-in-13-clause-parses t c = by_rule [] of_spec c.args.tokens.now s.Spec c.args.at c.args.depth 13 _ (subst (Enters c.args.tokens.now s.Spec c.args.at) c.in-13.is c.in_ok-rule.ensures.enters) (c.attribute.ensures.parses c.args.depth)

pub specifier-returns-in-14-clause-parses : goal.specifier-returns-in-14-clause-parses
specifier-returns-in-14-clause-parses t c = by_rule [] of_spec c.args.tokens.now s.Spec c.args.at c.args.depth 14 _ (subst (Enters c.args.tokens.now s.Spec c.args.at) c.in-14.is c.in_ok-rule.ensures.enters) (c.word.ensures.parses c.args.depth)

pub specifier-returns-in-15-clause-parses : goal.specifier-returns-in-15-clause-parses
specifier-returns-in-15-clause-parses t c = by_rule [] of_spec c.args.tokens.now s.Spec c.args.at c.args.depth 15 _ (subst (Enters c.args.tokens.now s.Spec c.args.at) c.in-15.is c.in_ok-rule.ensures.enters) (c.word-in-15.ensures.parses c.args.depth)

pub specifier-returns-in-16-clause-parses : goal.specifier-returns-in-16-clause-parses
specifier-returns-in-16-clause-parses t c = by_rule [] of_spec c.args.tokens.now s.Spec c.args.at c.args.depth 16 _ (subst (Enters c.args.tokens.now s.Spec c.args.at) c.in-16.is c.in_ok-rule.ensures.enters) (c.word-in-16.ensures.parses c.args.depth)

pub specifier-returns-in-17-clause-parses : goal.specifier-returns-in-17-clause-parses
specifier-returns-in-17-clause-parses t c = by_rule [] of_spec c.args.tokens.now s.Spec c.args.at c.args.depth 17 _ (subst (Enters c.args.tokens.now s.Spec c.args.at) c.in-17.is c.in_ok-rule.ensures.enters) (c.word-in-17.ensures.parses c.args.depth)

pub specifier-returns-in-18-clause-parses : goal.specifier-returns-in-18-clause-parses
specifier-returns-in-18-clause-parses t c = by_rule [] of_spec c.args.tokens.now s.Spec c.args.at c.args.depth 18 _ (subst (Enters c.args.tokens.now s.Spec c.args.at) c.in-18.is c.in_ok-rule.ensures.enters) (c.word-in-18.ensures.parses c.args.depth)

pub specifier-returns-in-19-clause-parses : goal.specifier-returns-in-19-clause-parses
specifier-returns-in-19-clause-parses t c = by_rule [] of_spec c.args.tokens.now s.Spec c.args.at c.args.depth 19 _ (subst (Enters c.args.tokens.now s.Spec c.args.at) c.in-19.is c.in_ok-rule.ensures.enters) (c.word-in-19.ensures.parses c.args.depth)

pub specifier-returns-in-20-clause-parses : goal.specifier-returns-in-20-clause-parses
specifier-returns-in-20-clause-parses t c = by_rule [] of_spec c.args.tokens.now s.Spec c.args.at c.args.depth 20 _ (subst (Enters c.args.tokens.now s.Spec c.args.at) c.in-20.is c.in_ok-rule.ensures.enters) (c.word-in-20.ensures.parses c.args.depth)

pub specifier-returns-in-21-clause-parses : goal.specifier-returns-in-21-clause-parses
specifier-returns-in-21-clause-parses t c = by_rule [] of_spec c.args.tokens.now s.Spec c.args.at c.args.depth 21 _ (subst (Enters c.args.tokens.now s.Spec c.args.at) c.in-21.is c.in_ok-rule.ensures.enters) (c.word-in-21.ensures.parses c.args.depth)

pub specifier-returns-in-22-clause-parses : goal.specifier-returns-in-22-clause-parses
specifier-returns-in-22-clause-parses t c = by_rule [] of_spec c.args.tokens.now s.Spec c.args.at c.args.depth 22 _ (subst (Enters c.args.tokens.now s.Spec c.args.at) c.in-22.is c.in_ok-rule.ensures.enters) (c.word-in-22.ensures.parses c.args.depth)

pub specifier-returns-in-23-clause-parses : goal.specifier-returns-in-23-clause-parses
specifier-returns-in-23-clause-parses t c = by_rule [] of_spec c.args.tokens.now s.Spec c.args.at c.args.depth 23 _ (subst (Enters c.args.tokens.now s.Spec c.args.at) c.in-23.is c.in_ok-rule.ensures.enters) (c.word-in-23.ensures.parses c.args.depth)

pub specifier-returns-in_default-clause-parses : goal.specifier-returns-in_default-clause-parses
specifier-returns-in_default-clause-parses t c = by_rule [] of_spec c.args.tokens.now s.Spec c.args.at c.args.depth 24 _ (subst (Enters c.args.tokens.now s.Spec c.args.at) (last_Spec c.in_ok-rule.rule (search rules) (search rules) (search rules) (search rules) (search rules) (search rules) (search rules) (search rules) (search rules) (search rules) (search rules) c.in_ok-rule.ensures.among) c.in_ok-rule.ensures.enters) c.structure.ensures.parses

pub structure-returns-in_err-after-clause-parses : goal.structure-returns-in_err-after-clause-parses
structure-returns-in_err-after-clause-parses t c = let is : c.from_residual-in_err-after.result ≡ Err c.in_err-after.field-0.0 = search rules in rw is (record { from = λ o e rest parts. c.in_ok-begin.ensures.from _ _ _ _ ((c.in_err-after.ensures.expects c.args.depth).from o e _ _) })

pub structure-returns-in_err-tag-clause-parses : goal.structure-returns-in_err-tag-clause-parses
structure-returns-in_err-tag-clause-parses t c = let is : c.from_residual-in_err-tag.result ≡ Err c.in_err-tag.field-0.0 = search rules in rw is (record { from = λ o e rest parts. c.in_ok-begin.ensures.from _ _ _ _ ((c.in_ok-after.ensures.expects c.args.depth).from _ _ _ ((c.in_err-tag.ensures.word c.args.depth).from o e _ _)) })

pub structure-returns-in_err-body-clause-parses : goal.structure-returns-in_err-body-clause-parses
structure-returns-in_err-body-clause-parses t c = let is : c.from_residual-in_err-body.result ≡ Err c.in_err-body.field-0.0 = search rules in rw is (record { from = λ o e rest parts. c.in_ok-begin.ensures.from _ _ _ _ ((c.in_ok-after.ensures.expects c.args.depth).from _ _ _ ((c.in_ok-tag.ensures.word c.args.depth).from _ _ _ ((c.in_err-body.ensures.parses).from o e _ _))) })

pub structure-returns-clause-parses : goal.structure-returns-clause-parses
structure-returns-clause-parses t c = record { from = λ rest parts o k. c.in_ok-begin.ensures.from _ _ _ _ ((c.in_ok-after.ensures.expects c.args.depth).from _ _ _ ((c.in_ok-tag.ensures.word c.args.depth).from _ _ _ (c.in_ok-body.ensures.parses.from _ _ _ (built _ _ _ _ _ _ _ _ _ (search rules) (k))))) }

pub struct_body-returns-in_err-inside-clause-parses : goal.struct_body-returns-in_err-inside-clause-parses
struct_body-returns-in_err-inside-clause-parses t c = let is : c.from_residual-in_err-inside.result ≡ Err c.in_err-inside.field-0.0 = search rules in rw is (record { from = λ o e rest parts. (c.in_ok-stands.ensures.goes.first c.if-stands.true).from _ _ _ _ ((c.in_err-inside.ensures.expects c.args.depth).from o e _ _) })

pub struct_body-returns-in_err-first-clause-parses : goal.struct_body-returns-in_err-first-clause-parses
struct_body-returns-in_err-first-clause-parses t c = let is : c.from_residual-in_err-first.result ≡ Err c.in_err-first.field-0.0 = search rules in rw is (record { from = λ o e rest parts. (c.in_ok-stands.ensures.goes.first c.if-stands.true).from _ _ _ _ ((c.in_ok-inside.ensures.expects c.args.depth).from _ _ _ ((c.in_err-first.ensures.parses).from o e _ _)) })

pub struct_body-returns-in_err-all-clause-parses : goal.struct_body-returns-in_err-all-clause-parses
struct_body-returns-in_err-all-clause-parses t c = let is : c.from_residual-in_err-all.result ≡ Err c.in_err-all.field-0.0 = search rules in rw is (record { from = λ o e rest parts. (c.in_ok-stands.ensures.goes.first c.if-stands.true).from _ _ _ _ ((c.in_ok-inside.ensures.expects c.args.depth).from _ _ _ (c.in_ok-first.ensures.parses.from _ _ _ (built _ _ _ _ _ _ _ _ _ (same_top (λ xs. q.fields (map view_field xs)) _ _ _ (sym c.in_ok-fields.ensures)) ((c.in_err-all.ensures.parses).from o e _ _)))) })

pub struct_body-returns-in_err-next-clause-parses : goal.struct_body-returns-in_err-next-clause-parses
struct_body-returns-in_err-next-clause-parses t c = let is : c.from_residual-in_err-next.result ≡ Err c.in_err-next.field-0.0 = search rules in rw is (record { from = λ o e rest parts. (c.in_ok-stands.ensures.goes.first c.if-stands.true).from _ _ _ _ ((c.in_ok-inside.ensures.expects c.args.depth).from _ _ _ (c.in_ok-first.ensures.parses.from _ _ _ (built _ _ _ _ _ _ _ _ _ (same_top (λ xs. q.fields (map view_field xs)) _ _ _ (sym c.in_ok-fields.ensures)) (c.in_ok-all.ensures.parses.from _ _ _ ((c.in_err-next.ensures.expects c.args.depth).from o e _ _))))) })

pub struct_body-returns-then-stands-clause-parses : goal.struct_body-returns-then-stands-clause-parses
struct_body-returns-then-stands-clause-parses t c = record { from = λ rest parts o k. (c.in_ok-stands.ensures.goes.first c.if-stands.true).from _ _ _ _ ((c.in_ok-inside.ensures.expects c.args.depth).from _ _ _ (c.in_ok-first.ensures.parses.from _ _ _ (built _ _ _ _ _ _ _ _ _ (same_top (λ xs. q.fields (map view_field xs)) _ _ _ (sym c.in_ok-fields.ensures)) (c.in_ok-all.ensures.parses.from _ _ _ ((c.in_ok-next.ensures.expects c.args.depth).from _ _ _ (k)))))) }

pub struct_body-returns-clause-parses : goal.struct_body-returns-clause-parses
struct_body-returns-clause-parses t c = record { from = λ rest parts o k. (c.in_ok-stands.ensures.goes.second c.if-stands.false).from _ _ _ _ (built _ _ _ _ _ _ _ _ _ (search rules) (k)) }

pub more_fields-loop-fields-init : goal.more_fields-loop-fields-init
more_fields-loop-fields-init t c = record { repeats = record { from = λ rest parts o k. k }; after = omega arith; within = omega arith }

pub more_fields-returns-in_err-more-clause-parses : goal.more_fields-returns-in_err-more-clause-parses
more_fields-returns-in_err-more-clause-parses t c = let is : c.from_residual.result ≡ Err c.in_err-more.field-0.0 = search rules in rw is (record { from = λ o e rest parts. c.loop-fields.invariant.repeats.from _ _ _ ((c.in_err-more.ensures.fails c.args.depth).from o e _ _) })

pub more_fields-returns-then-not-more-clause-parses : goal.more_fields-returns-then-not-more-clause-parses
more_fields-returns-then-not-more-clause-parses t c = record { from = λ rest parts o k. c.loop-fields.invariant.repeats.from _ _ _ ((c.in_ok-more.ensures.goes.second c.if-not-more.true).from _ _ _ _ (k)) }

pub more_fields-returns-in_err-one-clause-parses : goal.more_fields-returns-in_err-one-clause-parses
more_fields-returns-in_err-one-clause-parses t c = let is : c.from_residual-in_err-one.result ≡ Err c.in_err-one.field-0.0 = search rules in rw is (record { from = λ o e rest parts. c.loop-fields.invariant.repeats.from _ _ _ ((c.in_ok-more.ensures.goes.first c.if-not-more.false).from _ _ _ _ ((c.in_err-one.ensures.parses).from o e _ _)) })

pub more_fields-loop-fields-preserved : goal.more_fields-loop-fields-preserved
more_fields-loop-fields-preserved t c = record { repeats = record { from = λ rest parts o k. c.loop-fields.invariant.repeats.from _ _ _ ((c.in_ok-more.ensures.goes.first c.if-not-more.false).from _ _ _ _ (c.in_ok-one.ensures.parses.from _ _ _ (built _ _ _ _ _ _ _ _ _ (pushed q.fields view_field _ _ _ _ c.in_ok-push.ensures.items) (k)))) }; after = omega (arith, c.loop-fields.invariant.after, c.loop-fields.invariant.within, c.in_ok-one.ensures.goes_on.0, c.in_ok-one.ensures.goes_on.1); within = omega (arith, c.loop-fields.invariant.after, c.loop-fields.invariant.within, c.in_ok-one.ensures.goes_on.0, c.in_ok-one.ensures.goes_on.1) }

pub field-returns-clause-parses : goal.field-returns-clause-parses
field-returns-clause-parses t c = opened of_field c.args.tokens.now s.Field c.args.at c.args.depth _ (omega arith) c.field_declaration.ensures.parses

pub field_declaration-returns-in_err-specs-clause-parses : goal.field_declaration-returns-in_err-specs-clause-parses
field_declaration-returns-in_err-specs-clause-parses t c = let is : c.from_residual-in_err-specs.result ≡ Err c.in_err-specs.field-0.0 = search rules in rw is (record { from = λ o e rest parts. c.in_ok-begin.ensures.from _ _ _ _ ((c.in_err-specs.ensures.parses).from o e _ _) })

pub field_declaration-returns-in_err-first-clause-parses : goal.field_declaration-returns-in_err-first-clause-parses
field_declaration-returns-in_err-first-clause-parses t c = let is : c.from_residual-in_err-first.result ≡ Err c.in_err-first.field-0.0 = search rules in rw is (record { from = λ o e rest parts. c.in_ok-begin.ensures.from _ _ _ _ (c.in_ok-specs.ensures.parses.from _ _ _ ((c.in_err-first.ensures.parses c.args.depth).from o e _ _)) })

pub field_declaration-returns-in_err-all-clause-parses : goal.field_declaration-returns-in_err-all-clause-parses
field_declaration-returns-in_err-all-clause-parses t c = let is : c.from_residual-in_err-all.result ≡ Err c.in_err-all.field-0.0 = search rules in rw is (record { from = λ o e rest parts. c.in_ok-begin.ensures.from _ _ _ _ (c.in_ok-specs.ensures.parses.from _ _ _ ((c.in_ok-first.ensures.parses c.args.depth).from _ _ _ (built _ _ _ _ _ _ _ _ _ (same_top q.declarators _ _ _ (sym c.in_ok-declarators.ensures)) ((c.in_err-all.ensures.parses c.args.depth).from o e _ _)))) })

pub field_declaration-returns-in_err-next-clause-parses : goal.field_declaration-returns-in_err-next-clause-parses
field_declaration-returns-in_err-next-clause-parses t c = let is : c.from_residual-in_err-next.result ≡ Err c.in_err-next.field-0.0 = search rules in rw is (record { from = λ o e rest parts. c.in_ok-begin.ensures.from _ _ _ _ (c.in_ok-specs.ensures.parses.from _ _ _ ((c.in_ok-first.ensures.parses c.args.depth).from _ _ _ (built _ _ _ _ _ _ _ _ _ (same_top q.declarators _ _ _ (sym c.in_ok-declarators.ensures)) ((c.in_ok-all.ensures.parses c.args.depth).from _ _ _ ((c.in_err-next.ensures.expects c.args.depth).from o e _ _))))) })

pub field_declaration-returns-clause-parses : goal.field_declaration-returns-clause-parses
field_declaration-returns-clause-parses t c = record { from = λ rest parts o k. c.in_ok-begin.ensures.from _ _ _ _ (c.in_ok-specs.ensures.parses.from _ _ _ ((c.in_ok-first.ensures.parses c.args.depth).from _ _ _ (built _ _ _ _ _ _ _ _ _ (same_top q.declarators _ _ _ (sym c.in_ok-declarators.ensures)) ((c.in_ok-all.ensures.parses c.args.depth).from _ _ _ ((c.in_ok-next.ensures.expects c.args.depth).from _ _ _ (built _ _ _ _ _ _ _ _ _ (search rules) (k))))))) }
