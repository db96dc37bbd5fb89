use Rattle.std.proofs.Common.{◌≡◌, ◌∷◌, Err, rules, sym, ap, ◌∙◌, map}
use Rattle.c_grammar.specs.Part as q
use Rattle.pt_tree.specs.SpecifierTree.{view_spec}
use Rattle.c_parser.proofs.Steps.{built}
use Rattle.pt_tree.specs.SpecifierTree.{spec_trees}
use Rattle.c_parser.specs.Rests.{item_of}
use Rattle.c_parser.proofs.Answering.{an_item_of}
use Rattle.c_parser.proofs.program.external.Goals as goal

pub returns-in_err-specs-clause-parses : goal.returns-in_err-specs-clause-parses
returns-in_err-specs-clause-parses c = let is : c.from_residual-in_err-specs.result ≡ Err c.in_err-specs.field-0.0 = search rules in rw is (record { from = λ o e rest parts. c.in_ok-begin.ensures.from _ _ _ _ (c.in_err-specs.ensures.parses.from o e _ _) })

pub returns-in_err-rest-clause-parses : goal.returns-in_err-rest-clause-parses
returns-in_err-rest-clause-parses c = let is : c.from_residual-in_err-rest.result ≡ Err c.in_err-rest.field-0.0 = search rules in rw is (record { from = λ o e rest parts. c.in_ok-begin.ensures.from _ _ _ _ (c.in_ok-specs.ensures.parses.from _ _ _ (c.in_err-rest.ensures.parses.from o e _ _)) })

pub returns-clause-parses : goal.returns-clause-parses
returns-clause-parses c = record { from = λ rest parts o k. c.in_ok-begin.ensures.from _ _ _ _ (c.in_ok-specs.ensures.parses.from _ _ _ (c.in_ok-rest.ensures.parses.from _ _ _ (built _ _ _ _ _ _ _ _ _ (an_item_of c.in_ok-rest.rest.tree _ (map view_spec c.in_ok-specs.specs.tree.items) parts ∙ ap (λ i. q.item i ∷ parts) (sym (c.into_item-tree.ensures ∙ ap (λ z. item_of c.in_ok-rest.rest.tree z (spec_trees (map view_spec c.in_ok-specs.specs.tree.items))) c.span_of-span.ensures))) k))) }
