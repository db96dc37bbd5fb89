use Rattle.std.proofs.Common.{◌≡◌, [], ◌∷◌, Err, rules, ap, subst, map}
use Rattle.pt_tree.specs.ProgramTree.{view_item}
use Rattle.c_grammar.specs.declared.symbol.Symbol.TheVariants.{TranslationUnit}
use Rattle.c_grammar.specs.Part.{items}
use Rattle.c_grammar.specs.Machine.{gives}
use Rattle.c_parser.specs.Parses.{Fails}
use Rattle.c_parser.proofs.Answering.{answers_fault, gives_items, facts}
use Rattle.c_parser.proofs.program.parse.Goals as goal

pub returns : goal.returns
returns c = gives_items c.args.tokens.now (map view_item c.new-items.result.items) (map view_item c.in_ok-all.all.tree.items) c.in_ok-all.all.next (ap (map view_item) c.new-items.ensures.items) c.in_ok-all.ensures.parses

pub invariant_of-result : goal.invariant_of-result
invariant_of-result c =
    let all = map view_item c.in_ok-all.all.tree.items in
    let known = facts c.args.tokens.now all c.requires.few c.requires.fit (gives_items c.args.tokens.now (map view_item c.new-items.result.items) all c.in_ok-all.all.next (ap (map view_item) c.new-items.ensures.items) c.in_ok-all.ensures.parses) in
    record { few = known.0; sound = known.1 }

pub returns-in_err-all : goal.returns-in_err-all
returns-in_err-all c =
    let is : c.from_residual.result ≡ Err c.in_err-all.field-0.0 = search rules in
    rw is (answers_fault c.args.tokens.now c.in_err-all.field-0.0 (subst (λ is. Fails c.args.tokens.now (gives TranslationUnit ∷ []) 0 0 (items (map view_item is) ∷ []) c.in_err-all.field-0.0) c.new-items.ensures.items c.in_err-all.ensures.parses))
