-- The whole text: what stands outside of functions, what the parser answers, and what is known of a
-- program.
use Rattle.std.proofs.Common.{◌≡◌, ℕ, ◌<◌, ◌≤◌, ◌^◌, List, [], ◌∷◌, ◌++◌, Some, length, refl, subst, arith, Err}
use Rattle.std.specs.Prelude.{IsTrue}
use Rattle.pt_base.specs.declared.span.Span.{Span}
use Rattle.pt_tree.specs.SpecifierTree.{SpecTree, spec_trees}
use Rattle.pt_tree.specs.ProgramTree.{ItemTree}
use Rattle.pt_tree.specs.Nodes.{nodes_of}
use Rattle.pt_tree.specs.Facts.{items_sound}
use Rattle.c_lexer.specs.Values.{ValuesFit}
use Rattle.c_lexer.specs.declared.token.Token.{Token}
use Rattle.c_grammar.specs.declared.symbol.Symbol.TheVariants.{TranslationUnit}
use Rattle.c_grammar.specs.Part.{Part, specs, item, items}
use Rattle.c_grammar.specs.Builds.{an_item}
use Rattle.c_grammar.specs.Machine.{gives, run, done}
use Rattle.c_grammar.proofs.ProgramFacts.{program_facts}
use Rattle.c_parser.specs.declared.error.ParseError.{ParseError}
use Rattle.c_parser.specs.declared.error.ParseError.TheVariants.{Memory, FaultAt, TooDeep}
use Rattle.c_parser.specs.declared.rest.Rest.{Rest}
use Rattle.c_parser.specs.declared.rest.Rest.TheVariants.{Declares, Defines}
use Rattle.c_parser.specs.Rests.{of_rest, item_of}
use Rattle.c_parser.specs.Parses.{Turns, Fails, deepest}
use Rattle.c_parser.specs.Answer.{Gives, IsAnswer}

pub an_item_of : (r : Rest) (at : Span) (ss : List SpecTree) (parts : List Part) → an_item at (of_rest r ++ specs ss ∷ parts) ≡ item (item_of r at (spec_trees ss)) ∷ parts
an_item_of (Declares ds) at ss parts = refl
an_item_of (Defines d ps b) at ss parts = refl

pub answers_fault : (tokens : List Token) (err : ParseError) → Fails tokens (gives TranslationUnit ∷ []) 0 0 (items [] ∷ []) err → IsAnswer tokens (Err err)
answers_fault tokens Memory f = tt
answers_fault tokens (FaultAt n) f = let x = f.from _ refl [] [] in (x.steps, x.by)
answers_fault tokens (TooDeep n) f = let x = f.from _ refl [] [] in (x.steps, x.by)

-- what the whole text gives, from no item at first
pub gives_items : (tokens : List Token) (none is : List ItemTree) (next : ℕ) → none ≡ [] → Turns tokens (gives TranslationUnit ∷ []) 0 0 (items none ∷ []) (items is ∷ []) next → Gives tokens (done (items is ∷ []))
gives_items tokens none is next e turns =
    let o = done (items is ∷ []) in
    let x = turns.from [] [] o (record { steps = 1; by = refl }) in
    (x.steps, subst (λ before. run (Some deepest) tokens x.steps (gives TranslationUnit ∷ []) 0 0 (items before ∷ []) ≡ o) e x.by)

-- the program that so many tokens give has few nodes, its constants are in range, and its words are short
pub facts : (tokens : List Token) (is : List ItemTree) → length tokens ≤ 1048576 → ValuesFit tokens → Gives tokens (done (items is ∷ [])) → (nodes_of is < 2 ^ 22) × IsTrue (items_sound is)
facts tokens is few fit g =
    let h = program_facts (Some deepest) tokens g.0 is fit g.1 in
    let nodes = h.0 in
    (omega arith, h.1)
