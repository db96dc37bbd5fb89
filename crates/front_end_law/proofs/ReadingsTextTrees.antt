-- The typed tree of a text is well formed.
use Rattle.std.proofs.Common.{◌<◌, ◌≤◌, ◌*◌, ◌^◌, ℕ, List, length, sym, subst, arith}
use Rattle.std.specs.Prelude.{IsTrue, Some}
use Rattle.c_grammar.proofs.ProgramFacts.{program_facts}
use Rattle.c_parser.specs.Parses.{deepest}
use Rattle.pt_tree.specs.Facts.{items_sound}
use Rattle.pt_tree.specs.Nodes as parsed
use Rattle.pt_tree.specs.ProgramTree.{ItemTree}
use Rattle.typed_tree.specs.TypedTree.{TypedTree}
use Rattle.typed_tree.specs.WellFormed.{is_well_formed}
use Rattle.type_law.proofs.ProgramsAreWellFormed.{programs_are_well_formed}
use Rattle.front_end.specs.Reading.{IsProgram}
use Rattle.front_end_law.specs.ReadingsLaws.{TreesOfTextsAreWellFormed}
use Rattle.front_end_law.proofs.ReadingsTextTokens.{tokens_few, values_fit}

pub program_sound : (text : List ℕ) (program : List ItemTree) → IsProgram text program → (parsed.nodes_of program < 2 ^ 22) × IsTrue (items_sound program)
program_sound text program is =
    let short : length text ≤ 1048576 = is.lexed.short in
    let facts = program_facts (Some deepest) is.tokens is.parses.0 program (values_fit text is.tokens short is.lexed.lexes) is.parses.1 in
    let nodes : parsed.nodes_of program ≤ 2 * length is.tokens = facts.0 in
    let few : length is.tokens ≤ length text = tokens_few text is.tokens is.lexed.lexes in
    (omega (arith, short, nodes, few), facts.1)

pub trees_are_sound : TreesOfTextsAreWellFormed
trees_are_sound text tree has =
    let sound = program_sound text has.program has.reads in
    subst (λ (t : TypedTree). IsTrue (is_well_formed t)) (sym has.typed) (programs_are_well_formed has.program sound.0 sound.1 has.faultless)
