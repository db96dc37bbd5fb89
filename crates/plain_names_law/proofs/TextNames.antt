-- The names of the functions of a text's program.
use Rattle.std.proofs.Common.{◌≡◌, ◌∙◌, List, ℕ, true, map, refl, ap}
use Rattle.std.specs.List.{list_all}
use Rattle.std.specs.Prelude.{Some}
use Rattle.c_lexer.specs.Lexemes.{is_identifier}
use Rattle.c_parser.specs.Parses.{deepest}
use Rattle.pt_tree.specs.ProgramTree.{ItemTree}
use Rattle.typed_tree.specs.TypedTree.{TypedTree}
use Rattle.typed_tree.specs.WellFormed.{name_of}
use Rattle.typed_tree.proofs.WellFormedLemmas.{facts_of}
use Rattle.check_programs.specs.Programs.{checked_program}
use Rattle.check_programs.specs.Progress.{at_start}
use Rattle.check_programs.specs.Unions.{function_marks}
use Rattle.front_end.specs.Reading.{IsProgram}
use Rattle.front_end_law.proofs.ReadingsTextTrees.{trees_are_sound}
use Rattle.plain_names_law.specs.Laws.{NamesOfTextsArePlain}
use Rattle.plain_names_law.proofs.FunctionNames.{items_named}
use Rattle.plain_names_law.proofs.PartNames.{item_named}
use Rattle.plain_names_law.proofs.ProgramNames.{program_named}
use Rattle.plain_names_law.proofs.TokenNames.{tokens_named}

-- the functions of a text's items
items_of_text : (text : List ℕ) (program : List ItemTree) → IsProgram text program → list_all item_named program ≡ true
items_of_text text program is = program_named (Some deepest) is.tokens is.parses.0 program (tokens_named text is.tokens is.lexed.lexes) is.parses.1

identifiers : (text : List ℕ) (program : List ItemTree) → IsProgram text program → list_all is_identifier (map name_of (checked_program program).tree.functions) ≡ true
identifiers text program is = items_named (function_marks program) at_start program (items_of_text text program is) refl

pub names_are_plain : NamesOfTextsArePlain
names_are_plain text tree has = record {
  distinct = (facts_of tree (trees_are_sound text tree has)).names;
  identifiers = ap (λ (t : TypedTree). list_all is_identifier (map name_of t.functions)) has.typed ∙ identifiers text has.program has.reads;
}
