-- The lines that report the faults of lexer, parser and types.
use Rattle.std.specs.Prelude.{ℕ, List, [], ◌∷◌, ◌++◌, codes}
use Rattle.std.specs.Fmt.{decimal}
use Rattle.pt_base.specs.declared.span.Span.{Span}
use Rattle.c_lexer.specs.Faults as lex
use Rattle.c_lexer.specs.declared.error.LexFault.{LexFault}
use Rattle.front_end.specs.ParseFaults as parse
use Rattle.front_end.specs.declared.parse_fault.ParseFault.{ParseFault}
use Rattle.check_declarations.specs.Faults as types
use Rattle.check_declarations.specs.declared.fault.TypeFault.{TypeFault}

-- a fault's number and name
abbrev pub numbered : ℕ → List ℕ → List ℕ
numbered number name = decimal number ++ codes " " ++ name

-- a stretch of the text
abbrev pub place_text : Span → List ℕ
place_text span = decimal span.from ++ codes ".." ++ decimal span.to

-- the first fault of a text that has no tokens
abbrev pub lex_line : LexFault → List ℕ
lex_line f = codes "lex " ++ numbered (lex.fault_number f.kind) (lex.fault_name f.kind) ++ codes " " ++ decimal f.at ++ codes "\n"

-- the first fault of tokens that are no program
abbrev pub parse_line : ParseFault → List ℕ
parse_line f = codes "parse " ++ numbered (parse.fault_number f.kind) (parse.fault_name f.kind) ++ codes " " ++ decimal f.at ++ codes "\n"

-- a type fault
abbrev pub type_line : TypeFault → List ℕ
type_line f = codes "types " ++ numbered (types.fault_number f.kind) (types.fault_name f.kind) ++ codes " " ++ place_text f.span ++ codes "\n"

-- type faults, a line each
abbrev pub type_lines : List TypeFault → List ℕ
type_lines [] = []
type_lines (f ∷ fs) = type_line f ++ type_lines fs
