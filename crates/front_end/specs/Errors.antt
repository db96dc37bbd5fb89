-- The error of a stage as the front end hands it on.
use Rattle.c_lexer.specs.declared.error.LexError.{LexError}
use Rattle.c_lexer.specs.declared.error.LexError.TheVariants as lex
use Rattle.check_programs.specs.declared.answer.TypeError.{TypeError}
use Rattle.check_programs.specs.declared.answer.TypeError.TheVariants as types
use Rattle.front_end.specs.declared.error.FrontError.{FrontError}
use Rattle.front_end.specs.declared.error.FrontError.TheVariants.{Lex, Types, Memory}

abbrev pub lex_error : LexError → FrontError
lex_error (lex.Fault fault) = Lex fault
lex_error lex.Memory = Memory

abbrev pub type_error : TypeError → FrontError
type_error (types.Faults faults) = Types faults
type_error types.Memory = Memory
