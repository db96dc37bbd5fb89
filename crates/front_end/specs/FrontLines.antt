-- The lines of an error of the front end; want of memory has none.
use Rattle.std.specs.Prelude.{ℕ, List, Option, Some, None}
use Rattle.front_end.specs.declared.error.FrontError.{FrontError}
use Rattle.front_end.specs.declared.error.FrontError.TheVariants.{Lex, Parse, Types, Memory}
use Rattle.front_end.specs.FaultLines.{lex_line, parse_line, type_lines}

abbrev pub front_lines : FrontError → Option (List ℕ)
front_lines (Lex fault) = Some (lex_line fault)
front_lines (Parse fault) = Some (parse_line fault)
front_lines (Types faults) = Some (type_lines faults.items)
front_lines Memory = None
