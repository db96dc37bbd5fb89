-- The blocks that explain faults of lexer, parser and types: a sentence, the line with a mark under it, and the
-- line that `check` reports. An empty line ends a block.
use Rattle.std.specs.Prelude.{ℕ, List, [], ◌++◌, ◌-◌, Bool, codes, length, ltb, slice_index_or}
use Rattle.pt_base.specs.declared.span.Span.{Span}
use Rattle.c_lexer.specs.declared.error.LexFault.{LexFault}
use Rattle.c_lexer.specs.declared.error.LexFaultKind.{LexFaultKind}
use Rattle.c_lexer.specs.declared.error.LexFaultKind.TheVariants.{BadByte, OpenComment, BadNumber, BadChar, TooLong}
use Rattle.front_end.specs.declared.parse_fault.ParseFault.{ParseFault}
use Rattle.check_declarations.specs.declared.fault.FaultKind.{FaultKind}
use Rattle.check_declarations.specs.declared.fault.FaultKind.TheVariants.{UnknownName, Redeclared, NotLvalue, WrongType, ArgCount, ConstWrite, OutOfProfile, NoMain, TooLarge, BadAttribute}
use Rattle.check_declarations.specs.declared.fault.TypeFault.{TypeFault}
use Rattle.front_end.specs.FaultLines.{lex_line, parse_line, type_line}
use Rattle.source_places.specs.Excerpts.{excerpt}
use Rattle.source_places.specs.Heads.{head}
use Rattle.explaining.specs.Sentences.{lex_sentence, parse_sentence, type_sentence}

-- the line of a stretch of the text, with a mark under it
abbrev pub span_excerpt : List ℕ → Span → List ℕ
span_excerpt text span = excerpt text span.from (span.to - span.from)

-- of a text that is too long no line is shown
abbrev pub lex_excerpt : List ℕ → LexFaultKind → ℕ → List ℕ
lex_excerpt text BadByte at = excerpt text at 1
lex_excerpt text OpenComment at = excerpt text at 1
lex_excerpt text BadNumber at = excerpt text at 1
lex_excerpt text BadChar at = excerpt text at 1
lex_excerpt text TooLong at = []

-- what is said of the fault at this byte, with its line
abbrev pub lex_text : List ℕ → List ℕ → LexFault → ℕ → List ℕ
lex_text name text f b = head name text f.at ++ lex_sentence f.kind b ++ codes "\n" ++ lex_excerpt text f.kind f.at

abbrev pub lex_block_at : List ℕ → List ℕ → LexFault → ℕ → List ℕ
lex_block_at name text f b = lex_text name text f b ++ lex_line f ++ codes "\n"

abbrev pub lex_block : List ℕ → List ℕ → LexFault → List ℕ
lex_block name text f = lex_block_at name text f (slice_index_or text f.at 0)

-- what is said of the fault, within the text or at its end, with its line
abbrev pub parse_text : List ℕ → List ℕ → ParseFault → Bool → List ℕ
parse_text name text f within = head name text f.at ++ parse_sentence f.kind within ++ codes "\n" ++ excerpt text f.at 1

abbrev pub parse_block_in : List ℕ → List ℕ → ParseFault → Bool → List ℕ
parse_block_in name text f within = parse_text name text f within ++ parse_line f ++ codes "\n"

abbrev pub parse_block : List ℕ → List ℕ → ParseFault → List ℕ
parse_block name text f = parse_block_in name text f (ltb f.at (length text))

-- where there is no main, no line is shown
abbrev pub type_excerpt : List ℕ → FaultKind → Span → List ℕ
type_excerpt text UnknownName span = span_excerpt text span
type_excerpt text Redeclared span = span_excerpt text span
type_excerpt text NotLvalue span = span_excerpt text span
type_excerpt text WrongType span = span_excerpt text span
type_excerpt text ArgCount span = span_excerpt text span
type_excerpt text ConstWrite span = span_excerpt text span
type_excerpt text OutOfProfile span = span_excerpt text span
type_excerpt text NoMain span = []
type_excerpt text TooLarge span = span_excerpt text span
type_excerpt text BadAttribute span = span_excerpt text span

abbrev pub type_text : List ℕ → List ℕ → TypeFault → List ℕ
type_text name text f = head name text f.span.from ++ type_sentence f.kind ++ codes "\n" ++ type_excerpt text f.kind f.span

abbrev pub type_block : List ℕ → List ℕ → TypeFault → List ℕ
type_block name text f = type_text name text f ++ type_line f ++ codes "\n"
