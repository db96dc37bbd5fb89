-- What reading a program's text comes to: its typed tree, or the faults of the first stage that finds
-- one.
use Rattle.std.specs.Prelude.{◌≡◌, ◌≤◌, ℕ, List, [], ◌∷◌, length, map, slice_get, Option, None, Some, Result, Ok, Err}
use Rattle.c_lexer.specs.declared.TheConstants.{TEXT_LIMIT}
use Rattle.c_lexer.specs.declared.token.Token.{Token}
use Rattle.c_lexer.specs.declared.error.LexFault.{LexFault}
use Rattle.c_lexer.specs.Lexes.{Lexes, IsLexFault}
use Rattle.c_grammar.specs.Part.{items}
use Rattle.c_grammar.specs.Machine.{Outcome, done, fault_at, too_deep}
use Rattle.c_parser.specs.Answer.{Gives}
use Rattle.pt_tree.specs.declared.parsed_program.Program.{Program}
use Rattle.pt_tree.specs.ProgramTree.{ItemTree, view_item}
use Rattle.typed_tree.specs.declared.typed.Typed.{Typed}
use Rattle.typed_tree.specs.TypedTree.{TypedTree}
use Rattle.typed_tree.specs.TypedView.{view_typed}
use Rattle.check_declarations.specs.declared.fault.TypeFault.{TypeFault}
use Rattle.check_programs.specs.Answers.{AreFaults}
use Rattle.check_programs.specs.Programs.{checked_program, type_faults}
use Rattle.front_end.specs.declared.error.FrontError.{FrontError}
use Rattle.front_end.specs.declared.error.FrontError.TheVariants.{Lex, Parse, Types, Memory}
use Rattle.front_end.specs.declared.parse_fault.ParseFault.{ParseFault}
use Rattle.front_end.specs.declared.parse_fault.ParseFaultKind.{ParseFaultKind}
use Rattle.front_end.specs.declared.parse_fault.ParseFaultKind.TheVariants.{FaultAt, TooDeep}

-- the tokens of a text that is within the limit
pub record AreTokens (text : List ℕ) (tokens : List Token) : Type 0 where
  pub short : length text ≤ TEXT_LIMIT
  pub lexes : Lexes text tokens

-- the text is the program of these items
pub record IsProgram (text : List ℕ) (program : List ItemTree) : Type 0 where
  pub tokens : List Token
  pub lexed : AreTokens text tokens
  pub parses : Gives tokens (done (items program ∷ []))

-- where a token begins in the text; the end has the text's length
abbrev pub place_of : List ℕ → Option Token → ℕ
place_of text None = length text
place_of text (Some token) = token.span.from

-- what the derivation comes to where it stops at the token of this number
abbrev pub stopped : ParseFaultKind → ℕ → Outcome
stopped FaultAt n = fault_at n
stopped TooDeep n = too_deep n

-- the tokens of the text are no program: the derivation stops at the token that begins at that place
pub record IsParseFault (text : List ℕ) (fault : ParseFault) : Type 0 where
  pub tokens : List Token
  pub lexed : AreTokens text tokens
  pub number : ℕ
  pub stops : Gives tokens (stopped fault.kind number)
  pub place : fault.at ≡ place_of text (slice_get tokens number)

-- the text is a program without type faults, and this is its typed tree
pub record HasTypedTree (text : List ℕ) (tree : TypedTree) : Type 0 where
  pub program : List ItemTree
  pub reads : IsProgram text program
  pub faultless : type_faults program ≡ []
  pub typed : tree ≡ (checked_program program).tree

-- The text is a program with these type faults: all of them, at least one, in strictly ascending order
-- of their places and then of their numbers.
pub record HasTypeFaults (text : List ℕ) (faults : List TypeFault) : Type 0 where
  pub program : List ItemTree
  pub reads : IsProgram text program
  pub all : AreFaults faults (type_faults program)

-- what a text comes to
pub data Reading : Type 0 where
  typed_tree : TypedTree → Reading
  lex_fault : LexFault → Reading
  parse_fault : ParseFault → Reading
  type_faults_of : List TypeFault → Reading

-- the text comes to its typed tree, or to the faults of the first stage that finds one
abbrev pub ComesTo : List ℕ → Reading → Type 0
ComesTo text (typed_tree tree) = HasTypedTree text tree
ComesTo text (lex_fault fault) = IsLexFault text fault
ComesTo text (parse_fault fault) = IsParseFault text fault
ComesTo text (type_faults_of faults) = HasTypeFaults text faults

-- what the text comes to; want of memory tells nothing
abbrev pub Reads : List ℕ → Result Typed FrontError → Type 0
Reads text (Ok t) = ComesTo text (typed_tree (view_typed t))
Reads text (Err (Lex fault)) = ComesTo text (lex_fault fault)
Reads text (Err (Parse fault)) = ComesTo text (parse_fault fault)
Reads text (Err (Types faults)) = ComesTo text (type_faults_of faults.items)
Reads text (Err Memory) = Unit {0}

-- its parsed tree, or the faults of the first of two stages that finds one
abbrev pub HasTree : List ℕ → Result Program FrontError → Type 0
HasTree text (Ok p) = IsProgram text (map view_item p.items.items)
HasTree text (Err (Lex fault)) = IsLexFault text fault
HasTree text (Err (Parse fault)) = IsParseFault text fault
HasTree text (Err (Types faults)) = ⊥
HasTree text (Err Memory) = Unit {0}

-- a text comes to one reading at most
abbrev pub ReadingIsOne : Type 0
ReadingIsOne = (text : List ℕ) (r s : Reading) → ComesTo text r → ComesTo text s → r ≡ s
