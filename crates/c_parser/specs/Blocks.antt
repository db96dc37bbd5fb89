-- How a block begins.
use Rattle.std.specs.Prelude.{ℕ, List, [], ◌∷◌, ◌++◌, drop, Result, Ok, Err}
use Rattle.c_lexer.specs.declared.token.Token.{Token}
use Rattle.c_grammar.specs.declared.symbol.Symbol.TheVariants.{Block}
use Rattle.c_grammar.specs.Part.{Part}
use Rattle.c_grammar.specs.Machine.{Entry, gives, Outcome, wanted}
use Rattle.c_parser.specs.declared.error.ParseError.{ParseError}
use Rattle.c_parser.specs.Parses.{Comes, Fails}

-- a block goes on as what stands behind its opening brace
pub record OpensBlock (tokens : List Token) (at next : ℕ) : Type 0 where
  pub from : (depth : ℕ) (rest : List Entry) (parts : List Part) (o : Outcome) → Comes tokens (drop 1 (wanted at 60) ++ rest) next depth parts o → Comes tokens (gives Block ∷ rest) at depth parts o

abbrev pub StartsBlock : List Token → ℕ → Result ℕ ParseError → Type 0
StartsBlock tokens at (Ok next) = OpensBlock tokens at next
StartsBlock tokens at (Err err) = (depth : ℕ) → Fails tokens (gives Block ∷ []) at depth [] err
