-- What the parser answers: what the derivation of the whole text gives, where no more than the
-- deepest nesting is open.
use Rattle.std.specs.Prelude.{◌≡◌, ℕ, List, [], ◌∷◌, Some, Result, Ok, Err, map}
use Rattle.c_lexer.specs.declared.token.Token.{Token}
use Rattle.pt_tree.specs.declared.parsed_program.Program.{Program}
use Rattle.pt_tree.specs.ProgramTree.{view_item}
use Rattle.c_grammar.specs.Part.{items}
use Rattle.c_grammar.specs.Machine.{Outcome, done, fault_at, too_deep, derived}
use Rattle.c_parser.specs.declared.error.ParseError.{ParseError}
use Rattle.c_parser.specs.declared.error.ParseError.TheVariants.{Memory, FaultAt, TooDeep}
use Rattle.c_parser.specs.Parses.{deepest}

-- the derivation within the limit gives this
abbrev pub Gives : List Token → Outcome → Type 0
Gives tokens o = (steps : ℕ) × (derived (Some deepest) tokens steps ≡ o)

abbrev pub IsAnswer : List Token → Result Program ParseError → Type 0
IsAnswer tokens (Ok p) = Gives tokens (done (items (map view_item p.items.items) ∷ []))
IsAnswer tokens (Err Memory) = Unit {0}
IsAnswer tokens (Err (FaultAt n)) = Gives tokens (fault_at n)
IsAnswer tokens (Err (TooDeep n)) = Gives tokens (too_deep n)
