-- What a list of tokens comes to.
use Rattle.std.specs.Prelude.{ℕ, List, [], ◌∷◌, ◌⊎◌}
use Rattle.c_lexer.specs.declared.token.Token.{Token}
use Rattle.pt_tree.specs.ProgramTree.{ItemTree}
use Rattle.c_grammar.specs.Part.{items}
use Rattle.c_grammar.specs.Machine.{done, fault_at, too_deep}
use Rattle.c_parser.specs.Answer.{Gives}

-- the tokens are a program
abbrev pub AreSomeProgram : List Token → Type 0
AreSomeProgram tokens = (program : List ItemTree) × Gives tokens (done (items program ∷ []))

-- the derivation stops at the token of some number, or at the end: it can't stand there, or the nesting would
-- first go too deep
abbrev pub StopSomewhere : List Token → Type 0
StopSomewhere tokens = (number : ℕ) × (Gives tokens (fault_at number) ⊎ Gives tokens (too_deep number))

-- each list of tokens is a program, or its derivation stops somewhere
abbrev pub TokensComeToAnOutcome : Type 0
TokensComeToAnOutcome = (tokens : List Token) → AreSomeProgram tokens ⊎ StopSomewhere tokens
