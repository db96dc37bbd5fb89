-- What the words of a printed text are to the lexer.
use Rattle.std.specs.Prelude.{ℕ, ◌≡◌, List, map, IsTrue, not}
use Rattle.std.specs.List.{flat_map}
use Rattle.c_lexer.specs.declared.token.Token.{Token}
use Rattle.c_lexer.specs.Comments.{has_close}
use Rattle.c_lexer.specs.Lexes.{Lexes}
use Rattle.pt_tree.specs.ProgramTree.{ItemTree}
use Rattle.c_printer.specs.Pieces.{kind_of, value_of}
use Rattle.c_printer.specs.Plain.{items_plain}
use Rattle.c_printer.specs.Items.{item_words, text_of}

-- wherever lines are broken, the tokens of the printed text are its words
abbrev pub LaidLexes : Type 0
LaidLexes =
    (comment : List ℕ) (program : List ItemTree) → IsTrue (not (has_close comment)) → IsTrue (items_plain program)
    → (tokens : List Token) × Lexes (text_of comment program) tokens
    × (map (λ t. t.kind) tokens ≡ map kind_of (flat_map item_words program))
    × (map (λ t. t.value) tokens ≡ map value_of (flat_map item_words program))
