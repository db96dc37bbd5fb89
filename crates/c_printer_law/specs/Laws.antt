-- What is proved of printed trees.
use Rattle.std.specs.Prelude.{ℕ, ◌≡◌, List, [], ◌∷◌, None, map, IsTrue}
use Rattle.std.specs.List.{flat_map}
use Rattle.c_lexer.specs.declared.token.Token.{Token}
use Rattle.c_grammar.specs.Part.{items}
use Rattle.c_grammar.specs.Machine.{derived, done}
use Rattle.pt_tree.specs.ProgramTree.{ItemTree}
use Rattle.c_printer.specs.Pieces.{kind_of, value_of}
use Rattle.c_printer.specs.Items.{item_words}
use Rattle.c_printer.specs.Plain.{items_plain}
use Rattle.c_printer.specs.Unplaced.{item}

-- tokens of a plain program's words, wherever they stand, give the program, positions aside
abbrev pub DerivesAgain : Type 0
DerivesAgain =
    (program : List ItemTree) (tokens : List Token) → IsTrue (items_plain program)
    → map (λ t. t.kind) tokens ≡ map kind_of (flat_map item_words program)
    → map (λ t. t.value) tokens ≡ map value_of (flat_map item_words program)
    → (read : List ItemTree) × (steps : ℕ)
    × (derived None tokens steps ≡ done (items read ∷ []))
    × (map item read ≡ map item program)
