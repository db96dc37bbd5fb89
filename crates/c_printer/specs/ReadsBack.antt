-- What it is that a text reads back as a tree, and that printed trees do.
use Rattle.std.specs.Prelude.{ℕ, ◌≡◌, List, [], ◌∷◌, None, map, IsTrue, not}
use Rattle.c_lexer.specs.declared.token.Token.{Token}
use Rattle.c_lexer.specs.Comments.{has_close}
use Rattle.c_lexer.specs.Lexes.{Lexes}
use Rattle.c_grammar.specs.Part.{items}
use Rattle.c_grammar.specs.Machine.{derived, done}
use Rattle.pt_tree.specs.ProgramTree.{ItemTree}
use Rattle.c_printer.specs.Unplaced.{item}
use Rattle.c_printer.specs.Plain.{items_plain}
use Rattle.c_printer.specs.Items.{text_of}

-- The text has these tokens, and the derivation of these gives the items, positions aside.
pub record ReadsBack (text : List ℕ) (program : List ItemTree) : Type 0 where
  pub tokens : List Token
  pub lexes : Lexes text tokens
  pub read : List ItemTree
  pub steps : ℕ
  pub derives : derived None tokens steps ≡ done (items read ∷ [])
  pub same : map item read ≡ map item program

-- a plain tree, printed behind a comment that is one, reads back
abbrev pub PrintedReadsBack : Type 0
PrintedReadsBack = (comment : List ℕ) (program : List ItemTree) → IsTrue (not (has_close comment)) → IsTrue (items_plain program) → ReadsBack (text_of comment program) program
