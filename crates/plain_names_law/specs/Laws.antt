-- The names of the functions of a text's program.
use Rattle.std.specs.Prelude.{ℕ, List}
use Rattle.typed_tree.specs.TypedTree.{TypedTree}
use Rattle.front_end.specs.Reading.{HasTypedTree}
use Rattle.starting_texts.specs.Names.{HasPlainNames}

-- in the typed tree of a text no two functions have one name, and each name is an identifier
abbrev pub NamesOfTextsArePlain : Type 0
NamesOfTextsArePlain = (text : List ℕ) (tree : TypedTree) → HasTypedTree text tree → HasPlainNames tree
