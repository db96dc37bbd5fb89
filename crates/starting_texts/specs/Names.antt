-- What the laws take of the names of a program's functions.
use Rattle.std.specs.Prelude.{map, IsTrue}
use Rattle.std.specs.List.{list_all}
use Rattle.c_lexer.specs.Lexemes.{is_identifier}
use Rattle.typed_tree.specs.TypedTree.{TypedTree}
use Rattle.typed_tree.specs.WellFormed.{name_of, are_distinct}

-- no two functions have one name, and each name is an identifier
pub record HasPlainNames (t : TypedTree) : Type 0 where
  pub distinct : IsTrue (are_distinct (map name_of t.functions))
  pub identifiers : IsTrue (list_all is_identifier (map name_of t.functions))
