-- Which parts of a derivation are named by identifiers: its words, and the functions that are made of them.
use Rattle.std.proofs.Common.{◌≡◌, ◌∙◌, Bool, true, ◌&&◌, List, [], ◌∷◌, ◌++◌, IsTrue, refl}
use Rattle.std.specs.List.{list_all}
use Rattle.std.proofs.lemmas.Bool.{and_from}
use Rattle.std.proofs.lemmas.List.Folds.{list_all-append}
use Rattle.c_lexer.specs.Lexemes.{is_identifier}
use Rattle.c_grammar.specs.Part.{Part, word, declarator, a_rest, item, items}
use Rattle.pt_tree.specs.ProgramTree.{ItemTree, declares, function}

-- a function's name is an identifier
abbrev pub item_named : ItemTree → Bool
item_named (declares d) = true
item_named (function f) = is_identifier f.declarator.name.bytes

abbrev pub part_named : Part → Bool
part_named (word w) = is_identifier w.bytes
part_named (declarator d) = is_identifier d.name.bytes
part_named (a_rest d ps b) = is_identifier d.name.bytes
part_named (item i) = item_named i
part_named (items is) = list_all item_named is
part_named x = true

abbrev pub Named : List Part → Type 0
Named [] = Unit {0}
Named (x ∷ xs) = IsTrue (part_named x) × Named xs

pub named_append : (new parts : List Part) → Named new → Named parts → Named (new ++ parts)
named_append [] parts h i = i
named_append (x ∷ xs) parts h i = (h.0, named_append xs parts h.1 i)

-- one more item
pub item_added : (is : List ItemTree) (i : ItemTree) → list_all item_named is ≡ true → item_named i ≡ true → list_all item_named (is ++ i ∷ []) ≡ true
item_added is i all one = list_all-append item_named is (i ∷ []) ∙ and_from (list_all item_named is) (item_named i && true) all (and_from (item_named i) true one refl)
