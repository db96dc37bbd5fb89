-- The labels of nodes.
use Rattle.std.specs.Prelude.{ℕ, List, [], ◌++◌, Bool, if◌then◌else◌, ◌&&◌, ◌||◌, codes, leb, map, nat_eq}
use Rattle.std.specs.Option.{option_map_or}
use Rattle.reach.specs.Tables.{function_id}
use Rattle.typed_tree.specs.Lookup.{signature_of}
use Rattle.typed_tree.specs.TypedTree.{TypedTree}
use Rattle.flow_check.specs.Shown.{variable_of}
use Rattle.flow_picture.specs.declared.node.Node.{Node}
use Rattle.flow_picture.specs.declared.node.Node.TheVariants.{Global, Variable, Result}
use Rattle.flow_picture.specs.Nodes.{owner_of}

abbrev pub is_letter : ℕ → Bool
is_letter b = (leb 65 b && leb b 90) || (leb 97 b && leb b 122)

abbrev pub is_digit : ℕ → Bool
is_digit b = leb 48 b && leb b 57

-- a space, `_`, `(` or `)`
abbrev pub is_sign : ℕ → Bool
is_sign b = (nat_eq b 32 || nat_eq b 95) || (nat_eq b 40 || nat_eq b 41)

-- every other byte stands as `?`, so that no label ends before its end
abbrev pub label_byte : ℕ → ℕ
label_byte b = if (is_letter b || is_digit b) || is_sign b then b else 63

abbrev pub label_bytes : List ℕ → List ℕ
label_bytes bytes = map label_byte bytes

-- the name of a variable or global
abbrev pub object_name : TypedTree → Node → List ℕ
object_name t x = option_map_or (λ y. label_bytes y.name) (variable_of t (owner_of x)) []

abbrev pub function_name : TypedTree → ℕ → List ℕ
function_name t f = option_map_or (λ s. label_bytes s.name) (signature_of t (function_id f)) []

-- `NAME`, `NAME in FUNCTION` and `FUNCTION()`
abbrev pub label_of : TypedTree → Node → List ℕ
label_of t (Global g) = object_name t (Global g)
label_of t (Variable f v) = object_name t (Variable f v) ++ codes " in " ++ function_name t f
label_of t (Result f) = function_name t f ++ codes "()"
