-- Places of the text come from places of the text, and nothing else does.
use Rattle.std.specs.Prelude.{◌≡◌, ℕ}
use Rattle.typed_tree.specs.StatementTree.{BodyTree}
use Rattle.typed_tree.specs.TypedTree.{FunctionTree, TypedTree}
use Rattle.lowering.specs.Functions.{core_of}
use Rattle.lowered_code_law.specs.PlacesBareCode.{bare_code}
use Rattle.lowered_code_law.specs.PlacesBareTrees.{bare_body, bare_function, bare_program}

-- The code of a function, without its places, is the code of the function without places.
abbrev pub PlacesAloneFollowPlaces : Type 0
PlacesAloneFollowPlaces = (t : TypedTree) (n : ℕ) (f : FunctionTree) (body : BodyTree) → bare_code (core_of t n f body) ≡ core_of (bare_program t) n (bare_function f) (bare_body body)
