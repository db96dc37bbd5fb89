-- Which cells may hold a handle, and what pointers may point to: the classes of variables, of places and
-- of the values of expressions.
use Rattle.std.specs.Prelude.{ℕ, ◌+◌, Bool, true, false, ◌&&◌, List, [], ◌∷◌}
use Rattle.typed_tree.specs.declared.types.VarTy.{VarTy}
use Rattle.typed_tree.specs.Sizes.{sizes_of, elem_cells, cells_by}
use Rattle.pt_core.specs.CodeTree.{RootTree, local, global, deref, PlaceTree, place, ExprTree, constant, read, unary, binary, convert, null, address, decay, move, compare, difference, ProgramTree}
use Rattle.pt_core.specs.Types.{Context, element_of, type_of, place_type, root_type}
use Rattle.pt_core.specs.Values.{is_type}
use Rattle.pt_core.specs.Calls.{context_in}
pub use Rattle.pt_core.specs.Values.{path_offset}

-- The class of an integer, of an object of integers, or of a pointer to such. By the number of a cell, in
-- the object or in each element that is pointed to: `may` it hold a handle; `must` it be one that may,
-- so that a handle can be written there. Both count for the first `size` cells alone. The value of an
-- integer is its first cell.
pub record Class : Type 0 where
  pub pointer : Bool
  pub size : ℕ
  pub may : ℕ → Bool
  pub must : ℕ → Bool

-- The classes that a program's code is judged by: of each function's variables; of globals, and of blocks
-- that were received along with a call; of the parameters of whatever is called; and whether the result of
-- a call may be a handle.
pub record World : Type 0 where
  pub variable : ℕ → ℕ → Class
  pub global : ℕ → Class
  pub received : ℕ → Class
  pub param : ℕ → ℕ → Class
  pub result : ℕ → Bool

-- what the names in one function's code mean
pub record Scope : Type 0 where
  pub context : Context
  pub variable : ℕ → Class
  pub global : ℕ → Class

abbrev pub scope_in : ProgramTree → World → ℕ → Scope
scope_in program w f = record { context = context_in program f; variable = w.variable f; global = w.global }

-- an integer that is no handle
abbrev pub number_class : Class
number_class = record { pointer = false; size = 1; may = λ n. false; must = λ n. true }

-- an integer that may be a handle, or not
abbrev pub integer_class : Bool → Class
integer_class sealed = record { pointer = false; size = 1; may = λ n. sealed; must = λ n. true }

abbrev pub null_class : ℕ → Class
null_class size = record { pointer = true; size = size; may = λ n. false; must = λ n. true }

-- so many cells of an object, from one of its cells on
abbrev pub part : ℕ → ℕ → Class → Class
part from size c = record { pointer = false; size = size; may = λ n. c.may (from + n); must = λ n. c.must (from + n) }

-- a pointer to elements of so many cells, the first of which lies where the object does
abbrev pub pointer_to : ℕ → Class → Class
pointer_to size c = record { pointer = true; size = size; may = c.may; must = c.must }

-- an element that is pointed to
abbrev pub pointed_to : Class → Class
pointed_to c = record { pointer = false; size = c.size; may = c.may; must = c.must }

-- a handle stays one in a conversion to its own type alone
abbrev pub converted_class : Bool → Class → Class
converted_class same c = integer_class (same && c.may 0)

-- what stands at a path in an object of this type
abbrev pub along_class : Context → VarTy → VarTy → List ℕ → Class → Class
along_class c ty inner [] of = of
along_class c ty inner (k ∷ ks) of = part (path_offset c.structs ty (k ∷ ks)) (cells_by (sizes_of c.structs) inner) of

-- how many cells the elements have to which the place's address points
abbrev pub element_cells : Context → PlaceTree → ℕ
element_cells c p = elem_cells (sizes_of c.structs) (element_of (place_type c p))

abbrev mutual
  pub class_of : Scope → ExprTree → Class
  class_of s (constant t v) = number_class
  class_of s (read p) = place_class s p
  class_of s (unary op t a span) = number_class
  class_of s (binary op t a b span) = number_class
  class_of s (convert to a) = converted_class (is_type (type_of s.context a) to) (class_of s a)
  class_of s (null elem) = null_class (elem_cells (sizes_of s.context.structs) elem)
  class_of s (address p) = pointer_to (element_cells s.context p) (place_class s p)
  class_of s (decay p) = pointer_to (element_cells s.context p) (place_class s p)
  class_of s (move p by back span) = class_of s p
  class_of s (compare op a b span) = number_class
  class_of s (difference a b span) = number_class

  pub place_class : Scope → PlaceTree → Class
  place_class s (place root path) = along_class s.context (root_type s.context root) (place_type s.context (place root path)) path (root_class s root)

  pub root_class : Scope → RootTree → Class
  root_class s (local v) = s.variable v
  root_class s (global g) = s.global g
  root_class s (deref p span) = pointed_to (class_of s p)
