-- Which code can be said in C as the normal form has it. A null pointer is the constant 0, which is a pointer only
-- where another type asks for one, and a pointer into what is const points to const.
use Rattle.std.specs.Prelude.{ℕ, List, [], ◌∷◌, Option, Some, None, Bool, true, false, ◌&&◌, ◌||◌, not, ◌≡◌, IsTrue, slice_get}
use Rattle.pt_tree.specs.declared.signature.Param.{Param}
use Rattle.pt_tree.specs.declared.signature.Signature.{Signature}
use Rattle.typed_tree.specs.declared.types.VarTy.{VarTy}
use Rattle.typed_tree.specs.declared.types.VarTy.TheVariants.{Int, Struct, Array, Pointer}
use Rattle.typed_tree.specs.TypeTests.{points_to_const}
use Rattle.typed_tree.specs.WellFormedExpression.{param_type}
use Rattle.pt_core.specs.CodeTree.{RootTree, local, global, deref, PlaceTree, place, ExprTree, constant, read, unary, binary, convert, null, address, decay, move, compare, difference, ExprTrees, no_exprs, expr_and, StmtTree, clear, check, assign, copy, call, choose, repeat, break_out, continue_on, give_back, StmtTrees, no_stmts, stmt_and, FunctionTree, ProgramTree}
use Rattle.pt_core.specs.Types.{Context, type_of, place_type}
use Rattle.pt_core.specs.WellFormed.{called_signature, context_of}
pub use Rattle.pt_tree.specs.Signatures.{params_of}

-- ---- null

abbrev pub is_null : ExprTree → Bool
is_null (null elem) = true
is_null _ = false

abbrev mutual
  -- null stands only where it is compared with what isn't null
  pub stands : ExprTree → Bool
  stands (constant t v) = true
  stands (read p) = place_stands p
  stands (unary op t a s) = stands a
  stands (binary op t a b s) = stands a && stands b
  stands (convert to a) = stands a
  stands (null elem) = false
  stands (address p) = place_stands p
  stands (decay p) = place_stands p
  stands (move a b back s) = stands a && stands b
  stands (compare op a b s) = (stands a && (stands b || is_null b)) || (is_null a && stands b)
  stands (difference a b s) = stands a && stands b

  pub place_stands : PlaceTree → Bool
  place_stands (place root path) = root_stands root

  pub root_stands : RootTree → Bool
  root_stands (local v) = true
  root_stands (global g) = true
  root_stands (deref a s) = stands a

-- ---- const

abbrev mutual
  -- what the expression points to is const, where it is a pointer
  pub points_const : Context → ExprTree → Bool
  points_const c (constant t v) = false
  points_const c (read p) = points_to_const (Some (place_type c p))
  points_const c (unary op t a s) = false
  points_const c (binary op t a b s) = false
  points_const c (convert to a) = false
  points_const c (null elem) = false
  points_const c (address p) = is_const c p
  points_const c (decay p) = is_const c p
  points_const c (move a b back s) = points_const c a
  points_const c (compare op a b s) = false
  points_const c (difference a b s) = false

  -- the object is const: it is reached through a pointer to const
  pub is_const : Context → PlaceTree → Bool
  is_const c (place root path) = is_const_root c root

  pub is_const_root : Context → RootTree → Bool
  is_const_root c (local v) = false
  is_const_root c (global g) = false
  is_const_root c (deref a s) = points_const c a

-- a pointer type whose pointee is const or not
abbrev pub with_const : Bool → VarTy → VarTy
with_const fixed (Int t) = Int t
with_const fixed (Struct n) = Struct n
with_const fixed (Array elem count) = Array elem count
with_const fixed (Pointer elem other) = Pointer elem fixed

-- the type of an expression in C
abbrev pub c_type : Context → ExprTree → VarTy
c_type c a = with_const (points_const c a) (type_of c a)

-- ---- what is stored and passed

-- const is kept where the first is stored in an object of the second type
abbrev pub keeps_const : VarTy → VarTy → Bool
keeps_const (Pointer a f) (Pointer b g) = not f || g
keeps_const _ _ = true

-- null, or a value that stands alone and keeps const
abbrev pub is_stored : Context → VarTy → ExprTree → Bool
is_stored c ty a = is_null a || (stands a && keeps_const (c_type c a) ty)

abbrev pub are_passed : Context → List Param → ExprTrees → Bool
are_passed c [] no_exprs = true
are_passed c [] (expr_and a rest) = true
are_passed c (p ∷ ps) no_exprs = true
are_passed c (p ∷ ps) (expr_and a rest) = is_stored c (param_type p.kind) a && are_passed c ps rest

-- ---- statements

abbrev pub is_struct : VarTy → Bool
is_struct (Int t) = false
is_struct (Struct n) = true
is_struct (Array elem count) = false
is_struct (Pointer elem fixed) = false

abbrev pub is_given : Option ExprTree → Bool
is_given None = true
is_given (Some a) = stands a

abbrev mutual
  -- Nothing const is written. What is copied is a struct: an array is copied by a statement for each element,
  -- which would be the same only where the two don't overlap.
  pub is_said : Context → (ℕ → Option Signature) → StmtTree → Bool
  is_said c called (clear v) = true
  is_said c called (check p) = place_stands p
  is_said c called (assign p a) = place_stands p && (not (is_const c p) && is_stored c (place_type c p) a)
  is_said c called (copy p q) = (place_stands p && place_stands q) && (not (is_const c p) && is_struct (place_type c p))
  is_said c called (call f arguments v s) = are_passed c (params_of (called f)) arguments
  is_said c called (choose a xs ys) = (is_null a || stands a) && (are_said c called xs && are_said c called ys)
  is_said c called (repeat xs s) = are_said c called xs
  is_said c called break_out = true
  is_said c called continue_on = true
  is_said c called (give_back a) = is_given a

  pub are_said : Context → (ℕ → Option Signature) → StmtTrees → Bool
  are_said c called no_stmts = true
  are_said c called (stmt_and a rest) = is_said c called a && are_said c called rest

-- each function of the program, in what its own numbers name
abbrev pub CodeIsSaid : Bool → ProgramTree → Type 0
CodeIsSaid monitor p = (n : ℕ) (f : FunctionTree) → slice_get p.functions n ≡ Some f → IsTrue (are_said (context_of p f.vars) (called_signature monitor p) f.body)
