-- The judgment on code: no operator, conversion to another type, index, condition, argument of a host
-- that is run here, unmarked parameter of a request or exit status can meet a handle.
use Rattle.std.specs.Prelude.{◌≡◌, ◌<◌, ◌≤◌, ◌+◌, ◌*◌, ℕ, suc, true, false, List, [], ◌∷◌, Option, Some, None}
use Rattle.typed_tree.specs.declared.types.VarTy.{VarTy}
use Rattle.typed_tree.specs.declared.types.VarTy.TheVariants.{Int, Struct, Array, Pointer}
use Rattle.typed_tree.specs.Sizes.{sizes_of, elem_cells, cells_by}
use Rattle.pt_core.specs.CodeTree.{RootTree, local, global, deref, PlaceTree, place, ExprTree, constant, read, unary, binary, convert, null, address, decay, move, compare, difference, ExprTrees, no_exprs, expr_and, StmtTree, clear, check, assign, copy, call, choose, repeat, break_out, continue_on, give_back, StmtTrees, no_stmts, stmt_and, ProgramTree}
use Rattle.pt_core.specs.Types.{Context, type_of, place_type, root_type}
use Rattle.pt_core.specs.Values.{is_type}
use Rattle.pt_core.specs.Calls.{function_in}
use Rattle.handle_classes.specs.Classes.{Class, World, Scope, scope_in, integer_class, path_offset, element_cells, class_of, place_class, root_class}

-- ---- expressions and places

-- an integer that is no handle
pub record IsPlain (c : Class) : Type 0 where
  pub integer : c.pointer ≡ false
  pub number : c.may 0 ≡ false

-- a pointer's elements have as many cells as its type says
abbrev pub HasElements : Context → VarTy → ℕ → Type 0
HasElements c (Int t) size = ⊥
HasElements c (Struct n) size = ⊥
HasElements c (Array elem count) size = ⊥
HasElements c (Pointer elem fixed) size = elem_cells (sizes_of c.structs) elem ≡ size

-- the elements of an array lie within the object, and all are of the class of the first
pub record AreAlike (c : Class) (size count : ℕ) : Type 0 where
  pub within : (i n : ℕ) → i < count → n < size → (i * size + n < c.size)
  pub may : (i n : ℕ) → i < count → n < size → c.may (i * size + n) ≡ c.may n
  pub must : (i n : ℕ) → i < count → n < size → c.must (i * size + n) ≡ c.must n

abbrev pub IsAnArray : Class → ℕ → VarTy → Type 0
IsAnArray c size (Int t) = Unit {0}
IsAnArray c size (Struct n) = Unit {0}
IsAnArray c size (Array elem count) = AreAlike c size count
IsAnArray c size (Pointer elem fixed) = Unit {0}

-- a path leads to what lies within an object of integers
abbrev pub IsWithin : Context → VarTy → VarTy → List ℕ → Class → Type 0
IsWithin c ty inner [] of = Unit {0}
IsWithin c ty inner (k ∷ ks) of = (of.pointer ≡ false) × (path_offset c.structs ty (k ∷ ks) + cells_by (sizes_of c.structs) inner ≤ of.size)

abbrev mutual
  pub IsFine : Scope → ExprTree → Type 0
  IsFine s (constant t v) = Unit {0}
  IsFine s (read p) = IsFinePlace s p × ((place_class s p).pointer ≡ false → 0 < (place_class s p).size)
  IsFine s (unary op t a span) = IsFine s a × IsPlain (class_of s a)
  IsFine s (binary op t a b span) = IsFine s a × IsFine s b × IsPlain (class_of s a) × IsPlain (class_of s b)
  IsFine s (convert to a) = IsFine s a × ((class_of s a).pointer ≡ false) × (is_type (type_of s.context a) to ≡ false → (class_of s a).may 0 ≡ false)
  IsFine s (null elem) = Unit {0}
  IsFine s (address p) = IsFinePlace s p × ((place_class s p).pointer ≡ false) × (element_cells s.context p ≤ (place_class s p).size)
  IsFine s (decay p) = IsFinePlace s p × ((place_class s p).pointer ≡ false) × IsAnArray (place_class s p) (element_cells s.context p) (place_type s.context p)
  IsFine s (move p by back span) = IsFine s p × IsFine s by × ((class_of s p).pointer ≡ true) × IsPlain (class_of s by)
  IsFine s (compare op a b span) = IsFine s a × IsFine s b × ((class_of s a).pointer ≡ true) × ((class_of s b).pointer ≡ true)
  IsFine s (difference a b span) = IsFine s a × IsFine s b × ((class_of s a).pointer ≡ true) × ((class_of s b).pointer ≡ true)

  pub IsFinePlace : Scope → PlaceTree → Type 0
  IsFinePlace s (place root path) = IsFineRoot s root × IsWithin s.context (root_type s.context root) (place_type s.context (place root path)) path (root_class s root)

  pub IsFineRoot : Scope → RootTree → Type 0
  IsFineRoot s (local v) = Unit {0}
  IsFineRoot s (global g) = Unit {0}
  IsFineRoot s (deref p span) = IsFine s p × ((class_of s p).pointer ≡ true) × HasElements s.context (type_of s.context p) (class_of s p).size

-- ---- statements

-- a value of the first class may go to a variable of the second
pub record Flows (v k : Class) : Type 0 where
  pub kind : v.pointer ≡ k.pointer
  pub first : k.pointer ≡ false → v.may 0 ≡ true → k.may 0 ≡ true
  pub size : k.pointer ≡ true → v.size ≡ k.size
  pub may : k.pointer ≡ true → (n : ℕ) → n < k.size → v.may n ≡ true → k.may n ≡ true
  pub must : k.pointer ≡ true → (n : ℕ) → n < k.size → k.must n ≡ true → v.must n ≡ true

-- A value goes to a place: an integer to a cell where handles may lie if it may be one, a pointer to a
-- variable that is one.
pub record Goes (v k : Class) : Type 0 where
  pub kind : v.pointer ≡ k.pointer
  pub room : k.pointer ≡ false → 0 < k.size
  pub sealed : k.pointer ≡ false → v.may 0 ≡ true → k.must 0 ≡ true
  pub flows : k.pointer ≡ true → Flows v k

-- so many cells of the second object go to the first
pub record Copies (to from : Class) (size : ℕ) : Type 0 where
  pub to_object : to.pointer ≡ false
  pub from_object : from.pointer ≡ false
  pub to_room : size ≤ to.size
  pub from_room : size ≤ from.size
  pub sealed : (n : ℕ) → n < size → from.may n ≡ true → to.must n ≡ true

-- arguments, each of the class of its parameter
abbrev pub AreFineArguments : Scope → ExprTrees → (ℕ → Class) → Type 0
AreFineArguments s no_exprs into = Unit {0}
AreFineArguments s (expr_and e rest) into = IsFine s e × Flows (class_of s e) (into 0) × AreFineArguments s rest (λ n. into (suc n))

-- what a call of this function gives goes to this variable, if to one
abbrev pub TakesResult : World → Scope → ℕ → Option ℕ → Type 0
TakesResult w s f None = Unit {0}
TakesResult w s f (Some v) = Flows (integer_class (w.result f)) (s.variable v)

abbrev pub IsFineResult : World → Scope → ℕ → Option ExprTree → Type 0
IsFineResult w s f None = Unit {0}
IsFineResult w s f (Some e) = IsFine s e × Flows (class_of s e) (integer_class (w.result f))

-- in function number f
abbrev mutual
  pub IsFineStatement : World → Scope → ℕ → StmtTree → Type 0
  IsFineStatement w s f (clear v) = Unit {0}
  IsFineStatement w s f (check p) = IsFinePlace s p
  IsFineStatement w s f (assign p e) = IsFinePlace s p × IsFine s e × Goes (class_of s e) (place_class s p)
  IsFineStatement w s f (copy to from) =
      IsFinePlace s to × IsFinePlace s from × Copies (place_class s to) (place_class s from) (cells_by (sizes_of s.context.structs) (place_type s.context to))
  IsFineStatement w s f (call callee args result span) = AreFineArguments s args (w.param callee) × TakesResult w s callee result
  IsFineStatement w s f (choose e first second) = IsFine s e × ((class_of s e).pointer ≡ false → (class_of s e).may 0 ≡ false) × AreFineStatements w s f first × AreFineStatements w s f second
  IsFineStatement w s f (repeat body span) = AreFineStatements w s f body
  IsFineStatement w s f break_out = Unit {0}
  IsFineStatement w s f continue_on = Unit {0}
  IsFineStatement w s f (give_back e) = IsFineResult w s f e

  pub AreFineStatements : World → Scope → ℕ → StmtTrees → Type 0
  AreFineStatements w s f no_stmts = Unit {0}
  AreFineStatements w s f (stmt_and first rest) = IsFineStatement w s f first × AreFineStatements w s f rest

-- ---- programs

-- Every function's code is fine. A handle that a variable or a global must be able to hold is one that it
-- may hold, and no global is a pointer.
pub record IsFineProgram (program : ProgramTree) (w : World) : Type 0 where
  pub code : (f : ℕ) → AreFineStatements w (scope_in program w f) f (function_in program f).body
  pub variables : (f v n : ℕ) → (w.variable f v).pointer ≡ false → (w.variable f v).must n ≡ true → (w.variable f v).may n ≡ true
  pub objects : (g : ℕ) → (w.global g).pointer ≡ false
  pub globals : (g n : ℕ) → (w.global g).must n ≡ true → (w.global g).may n ≡ true
