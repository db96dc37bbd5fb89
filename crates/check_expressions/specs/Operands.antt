-- What is known of an expression: its type, what it designates, and its typed tree.
use Rattle.std.specs.Prelude.{pos, List, [], ◌∷◌, ◌++◌, Bool, true, false, Option, Some, None}
use Rattle.pt_base.specs.declared.span.Span.{Span}
use Rattle.pt_tree.specs.ExpressionTree as e
use Rattle.type_rules.specs.declared.types.Type.{«Type»}
use Rattle.type_rules.specs.declared.types.Type.TheVariants.{Bad, Void, Int, Struct, Array, Pointer}
use Rattle.type_rules.specs.declared.types.Value.{Value}
use Rattle.type_rules.specs.Types.{value_type}
use Rattle.typed_tree.specs.declared.types.VarTy.{VarTy}
use Rattle.typed_tree.specs.declared.types.VarTy.TheVariants as v
use Rattle.typed_tree.specs.ExpressionTree.{ExprTree, typed, FormTree, constant, read, decay, PlaceTree, place, RootTree, deref, assigned, StepTree, item, step_trees}
use Rattle.check_declarations.specs.declared.fault.TypeFault.{TypeFault}
pub use Rattle.pt_base.specs.Spans.{nowhere}

-- the typed tree of an expression, by what the expression is
pub data Elaboration : Type 0 where
  -- a value
  value : ExprTree → Elaboration
  -- an object: where it begins, and the steps into its parts
  object : RootTree → List StepTree → Elaboration
  -- what a pointer points to, under a * whose expression has the span
  pointed : ExprTree → Span → Elaboration
  -- what a moved pointer points to, an element: the expression has the moved pointer's span
  moved : ExprTree → Elaboration
  -- an element of an array, the array's span, the index, and the expression's span
  element : RootTree → List StepTree → Span → ExprTree → Span → Elaboration

-- An expression. An array isn't decayed here.
pub record Known : Type 0 where
  pub ty : «Type»
  -- what it designates is const itself
  pub fixed : Bool
  -- it designates an object (C99 6.3.2.1p1)
  pub designates : Bool
  -- it is an integer constant of value 0
  pub null : Bool
  pub tree : Elaboration

-- what an operator makes of its operands, and the faults of its own
pub record Made : Type 0 where
  pub operand : Known
  pub faults : List TypeFault

-- ---- types as the typed tree has them

-- the type of a value; None is void, and also stands where a type is Bad
unfoldable pub var_type : «Type» → Option VarTy
var_type Bad = None
var_type Void = None
var_type (Int t) = Some (v.Int t)
var_type (Struct n) = Some (v.Struct n)
var_type (Array e count) = Some (v.Array e count)
var_type (Pointer e fixed) = Some (v.Pointer e fixed)

-- ---- places

unfoldable pub root_of : Elaboration → RootTree
root_of (value e) = assigned e
root_of (object root steps) = root
root_of (pointed p s) = deref p s
root_of (moved (typed s t f)) = deref (typed s t f) s
root_of (element root steps at i s) = root

unfoldable pub steps_of : Elaboration → List StepTree
steps_of (value e) = []
steps_of (object root steps) = steps
steps_of (pointed p s) = []
steps_of (moved p) = []
steps_of (element root steps at i s) = steps ++ item i s ∷ []

-- the object as a place. Of a struct that is a value, as only an assignment gives one, it is the
-- assigned object.
abbrev pub place_of : Elaboration → PlaceTree
place_of t = place (root_of t) (step_trees (steps_of t))

-- ---- values

-- an array is read by decaying (C99 6.3.2.1p3)
unfoldable pub read_form : «Type» → PlaceTree → FormTree
read_form (Array e count) p = decay p
read_form t p = read p

abbrev pub read_object : Span → «Type» → Bool → PlaceTree → ExprTree
read_object s ty fixed p = typed s (var_type (value_type ty fixed)) (read_form ty p)

unfoldable pub read_tree : Span → «Type» → Bool → Elaboration → ExprTree
read_tree s ty fixed (value e) = e
read_tree s ty fixed (object root steps) = read_object s ty fixed (place_of (object root steps))
read_tree s ty fixed (pointed p span) = read_object s ty fixed (place_of (pointed p span))
read_tree s ty fixed (moved p) = read_object s ty fixed (place_of (moved p))
read_tree s ty fixed (element root steps at i span) = read_object s ty fixed (place_of (element root steps at i span))

-- the tree of the expression's value; the expression has the span
unfoldable pub value_tree : Span → Known → ExprTree
value_tree s k = read_tree s k.ty k.fixed k.tree

-- the expression as a value (C99 6.3.2.1p2 and p3)
unfoldable pub value_of : Known → Value
value_of k = record { ty = value_type k.ty k.fixed; null = k.null }

-- ---- what is known of simple expressions

-- the tree that stands in place of a faulty expression's
abbrev pub no_tree : ExprTree
no_tree = typed nowhere None (constant (pos 0))

-- an expression of type Bad; its uses have no fault of their own
abbrev pub faulty : Known
faulty = record { ty = Bad; fixed = false; designates = false; null = false; tree = value no_tree }

-- a value that is no constant
abbrev pub plain : «Type» → ExprTree → Known
plain ty tree = record { ty = ty; fixed = false; designates = false; null = false; tree = value tree }

-- an object of this type
abbrev pub designated : «Type» → Bool → Elaboration → Known
designated ty fixed tree = record { ty = ty; fixed = fixed; designates = true; null = false; tree = tree }

abbrev pub fine : Known → Made
fine k = record { operand = k; faults = [] }

abbrev pub refused : List TypeFault → Made
refused faults = record { operand = faulty; faults = faults }

-- ---- spans

-- where an expression stands; parentheses round it belong to what it stands in
unfoldable pub span_of : e.ExprTree → Span
span_of (e.name w) = w.span
span_of (e.constant c) = c.span
span_of (e.prefix s op a) = s
span_of (e.cast s specs pointer a) = s
span_of (e.postfix s a ps) = s
span_of (e.chain s a ls) = s
span_of (e.choice s a b c) = s
span_of (e.assign s op a b) = s

-- from the beginning of the first to the end of the second
abbrev pub joined : Span → Span → Span
joined first last = record { from = first.from; to = last.to }
