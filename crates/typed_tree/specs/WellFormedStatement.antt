-- Which statements are well formed: their outermost expressions are, with types that fit where they
-- stand; break and continue stand in what they leave; the labels of a switch are distinct.
use Rattle.std.specs.Prelude.{List, [], ◌∷◌, Option, None, Some, Bool, true, false, ◌&&◌, not, slice_get, option_map, is_none, map}
use Rattle.std.specs.List.{list_any, list_all}
use Rattle.std.specs.Ordering.{int_eq}
use Rattle.pt_base.specs.declared.int_type.IntType.{IntType}
use Rattle.pt_int.specs.Conversion.{is_in_range}
use Rattle.typed_tree.specs.declared.ids.ExprId.{ExprId}
use Rattle.typed_tree.specs.declared.types.VarTy.{VarTy}
use Rattle.typed_tree.specs.declared.types.VarTy.TheVariants.{Int, Struct, Array, Pointer}
use Rattle.typed_tree.specs.declared.types.StructInfo.{StructInfo}
use Rattle.typed_tree.specs.declared.statement.TypedInit.{TypedInit}
use Rattle.typed_tree.specs.declared.statement.TypedInit.TheVariants as i
use Rattle.typed_tree.specs.declared.statement.TypedDeclarator.{TypedDeclarator}
use Rattle.typed_tree.specs.declared.statement.TypedForInit.{TypedForInit}
use Rattle.typed_tree.specs.declared.statement.TypedForInit.TheVariants as f
use Rattle.typed_tree.specs.declared.statement.TypedLabel.{TypedLabel}
use Rattle.typed_tree.specs.declared.statement.TypedLabel.TheVariants.{Case, Default}
use Rattle.typed_tree.specs.ExpressionTree.{ExprTree}
use Rattle.typed_tree.specs.StatementTree.{BodyTree, ElseTree, BodyTrees, SectionTree, SectionTrees, block, nothing, evaluate, declare, choose, while_true, do_while, for_each, give_back, stop_loop, next_turn, switch, no_else, otherwise, no_bodies, body_and, section, no_sections, section_and}
use Rattle.typed_tree.specs.Cells.{leaves_of}
use Rattle.typed_tree.specs.TypeTests.{same_types, both_int, integer_of, is_scalar, is_value}
use Rattle.typed_tree.specs.TypeRules.{promoted_value}
use Rattle.typed_tree.specs.WellFormedExpression.{Names, ty_of, is_typed}

-- what the statements of a function are tested by
pub record Scope : Type 0 where
  pub names : Names
  -- the outermost expressions of the program
  pub exprs : List ExprTree
  -- the function's result, None where it has none
  pub result : Option IntType

-- there is such an expression, it is well formed, and its type passes the test
abbrev pub found_fits : Names → (Option VarTy → Bool) → Option ExprTree → Bool
found_fits n test None = false
found_fits n test (Some a) = is_typed n a && test (ty_of a)

-- the same of the outermost expression of this number
abbrev pub expr_fits : Scope → (Option VarTy → Bool) → ExprId → Bool
expr_fits c test a = found_fits c.names test (slice_get c.exprs a.0)

abbrev pub any_type : Option VarTy → Bool
any_type t = true

-- of the promoted type t once it is promoted
abbrev pub promotes_to : IntType → Option VarTy → Bool
promotes_to t a = both_int (integer_of (promoted_value a)) (Some t)

-- an expression that may be left out
abbrev pub option_fits : Scope → (Option VarTy → Bool) → Option ExprId → Bool
option_fits c test None = true
option_fits c test (Some a) = expr_fits c test a

-- what the items of a brace list initialise, one after the other: the integers of an object, or a
-- pointer
abbrev pub item_types : List StructInfo → VarTy → List VarTy
item_types structs (Int t) = map Int (leaves_of structs (Int t))
item_types structs (Struct n) = map Int (leaves_of structs (Struct n))
item_types structs (Array elem count) = map Int (leaves_of structs (Array elem count))
item_types structs (Pointer elem fixed) = Pointer elem fixed ∷ []

-- each item has the type of what it initialises
abbrev pub items_fit : Scope → List VarTy → List ExprId → Bool
items_fit c ts [] = true
items_fit c [] (a ∷ rest) = false
items_fit c (t ∷ ts) (a ∷ rest) = expr_fits c (same_types (Some t)) a && items_fit c ts rest

-- an initialiser of a variable of this type, None where there is no such variable
abbrev pub init_fits : Scope → Option VarTy → TypedInit → Bool
init_fits c None init = false
init_fits c (Some t) i.Nothing = true
init_fits c (Some t) (i.Value a) = is_value (Some t) && expr_fits c (same_types (Some t)) a
init_fits c (Some t) (i.Items s as_given) = items_fit c (item_types c.names.structs t) as_given

abbrev pub declarator_fits : Scope → TypedDeclarator → Bool
declarator_fits c d = init_fits c (option_map (λ x. x.ty) (slice_get c.names.vars d.var.0)) d.init

abbrev pub declaration_fits : Scope → List TypedDeclarator → Bool
declaration_fits c ds = list_all (declarator_fits c) ds

abbrev pub for_init_fits : Scope → TypedForInit → Bool
for_init_fits c f.Nothing = true
for_init_fits c (f.Declare d) = declaration_fits c d.declarators
for_init_fits c (f.Evaluate a) = expr_fits c any_type a

-- what is returned fits the result
abbrev pub return_fits : Scope → Option ExprId → Bool
return_fits c None = is_none c.result
return_fits c (Some a) = expr_fits c (λ t. both_int (integer_of t) c.result) a

abbrev pub section_label : SectionTree → TypedLabel
section_label (section s l bs) = l

-- the labels of a switch, in order
abbrev pub labels_of : SectionTrees → List TypedLabel
labels_of no_sections = []
labels_of (section_and a rest) = section_label a ∷ labels_of rest

-- two labels of one value, or two times default
abbrev pub same_label : TypedLabel → TypedLabel → Bool
same_label (Case s v) (Case t w) = int_eq v w
same_label (Case s v) (Default t) = false
same_label (Default s) (Case t w) = false
same_label (Default s) (Default t) = true

abbrev pub labels_distinct : List TypedLabel → Bool
labels_distinct [] = true
labels_distinct (l ∷ ls) = not (list_any (same_label l) ls) && labels_distinct ls

-- the value of a case is in the range of the switch's type
abbrev pub label_fits : IntType → TypedLabel → Bool
label_fits t (Case s v) = is_in_range t v
label_fits t (Default s) = true

abbrev pub labels_fit : IntType → List TypedLabel → Bool
labels_fit t ls = list_all (label_fits t) ls && labels_distinct ls

abbrev mutual
  -- a statement; the first test tells whether a break may stand here, the second whether a continue may
  pub is_sound : Scope → Bool → Bool → BodyTree → Bool
  is_sound c out again (block s bs) = all_sound c out again bs
  is_sound c out again (nothing s) = true
  is_sound c out again (evaluate s a) = expr_fits c any_type a
  is_sound c out again (declare d) = declaration_fits c d.declarators
  is_sound c out again (choose s a b o) = expr_fits c is_scalar a && (is_sound c out again b && else_sound c out again o)
  is_sound c out again (while_true s a b) = expr_fits c is_scalar a && is_sound c true true b
  is_sound c out again (do_while s b a) = is_sound c true true b && expr_fits c is_scalar a
  is_sound c out again (for_each s i t u b) = for_init_fits c i && (option_fits c is_scalar t && (option_fits c any_type u && is_sound c true true b))
  is_sound c out again (give_back s a) = return_fits c a
  is_sound c out again (stop_loop s) = out
  is_sound c out again (next_turn s) = again
  is_sound c out again (switch s a t ss) = expr_fits c (promotes_to t) a && (labels_fit t (labels_of ss) && sections_sound c again ss)

  pub else_sound : Scope → Bool → Bool → ElseTree → Bool
  else_sound c out again no_else = true
  else_sound c out again (otherwise b) = is_sound c out again b

  pub all_sound : Scope → Bool → Bool → BodyTrees → Bool
  all_sound c out again no_bodies = true
  all_sound c out again (body_and b rest) = is_sound c out again b && all_sound c out again rest

  pub sections_sound : Scope → Bool → SectionTrees → Bool
  sections_sound c again no_sections = true
  sections_sound c again (section_and (section s l bs) rest) = all_sound c true again bs && sections_sound c again rest
