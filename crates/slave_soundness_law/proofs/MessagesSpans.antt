-- Where code with numbers of the fields traps, the span that it reports has such numbers too.
use Rattle.std.proofs.Common.{ℕ, ℤ, Bool, Option, Some, None, Result, Ok, Err}
use Rattle.std.specs.Prelude.{IfSome}
use Rattle.std.specs.List.{AllByRecursion}
use Rattle.pt_base.specs.declared.span.Span.{Span}
use Rattle.pt_base.specs.declared.trap.Trap.{Trap}
use Rattle.pt_int.specs.Conversion.{conv}
use Rattle.pt_int.specs.Operator.{binary_of, unary_of}
use Rattle.typed_tree.specs.declared.types.VarTy.{VarTy}
use Rattle.typed_tree.specs.declared.types.VarTy.TheVariants.{Int, Struct, Array, Pointer}
use Rattle.typed_tree.specs.Sizes.{sizes_of, elem_cells}
use Rattle.runs.specs.Pointers.{Target, moved, directed, reached, compared, difference}
use Rattle.block_memory.specs.declared.cell.BlockName.{BlockName}
use Rattle.block_memory.specs.declared.cell.Cell.{Cell}
use Rattle.block_memory.specs.Blocks.{Blocks, is_same_name}
use Rattle.boot_fields.specs.Limits.{FitsExpr, FitsPlace, FitsRoot, FitsSpan}
use Rattle.boot_fields.specs.Spelling.{exprs_of}
use Rattle.pt_core.specs.CodeTree.{RootTree, local, global, deref, PlaceTree, place, ExprTree, constant, read, unary, binary, convert, null, address, decay, move, compare, difference as difference_of, ExprTrees, no_exprs, expr_and}
use Rattle.pt_core.specs.Types.{Context, type_of, pointee_cells}
use Rattle.pt_core.specs.Values.{Stop, ◌>>?◌, at_span, number_in, numbered, pointed, told, target_of, unary_operand, right_operand, pointee, value_of, location_of, root_location, values_of}
use Rattle.pt_core.specs.Statements.{assigned, copied, returned_value}

abbrev pub StopFits : {A : Type 0} → Result A Stop → Type 0
StopFits (Ok a) = Unit {0}
StopFits (Err stop) = FitsSpan stop.span

-- ---- parts

then_fits : {A B : Type 0} (r : Result A Stop) (next : A → Result B Stop) → StopFits r → ((a : A) → StopFits (next a)) → StopFits (r >>? next)
then_fits (Ok a) next h k = k a
then_fits (Err stop) next h k = h

at_fits : {A : Type 0} (s : Span) (r : Result A Trap) → FitsSpan s → StopFits (at_span s r)
at_fits s (Ok a) h = tt {0}
at_fits s (Err trap) h = h

number_fits : (r : Result ℤ Stop) → StopFits r → StopFits (numbered r)
number_fits (Ok v) h = h
number_fits (Err stop) h = h

pointer_fits : (r : Result (Target BlockName) Stop) → StopFits r → StopFits (pointed r)
pointer_fits (Ok p) h = h
pointer_fits (Err stop) h = h

told_fits : (r : Result Bool Stop) → StopFits r → StopFits (told r)
told_fits (Ok b) h = h
told_fits (Err stop) h = h

pointee_fits : (c : Context) (s : Span) (ty : VarTy) (p : Cell) → FitsSpan s → StopFits (pointee c s ty p)
pointee_fits c s (Int t) p h = tt {0}
pointee_fits c s (Struct n) p h = tt {0}
pointee_fits c s (Array elem count) p h = tt {0}
pointee_fits c s (Pointer elem fixed) p h =
    let r : Result (BlockName × ℕ) Trap = reached (elem_cells (sizes_of c.structs) elem) (target_of p) in
    then_fits (at_span s r) _ (at_fits s r h) (λ at. tt {0})

-- ---- expressions and places

mutual
  pub values_fit : (c : Context) (depth : ℕ) (e : ExprTree) (blocks : Blocks) → FitsExpr e → StopFits (value_of c depth e blocks)
  values_fit c depth (constant t v) blocks h = tt {0}
  values_fit c depth (read p) blocks h = then_fits (location_of c depth p blocks) _ (places_fit c depth p blocks h) (λ at. tt {0})
  values_fit c depth (unary op t a s) blocks h =
      then_fits (value_of c depth a blocks) _ (values_fit c depth a blocks h.0)
      (λ v. number_fits (at_span s (unary_of op t (unary_operand op t v))) (at_fits s (unary_of op t (unary_operand op t v)) h.1))
  values_fit c depth (binary op t a b s) blocks h =
      then_fits (value_of c depth a blocks) _ (values_fit c depth a blocks h.0)
      (λ v. then_fits (value_of c depth b blocks) _ (values_fit c depth b blocks h.1.0)
      (λ w. number_fits (at_span s (binary_of op t (conv t (number_in v)) (right_operand op t w))) (at_fits s (binary_of op t (conv t (number_in v)) (right_operand op t w)) h.1.1)))
  values_fit c depth (convert to a) blocks h = then_fits (value_of c depth a blocks) _ (values_fit c depth a blocks h) (λ v. tt {0})
  values_fit c depth (null elem) blocks h = tt {0}
  values_fit c depth (address p) blocks h = then_fits (location_of c depth p blocks) _ (places_fit c depth p blocks h) (λ at. tt {0})
  values_fit c depth (decay p) blocks h = then_fits (location_of c depth p blocks) _ (places_fit c depth p blocks h) (λ at. tt {0})
  values_fit c depth (move p by back s) blocks h =
      then_fits (value_of c depth p blocks) _ (values_fit c depth p blocks h.0)
      (λ v. then_fits (value_of c depth by blocks) _ (values_fit c depth by blocks h.1.0)
      (λ w. pointer_fits (at_span s (moved (directed back (number_in w)) (target_of v))) (at_fits s (moved (directed back (number_in w)) (target_of v)) h.1.1)))
  values_fit c depth (compare op a b s) blocks h =
      then_fits (value_of c depth a blocks) _ (values_fit c depth a blocks h.0)
      (λ v. then_fits (value_of c depth b blocks) _ (values_fit c depth b blocks h.1.0)
      (λ w. told_fits (at_span s (compared is_same_name op (pointee_cells c (type_of c a)) (target_of v) (target_of w)))
      (at_fits s (compared is_same_name op (pointee_cells c (type_of c a)) (target_of v) (target_of w)) h.1.1)))
  values_fit c depth (difference_of a b s) blocks h =
      then_fits (value_of c depth a blocks) _ (values_fit c depth a blocks h.0)
      (λ v. then_fits (value_of c depth b blocks) _ (values_fit c depth b blocks h.1.0)
      (λ w. number_fits (at_span s (difference is_same_name (target_of v) (target_of w))) (at_fits s (difference is_same_name (target_of v) (target_of w)) h.1.1)))

  pub places_fit : (c : Context) (depth : ℕ) (p : PlaceTree) (blocks : Blocks) → FitsPlace p → StopFits (location_of c depth p blocks)
  places_fit c depth (place root path) blocks h = then_fits (root_location c depth root blocks) _ (roots_fit c depth root blocks h.0) (λ at. tt {0})

  roots_fit : (c : Context) (depth : ℕ) (root : RootTree) (blocks : Blocks) → FitsRoot root → StopFits (root_location c depth root blocks)
  roots_fit c depth (local v) blocks h = tt {0}
  roots_fit c depth (global g) blocks h = tt {0}
  roots_fit c depth (deref p s) blocks h = then_fits (value_of c depth p blocks) _ (values_fit c depth p blocks h.0) (λ v. pointee_fits c s (type_of c p) v h.1)

pub arguments_fit : (c : Context) (depth : ℕ) (args : ExprTrees) (blocks : Blocks) → AllByRecursion FitsExpr (exprs_of args) → StopFits (values_of c depth args blocks)
arguments_fit c depth no_exprs blocks h = tt {0}
arguments_fit c depth (expr_and e rest) blocks h =
    then_fits (value_of c depth e blocks) _ (values_fit c depth e blocks h.0) (λ v. then_fits (values_of c depth rest blocks) _ (arguments_fit c depth rest blocks h.1) (λ vs. tt {0}))

-- ---- what statements evaluate

pub assigned_fit : (c : Context) (depth : ℕ) (p : PlaceTree) (e : ExprTree) (blocks : Blocks) → FitsPlace p → FitsExpr e → StopFits (assigned c depth p e blocks)
assigned_fit c depth p e blocks h k =
    then_fits (location_of c depth p blocks) _ (places_fit c depth p blocks h) (λ at. then_fits (value_of c depth e blocks) _ (values_fit c depth e blocks k) (λ v. tt {0}))

pub copied_fit : (c : Context) (depth : ℕ) (to of : PlaceTree) (blocks : Blocks) → FitsPlace to → FitsPlace of → StopFits (copied c depth to of blocks)
copied_fit c depth to of blocks h k =
    then_fits (location_of c depth to blocks) _ (places_fit c depth to blocks h) (λ at. then_fits (location_of c depth of blocks) _ (places_fit c depth of blocks k) (λ from. tt {0}))

pub returned_fit : (c : Context) (depth : ℕ) (e : Option ExprTree) (blocks : Blocks) → IfSome e FitsExpr → StopFits (returned_value c depth e blocks)
returned_fit c depth None blocks h = tt {0}
returned_fit c depth (Some e) blocks h = then_fits (value_of c depth e blocks) _ (values_fit c depth e blocks h) (λ v. tt {0})
