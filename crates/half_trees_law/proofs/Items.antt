-- The trees of what a half declares are plain: structs, prototypes, globals and functions.
use Rattle.std.proofs.Common.{◌≡◌, ◌^◌, ◌%◌, ℕ, suc, ◌<◌, ◌≤◌, ℤ, pos, negsuc, Bool, true, false, List, [], ◌∷◌, Option, Some, None, refl, arith, map, length, take, drop}
use Rattle.std.specs.Prelude.{◌&&◌, IsTrue, int_le, not}
use Rattle.std.specs.List.{list_all}
use Rattle.std.proofs.lemmas.Bool.{and_parts, leb-true}
use Rattle.core_soundness_law.proofs.Objects.{plain_variable}
use Rattle.pt_base.specs.IntTypes.{high_of}
use Rattle.pt_base.specs.declared.int_type.IntType.{IntType}
use Rattle.pt_base.specs.declared.int_type.IntType.TheVariants as i
use Rattle.pt_base.proofs.Members.{all_true_append}
use Rattle.pt_tree.specs.declared.signature.Param.{Param}
use Rattle.pt_tree.specs.declared.signature.Signature.{Signature}
use Rattle.pt_tree.specs.SpecifierTree.{SpecTree, field_trees}
use Rattle.pt_tree.specs.ExpressionTree.{expr_trees}
use Rattle.pt_tree.specs.StatementTree.{InitTree, no_init}
use Rattle.pt_tree.specs.ProgramTree.{ParamTree}
use Rattle.typed_tree.specs.declared.types.Field.{Field}
use Rattle.typed_tree.specs.declared.types.StructInfo.{StructInfo}
use Rattle.typed_tree.specs.declared.types.VarTy.{VarTy}
use Rattle.typed_tree.specs.declared.types.VarTy.TheVariants.{Int, Struct, Array, Pointer}
use Rattle.typed_tree.specs.declared.variable.Var.{Var}
use Rattle.typed_tree.specs.Cells.{leaves_of}
use Rattle.typed_tree.specs.Sizes.{fields_of}
use Rattle.typed_tree.specs.WellFormed.{structs_sound, is_plain_type, is_variable_type, is_small, cells_fit, params_lead}
use Rattle.typed_tree.specs.WellFormedExpression.{param_type}
use Rattle.pt_core.specs.CodeTree.{FunctionTree, GlobalTree, ProgramTree}
use Rattle.pt_core.specs.WellFormed.{signature_at, global_fits, variable_fits, context_of, scope_of, counts_fit, function_by, function_fits}
use Rattle.pt_core.specs.WellFormedStatement.{stmts_fit}
use Rattle.c_printer.specs.Plain.{is_name, spec_plain, suffix_plain, declarator_plain, fields_plain, field_plain, expr_plain, exprs_plain, has_exprs, init_plain, declaration_plain, stmt_plain, param_plain, item_plain}
use Rattle.half_trees.specs.Names.{local_name, global_name, field_by}
use Rattle.half_trees.specs.Declarations.{mark_specs, suffix_of, declarator_of, object, field_tree, fields_from, struct_item, parameter, parameters_or_void, declared_from, prototype_item, large, cell_tree, cells_init, integer_init, initial, global_item}
use Rattle.half_trees.specs.Functions.{is_only_unpriv, variable_marks, parameters_from, locals_from, function_item}
use Rattle.half_trees.specs.Statements.{statements_trees}
use Rattle.half_trees_law.proofs.Tests.{both, all_mapped_where, all_dropped}
use Rattle.half_trees_law.proofs.Names.{local_is_name, global_is_name, function_by_is_name, struct_is_name, field_by_is_name}
use Rattle.half_trees_law.proofs.Specifiers.{marks_plain, object_specs_plain, function_specs_plain, head_specs_plain}
use Rattle.half_trees_law.proofs.Counts.{is_counted, are_counted, structs_counted, AreCounted, fields_counted, typed_counted, plain_leaf}
use Rattle.half_trees_law.proofs.Expressions.{number_plain}
use Rattle.half_trees_law.proofs.Leaves.{small_is_int}
use Rattle.half_trees_law.proofs.Statements.{statements_plain}

-- ---- declarators

suffix_is_plain : (ty : VarTy) → is_counted ty ≡ true → suffix_plain (suffix_of ty) ≡ true
suffix_is_plain (Int t) h = refl
suffix_is_plain (Struct n) h = refl
suffix_is_plain (Array elem count) h = number_plain i.Int count refl (small_is_int count (leb-true count 65_536 h))
suffix_is_plain (Pointer elem fixed) h = refl

declarator_is_plain : (ty : VarTy) (name : List ℕ) → is_counted ty ≡ true → is_name name ≡ true → declarator_plain (declarator_of ty name) ≡ true
declarator_is_plain ty name h is = both is (suffix_is_plain ty h)

object_plain : (structs : List StructInfo) (marks : List SpecTree) (ty : VarTy) (name : List ℕ) (init : InitTree) → list_all spec_plain marks ≡ true → is_counted ty ≡ true → is_name name ≡ true → init_plain init ≡ true → declaration_plain (object structs marks ty name init) ≡ true
object_plain structs marks ty name init h are is k = both (object_specs_plain structs marks ty h) (both (both (declarator_is_plain ty name are is) k) refl)

-- ---- structs

field_tree_plain : (structs : List StructInfo) (name : List ℕ) (f : Field) → is_name name ≡ true → is_counted f.ty ≡ true → field_plain (field_tree structs name f) ≡ true
field_tree_plain structs name f is h = both (object_specs_plain structs (mark_specs f.marked false false) f.ty (marks_plain f.marked false false)) (both (declarator_is_plain f.ty name h is) refl)

fields_from_plain : (structs : List StructInfo) (all : List Field) (k : ℕ) (fields : List Field) → are_counted fields ≡ true → fields_plain (field_trees (fields_from structs all k fields)) ≡ true
fields_from_plain structs all k [] h = refl
fields_from_plain structs all k (f ∷ fs) h =
    let parts = and_parts (is_counted f.ty) (are_counted fs) h in
    both (field_tree_plain structs (field_by all k) f (field_by_is_name all k) parts.0) (fields_from_plain structs all (suc k) fs parts.1)

pub struct_plain : (structs : List StructInfo) (n : ℕ) → structs_counted structs ≡ true → item_plain (struct_item structs n) ≡ true
struct_plain structs n h = both (both (both (struct_is_name structs n) (fields_from_plain structs (fields_of structs n) 0 (fields_of structs n) (fields_counted structs n h))) refl) refl

-- ---- functions without bodies

parameter_plain : (structs : List StructInfo) (marks : List SpecTree) (ty : VarTy) (n : ℕ) → list_all spec_plain marks ≡ true → param_plain (parameter structs marks ty (local_name n)) ≡ true
parameter_plain structs marks ty n h = both (object_specs_plain structs marks ty h) (both (local_is_name n) refl)

or_void_plain : (ps : List ParamTree) → list_all param_plain ps ≡ true → list_all param_plain (parameters_or_void ps) ≡ true
or_void_plain [] h = refl
or_void_plain (p ∷ ps) h = h

declared_plain : (structs : List StructInfo) (k : ℕ) (ps : List Param) → list_all param_plain (declared_from structs k ps) ≡ true
declared_plain structs k [] = refl
declared_plain structs k (p ∷ ps) = both (parameter_plain structs (mark_specs p.marked false p.declassify) (param_type p.kind) k (marks_plain p.marked false p.declassify)) (declared_plain structs (suc k) ps)

pub prototype_plain : (structs : List StructInfo) (f : ℕ) (s : Signature) → item_plain (prototype_item structs f s) ≡ true
prototype_plain structs f s = both (function_specs_plain s) (both (both (function_by_is_name f (Some s)) refl) (both (or_void_plain (declared_from structs 0 s.params) (declared_plain structs 0 s.params)) refl))

-- ---- globals

low_is_unsigned_long : (n : ℕ) → n < 2 ^ 64 → int_le (pos n) (high_of i.ULong) ≡ true
low_is_unsigned_long n low = grind (arith, low)

large_plain : (n : ℕ) → expr_plain (large n) ≡ true
large_plain n = number_plain i.ULong (n % 2 ^ 64) refl (low_is_unsigned_long (n % 2 ^ 64) (omega arith))

cell_plain : (v : ℤ) → expr_plain (cell_tree v) ≡ true
cell_plain (pos n) = large_plain n
cell_plain (negsuc n) = large_plain (suc n)

cells_plain : (cells : List ℤ) → exprs_plain (expr_trees (map cell_tree cells)) ≡ true
cells_plain [] = refl
cells_plain (v ∷ vs) = both (cell_plain v) (cells_plain vs)

some_cells : (ts : List IntType) (cells : List ℤ) → 1 ≤ length ts → IsTrue (cells_fit ts cells) → has_exprs (expr_trees (map cell_tree cells)) ≡ true
some_cells [] cells some h = absurd (omega (arith, some))
some_cells (t ∷ ts) [] some h = h
some_cells (t ∷ ts) (v ∷ vs) some h = refl

integer_plain : (cells : List ℤ) → init_plain (integer_init cells) ≡ true
integer_plain [] = refl
integer_plain (v ∷ vs) = cell_plain v

braces_plain : (ts : List IntType) (cells : List ℤ) → 1 ≤ length ts → IsTrue (cells_fit ts cells) → init_plain (cells_init cells) ≡ true
braces_plain ts cells some h = both (some_cells ts cells some h) (cells_plain cells)

initial_plain : (ty : VarTy) (ts : List IntType) (cells : List ℤ) → 1 ≤ length ts → IsTrue (cells_fit ts cells) → init_plain (initial ty cells) ≡ true
initial_plain (Int t) ts cells some h = integer_plain cells
initial_plain (Struct n) ts cells some h = braces_plain ts cells some h
initial_plain (Array elem count) ts cells some h = braces_plain ts cells some h
initial_plain (Pointer elem fixed) ts cells some h = braces_plain ts cells some h

-- a global's type, as one that a variable may have
pub global_counted : (structs : List StructInfo) → IsTrue (structs_sound structs 0 structs) → (g : GlobalTree) → IsTrue (global_fits structs g) → is_counted g.var.ty ≡ true
global_counted structs sound g h =
    let parts = and_parts (is_plain_type (length structs) g.var.ty && is_small structs g.var.ty) (cells_fit (leaves_of structs g.var.ty) g.cells) h in
    let own = and_parts (is_plain_type (length structs) g.var.ty) (is_small structs g.var.ty) parts.0 in
    typed_counted structs sound (length structs) (omega arith) g.var.ty (plain_variable (length structs) g.var.ty own.0) own.1

pub global_plain : (structs : List StructInfo) → IsTrue (structs_sound structs 0 structs) → (g : GlobalTree) → IsTrue (global_fits structs g) → item_plain (global_item structs g) ≡ true
global_plain structs sound g h =
    let parts = and_parts (is_plain_type (length structs) g.var.ty && is_small structs g.var.ty) (cells_fit (leaves_of structs g.var.ty) g.cells) h in
    let own = and_parts (is_plain_type (length structs) g.var.ty) (is_small structs g.var.ty) parts.0 in
    object_plain structs (mark_specs g.var.marked g.var.unpriv false) g.var.ty (global_name g.id) (initial g.var.ty g.cells)
    (marks_plain g.var.marked g.var.unpriv false) (global_counted structs sound g h) (global_is_name g.id)
    (initial_plain g.var.ty (leaves_of structs g.var.ty) g.cells (plain_leaf structs sound g.var.ty own.0) parts.1)

-- ---- functions with bodies

parameters_plain : (structs : List StructInfo) (n : ℕ) (xs : List Var) → list_all param_plain (parameters_from structs n xs) ≡ true
parameters_plain structs n [] = refl
parameters_plain structs n (x ∷ xs) = both (parameter_plain structs (variable_marks x) x.ty n (marks_plain x.marked (is_only_unpriv x) false)) (parameters_plain structs (suc n) xs)

locals_plain : (structs : List StructInfo) (n : ℕ) (xs : List Var) → list_all (λ x. is_counted x.ty) xs ≡ true → list_all stmt_plain (locals_from structs n xs) ≡ true
locals_plain structs n [] h = refl
locals_plain structs n (x ∷ xs) h =
    let parts = and_parts (is_counted x.ty) (list_all (λ (y : Var). is_counted y.ty) xs) h in
    both (object_plain structs (variable_marks x) x.ty (local_name n) no_init (marks_plain x.marked (is_only_unpriv x) false) parts.0 (local_is_name n) refl) (locals_plain structs (suc n) xs parts.1)

variables_counted : (structs : List StructInfo) → IsTrue (structs_sound structs 0 structs) → (xs : List Var) → IsTrue (list_all (variable_fits structs) xs) → list_all (λ x. is_counted x.ty) xs ≡ true
variables_counted structs sound [] h = refl
variables_counted structs sound (x ∷ xs) h =
    let parts = and_parts (variable_fits structs x) (list_all (variable_fits structs) xs) h in
    let own = and_parts (is_variable_type (length structs) x.ty) (is_small structs x.ty) parts.0 in
    both (typed_counted structs sound (length structs) (omega arith) x.ty own.0 own.1) (variables_counted structs sound xs parts.1)

-- what is known of the structs and globals of a program
pub record Declared (p : ProgramTree) : Type 0 where
  pub sound : IsTrue (structs_sound p.structs 0 p.structs)
  pub structs : structs_counted p.structs ≡ true
  pub globals : IsTrue (list_all (global_fits p.structs) p.globals)

context_counted : (p : ProgramTree) → Declared p → (xs : List Var) → list_all (λ x. is_counted x.ty) xs ≡ true → AreCounted (context_of p xs)
context_counted p d xs h = record {
  structs = d.structs;
  globals = all_mapped_where (global_fits p.structs) (λ (g : ℕ × VarTy). is_counted g.1) (λ (g : GlobalTree). (g.id, g.var.ty)) (global_counted p.structs d.sound) p.globals d.globals;
  variables = all_mapped_where (λ (x : Var). is_counted x.ty) is_counted (λ (x : Var). x.ty) (λ x is. is) xs h;
}

-- the variables and the statements of a function
record Fitting (p : ProgramTree) (f : FunctionTree) : Type 0 where
  variables : list_all (λ x. is_counted x.ty) f.vars ≡ true
  statements : list_all stmt_plain (statements_trees p.signatures (context_of p f.vars) f.body) ≡ true

fitting : (monitor : Bool) (p : ProgramTree) → Declared p → (f : FunctionTree) (o : Option Signature) → IsTrue (function_by monitor p f o) → Fitting p f
fitting monitor p d f None h = grind (arith, h)
fitting monitor p d f (Some s) h =
    let parts = and_parts (not s.host && (counts_fit monitor f.params (length s.params) && params_lead (take f.params s.params) f.vars)) (list_all (variable_fits p.structs) f.vars && stmts_fit (scope_of monitor p f s) false f.body) h in
    let own = and_parts (list_all (variable_fits p.structs) f.vars) (stmts_fit (scope_of monitor p f s) false f.body) parts.1 in
    let counted = variables_counted p.structs d.sound f.vars own.0 in
    record { variables = counted; statements = statements_plain f.body p.signatures (scope_of monitor p f s) false (context_counted p d f.vars counted) own.1 }

pub function_plain : (monitor : Bool) (p : ProgramTree) → Declared p → (f : FunctionTree) → IsTrue (function_fits monitor p f) → item_plain (function_item p f) ≡ true
function_plain monitor p d f h =
    let fit = fitting monitor p d f (signature_at p f.id) h in
    both (head_specs_plain (signature_at p f.id))
    (both (both (function_by_is_name f.id (signature_at p f.id)) refl)
    (both (or_void_plain (parameters_from p.structs 0 (take f.params f.vars)) (parameters_plain p.structs 0 (take f.params f.vars)))
    (all_true_append stmt_plain (locals_from p.structs f.params (drop f.params f.vars)) (statements_trees p.signatures (context_of p f.vars) f.body)
    (locals_plain p.structs f.params (drop f.params f.vars) (all_dropped (λ (x : Var). is_counted x.ty) f.params f.vars fit.variables)) fit.statements)))
