-- What the declaration of a global in a half's text adds to the names of the file.
use Rattle.std.proofs.Common.{◌≡◌, ◌++◌, ◌∙◌, ◌<◌, ◌≤◌, ◌+◌, sym, ap, refl, subst, ℕ, suc, ℤ, pos, negsuc, Bool, true, false, List, [], ◌∷◌, length, map, Option, Some, None, is_none, is_some, arith}
use Rattle.std.specs.Prelude.{not, ◌&&◌, slice_get, if◌then◌else◌, ◌-◌, replicate, take, nat_le}
use Rattle.std.proofs.lemmas.Bool.Decides.{nat_tests}
use Rattle.pt_base.specs.declared.int_type.IntType.{IntType}
use Rattle.pt_base.specs.declared.int_type.IntType.TheVariants as i
use Rattle.pt_base.proofs.Booleans.{and_with_false}
use Rattle.pt_tree.specs.ExpressionTree.{ExprTree, ExprTrees, expr_trees}
use Rattle.pt_tree.specs.StatementTree.{DeclarationTree}
use Rattle.type_rules.specs.declared.types.Type.{«Type»}
use Rattle.type_rules.specs.declared.types.Type.TheVariants as ty
use Rattle.type_rules.specs.Conversions.{fit_rule, is_wrong}
use Rattle.typed_tree.specs.declared.types.StructInfo.{StructInfo}
use Rattle.typed_tree.specs.declared.types.VarTy.{VarTy}
use Rattle.typed_tree.specs.declared.types.VarTy.TheVariants.{Int, Struct, Array, Pointer}
use Rattle.typed_tree.specs.declared.variable.TypedGlobal.{TypedGlobal}
use Rattle.check_declarations.specs.declared.fault.FaultKind.TheVariants.{Redeclared, TooLarge, WrongType}
use Rattle.check_declarations.specs.declared.fault.TypeFault.{TypeFault}
use Rattle.check_declarations.specs.declared.marks.Carrier.TheVariants as carrier
use Rattle.check_declarations.specs.declared.objects.ObjectKind.TheVariants as kind
use Rattle.check_declarations.specs.Cells.{cells_of, counted}
use Rattle.check_declarations.specs.Faults.{fault_if}
use Rattle.check_declarations.specs.Marks.{mark_faults}
use Rattle.check_declarations.specs.NameTables.{number_of, is_new}
use Rattle.check_declarations.specs.Objects.{object_type, is_fixed}
use Rattle.check_declarations.specs.Specifiers as spec
use Rattle.check_declarations.specs.Structs.{Structs}
use Rattle.check_expressions.specs.declared.meaning.Callable.{Callable}
use Rattle.check_expressions.specs.declared.meaning.Meaning.TheVariants.{Global}
use Rattle.check_expressions.specs.declared.meaning.Object.{Object}
use Rattle.check_expressions.specs.Environment.{Env, Scope}
use Rattle.check_expressions.specs.Operands.{span_of}
use Rattle.check_statements.specs.GlobalInitialisers.{GlobalInit, global_item, global_items, global_initialised, excess_faults}
use Rattle.check_statements.specs.Leaves.{leaves_of}
use Rattle.check_programs.specs.Functions.{Checked}
use Rattle.check_programs.specs.Globals.{checked_declaration, global_carrier, declared_all, typed_global, start_cells, cells_with, brings_over, globals_limit}
use Rattle.pt_int.specs.Conversion.{is_in_range}
use Rattle.half_names_law.proofs.Cells.{number_is}
use Rattle.check_programs.specs.Progress.{Progress}
use Rattle.half_trees.specs.Names.{nowhere, global_name}
use Rattle.half_trees.specs.Declarations.{is_pointer, suffix_of, declarator_of, mark_specs, object, cell_tree, initial}
use Rattle.half_meaning_law.specs.Known.{type_as, object_as, global_id}
use Rattle.half_names_law.proofs.Specifiers.{marks_list, object_says, marks_stand}
use Rattle.check_expressions.specs.StructInfos.{object_type_of}
use Rattle.half_names_law.proofs.Objects.{object_type_is, may_be, Fits, declares, given_as, sized}
use Rattle.half_names_law.proofs.Heads.{file_env}
use Rattle.half_names_law.proofs.Prototypes.{Rest, at}

-- ---- what it starts with

-- a number fits each integer
misfit_none : (t : IntType) → is_wrong (fit_rule (ty.Int t) (record { ty = ty.Int i.ULong; null = false })) ≡ false
unfolding fit_rule
misfit_none t = refl

-- an initialiser that has no fault and declares nothing
pub record IsFine (structs : Structs) (init : GlobalInit) : Type 0 where
  pub structs_stay : init.structs ≡ structs
  pub faults : init.faults ≡ []

cell_fine : (env : Env) (structs : Structs) (t : IntType) (v : ℤ) → IsFine structs (global_item env structs (Some (ty.Int t)) (cell_tree v))
unfolding span_of
cell_fine env structs t (pos n) = record { structs_stay = refl; faults = ap (λ b. fault_if b WrongType nowhere) (misfit_none t) }
cell_fine env structs t (negsuc n) = record { structs_stay = refl; faults = ap (λ b. fault_if b WrongType nowhere) (misfit_none t) }

-- there is an integer for each of so many cells
abbrev pub HasCells : List «Type» → ℕ → ℕ → Type 0
HasCells leaves n count = (j : ℕ) → j < count → (t : IntType) × (slice_get leaves (n + j) ≡ Some (ty.Int t))

-- the items from this one on, by the leaf that this one is for
abbrev items_by : Env → Structs → List «Type» → Bool → ℕ → ExprTree → ExprTrees → Option «Type» → GlobalInit
items_by env structs leaves counts n a es leaf =
    let one = global_item env structs leaf a in
    let rest = global_items env one.structs leaves (counts && is_some leaf) (n + 1) es in
    record { structs = rest.structs; values = one.values ++ rest.values; faults = one.faults ++ excess_faults counts leaf a ++ rest.faults }

items_fine : (env : Env) (structs : Structs) (leaves : List «Type») (counts : Bool) (n : ℕ) (v : ℤ) (es : ExprTrees) (t : IntType) → IsFine structs (global_items env structs leaves (counts && true) (n + 1) es)
    → IsFine structs (items_by env structs leaves counts n (cell_tree v) es (Some (ty.Int t)))
items_fine env structs leaves counts n v es t rest =
    let one = cell_fine env structs t v in
    record {
      structs_stay = ap (λ ss. (global_items env ss leaves (counts && true) (n + 1) es).structs) one.structs_stay ∙ rest.structs_stay;
      faults = (λ i. one.faults i ++ fault_if (and_with_false counts i) WrongType (span_of (cell_tree v)) ++ (global_items env (one.structs_stay i) leaves (counts && true) (n + 1) es).faults) ∙ rest.faults;
    }

cells_fine : (env : Env) (structs : Structs) (leaves : List «Type») (counts : Bool) (n : ℕ) (cells : List ℤ) → HasCells leaves n (length cells) → IsFine structs (global_items env structs leaves counts n (expr_trees (map cell_tree cells)))
cells_fine env structs leaves counts n [] there = record { structs_stay = refl; faults = refl }
cells_fine env structs leaves counts n (v ∷ vs) there =
    let one = there 0 (omega arith) in
    let same : n + 0 ≡ n = omega arith in
    let here : Some (ty.Int one.0) ≡ slice_get leaves n = sym one.1 ∙ ap (slice_get leaves) same in
    subst (λ leaf. IsFine structs (items_by env structs leaves counts n (cell_tree v) (expr_trees (map cell_tree vs)) leaf)) here
    (items_fine env structs leaves counts n v (expr_trees (map cell_tree vs)) one.0
    (cells_fine env structs leaves (counts && true) (n + 1) vs (λ j low. next j low)))
  where
    next : (j : ℕ) → j < length vs → (t : IntType) × (slice_get leaves (n + 1 + j) ≡ Some (ty.Int t))
    next j low = let one = there (suc j) (omega (arith, low)) in let same : n + 1 + j ≡ n + suc j = omega arith in (one.0, ap (slice_get leaves) same ∙ one.1)

-- the cells of a global have the integers of its type
pub initial_fine : (env : Env) (structs : Structs) (u : VarTy) (cells : List ℤ) → HasCells (leaves_of structs (type_as u)) 0 (length cells) → is_pointer u ≡ false → IsFine structs (global_initialised env structs (type_as u) (initial u cells))
initial_fine env structs (Int t) [] there plain = record { structs_stay = refl; faults = refl }
initial_fine env structs (Int t) (v ∷ vs) there plain = cell_fine env structs t v
initial_fine env structs (Struct n) cells there plain = cells_fine env structs (leaves_of structs (ty.Struct n)) true 0 cells there
initial_fine env structs (Array elem count) cells there plain = cells_fine env structs (leaves_of structs (ty.Array elem count)) true 0 cells there
initial_fine env structs (Pointer elem fixed) cells there plain = cc

-- ---- the values that it starts with

-- there is an integer for each of these cells, in whose range it is
abbrev pub HasNumbers : List «Type» → ℕ → List ℤ → Type 0
HasNumbers leaves n cells = (j : ℕ) (v : ℤ) → slice_get cells j ≡ Some v → (t : IntType) × (slice_get leaves (n + j) ≡ Some (ty.Int t)) × (is_in_range t v ≡ true)

cell_value : (env : Env) (structs : Structs) (t : IntType) (v : ℤ) → is_in_range t v ≡ true → (global_item env structs (Some (ty.Int t)) (cell_tree v)).values ≡ v ∷ []
cell_value env structs t (pos n) h = ap (λ z. z ∷ []) (number_is t (pos n) h)
cell_value env structs t (negsuc n) h = ap (λ z. z ∷ []) (number_is t (negsuc n) h)

items_values : (env : Env) (structs : Structs) (leaves : List «Type») (counts : Bool) (n : ℕ) (v : ℤ) (es : ExprTrees) (t : IntType) (vs : List ℤ) → is_in_range t v ≡ true → (global_items env structs leaves (counts && true) (n + 1) es).values ≡ vs
    → (items_by env structs leaves counts n (cell_tree v) es (Some (ty.Int t))).values ≡ v ∷ vs
items_values env structs leaves counts n v es t vs h rest =
    let one = cell_fine env structs t v in
    (λ i. cell_value env structs t v h i ++ (global_items env (one.structs_stay i) leaves (counts && true) (n + 1) es).values) ∙ ap (λ zs. v ∷ zs) rest

cells_values : (env : Env) (structs : Structs) (leaves : List «Type») (counts : Bool) (n : ℕ) (cells : List ℤ) → HasNumbers leaves n cells → (global_items env structs leaves counts n (expr_trees (map cell_tree cells))).values ≡ cells
cells_values env structs leaves counts n [] there = refl
cells_values env structs leaves counts n (v ∷ vs) there =
    let one = there 0 v refl in
    let same : n + 0 ≡ n = omega arith in
    let here : Some (ty.Int one.0) ≡ slice_get leaves n = sym one.1 ∙ ap (slice_get leaves) same in
    subst (λ leaf. (items_by env structs leaves counts n (cell_tree v) (expr_trees (map cell_tree vs)) leaf).values ≡ v ∷ vs) here
    (items_values env structs leaves counts n v (expr_trees (map cell_tree vs)) one.0 vs one.2 (cells_values env structs leaves (counts && true) (n + 1) vs next))
  where
    next : (j : ℕ) (w : ℤ) → slice_get vs j ≡ Some w → (t : IntType) × (slice_get leaves (n + 1 + j) ≡ Some (ty.Int t)) × (is_in_range t w ≡ true)
    next j w e = let one = there (suc j) w e in let same : n + 1 + j ≡ n + suc j = omega arith in (one.0, ap (slice_get leaves) same ∙ one.1, one.2)

same_int : (t u : IntType) → Some (ty.Int t) ≡ Some (ty.Int u) → t ≡ u
same_int t u e = cc

pub initial_values : (env : Env) (structs : Structs) (u : VarTy) (cells : List ℤ) → HasNumbers (leaves_of structs (type_as u)) 0 cells → is_pointer u ≡ false → (global_initialised env structs (type_as u) (initial u cells)).values ≡ cells
initial_values env structs (Int t) [] there plain = refl
initial_values env structs (Int t) (v ∷ []) there plain = let one = there 0 v refl in cell_value env structs t v (subst (λ z. is_in_range z v ≡ true) (sym (same_int t one.0 one.1)) one.2)
initial_values env structs (Int t) (v ∷ w ∷ vs) there plain = absurd (none (there 1 w refl))
  where
    none : (u : IntType) × (slice_get (ty.Int t ∷ []) (0 + 1) ≡ Some (ty.Int u)) × (is_in_range u w ≡ true) → ⊥
    none h = let e = h.1 in cc
initial_values env structs (Struct n) cells there plain = cells_values env structs (leaves_of structs (ty.Struct n)) true 0 cells there
initial_values env structs (Array elem count) cells there plain = cells_values env structs (leaves_of structs (ty.Array elem count)) true 0 cells there
initial_values env structs (Pointer elem fixed) cells there plain = cc

-- as many values as cells, within the limit, are all kept
start_is : (total count : ℕ) (values cells : List ℤ) → values ≡ cells → count ≡ length cells → total + count ≤ 1048576 → start_cells total count values ≡ cells
start_is total count values cells same long few =
    (λ i. if within i then take (long i) (same i) ++ replicate (long i - length (same i)) (pos 0) else [])
    ∙ (λ i. take_all cells i ++ replicate (nothing (length cells) i) (pos 0))
    ∙ nothing_more cells
  where
    within : nat_le (cells_with total count) globals_limit ≡ true
    within = let less : counted (total + count) ≤ 1048576 = omega (arith, few) in grind (arith, nat_tests, less)

    nothing : (n : ℕ) → n - n ≡ 0
    nothing n = omega arith

    take_all : (xs : List ℤ) → take (length xs) xs ≡ xs
    take_all [] = refl
    take_all (x ∷ xs) = ap (λ ys. x ∷ ys) (take_all xs)

    nothing_more : (xs : List ℤ) → xs ++ [] ≡ xs
    nothing_more [] = refl
    nothing_more (x ∷ xs) = ap (λ ys. x ∷ ys) (nothing_more xs)

fine_is : (structs : Structs) (init : GlobalInit) → IsFine structs init → init ≡ record { structs = structs; values = init.values; faults = [] }
fine_is structs init fine = λ i. record { structs = fine.structs_stay i; values = init.values; faults = fine.faults i }

-- ---- one global

pub record GlobalFits (structs : Structs) (infos : List StructInfo) (u : VarTy) (marked unpriv : Bool) (cells : List ℤ) : Type 0 where
  pub fits : Fits structs infos u
  pub plain : is_pointer u ≡ false
  pub unmarked : unpriv ≡ true → not marked ≡ true
  pub cells_there : HasCells (leaves_of structs (type_as u)) 0 (length cells)
  pub numbers : HasNumbers (leaves_of structs (type_as u)) 0 cells
  pub exact : cells_of structs (type_as u) ≡ length cells

-- its declaration
abbrev pub global_tree : List StructInfo → ℕ → VarTy → Bool → Bool → List ℤ → DeclarationTree
global_tree infos g u marked unpriv cells = object infos (mark_specs marked unpriv false) u (global_name g) (initial u cells)

abbrev by_specs : Progress → DeclarationTree → spec.Judged → Checked
by_specs st d j =
    let all = declared_all j.given (record st { structs = j.structs }) d.declarators in
    record { progress = all.progress; faults = j.faults ++ mark_faults (global_carrier d.declarators) j.given.attributes ++ all.faults }

-- what names mean in the initialiser
abbrev known_by : Scope → List Callable → List Object → ℕ → «Type» → Bool → Bool → Env
known_by file functions globals g t x new =
    file_env (if new then file ++ (global_name g, Global (record { 0 = length globals })) ∷ [] else file) functions (globals ++ record { ty = t; fixed = x } ∷ [])

abbrev by_parts : Scope → List Callable → List Object → Rest → ℕ → ℕ → TypedGlobal → «Type» → Bool → Bool → Bool → List TypeFault → List TypeFault → List TypeFault → GlobalInit → Checked
by_parts file functions globals r g count tree t x new over of sf mf init = record {
  progress = record {
    env = known_by file functions globals g t x new;
    structs = init.structs;
    functions = r.functions;
    globals = r.globals ++ tree ∷ [];
    cells = cells_with r.cells count;
    exprs = r.exprs;
    has_main = r.has_main;
  };
  faults = [] ++ mf ++ (((of ++ sf ++ fault_if (not new) Redeclared nowhere ++ fault_if over TooLarge nowhere) ++ init.faults) ++ []);
}

abbrev pub with_global_tree : Rest → TypedGlobal → ℕ → Rest
with_global_tree r tree count = record { functions = r.functions; globals = r.globals ++ tree ∷ []; cells = cells_with r.cells count; exprs = r.exprs; has_main = r.has_main }

not_over : (total count : ℕ) → total + count ≤ 1048576 → brings_over total count ≡ false
not_over total count few = grind (arith, nat_tests, few)

pub global_added : (file : Scope) (functions : List Callable) (globals : List Object) (structs : Structs) (r : Rest) (infos : List StructInfo) (g : ℕ) (u : VarTy) (marked unpriv : Bool) (cells : List ℤ)
    → GlobalFits structs infos u marked unpriv cells → number_of file (global_name g) ≡ None → r.cells + cells_of structs (type_as u) ≤ 1048576
    → (tree : TypedGlobal) × (checked_declaration (at (file_env file functions globals) structs r) (global_tree infos g u marked unpriv cells)
    ≡ record { progress = at (file_env (file ++ (global_name g, Global (global_id (length globals))) ∷ []) functions (globals ++ object_as u ∷ [])) structs (with_global_tree r tree (cells_of structs (type_as u))); faults = [] }) × (tree.var.ty ≡ u) × (tree.cells ≡ cells)
global_added file functions globals structs r infos g u marked unpriv cells fits new few =
    let marks = marks_list marked unpriv false in
    let given = given_as u marks in
    let d = declares kind.Global u marks (may u fits.plain) fits.fits.dense in
    let typed = object_type kind.Global given (is_pointer u) (suffix_of u) in
    let fixed = is_fixed kind.Global given (is_pointer u) (suffix_of u) in
    let behind = known_by file functions globals g (type_as u) false true in
    let tree = typed_global given (declarator_of u (global_name g))
    (start_cells r.cells (cells_of structs typed) (global_initialised (known_by file functions globals g typed fixed (is_new file (global_name g))) structs typed (initial u cells)).values) in
    let over : brings_over r.cells (cells_of structs typed) ≡ false = ap (λ t. brings_over r.cells (cells_of structs t)) d.typed ∙ not_over r.cells (cells_of structs (type_as u)) few in (
      tree,
      ap (by_specs (at (file_env file functions globals) structs r) (global_tree infos g u marked unpriv cells)) (object_says true structs infos marked unpriv false u fits.fits.named)
          ∙ (λ i. by_parts file functions globals r g (cells_of structs (d.typed i)) tree (d.typed i) (d.changes i) (is_none (new i)) (over i) (d.fine i) (sized structs typed u d.typed fits.fits.small i) (marks_stand carrier.Global marked unpriv false (λ e. refl) fits.unmarked (λ e. cc) i)
          (global_initialised (known_by file functions globals g (d.typed i) (d.changes i) (is_none (new i))) structs (d.typed i) (initial u cells)))
          ∙ ap (by_parts file functions globals r g (cells_of structs (type_as u)) tree (type_as u) false true false [] [] [])
          (fine_is structs (global_initialised behind structs (type_as u) (initial u cells)) (initial_fine behind structs u cells fits.cells_there fits.plain)),
      ap object_type_of d.typed ∙ object_type_is u,
      (λ i. start_cells r.cells (cells_of structs (d.typed i)) (global_initialised (known_by file functions globals g (d.typed i) (d.changes i) (is_none (new i))) structs (d.typed i) (initial u cells)).values)
          ∙ start_is r.cells (cells_of structs (type_as u)) (global_initialised behind structs (type_as u) (initial u cells)).values cells (initial_values behind structs u cells fits.numbers fits.plain) fits.exact few,
    )
  where
    may : (u : VarTy) → is_pointer u ≡ false → may_be kind.Global u ≡ true
    may (Int t) h = refl
    may (Struct n) h = refl
    may (Array elem count) h = refl
    may (Pointer elem fixed) h = cc
