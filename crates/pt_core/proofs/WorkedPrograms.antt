-- Small programs that are well formed, and for each rule one that breaks it alone.
use Rattle.std.proofs.Common.{◌≡◌, ℕ, ℤ, pos, negsuc, Bool, true, false, List, [], ◌∷◌, ◌++◌, Option, Some, None, refl, codes, replicate}
use Rattle.pt_base.specs.declared.span.Span.{Span}
use Rattle.pt_base.specs.declared.int_type.IntType.{IntType}
use Rattle.pt_base.specs.declared.int_type.IntType.TheVariants as i
use Rattle.pt_int.specs.declared.operator.BinOp.TheVariants.{Add, Shl, Lt}
use Rattle.pt_int.specs.declared.operator.UnOp.TheVariants.{Minus, Not}
use Rattle.pt_tree.specs.declared.signature.Elem.TheVariants as e
use Rattle.pt_tree.specs.declared.signature.Param.{Param}
use Rattle.pt_tree.specs.declared.signature.ParamKind.{ParamKind}
use Rattle.pt_tree.specs.declared.signature.ParamKind.TheVariants as k
use Rattle.pt_tree.specs.declared.signature.Signature.{Signature}
use Rattle.pt_tree.specs.declared.host_model.HostModel.{HostModel}
use Rattle.pt_tree.specs.declared.host_model.HostModel.TheVariants.{Line, Feed}
use Rattle.typed_tree.specs.declared.types.VarTy.{VarTy}
use Rattle.typed_tree.specs.declared.types.VarTy.TheVariants as ty
use Rattle.typed_tree.specs.declared.types.Field.{Field}
use Rattle.typed_tree.specs.declared.types.StructInfo.{StructInfo}
use Rattle.typed_tree.specs.declared.variable.Var.{Var}
use Rattle.typed_tree.specs.Cells as cells
use Rattle.pt_core.specs.declared.monitor.Bind.{Bind}
use Rattle.pt_core.specs.declared.monitor.Entry.{Entry}
use Rattle.pt_core.specs.CodeTree.{local, global, deref, PlaceTree, place, ExprTree, constant, read, unary, binary, convert, null, address, decay, move, compare, difference, expr_trees, StmtTree, clear, check, assign, copy, call, choose, repeat, break_out, continue_on, give_back, stmt_trees, FunctionTree, GlobalTree, ProgramTree, MonitorTree, BootTree}
use Rattle.pt_core.specs.WellFormed.{Fits, is_well_formed, is_well_formed_monitor, is_well_formed_boot}

-- ---- parts

abbrev anywhere : Span
anywhere = record { from = 0; to = 0 }

abbrev of_type : VarTy → Var
of_type t = record { name = []; span = anywhere; ty = t; marked = false; unpriv = false; holds = None }

abbrev field_of : VarTy → Field
field_of t = record { name = []; ty = t; marked = false }

abbrev struct_of : List Field → StructInfo
struct_of fs = record { name = []; fields = fs }

abbrev param : ParamKind → Param
param kind = record { kind = kind; marked = false; declassify = false }

abbrev signature : List ℕ → Option IntType → List Param → Bool → Bool → Signature
signature name result params host privileged = record { name = name; result = result; params = params; host = host; privileged = privileged; declassify = false }

abbrev function_of : ℕ → ℕ → List VarTy → List StmtTree → FunctionTree
function_of n own vars body = record { id = n; params = own; vars = mapped vars; body = stmt_trees body; end = anywhere }
  where
    mapped : List VarTy → List Var
    mapped [] = []
    mapped (t ∷ ts) = of_type t ∷ mapped ts

abbrev global_of : ℕ → VarTy → List ℤ → GlobalTree
global_of n t values = record { id = n; var = of_type t; cells = values }

abbrev var : ℕ → PlaceTree
var v = place (local v) []

abbrev value : ℕ → ExprTree
value v = read (var v)

abbrev one : ExprTree
one = constant i.Int (pos 1)

-- what the pointer in variable 2 points to
abbrev target : PlaceTree
target = place (deref (value 2) anywhere) []

-- ---- the program: two structs, two globals, a host and a plain one, functions 2, 3 and main

abbrev structs : List StructInfo
structs = struct_of (field_of (ty.Int i.Int) ∷ field_of (ty.Array (e.Int i.Int) 2) ∷ []) ∷ struct_of (field_of (ty.Struct 0) ∷ field_of (ty.Int i.Char) ∷ []) ∷ []

abbrev load : Signature
load = signature (codes "load") (Some i.Int) (param (k.Int i.Int) ∷ []) true true

abbrev put : Signature
put = signature (codes "put") None (param (k.Int i.Int) ∷ []) true false

abbrev first_of : Signature
first_of = signature (codes "first_of") (Some i.Int) (param (k.Ptr (e.Int i.Int) true) ∷ []) false false

abbrev secret : Signature
secret = signature (codes "secret") None [] false true

abbrev main_signature : Signature
main_signature = signature (codes "main") (Some i.Int) [] false false

abbrev signatures : List (ℕ × Signature)
signatures = (0, load) ∷ (1, put) ∷ (2, first_of) ∷ (3, secret) ∷ (4, main_signature) ∷ []

abbrev globals : List GlobalTree
globals = global_of 0 (ty.Int i.Int) (pos 5 ∷ []) ∷ global_of 1 (ty.Struct 1) (pos 1 ∷ pos 2 ∷ pos 3 ∷ pos 4 ∷ []) ∷ []

-- return *p;
abbrev first_code : FunctionTree
first_code = function_of 2 1 (ty.Pointer (e.Int i.Int) true ∷ []) (give_back (Some (read (place (deref (value 0) anywhere) []))) ∷ [])

-- int, int[2], int *, struct 1, const int *, char
abbrev main_code : List StmtTree → FunctionTree
main_code body = function_of 4 0 (ty.Int i.Int ∷ ty.Array (e.Int i.Int) 2 ∷ ty.Pointer (e.Int i.Int) false ∷ ty.Struct 1 ∷ ty.Pointer (e.Int i.Int) true ∷ ty.Int i.Char ∷ []) body

abbrev whole : List StructInfo → List (ℕ × Signature) → List FunctionTree → List GlobalTree → ProgramTree
whole structs signatures functions globals = record { structs = structs; signatures = signatures; functions = functions; globals = globals }

-- the program with this body of main
abbrev with_body : List StmtTree → ProgramTree
with_body body = whole structs signatures (first_code ∷ main_code body ∷ []) globals

-- ---- each form of statement and of expression

abbrev storing : List StmtTree
storing =
    clear 0 ∷ check (var 1) ∷ assign (var 0) one ∷ assign (var 2) (decay (var 1)) ∷ assign (var 4) (value 2)
    ∷ assign (var 0) (binary Add i.Int (value 0) (convert i.Int (value 5)) anywhere)
    ∷ assign (var 0) (binary Shl i.Int (value 0) (constant i.Long (pos 1)) anywhere)
    ∷ assign (var 0) (unary Not i.Char (value 5) anywhere) ∷ assign (var 0) (compare Lt (value 2) (value 4) anywhere)
    ∷ assign (var 2) (move (value 2) one false anywhere) ∷ assign (var 0) (convert i.Int (difference (value 2) (value 4) anywhere))
    ∷ assign (var 2) (address (place (global 1) (0 ∷ 0 ∷ []))) ∷ assign (var 2) (null (e.Int i.Int)) ∷ assign target one
    ∷ copy (var 3) (place (global 1) []) ∷ []

abbrev branching : List StmtTree
branching =
    call 0 (expr_trees (value 0 ∷ [])) (Some 0) anywhere ∷ call 1 (expr_trees (one ∷ [])) None anywhere
    ∷ call 2 (expr_trees (value 2 ∷ [])) None anywhere ∷ call 3 (expr_trees []) None anywhere
    ∷ repeat (stmt_trees (choose (value 2) (stmt_trees (break_out ∷ [])) (stmt_trees (continue_on ∷ [])) ∷ [])) anywhere
    ∷ give_back (Some (value 0)) ∷ []

each_form : is_well_formed (with_body (storing ++ branching)) ≡ true
unfolding is_well_formed cells.leaves_of
each_form = refl

-- ---- statements that break a rule

abbrev Refused : StmtTree → Type 0
Refused s = is_well_formed (with_body (s ∷ [])) ≡ false

constant_too_large : Refused (assign (var 5) (constant i.Char (pos 128)))
unfolding is_well_formed cells.leaves_of
constant_too_large = refl

no_variable : Refused (clear 6)
unfolding is_well_formed cells.leaves_of
no_variable = refl

no_global : Refused (check (place (global 2) []))
unfolding is_well_formed cells.leaves_of
no_global = refl

no_field : Refused (check (place (global 1) (2 ∷ [])))
unfolding is_well_formed cells.leaves_of
no_field = refl

no_struct : Refused (choose (null (e.Struct 2)) (stmt_trees []) (stmt_trees []))
unfolding is_well_formed cells.leaves_of
no_struct = refl

no_pointer : Refused (check (place (deref (value 0) anywhere) []))
unfolding is_well_formed cells.leaves_of
no_pointer = refl

not_converted : Refused (assign (var 0) (value 5))
unfolding is_well_formed cells.leaves_of
not_converted = refl

not_promoted : Refused (assign (var 5) (unary Minus i.Char (value 5) anywhere))
unfolding is_well_formed cells.leaves_of
not_promoted = refl

two_types : Refused (assign (var 0) (binary Add i.Int (value 0) (value 5) anywhere))
unfolding is_well_formed cells.leaves_of
two_types = refl

const_is_lost : Refused (assign (var 2) (value 4))
unfolding is_well_formed cells.leaves_of
const_is_lost = refl

target_alone : Refused (assign (var 2) (address target))
unfolding is_well_formed cells.leaves_of
target_alone = refl

struct_as_value : Refused (assign (var 3) (read (place (global 1) [])))
unfolding is_well_formed cells.leaves_of
struct_as_value = refl

copy_of_an_integer : Refused (copy (var 0) (place (global 0) []))
unfolding is_well_formed cells.leaves_of
copy_of_an_integer = refl

no_argument : Refused (call 1 (expr_trees []) None anywhere)
unfolding is_well_formed cells.leaves_of
no_argument = refl

void_result : Refused (call 1 (expr_trees (one ∷ [])) (Some 0) anywhere)
unfolding is_well_formed cells.leaves_of
void_result = refl

no_callee : Refused (call 5 (expr_trees []) None anywhere)
unfolding is_well_formed cells.leaves_of
no_callee = refl

main_is_called : Refused (call 4 (expr_trees []) None anywhere)
unfolding is_well_formed cells.leaves_of
main_is_called = refl

break_alone : Refused break_out
unfolding is_well_formed cells.leaves_of
break_alone = refl

continue_alone : Refused continue_on
unfolding is_well_formed cells.leaves_of
continue_alone = refl

nothing_returned : Refused (give_back None)
unfolding is_well_formed cells.leaves_of
nothing_returned = refl

-- ---- programs that break a rule

abbrev idle : FunctionTree
idle = main_code []

abbrev calling : ℕ → FunctionTree
calling f = main_code (call f (expr_trees []) None anywhere ∷ [])

functions_out_of_order : is_well_formed (whole structs signatures (idle ∷ first_code ∷ []) globals) ≡ false
unfolding is_well_formed cells.leaves_of
functions_out_of_order = refl

struct_of_itself : is_well_formed (whole (struct_of (field_of (ty.Struct 0) ∷ []) ∷ []) ((4, main_signature) ∷ []) (function_of 4 0 [] [] ∷ []) []) ≡ false
unfolding is_well_formed cells.leaves_of
struct_of_itself = refl

struct_without_fields : is_well_formed (whole (struct_of [] ∷ []) ((4, main_signature) ∷ []) (function_of 4 0 [] [] ∷ []) []) ≡ false
unfolding is_well_formed cells.leaves_of
struct_without_fields = refl

array_without_elements : is_well_formed (whole [] ((4, main_signature) ∷ []) (function_of 4 0 (ty.Array (e.Int i.Int) 0 ∷ []) [] ∷ []) []) ≡ false
unfolding is_well_formed cells.leaves_of
array_without_elements = refl

global_pointer : is_well_formed (whole structs signatures (first_code ∷ idle ∷ []) (global_of 0 (ty.Pointer (e.Int i.Int) false) [] ∷ [])) ≡ false
unfolding is_well_formed cells.leaves_of
global_pointer = refl

too_few_cells : is_well_formed (whole structs signatures (first_code ∷ idle ∷ []) (global_of 0 (ty.Int i.Int) [] ∷ [])) ≡ false
unfolding is_well_formed cells.leaves_of
too_few_cells = refl

cell_too_large : is_well_formed (whole structs signatures (first_code ∷ idle ∷ []) (global_of 0 (ty.Int i.Char) (negsuc 128 ∷ []) ∷ [])) ≡ false
unfolding is_well_formed cells.leaves_of
cell_too_large = refl

host_of_pointers : is_well_formed (whole structs ((0, signature [] None (param (k.Ptr (e.Int i.Int) false) ∷ []) true false) ∷ (4, main_signature) ∷ []) (idle ∷ []) globals) ≡ false
unfolding is_well_formed cells.leaves_of
host_of_pointers = refl

nine_parameters : is_well_formed (whole structs ((0, signature [] None (replicate 9 (param (k.Int i.Int))) true false) ∷ (4, main_signature) ∷ []) (idle ∷ []) globals) ≡ false
unfolding is_well_formed cells.leaves_of
nine_parameters = refl

host_with_code : is_well_formed (whole structs signatures (function_of 1 1 (ty.Int i.Int ∷ []) [] ∷ idle ∷ []) globals) ≡ false
unfolding is_well_formed cells.leaves_of
host_with_code = refl

other_parameters : is_well_formed (whole structs signatures (function_of 2 1 (ty.Int i.Int ∷ []) [] ∷ idle ∷ []) globals) ≡ false
unfolding is_well_formed cells.leaves_of
other_parameters = refl

callee_without_code : is_well_formed (whole structs ((2, signature [] None [] false false) ∷ (4, main_signature) ∷ []) (calling 2 ∷ []) globals) ≡ false
unfolding is_well_formed cells.leaves_of
callee_without_code = refl

no_main : is_well_formed (whole structs signatures (first_code ∷ []) globals) ≡ false
unfolding is_well_formed cells.leaves_of
no_main = refl

two_mains : is_well_formed (whole structs ((4, main_signature) ∷ (5, main_signature) ∷ []) (idle ∷ function_of 5 0 [] [] ∷ []) globals) ≡ false
unfolding is_well_formed cells.leaves_of
two_mains = refl

void_main : is_well_formed (whole structs ((4, signature (codes "main") None [] false false) ∷ []) (idle ∷ []) globals) ≡ false
unfolding is_well_formed cells.leaves_of
void_main = refl

-- ---- boots

-- lines alone fit
abbrev lines_fit : Fits
lines_fit (Line name) s = true
lines_fit model s = false

abbrev boot : List StmtTree → List (ℕ × HostModel) → BootTree
boot body hosts = record { structs = structs; signatures = signatures; functions = first_code ∷ main_code body ∷ []; globals = globals; hosts = hosts; input = []; turns = 9 }

abbrev puts : List StmtTree
puts = call 1 (expr_trees (one ∷ [])) None anywhere ∷ []

answered : is_well_formed_boot lines_fit (boot (puts ++ branching) ((1, Line []) ∷ [])) ≡ true
unfolding is_well_formed_boot is_well_formed cells.leaves_of
answered = refl

not_answered : is_well_formed_boot lines_fit (boot puts []) ≡ false
unfolding is_well_formed_boot is_well_formed cells.leaves_of
not_answered = refl

fits_not : is_well_formed_boot lines_fit (boot puts ((1, Feed [] (pos 0) 0) ∷ [])) ≡ false
unfolding is_well_formed_boot is_well_formed cells.leaves_of
fits_not = refl

no_host : is_well_formed_boot lines_fit (boot puts ((1, Line []) ∷ (2, Line []) ∷ [])) ≡ false
unfolding is_well_formed_boot is_well_formed cells.leaves_of
no_host = refl

answered_twice : is_well_formed_boot lines_fit (boot puts ((1, Line []) ∷ (1, Line []) ∷ [])) ≡ false
unfolding is_well_formed_boot is_well_formed cells.leaves_of
answered_twice = refl

-- ---- monitors: function 2 takes an int of its own, and the global 0 by its second parameter

abbrev adds : Signature
adds = signature (codes "adds") None (param (k.Int i.Int) ∷ param (k.Ptr (e.Int i.Int) false) ∷ []) false true

abbrev entry : ℕ → List Bind → Entry
entry f shared = record { function = record { 0 = f }; shared = shared }

abbrev bind : ℕ → ℕ → Bind
bind argument g = record { argument = argument; global = record { 0 = g } }

abbrev monitor : List StmtTree → List Entry → MonitorTree
monitor body entries = record { structs = structs; signatures = (0, load) ∷ (2, adds) ∷ (3, secret) ∷ []; functions = function_of 2 1 (ty.Int i.Int ∷ []) body ∷ []; globals = globals; entries = entries }

bound : is_well_formed_monitor (monitor (call 2 (expr_trees (one ∷ [])) None anywhere ∷ []) (entry 0 [] ∷ entry 2 (bind 1 0 ∷ []) ∷ [])) ≡ true
unfolding is_well_formed_monitor cells.leaves_of
bound = refl

argument_for_a_global : is_well_formed_monitor (monitor (call 2 (expr_trees (one ∷ address (place (global 0) []) ∷ [])) None anywhere ∷ []) []) ≡ false
unfolding is_well_formed_monitor cells.leaves_of
argument_for_a_global = refl

privileged_without_code : is_well_formed_monitor (monitor (call 3 (expr_trees []) None anywhere ∷ []) []) ≡ false
unfolding is_well_formed_monitor cells.leaves_of
privileged_without_code = refl

entry_without_code : is_well_formed_monitor (monitor [] (entry 3 [] ∷ [])) ≡ false
unfolding is_well_formed_monitor cells.leaves_of
entry_without_code = refl

not_bound : is_well_formed_monitor (monitor [] (entry 2 [] ∷ [])) ≡ false
unfolding is_well_formed_monitor cells.leaves_of
not_bound = refl

bound_elsewhere : is_well_formed_monitor (monitor [] (entry 2 (bind 0 0 ∷ []) ∷ [])) ≡ false
unfolding is_well_formed_monitor cells.leaves_of
bound_elsewhere = refl

bound_to_a_struct : is_well_formed_monitor (monitor [] (entry 2 (bind 1 1 ∷ []) ∷ [])) ≡ false
unfolding is_well_formed_monitor cells.leaves_of
bound_to_a_struct = refl

bound_host : is_well_formed_monitor (monitor [] (entry 0 (bind 0 0 ∷ []) ∷ [])) ≡ false
unfolding is_well_formed_monitor cells.leaves_of
bound_host = refl

-- no parameter of its own, and one global for two of them
bound_twice : is_well_formed_monitor (record {
  structs = [];
  signatures = (2, signature [] None (param (k.Ptr (e.Int i.Int) false) ∷ param (k.Ptr (e.Int i.Int) false) ∷ []) false true) ∷ [];
  functions = function_of 2 0 [] [] ∷ [];
  globals = global_of 0 (ty.Int i.Int) (pos 5 ∷ []) ∷ [];
  entries = entry 2 (bind 0 0 ∷ bind 1 0 ∷ []) ∷ [];
}) ≡ false
unfolding is_well_formed_monitor cells.leaves_of
bound_twice = refl

entries_out_of_order : is_well_formed_monitor (monitor [] (entry 2 (bind 1 0 ∷ []) ∷ entry 0 [] ∷ [])) ≡ false
unfolding is_well_formed_monitor cells.leaves_of
entries_out_of_order = refl
