-- The blocks that the arguments of a call point into, where the memory fits.
use Rattle.std.proofs.Common.{◌≡◌, ◌+◌, ◌≤◌, ℕ, zero, suc, ap, refl, subst, arith, List, [], ◌∷◌, length, length-append, Bool, true, false, Option, Some, None}
use Rattle.std.specs.Prelude.{IsTrue, ◌||◌, slice_get}
use Rattle.std.specs.List.{list_all, list_any}
use Rattle.std.proofs.lemmas.Bool.{and_from}
use Rattle.pt_base.specs.declared.int_type.IntType.{IntType}
use Rattle.pt_base.proofs.Booleans.{both_hold_first, both_hold_second}
use Rattle.pt_base.proofs.Numbers.{below_holds}
use Rattle.pt_tree.specs.declared.signature.Elem.{Elem}
use Rattle.pt_tree.specs.declared.signature.Elem.TheVariants as e
use Rattle.pt_tree.specs.declared.signature.Param.{Param}
use Rattle.pt_tree.specs.declared.signature.ParamKind.{ParamKind}
use Rattle.pt_tree.specs.declared.signature.ParamKind.TheVariants as kind
use Rattle.typed_tree.specs.declared.types.StructInfo.{StructInfo}
use Rattle.typed_tree.specs.declared.types.VarTy.{VarTy}
use Rattle.typed_tree.specs.declared.types.VarTy.TheVariants.{Int, Struct, Array, Pointer}
use Rattle.typed_tree.specs.Cells.{leaves_of, repeated}
use Rattle.typed_tree.specs.TypeTests.{type_of_elem}
use Rattle.typed_tree.specs.WellFormed.{is_variable_type, structs_sound}
use Rattle.typed_tree.specs.WellFormedExpression.{param_type}
use Rattle.typed_tree.proofs.LeavesLemmas.{leaves_of_int}
use Rattle.block_memory.specs.declared.cell.BlockName.{BlockName}
use Rattle.block_memory.specs.declared.cell.BlockName.TheVariants.{Local, Global, Received}
use Rattle.block_memory.specs.declared.cell.Cell.{Cell}
use Rattle.block_memory.specs.declared.cell.Cell.TheVariants as cell
use Rattle.block_memory.specs.declared.cell.Pointer.TheVariants.{Null, At}
use Rattle.block_memory.specs.Block.{Block}
use Rattle.block_memory.specs.Blocks.{Blocks, is_same_name}
use Rattle.block_memory.proofs.BlocksLemmas.{is_same_name-self, same_name}
use Rattle.pt_core.specs.CodeTree.{ProgramTree}
use Rattle.pt_core.specs.Steps.{Active}
use Rattle.core_soundness_law.specs.Kept.{Kept}
use Rattle.core_soundness_law.specs.Fits.{IntegerFits, IntegersFit, LieAt, LocalFits, MemoryFits, PointerFits, ValueFits, depth_of, variables_at}
use Rattle.core_soundness_law.specs.Outside.{ArgumentsFit}
use Rattle.core_soundness_law.proofs.Leaves.{struct_leaf}
use Rattle.marshalling.specs.HonestCalls.{is_integer}
use Rattle.marshalling.specs.Packing.{is_among, names_of}
use Rattle.marshalling.proofs.NameLemmas.{from_new, points_to}
use Rattle.marshalling_law.specs.CallsSending.{AreParameters}

-- ---- what arguments point to

lie_some : (types : List IntType) (n : ℕ) (ts : List IntType) → LieAt types n ts → 1 ≤ length ts → n + 1 ≤ length types
lie_some types n [] f some = absurd (omega (arith, some))
lie_some [] zero (t ∷ ts) f some = elim f [ ]
lie_some [] (suc n) (t ∷ ts) f some = elim f [ ]
lie_some (u ∷ types) zero (t ∷ ts) f some = omega arith
lie_some (u ∷ types) (suc n) (t ∷ ts) f some = let rest : n + 1 ≤ length types = lie_some types n (t ∷ ts) f some in omega (arith, rest)

pub some_repeated : (count : ℕ) (ts : List IntType) → 1 ≤ count → 1 ≤ length ts → 1 ≤ length (repeated count ts)
some_repeated zero ts h k = absurd (omega (arith, h))
some_repeated (suc count) ts h k = let long = length-append ts (repeated count ts) in omega (arith, long, k)

pub elem_leaf : (structs : List StructInfo) (elem : Elem) (fixed : Bool) → IsTrue (structs_sound structs 0 structs) → IsTrue (is_variable_type (length structs) (Pointer elem fixed)) → 1 ≤ length (leaves_of structs (type_of_elem elem))
elem_leaf structs (e.Int t) fixed sound h = let one : length (leaves_of structs (Int t)) ≡ 1 = ap (λ (ts : List IntType). length ts) (leaves_of_int structs t) in omega (arith, one)
elem_leaf structs (e.Struct n) fixed sound h = struct_leaf structs sound n (below_holds n (length structs) h)

-- the block is of no deeper function, and has integers
pub record IsTarget (x : Blocks) (base : ℕ) (name : BlockName) : Type 0 where
  pub near : depth_of name ≤ base
  pub some : 1 ≤ length (x name).types

-- where a pointer's range begins, its block has an integer
pub base_within : (structs : List StructInfo) (x : Blocks) (depth : ℕ) (elem : Elem) (fixed : Bool) (block : BlockName) (base count index : ℕ) → IsTrue (structs_sound structs 0 structs) → IsTrue (is_variable_type (length structs) (Pointer elem fixed)) →
    PointerFits structs x depth elem (cell.Ptr (At block base count index)) → base + 1 ≤ length (x block).types
base_within structs x depth elem fixed block base count index sound ok f =
    lie_some (x block).types base (repeated count (leaves_of structs (type_of_elem elem))) f.types (some_repeated count (leaves_of structs (type_of_elem elem)) f.some (elem_leaf structs elem fixed sound ok))

pub target_of : (kept : Kept) (structs : List StructInfo) (x : Blocks) (base : ℕ) (name : BlockName) (of : ParamKind) (c : Cell) → IsTrue (structs_sound structs 0 structs) → IsTrue (is_variable_type (length structs) (param_type of)) →
    ValueFits kept structs x base (param_type of) c → points_to name c ≡ true → IsTarget x base name
target_of kept structs x base name of (cell.Int v) sound ok f h = cc
target_of kept structs x base name of (cell.Ptr Null) sound ok f h = cc
target_of kept structs x base name of (cell.Sealed s) sound ok f h = cc
target_of kept structs x base name (kind.Int t) (cell.Ptr (At block at count index)) sound ok f h = elim f [ ]
target_of kept structs x base name (kind.Ptr elem fixed) (cell.Ptr (At block at count index)) sound ok f h =
    subst (IsTarget x base) (same_name block name h) (record { near = f.near; some = positive at (length (x block).types) (base_within structs x base elem fixed block at count index sound ok f) })
  where
    positive : (n k : ℕ) → n + 1 ≤ k → 1 ≤ k
    positive n k h = omega (arith, h)

pub targets : (kept : Kept) (structs : List StructInfo) (x : Blocks) (base : ℕ) (name : BlockName) (params : List Param) (args : List Cell) → IsTrue (structs_sound structs 0 structs) → AreParameters structs params →
    ArgumentsFit kept structs x base params args → list_any (points_to name) args ≡ true → IsTarget x base name
targets kept structs x base name [] [] sound ok f h = cc
targets kept structs x base name [] (c ∷ args) sound ok f h = elim f [ ]
targets kept structs x base name (p ∷ params) [] sound ok f h = elim f [ ]
targets kept structs x base name (p ∷ params) (c ∷ args) sound ok f h =
    go (points_to name c) refl h (targets kept structs x base name params args sound (both_hold_second (is_variable_type (length structs) (param_type p.kind)) (list_all (λ (q : Param). is_variable_type (length structs) (param_type q.kind)) params) ok) f.1)
  where
    go : (t : Bool) → points_to name c ≡ t → (t || list_any (points_to name) args) ≡ true → (list_any (points_to name) args ≡ true → IsTarget x base name) → IsTarget x base name
    go true here k rest = target_of kept structs x base name p.kind c sound (both_hold_first (is_variable_type (length structs) (param_type p.kind)) (list_all (λ (q : Param). is_variable_type (length structs) (param_type q.kind)) params) ok) f.0 here
    go false here k rest = rest k

pub target_among : (kept : Kept) (structs : List StructInfo) (x : Blocks) (base : ℕ) (name : BlockName) (params : List Param) (args : List Cell) → IsTrue (structs_sound structs 0 structs) → AreParameters structs params →
    ArgumentsFit kept structs x base params args → is_among (names_of args) name ≡ true → IsTarget x base name
target_among kept structs x base name params args sound ok given among = targets kept structs x base name params args sound ok given (from_new [] args name among)

-- ---- blocks with integers

pub all_integers : (kept : Kept) (types : List IntType) (cells : List Cell) → IntegersFit kept types cells → list_all is_integer cells ≡ true
all_integers kept [] [] f = refl
all_integers kept [] (c ∷ cells) f = elim f [ ]
all_integers kept (t ∷ types) [] f = elim f [ ]
all_integers kept (t ∷ types) (c ∷ cells) f = and_from (is_integer c) (list_all is_integer cells) (one t c f.0) (all_integers kept types cells f.1)
  where
    one : (t : IntType) (c : Cell) → IntegerFits kept t c → is_integer c ≡ true
    one t (cell.Int v) f = refl
    one t (cell.Ptr p) f = elim f [ ]
    one t (cell.Sealed h) f = refl

pub as_many : (kept : Kept) (types : List IntType) (cells : List Cell) → IntegersFit kept types cells → length types ≡ length cells
as_many kept [] [] f = refl
as_many kept [] (c ∷ cells) f = elim f [ ]
as_many kept (t ∷ types) [] f = elim f [ ]
as_many kept (t ∷ types) (c ∷ cells) f = ap suc (as_many kept types cells f.1)

pub no_types : {A : Type 0} (types : List IntType) → types ≡ [] → 1 ≤ length types → A
no_types types is some = let long : length types ≡ 0 = ap (λ (ts : List IntType). length ts) is in absurd (omega (arith, long, some))

-- where a local's block has types, it has integers
pub local_integers : (kept : Kept) (structs : List StructInfo) (x : Blocks) (depth : ℕ) (o : Option VarTy) (b : Block) → LocalFits kept structs x depth o b → 1 ≤ length b.types → IntegersFit kept b.types b.cells
local_integers kept structs x depth None b f some = no_types b.types (ap (λ (d : Block). d.types) f) some
local_integers kept structs x depth (Some (Int t)) b f some = f.cells
local_integers kept structs x depth (Some (Struct n)) b f some = f.cells
local_integers kept structs x depth (Some (Array elem count)) b f some = f.cells
local_integers kept structs x depth (Some (Pointer elem fixed)) b f some = no_types b.types f.none some

-- so has any block
pub block_integers : (kept : Kept) (program : ProgramTree) (active : List Active) (x : Blocks) → MemoryFits kept program active x → (name : BlockName) → 1 ≤ length (x name).types → IntegersFit kept (x name).types (x name).cells
block_integers kept program active x mem (Local d v) some = local_integers kept program.structs x d (slice_get (variables_at program active d) v) (x (Local d v)) (mem.locals d v) some
block_integers kept program active x mem (Global g) some = mem.global_cells g
block_integers kept program active x mem (Received n) some = mem.received_cells n

pub each_name : (f : BlockName → Bool) (names : List BlockName) → ((name : BlockName) → is_among names name ≡ true → f name ≡ true) → list_all f names ≡ true
each_name f [] h = refl
each_name f (n ∷ names) h = and_from (f n) (list_all f names) (h n (or_left (is_same_name n n) (is_among names n) (is_same_name-self n))) (each_name f names (λ name among. h name (or_right (is_same_name n name) (is_among names name) among)))
  where
    or_left : (a b : Bool) → a ≡ true → (a || b) ≡ true
    or_left true b h = refl
    or_left false b h = cc

    or_right : (a b : Bool) → b ≡ true → (a || b) ≡ true
    or_right true b h = refl
    or_right false b h = h
