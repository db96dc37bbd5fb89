-- Where a machine fits, each block of it that has integers lies somewhere, and so does each block that a pointer points into.
use Rattle.std.proofs.Common.{◌≡◌, ◌∙◌, ◌<◌, ◌≤◌, ℕ, zero, suc, pos, List, [], ◌∷◌, length, get_or, refl, sym, ap, subst, arith, Bool, true, false, nat_eq, if◌then◌else◌, Option, Some, None}
use Rattle.std.specs.Prelude.{IsTrue, is_some, slice_get}
use Rattle.std.specs.List.{list_all}
use Rattle.std.specs.Map.{lookup}
use Rattle.std.proofs.lemmas.Bool.{eqb-true, lt-ltb}
use Rattle.marshalling_law.proofs.CallsTargets.{elem_leaf, no_types, some_repeated}
use Rattle.pt_base.specs.declared.int_type.IntType.{IntType}
use Rattle.pt_base.proofs.Booleans.{both_hold_first}
use Rattle.pt_tree.specs.declared.signature.Elem.{Elem}
use Rattle.pt_tree.specs.declared.signature.Elem.TheVariants as e
use Rattle.typed_tree.specs.declared.types.StructInfo.{StructInfo}
use Rattle.typed_tree.specs.declared.types.VarTy.{VarTy}
use Rattle.typed_tree.specs.declared.types.VarTy.TheVariants.{Int, Struct, Array, Pointer}
use Rattle.typed_tree.specs.declared.variable.Var.{Var}
use Rattle.typed_tree.specs.Cells.{leaves_of, repeated}
use Rattle.typed_tree.specs.TypeTests.{type_of_elem}
use Rattle.typed_tree.specs.WellFormed.{is_small, is_variable_type, structs_sound}
use Rattle.block_memory.specs.declared.cell.Cell.{Cell}
use Rattle.block_memory.specs.declared.cell.Cell.TheVariants as cell
use Rattle.block_memory.specs.declared.cell.Pointer.TheVariants.{Null, At}
use Rattle.block_memory.specs.declared.cell.BlockName.{BlockName}
use Rattle.block_memory.specs.declared.cell.BlockName.TheVariants.{Local, Global, Received}
use Rattle.block_memory.specs.Block.{Block}
use Rattle.block_memory.specs.Blocks.{Blocks}
use Rattle.pt_core.specs.CodeTree.{FunctionTree, ProgramTree}
use Rattle.pt_core.specs.Calls.{context_in, function_in}
use Rattle.pt_core.specs.Steps.{Active}
use Rattle.pt_core.specs.WellFormed.{is_sound, variable_fits}
use Rattle.core_soundness_law.specs.Fits.{AllFit, IntegerFits, IntegersFit, LieAt, LocalFits, MemoryFits, PointerFits, variables_at}
use Rattle.core_soundness_law.specs.Kept.{Kept}
use Rattle.core_soundness_law.proofs.Programs.{FunctionFacts, ProgramFacts, facts_of, function_facts, variable_of}
use Rattle.part_views_law.specs.Views.{IsView, Lies, View}
use Rattle.part_views_law.specs.StepsParts.{AllAbove}
use Rattle.part_views_law.proofs.StepsCells.{MemoryOwn, OwnCell}

-- each block that has integers lies somewhere
abbrev pub Covers : View → Blocks → Type 0
Covers v blocks = (b : BlockName) → 1 ≤ length (blocks b).types → Lies v b

own_lies : (v : View) (base : ℕ) (part : ProgramTree) → IsView v base part → (name : BlockName) → (v.at name ≡ name) × (v.of name ≡ Some name) → Lies v name
own_lies v base part view name own = ap v.of own.0 ∙ own.1

-- a variable is one of an active function, which is deep enough
variable_above : (program : ProgramTree) (base : ℕ) (monitor : Bool) (active : List Active) (depth k : ℕ) (ty : VarTy) → AllAbove base monitor active → slice_get (variables_at program active depth) k ≡ Some ty → base < depth
variable_above program base monitor [] depth k ty above is = cc
variable_above program base monitor (a ∷ rest) depth k ty above is = go (variable_above program base monitor rest depth k ty above.2) (nat_eq depth a.depth) refl is
  where
    go : (slice_get (variables_at program rest depth) k ≡ Some ty → base < depth) → (t : Bool) → nat_eq depth a.depth ≡ t → slice_get (if t then (context_in program a.function).variables else variables_at program rest depth) k ≡ Some ty → base < depth
    go deeper true e h = let same : depth ≡ a.depth = eqb-true depth a.depth e in let low : base < a.depth = above.0 in omega (arith, same, low)
    go deeper false e h = deeper h

pub covers_by_fits : (v : View) (base : ℕ) (kept : Kept) (monitor : Bool) (part : ProgramTree) → IsView v base part → (active : List Active) (blocks : Blocks) → MemoryFits kept part active blocks → AllAbove base monitor active →
    ((k : ℕ) → 1 ≤ length (blocks (Received k)).types → Lies v (Received k)) → Covers v blocks
covers_by_fits v base kept monitor part view active blocks mem above received (Local d k) some = go (slice_get (variables_at part active d) k) refl (mem.locals d k)
  where
    go : (o : Option VarTy) → slice_get (variables_at part active d) k ≡ o → LocalFits kept part.structs blocks d o (blocks (Local d k)) → Lies v (Local d k)
    go None e f = no_types (blocks (Local d k)).types (ap (λ (b : Block). b.types) f) some
    go (Some ty) e f = own_lies v base part view (Local d k) (view.own (Local d k) (lt-ltb base d (variable_above part base monitor active d k ty above e)))
covers_by_fits v base kept monitor part view active blocks mem above received (Global g) some = go (lookup (nat_eq g) (context_in part 0).globals) refl
  where
    go : (o : Option VarTy) → lookup (nat_eq g) (context_in part 0).globals ≡ o → Lies v (Global g)
    go None e = no_types (blocks (Global g)).types (ap (λ (b : Block). b.types) (mem.beyond g e)) some
    go (Some ty) e = own_lies v base part view (Global g) (view.own (Global g) (ap is_some e))
covers_by_fits v base kept monitor part view active blocks mem above received (Received n) some = received n some

-- ---- pointers

lie_some : (types : List IntType) (n : ℕ) (ts : List IntType) → LieAt types n ts → 1 ≤ length ts → 1 ≤ length types
lie_some types n [] f some = absurd (omega (arith, some))
lie_some [] zero (t ∷ ts) f some = elim f [ ]
lie_some [] (suc n) (t ∷ ts) f some = elim f [ ]
lie_some (u ∷ types) n (t ∷ ts) f some = omega arith

pointer_own : (v : View) (structs : List StructInfo) (blocks : Blocks) (depth : ℕ) (elem : Elem) (fixed : Bool) (c : Cell) → Covers v blocks → IsTrue (structs_sound structs 0 structs) → IsTrue (is_variable_type (length structs) (Pointer elem fixed)) →
    PointerFits structs blocks depth elem c → OwnCell v c
pointer_own v structs blocks depth elem fixed (cell.Int n) covers sound ok f = elim f [ ]
pointer_own v structs blocks depth elem fixed (cell.Sealed h) covers sound ok f = elim f [ ]
pointer_own v structs blocks depth elem fixed (cell.Ptr Null) covers sound ok f = tt {0}
pointer_own v structs blocks depth elem fixed (cell.Ptr (At block base count index)) covers sound ok f =
    covers block (lie_some (blocks block).types base (repeated count (leaves_of structs (type_of_elem elem))) f.types (some_repeated count (leaves_of structs (type_of_elem elem)) f.some (elem_leaf structs elem fixed sound ok)))

-- ---- memories

integers_own : (v : View) (kept : Kept) (types : List IntType) (cells : List Cell) (i : ℕ) → IntegersFit kept types cells → OwnCell v (get_or cells i (cell.Int (pos 0)))
integers_own v kept types [] i f = tt {0}
integers_own v kept [] (c ∷ cells) i f = elim f [ ]
integers_own v kept (t ∷ types) (c ∷ cells) zero f = one t c f.0
  where
    one : (t : IntType) (c : Cell) → IntegerFits kept t c → OwnCell v c
    one t (cell.Int n) f = tt {0}
    one t (cell.Ptr p) f = elim f [ ]
    one t (cell.Sealed h) f = tt {0}
integers_own v kept (t ∷ types) (c ∷ cells) (suc i) f = integers_own v kept types cells i f.1

one_own : (v : View) (c : Cell) (i : ℕ) → OwnCell v c → OwnCell v (get_or (c ∷ []) i (cell.Int (pos 0)))
one_own v c zero own = own
one_own v c (suc i) own = tt {0}

local_own : (v : View) (kept : Kept) (structs : List StructInfo) (blocks : Blocks) (depth : ℕ) (o : Option VarTy) (b : Block) (i : ℕ) → Covers v blocks → IsTrue (structs_sound structs 0 structs) → ((ty : VarTy) → o ≡ Some ty → IsTrue (is_variable_type (length structs) ty)) →
    LocalFits kept structs blocks depth o b → OwnCell v (get_or b.cells i (cell.Int (pos 0)))
local_own v kept structs blocks depth None b i covers sound ok f = subst (λ (d : Block). OwnCell v (get_or d.cells i (cell.Int (pos 0)))) (sym f) (tt {0})
local_own v kept structs blocks depth (Some (Int t)) b i covers sound ok f = integers_own v kept b.types b.cells i f.cells
local_own v kept structs blocks depth (Some (Struct n)) b i covers sound ok f = integers_own v kept b.types b.cells i f.cells
local_own v kept structs blocks depth (Some (Array elem count)) b i covers sound ok f = integers_own v kept b.types b.cells i f.cells
local_own v kept structs blocks depth (Some (Pointer elem fixed)) b i covers sound ok f =
    subst (λ (cells : List Cell). OwnCell v (get_or cells i (cell.Int (pos 0)))) (sym f.cells)
    (one_own v f.held i (pointer_own v structs blocks depth elem fixed f.held covers sound (ok (Pointer elem fixed) refl) f.fits))

-- each variable has a variable's type
variable_typed : (monitor : Bool) (program : ProgramTree) → ProgramFacts monitor program → (active : List Active) (depth k : ℕ) (ty : VarTy) → AllFit monitor program active → slice_get (variables_at program active depth) k ≡ Some ty → IsTrue (is_variable_type (length program.structs) ty)
variable_typed monitor program facts [] depth k ty fit is = cc
variable_typed monitor program facts (a ∷ rest) depth k ty fit is = go (variable_typed monitor program facts rest depth k ty fit.2) (nat_eq depth a.depth) is
  where
    function : FunctionFacts monitor program a.function
    function = function_facts monitor program facts a.function fit.0.known

    go : (slice_get (variables_at program rest depth) k ≡ Some ty → IsTrue (is_variable_type (length program.structs) ty)) → (t : Bool) → slice_get (if t then (context_in program a.function).variables else variables_at program rest depth) k ≡ Some ty → IsTrue (is_variable_type (length program.structs) ty)
    go deeper false h = deeper h
    go deeper true h =
        let all = subst (λ (g : FunctionTree). IsTrue (list_all (variable_fits program.structs) g.vars)) (sym function.tree_is) function.variables in
        let of : (x : Var) × IsTrue (variable_fits program.structs x) × (x.ty ≡ ty) = variable_of (variable_fits program.structs) (function_in program a.function).vars k ty h all in
        subst (λ u. IsTrue (is_variable_type (length program.structs) u)) of.2 (both_hold_first (is_variable_type (length program.structs) of.0.ty) (is_small program.structs of.0.ty) of.1)

pub held_by_fits : (v : View) (kept : Kept) (monitor : Bool) (part : ProgramTree) (active : List Active) (blocks : Blocks) → IsTrue (is_sound monitor part) → MemoryFits kept part active blocks → AllFit monitor part active → Covers v blocks → MemoryOwn v blocks
held_by_fits v kept monitor part active blocks sound mem fit covers (Local d k) i =
    let facts : ProgramFacts monitor part = facts_of monitor part sound in
    local_own v kept part.structs blocks d (slice_get (variables_at part active d) k) (blocks (Local d k)) i covers facts.structs (λ ty is. variable_typed monitor part facts active d k ty fit is) (mem.locals d k)
held_by_fits v kept monitor part active blocks sound mem fit covers (Global g) i = integers_own v kept (blocks (Global g)).types (blocks (Global g)).cells i (mem.global_cells g)
held_by_fits v kept monitor part active blocks sound mem fit covers (Received n) i = integers_own v kept (blocks (Received n)).types (blocks (Received n)).cells i (mem.received_cells n)
