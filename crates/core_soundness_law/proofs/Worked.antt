-- The laws tried on small memories: a function with one pointer, which points into the one received block. What the laws ask
-- for is needed.
use Rattle.std.proofs.Common.{◌≡◌, ◌∙◌, ℕ, zero, suc, pos, ℤ, nat_eq, refl, sym, subst, arith, Bool, true, false, None, List, [], ◌∷◌, if◌then◌else◌}
use Rattle.std.specs.Prelude.{slice_get, slice_index_or}
use Rattle.std.proofs.lemmas.Bool.Decides.{nat_tests}
use Rattle.pt_base.specs.declared.int_type.IntType.{IntType}
use Rattle.pt_base.specs.declared.int_type.IntType.TheVariants as i
use Rattle.pt_base.specs.declared.span.Span.{Span}
use Rattle.pt_base.proofs.Booleans.{false_not_true}
use Rattle.pt_tree.specs.declared.signature.Elem.TheVariants as e
use Rattle.typed_tree.specs.declared.types.VarTy.{VarTy}
use Rattle.typed_tree.specs.declared.types.VarTy.TheVariants.{Int, Pointer}
use Rattle.typed_tree.specs.declared.types.StructInfo.{StructInfo}
use Rattle.typed_tree.specs.declared.variable.Var.{Var}
use Rattle.typed_tree.specs.Cells.{leaves_of, repeated}
use Rattle.typed_tree.proofs.LeavesLemmas.{leaves_of_int}
use Rattle.block_memory.specs.declared.cell.Cell.{Cell}
use Rattle.block_memory.specs.declared.cell.Cell.TheVariants as cell
use Rattle.block_memory.specs.declared.cell.Pointer.TheVariants.{At}
use Rattle.block_memory.specs.declared.cell.BlockName.TheVariants.{Local, Global, Received}
use Rattle.block_memory.specs.Block.{Block, no_block}
use Rattle.block_memory.specs.Blocks.{Blocks, put}
use Rattle.pt_core.specs.CodeTree.{no_stmts, ProgramTree}
use Rattle.pt_core.specs.Steps.{Active, at_rest}
use Rattle.pt_core.specs.Values.{written}
use Rattle.core_soundness_law.specs.Kept.{Kept, any, none, by_store}
use Rattle.core_soundness_law.specs.Fits.{IntegerFits, IntegersFit, LieAt, PointerFits, HasPointer, LocalFits, MemoryFits, Fits}

abbrev anywhere : Span
anywhere = record { from = 0; to = 0 }

abbrev of_type : VarTy → Var
of_type ty = record { name = []; span = anywhere; ty = ty; marked = false; unpriv = false; holds = None }

-- void f(void) { int *p; .. }
abbrev program : ProgramTree
program = record {
  structs = [];
  signatures = [];
  functions = record { id = 1; params = 0; vars = of_type (Pointer (e.Int i.Int) false) ∷ []; body = no_stmts; end = anywhere } ∷ [];
  globals = [];
}

abbrev f : Active
f = record { function = 1; depth = 1; privileged = false; result = None; work = [] }

abbrev pointer : Cell
pointer = cell.Ptr (At (Received 0) 0 1 0)

abbrev holding : Block
holding = record { types = []; cells = pointer ∷ [] }

-- a received block of one integer
abbrev sent : Cell → Block
sent c = record { types = i.Int ∷ []; cells = c ∷ [] }

abbrev memory : Cell → Blocks
memory c (Local depth v) = if nat_eq depth 1 then slice_index_or (holding ∷ []) v no_block else no_block
memory c (Global g) = no_block
memory c (Received n) = slice_index_or (sent c ∷ []) n no_block

points : (structs : List StructInfo) (blocks : Blocks) → (blocks (Received 0)).types ≡ i.Int ∷ [] → PointerFits structs blocks 1 (e.Int i.Int) pointer
points structs blocks is = record {
  near = omega arith;
  some = omega arith;
  few = omega arith;
  within = omega arith;
  types = subst (λ ts. LieAt (blocks (Received 0)).types 0 (repeated 1 ts)) (sym (leaves_of_int structs i.Int)) (subst (λ ts. LieAt ts 0 (i.Int ∷ [])) (sym is) (refl, tt {0}));
}

abbrev Holds : Kept → Block → Type 0
Holds kept block = IntegersFit kept block.types block.cells

-- it fits, where the one cell does
pub memory_fits : (kept : Kept) (c : Cell) → IntegerFits kept i.Int c → MemoryFits kept program (f ∷ []) (memory c)
memory_fits kept c fit = record {
  locals = λ depth v. at depth v (nat_eq depth 1) refl;
  globals = λ g ty is. cc;
  global_cells = λ g. tt {0};
  received_cells = λ n. received n;
  beyond = λ g is. refl;
}
  where
    received : (n : ℕ) → Holds kept (memory c (Received n))
    received zero = (fit, tt {0})
    received (suc n) = tt {0}

    number : (n : ℕ) → nat_eq n 1 ≡ true → n ≡ 1
    number n h = grind (arith, nat_tests)

    at : (depth v : ℕ) (t : Bool) → nat_eq depth 1 ≡ t →
        LocalFits kept [] (memory c) depth (slice_get (if t then Pointer (e.Int i.Int) false ∷ [] else []) v) (if t then slice_index_or (holding ∷ []) v no_block else no_block)
    at depth zero true h = record { none = refl; held = pointer; cells = refl; fits = subst (λ d. PointerFits [] (memory c) d (e.Int i.Int) pointer) (sym (number depth h)) (points [] (memory c) refl) }
    at depth (suc v) true h = refl
    at depth v false h = refl

-- ---- where a law asks for less

abbrev five : Cell
five = cell.Int (pos 5)

only : (x y : Cell) → x ∷ [] ≡ y ∷ [] → x ≡ y
only x y e = cc

-- Another received block while the function is active: its pointer points to nothing.
pub received_wants_rest : MemoryFits any program (f ∷ []) (put (memory five) (Received 0) no_block) → ⊥
received_wants_rest mem = lost (mem.locals 1 0)
  where
    gone : PointerFits [] (put (memory five) (Received 0) no_block) 1 (e.Int i.Int) pointer → ⊥
    gone p = subst (λ ts. LieAt [] 0 (repeated 1 ts)) (leaves_of_int [] i.Int) p.types

    lost : HasPointer [] (put (memory five) (Received 0) no_block) 1 (e.Int i.Int) holding → ⊥
    lost h = gone (subst (PointerFits [] (put (memory five) (Received 0) no_block) 1 (e.Int i.Int)) (only h.held pointer (sym h.cells)) h.fits)

-- Fewer cells in a block: a pointer's has none left.
pub filled_wants_count : MemoryFits any program (f ∷ []) (put (memory five) (Local 1 0) (record { types = []; cells = [] })) → ⊥
filled_wants_count mem = lost (mem.locals 1 0)
  where
    lost : HasPointer [] (put (memory five) (Local 1 0) (record { types = []; cells = [] })) 1 (e.Int i.Int) (record { types = []; cells = [] }) → ⊥
    lost h = none_held h.held h.cells
      where
        none_held : (c : Cell) → [] ≡ c ∷ [] → ⊥
        none_held c e = cc

-- A handle is written that the store doesn't have, or has for a number of another type.
pub written_wants_kept : MemoryFits (by_store ((i.Long, pos 5) ∷ [])) program (f ∷ []) (written (memory five) (Received 0) 0 (cell.Sealed 0)) → ⊥
written_wants_kept mem = lost (mem.received_cells 0)
  where
    lost : Holds (by_store ((i.Long, pos 5) ∷ [])) (sent (cell.Sealed 0)) → ⊥
    lost h = false_not_true h.0

-- A handle of a store fits where the store has a number of the type, and nowhere where there is no store.
pub handle_fits : MemoryFits (by_store ((i.Int, pos 5) ∷ [])) program (f ∷ []) (memory (cell.Sealed 0))
handle_fits = memory_fits (by_store ((i.Int, pos 5) ∷ [])) (cell.Sealed 0) refl

pub none_fits : MemoryFits none program (f ∷ []) (memory (cell.Sealed 0)) → ⊥
none_fits mem = lost (mem.received_cells 0)
  where
    lost : Holds none (sent (cell.Sealed 0)) → ⊥
    lost h = false_not_true h.0

-- ---- programs that aren't sound

abbrev with_global : ℤ → ProgramTree
with_global v = record program { globals = record { id = 0; var = of_type (Int i.Int); cells = v ∷ [] } ∷ [] }

-- a number out of range
pub rest_wants_ranges : Fits any false (with_global (pos 4_294_967_296)) (at_rest (with_global (pos 4_294_967_296)) 9) → ⊥
rest_wants_ranges fits = lost (leaves_of [] (Int i.Int)) (leaves_of_int [] i.Int) (fits.memory.global_cells 0)
  where
    lost : (ts : List IntType) → ts ≡ i.Int ∷ [] → IntegersFit any ts (cell.Int (pos 4_294_967_296) ∷ []) → ⊥
    lost ts is h = let one : IntegersFit any (i.Int ∷ []) (cell.Int (pos 4_294_967_296) ∷ []) = subst (λ us. IntegersFit any us (cell.Int (pos 4_294_967_296) ∷ [])) is h in false_not_true one.0

abbrev twice : ProgramTree
twice = record program {
  globals = record { id = 0; var = of_type (Int i.Int); cells = pos 5 ∷ [] } ∷ (record { id = 0; var = of_type (Int i.Long); cells = pos 5 ∷ [] } ∷ []);
}

-- a number that two globals have
pub rest_wants_order : Fits any false twice (at_rest twice 9) → ⊥
rest_wants_order fits = lost (sym (leaves_of_int [] i.Long) ∙ fits.memory.globals 0 (Int i.Int) refl ∙ leaves_of_int [] i.Int)
  where
    lost : i.Long ∷ [] ≡ i.Int ∷ [] → ⊥
    lost h = cc
