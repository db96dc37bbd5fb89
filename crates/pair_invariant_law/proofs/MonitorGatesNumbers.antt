-- A memory without a handle: whatever a step works out there is none.
use Rattle.std.proofs.Common.{◌≡◌, ℕ, zero, suc, ℤ, pos, refl, sym, subst, List, [], ◌∷◌, Bool, false, Option, Some, None, Result, Ok, Err}
use Rattle.std.specs.Prelude.{◌&&◌, ◌||◌, not, slice_get, slice_index_or}
use Rattle.std.proofs.lemmas.Bool.{or_from, and_right}
use Rattle.part_views_law.proofs.StepsAdded.{none_unmarked}
use Rattle.pt_base.specs.declared.int_type.IntType.{IntType}
use Rattle.pt_base.proofs.Booleans.{false_not_true}
use Rattle.pt_tree.specs.declared.signature.Elem.{Elem}
use Rattle.typed_tree.specs.declared.types.StructInfo.{StructInfo}
use Rattle.typed_tree.specs.declared.types.VarTy.{VarTy}
use Rattle.typed_tree.specs.declared.types.VarTy.TheVariants.{Int, Struct, Array, Pointer}
use Rattle.runs.specs.Pointers.{Target}
use Rattle.block_memory.specs.declared.cell.Cell.{Cell}
use Rattle.block_memory.specs.declared.cell.Cell.TheVariants as cell
use Rattle.block_memory.specs.declared.cell.BlockName.{BlockName}
use Rattle.block_memory.specs.declared.cell.BlockName.TheVariants.{Local, Global, Received}
use Rattle.block_memory.specs.Block.{Block}
use Rattle.block_memory.specs.Blocks.{Blocks}
use Rattle.pt_core.specs.CodeTree.{RootTree, local, global, deref, PlaceTree, place, ExprTree, constant, read, unary, binary, convert, null, address, decay, move, compare, difference, ExprTrees, no_exprs, expr_and, StmtTree, clear, check, assign, copy, call, choose, repeat, break_out, continue_on, give_back, no_stmts, stmt_and, ProgramTree}
use Rattle.pt_core.specs.Types.{Context, type_of}
use Rattle.pt_core.specs.Values.{Location, Stop, ◌>>?◌, converted, decayed, is_type, location_of, numbered, pointed, told, value_of, values_of}
use Rattle.pt_core.specs.Calls.{context_in}
use Rattle.pt_core.specs.Steps.{Work, run, head, Active, Gate, Machine, Way, enters, here, away, settled}
use Rattle.core_soundness_law.specs.Fits.{IntegerFits, IntegersFit, LocalFits, MemoryFits, PointerFits, variables_at}
use Rattle.core_soundness_law.specs.Kept.{none}
use Rattle.handle_classes.specs.Computes.{computes, computes_call, computes_in, computes_next, computes_return, computes_status, computes_work, has_handle, if_given, is_handle, is_sealed, meet_any, meets, meets_at, meets_root}

-- no cell holds one
abbrev pub HasNone : Blocks → Type 0
HasNone blocks = (name : BlockName) (i : ℕ) → is_sealed (slice_index_or (blocks name).cells i (cell.Int (pos 0))) ≡ false

-- ---- a memory that fits without handles

integer_none : (t : IntType) (c : Cell) → IntegerFits none t c → is_sealed c ≡ false
integer_none t (cell.Int v) f = refl
integer_none t (cell.Ptr p) f = refl
integer_none t (cell.Sealed h) f = false_not_true f

cells_none : (types : List IntType) (cells : List Cell) → IntegersFit none types cells → (i : ℕ) → is_sealed (slice_index_or cells i (cell.Int (pos 0))) ≡ false
cells_none [] [] f i = refl
cells_none [] (c ∷ cells) f i = elim f [ ]
cells_none (t ∷ types) [] f i = elim f [ ]
cells_none (t ∷ types) (c ∷ cells) f zero = integer_none t c f.0
cells_none (t ∷ types) (c ∷ cells) f (suc i) = cells_none types cells f.1 i

held_none : (structs : List StructInfo) (blocks : Blocks) (depth : ℕ) (elem : Elem) (c : Cell) → PointerFits structs blocks depth elem c → (i : ℕ) → is_sealed (slice_index_or (c ∷ []) i (cell.Int (pos 0))) ≡ false
held_none structs blocks depth elem c f (suc i) = refl
held_none structs blocks depth elem (cell.Int v) f zero = refl
held_none structs blocks depth elem (cell.Ptr p) f zero = refl
held_none structs blocks depth elem (cell.Sealed h) f zero = elim f [ ]

local_none : (structs : List StructInfo) (blocks : Blocks) (depth : ℕ) (o : Option VarTy) (block : Block) → LocalFits none structs blocks depth o block → (i : ℕ) → is_sealed (slice_index_or block.cells i (cell.Int (pos 0))) ≡ false
local_none structs blocks depth None block f i = subst (λ (b : Block). is_sealed (slice_index_or b.cells i (cell.Int (pos 0))) ≡ false) (sym f) refl
local_none structs blocks depth (Some (Int t)) block f i = cells_none block.types block.cells f.cells i
local_none structs blocks depth (Some (Struct n)) block f i = cells_none block.types block.cells f.cells i
local_none structs blocks depth (Some (Array elem count)) block f i = cells_none block.types block.cells f.cells i
local_none structs blocks depth (Some (Pointer elem fixed)) block f i =
    subst (λ (cells : List Cell). is_sealed (slice_index_or cells i (cell.Int (pos 0))) ≡ false) (sym f.cells) (held_none structs blocks depth elem f.held f.fits i)

pub none_by_fits : (program : ProgramTree) (active : List Active) (blocks : Blocks) → MemoryFits none program active blocks → HasNone blocks
none_by_fits program active blocks mem (Local depth v) i = local_none program.structs blocks depth (slice_get (variables_at program active depth) v) (blocks (Local depth v)) (mem.locals depth v) i
none_by_fits program active blocks mem (Global g) i = cells_none (blocks (Global g)).types (blocks (Global g)).cells (mem.global_cells g) i
none_by_fits program active blocks mem (Received n) i = cells_none (blocks (Received n)).types (blocks (Received n)).cells (mem.received_cells n) i

-- ---- values

bind_none : {A : Type 0} (r : Result A Stop) (next : A → Result Cell Stop) → ((a : A) → is_handle (next a) ≡ false) → is_handle (r >>? next) ≡ false
bind_none (Ok a) next k = k a
bind_none (Err stop) next k = refl

numbered_none : (r : Result ℤ Stop) → is_handle (numbered r) ≡ false
numbered_none (Ok v) = refl
numbered_none (Err stop) = refl

pointed_none : (r : Result (Target BlockName) Stop) → is_handle (pointed r) ≡ false
pointed_none (Ok p) = refl
pointed_none (Err stop) = refl

told_none : (r : Result Bool Stop) → is_handle (told r) ≡ false
told_none (Ok b) = refl
told_none (Err stop) = refl

converted_none : (same : Bool) (to : IntType) (c : Cell) → is_sealed c ≡ false → is_sealed (converted same to c) ≡ false
converted_none same to (cell.Int v) e = refl
converted_none same to (cell.Ptr p) e = refl
converted_none same to (cell.Sealed h) e = cc

convert_none : (same : Bool) (to : IntType) (r : Result Cell Stop) → is_handle r ≡ false → is_handle (r >>? λ v. Ok (converted same to v)) ≡ false
convert_none same to (Ok v) e = converted_none same to v e
convert_none same to (Err stop) e = refl

decayed_none : (at : Location) (ty : VarTy) → is_sealed (decayed at ty) ≡ false
decayed_none at (Int t) = refl
decayed_none at (Struct n) = refl
decayed_none at (Array elem count) = refl
decayed_none at (Pointer elem fixed) = refl

module _ (c : Context) (depth : ℕ) (blocks : Blocks) (none_there : HasNone blocks) where
  value_none : (e : ExprTree) → is_handle (value_of c depth e blocks) ≡ false
  value_none (constant t v) = refl
  value_none (read p) = bind_none (location_of c depth p blocks) _ (λ at. none_there at.block at.cell)
  value_none (unary op t a s) = bind_none (value_of c depth a blocks) _ (λ v. numbered_none _)
  value_none (binary op t a b s) = bind_none (value_of c depth a blocks) _ (λ v. bind_none (value_of c depth b blocks) _ (λ w. numbered_none _))
  value_none (convert to a) = convert_none (is_type (type_of c a) to) to (value_of c depth a blocks) (value_none a)
  value_none (null elem) = refl
  value_none (address p) = bind_none (location_of c depth p blocks) _ (λ at. refl)
  value_none (decay p) = bind_none (location_of c depth p blocks) _ (λ at. decayed_none at at.ty)
  value_none (move p by back s) = bind_none (value_of c depth p blocks) _ (λ v. bind_none (value_of c depth by blocks) _ (λ w. pointed_none _))
  value_none (compare op a b s) = bind_none (value_of c depth a blocks) _ (λ v. bind_none (value_of c depth b blocks) _ (λ w. told_none _))
  value_none (difference a b s) = bind_none (value_of c depth a blocks) _ (λ v. bind_none (value_of c depth b blocks) _ (λ w. numbered_none _))

  -- an operand that meets none is none
  wants_none : (e : ExprTree) → meets c depth e blocks ≡ false → (meets c depth e blocks || is_handle (value_of c depth e blocks)) ≡ false
  wants_none e h = or_from (meets c depth e blocks) (is_handle (value_of c depth e blocks)) h (value_none e)

  both_none : (a b : ExprTree) → meets c depth a blocks ≡ false → meets c depth b blocks ≡ false →
      ((meets c depth a blocks || is_handle (value_of c depth a blocks)) || (meets c depth b blocks || is_handle (value_of c depth b blocks))) ≡ false
  both_none a b h k = or_from (meets c depth a blocks || is_handle (value_of c depth a blocks)) (meets c depth b blocks || is_handle (value_of c depth b blocks)) (wants_none a h) (wants_none b k)

  mutual
    meets_none : (e : ExprTree) → meets c depth e blocks ≡ false
    meets_none (constant t v) = refl
    meets_none (read p) = meets_at_none p
    meets_none (unary op t a s) = wants_none a (meets_none a)
    meets_none (binary op t a b s) = both_none a b (meets_none a) (meets_none b)
    meets_none (convert to a) = or_from (meets c depth a blocks) (not (is_type (type_of c a) to) && is_handle (value_of c depth a blocks)) (meets_none a) (and_right (not (is_type (type_of c a) to)) (is_handle (value_of c depth a blocks)) (value_none a))
    meets_none (null elem) = refl
    meets_none (address p) = meets_at_none p
    meets_none (decay p) = meets_at_none p
    meets_none (move p by back s) = both_none p by (meets_none p) (meets_none by)
    meets_none (compare op a b s) = both_none a b (meets_none a) (meets_none b)
    meets_none (difference a b s) = both_none a b (meets_none a) (meets_none b)

    meets_at_none : (p : PlaceTree) → meets_at c depth p blocks ≡ false
    meets_at_none (place root path) = meets_root_none root

    meets_root_none : (r : RootTree) → meets_root c depth r blocks ≡ false
    meets_root_none (local v) = refl
    meets_root_none (global g) = refl
    meets_root_none (deref p s) = wants_none p (meets_none p)

  any_none : (es : ExprTrees) → meet_any c depth es blocks ≡ false
  any_none no_exprs = refl
  any_none (expr_and e rest) = or_from (meets c depth e blocks) (meet_any c depth rest blocks) (meets_none e) (any_none rest)

  more_none : (r : Result Cell Stop) (rs : Result (List Cell) Stop) → is_handle r ≡ false → if_given rs has_handle ≡ false → if_given (r >>? λ v. rs >>? λ vs. Ok (v ∷ vs)) has_handle ≡ false
  more_none (Ok v) (Ok vs) e f = or_from (is_sealed v) (has_handle vs) e f
  more_none (Ok v) (Err stop) e f = refl
  more_none (Err stop) rs e f = refl

  values_none : (es : ExprTrees) → if_given (values_of c depth es blocks) has_handle ≡ false
  values_none no_exprs = refl
  values_none (expr_and e rest) = more_none (value_of c depth e blocks) (values_of c depth rest blocks) (value_none e) (values_none rest)

-- ---- calls

way_none : (marked : ℕ → Bool) (vs : List Cell) (way : Way) → has_handle vs ≡ false → computes_call marked vs way ≡ false
way_none marked vs enters e = refl
way_none marked vs here e = e
way_none marked vs away e = none_unmarked marked vs e

call_none : (marked : ℕ → Bool) (r : Result (List Cell) Stop) (way : List Cell → Way) → if_given r has_handle ≡ false → if_given r (λ vs. computes_call marked vs (way vs)) ≡ false
call_none marked (Ok vs) way e = way_none marked vs (way vs) e
call_none marked (Err stop) way e = refl

-- ---- steps

status_none : (rest : List Active) (r : Result Cell Stop) → is_handle r ≡ false → computes_status rest r ≡ false
status_none [] r e = e
status_none (caller ∷ rest) r e = refl

return_none : (c : Context) (depth : ℕ) (o : Option ExprTree) (rest : List Active) (blocks : Blocks) → HasNone blocks → computes_return c depth o rest blocks ≡ false
return_none c depth None rest blocks n = refl
return_none c depth (Some e) rest blocks n =
    or_from (meets c depth e blocks) (computes_status rest (value_of c depth e blocks)) (meets_none c depth blocks n e) (status_none rest (value_of c depth e blocks) (value_none c depth blocks n e))

module _ {G : Type 0} (marked : ℕ → ℕ → Bool) (gate : Gate G) (g : G) where
  statement_none : (c : Context) (depth : ℕ) (rest : List Active) (s : StmtTree) (blocks : Blocks) → HasNone blocks → computes marked gate g c depth rest s blocks ≡ false
  statement_none c depth rest (clear v) blocks n = refl
  statement_none c depth rest (check p) blocks n = meets_at_none c depth blocks n p
  statement_none c depth rest (assign p e) blocks n = or_from (meets_at c depth p blocks) (meets c depth e blocks) (meets_at_none c depth blocks n p) (meets_none c depth blocks n e)
  statement_none c depth rest (copy to from) blocks n = or_from (meets_at c depth to blocks) (meets_at c depth from blocks) (meets_at_none c depth blocks n to) (meets_at_none c depth blocks n from)
  statement_none c depth rest (call f args result span) blocks n =
      or_from (meet_any c depth args blocks) (if_given (values_of c depth args blocks) (λ vs. computes_call (marked f) vs (gate.way g f vs)))
      (any_none c depth blocks n args) (call_none (marked f) (values_of c depth args blocks) (gate.way g f) (values_none c depth blocks n args))
  statement_none c depth rest (choose e first second) blocks n = wants_none c depth blocks n e (meets_none c depth blocks n e)
  statement_none c depth rest (repeat body span) blocks n = refl
  statement_none c depth rest break_out blocks n = refl
  statement_none c depth rest continue_on blocks n = refl
  statement_none c depth rest (give_back e) blocks n = return_none c depth e rest blocks n

  work_none : (c : Context) (depth : ℕ) (rest : List Active) (work : List Work) (blocks : Blocks) → HasNone blocks → computes_work marked gate g c depth rest work blocks ≡ false
  work_none c depth rest [] blocks n = refl
  work_none c depth rest (run no_stmts ∷ work) blocks n = refl
  work_none c depth rest (run (stmt_and first more) ∷ work) blocks n = statement_none c depth rest first blocks n
  work_none c depth rest (head body ∷ work) blocks n = refl

  active_none : (program : ProgramTree) (active : List Active) (blocks : Blocks) → HasNone blocks → computes_in marked program gate g active blocks ≡ false
  active_none program [] blocks n = refl
  active_none program (a ∷ rest) blocks n = work_none (context_in program a.function) a.depth rest (settled a.work) blocks n

  -- the next step of a machine without a handle computes with none
  pub plain_next : (program : ProgramTree) (m : Machine) → HasNone m.blocks → computes_next marked program gate m g ≡ false
  plain_next program m n = active_none program m.active m.blocks n
