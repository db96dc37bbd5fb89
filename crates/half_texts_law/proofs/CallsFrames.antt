-- The memories where a function of a half is entered and where it is left.
use Rattle.std.proofs.Common.{◌≡◌, ◌∙◌, ◌≤◌, ◌<◌, ℕ, zero, suc, ◌+◌, pos, nat_eq, refl, ap, sym, subst, arith, Bool, true, false, Option, Some, None, List, [], ◌∷◌, map, length, if◌then◌else◌}
use Rattle.std.specs.Prelude.{◌&&◌, slice_set, slice_index_or, get_or, replicate}
use Rattle.pt_base.proofs.Numbers.{nat_eq_other, nat_eq_same, nat_eq_true}
use Rattle.pt_tree.specs.declared.signature.Param.{Param}
use Rattle.pt_tree.specs.declared.signature.ParamKind.{ParamKind}
use Rattle.pt_tree.specs.declared.signature.ParamKind.TheVariants as k
use Rattle.typed_tree.specs.declared.types.VarTy.{VarTy}
use Rattle.typed_tree.specs.declared.types.VarTy.TheVariants.{Int, Struct, Array, Pointer}
use Rattle.typed_tree.specs.declared.types.StructInfo.{StructInfo}
use Rattle.typed_tree.specs.declared.variable.Var.{Var}
use Rattle.typed_tree.specs.Cells.{leaves_of, cells_of}
use Rattle.typed_tree.specs.Sizes.{sizes_of, cells_by}
use Rattle.typed_tree.specs.WellFormedExpression.{param_type}
use Rattle.block_memory.specs.declared.cell.Cell as core
use Rattle.block_memory.specs.declared.cell.Cell.TheVariants as cell
use Rattle.block_memory.specs.declared.cell.BlockName.{BlockName}
use Rattle.block_memory.specs.declared.cell.BlockName.TheVariants.{Local, Global}
use Rattle.block_memory.specs.declared.shape.BlockShape.{BlockShape}
use Rattle.block_memory.specs.Block as b
use Rattle.block_memory.specs.Block.{with_cell, fresh, no_block}
use Rattle.block_memory.specs.Blocks.{Blocks, is_same_name, without_frames}
use Rattle.block_memory.specs.Blocks as bs
use Rattle.source_meaning.specs.Memory.{local, global, Cell, number, null, pointer, Memory, with_frame}
use Rattle.source_meaning.specs.Values.{Value, cell_of, cleared, frame_cells}
use Rattle.source_meaning.proofs.SizeLemmas.{sizes}
use Rattle.pt_core.specs.Types.{shape_of, type_at}
use Rattle.pt_core.specs.Calls.{with_arguments}
use Rattle.half_meaning_law.specs.Relations.{Scene, core_cell, SameBlocks, reach_by, CellFits, cells_in}
use Rattle.half_meaning_law.specs.Statements.{AreArguments}

-- ---- scenes

-- What is active in the second scene is one deeper than in the first: the frames below are the same, this is the
-- new one, and nothing deeper is live. Structs and globals are the same.
pub record Enters (s i : Scene) (types : List VarTy) : Type 0 where
  pub structs : i.context.structs ≡ s.context.structs
  pub numbers : i.global_number ≡ s.global_number
  pub depth : i.frame.depth ≡ s.frame.depth + 1
  pub below : (d : ℕ) → d ≤ s.frame.depth → i.frames d ≡ s.frames d
  pub own : i.frames (s.frame.depth + 1) ≡ types
  pub ends : (d : ℕ) → s.frame.depth < d → s.frames d ≡ []
  pub ends' : (d : ℕ) → s.frame.depth + 1 < d → i.frames d ≡ []

-- ---- lists of cells

pub none_read : (xs : List Cell) (k : ℕ) → length xs ≡ 0 → slice_index_or xs k (number (pos 0)) ≡ number (pos 0)
none_read [] k h = refl
none_read (x ∷ xs) k h = absurd (omega (arith, h))

pub none_left : (xs : List Cell) → length xs ≡ 0 → xs ≡ []
none_left [] h = refl
none_left (x ∷ xs) h = absurd (omega (arith, h))

zero_read : (n k : ℕ) → slice_index_or (replicate n (number (pos 0))) k (number (pos 0)) ≡ number (pos 0)
zero_read zero k = refl
zero_read (suc n) zero = refl
zero_read (suc n) (suc k) = zero_read n k

count_of : {A : Type 0} (n : ℕ) (x : A) → length (replicate n x) ≡ n
count_of zero x = refl
count_of (suc n) x = ap suc (count_of n x)

-- ---- cells from one scene to another

-- pointers that lead no deeper than the frames that both scenes share
abbrev pub IsWithin : Option ℕ → ℕ → Type 0
IsWithin None depth = Unit {0}
IsWithin (Some r) depth = r ≤ depth

pub cell_moves : (s i : Scene) (depth : ℕ) (reach : Option ℕ) (x : Cell) → ((d : ℕ) → d ≤ depth → i.frames d ≡ s.frames d) → IsWithin reach depth → CellFits s reach x → CellFits i reach x
cell_moves s i depth reach (number v) same within h = tt {0}
cell_moves s i depth None null same within h = absurd h
cell_moves s i depth (Some r) null same within h = tt {0}
cell_moves s i depth None (pointer block base count index) same within h = absurd h
cell_moves s i depth (Some r) (pointer (global g) base count index) same within h = h
cell_moves s i depth (Some r) (pointer (local d x) base count index) same within h = let near = h.0 in (h.0, ap (λ us. reach_by d (type_at us x)) (same d (omega (arith, near, within))) ∙ h.1)

cell_widens : (s : Scene) (r r' : ℕ) (x : Cell) → r ≤ r' → CellFits s (Some r) x → CellFits s (Some r') x
cell_widens s r r' (number v) le h = tt {0}
cell_widens s r r' null le h = tt {0}
cell_widens s r r' (pointer block base count index) le h = let near = h.0 in (omega (arith, near, le), h.1)

-- what a variable of this type holds where it was passed
pub cell_passed : (s i : Scene) (depth : ℕ) (ty : VarTy) (x : Cell) → ((d : ℕ) → d ≤ depth → i.frames d ≡ s.frames d) → CellFits s (reach_by depth ty) x → CellFits i (reach_by (depth + 1) ty) x
cell_passed s i depth (Int t) x same h = cell_moves s i depth None x same tt h
cell_passed s i depth (Struct n) x same h = cell_moves s i depth None x same tt h
cell_passed s i depth (Array elem count) x same h = cell_moves s i depth None x same tt h
cell_passed s i depth (Pointer elem fixed) x same h = cell_widens i depth (depth + 1) x (omega arith) (cell_moves s i depth (Some depth) x same (omega arith) h)

pub within_by : (d depth : ℕ) (ty : VarTy) → d ≤ depth → IsWithin (reach_by d ty) depth
within_by d depth (Int t) le = tt {0}
within_by d depth (Struct n) le = tt {0}
within_by d depth (Array elem count) le = tt {0}
within_by d depth (Pointer elem fixed) le = le

-- ---- fresh variables

pub cleared_fits : (s : Scene) (ss : List ℕ) (depth : ℕ) (ty : VarTy) (k : ℕ) → CellFits s (reach_by depth ty) (slice_index_or (cleared ss ty) k (number (pos 0)))
cleared_fits s ss depth (Int t) zero = tt {0}
cleared_fits s ss depth (Int t) (suc k) = tt {0}
cleared_fits s ss depth (Pointer elem fixed) zero = tt {0}
cleared_fits s ss depth (Pointer elem fixed) (suc k) = tt {0}
cleared_fits s ss depth (Struct n) k = subst (CellFits s None) (sym (zero_read (cells_by ss (Struct n)) k)) tt
cleared_fits s ss depth (Array elem count) k = subst (CellFits s None) (sym (zero_read (cells_by ss (Array elem count)) k)) tt

pub cleared_room : (s : Scene) (structs : List StructInfo) (ty : VarTy) → structs ≡ s.context.structs → length (cleared (sizes_of structs) ty) ≡ cells_in s ty
cleared_room s structs (Int t) same = refl
cleared_room s structs (Pointer elem fixed) same = refl
cleared_room s structs (Struct n) same = count_of (cells_by (sizes_of structs) (Struct n)) (number (pos 0)) ∙ sizes structs (Struct n) ∙ ap (λ z. cells_of z (Struct n)) same
cleared_room s structs (Array elem count) same = count_of (cells_by (sizes_of structs) (Array elem count)) (number (pos 0)) ∙ sizes structs (Array elem count) ∙ ap (λ z. cells_of z (Array elem count)) same

zeros : (s : Scene) (n : ℕ) → replicate n (cell.Int (pos 0)) ≡ map (core_cell s) (replicate n (number (pos 0)))
zeros s zero = refl
zeros s (suc n) = ap (λ xs. cell.Int (pos 0) ∷ xs) (zeros s n)

fresh_cells : (s : Scene) (structs : List StructInfo) (ty : VarTy) → (fresh (shape_of structs ty)).cells ≡ map (core_cell s) (cleared (sizes_of structs) ty)
fresh_cells s structs (Int t) = ap (λ n. replicate n (cell.Int (pos 0))) (sym (sizes structs (Int t)))
fresh_cells s structs (Struct n) = zeros s (length (leaves_of structs (Struct n))) ∙ ap (λ n. map (core_cell s) (replicate n (number (pos 0)))) (sym (sizes structs (Struct n)))
fresh_cells s structs (Array elem count) = zeros s (length (leaves_of structs (Array elem count))) ∙ ap (λ n. map (core_cell s) (replicate n (number (pos 0)))) (sym (sizes structs (Array elem count)))
fresh_cells s structs (Pointer elem fixed) = refl

abbrev pub types_in : List Var → List VarTy
types_in vars = map (λ (x : Var). x.ty) vars

abbrev pub shapes_of : List StructInfo → List Var → List BlockShape
shapes_of structs vars = map (λ (x : Var). shape_of structs x.ty) vars

fresh_all : (s : Scene) (structs : List StructInfo) (vars : List Var) (i : ℕ) → (slice_index_or (map fresh (shapes_of structs vars)) i no_block).cells ≡ map (core_cell s) (get_or (frame_cells (sizes_of structs) (types_in vars) []) i [])
fresh_all s structs [] i = refl
fresh_all s structs (x ∷ vars) zero = fresh_cells s structs x.ty
fresh_all s structs (x ∷ vars) (suc i) = fresh_all s structs vars i

-- ---- parameters lead the variables

abbrev pub Leads : List Param → List VarTy → Type 0
Leads [] types = Unit {0}
Leads (p ∷ ps) [] = ⊥
Leads (p ∷ ps) (t ∷ types) = (param_type p.kind ≡ t) × Leads ps types

-- ---- the blocks of a function that is entered

put_there : (blocks : Blocks) (d v : ℕ) (x : b.Block) → bs.put blocks (Local d v) x (Local d v) ≡ x
put_there blocks d v x = λ i. if nat_eq_true d d refl i && nat_eq_true v v refl i then x else blocks (Local d v)

put_apart : (blocks : Blocks) (a o : BlockName) (x : b.Block) → is_same_name a o ≡ false → bs.put blocks a x o ≡ blocks o
put_apart blocks a o x h = ap (λ t. if t then x else blocks o) h

other_variable : (d j x : ℕ) → (j ≡ x → ⊥) → is_same_name (Local d j) (Local d x) ≡ false
other_variable d j x h = λ i. nat_eq_true d d refl i && nat_eq_other j x h i

other_depth : (d e j x : ℕ) → nat_eq e d ≡ false → is_same_name (Local d j) (Local e x) ≡ false
other_depth d e j x h = λ i. nat_eq_other d e (λ q. differs (sym (nat_eq_true e d (sym q)) ∙ h)) i && nat_eq j x
  where
    differs : true ≡ false → ⊥
    differs q = cc

-- what none of the arguments lies in
arguments_apart : (xs : List core.Cell) (blocks : Blocks) (d v : ℕ) (o : BlockName) → ((j : ℕ) → v ≤ j → is_same_name (Local d j) o ≡ false) → with_arguments blocks d v xs o ≡ blocks o
arguments_apart [] blocks d v o h = refl
arguments_apart (x ∷ xs) blocks d v o h =
    arguments_apart xs (bs.put blocks (Local d v) (with_cell (blocks (Local d v)) 0 x)) d (v + 1) o (λ j from. h j (omega (arith, from)))
    ∙ put_apart blocks (Local d v) o (with_cell (blocks (Local d v)) 0 x) (h v (omega arith))

-- an argument in a fresh variable
one_cell : (s : Scene) (ss : List ℕ) (kind : ParamKind) (t : VarTy) (x : core.Cell) (cells : List core.Cell) → param_type kind ≡ t → cells ≡ map (core_cell s) (cleared ss t) → slice_set cells 0 x ≡ x ∷ []
one_cell s ss (k.Int u) t x cells lead is = ap (λ cs. slice_set cs 0 x) (is ∙ ap (λ z. map (core_cell s) (cleared ss z)) (sym lead))
one_cell s ss (k.Ptr elem fixed) t x cells lead is = ap (λ cs. slice_set cs 0 x) (is ∙ ap (λ z. map (core_cell s) (cleared ss z)) (sym lead))

abbrev AreFresh : Scene → List ℕ → List VarTy → Blocks → ℕ → ℕ → Type 0
AreFresh s ss types blocks d v = (i k : ℕ) → k ≡ v + i → (blocks (Local d k)).cells ≡ map (core_cell s) (get_or (frame_cells ss types []) i [])

arguments_at : (s : Scene) (ss : List ℕ) (types : List VarTy) (ps : List Param) (vs : List Value) (xs : List core.Cell) (blocks : Blocks) (d v j k : ℕ) → k ≡ v + j → Leads ps types → AreArguments s ps vs xs → AreFresh s ss types blocks d v →
    (with_arguments blocks d v xs (Local d k)).cells ≡ map (core_cell s) (get_or (frame_cells ss types vs) j [])
arguments_at s ss types [] [] [] blocks d v j k e lead args fresh_ones = fresh_ones j k e
arguments_at s ss types [] [] (x ∷ xs) blocks d v j k e lead args fresh_ones = absurd args
arguments_at s ss types [] (u ∷ vs) xs blocks d v j k e lead args fresh_ones = absurd args
arguments_at s ss types (p ∷ ps) [] xs blocks d v j k e lead args fresh_ones = absurd args
arguments_at s ss types (p ∷ ps) (u ∷ vs) [] blocks d v j k e lead args fresh_ones = absurd args
arguments_at s ss [] (p ∷ ps) (u ∷ vs) (x ∷ xs) blocks d v j k e lead args fresh_ones = absurd lead
arguments_at s ss (t ∷ types) (p ∷ ps) (u ∷ vs) (x ∷ xs) blocks d v zero k e lead args fresh_ones =
    let at_it : k ≡ v = omega (arith, e) in
    ap (λ (z : b.Block). z.cells) (arguments_apart xs (bs.put blocks (Local d v) (with_cell (blocks (Local d v)) 0 x)) d (v + 1) (Local d k) (λ j from. other_variable d j k (λ q. omega (arith, from, e, q))))
    ∙ ap (λ n. (bs.put blocks (Local d v) (with_cell (blocks (Local d v)) 0 x) (Local d n)).cells) at_it
    ∙ ap (λ (z : b.Block). z.cells) (put_there blocks d v (with_cell (blocks (Local d v)) 0 x))
    ∙ one_cell s ss p.kind t x (blocks (Local d v)).cells lead.0 (fresh_ones zero v (omega arith))
    ∙ ap (λ z. z ∷ []) (args.0.same ∙ sym (ap (λ z. core_cell s (cell_of z)) args.0.is))
arguments_at s ss (t ∷ types) (p ∷ ps) (u ∷ vs) (x ∷ xs) blocks d v (suc j) k e lead args fresh_ones =
    arguments_at s ss types ps vs xs (bs.put blocks (Local d v) (with_cell (blocks (Local d v)) 0 x)) d (v + 1) j k (omega (arith, e)) lead.1 args.1
    (λ i n f. ap (λ (z : b.Block). z.cells) (put_apart blocks (Local d v) (Local d n) (with_cell (blocks (Local d v)) 0 x) (other_variable d v n (λ q. omega (arith, f, q)))) ∙ fresh_ones (suc i) n (omega (arith, f)))

-- the memory in which a function with these variables begins
abbrev pub entering : List StructInfo → List Var → ℕ → List core.Cell → Blocks → Blocks
entering structs vars d xs blocks = with_arguments (bs.with_frame blocks d (shapes_of structs vars)) d 0 xs

entering_own : (s : Scene) (structs : List StructInfo) (vars : List Var) (d : ℕ) (ps : List Param) (vs : List Value) (xs : List core.Cell) (blocks : Blocks) (x : ℕ) → Leads ps (types_in vars) → AreArguments s ps vs xs →
    (entering structs vars d xs blocks (Local d x)).cells ≡ map (core_cell s) (get_or (frame_cells (sizes_of structs) (types_in vars) vs) x [])
entering_own s structs vars d ps vs xs blocks x lead args =
    arguments_at s (sizes_of structs) (types_in vars) ps vs xs (bs.with_frame blocks d (shapes_of structs vars)) d 0 x x (omega arith) lead args
    (λ i n e. let same : n ≡ i = omega (arith, e) in
    (λ j. (if nat_eq_true d d refl j then slice_index_or (map fresh (shapes_of structs vars)) n no_block else blocks (Local d n)).cells) ∙ ap (λ m. (slice_index_or (map fresh (shapes_of structs vars)) m no_block).cells) same ∙ fresh_all s structs vars i)

pub entering_blocks : (s i : Scene) (m : Memory) (blocks : Blocks) (structs : List StructInfo) (vars : List Var) (d : ℕ) (ps : List Param) (vs : List Value) (xs : List core.Cell) → i.global_number ≡ s.global_number → Leads ps (types_in vars) → AreArguments s ps vs xs → SameBlocks s m blocks →
    SameBlocks i (with_frame m d (frame_cells (sizes_of structs) (types_in vars) vs)) (entering structs vars d xs blocks)
entering_blocks s i m blocks structs vars d ps vs xs numbers lead args same = same_in numbers
  where
    fc : List (List Cell)
    fc = frame_cells (sizes_of structs) (types_in vars) vs

    as_before : SameBlocks s (with_frame m d fc) (entering structs vars d xs blocks)
    as_before (global g) = ap (λ (z : b.Block). z.cells) (arguments_apart xs (bs.with_frame blocks d (shapes_of structs vars)) d 0 (Global (s.global_number g)) (λ j from. refl)) ∙ same (global g)
    as_before (local e x) = go (nat_eq e d) refl
      where
        go : (t : Bool) → nat_eq e d ≡ t → (entering structs vars d xs blocks (Local e x)).cells ≡ map (core_cell s) (if t then get_or fc x [] else m (local e x))
        go true is = ap (λ n. (entering structs vars d xs blocks (Local n x)).cells) (nat_eq_same e d is) ∙ entering_own s structs vars d ps vs xs blocks x lead args
        go false is =
            ap (λ (z : b.Block). z.cells) (arguments_apart xs (bs.with_frame blocks d (shapes_of structs vars)) d 0 (Local e x) (λ j from. other_depth d e j x is))
            ∙ (λ j. (if is j then slice_index_or (map fresh (shapes_of structs vars)) x no_block else blocks (Local e x)).cells)
            ∙ same (local e x)

    with_numbers : (ℕ → ℕ) → Scene
    with_numbers f = record s { global_number = f }

    same_in : i.global_number ≡ s.global_number → SameBlocks i (with_frame m d fc) (entering structs vars d xs blocks)
    same_in q = subst (λ f. SameBlocks (with_numbers f) (with_frame m d fc) (entering structs vars d xs blocks)) (sym q) as_before
