-- The memories where a function is entered and where it is left.
use Rattle.std.proofs.Common.{◌≡◌, ◌∙◌, ◌≤◌, ◌<◌, ℕ, zero, suc, ◌+◌, pos, nat_eq, nat_lt, nat_le, refl, ap, sym, subst, inl, arith, Bool, true, false, Option, Some, None, List, [], ◌∷◌, ◌++◌, map, length, if◌then◌else◌}
use Rattle.std.specs.Prelude.{◌&&◌, slice_get, slice_set, slice_index_or, get_or, replicate}
use Rattle.std.proofs.lemmas.Bool.Decides.{nat_tests}
use Rattle.pt_base.proofs.Numbers.{nat_eq_other, nat_eq_same, nat_eq_true}
use Rattle.pt_tree.specs.declared.signature.Param.{Param}
use Rattle.pt_tree.specs.declared.signature.ParamKind.{ParamKind}
use Rattle.pt_tree.specs.declared.signature.ParamKind.TheVariants as k
use Rattle.typed_tree.specs.declared.types.VarTy.{VarTy}
use Rattle.typed_tree.specs.declared.types.VarTy.TheVariants.{Int, Struct, Array, Pointer}
use Rattle.typed_tree.specs.declared.types.StructInfo.{StructInfo}
use Rattle.typed_tree.specs.declared.variable.Var.{Var}
use Rattle.typed_tree.specs.Cells.{leaves_of}
use Rattle.typed_tree.specs.Sizes.{sizes_of, cells_by}
use Rattle.typed_tree.specs.WellFormedExpression.{param_type}
use Rattle.block_memory.specs.declared.cell.Cell as core
use Rattle.block_memory.specs.declared.cell.Cell.TheVariants as cell
use Rattle.block_memory.specs.declared.cell.BlockName.{BlockName}
use Rattle.block_memory.specs.declared.cell.BlockName.TheVariants.{Local, Global}
use Rattle.block_memory.specs.declared.shape.BlockShape.{BlockShape}
use Rattle.block_memory.specs.Block as b
use Rattle.block_memory.specs.Block.{with_cell, fresh, no_block}
use Rattle.block_memory.specs.Blocks.{Blocks, is_same_name, without_frames}
use Rattle.block_memory.specs.Blocks as bs
use Rattle.source_meaning.specs.Memory.{Block, local, global, Cell, number, null, Memory, with_frame}
use Rattle.source_meaning.specs.Values.{Value, cell_of, cleared, frame_cells}
use Rattle.source_meaning.specs.Functions.{without_locals}
use Rattle.source_meaning.proofs.SizeLemmas.{sizes}
use Rattle.source_soundness.specs.Worlds.{World, type_in}
use Rattle.source_soundness.specs.Laws.{ArgumentsFit}
use Rattle.source_soundness.proofs.CallSoundness.{deeper, still_live, newly_live, live_depth, Leads}
use Rattle.pt_core.specs.Types.{shape_of}
use Rattle.pt_core.specs.Calls.{with_arguments}
use Rattle.lowering.specs.Lowered.{Temp}
use Rattle.lowering.specs.Functions.{variable_of}
use Rattle.c_lower_law.proofs.Relations.{name_of, core_cell, SameObjects}
use Rattle.c_lower_law.proofs.Values.{Scalar}
use Rattle.c_lower_law.proofs.Memories.{put_there, put_apart}

-- ---- fresh objects

zeros : (n : ℕ) → replicate n (cell.Int (pos 0)) ≡ map core_cell (replicate n (number (pos 0)))
zeros zero = refl
zeros (suc n) = ap (λ xs. cell.Int (pos 0) ∷ xs) (zeros n)

pub fresh_cells : (structs : List StructInfo) (ty : VarTy) → (fresh (shape_of structs ty)).cells ≡ map core_cell (cleared (sizes_of structs) ty)
fresh_cells structs (Int t) = ap (λ n. replicate n (cell.Int (pos 0))) (sym (sizes structs (Int t)))
fresh_cells structs (Struct n) = zeros (length (leaves_of structs (Struct n))) ∙ ap (λ n. map core_cell (replicate n (number (pos 0)))) (sym (sizes structs (Struct n)))
fresh_cells structs (Array elem count) = zeros (length (leaves_of structs (Array elem count))) ∙ ap (λ n. map core_cell (replicate n (number (pos 0)))) (sym (sizes structs (Array elem count)))
fresh_cells structs (Pointer elem fixed) = refl

abbrev pub shapes_of : List StructInfo → List Var → List BlockShape
shapes_of structs vars = map (λ (x : Var). shape_of structs x.ty) vars

pub fresh_at : (structs : List StructInfo) (vars others : List Var) (j : ℕ) (ty : VarTy) → slice_get (map (λ (x : Var). x.ty) vars) j ≡ Some ty → slice_index_or (map fresh (shapes_of structs (vars ++ others))) j no_block ≡ fresh (shape_of structs ty)
fresh_at structs [] others j ty is = cc
fresh_at structs (x ∷ vars) others zero ty is = ap (λ z. fresh (shape_of structs z)) (same is)
  where
    same : Some x.ty ≡ Some ty → x.ty ≡ ty
    same h = cc
fresh_at structs (x ∷ vars) others (suc j) ty is = fresh_at structs vars others j ty is

-- ---- temporaries

-- a type whose objects have one cell
abbrev pub IsScalar : VarTy → Type 0
IsScalar ty = Scalar ty

abbrev pub AreScalar : List Temp → Type 0
AreScalar [] = Unit {0}
AreScalar (x ∷ xs) = IsScalar x.ty × AreScalar xs

scalar_cell : (structs : List StructInfo) (ty : VarTy) → IsScalar ty → (x : core.Cell) × ((fresh (shape_of structs ty)).cells ≡ x ∷ [])
scalar_cell structs (Int t) h = (cell.Int (pos 0), fresh_cells structs (Int t))
scalar_cell structs (Struct n) h = absurd h
scalar_cell structs (Array elem count) h = absurd h
scalar_cell structs (Pointer elem fixed) h = (core_cell null, refl)

temp_room : (structs : List StructInfo) (temps : List Temp) (j : ℕ) → AreScalar temps → j < length temps → (x : core.Cell) × ((slice_index_or (map fresh (shapes_of structs (map variable_of temps))) j no_block).cells ≡ x ∷ [])
temp_room structs [] j h small = absurd (none j small)
  where
    none : (j : ℕ) → j < 0 → ⊥
    none j h = omega (arith, h)
temp_room structs (x ∷ xs) zero h small = scalar_cell structs x.ty h.0
temp_room structs (x ∷ xs) (suc j) h small = temp_room structs xs j h.1 (omega (arith, small))

pub fresh_room : (structs : List StructInfo) (vars : List Var) (temps : List Temp) (j : ℕ) → AreScalar temps → length vars ≤ j → j < length (map (λ (x : Var). x.ty) (vars ++ map variable_of temps)) →
    (x : core.Cell) × ((slice_index_or (map fresh (shapes_of structs (vars ++ map variable_of temps))) j no_block).cells ≡ x ∷ [])
fresh_room structs [] temps j h far small = temp_room structs temps j h (subst (λ n. j < n) (counted temps) small)
  where
    counted : (xs : List Temp) → length (map (λ (x : Var). x.ty) (map variable_of xs)) ≡ length xs
    counted [] = refl
    counted (x ∷ xs) = ap suc (counted xs)
fresh_room structs (x ∷ vars) temps zero h far small = absurd (none (length vars) far)
  where
    none : (n : ℕ) → suc n ≤ 0 → ⊥
    none n h = omega (arith, h)
fresh_room structs (x ∷ vars) temps (suc j) h far small = fresh_room structs vars temps j h (omega (arith, far)) (omega (arith, small))

-- ---- arguments

-- what none of the arguments lies in
pub arguments_apart : (xs : List core.Cell) (blocks : Blocks) (d v : ℕ) (o : BlockName) → ((j : ℕ) → v ≤ j → j < v + length xs → is_same_name (Local d j) o ≡ false) → with_arguments blocks d v xs o ≡ blocks o
arguments_apart [] blocks d v o h = refl
arguments_apart (x ∷ xs) blocks d v o h =
    arguments_apart xs (bs.put blocks (Local d v) (with_cell (blocks (Local d v)) 0 x)) d (v + 1) o (λ j from to. h j (omega (arith, from)) (omega (arith, to)))
    ∙ put_apart blocks (Local d v) o (with_cell (blocks (Local d v)) 0 x) (h v (omega arith) (omega arith))

other_depth : (d e j x : ℕ) → nat_eq e d ≡ false → nat_eq d e && nat_eq j x ≡ false
other_depth d e j x h = ap (λ t. t && nat_eq j x) (turned d e h)
  where
    turned : (d e : ℕ) → nat_eq e d ≡ false → nat_eq d e ≡ false
    turned d e h = grind (arith, nat_tests)

other_variable : (d j x : ℕ) → nat_eq j x ≡ false → nat_eq d d && nat_eq j x ≡ false
other_variable d j x h = go (nat_eq d d) (nat_eq j x) h
  where
    go : (a b : Bool) → b ≡ false → (a && b) ≡ false
    go true b h = h
    go false b h = refl

cleared_at : (ss : List ℕ) (types : List VarTy) (j : ℕ) (ty : VarTy) → slice_get types j ≡ Some ty → get_or (frame_cells ss types []) j [] ≡ cleared ss ty
cleared_at ss [] j ty is = cc
cleared_at ss (t ∷ types) zero ty is = ap (cleared ss) (same is)
  where
    same : Some t ≡ Some ty → t ≡ ty
    same h = cc
cleared_at ss (t ∷ types) (suc j) ty is = cleared_at ss types j ty is

-- an argument in a fresh variable
one_cell : (ss : List ℕ) (kind : ParamKind) (t : VarTy) (x : core.Cell) (cells : List core.Cell) → param_type kind ≡ t → cells ≡ map core_cell (cleared ss t) → slice_set cells 0 x ≡ x ∷ []
one_cell ss (k.Int u) t x cells lead is = ap (λ cs. slice_set cs 0 x) (is ∙ ap (λ z. map core_cell (cleared ss z)) (sym lead))
one_cell ss (k.Ptr elem fixed) t x cells lead is = ap (λ cs. slice_set cs 0 x) (is ∙ ap (λ z. map core_cell (cleared ss z)) (sym lead))

abbrev pub argument_cells : List Value → List core.Cell
argument_cells vs = map (λ v. core_cell (cell_of v)) vs

abbrev AreCleared : List ℕ → List VarTy → Blocks → ℕ → ℕ → Type 0
AreCleared ss types blocks d v = (i k : ℕ) (t : VarTy) → k ≡ v + i → slice_get types i ≡ Some t → (blocks (Local d k)).cells ≡ map core_cell (cleared ss t)

pub arguments_at : (w : World) (ss : List ℕ) (types : List VarTy) (ps : List Param) (vs : List Value) (blocks : Blocks) (d v j k : ℕ) (ty : VarTy) → k ≡ v + j → Leads ps types → ArgumentsFit w ps vs → slice_get types j ≡ Some ty → AreCleared ss types blocks d v →
    (with_arguments blocks d v (argument_cells vs) (Local d k)).cells ≡ map core_cell (get_or (frame_cells ss types vs) j [])
arguments_at w ss [] ps vs blocks d v j k ty e lead args is h = cc
arguments_at w ss (t ∷ types) [] [] blocks d v j k ty e lead args is h = h j k ty e is ∙ ap (map core_cell) (sym (cleared_at ss (t ∷ types) j ty is))
arguments_at w ss (t ∷ types) [] (x ∷ vs) blocks d v j k ty e lead args is h = absurd args
arguments_at w ss (t ∷ types) (p ∷ ps) [] blocks d v j k ty e lead args is h = absurd args
arguments_at w ss (t ∷ types) (p ∷ ps) (x ∷ vs) blocks d v zero k ty e lead args is h =
    ap (λ (z : b.Block). z.cells) (arguments_apart (argument_cells vs) (bs.put blocks (Local d v) (with_cell (blocks (Local d v)) 0 (core_cell (cell_of x)))) d (v + 1) (Local d k) (λ j from to. other_variable d j k (nat_eq_other j k (λ q. not_it j k v from e q))))
    ∙ ap (λ n. (bs.put blocks (Local d v) (with_cell (blocks (Local d v)) 0 (core_cell (cell_of x))) (Local d n)).cells) at_it
    ∙ ap (λ (z : b.Block). z.cells) (put_there blocks (Local d v) (with_cell (blocks (Local d v)) 0 (core_cell (cell_of x))))
    ∙ one_cell ss p.kind t (core_cell (cell_of x)) (blocks (Local d v)).cells lead.0 (h zero v t (omega arith) refl)
  where
    at_it : k ≡ v
    at_it = omega (arith, e)

    not_it : (j k v : ℕ) → v + 1 ≤ j → k ≡ v + 0 → j ≡ k → ⊥
    not_it j k v a b c = omega (arith, a, b, c)
arguments_at w ss (t ∷ types) (p ∷ ps) (x ∷ vs) blocks d v (suc j) k ty e lead args is h =
    arguments_at w ss types ps vs (bs.put blocks (Local d v) (with_cell (blocks (Local d v)) 0 (core_cell (cell_of x)))) d (v + 1) j k ty (omega (arith, e)) lead.1 args.1 is
    (λ i n u f get. ap (λ (z : b.Block). z.cells) (put_apart blocks (Local d v) (Local d n) (with_cell (blocks (Local d v)) 0 (core_cell (cell_of x))) (other_variable d v n (nat_eq_other v n (λ q. not_it v n i f q)))) ∙ h (suc i) n u (omega (arith, f)) get)
  where
    not_it : (v n i : ℕ) → n ≡ (v + 1) + i → v ≡ n → ⊥
    not_it v n i a b = omega (arith, a, b)

-- as many arguments as parameters, which lead the variables
pub arguments_few : (w : World) (types : List VarTy) (ps : List Param) (vs : List Value) → Leads ps types → ArgumentsFit w ps vs → length (argument_cells vs) ≤ length types
arguments_few w types [] [] lead args = omega arith
arguments_few w types [] (x ∷ vs) lead args = absurd args
arguments_few w [] (p ∷ ps) vs lead args = absurd lead
arguments_few w (t ∷ types) (p ∷ ps) [] lead args = absurd args
arguments_few w (t ∷ types) (p ∷ ps) (x ∷ vs) lead args = let less = arguments_few w types ps vs lead.1 args.1 in omega (arith, less)

-- ---- entering

-- the memory in which a function with these variables and temporaries begins
abbrev pub entering : List StructInfo → List Var → List Temp → ℕ → List Value → Blocks → Blocks
entering structs vars temps d vs blocks = with_arguments (bs.with_frame blocks d (shapes_of structs (vars ++ map variable_of temps))) d 0 (argument_cells vs)

-- what lies elsewhere stays
pub entering_apart : (structs : List StructInfo) (vars : List Var) (temps : List Temp) (d : ℕ) (vs : List Value) (blocks : Blocks) (e x : ℕ) → nat_eq e d ≡ false → entering structs vars temps d vs blocks (Local e x) ≡ blocks (Local e x)
entering_apart structs vars temps d vs blocks e x h =
    arguments_apart (argument_cells vs) (bs.with_frame blocks d (shapes_of structs (vars ++ map variable_of temps))) d 0 (Local e x) (λ j from to. other_depth d e j x h)
    ∙ ap (λ t. if t then slice_index_or (map fresh (shapes_of structs (vars ++ map variable_of temps))) x no_block else blocks (Local e x)) h

pub entering_global : (structs : List StructInfo) (vars : List Var) (temps : List Temp) (d : ℕ) (vs : List Value) (blocks : Blocks) (g : ℕ) → entering structs vars temps d vs blocks (Global g) ≡ blocks (Global g)
entering_global structs vars temps d vs blocks g = arguments_apart (argument_cells vs) (bs.with_frame blocks d (shapes_of structs (vars ++ map variable_of temps))) d 0 (Global g) (λ j from to. refl)

framed : (blocks : Blocks) (d x : ℕ) (shapes : List BlockShape) → bs.with_frame blocks d shapes (Local d x) ≡ slice_index_or (map fresh shapes) x no_block
framed blocks d x shapes = ap (λ t. if t then slice_index_or (map fresh shapes) x no_block else blocks (Local d x)) (nat_eq_true d d refl)

-- the variables are as at their declarations, with the arguments in the first
pub entering_own : (w : World) (structs : List StructInfo) (vars : List Var) (temps : List Temp) (d : ℕ) (ps : List Param) (vs : List Value) (blocks : Blocks) (x : ℕ) (ty : VarTy) → Leads ps (map (λ (y : Var). y.ty) vars) → ArgumentsFit w ps vs → slice_get (map (λ (y : Var). y.ty) vars) x ≡ Some ty →
    (entering structs vars temps d vs blocks (Local d x)).cells ≡ map core_cell (get_or (frame_cells (sizes_of structs) (map (λ (y : Var). y.ty) vars) vs) x [])
entering_own w structs vars temps d ps vs blocks x ty lead args is =
    arguments_at w (sizes_of structs) (map (λ (y : Var). y.ty) vars) ps vs (bs.with_frame blocks d (shapes_of structs (vars ++ map variable_of temps))) d 0 x x ty (omega arith) lead args is
    (λ i n t e get. ap (λ (z : b.Block). z.cells) (framed blocks d n (shapes_of structs (vars ++ map variable_of temps)) ∙ ap (λ m. slice_index_or (map fresh (shapes_of structs (vars ++ map variable_of temps))) m no_block) (at n i e) ∙ fresh_at structs vars (map variable_of temps) i t get) ∙ fresh_cells structs t)
  where
    at : (n i : ℕ) → n ≡ 0 + i → n ≡ i
    at n i e = omega (arith, e)

length_of_types : (vars : List Var) → length (map (λ (y : Var). y.ty) vars) ≡ length vars
length_of_types [] = refl
length_of_types (x ∷ vars) = ap suc (length_of_types vars)

-- each temporary has a cell
pub entering_room : (w : World) (structs : List StructInfo) (vars : List Var) (temps : List Temp) (d : ℕ) (ps : List Param) (vs : List Value) (blocks : Blocks) (n : ℕ) → Leads ps (map (λ (y : Var). y.ty) vars) → ArgumentsFit w ps vs → AreScalar temps →
    length vars ≤ n → n < length (map (λ (y : Var). y.ty) (vars ++ map variable_of temps)) → (x : core.Cell) × ((entering structs vars temps d vs blocks (Local d n)).cells ≡ x ∷ [])
entering_room w structs vars temps d ps vs blocks n lead args scalar far small =
    let h = fresh_room structs vars temps n scalar far small in
    let few = arguments_few w (map (λ (y : Var). y.ty) vars) ps vs lead args in
    let count = length_of_types vars in (
      h.0,
      ap (λ (z : b.Block). z.cells) (arguments_apart (argument_cells vs) (bs.with_frame blocks d (shapes_of structs (vars ++ map variable_of temps))) d 0 (Local d n) (λ j from to. other_variable d j n (nat_eq_other j n (λ q. no_argument j (length (argument_cells vs)) (length (map (λ (y : Var). y.ty) vars)) to few count q)))
          ∙ framed blocks d n (shapes_of structs (vars ++ map variable_of temps))) ∙ h.1,
    )
  where
    no_argument : (j a t : ℕ) → j < 0 + a → a ≤ t → t ≡ length vars → j ≡ n → ⊥
    no_argument j a t to few count q = omega (arith, to, few, count, q, far)

-- each live object has the same cells in both
pub entering_objects : (w : World) (m : Memory) (blocks : Blocks) (structs : List StructInfo) (vars : List Var) (temps : List Temp) (ps : List Param) (vs : List Value) → Leads ps (map (λ (y : Var). y.ty) vars) → ArgumentsFit w ps vs → SameObjects w m blocks →
    SameObjects (deeper w (map (λ (y : Var). y.ty) vars)) (with_frame m (suc w.depth) (frame_cells (sizes_of structs) (map (λ (y : Var). y.ty) vars) vs)) (entering structs vars temps (suc w.depth) vs blocks)
entering_objects w m blocks structs vars temps ps vs lead args same (global g) ty is = ap (λ (z : b.Block). z.cells) (entering_global structs vars temps (suc w.depth) vs blocks g) ∙ same (global g) ty is
entering_objects w m blocks structs vars temps ps vs lead args same (local d x) ty is = go (nat_eq d (suc w.depth)) refl
  where
    own : d ≡ suc w.depth → (entering structs vars temps (suc w.depth) vs blocks (Local d x)).cells ≡ map core_cell (get_or (frame_cells (sizes_of structs) (map (λ (y : Var). y.ty) vars) vs) x [])
    own e = ap (λ n. (entering structs vars temps (suc w.depth) vs blocks (Local n x)).cells) e
        ∙ entering_own w structs vars temps (suc w.depth) ps vs blocks x ty lead args (sym (newly_live w (map (λ (y : Var). y.ty) vars) x) ∙ sym (ap (λ z. type_in (deeper w (map (λ (y : Var). y.ty) vars)) (local z x)) e) ∙ is)

    below : (d n : ℕ) → d ≤ suc n → nat_eq d (suc n) ≡ false → d ≤ n
    below d n le e = grind (arith, nat_tests)

    go : (t : Bool) → nat_eq d (suc w.depth) ≡ t → (entering structs vars temps (suc w.depth) vs blocks (Local d x)).cells ≡ map core_cell (if t then get_or (frame_cells (sizes_of structs) (map (λ (y : Var). y.ty) vars) vs) x [] else m (local d x))
    go true e = own (nat_eq_same d (suc w.depth) e)
    go false e =
        let le = below d w.depth (live_depth (deeper w (map (λ (y : Var). y.ty) vars)) (local d x) ty is) e in
        ap (λ (z : b.Block). z.cells) (entering_apart structs vars temps (suc w.depth) vs blocks d x e) ∙ same (local d x) ty (sym (still_live w (map (λ (y : Var). y.ty) vars) (local d x) le) ∙ is)

-- ---- leaving

pub leaving_apart : (blocks : Blocks) (d e x : ℕ) → e < d → without_frames blocks d (Local e x) ≡ blocks (Local e x)
leaving_apart blocks d e x h = ap (λ t. if t then blocks (Local e x) else no_block) (less e d h)
  where
    less : (e d : ℕ) → e < d → nat_lt e d ≡ true
    less e d h = grind (arith, nat_tests)

pub leaving_objects : (w : World) (m : Memory) (blocks : Blocks) (types : List VarTy) → SameObjects (deeper w types) m blocks → SameObjects w (without_locals m (suc w.depth)) (without_frames blocks (suc w.depth))
leaving_objects w m blocks types same (global g) ty is = same (global g) ty is
leaving_objects w m blocks types same (local d x) ty is =
    let le = live_depth w (local d x) ty is in
    ap (λ (z : b.Block). z.cells) (leaving_apart blocks (suc w.depth) d x (omega (arith, le))) ∙ same (local d x) ty (still_live w types (local d x) le ∙ is)
    ∙ ap (map core_cell) (sym (ap (λ t. if t then [] else m (local d x)) (apart d w.depth le)))
  where
    apart : (d n : ℕ) → d ≤ n → nat_eq d (suc n) ≡ false
    apart d n le = grind (arith, nat_tests)
