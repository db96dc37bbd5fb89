-- States where a function of a half is entered and where it is left.
use Rattle.std.proofs.Common.{◌≡◌, ◌∙◌, ◌≤◌, ◌<◌, ℕ, zero, suc, ◌+◌, pos, nat_eq, nat_lt, refl, ap, sym, subst, arith, Bool, true, false, Option, Some, None, List, [], ◌∷◌, map, length, if◌then◌else◌}
use Rattle.std.specs.Prelude.{slice_get, slice_index_or, get_or}
use Rattle.std.proofs.lemmas.Bool.Decides.{nat_tests}
use Rattle.pt_base.proofs.Numbers.{nat_eq_same}
use Rattle.pt_tree.specs.declared.signature.Param.{Param}
use Rattle.pt_tree.specs.declared.signature.ParamKind.{ParamKind}
use Rattle.pt_tree.specs.declared.signature.ParamKind.TheVariants as k
use Rattle.typed_tree.specs.declared.types.VarTy.{VarTy}
use Rattle.typed_tree.specs.declared.types.VarTy.TheVariants.{Int, Struct, Array, Pointer}
use Rattle.typed_tree.specs.declared.types.StructInfo.{StructInfo}
use Rattle.typed_tree.specs.Cells.{cells_of}
use Rattle.typed_tree.specs.Sizes.{sizes_of}
use Rattle.typed_tree.specs.WellFormedExpression.{param_type}
use Rattle.block_memory.specs.declared.cell.Cell as core
use Rattle.block_memory.specs.declared.cell.BlockName.TheVariants.{Local}
use Rattle.block_memory.specs.Block.{no_block}
use Rattle.block_memory.specs.Blocks.{Blocks, without_frames}
use Rattle.source_meaning.specs.Memory.{local, global, Cell, number, read, Memory, with_frame}
use Rattle.source_meaning.specs.Values.{Value, holds, cell_of, frame_cells}
use Rattle.source_meaning.specs.Functions.{without_locals}
use Rattle.pt_core.specs.Types.{type_at}
use Rattle.half_meaning_law.specs.Relations.{Scene, core_cell, SameBlocks, reach_by, reach_of, CellFits, MemoryFits, cells_in, room_of, VariablesLive}
use Rattle.half_meaning_law.specs.Statements.{AreArguments}
use Rattle.half_texts_law.proofs.CallsFrames.{Enters, Leads, none_read, none_left, cell_moves, cell_passed, cleared_fits, cleared_room, within_by}

-- ---- the cells of the new frame

argument_fits : (s i : Scene) (kind : ParamKind) (t : VarTy) (v : Value) (x : Cell) (k : ℕ) → ((d : ℕ) → d ≤ s.frame.depth → i.frames d ≡ s.frames d) → param_type kind ≡ t → v ≡ holds x → CellFits s (reach_of s (param_type kind)) x →
    CellFits i (reach_by (s.frame.depth + 1) t) (slice_index_or (cell_of v ∷ []) k (number (pos 0)))
argument_fits s i kind t v x zero same lead is fits =
    subst (λ z. CellFits i (reach_by (s.frame.depth + 1) t) (cell_of z)) (sym is) (cell_passed s i s.frame.depth t x same (subst (λ z. CellFits s (reach_of s z) x) lead fits))
argument_fits s i kind t v x (suc k) same lead is fits = tt {0}

frame_fits : (s i : Scene) (ss : List ℕ) (types : List VarTy) (ps : List Param) (vs : List Value) (xs : List core.Cell) (y k : ℕ) → ((d : ℕ) → d ≤ s.frame.depth → i.frames d ≡ s.frames d) → Leads ps types → AreArguments s ps vs xs →
    CellFits i (reach_by (s.frame.depth + 1) (type_at types y)) (slice_index_or (get_or (frame_cells ss types vs) y []) k (number (pos 0)))
frame_fits s i ss [] ps vs xs y k same lead args = tt {0}
frame_fits s i ss (t ∷ types) [] [] xs zero k same lead args = cleared_fits i ss (s.frame.depth + 1) t k
frame_fits s i ss (t ∷ types) [] [] [] (suc y) k same lead args = frame_fits s i ss types [] [] [] y k same tt tt
frame_fits s i ss (t ∷ types) [] [] (x ∷ xs) (suc y) k same lead args = absurd args
frame_fits s i ss (t ∷ types) [] (v ∷ vs) xs y k same lead args = absurd args
frame_fits s i ss (t ∷ types) (p ∷ ps) [] xs y k same lead args = absurd args
frame_fits s i ss (t ∷ types) (p ∷ ps) (v ∷ vs) [] y k same lead args = absurd args
frame_fits s i ss (t ∷ types) (p ∷ ps) (v ∷ vs) (x ∷ xs) zero k same lead args = argument_fits s i p.kind t v args.0.cell k same lead.0 args.0.is args.0.fits
frame_fits s i ss (t ∷ types) (p ∷ ps) (v ∷ vs) (x ∷ xs) (suc y) k same lead args = frame_fits s i ss types ps vs xs y k same lead.1 args.1

single_room : (s : Scene) (kind : ParamKind) (t : VarTy) → param_type kind ≡ t → 1 ≡ cells_in s t
single_room s (k.Int u) t lead = ap (cells_in s) lead
single_room s (k.Ptr elem fixed) t lead = ap (cells_in s) lead

frame_room : (s : Scene) (structs : List StructInfo) (types : List VarTy) (ps : List Param) (vs : List Value) (y : ℕ) → structs ≡ s.context.structs → Leads ps types → length vs ≡ length ps → length (get_or (frame_cells (sizes_of structs) types vs) y []) ≡ room_of s (slice_get types y)
frame_room s structs [] ps vs y same lead long = refl
frame_room s structs (t ∷ types) ps [] zero same lead long = cleared_room s structs t same
frame_room s structs (t ∷ types) [] [] (suc y) same lead long = frame_room s structs types [] [] y same tt refl
frame_room s structs (t ∷ types) [] (v ∷ vs) (suc y) same lead long = absurd (omega (arith, long))
frame_room s structs (t ∷ types) (p ∷ ps) [] (suc y) same lead long = absurd (omega (arith, long))
frame_room s structs (t ∷ types) [] (v ∷ vs) zero same lead long = absurd (omega (arith, long))
frame_room s structs (t ∷ types) (p ∷ ps) (v ∷ vs) zero same lead long = single_room s p.kind t lead.0
frame_room s structs (t ∷ types) (p ∷ ps) (v ∷ vs) (suc y) same lead long = frame_room s structs types ps vs y same lead.1 (omega (arith, long))

pub as_many : (s : Scene) (ps : List Param) (vs : List Value) (xs : List core.Cell) → AreArguments s ps vs xs → (length vs ≡ length ps) × (length xs ≡ length ps)
as_many s [] [] [] args = (refl, refl)
as_many s [] [] (x ∷ xs) args = absurd args
as_many s [] (v ∷ vs) xs args = absurd args
as_many s (p ∷ ps) [] xs args = absurd args
as_many s (p ∷ ps) (v ∷ vs) [] args = absurd args
as_many s (p ∷ ps) (v ∷ vs) (x ∷ xs) args = let more = as_many s ps vs xs args.1 in (ap suc more.0, ap suc more.1)

-- ---- numbers

higher : (e d : ℕ) → (nat_lt d e ≡ false) → e ≤ d
higher e d h = grind (arith, nat_tests, h)

lower : (e d : ℕ) → nat_lt d e ≡ true → d < e
lower e d h = grind (arith, nat_tests, h)

other : (e d : ℕ) → d < e → nat_eq e (d + 1) ≡ false → d + 1 < e
other e d less h = grind (arith, nat_tests, less, h)

apart_below : (e d : ℕ) → e ≤ d → nat_eq e (d + 1) ≡ false
apart_below e d le = grind (arith, nat_tests, le)

below_next : (e d : ℕ) → nat_lt e (d + 1) ≡ true → e ≤ d
below_next e d h = grind (arith, nat_tests, h)

not_below : (e d : ℕ) → nat_lt e (d + 1) ≡ false → nat_eq e (d + 1) ≡ false → d + 1 < e
not_below e d h apart = grind (arith, nat_tests, h, apart)

-- ---- entering

no_room : (s : Scene) (us : List VarTy) (x : ℕ) → us ≡ [] → room_of s (slice_get us x) ≡ 0
no_room s us x none = ap (λ z. room_of s (slice_get z x)) none

-- what isn't live holds nothing
dead_fits : (i : Scene) (reach : Option ℕ) (cells : List Cell) (k : ℕ) → length cells ≡ 0 → CellFits i reach (slice_index_or cells k (number (pos 0)))
dead_fits i reach cells k none = subst (CellFits i reach) (sym (none_read cells k none)) tt

pub entering_fits : (s i : Scene) (types : List VarTy) (m : Memory) (ss : List ℕ) (ps : List Param) (vs : List Value) (xs : List core.Cell) → Enters s i types → Leads ps types → AreArguments s ps vs xs → MemoryFits s m → VariablesLive s m →
    MemoryFits i (with_frame m (s.frame.depth + 1) (frame_cells ss types vs))
entering_fits s i types m ss ps vs xs en lead args fits live (global g) k = cell_moves s i s.frame.depth None (read m (global g) k) en.below tt (fits (global g) k)
entering_fits s i types m ss ps vs xs en lead args fits live (local e x) k = go (nat_eq e (s.frame.depth + 1)) refl
  where
    fc : List (List Cell)
    fc = frame_cells ss types vs

    own : CellFits i (reach_by (s.frame.depth + 1) (type_at (i.frames (s.frame.depth + 1)) x)) (slice_index_or (get_or fc x []) k (number (pos 0)))
    own = subst (λ us. CellFits i (reach_by (s.frame.depth + 1) (type_at us x)) (slice_index_or (get_or fc x []) k (number (pos 0)))) (sym en.own) (frame_fits s i ss types ps vs xs x k en.below lead args)

    others : (t : Bool) → nat_lt s.frame.depth e ≡ t → CellFits i (reach_by e (type_at (i.frames e) x)) (slice_index_or (m (local e x)) k (number (pos 0)))
    others true is = dead_fits i (reach_by e (type_at (i.frames e) x)) (m (local e x)) k (live e x ∙ no_room s (s.frames e) x (en.ends e (lower e s.frame.depth is)))
    others false is =
        let le = higher e s.frame.depth is in
        subst (λ us. CellFits i (reach_by e (type_at us x)) (slice_index_or (m (local e x)) k (number (pos 0)))) (sym (en.below e le))
        (cell_moves s i s.frame.depth (reach_by e (type_at (s.frames e) x)) (read m (local e x) k) en.below (within_by e s.frame.depth (type_at (s.frames e) x) le) (fits (local e x) k))

    go : (t : Bool) → nat_eq e (s.frame.depth + 1) ≡ t → CellFits i (reach_by e (type_at (i.frames e) x)) (slice_index_or (if t then get_or fc x [] else m (local e x)) k (number (pos 0)))
    go true is = subst (λ n. CellFits i (reach_by n (type_at (i.frames n) x)) (slice_index_or (get_or fc x []) k (number (pos 0)))) (sym (nat_eq_same e (s.frame.depth + 1) is)) own
    go false is = others (nat_lt s.frame.depth e) refl

same_room : (s i : Scene) (o : Option VarTy) → i.context.structs ≡ s.context.structs → room_of s o ≡ room_of i o
same_room s i None same = refl
same_room s i (Some (Int t)) same = refl
same_room s i (Some (Struct n)) same = ap (λ z. cells_of z (Struct n)) (sym same)
same_room s i (Some (Array elem count)) same = ap (λ z. cells_of z (Array elem count)) (sym same)
same_room s i (Some (Pointer elem fixed)) same = refl

pub entering_live : (s i : Scene) (types : List VarTy) (m : Memory) (structs : List StructInfo) (ps : List Param) (vs : List Value) → Enters s i types → structs ≡ i.context.structs → Leads ps types → length vs ≡ length ps → VariablesLive s m →
    VariablesLive i (with_frame m (s.frame.depth + 1) (frame_cells (sizes_of structs) types vs))
entering_live s i types m structs ps vs en same lead long live e x = go (nat_eq e (s.frame.depth + 1)) refl
  where
    fc : List (List Cell)
    fc = frame_cells (sizes_of structs) types vs

    others : (t : Bool) → nat_lt s.frame.depth e ≡ t → nat_eq e (s.frame.depth + 1) ≡ false → length (m (local e x)) ≡ room_of i (slice_get (i.frames e) x)
    others true is apart = live e x ∙ no_room s (s.frames e) x (en.ends e (lower e s.frame.depth is)) ∙ sym (no_room i (i.frames e) x (en.ends' e (other e s.frame.depth (lower e s.frame.depth is) apart)))
    others false is apart = live e x ∙ same_room s i (slice_get (s.frames e) x) en.structs ∙ ap (λ us. room_of i (slice_get us x)) (sym (en.below e (higher e s.frame.depth is)))

    go : (t : Bool) → nat_eq e (s.frame.depth + 1) ≡ t → length (if t then get_or fc x [] else m (local e x)) ≡ room_of i (slice_get (i.frames e) x)
    go true is = frame_room i structs types ps vs x same lead long ∙ ap (λ us. room_of i (slice_get us x)) (sym (ap i.frames (nat_eq_same e (s.frame.depth + 1) is) ∙ en.own))
    go false is = others (nat_lt s.frame.depth e) refl is

-- ---- leaving

leaving_as : (i : Scene) (m : Memory) (blocks : Blocks) (depth : ℕ) → ((d : ℕ) → depth + 1 < d → i.frames d ≡ []) → VariablesLive i m → SameBlocks i m blocks → SameBlocks i (without_locals m (depth + 1)) (without_frames blocks (depth + 1))
leaving_as i m blocks depth ends live same (global g) = same (global g)
leaving_as i m blocks depth ends live same (local e x) = go (nat_lt e (depth + 1)) refl
  where
    dead : (t : Bool) → nat_lt e (depth + 1) ≡ false → nat_eq e (depth + 1) ≡ t → no_block.cells ≡ map (core_cell i) (if t then [] else m (local e x))
    dead true far is = refl
    dead false far is = ap (map (core_cell i)) (sym (none_left (m (local e x)) (live e x ∙ no_room i (i.frames e) x (ends e (not_below e depth far is)))))

    go : (t : Bool) → nat_lt e (depth + 1) ≡ t → (if t then blocks (Local e x) else no_block).cells ≡ map (core_cell i) (without_locals m (depth + 1) (local e x))
    go true is = same (local e x) ∙ (λ j. map (core_cell i) (if sym (apart_below e depth (below_next e depth is)) j then [] else m (local e x)))
    go false is = dead (nat_eq e (depth + 1)) is refl

pub leaving_blocks : (s i : Scene) (types : List VarTy) (m : Memory) (blocks : Blocks) → Enters s i types → VariablesLive i m → SameBlocks i m blocks → SameBlocks s (without_locals m (s.frame.depth + 1)) (without_frames blocks (s.frame.depth + 1))
leaving_blocks s i types m blocks en live same =
    subst (λ f. SameBlocks (record i { global_number = f }) (without_locals m (s.frame.depth + 1)) (without_frames blocks (s.frame.depth + 1))) en.numbers (leaving_as i m blocks s.frame.depth en.ends' live same)

pub leaving_fits : (s i : Scene) (types : List VarTy) (m : Memory) → Enters s i types → VariablesLive i m → MemoryFits i m → MemoryFits s (without_locals m (s.frame.depth + 1))
leaving_fits s i types m en live fits (global g) k = cell_moves i s s.frame.depth None (read m (global g) k) (λ d le. sym (en.below d le)) tt (fits (global g) k)
leaving_fits s i types m en live fits (local e x) k = go (nat_eq e (s.frame.depth + 1)) refl
  where
    others : (t : Bool) → nat_lt s.frame.depth e ≡ t → nat_eq e (s.frame.depth + 1) ≡ false → CellFits s (reach_by e (type_at (s.frames e) x)) (slice_index_or (m (local e x)) k (number (pos 0)))
    others true is apart = dead_fits s (reach_by e (type_at (s.frames e) x)) (m (local e x)) k (live e x ∙ no_room i (i.frames e) x (en.ends' e (other e s.frame.depth (lower e s.frame.depth is) apart)))
    others false is apart =
        let le = higher e s.frame.depth is in
        cell_moves i s s.frame.depth (reach_by e (type_at (s.frames e) x)) (read m (local e x) k) (λ d low. sym (en.below d low)) (within_by e s.frame.depth (type_at (s.frames e) x) le)
        (subst (λ us. CellFits i (reach_by e (type_at us x)) (read m (local e x) k)) (en.below e le) (fits (local e x) k))

    go : (t : Bool) → nat_eq e (s.frame.depth + 1) ≡ t → CellFits s (reach_by e (type_at (s.frames e) x)) (slice_index_or (if t then [] else m (local e x)) k (number (pos 0)))
    go true is = tt {0}
    go false is = others (nat_lt s.frame.depth e) refl is

pub leaving_live : (s i : Scene) (types : List VarTy) (m : Memory) → Enters s i types → VariablesLive i m → VariablesLive s (without_locals m (s.frame.depth + 1))
leaving_live s i types m en live e x = go (nat_eq e (s.frame.depth + 1)) refl
  where
    next : (d : ℕ) → d < d + 1
    next d = omega arith

    others : (t : Bool) → nat_lt s.frame.depth e ≡ t → nat_eq e (s.frame.depth + 1) ≡ false → length (m (local e x)) ≡ room_of s (slice_get (s.frames e) x)
    others true is apart =
        let less = lower e s.frame.depth is in
        live e x ∙ no_room i (i.frames e) x (en.ends' e (other e s.frame.depth less apart)) ∙ sym (no_room s (s.frames e) x (en.ends e less))
    others false is apart = live e x ∙ ap (λ us. room_of i (slice_get us x)) (en.below e (higher e s.frame.depth is)) ∙ sym (same_room s i (slice_get (s.frames e) x) en.structs)

    go : (t : Bool) → nat_eq e (s.frame.depth + 1) ≡ t → length (if t then [] else m (local e x)) ≡ room_of s (slice_get (s.frames e) x)
    go true is = sym (no_room s (s.frames e) x (en.ends e (subst (λ n. s.frame.depth < n) (sym (nat_eq_same e (s.frame.depth + 1) is)) (next s.frame.depth))))
    go false is = others (nat_lt s.frame.depth e) refl is
