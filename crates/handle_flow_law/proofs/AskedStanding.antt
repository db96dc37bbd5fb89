-- Handles stand under marks where each cell by itself does.
use Rattle.std.proofs.Common.{◌≡◌, ◌∙◌, ℕ, zero, suc, ◌+◌, refl, ap, arith, Bool, true, false, Some, List, [], ◌∷◌, map, get_or}
use Rattle.std.specs.Prelude.{◌&&◌, ◌||◌, not, drop, slice_get}
use Rattle.std.proofs.lemmas.Bool.{and_from}
use Rattle.pt_tree.specs.declared.signature.Param.{Param}
use Rattle.typed_tree.specs.declared.types.StructInfo.{StructInfo}
use Rattle.block_memory.specs.declared.cell.Cell.{Cell}
use Rattle.block_memory.specs.declared.cell.Cell.TheVariants as cell
use Rattle.block_memory.specs.Blocks.{Blocks}
use Rattle.marshalling.specs.declared.leaf.Leaf.{Leaf}
use Rattle.marshalling_law.specs.CallsSending.{are_allowed, StandsFor, HandlesStand}
use Rattle.handle_classes.specs.Computes.{is_sealed, has_unmarked}

-- arguments, one by one
pub all_stand : (structs : List StructInfo) (x : Blocks) (params : List Param) (args : List Cell) → ((n : ℕ) (p : Param) (v : Cell) → slice_get params n ≡ Some p → slice_get args n ≡ Some v → StandsFor structs x p.marked p.kind v) → HandlesStand structs x params args
all_stand structs x [] args h = tt
all_stand structs x (p ∷ params) [] h = tt
all_stand structs x (p ∷ params) (v ∷ args) h = (h 0 p v refl refl, all_stand structs x params args (λ n q u at is. h (suc n) q u at is))

-- cells under marks, one by one
pub all_allowed : (marked : Bool) (marks : List Bool) (cells : List Cell) → ((r : ℕ) (under : Bool) (handle : ℕ) → slice_get marks r ≡ Some under → slice_get cells r ≡ Some (cell.Sealed handle) → (marked || under) ≡ true) → are_allowed marked marks cells ≡ true
all_allowed marked [] cells h = refl
all_allowed marked (under ∷ marks) [] h = refl
all_allowed marked (under ∷ marks) (cell.Int v ∷ cells) h = all_allowed marked marks cells (λ r u handle at is. h (suc r) u handle at is)
all_allowed marked (under ∷ marks) (cell.Ptr p ∷ cells) h = all_allowed marked marks cells (λ r u handle at is. h (suc r) u handle at is)
all_allowed marked (under ∷ marks) (cell.Sealed handle ∷ cells) h =
    and_from (marked || under) (are_allowed marked marks cells) (h 0 under handle refl refl) (all_allowed marked marks cells (λ r u other at is. h (suc r) u other at is))

-- the leaf of a mark
pub marked_leaf : (leaves : List Leaf) (r : ℕ) (under : Bool) → slice_get (map (λ leaf. leaf.marked) leaves) r ≡ Some under → (leaf : Leaf) × (slice_get leaves r ≡ Some leaf) × (leaf.marked ≡ under)
marked_leaf [] r under h = cc
marked_leaf (leaf ∷ leaves) zero under h = (leaf, refl, one leaf.marked under h)
  where
    one : (c d : Bool) → Some c ≡ Some d → c ≡ d
    one c d e = cc
marked_leaf (leaf ∷ leaves) (suc r) under h = marked_leaf leaves r under h

-- a cell so far behind a range's begin
pub cell_behind : (cells : List Cell) (base r : ℕ) (v d : Cell) → slice_get (drop base cells) r ≡ Some v → get_or cells (base + r) d ≡ v
cell_behind [] zero r v d h = cc
cell_behind [] (suc base) r v d h = cc
cell_behind (c ∷ cells) zero zero v d h = ap (λ z. get_or (c ∷ cells) z d) (let e : 0 + 0 ≡ 0 = omega arith in e) ∙ one c v h
  where
    one : (x y : Cell) → Some x ≡ Some y → x ≡ y
    one x y e = cc
cell_behind (c ∷ cells) zero (suc r) v d h = ap (λ z. get_or (c ∷ cells) z d) (let e : 0 + suc r ≡ suc (0 + r) = omega arith in e) ∙ cell_behind cells zero r v d h
cell_behind (c ∷ cells) (suc base) r v d h = ap (λ z. get_or (c ∷ cells) z d) (let e : suc base + r ≡ suc (base + r) = omega arith in e) ∙ cell_behind cells base r v d h

-- a handle stands for a marked parameter, where none stands for another
pub handle_marked : (marked : ℕ → Bool) (vs : List Cell) (n handle : ℕ) → has_unmarked marked vs ≡ false → slice_get vs n ≡ Some (cell.Sealed handle) → marked n ≡ true
handle_marked marked [] n handle h is = cc
handle_marked marked (v ∷ vs) zero handle h is = one v is (first (is_sealed v && not (marked 0)) (has_unmarked (λ n. marked (suc n)) vs) h)
  where
    first : (c d : Bool) → (c || d) ≡ false → c ≡ false
    first false d e = refl
    first true d e = e

    told : (c : Bool) → not c ≡ false → c ≡ true
    told true e = refl
    told false e = cc

    one : (u : Cell) → Some u ≡ Some (cell.Sealed handle) → (is_sealed u && not (marked 0)) ≡ false → marked 0 ≡ true
    one (cell.Int z) e k = cc
    one (cell.Ptr p) e k = cc
    one (cell.Sealed other) e k = told (marked 0) k
handle_marked marked (v ∷ vs) (suc n) handle h is = handle_marked (λ k. marked (suc k)) vs n handle (rest (is_sealed v && not (marked 0)) (has_unmarked (λ n. marked (suc n)) vs) h) is
  where
    rest : (c d : Bool) → (c || d) ≡ false → d ≡ false
    rest false d e = e
    rest true d e = cc
