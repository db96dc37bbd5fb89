-- What writes, entries and returns do to a memory that fits.
use Rattle.std.proofs.Common.{◌≡◌, ◌∙◌, ◌+◌, ◌≤◌, ◌<◌, ℕ, zero, suc, pos, refl, ap, sym, subst, arith, Bool, true, false, List, [], ◌∷◌, length, map, replicate, get_or, set, if◌then◌else◌, nat_eq, nat_lt, inl, inr, add-zero}
use Rattle.std.specs.Prelude.{◌⊎◌}
use Rattle.std.proofs.lemmas.Bool.{eq-eqb}
use Rattle.std.proofs.lemmas.Bool.Decides.{nat_tests}
use Rattle.pt_base.proofs.Numbers.{as_zero_plus, at_most_self, nat_eq_below, nat_lt_true}
use Rattle.block_memory.specs.declared.cell.Cell.{Cell}
use Rattle.block_memory.specs.declared.cell.Cell.TheVariants.{Int, Ptr, Sealed}
use Rattle.block_memory.specs.declared.cell.Pointer.TheVariants.{Null, At}
use Rattle.block_memory.specs.declared.cell.BlockName.{BlockName}
use Rattle.block_memory.specs.declared.cell.BlockName.TheVariants.{Local, Global, Received}
use Rattle.block_memory.specs.declared.shape.BlockShape.{BlockShape}
use Rattle.block_memory.specs.declared.shape.BlockShape.TheVariants.{OnePointer, Ints}
use Rattle.block_memory.specs.Block.{Block, with_cell, fresh, no_block}
use Rattle.block_memory.specs.Blocks.{Blocks, is_same_name, put, with_frame, without_frames}
use Rattle.block_memory.proofs.BlocksLemmas.{same_name, put_keeps}
use Rattle.typed_tree.specs.declared.variable.Var.{Var}
use Rattle.runs.specs.Pointers.{cell_at}
use Rattle.pt_core.specs.CodeTree.{ProgramTree}
use Rattle.pt_core.specs.Types.{shape_of}
use Rattle.pt_core.specs.Values.{written, all_written}
use Rattle.pt_core.specs.Calls.{function_in, with_arguments, entered}
use Rattle.pt_core.specs.Steps.{Work, Active}
use Rattle.handle_classes.specs.Classes.{Class, World}
use Rattle.handle_classes.specs.Judgment.{Flows}
use Rattle.handle_classes.specs.Invariant.{no_class, local_class, block_class, Agrees, Fits, AllFit, MayLie, cell_of, PointersFit, MemoryFits, AreBelow}
use Rattle.handle_classes.proofs.Values.{same_depth}

-- ---- numbers

above_apart : (x depth d : ℕ) → x < depth → depth ≤ d → nat_eq d x ≡ false
above_apart x depth d less le = grind (arith, nat_tests)

never_above : (x depth d : ℕ) → x < depth → depth ≤ d → d ≡ x → ⊥
never_above x depth d less le same = omega arith

same_at_least : (d x : ℕ) → nat_eq d x ≡ true → x ≤ d
same_at_least d x e = grind (arith, nat_tests)

apart_is : (d x : ℕ) → nat_eq d x ≡ false → d ≡ x → ⊥
apart_is d x e same = grind (arith, nat_tests)

less_apart : (d x : ℕ) → nat_lt d x ≡ true → nat_eq d x ≡ false
less_apart d x e = grind (arith, nat_tests)

pub count_on : (n k : ℕ) → n + suc k ≡ n + 1 + k
count_on n k = omega arith

-- ---- cells

-- a number or null
abbrev pub IsFresh : Cell → Type 0
IsFresh (Int v) = Unit {0}
IsFresh (Ptr Null) = Unit {0}
IsFresh (Ptr (At block base count index)) = ⊥
IsFresh (Sealed h) = ⊥

pub fresh_lies : (c : Class) (n : ℕ) (v : Cell) → IsFresh v → MayLie c n v
fresh_lies c n (Int v) f = tt {0}
fresh_lies c n (Ptr p) f = tt {0}
fresh_lies c n (Sealed h) f = absurd f

pub fresh_fits : (w : World) (active : List Active) (c : Class) (v : Cell) → IsFresh v → Fits w active c v
fresh_fits w active c (Int v) f = tt {0}
fresh_fits w active c (Ptr Null) f = tt {0}
fresh_fits w active c (Ptr (At block base count index)) f = absurd f
fresh_fits w active c (Sealed h) f = absurd f

fits_lies : (w : World) (active : List Active) (c : Class) (v : Cell) → Fits w active c v → MayLie c 0 v
fits_lies w active c (Int v) f = tt {0}
fits_lies w active c (Ptr p) f = tt {0}
fits_lies w active c (Sealed h) f = f

flows_agree : (v k of : Class) (base count : ℕ) → Flows v k → k.pointer ≡ true → Agrees v of base count → Agrees k of base count
flows_agree v k of base count flows p agrees = record {
  object = agrees.object;
  may = λ i n less small h.
      flows.may p n small (agrees.may i n less (subst (λ s. n < s) (sym (flows.size p)) small)
      (subst (λ s. of.may (cell_at s base i + n) ≡ true) (sym (flows.size p)) h));
  must = λ i n less small h.
      subst (λ s. of.may (cell_at s base i + n) ≡ true) (flows.size p) (agrees.must i n less (subst (λ s. n < s) (sym (flows.size p)) small)
      (flows.must p n small h));
}

-- a value goes to a variable of a class that its own flows to
pub flows_fit : (w : World) (active : List Active) (v k : Class) (c : Cell) → Flows v k → Fits w active v c → Fits w active k c
flows_fit w active v k (Int n) flows f = tt {0}
flows_fit w active v k (Ptr Null) flows f = tt {0}
flows_fit w active v k (Ptr (At block base count index)) flows f = λ p. flows_agree v k _ base count flows p (f (flows.kind ∙ p))
flows_fit w active v k (Sealed h) flows f = (sym flows.kind ∙ f.0, flows.first (sym flows.kind ∙ f.0) f.1)

pub all_flow : (w : World) (active : List Active) (from to : ℕ → Class) (vs : List Cell) → ((n : ℕ) → Flows (from n) (to n)) →
    AllFit w active from vs → AllFit w active to vs
all_flow w active from to [] flows fit = tt {0}
all_flow w active from to (v ∷ vs) flows fit = (
  flows_fit w active (from 0) (to 0) v (flows 0) fit.0,
  all_flow w active (λ n. from (suc n)) (λ n. to (suc n)) vs (λ n. flows (suc n)) fit.1,
)

-- ---- names of blocks

abbrev is_local : BlockName → Bool
is_local (Local d v) = true
is_local (Global n) = false
is_local (Received n) = false

abbrev depth_in : BlockName → ℕ
depth_in (Local d v) = d
depth_in (Global n) = 0
depth_in (Received n) = 0

abbrev variable_in : BlockName → ℕ
variable_in (Local d v) = v
variable_in (Global n) = 0
variable_in (Received n) = 0

-- ---- which class a block has

pub not_live : (w : World) (active : List Active) (depth d v : ℕ) → AreBelow depth active → depth ≤ d → local_class w active d v ≡ no_class
not_live w [] depth d v below le = refl
not_live w (a ∷ rest) depth d v below le =
    ap (λ (b : Bool). if b then w.variable a.function v else local_class w rest d v) (above_apart a.depth depth d below.0 le) ∙
    not_live w rest depth d v below.1 le

-- what is an object among the first functions is the same object among the second
abbrev pub SameObjects : World → List Active → List Active → Type 0
SameObjects w active active' = (block : BlockName) → (block_class w active block).pointer ≡ false →
    block_class w active' block ≡ block_class w active block

pub fits_among : (w : World) (active active' : List Active) (c : Class) (v : Cell) → SameObjects w active active' → Fits w active c v →
    Fits w active' c v
fits_among w active active' c (Int v) same f = tt {0}
fits_among w active active' c (Ptr Null) same f = tt {0}
fits_among w active active' c (Ptr (At block base count index)) same f = λ p. let agrees : Agrees c (block_class w active block) base count =
    f p in subst (λ k. Agrees c k base count) (sym (same block agrees.object)) agrees
fits_among w active active' c (Sealed h) same f = f

pub all_among : (w : World) (active active' : List Active) (into : ℕ → Class) (vs : List Cell) → SameObjects w active active' →
    AllFit w active into vs → AllFit w active' into vs
all_among w active active' into [] same fit = tt {0}
all_among w active active' into (v ∷ vs) same fit = (
  fits_among w active active' (into 0) v same fit.0,
  all_among w active active' (λ n. into (suc n)) vs same fit.1,
)

pub working_class : (w : World) (a : Active) (rest : List Active) (work : List Work) (block : BlockName) →
    block_class w (record a { work = work } ∷ rest) block ≡ block_class w (a ∷ rest) block
working_class w a rest work (Local d v) = refl
working_class w a rest work (Global g) = refl
working_class w a rest work (Received n) = refl

pub working_fits : (w : World) (a : Active) (rest : List Active) (work : List Work) (blocks : Blocks) → MemoryFits w (a ∷ rest) blocks →
    MemoryFits w (record a { work = work } ∷ rest) blocks
working_fits w a rest work blocks mem = record {
  handles = λ block n. subst (λ c. MayLie c n (cell_of blocks block n)) (sym (working_class w a rest work block)) (mem.handles block n);
  pointers = (
    λ v p. fits_among w (a ∷ rest) (record a { work = work } ∷ rest) (w.variable a.function v) (cell_of blocks (Local a.depth v) 0)
        (λ block h. working_class w a rest work block) (mem.pointers.0 v p),
    mem.pointers.1,
  );
}

entered_class : (w : World) (a : Active) (rest : List Active) → AreBelow a.depth rest → SameObjects w rest (a ∷ rest)
entered_class w a rest below (Global g) h = refl
entered_class w a rest below (Received n) h = refl
entered_class w a rest below (Local d v) h = go (nat_eq d a.depth) refl
  where
    none : nat_eq d a.depth ≡ true → true ≡ false
    none e = sym (ap (λ (c : Class). c.pointer) (not_live w rest a.depth d v below (same_at_least d a.depth e))) ∙ h

    go : (b : Bool) → nat_eq d a.depth ≡ b → (if b then w.variable a.function v else local_class w rest d v) ≡ local_class w rest d v
    go true e = let no : true ≡ false = none e in cc
    go false e = refl

-- ---- one cell is written

later : (i j : ℕ) (v x y : Cell) → ((i ≡ j) × (x ≡ v)) ⊎ (x ≡ y) → ((suc i ≡ suc j) × (x ≡ v)) ⊎ (x ≡ y)
later i j v x y (inl h) = inl (ap suc h.0, h.1)
later i j v x y (inr h) = inr h

set_or_not : (xs : List Cell) (i j : ℕ) (v d : Cell) → ((i ≡ j) × (get_or (set xs i v) j d ≡ v)) ⊎ (get_or (set xs i v) j d ≡ get_or xs j d)
set_or_not [] i j v d = inr refl
set_or_not (x ∷ xs) zero zero v d = inl (refl, refl)
set_or_not (x ∷ xs) zero (suc j) v d = inr refl
set_or_not (x ∷ xs) (suc i) zero v d = inr refl
set_or_not (x ∷ xs) (suc i) (suc j) v d = later i j v _ _ (set_or_not xs i j v d)

-- what holds of the cell that is written and of those that were there holds of all
written_keeps : (P : BlockName → ℕ → Cell → Type 0) (blocks : Blocks) (block : BlockName) (n : ℕ) (v : Cell) → P block n v →
    ((other : BlockName) (k : ℕ) → P other k (cell_of blocks other k)) → (other : BlockName) (k : ℕ) →
    P other k (cell_of (written blocks block n v) other k)
written_keeps P blocks block n v here others other k = go (is_same_name block other) refl
  where
    in_it : ((n ≡ k) × (get_or (set (blocks block).cells n v) k (Int (pos 0)) ≡ v)) ⊎
        (get_or (set (blocks block).cells n v) k (Int (pos 0)) ≡ cell_of blocks block k) →
        P block k (get_or (set (blocks block).cells n v) k (Int (pos 0)))
    in_it (inl h) = subst (P block k) (sym h.1) (subst (λ i. P block i v) h.0 here)
    in_it (inr h) = subst (P block k) (sym h) (others block k)

    go : (b : Bool) → is_same_name block other ≡ b → P other k (get_or (if b then with_cell (blocks block) n v else blocks other).cells k
        (Int (pos 0)))
    go true e = subst (λ o. P o k (get_or (set (blocks block).cells n v) k (Int (pos 0)))) (same_name block other e)
        (in_it (set_or_not (blocks block).cells n k v (Int (pos 0))))
    go false e = others other k

-- the value fits each pointer of an active function that is written
abbrev pub TakesWrite : World → List Active → BlockName → Cell → Type 0
TakesWrite w [] block v = Unit {0}
TakesWrite w (a ∷ rest) block v = ((x : ℕ) → (w.variable a.function x).pointer ≡ true → block ≡ Local a.depth x → Fits w (a ∷ rest)
    (w.variable a.function x) v) × TakesWrite w rest block v

pointers_written : (w : World) (active : List Active) (blocks : Blocks) (block : BlockName) (n : ℕ) (v : Cell) → TakesWrite w active block v →
    PointersFit w active blocks → PointersFit w active (written blocks block n v)
pointers_written w [] blocks block n v takes fit = tt {0}
pointers_written w (a ∷ rest) blocks block n v takes fit = (head, pointers_written w rest blocks block n v takes.1 fit.1)
  where
    old : (x : ℕ) → (w.variable a.function x).pointer ≡ true → (other : BlockName) (k : ℕ) → other ≡ Local a.depth x → k ≡ 0 →
        Fits w (a ∷ rest) (w.variable a.function x) (cell_of blocks other k)
    old x p other k same first = subst (λ i. Fits w (a ∷ rest) (w.variable a.function x) (cell_of blocks other i)) (sym first)
        (subst (λ o. Fits w (a ∷ rest) (w.variable a.function x) (cell_of blocks o 0)) (sym same) (fit.0 x p))

    head : (x : ℕ) → (w.variable a.function x).pointer ≡ true →
        Fits w (a ∷ rest) (w.variable a.function x) (cell_of (written blocks block n v) (Local a.depth x) 0)
    head x p = written_keeps (λ other k c. other ≡ Local a.depth x → k ≡ 0 → Fits w (a ∷ rest) (w.variable a.function x) c) blocks block n v
        (λ same first. takes.0 x p same) (old x p) (Local a.depth x) 0 refl refl

pub memory_written : (w : World) (active : List Active) (blocks : Blocks) (block : BlockName) (n : ℕ) (v : Cell) →
    MayLie (block_class w active block) n v → TakesWrite w active block v → MemoryFits w active blocks →
    MemoryFits w active (written blocks block n v)
memory_written w active blocks block n v may takes mem = record {
  handles = written_keeps (λ other k c. MayLie (block_class w active other) k c) blocks block n v may mem.handles;
  pointers = pointers_written w active blocks block n v takes mem.pointers;
}

-- a local of this depth is none of a function that was entered before
takes_above : (w : World) (active : List Active) (depth d x : ℕ) (v : Cell) → AreBelow depth active → depth ≤ d → TakesWrite w active (Local d x) v
takes_above w [] depth d x v below le = tt {0}
takes_above w (a ∷ rest) depth d x v below le = (
  λ y p same. absurd (never_above a.depth depth d below.0 le (ap depth_in same)),
  takes_above w rest depth d x v below.1 le,
)

pub local_written : (w : World) (a : Active) (rest : List Active) (blocks : Blocks) (x : ℕ) (v : Cell) → AreBelow a.depth rest →
    Fits w (a ∷ rest) (w.variable a.function x) v → MemoryFits w (a ∷ rest) blocks → MemoryFits w (a ∷ rest) (written blocks (Local a.depth x) 0 v)
local_written w a rest blocks x v below fit = memory_written w (a ∷ rest) blocks (Local a.depth x) 0 v
    (subst (λ c. MayLie c 0 v) (sym (same_depth a.depth (w.variable a.function x) (local_class w rest a.depth x)))
    (fits_lies w (a ∷ rest) (w.variable a.function x) v fit)) (
      λ y p same. subst (λ z. Fits w (a ∷ rest) (w.variable a.function z) v) (ap variable_in same) fit,
      takes_above w rest a.depth a.depth x v below (at_most_self a.depth),
    )

-- ---- objects

abbrev pub AreDescending : List Active → Type 0
AreDescending [] = Unit {0}
AreDescending (a ∷ rest) = AreBelow a.depth rest × AreDescending rest

takes_elsewhere : (w : World) (active : List Active) (block : BlockName) (v : Cell) → is_local block ≡ false → TakesWrite w active block v
takes_elsewhere w [] block v none = tt {0}
takes_elsewhere w (a ∷ rest) block v none = (
  λ y p same. let no : true ≡ false = sym (ap is_local same) ∙ none in cc,
  takes_elsewhere w rest block v none,
)

takes_local : (w : World) (active : List Active) (d x : ℕ) (v : Cell) → AreDescending active → (local_class w active d x).pointer ≡ false →
    TakesWrite w active (Local d x) v
takes_local w [] d x v down h = tt {0}
takes_local w (a ∷ rest) d x v down h = go (nat_eq d a.depth) refl h (takes_local w rest d x v down.1)
  where
    go : (b : Bool) → nat_eq d a.depth ≡ b → (if b then w.variable a.function x else local_class w rest d x).pointer ≡ false →
        ((local_class w rest d x).pointer ≡ false → TakesWrite w rest (Local d x) v) → TakesWrite w (a ∷ rest) (Local d x) v
    go true e h next = (
      λ y p same. let no : true ≡ false = sym p ∙ (ap (λ z. (w.variable a.function z).pointer) (sym (ap variable_in same)) ∙ h) in cc,
      takes_above w rest a.depth d x v down.0 (same_at_least d a.depth e),
    )
    go false e h next = (λ y p same. absurd (apart_is d a.depth e (ap depth_in same)), next h)

-- an object is no pointer of an active function
pub takes_object : (w : World) (active : List Active) (block : BlockName) (v : Cell) → AreDescending active →
    (block_class w active block).pointer ≡ false → TakesWrite w active block v
takes_object w active (Local d x) v down h = takes_local w active d x v down h
takes_object w active (Global g) v down h = takes_elsewhere w active (Global g) v refl
takes_object w active (Received n) v down h = takes_elsewhere w active (Received n) v refl

-- cells, one after the other
abbrev pub AllLie : Class → ℕ → List Cell → Type 0
AllLie c n [] = Unit {0}
AllLie c n (v ∷ vs) = MayLie c n v × AllLie c (n + 1) vs

pub object_written : (w : World) (active : List Active) (blocks : Blocks) (block : BlockName) (n : ℕ) (vs : List Cell) → AreDescending active →
    (block_class w active block).pointer ≡ false → AllLie (block_class w active block) n vs → MemoryFits w active blocks →
    MemoryFits w active (all_written blocks block n vs)
object_written w active blocks block n [] down h lie mem = mem
object_written w active blocks block n (v ∷ vs) down h lie mem =
    object_written w active (written blocks block n v) block (n + 1) vs down h lie.1
    (memory_written w active blocks block n v lie.0 (takes_object w active block v down h) mem)

-- ---- entries

pointers_below : (w : World) (active : List Active) (depth : ℕ) (blocks blocks' : Blocks) → AreBelow depth active →
    ((d v : ℕ) → d < depth → blocks' (Local d v) ≡ blocks (Local d v)) → PointersFit w active blocks → PointersFit w active blocks'
pointers_below w [] depth blocks blocks' below same fit = tt {0}
pointers_below w (a ∷ rest) depth blocks blocks' below same fit = (
  λ v p. subst (λ (b : Block). Fits w (a ∷ rest) (w.variable a.function v) (get_or b.cells 0 (Int (pos 0)))) (sym (same a.depth v below.0)) (fit.0 v p),
  pointers_below w rest depth blocks blocks' below.1 same fit.1,
)

pub fresh_numbers : (k n : ℕ) → IsFresh (get_or (replicate k (Int (pos 0))) n (Int (pos 0)))
fresh_numbers zero n = tt {0}
fresh_numbers (suc k) zero = tt {0}
fresh_numbers (suc k) (suc n) = fresh_numbers k n

pub fresh_block : (shape : BlockShape) (n : ℕ) → IsFresh (get_or (fresh shape).cells n (Int (pos 0)))
fresh_block OnePointer zero = tt {0}
fresh_block OnePointer (suc n) = tt {0}
fresh_block (Ints types) n = fresh_numbers (length types) n

-- a block that is made anew
pointers_put : (w : World) (active : List Active) (blocks : Blocks) (name : BlockName) (block : Block) →
    ((n : ℕ) → IsFresh (get_or block.cells n (Int (pos 0)))) → PointersFit w active blocks → PointersFit w active (put blocks name block)
pointers_put w [] blocks name block new fit = tt {0}
pointers_put w (a ∷ rest) blocks name block new fit = (head, pointers_put w rest blocks name block new fit.1)
  where
    head : (x : ℕ) → (w.variable a.function x).pointer ≡ true →
        Fits w (a ∷ rest) (w.variable a.function x) (cell_of (put blocks name block) (Local a.depth x) 0)
    head x p = put_keeps (λ other b. other ≡ Local a.depth x → Fits w (a ∷ rest) (w.variable a.function x) (get_or b.cells 0 (Int (pos 0))))
        blocks name block
        (λ same. fresh_fits w (a ∷ rest) (w.variable a.function x) _ (new 0))
        (λ other same. subst (λ o. Fits w (a ∷ rest) (w.variable a.function x) (cell_of blocks o 0)) (sym same) (fit.0 x p)) (Local a.depth x) refl

pub fresh_put : (w : World) (active : List Active) (blocks : Blocks) (name : BlockName) (block : Block) →
    ((n : ℕ) → IsFresh (get_or block.cells n (Int (pos 0)))) → MemoryFits w active blocks → MemoryFits w active (put blocks name block)
fresh_put w active blocks name block new mem = record {
  handles = put_keeps (λ other b. (n : ℕ) → MayLie (block_class w active other) n (get_or b.cells n (Int (pos 0)))) blocks name block
      (λ n. fresh_lies (block_class w active name) n _ (new n)) mem.handles;
  pointers = pointers_put w active blocks name block new mem.pointers;
}

fresh_frame : (shapes : List BlockShape) (v n : ℕ) → IsFresh (get_or (get_or (map fresh shapes) v no_block).cells n (Int (pos 0)))
fresh_frame [] v n = tt {0}
fresh_frame (s ∷ shapes) zero n = fresh_block s n
fresh_frame (s ∷ shapes) (suc v) n = fresh_frame shapes v n

frame_fits : (w : World) (a : Active) (rest : List Active) (blocks : Blocks) (shapes : List BlockShape) → AreBelow a.depth rest →
    MemoryFits w rest blocks → MemoryFits w (a ∷ rest) (with_frame blocks a.depth shapes)
frame_fits w a rest blocks shapes below mem = record {
  handles = lie;
  pointers = (
    λ v p. fresh_fits w (a ∷ rest) (w.variable a.function v) _ (subst (λ (b : Block). IsFresh (get_or b.cells 0 (Int (pos 0)))) (sym (frame_here v))
        (fresh_frame shapes v 0)),
    pointers_below w rest a.depth blocks (with_frame blocks a.depth shapes) below frame_below mem.pointers,
  );
}
  where
    lie_in : (d v n : ℕ) (b : Bool) → MayLie (if b then w.variable a.function v else local_class w rest d v) n
        (get_or (if b then get_or (map fresh shapes) v no_block else blocks (Local d v)).cells n (Int (pos 0)))
    lie_in d v n true = fresh_lies (w.variable a.function v) n _ (fresh_frame shapes v n)
    lie_in d v n false = mem.handles (Local d v) n

    lie : (block : BlockName) (n : ℕ) → MayLie (block_class w (a ∷ rest) block) n (cell_of (with_frame blocks a.depth shapes) block n)
    lie (Local d v) n = lie_in d v n (nat_eq d a.depth)
    lie (Global g) n = mem.handles (Global g) n
    lie (Received g) n = mem.handles (Received g) n

    frame_here : (v : ℕ) → with_frame blocks a.depth shapes (Local a.depth v) ≡ get_or (map fresh shapes) v no_block
    frame_here v = ap (λ (b : Bool). if b then get_or (map fresh shapes) v no_block else blocks (Local a.depth v)) (eq-eqb a.depth a.depth refl)

    frame_below : (d v : ℕ) → d < a.depth → with_frame blocks a.depth shapes (Local d v) ≡ blocks (Local d v)
    frame_below d v less = ap (λ (b : Bool). if b then get_or (map fresh shapes) v no_block else blocks (Local d v)) (nat_eq_below d a.depth less)

-- arguments lie in the variables from this one on
arguments_fit : (w : World) (a : Active) (rest : List Active) (blocks : Blocks) (n : ℕ) (into : ℕ → Class) (vs : List Cell) → AreBelow a.depth rest →
    ((k : ℕ) → into k ≡ w.variable a.function (n + k)) → AllFit w (a ∷ rest) into vs → MemoryFits w (a ∷ rest) blocks →
    MemoryFits w (a ∷ rest) (with_arguments blocks a.depth n vs)
arguments_fit w a rest blocks n into [] below same fit mem = mem
arguments_fit w a rest blocks n into (v ∷ vs) below same fit mem =
    arguments_fit w a rest (written blocks (Local a.depth n) 0 v) (n + 1) (λ k. into (suc k)) vs below
    (λ k. same (suc k) ∙ ap (w.variable a.function) (count_on n k)) fit.1
    (local_written w a rest blocks n v below (subst (λ c. Fits w (a ∷ rest) c v) (same 0 ∙ ap (w.variable a.function) (add-zero n)) fit.0) mem)

pub entered_fits : (program : ProgramTree) (w : World) (a : Active) (rest : List Active) (blocks : Blocks) (vs : List Cell) → AreBelow a.depth rest →
    AllFit w rest (w.variable a.function) vs → MemoryFits w rest blocks →
    MemoryFits w (a ∷ rest) (entered program a.function a.depth vs blocks)
entered_fits program w a rest blocks vs below fit mem =
    let shapes : List BlockShape = map (λ (x : Var). shape_of program.structs x.ty) (function_in program a.function).vars in
    arguments_fit w a rest (with_frame blocks a.depth shapes) 0 (w.variable a.function) vs below (λ k. ap (w.variable a.function) (as_zero_plus k))
    (all_among w rest (a ∷ rest) (w.variable a.function) vs (entered_class w a rest below) fit) (frame_fits w a rest blocks shapes below mem)

-- ---- returns

pub left_fits : (w : World) (a : Active) (rest : List Active) (blocks : Blocks) → AreBelow a.depth rest → MemoryFits w (a ∷ rest) blocks →
    MemoryFits w rest (without_frames blocks a.depth)
left_fits w a rest blocks below mem = record {
  handles = lie;
  pointers = pointers_below w rest a.depth blocks (without_frames blocks a.depth) below kept_below mem.pointers.1;
}
  where
    lie_in : (d v n : ℕ) (b : Bool) → nat_lt d a.depth ≡ b → MayLie (local_class w rest d v) n
        (get_or (if b then blocks (Local d v) else no_block).cells n (Int (pos 0)))
    lie_in d v n true e = subst (λ (b : Bool). MayLie (if b then w.variable a.function v else local_class w rest d v) n
        (cell_of blocks (Local d v) n)) (less_apart d a.depth e) (mem.handles (Local d v) n)
    lie_in d v n false e = tt {0}

    lie : (block : BlockName) (n : ℕ) → MayLie (block_class w rest block) n (cell_of (without_frames blocks a.depth) block n)
    lie (Local d v) n = lie_in d v n (nat_lt d a.depth) refl
    lie (Global g) n = mem.handles (Global g) n
    lie (Received g) n = mem.handles (Received g) n

    kept_below : (d v : ℕ) → d < a.depth → without_frames blocks a.depth (Local d v) ≡ blocks (Local d v)
    kept_below d v less = ap (λ (b : Bool). if b then blocks (Local d v) else no_block) (nat_lt_true d a.depth less)
