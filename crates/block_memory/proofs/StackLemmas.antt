-- Laws of blocks whose cells lie in one list.
use Rattle.std.proofs.Common.{◌≡◌, ◌∙◌, ◌+◌, ◌-◌, ◌<◌, ◌≤◌, ℕ, pos, add-one, suc, zero, List, [], ◌∷◌, ◌++◌, length, take, map, set, get_or, slice_range, slice_get, Some, refl, sym, ap, subst, arith, length-append, length-set}
use Rattle.std.proofs.lemmas.List.{get_or_default, get_or_past, length-map, length-take-le, map-append, take-map, take-take, take_at}
use Rattle.std.proofs.lemmas.List.Edits.{get_or-between, length-between}
use Rattle.std.proofs.lemmas.Option.{slice_get-get_or}
use Rattle.pt_base.specs.declared.int_type.IntType.{IntType}
use Rattle.block_memory.specs.declared.cell.Cell.{Cell}
use Rattle.block_memory.specs.declared.cell.Cell.TheVariants.{Int}
use Rattle.block_memory.specs.declared.start.Start.{Start}
use Rattle.block_memory.specs.Block.{Block, no_block, with_cell}
use Rattle.block_memory.specs.Pieces.{AreStarts, pieces}
use Rattle.block_memory.specs.Stack.{IsStack, cell_starts, joined, stacked, type_starts}
use Rattle.block_memory.proofs.PiecesLemmas.{AreStarts-push, AreStarts-take, length-pieces, pieces-push, pieces-set, pieces-take, pieces_at, start-le, start-next}

length-joined : (ts : List (List IntType)) (cs : List (List Cell)) → length ts ≡ length cs → length (joined ts cs) ≡ length ts
length-joined [] cs h = refl
length-joined (t ∷ ts) [] h = absurd (omega arith)
length-joined (t ∷ ts) (c ∷ cs) h = ap suc (length-joined ts cs (omega arith))

joined-push : (ts : List (List IntType)) (cs : List (List Cell)) (t : List IntType) (c : List Cell) → length ts ≡ length cs → joined (ts ++ t ∷ []) (cs ++ c ∷ []) ≡ joined ts cs ++ record { types = t; cells = c } ∷ []
joined-push [] [] t c h = refl
joined-push [] (d ∷ cs) t c h = absurd (omega arith)
joined-push (s ∷ ts) [] t c h = absurd (omega arith)
joined-push (s ∷ ts) (d ∷ cs) t c h = ap (λ bs. record { types = s; cells = d } ∷ bs) (joined-push ts cs t c (omega arith))

joined-take : (k : ℕ) (ts : List (List IntType)) (cs : List (List Cell)) → joined (take k ts) (take k cs) ≡ take k (joined ts cs)
joined-take zero ts cs = refl
joined-take (suc k) [] cs = refl
joined-take (suc k) (t ∷ ts) [] = refl
joined-take (suc k) (t ∷ ts) (c ∷ cs) = ap (λ bs. record { types = t; cells = c } ∷ bs) (joined-take k ts cs)

joined_at : (ts : List (List IntType)) (cs : List (List Cell)) (k : ℕ) → length ts ≡ length cs → get_or (joined ts cs) k no_block ≡ record { types = get_or ts k []; cells = get_or cs k [] }
joined_at [] [] k h = refl
joined_at [] (c ∷ cs) k h = absurd (omega arith)
joined_at (t ∷ ts) [] k h = absurd (omega arith)
joined_at (t ∷ ts) (c ∷ cs) zero h = refl
joined_at (t ∷ ts) (c ∷ cs) (suc k) h = joined_at ts cs k (omega arith)

joined-set : (ts : List (List IntType)) (cs : List (List Cell)) (k : ℕ) (c : List Cell) → joined ts (set cs k c) ≡ set (joined ts cs) k (record { types = get_or ts k []; cells = c })
joined-set [] cs k c = refl
joined-set (t ∷ ts) [] k c = refl
joined-set (t ∷ ts) (d ∷ cs) zero c = refl
joined-set (t ∷ ts) (d ∷ cs) (suc k) c = ap (λ bs. record { types = t; cells = d } ∷ bs) (joined-set ts cs k c)

-- no place
abbrev pub no_start : Start
no_start = record { types = 0; cells = 0 }

start_at : (part : Start → ℕ) (starts : List Start) (k d : ℕ) → k < length starts → get_or (map part starts) k d ≡ part (get_or starts k no_start)
start_at part [] k d lt = absurd (omega arith)
start_at part (s ∷ starts) zero d lt = refl
start_at part (s ∷ starts) (suc k) d lt = start_at part starts k d (omega arith)

type_pieces : (starts : List Start) (types : List IntType) → length (pieces (type_starts starts) types) ≡ length starts
type_pieces starts types = length-pieces (type_starts starts) types ∙ length-map starts (λ s. s.types)

cell_pieces : (starts : List Start) (cells : List Cell) → length (pieces (cell_starts starts) cells) ≡ length starts
cell_pieces starts cells = length-pieces (cell_starts starts) cells ∙ length-map starts (λ s. s.cells)

same_pieces : (starts : List Start) (types : List IntType) (cells : List Cell) → length (pieces (type_starts starts) types) ≡ length (pieces (cell_starts starts) cells)
same_pieces starts types cells = type_pieces starts types ∙ sym (cell_pieces starts cells)

pub length-stacked : (starts : List Start) (types : List IntType) (cells : List Cell) → length (stacked starts types cells) ≡ length starts
length-stacked starts types cells =
    length-joined (pieces (type_starts starts) types) (pieces (cell_starts starts) cells) (same_pieces starts types cells) ∙ type_pieces starts types

-- a block is added at the end
pub stacked-push : (starts : List Start) (types ts : List IntType) (cells cs : List Cell) → IsStack starts types cells → stacked (starts ++ record { types = length types; cells = length cells } ∷ []) (types ++ ts) (cells ++ cs) ≡ stacked starts types cells ++ record { types = ts; cells = cs } ∷ []
stacked-push starts types ts cells cs is =
    let end : Start = record { types = length types; cells = length cells } in
    ap (λ xs. joined (pieces xs (types ++ ts)) (pieces (cell_starts (starts ++ end ∷ [])) (cells ++ cs))) (map-append (λ (s : Start). s.types) starts (end ∷ []))
    ∙ ap (λ xs. joined (pieces (type_starts starts ++ length types ∷ []) (types ++ ts)) (pieces xs (cells ++ cs))) (map-append (λ (s : Start). s.cells) starts (end ∷ []))
    ∙ ap (λ ps. joined ps (pieces (cell_starts starts ++ length cells ∷ []) (cells ++ cs))) (pieces-push (type_starts starts) 0 types ts is.types_rise)
    ∙ ap (λ ps. joined (pieces (type_starts starts) types ++ ts ∷ []) ps) (pieces-push (cell_starts starts) 0 cells cs is.cells_rise)
    ∙ joined-push (pieces (type_starts starts) types) (pieces (cell_starts starts) cells) ts cs (same_pieces starts types cells)

pub IsStack-push : (starts : List Start) (types ts : List IntType) (cells cs : List Cell) → IsStack starts types cells → IsStack (starts ++ record { types = length types; cells = length cells } ∷ []) (types ++ ts) (cells ++ cs)
IsStack-push starts types ts cells cs is =
    let end : Start = record { types = length types; cells = length cells } in
    record {
      types_rise = rw (map-append (λ (s : Start). s.types) starts (end ∷ [])) (AreStarts-push (type_starts starts) 0 (length types) (length (types ++ ts)) (omega (arith, length-append types ts)) is.types_rise);
      cells_rise = rw (map-append (λ (s : Start). s.cells) starts (end ∷ [])) (AreStarts-push (cell_starts starts) 0 (length cells) (length (cells ++ cs)) (omega (arith, length-append cells cs)) is.cells_rise);
    }

-- the first blocks are kept
pub stacked-take : (starts : List Start) (types : List IntType) (cells : List Cell) (k : ℕ) → IsStack starts types cells → k < length starts → stacked (take k starts) (take (get_or starts k no_start).types types) (take (get_or starts k no_start).cells cells) ≡ take k (stacked starts types cells)
stacked-take starts types cells k is lt =
    let at : Start = get_or starts k no_start in
    ap (λ xs. joined (pieces xs (take at.types types)) (pieces (cell_starts (take k starts)) (take at.cells cells))) (sym (take-map (λ (s : Start). s.types) k starts))
    ∙ ap (λ xs. joined (pieces (take k (type_starts starts)) (take at.types types)) (pieces xs (take at.cells cells))) (sym (take-map (λ (s : Start). s.cells) k starts))
    ∙ ap (λ n. joined (pieces (take k (type_starts starts)) (take n types)) (pieces (take k (cell_starts starts)) (take at.cells cells))) (sym (start_at (λ s. s.types) starts k (length types) lt))
    ∙ ap (λ n. joined (pieces (take k (type_starts starts)) (take (get_or (type_starts starts) k (length types)) types)) (pieces (take k (cell_starts starts)) (take n cells))) (sym (start_at (λ s. s.cells) starts k (length cells) lt))
    ∙ ap (λ ps. joined ps (pieces (take k (cell_starts starts)) (take (get_or (cell_starts starts) k (length cells)) cells))) (pieces-take (type_starts starts) 0 types k is.types_rise)
    ∙ ap (λ ps. joined (take k (pieces (type_starts starts) types)) ps) (pieces-take (cell_starts starts) 0 cells k is.cells_rise)
    ∙ joined-take k (pieces (type_starts starts) types) (pieces (cell_starts starts) cells)

-- block k goes from where it starts to where the next one does, or to the end
piece_at : {X : Type 0} (part : Start → ℕ) (starts : List Start) (xs : List X) (k : ℕ) → k < length starts → get_or (pieces (map part starts) xs) k [] ≡ slice_range xs (part (get_or starts k no_start)) (get_or (map part starts) (suc k) (length xs))
piece_at part starts xs k lt =
    pieces_at (map part starts) xs k (omega (arith, length-map starts part))
    ∙ ap (λ n. slice_range xs n (get_or (map part starts) (suc k) (length xs))) (start_at part starts k (length xs) lt)

block_at : (starts : List Start) (types : List IntType) (cells : List Cell) (k : ℕ) → get_or (stacked starts types cells) k no_block ≡ record { types = get_or (pieces (type_starts starts) types) k []; cells = get_or (pieces (cell_starts starts) cells) k [] }
block_at starts types cells k = joined_at (pieces (type_starts starts) types) (pieces (cell_starts starts) cells) k (same_pieces starts types cells)

-- a piece of a list that is told by where it starts and ends
pub record IsPart {X : Type 0} (xs : List X) (from to : ℕ) (piece : List X) : Type 0 where
  pub rises : from ≤ to
  pub within : to ≤ length xs
  pub value : piece ≡ slice_range xs from to

part_between : {X : Type 0} (part : Start → ℕ) (starts : List Start) (xs : List X) (k : ℕ) → AreStarts 0 (map part starts) (length xs) → k + 1 < length starts → IsPart xs (part (get_or starts k no_start)) (part (get_or starts (k + 1) no_start)) (get_or (pieces (map part starts) xs) k [])
part_between part starts xs k h lt =
    rw add-one (
    let from = start_at part starts k (length xs) (omega arith) in
    let to = start_at part starts (suc k) (length xs) (omega arith) in
    record {
      rises = omega (arith, from, to, start-next (map part starts) 0 (length xs) k h);
      within = omega (arith, to, (start-le (map part starts) 0 (length xs) (suc k) h).1);
      value = piece_at part starts xs k (omega arith) ∙ ap (slice_range xs (part (get_or starts k no_start))) to;
    }
    )

part_last : {X : Type 0} (part : Start → ℕ) (starts : List Start) (xs : List X) (k : ℕ) → AreStarts 0 (map part starts) (length xs) → k < length starts → length starts ≤ k + 1 → IsPart xs (part (get_or starts k no_start)) (length xs) (get_or (pieces (map part starts) xs) k [])
part_last part starts xs k h lt last =
    let from = start_at part starts k (length xs) lt in
    let to : get_or (map part starts) (suc k) (length xs) ≡ length xs = get_or_past (map part starts) (suc k) (length xs) (omega (arith, length-map starts part)) in
    record {
      rises = omega (arith, from, (start-le (map part starts) 0 (length xs) k h).1);
      within = omega arith;
      value = piece_at part starts xs k lt ∙ ap (slice_range xs (part (get_or starts k no_start))) to;
    }

pub types_between : (starts : List Start) (types : List IntType) (cells : List Cell) (k : ℕ) → IsStack starts types cells → k + 1 < length starts → IsPart types (get_or starts k no_start).types (get_or starts (k + 1) no_start).types (get_or (stacked starts types cells) k no_block).types
types_between starts types cells k is lt = rw block_at (part_between (λ s. s.types) starts types k is.types_rise lt)

pub types_last : (starts : List Start) (types : List IntType) (cells : List Cell) (k : ℕ) → IsStack starts types cells → k < length starts → length starts ≤ k + 1 → IsPart types (get_or starts k no_start).types (length types) (get_or (stacked starts types cells) k no_block).types
types_last starts types cells k is lt last = rw block_at (part_last (λ s. s.types) starts types k is.types_rise lt last)

pub cells_between : (starts : List Start) (types : List IntType) (cells : List Cell) (k : ℕ) → IsStack starts types cells → k + 1 < length starts → IsPart cells (get_or starts k no_start).cells (get_or starts (k + 1) no_start).cells (get_or (stacked starts types cells) k no_block).cells
cells_between starts types cells k is lt = rw block_at (part_between (λ s. s.cells) starts cells k is.cells_rise lt)

pub cells_last : (starts : List Start) (types : List IntType) (cells : List Cell) (k : ℕ) → IsStack starts types cells → k < length starts → length starts ≤ k + 1 → IsPart cells (get_or starts k no_start).cells (length cells) (get_or (stacked starts types cells) k no_block).cells
cells_last starts types cells k is lt last = rw block_at (part_last (λ s. s.cells) starts cells k is.cells_rise lt last)

-- where a block's cells start and end
cells_at : (starts : List Start) (types : List IntType) (cells : List Cell) (k : ℕ) → IsStack starts types cells → k < length starts → IsPart cells (get_or starts k no_start).cells (get_or (cell_starts starts) (suc k) (length cells)) (get_or (stacked starts types cells) k no_block).cells
cells_at starts types cells k is lt =
    let from = start_at (λ s. s.cells) starts k (length cells) lt in
    rw block_at (record {
      rises = omega (arith, from, start-next (cell_starts starts) 0 (length cells) k is.cells_rise);
      within = (start-le (cell_starts starts) 0 (length cells) (suc k) is.cells_rise).1;
      value = piece_at (λ s. s.cells) starts cells k lt;
    })

part_read : (xs : List Cell) (from to i : ℕ) (piece : List Cell) → IsPart xs from to piece → i < length piece → (from + i < to) × (slice_get piece i ≡ slice_get xs (from + i))
part_read xs from to i piece part lt =
    let long : length piece ≡ to - from = ap length part.value ∙ length-between xs from to part.within in
    let before : from + i < to = omega (arith, long, part.rises) in (
      before,
      slice_get-get_or piece i (Int (pos 0)) lt
          ∙ ap Some (ap (λ p. get_or p i (Int (pos 0))) part.value ∙ get_or-between xs from to i (Int (pos 0)) before)
          ∙ sym (slice_get-get_or xs (from + i) (Int (pos 0)) (omega (arith, part.within))),
    )

-- a cell of a block is a cell of the list
pub stack_read : (starts : List Start) (types : List IntType) (cells : List Cell) (k i : ℕ) → IsStack starts types cells → k < length starts → i < length (get_or (stacked starts types cells) k no_block).cells → ((get_or starts k no_start).cells + i < length cells) × (slice_get (get_or (stacked starts types cells) k no_block).cells i ≡ slice_get cells ((get_or starts k no_start).cells + i))
stack_read starts types cells k i is lt within =
    let part = cells_at starts types cells k is lt in
    let read = part_read cells _ _ i _ part within in
    (omega (arith, read.0, part.within), read.1)

-- a write of one cell
pub stacked-set : (starts : List Start) (types : List IntType) (cells : List Cell) (k i : ℕ) (v : Cell) → IsStack starts types cells → k < length starts → i < length (get_or (stacked starts types cells) k no_block).cells → stacked starts types (set cells ((get_or starts k no_start).cells + i) v) ≡ set (stacked starts types cells) k (with_cell (get_or (stacked starts types cells) k no_block) i v)
stacked-set starts types cells k i v is lt within =
    let part = cells_at starts types cells k is lt in
    let read = part_read cells _ _ i _ part within in
    let from = start_at (λ s. s.cells) starts k (length cells) lt in
    let at : get_or (cell_starts starts) k (length cells) + i < get_or (cell_starts starts) (suc k) (length cells) = omega (arith, from, read.0) in
    ap (λ n. stacked starts types (set cells (n + i) v)) (sym from)
    ∙ ap (joined (pieces (type_starts starts) types)) (pieces-set (cell_starts starts) 0 cells k i v is.cells_rise (omega (arith, length-map starts (λ (s : Start). s.cells))) at)
    ∙ joined-set (pieces (type_starts starts) types) (pieces (cell_starts starts) cells) k _
    ∙ ap (λ b. set (stacked starts types cells) k (with_cell b i v)) (sym (block_at starts types cells k))

pub IsStack-set : (starts : List Start) (types : List IntType) (cells : List Cell) (at : ℕ) (v : Cell) → IsStack starts types cells → IsStack starts types (set cells at v)
IsStack-set starts types cells at v is = record { types_rise = is.types_rise; cells_rise = rw length-set is.cells_rise }

pub IsStack-take : (starts : List Start) (types : List IntType) (cells : List Cell) (k : ℕ) → IsStack starts types cells → k < length starts → IsStack (take k starts) (take (get_or starts k no_start).types types) (take (get_or starts k no_start).cells cells)
IsStack-take starts types cells k is lt =
    let at : Start = get_or starts k no_start in
    record {
      types_rise = rises (λ s. s.types) types is.types_rise;
      cells_rise = rises (λ s. s.cells) cells is.cells_rise;
    }
  where
    rises : {X : Type 0} (part : Start → ℕ) (xs : List X) → AreStarts 0 (map part starts) (length xs) → AreStarts 0 (map part (take k starts)) (length (take (part (get_or starts k no_start)) xs))
    rises part xs h =
        let from = start_at part starts k (length xs) lt in
        let within : part (get_or starts k no_start) ≤ length xs = omega (arith, from, (start-le (map part starts) 0 (length xs) k h).1) in
        rw (length-take-le (part (get_or starts k no_start)) xs within) (subst (λ ys. AreStarts 0 ys (part (get_or starts k no_start))) (take-map part k starts) (subst (AreStarts 0 (take k (map part starts))) from (AreStarts-take (map part starts) 0 (length xs) k h)))

-- The same, of the list v that the blocks are.

pub stack-count : (starts : List Start) (types : List IntType) (cells : List Cell) (v : List Block) → stacked starts types cells ≡ v → length v ≡ length starts
stack-count starts types cells v view = ap length (sym view) ∙ length-stacked starts types cells

start_is : (starts : List Start) (k : ℕ) (start : Start) → k < length starts → start ≡ get_or starts k start → get_or starts k no_start ≡ start
start_is starts k start lt read = get_or_default starts k no_start start lt ∙ sym read

pub cell_read : (starts : List Start) (types : List IntType) (cells : List Cell) (v : List Block) (k i : ℕ) (start : Start) → stacked starts types cells ≡ v → IsStack starts types cells → k < length v → start ≡ get_or starts k start → i < length (get_or v k no_block).cells → (start.cells + i < length cells) × (slice_get (get_or v k no_block).cells i ≡ slice_get cells (start.cells + i))
cell_read starts types cells v k i start view is lt read within =
    let P : List Block → Start → Type 0 = λ bs s. (s.cells + i < length cells) × (slice_get (get_or bs k no_block).cells i ≡ slice_get cells (s.cells + i)) in
    let inside : k < length starts = omega (arith, stack-count starts types cells v view) in
    subst (λ bs. P bs start) view (subst (P (stacked starts types cells)) (start_is starts k start inside read) (stack_read starts types cells k i is inside (subst (λ bs. i < length (get_or bs k no_block).cells) (sym view) within)))

pub cell_written : (starts : List Start) (types : List IntType) (cells : List Cell) (v : List Block) (k i : ℕ) (x : Cell) (start : Start) → stacked starts types cells ≡ v → IsStack starts types cells → k < length v → start ≡ get_or starts k start → i < length (get_or v k no_block).cells → stacked starts types (set cells (start.cells + i) x) ≡ set v k (with_cell (get_or v k no_block) i x)
cell_written starts types cells v k i x start view is lt read within =
    let inside : k < length starts = omega (arith, stack-count starts types cells v view) in
    ap (λ (s : Start). stacked starts types (set cells (s.cells + i) x)) (sym (start_is starts k start inside read))
    ∙ stacked-set starts types cells k i x is inside (subst (λ bs. i < length (get_or bs k no_block).cells) (sym view) within)
    ∙ ap (λ bs. set bs k (with_cell (get_or bs k no_block) i x)) view

pub blocks_kept : (starts : List Start) (types : List IntType) (cells : List Cell) (v : List Block) (k : ℕ) (start : Start) → stacked starts types cells ≡ v → IsStack starts types cells → k < length starts → start ≡ get_or starts k start → stacked (take k starts) (take start.types types) (take start.cells cells) ≡ take k v
blocks_kept starts types cells v k start view is lt read =
    ap (λ (s : Start). stacked (take k starts) (take s.types types) (take s.cells cells)) (sym (start_is starts k start lt read))
    ∙ stacked-take starts types cells k is lt
    ∙ ap (take k) view

pub IsStack-kept : (starts : List Start) (types : List IntType) (cells : List Cell) (k : ℕ) (start : Start) → IsStack starts types cells → k < length starts → start ≡ get_or starts k start → IsStack (take k starts) (take start.types types) (take start.cells cells)
IsStack-kept starts types cells k start is lt read =
    subst (λ (s : Start). IsStack (take k starts) (take s.types types) (take s.cells cells)) (start_is starts k start lt read) (IsStack-take starts types cells k is lt)

pub types_part : (starts : List Start) (types : List IntType) (cells : List Cell) (v : List Block) (k : ℕ) (start next : Start) → stacked starts types cells ≡ v → IsStack starts types cells → k + 1 < length starts → start ≡ get_or starts k start → next ≡ get_or starts (k + 1) next → IsPart types start.types next.types (get_or v k no_block).types
types_part starts types cells v k start next view is lt read read-next =
    let P : Start → Start → List Block → Type 0 = λ s n bs. IsPart types s.types n.types (get_or bs k no_block).types in
    subst (P start next) view (subst (λ n. P start n (stacked starts types cells)) (start_is starts (k + 1) next lt read-next) (subst (λ s. P s (get_or starts (k + 1) no_start) (stacked starts types cells)) (start_is starts k start (omega arith) read) (types_between starts types cells k is lt)))

pub types_rest : (starts : List Start) (types : List IntType) (cells : List Cell) (v : List Block) (k : ℕ) (start : Start) → stacked starts types cells ≡ v → IsStack starts types cells → k < length v → length starts ≤ k + 1 → start ≡ get_or starts k start → IsPart types start.types (length types) (get_or v k no_block).types
types_rest starts types cells v k start view is lt last read =
    let P : Start → List Block → Type 0 = λ s bs. IsPart types s.types (length types) (get_or bs k no_block).types in
    let inside : k < length starts = omega (arith, stack-count starts types cells v view) in
    subst (P start) view (subst (λ s. P s (stacked starts types cells)) (start_is starts k start inside read) (types_last starts types cells k is inside last))

pub cells_part : (starts : List Start) (types : List IntType) (cells : List Cell) (v : List Block) (k : ℕ) (start next : Start) → stacked starts types cells ≡ v → IsStack starts types cells → k + 1 < length starts → start ≡ get_or starts k start → next ≡ get_or starts (k + 1) next → IsPart cells start.cells next.cells (get_or v k no_block).cells
cells_part starts types cells v k start next view is lt read read-next =
    let P : Start → Start → List Block → Type 0 = λ s n bs. IsPart cells s.cells n.cells (get_or bs k no_block).cells in
    subst (P start next) view (subst (λ n. P start n (stacked starts types cells)) (start_is starts (k + 1) next lt read-next) (subst (λ s. P s (get_or starts (k + 1) no_start) (stacked starts types cells)) (start_is starts k start (omega arith) read) (cells_between starts types cells k is lt)))

pub cells_rest : (starts : List Start) (types : List IntType) (cells : List Cell) (v : List Block) (k : ℕ) (start : Start) → stacked starts types cells ≡ v → IsStack starts types cells → k < length v → length starts ≤ k + 1 → start ≡ get_or starts k start → IsPart cells start.cells (length cells) (get_or v k no_block).cells
cells_rest starts types cells v k start view is lt last read =
    let P : Start → List Block → Type 0 = λ s bs. IsPart cells s.cells (length cells) (get_or bs k no_block).cells in
    let inside : k < length starts = omega (arith, stack-count starts types cells v view) in
    subst (P start) view (subst (λ s. P s (stacked starts types cells)) (start_is starts k start inside read) (cells_last starts types cells k is inside last))

-- what a block that is added has so far
pub record Grows (starts starts' : List Start) (types types' : List IntType) (cells cells' : List Cell) (ts : List IntType) (cs : List Cell) (start : Start) : Type 0 where
  pub starts-are : starts' ≡ starts ++ start ∷ []
  pub types-from : start.types ≡ length types
  pub cells-from : start.cells ≡ length cells
  pub types-are : types' ≡ types ++ ts
  pub cells-are : cells' ≡ cells ++ cs

grown-start : (starts starts' : List Start) (types types' : List IntType) (cells cells' : List Cell) (ts : List IntType) (cs : List Cell) (start : Start) → Grows starts starts' types types' cells cells' ts cs start → start ≡ record { types = length types; cells = length cells }
grown-start starts starts' types types' cells cells' ts cs start grows = λ i. record { types = grows.types-from i; cells = grows.cells-from i }

pub IsStack-grown : (starts starts' : List Start) (types types' : List IntType) (cells cells' : List Cell) (ts : List IntType) (cs : List Cell) (start : Start) → Grows starts starts' types types' cells cells' ts cs start → IsStack starts types cells → IsStack starts' types' cells'
IsStack-grown starts starts' types types' cells cells' ts cs start grows is =
    let at = grown-start _ _ _ _ _ _ _ _ _ grows in
    rw (grows.starts-are, grows.types-are, grows.cells-are, at) (IsStack-push starts types ts cells cs is)

pub stacked-grown : (starts starts' : List Start) (types types' : List IntType) (cells cells' : List Cell) (ts : List IntType) (cs : List Cell) (start : Start) (v : List Block) → Grows starts starts' types types' cells cells' ts cs start → IsStack starts types cells → stacked starts types cells ≡ v → stacked starts' types' cells' ≡ v ++ record { types = ts; cells = cs } ∷ []
stacked-grown starts starts' types types' cells cells' ts cs start v grows is view =
    let at = grown-start _ _ _ _ _ _ _ _ _ grows in
    rw (grows.starts-are, grows.types-are, grows.cells-are, at) (stacked-push starts types ts cells cs is ∙ ap (λ bs. bs ++ record { types = ts; cells = cs } ∷ []) view)

pub stacked-begun : (starts starts' : List Start) (types types' : List IntType) (cells cells' : List Cell) (ts : List IntType) (cs : List Cell) (start : Start) (v : List Block) → Grows starts starts' types types' cells cells' ts cs start → IsStack starts types cells → stacked starts types cells ≡ v → take (length v) (stacked starts' types' cells') ≡ v
stacked-begun starts starts' types types' cells cells' ts cs start v grows is view =
    ap (take (length v)) (stacked-grown _ _ _ _ _ _ _ _ _ v grows is view) ∙ take_at v (record { types = ts; cells = cs } ∷ []) (length v) refl

-- what begins with what began with a list begins with that list
pub prefix_kept : (first mid last more : List Block) → mid ≡ first ++ more → take (length mid) last ≡ mid → take (length first) last ≡ first
prefix_kept first mid last more is kept =
    let shorter : length first ≤ length mid = omega (arith, ap length is, length-append first more) in
    sym (take-take (length first) (length mid) last shorter) ∙ ap (take (length first)) (kept ∙ is) ∙ take_at first more (length first) refl
