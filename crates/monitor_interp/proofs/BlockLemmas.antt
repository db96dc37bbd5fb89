-- Blocks that are put and taken away.
use Rattle.std.proofs.Common.{◌≡◌, ◌∙◌, ◌+◌, ◌-◌, ◌<◌, ◌≤◌, add-one, ℕ, zero, suc, ap, refl, sym, arith, List, [], ◌∷◌, drop, get_or, length, map}
use Rattle.std.specs.Prelude.{take}
use Rattle.std.proofs.lemmas.List.{length-map}
use Rattle.pt_base.specs.declared.int_type.IntType.{IntType}
use Rattle.block_memory.specs.declared.cell.BlockName.TheVariants.{Received}
use Rattle.block_memory.specs.declared.cell.Cell.{Cell}
use Rattle.block_memory.specs.Block.{no_block}
use Rattle.block_memory.specs.Blocks.{Blocks, put}
use Rattle.wire.specs.declared.cell.WireCell.{WireCell}
use Rattle.marshalling.specs.Handles.{Entries, unpacked_cell}
use Rattle.marshalling.specs.Replies.{block_types, types_of}
use Rattle.pair_meaning.specs.Serving.{with_brought}
use Rattle.monitor_soundness_law.specs.ServingLaws.{emptied}
use Rattle.monitor_interp.specs.Bringing.{AreAlike}

-- one after the other
pub emptied_on : (k n : ℕ) (x : Blocks) → 0 < n → emptied (suc k) (n - 1) (put x (Received k) no_block) ≡ emptied k n x
emptied_on k zero x h = absurd (omega (arith, h))
emptied_on k (suc n) x h = ap (λ i. emptied (suc k) i (put x (Received k) no_block)) (less n)
  where
    less : (n : ℕ) → suc n - 1 ≡ n
    less n = omega arith

-- what is opened has as many cells as was sent
pub opened_alike : (store : Entries) (blocks : List (List (IntType × WireCell))) → AreAlike blocks (map (map (unpacked_cell store)) blocks)
opened_alike store [] = tt {0}
opened_alike store (b ∷ blocks) = (sym (length-map b (unpacked_cell store)), opened_alike store blocks)

-- the first block, and then the others
pub brought_on : (k : ℕ) (block : List (IntType × WireCell)) (more : List (List (IntType × WireCell))) (values : List Cell) (rest : List (List Cell)) (x : Blocks) (types : List IntType) → types ≡ block_types block →
    with_brought (k + 1) (types_of more) rest (put x (Received k) (record { types = types; cells = values })) ≡ with_brought k (types_of (block ∷ more)) (values ∷ rest) x
brought_on k block more values rest x types same =
    ap (λ n. with_brought n (types_of more) rest (put x (Received k) (record { types = types; cells = values }))) (add-one k)
    ∙ ap (λ (ts : List IntType). with_brought (suc k) (types_of more) rest (put x (Received k) (record { types = ts; cells = values }))) same

-- a list by its first
pub head_rest : {X : Type 0} (xs : List X) (x : X) → 1 ≤ length xs → x ≡ get_or xs 0 x → xs ≡ x ∷ drop 1 xs
head_rest [] x h is = absurd (omega (arith, h))
head_rest (y ∷ ys) x h is = ap (λ z. z ∷ ys) (sym is)

take_whole : {X : Type 0} (n : ℕ) (xs : List X) → length xs ≤ n → take n xs ≡ xs
take_whole zero [] h = refl
take_whole zero (x ∷ xs) h = absurd (omega (arith, h))
take_whole (suc n) [] h = refl
take_whole (suc n) (x ∷ xs) h = ap (λ ys. x ∷ ys) (take_whole n xs (omega (arith, h)))

-- what a pattern has behind the first
pub rest_is : {X : Type 0} (xs : List X) → take (length xs - 1) (drop 1 xs) ≡ drop 1 xs
rest_is [] = take_whole (0 - 1) [] (omega arith)
rest_is (y ∷ ys) = take_whole (suc (length ys) - 1) ys (omega arith)

pub brought_all : (k : ℕ) (blocks more : List (List (IntType × WireCell))) (cells rest : List (List Cell)) (x : Blocks) (block : List (IntType × WireCell)) (values : List Cell) (types : List IntType) (put_cells : List Cell) →
    blocks ≡ block ∷ drop 1 blocks → more ≡ drop 1 blocks → cells ≡ values ∷ drop 1 cells → rest ≡ drop 1 cells → types ≡ block_types block → put_cells ≡ values →
    with_brought (k + 1) (types_of more) rest (put x (Received k) (record { types = types; cells = put_cells })) ≡ with_brought k (types_of blocks) cells x
brought_all k blocks more cells rest x block values types put_cells first_block more_is first_cells cells_are same_types same_cells =
    ap (λ (vs : List Cell). with_brought (k + 1) (types_of more) rest (put x (Received k) (record { types = types; cells = vs }))) same_cells
    ∙ brought_on k block more values rest x types same_types
    ∙ ap (λ (bs : List (List (IntType × WireCell))). with_brought k (types_of (block ∷ bs)) (values ∷ rest) x) more_is
    ∙ ap (λ (bs : List (List (IntType × WireCell))). with_brought k (types_of bs) (values ∷ rest) x) (sym first_block)
    ∙ ap (λ (cs : List (List Cell)). with_brought k (types_of blocks) (values ∷ cs) x) cells_are
    ∙ ap (λ (cs : List (List Cell)). with_brought k (types_of blocks) cs x) (sym first_cells)

-- one is taken away, and then the others
pub emptied_code : (k n : ℕ) (x : Blocks) → 0 < n → emptied (k + 1) (n - 1) (put x (Received k) no_block) ≡ emptied k n x
emptied_code k n x some = ap (λ i. emptied i (n - 1) (put x (Received k) no_block)) (add-one k) ∙ emptied_on k n x some
