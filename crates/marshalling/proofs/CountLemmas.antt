-- The counts of a call's body.
use Rattle.std.proofs.Common.{◌≡◌, ◌≤◌, ◌+◌, ◌∙◌, refl, ap, suc, Bool, true, false, List, [], ◌∷◌, ◌++◌, length, map, arith, length-append, if◌then◌else◌}
use Rattle.std.specs.Prelude.{nat_le}
use Rattle.std.specs.List.{AllByRecursion, list_all, zip}
use Rattle.std.proofs.lemmas.Bool.Decides.{nat_tests}
use Rattle.std.proofs.lemmas.List.{length-map}
use Rattle.pt_base.proofs.Booleans.{and_true_first, and_true_second}
use Rattle.block_memory.specs.declared.cell.BlockName.{BlockName}
use Rattle.block_memory.specs.declared.cell.Cell.{Cell}
use Rattle.block_memory.specs.declared.cell.Cell.TheVariants.{Int, Ptr, Sealed}
use Rattle.block_memory.specs.declared.cell.Pointer.TheVariants.{Null, At}
use Rattle.block_memory.specs.Block.{Block}
use Rattle.block_memory.specs.Blocks.{Blocks}
use Rattle.wire.specs.Limits.{IsBlock}
use Rattle.marshalling.specs.Laws.{BodiesKeepCounts}
use Rattle.marshalling.specs.Packing.{is_among, names_from, names_of, packed, packed_block, packed_typed, with_name, with_target}
use Rattle.marshalling.specs.Taking.{is_whole}
use Rattle.marshalling.proofs.TakingLemmas.{whole_count, whole_small}

-- ---- lengths

zip_left : {X Y : Type 0} (xs : List X) (ys : List Y) → length (zip xs ys) ≤ length ys
zip_left [] ys = omega arith
zip_left (x ∷ xs) [] = omega arith
zip_left (x ∷ xs) (y ∷ ys) = let rest = zip_left xs ys in omega arith

zip_same : {X Y : Type 0} (xs : List X) (ys : List Y) → length xs ≡ length ys → length (zip xs ys) ≡ length ys
zip_same [] [] h = refl
zip_same [] (y ∷ ys) h = h
zip_same (x ∷ xs) [] h = refl
zip_same (x ∷ xs) (y ∷ ys) h = ap suc (zip_same xs ys (omega arith))

pub name_more : (names : List BlockName) (name : BlockName) → length (with_name names name) ≤ length names + 1
name_more names name = go (is_among names name)
  where
    go : (b : Bool) → length (if b then names else names ++ name ∷ []) ≤ length names + 1
    go true = omega arith
    go false = let more = length-append names (name ∷ []) in omega arith

pub target_more : (names : List BlockName) (c : Cell) → length (with_target names c) ≤ length names + 1
target_more names (Int v) = omega arith
target_more names (Ptr Null) = omega arith
target_more names (Ptr (At block base count index)) = name_more names block
target_more names (Sealed handle) = omega arith

pub names_more : (names : List BlockName) (args : List Cell) → length (names_from names args) ≤ length names + length args
names_more names [] = omega arith
names_more names (c ∷ args) =
    let here = target_more names c in
    let rest = names_more (with_target names c) args in
    omega arith

-- ---- blocks

block_keeps : (b : Block) → is_whole b ≡ true → nat_le 1 (length b.cells) ≡ true → IsBlock (packed_block b)
block_keeps b whole some =
    let count : length (packed_block b) ≡ length b.cells = length-map (zip b.types b.cells) packed_typed
    ∙ zip_same b.types b.cells (whole_count b whole) in
    let small = whole_small b whole in
    let one : 1 ≤ length b.cells = grind (arith, nat_tests, some) in
    (omega (arith, count, one), omega (arith, count, small))

blocks_keep : (blocks : Blocks) (names : List BlockName) → list_all (λ name. is_whole (blocks name)) names ≡ true
    → list_all (λ name. nat_le 1 (length (blocks name).cells)) names ≡ true
    → AllByRecursion IsBlock (map (λ name. packed_block (blocks name)) names)
blocks_keep blocks [] whole some = tt
blocks_keep blocks (name ∷ names) whole some =
    let here = block_keeps (blocks name) (and_true_first (is_whole (blocks name)) (list_all (λ name. is_whole (blocks name)) names) whole)
    (and_true_first (nat_le 1 (length (blocks name).cells)) (list_all (λ name. nat_le 1 (length (blocks name).cells)) names) some) in
    let rest = blocks_keep blocks names (and_true_second (is_whole (blocks name)) (list_all (λ name. is_whole (blocks name)) names) whole)
    (and_true_second (nat_le 1 (length (blocks name).cells)) (list_all (λ name. nat_le 1 (length (blocks name).cells)) names) some) in
    (here, rest)

pub counts_kept : BodiesKeepCounts
counts_kept blocks params args few whole some =
    let sent : length (packed blocks params args).args ≡ length (zip params args) = length-map (zip params args) _ in
    let short = zip_left params args in
    let count : length (packed blocks params args).blocks ≡ length (names_of args) = length-map (names_of args) _ in
    let names = names_more [] args in
    record {
      args = omega (arith, sent, short, few);
      blocks = omega (arith, count, names, few);
      each = blocks_keep blocks (names_of args) whole some;
    }
