-- Steps of the walks that read blocks.
use Rattle.std.proofs.Common.{◌≡◌, ◌<◌, ◌≤◌, ◌+◌, ◌++◌, ◌∙◌, sym, ap, refl, append-nil, append_assoc, pos, ℕ, Bool, true, false, List, [], ◌∷◌, length, drop, get_or, map, arith, add-one, zero, suc, if◌then◌else◌}
use Rattle.std.specs.List.{AllByRecursion, zip}
use Rattle.std.proofs.lemmas.List.{get_or_default}
use Rattle.pt_base.specs.declared.int_type.IntType.{IntType}
use Rattle.block_memory.specs.declared.cell.BlockName.{BlockName}
use Rattle.block_memory.specs.declared.cell.Cell.{Cell}
use Rattle.block_memory.specs.declared.cell.Cell.TheVariants.{Int}
use Rattle.block_memory.specs.Blocks.{Blocks}
use Rattle.wire.specs.declared.cell.WireCell.{WireCell}
use Rattle.wire.specs.Limits.{IsBlock}
use Rattle.marshalling.specs.declared.returned.ReturnedBlock.{ReturnedBlock}
use Rattle.marshalling.specs.Packing.{packed_typed}
use Rattle.marshalling.specs.Returns.{copied, seen}
use Rattle.marshalling.proofs.Lists.{at_drop, at_drops}

-- ---- a block that is sent

pub typed_more : (types ts : List IntType) (cells : List Cell) (i : ℕ) (t : IntType) (c : Cell) (done after whole : List (IntType × WireCell))
    → ts ≡ types → length types ≡ length cells → i < length ts → t ≡ get_or ts i t → c ≡ get_or cells i c → after ≡ done ++ packed_typed (t, c) ∷ []
    → done ++ map packed_typed (zip (drop i types) (drop i cells)) ≡ whole
    → after ++ map packed_typed (zip (drop (i + 1) types) (drop (i + 1) cells)) ≡ whole
typed_more types ts cells i t c done after whole same long lt et ec added so_far =
    let rest = map packed_typed (zip (drop (i + 1) types) (drop (i + 1) cells)) in
    let count : length ts ≡ length types = ap length same in
    ap (λ xs. xs ++ rest) added ∙ append_assoc done (packed_typed (t, c) ∷ []) rest
    ∙ ap (λ xs. done ++ xs)
    (sym (at_drops (λ us cs. map packed_typed (zip us cs)) types cells i t c (omega (arith, lt, count)) (omega (arith, lt, count, long))
    (et ∙ ap (λ us. get_or us i t) same) ec))
    ∙ so_far

-- what is read at a place is there
pub read_at : (cells : List Cell) (i : ℕ) (c : Cell) → i < length cells → c ≡ get_or cells i (Int (pos 0)) → c ≡ get_or cells i c
read_at cells i c lt e = e ∙ get_or_default cells i (Int (pos 0)) c lt

-- ---- blocks that come back

map_one : {X Y : Type 0} (f : X → Y) (xs : List X) (x : X) → map f (xs ++ x ∷ []) ≡ map f xs ++ f x ∷ []
map_one f [] x = refl
map_one f (y ∷ xs) x = ap (λ ys. f y ∷ ys) (map_one f xs x)

copied_step : (test : ℕ → Bool) (before : Blocks) (names : List BlockName) (k : ℕ) (name : BlockName) → k < length names → name ≡ get_or names k name
    → copied test before k (drop k names)
    ≡ (if test k then (k, name, (before name).cells) ∷ copied test before (k + 1) (drop (k + 1) names) else copied test before (k + 1) (drop (k + 1) names))
copied_step test before names k name lt e =
    at_drop (copied test before k) names k name lt e
    ∙ ap (λ j. if test k then (k, name, (before name).cells) ∷ copied test before j (drop (k + 1) names) else copied test before j (drop (k + 1) names))
    (sym (add-one k))

pub copied_took : (test : ℕ → Bool) (before : Blocks) (k : ℕ) (name : BlockName) (b : ReturnedBlock) (done after : List ReturnedBlock) (t : Bool)
    → t ≡ test k → t ≡ true → seen b ≡ (k, name, (before name).cells) → after ≡ done ++ b ∷ []
    → map seen after ≡ map seen done ++ copied test before k (name ∷ [])
copied_took test before k name b done after t is found one added =
    ap (map seen) added ∙ map_one seen done b ∙ ap (λ x. map seen done ++ x ∷ []) one
    ∙ ap (λ (x : Bool). map seen done ++ (if x then (k, name, (before name).cells) ∷ [] else [])) (sym (sym is ∙ found))

pub copied_left : (test : ℕ → Bool) (before : Blocks) (k : ℕ) (name : BlockName) (done : List ReturnedBlock) (t : Bool)
    → t ≡ test k → t ≡ false → map seen done ≡ map seen done ++ copied test before k (name ∷ [])
copied_left test before k name done t is none =
    sym (append-nil (map seen done))
    ∙ ap (λ (x : Bool). map seen done ++ (if x then (k, name, (before name).cells) ∷ [] else [])) (sym (sym is ∙ none))

copied_split : (test : ℕ → Bool) (before : Blocks) (names : List BlockName) (k : ℕ) (name : BlockName) → k < length names → name ≡ get_or names k name
    → copied test before k (drop k names) ≡ copied test before k (name ∷ []) ++ copied test before (k + 1) (drop (k + 1) names)
copied_split test before names k name lt e =
    copied_step test before names k name lt e
    ∙ go (test k) (k, name, (before name).cells) (copied test before (k + 1) (drop (k + 1) names))
  where
    go : (t : Bool) (x : ℕ × BlockName × List Cell) (rest : List (ℕ × BlockName × List Cell))
        → (if t then x ∷ rest else rest) ≡ (if t then x ∷ [] else []) ++ rest
    go true x rest = refl
    go false x rest = refl

pub copied_more : (test : ℕ → Bool) (before : Blocks) (names : List BlockName) (k : ℕ) (name : BlockName) (done after : List ReturnedBlock)
    (whole : List (ℕ × BlockName × List Cell)) → k < length names → name ≡ get_or names k name
    → map seen after ≡ map seen done ++ copied test before k (name ∷ [])
    → map seen done ++ copied test before k (drop k names) ≡ whole
    → map seen after ++ copied test before (k + 1) (drop (k + 1) names) ≡ whole
copied_more test before names k name done after whole lt e one so_far =
    let rest = copied test before (k + 1) (drop (k + 1) names) in
    ap (λ xs. xs ++ rest) one ∙ append_assoc (map seen done) (copied test before k (name ∷ [])) rest
    ∙ ap (λ xs. map seen done ++ xs) (sym (copied_split test before names k name lt e)) ∙ so_far

-- ---- the blocks of a body

pub few_cells : (blocks : List (List (IntType × WireCell))) (k : ℕ) (block : List (IntType × WireCell)) → AllByRecursion IsBlock blocks → k < length blocks
    → block ≡ get_or blocks k block → length block ≤ 65_536
few_cells [] k block h lt e = absurd (omega arith)
few_cells (b ∷ blocks) zero block h lt e = let few = (h.0).1 in let same : length block ≡ length b = ap length e in omega (arith, few, same)
few_cells (b ∷ blocks) (suc k) block h lt e = few_cells blocks k block h.1 (omega arith) e
