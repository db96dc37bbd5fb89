-- What is seen of changed memories.
use Rattle.std.proofs.Common.{◌≡◌, ◌∙◌, ◌+◌, ◌<◌, ◌≤◌, ℕ, zero, suc, pos, List, [], ◌∷◌, map, get_or, replicate, length, refl, sym, ap, subst, arith, Bool, true, false, nat_eq, nat_lt, if◌then◌else◌, Option, Some, None}
use Rattle.std.specs.Prelude.{drop, not, slice_set, take}
use Rattle.std.specs.Option.{option_map}
use Rattle.std.proofs.lemmas.Bool.{eqb-true, ltb-false, lt-ltb}
use Rattle.pt_base.proofs.Booleans.{same_truth}
use Rattle.pt_base.proofs.Options.{some_not_none, some_same}
use Rattle.block_memory.specs.declared.cell.Cell.{Cell}
use Rattle.block_memory.specs.declared.cell.Cell.TheVariants as cell
use Rattle.block_memory.specs.declared.cell.BlockName.{BlockName}
use Rattle.block_memory.specs.declared.cell.BlockName.TheVariants.{Local, Global, Received}
use Rattle.block_memory.specs.declared.shape.BlockShape.{BlockShape}
use Rattle.block_memory.specs.declared.shape.BlockShape.TheVariants.{OnePointer, Ints}
use Rattle.block_memory.specs.Block.{Block, fresh, no_block, with_cell}
use Rattle.block_memory.specs.Blocks.{Blocks, is_same_name, put, with_frame, without_frames}
use Rattle.block_memory.proofs.BlocksLemmas.{is_same_name-self, same_name}
use Rattle.pt_core.specs.CodeTree.{ProgramTree}
use Rattle.pt_core.specs.Calls.{with_arguments}
use Rattle.pt_core.specs.Statements.{kept}
use Rattle.pt_core.specs.Values.{all_written, written}
use Rattle.part_views_law.specs.Views.{IsView, Lies, View, lying, seen, seen_block, seen_cell}

pub never_both : (b : Bool) {A : Type 0} → b ≡ true → b ≡ false → A
never_both true p q = cc
never_both false p q = cc

-- ---- names

is_same : (name other : BlockName) → name ≡ other → is_same_name name other ≡ true
is_same name other e = subst (λ o. is_same_name name o ≡ true) e (is_same_name-self name)

-- blocks that lie somewhere are told apart there
pub same_at : (v : View) (b b' : BlockName) → Lies v b → Lies v b' → is_same_name (v.at b) (v.at b') ≡ is_same_name b b'
same_at v b b' lies lies' =
    same_truth (is_same_name (v.at b) (v.at b')) (is_same_name b b')
    (λ h. is_same b b' (some_same b b' (sym lies ∙ ap v.of (same_name (v.at b) (v.at b') h) ∙ lies')))
    (λ h. is_same (v.at b) (v.at b') (ap v.at (same_name b b' h)))

-- ---- cells

pub got_seen : (v : View) (cells : List Cell) (i : ℕ) → get_or (map (seen_cell v) cells) i (cell.Int (pos 0)) ≡ seen_cell v (get_or cells i (cell.Int (pos 0)))
got_seen v [] i = refl
got_seen v (c ∷ cells) zero = refl
got_seen v (c ∷ cells) (suc i) = got_seen v cells i

set_seen : (v : View) (cells : List Cell) (i : ℕ) (c : Cell) → slice_set (map (seen_cell v) cells) i (seen_cell v c) ≡ map (seen_cell v) (slice_set cells i c)
set_seen v [] i c = refl
set_seen v (d ∷ cells) zero c = refl
set_seen v (d ∷ cells) (suc i) c = ap (λ ds. seen_cell v d ∷ ds) (set_seen v cells i c)

pub cell_set : (v : View) (b : Block) (i : ℕ) (c : Cell) → with_cell (seen_block v b) i (seen_cell v c) ≡ seen_block v (with_cell b i c)
cell_set v b i c = ap (λ (cells : List Cell). record { types = b.types; cells = cells }) (set_seen v b.cells i c)

pub dropped_seen : (v : View) (n : ℕ) (cells : List Cell) → drop n (map (seen_cell v) cells) ≡ map (seen_cell v) (drop n cells)
dropped_seen v zero cells = refl
dropped_seen v (suc n) [] = refl
dropped_seen v (suc n) (c ∷ cells) = dropped_seen v n cells

pub taken_seen : (v : View) (n : ℕ) (cells : List Cell) → take n (map (seen_cell v) cells) ≡ map (seen_cell v) (take n cells)
taken_seen v zero cells = refl
taken_seen v (suc n) [] = refl
taken_seen v (suc n) (c ∷ cells) = ap (λ cs. seen_cell v c ∷ cs) (taken_seen v n cells)

zeros_seen : (v : View) (n : ℕ) → map (seen_cell v) (replicate n (cell.Int (pos 0))) ≡ replicate n (cell.Int (pos 0))
zeros_seen v zero = refl
zeros_seen v (suc n) = ap (λ cs. cell.Int (pos 0) ∷ cs) (zeros_seen v n)

pub fresh_seen : (v : View) (shape : BlockShape) → seen_block v (fresh shape) ≡ fresh shape
fresh_seen v OnePointer = refl
fresh_seen v (Ints types) = ap (λ (cells : List Cell). record { types = types; cells = cells }) (zeros_seen v (length types))

-- ---- changes

abbrev pub changed : (BlockName → Bool) → Blocks → Blocks → Blocks
changed hit new blocks = λ name. if hit name then new name else blocks name

pub changed_seen : (v : View) (hit hit' : BlockName → Bool) (new new' blocks : Blocks) →
    ((name b : BlockName) → v.of name ≡ Some b → (hit' name ≡ hit b) × (hit b ≡ true → new' name ≡ seen_block v (new b))) →
    ((name : BlockName) → v.of name ≡ None → hit' name ≡ false) →
    changed hit' new' (seen v blocks) ≡ seen v (changed hit new blocks)
changed_seen v hit hit' new new' blocks lain beside = λ i name. at name (v.of name) refl i
  where
    both : (t : Bool) (b name : BlockName) → (t ≡ true → new' name ≡ seen_block v (new b)) → (if t then new' name else seen_block v (blocks b)) ≡ seen_block v (if t then new b else blocks b)
    both true b name h = h refl
    both false b name h = refl

    at : (name : BlockName) (o : Option BlockName) → v.of name ≡ o → (if hit' name then new' name else lying v blocks name o) ≡ lying v (changed hit new blocks) name o
    at name None e = ap (λ (t : Bool). if t then new' name else v.beside name) (beside name e)
    at name (Some b) e =
        let l = lain name b e in
        ap (λ (t : Bool). if t then new' name else seen_block v (blocks b)) l.0 ∙ both (hit b) b name l.1

-- ---- a block is put, and a cell is written

-- what is seen of a block that lies somewhere
pub block_seen : (v : View) (blocks : Blocks) (b : BlockName) → Lies v b → seen v blocks (v.at b) ≡ seen_block v (blocks b)
block_seen v blocks b lies = ap (λ o. lying v blocks (v.at b) o) lies

pub put_seen : (v : View) (base : ℕ) (part : ProgramTree) → IsView v base part → (blocks : Blocks) (b : BlockName) (block : Block) → Lies v b → put (seen v blocks) (v.at b) (seen_block v block) ≡ seen v (put blocks b block)
put_seen v base part view blocks b block lies =
    changed_seen v (is_same_name b) (is_same_name (v.at b)) (λ _. block) (λ _. seen_block v block) blocks
    (λ name b' e.
    let there : v.at b' ≡ name = view.back name b' e in
    (subst (λ o. is_same_name (v.at b) o ≡ is_same_name b b') there (same_at v b b' lies (subst (λ o. v.of o ≡ Some b') (sym there) e)), λ _. refl))
    (λ name e. other name e (is_same_name (v.at b) name) refl)
  where
    other : (name : BlockName) → v.of name ≡ None → (t : Bool) → is_same_name (v.at b) name ≡ t → t ≡ false
    other name e true h = some_not_none b (sym lies ∙ ap v.of (same_name (v.at b) name h) ∙ e)
    other name e false h = refl

pub written_seen : (v : View) (base : ℕ) (part : ProgramTree) → IsView v base part → (blocks : Blocks) (b : BlockName) (i : ℕ) (c : Cell) → Lies v b → written (seen v blocks) (v.at b) i (seen_cell v c) ≡ seen v (written blocks b i c)
written_seen v base part view blocks b i c lies =
    ap (λ (block : Block). put (seen v blocks) (v.at b) block) (ap (λ (block : Block). with_cell block i (seen_cell v c)) (block_seen v blocks b lies) ∙ cell_set v (blocks b) i c)
    ∙ put_seen v base part view blocks b (with_cell (blocks b) i c) lies

pub all_written_seen : (v : View) (base : ℕ) (part : ProgramTree) → IsView v base part → (blocks : Blocks) (b : BlockName) (i : ℕ) (cells : List Cell) → Lies v b → all_written (seen v blocks) (v.at b) i (map (seen_cell v) cells) ≡ seen v (all_written blocks b i cells)
all_written_seen v base part view blocks b i [] lies = refl
all_written_seen v base part view blocks b i (c ∷ cells) lies =
    ap (λ (bs : Blocks). all_written bs (v.at b) (i + 1) (map (seen_cell v) cells)) (written_seen v base part view blocks b i c lies)
    ∙ all_written_seen v base part view (written blocks b i c) b (i + 1) cells lies

-- ---- locals of the part's own functions

pub local_own : (v : View) (base : ℕ) (part : ProgramTree) → IsView v base part → (depth k : ℕ) → base < depth → (v.at (Local depth k) ≡ Local depth k) × (v.of (Local depth k) ≡ Some (Local depth k))
local_own v base part view depth k above = view.own (Local depth k) (lt-ltb base depth above)

pub local_lies : (v : View) (base : ℕ) (part : ProgramTree) → IsView v base part → (depth k : ℕ) → base < depth → Lies v (Local depth k)
local_lies v base part view depth k above =
    let own = local_own v base part view depth k above in
    ap v.of own.0 ∙ own.1

pub local_put : (v : View) (base : ℕ) (part : ProgramTree) → IsView v base part → (blocks : Blocks) (depth k : ℕ) (block : Block) → base < depth → put (seen v blocks) (Local depth k) (seen_block v block) ≡ seen v (put blocks (Local depth k) block)
local_put v base part view blocks depth k block above =
    let own = local_own v base part view depth k above in
    ap (λ b. put (seen v blocks) b (seen_block v block)) (sym own.0) ∙ put_seen v base part view blocks (Local depth k) block (local_lies v base part view depth k above)

pub local_written : (v : View) (base : ℕ) (part : ProgramTree) → IsView v base part → (blocks : Blocks) (depth k : ℕ) (c : Cell) → base < depth → written (seen v blocks) (Local depth k) 0 (seen_cell v c) ≡ seen v (written blocks (Local depth k) 0 c)
local_written v base part view blocks depth k c above =
    let own = local_own v base part view depth k above in
    ap (λ b. written (seen v blocks) b 0 (seen_cell v c)) (sym own.0) ∙ written_seen v base part view blocks (Local depth k) 0 c (local_lies v base part view depth k above)

pub arguments_seen : (v : View) (base : ℕ) (part : ProgramTree) → IsView v base part → (blocks : Blocks) (depth k : ℕ) (args : List Cell) → base < depth → with_arguments (seen v blocks) depth k (map (seen_cell v) args) ≡ seen v (with_arguments blocks depth k args)
arguments_seen v base part view blocks depth k [] above = refl
arguments_seen v base part view blocks depth k (c ∷ cs) above =
    ap (λ (bs : Blocks). with_arguments bs depth (k + 1) (map (seen_cell v) cs)) (local_written v base part view blocks depth k c above)
    ∙ arguments_seen v base part view (written blocks (Local depth k) 0 c) depth (k + 1) cs above

pub kept_seen : (v : View) (base : ℕ) (part : ProgramTree) → IsView v base part → (blocks : Blocks) (depth : ℕ) (result : Option ℕ) (o : Option Cell) → base < depth → kept depth result (option_map (seen_cell v) o) (seen v blocks) ≡ seen v (kept depth result o blocks)
kept_seen v base part view blocks depth None o above = refl
kept_seen v base part view blocks depth (Some k) None above = local_written v base part view blocks depth k (cell.Int (pos 0)) above
kept_seen v base part view blocks depth (Some k) (Some c) above = local_written v base part view blocks depth k c above

-- ---- frames

abbrev is_deep : ℕ → BlockName → Bool
is_deep base (Local d k) = nat_lt base d
is_deep base (Global g) = false
is_deep base (Received n) = false

deep_own : (v : View) (base : ℕ) (part : ProgramTree) → IsView v base part → (name : BlockName) → is_deep base name ≡ true → (v.at name ≡ name) × (v.of name ≡ Some name)
deep_own v base part view (Local d k) h = view.own (Local d k) h
deep_own v base part view (Global g) h = cc
deep_own v base part view (Received n) h = cc

-- a change among the locals of the part's own functions
deep_seen : (v : View) (base : ℕ) (part : ProgramTree) → IsView v base part → (hit : BlockName → Bool) (new blocks : Blocks) → ((name : BlockName) → hit name ≡ true → is_deep base name ≡ true) → ((name : BlockName) → new name ≡ seen_block v (new name)) →
    changed hit new (seen v blocks) ≡ seen v (changed hit new blocks)
deep_seen v base part view hit new blocks deep plain =
    changed_seen v hit hit new new blocks
    (λ name b e. (same_truth (hit name) (hit b) (λ h. subst (λ o. hit o ≡ true) (down name b e h) h) (λ h. subst (λ o. hit o ≡ true) (up name b e h) h), λ h. ap new (sym (up name b e h)) ∙ plain b))
    (λ name e. out name e (hit name) refl)
  where
    down : (name b : BlockName) → v.of name ≡ Some b → hit name ≡ true → name ≡ b
    down name b e h = some_same name b (sym (deep_own v base part view name (deep name h)).1 ∙ e)

    up : (name b : BlockName) → v.of name ≡ Some b → hit b ≡ true → b ≡ name
    up name b e h = sym (deep_own v base part view b (deep b h)).0 ∙ view.back name b e

    out : (name : BlockName) → v.of name ≡ None → (t : Bool) → hit name ≡ t → t ≡ false
    out name e true h = some_not_none name (sym (deep_own v base part view name (deep name h)).1 ∙ e)
    out name e false h = refl

abbrev at_depth : ℕ → BlockName → Bool
at_depth depth (Local d k) = nat_eq d depth
at_depth depth (Global g) = false
at_depth depth (Received n) = false

abbrev from_depth : ℕ → BlockName → Bool
from_depth depth (Local d k) = not (nat_lt d depth)
from_depth depth (Global g) = false
from_depth depth (Received n) = false

abbrev fresh_blocks : List BlockShape → Blocks
fresh_blocks shapes (Local d k) = get_or (map fresh shapes) k no_block
fresh_blocks shapes (Global g) = no_block
fresh_blocks shapes (Received n) = no_block

framed : (blocks : Blocks) (depth : ℕ) (shapes : List BlockShape) → with_frame blocks depth shapes ≡ changed (at_depth depth) (fresh_blocks shapes) blocks
framed blocks depth shapes = λ i name. at name i
  where
    at : (name : BlockName) → with_frame blocks depth shapes name ≡ changed (at_depth depth) (fresh_blocks shapes) blocks name
    at (Local d k) = refl
    at (Global g) = refl
    at (Received n) = refl

freed : (blocks : Blocks) (depth : ℕ) → without_frames blocks depth ≡ changed (from_depth depth) (λ _. no_block) blocks
freed blocks depth = λ i name. at name i
  where
    turn : (t : Bool) (block : Block) → (if t then block else no_block) ≡ (if not t then no_block else block)
    turn true block = refl
    turn false block = refl

    at : (name : BlockName) → without_frames blocks depth name ≡ changed (from_depth depth) (λ _. no_block) blocks name
    at (Local d k) = turn (nat_lt d depth) (blocks (Local d k))
    at (Global g) = refl
    at (Received n) = refl

shapes_plain : (v : View) (shapes : List BlockShape) (k : ℕ) → get_or (map fresh shapes) k no_block ≡ seen_block v (get_or (map fresh shapes) k no_block)
shapes_plain v [] k = refl
shapes_plain v (shape ∷ shapes) zero = sym (fresh_seen v shape)
shapes_plain v (shape ∷ shapes) (suc k) = shapes_plain v shapes k

blocks_plain : (v : View) (shapes : List BlockShape) (name : BlockName) → fresh_blocks shapes name ≡ seen_block v (fresh_blocks shapes name)
blocks_plain v shapes (Local d k) = shapes_plain v shapes k
blocks_plain v shapes (Global g) = refl
blocks_plain v shapes (Received n) = refl

at_deep : (base depth : ℕ) → base < depth → (name : BlockName) → at_depth depth name ≡ true → is_deep base name ≡ true
at_deep base depth above (Local d k) h = let same : d ≡ depth = eqb-true d depth h in lt-ltb base d (omega arith)
at_deep base depth above (Global g) h = cc
at_deep base depth above (Received n) h = cc

from_deep : (base depth : ℕ) → base < depth → (name : BlockName) → from_depth depth name ≡ true → is_deep base name ≡ true
from_deep base depth above (Local d k) h = go (nat_lt d depth) refl h
  where
    go : (t : Bool) → nat_lt d depth ≡ t → not t ≡ true → nat_lt base d ≡ true
    go true e h' = cc
    go false e h' = let le : depth ≤ d = ltb-false d depth e in lt-ltb base d (omega arith)
from_deep base depth above (Global g) h = cc
from_deep base depth above (Received n) h = cc

pub frame_seen : (v : View) (base : ℕ) (part : ProgramTree) → IsView v base part → (blocks : Blocks) (depth : ℕ) (shapes : List BlockShape) → base < depth → with_frame (seen v blocks) depth shapes ≡ seen v (with_frame blocks depth shapes)
frame_seen v base part view blocks depth shapes above =
    framed (seen v blocks) depth shapes
    ∙ deep_seen v base part view (at_depth depth) (fresh_blocks shapes) blocks (at_deep base depth above) (blocks_plain v shapes)
    ∙ ap (seen v) (sym (framed blocks depth shapes))

pub freed_seen : (v : View) (base : ℕ) (part : ProgramTree) → IsView v base part → (blocks : Blocks) (depth : ℕ) → base < depth → without_frames (seen v blocks) depth ≡ seen v (without_frames blocks depth)
freed_seen v base part view blocks depth above =
    freed (seen v blocks) depth
    ∙ deep_seen v base part view (from_depth depth) (λ _. no_block) blocks (from_deep base depth above) (λ _. refl)
    ∙ ap (seen v) (sym (freed blocks depth))
