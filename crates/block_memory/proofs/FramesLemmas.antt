-- Laws of the locals' blocks, by depth and variable.
use Rattle.std.proofs.Common.{◌≡◌, ◌≢◌, ◌∙◌, ◌+◌, ◌-◌, ◌<◌, ◌≤◌, ◌&&◌, ℕ, add-one, suc, zero, Bool, true, false, nat_eq, nat_lt, if◌then◌else◌, List, [], ◌∷◌, ◌++◌, Result, Ok, Err, OnOk, OnErr, length, take, drop, set, get_or, replicate, slice_range, refl, sym, ap, subst, arith, length-append}
use Rattle.std.proofs.lemmas.List.{append_assoc, drop_at, drop_more, length-take-le, set_at, take-append-drop, take_all, take_more, get_or-set_other, get_or-set_same, get_or-take, get_or_default, get_or_past, length-take}
use Rattle.std.proofs.lemmas.List.Edits.{get_or-between, length-between}
use Rattle.std.proofs.Math.Nat.{sub_self}
use Rattle.std.proofs.lemmas.Bool.Decides.{nat_tests}
use Rattle.std.specs.declared.alloc.AllocError.{AllocError}
use Rattle.block_memory.specs.declared.cell.Cell.{Cell}
use Rattle.block_memory.specs.Block.{Block, no_block}
use Rattle.block_memory.specs.Frames.{frame_at, local_at, IsFreeFrom, SameBelow, SameLocals, SetsFrame, SetsLocal}
use Rattle.block_memory.specs.Pieces.{AreStarts, first_start, pieces}
use Rattle.block_memory.proofs.PiecesLemmas.{AreStarts-take, pieces-take, length-pieces, pieces-set, pieces_at, slice_range-append, slice_range-end, start-le, first_start-le}

slice_range-none : {X : Type 0} (xs : List X) (a : ℕ) → slice_range xs a a ≡ []
slice_range-none xs a = ap (λ n. take n (drop a xs)) (sub_self a)

first_start-pad : (starts : List ℕ) (k end more : ℕ) → first_start (starts ++ replicate (suc k) end) more ≡ first_start starts end
first_start-pad [] k end more = refl
first_start-pad (s ∷ starts) k end more = refl

-- pieces without items
pieces-empty : {X : Type 0} (k : ℕ) (xs ys : List X) → pieces (replicate (suc k) (length xs)) (xs ++ ys) ≡ replicate k [] ++ ys ∷ []
pieces-empty zero xs ys = ap (λ p. p ∷ []) (slice_range-end xs ys)
pieces-empty (suc k) xs ys = ap (λ p. p ∷ pieces (replicate (suc k) (length xs)) (xs ++ ys)) (slice_range-none (xs ++ ys) (length xs)) ∙ ap (λ ps. [] ∷ ps) (pieces-empty k xs ys)

-- some frames without variables are added, and a frame with these
pub pieces-pad : {X : Type 0} (starts : List ℕ) (low k : ℕ) (xs ys : List X) → AreStarts low starts (length xs) → pieces (starts ++ replicate (suc k) (length xs)) (xs ++ ys) ≡ pieces starts xs ++ (replicate k [] ++ ys ∷ [])
pieces-pad [] low k xs ys h = pieces-empty k xs ys
pieces-pad (s ∷ starts) low k xs ys h =
    let first = first_start-le starts s (length xs) h.1 in
    ap (λ n. slice_range (xs ++ ys) s n ∷ pieces (starts ++ replicate (suc k) (length xs)) (xs ++ ys)) (first_start-pad starts k (length xs) (length (xs ++ ys)))
    ∙ ap (λ p. p ∷ pieces (starts ++ replicate (suc k) (length xs)) (xs ++ ys)) (slice_range-append xs ys s (first_start starts (length xs)) first.0 first.1)
    ∙ ap (λ ps. slice_range xs s (first_start starts (length xs)) ∷ ps) (pieces-pad starts s k xs ys h.1)

pub AreStarts-pad : (starts : List ℕ) (low end k more : ℕ) → end ≤ more → AreStarts low starts end → AreStarts low (starts ++ replicate k end) more
AreStarts-pad [] low end zero more le h = omega arith
AreStarts-pad [] low end (suc k) more le h = (h, AreStarts-pad [] end end k more le (omega arith))
AreStarts-pad (s ∷ starts) low end k more le h = (h.0, AreStarts-pad starts s end k more le h.1)

-- the frame that is added stands at the end
padded_same : (frames : List (List Block)) (k depth : ℕ) (variables : List Block) → depth ≡ length frames + k → frame_at (frames ++ (replicate k [] ++ variables ∷ [])) depth ≡ variables
padded_same [] zero zero variables h = refl
padded_same [] zero (suc depth) variables h = absurd (omega arith)
padded_same [] (suc k) zero variables h = absurd (omega arith)
padded_same [] (suc k) (suc depth) variables h = padded_same [] k depth variables (omega arith)
padded_same (f ∷ frames) k zero variables h = absurd (omega arith)
padded_same (f ∷ frames) k (suc depth) variables h = padded_same frames k depth variables (omega arith)

padded_other : (frames : List (List Block)) (k depth d : ℕ) (variables : List Block) → depth ≡ length frames + k → d ≢ depth → frame_at (frames ++ (replicate k [] ++ variables ∷ [])) d ≡ frame_at frames d
padded_other [] zero depth zero variables h ne = absurd (omega arith)
padded_other [] zero depth (suc d) variables h ne = refl
padded_other [] (suc k) depth zero variables h ne = refl
padded_other [] (suc k) zero (suc d) variables h ne = absurd (omega arith)
padded_other [] (suc k) (suc depth) (suc d) variables h ne = padded_other [] k depth d variables (omega arith) (omega arith)
padded_other (f ∷ frames) k depth zero variables h ne = refl
padded_other (f ∷ frames) k zero (suc d) variables h ne = absurd (omega arith)
padded_other (f ∷ frames) k (suc depth) (suc d) variables h ne = padded_other frames k depth d variables (omega arith) (omega arith)

pub SetsFrame-pad : (frames : List (List Block)) (k depth : ℕ) (variables : List Block) → depth ≡ length frames + k → SetsFrame frames (frames ++ (replicate k [] ++ variables ∷ [])) depth variables
SetsFrame-pad frames k depth variables h d v = either (nat_eq d depth) refl
  where
    either : (b : Bool) → nat_eq d depth ≡ b → local_at (frames ++ (replicate k [] ++ variables ∷ [])) d v ≡ (if b then get_or variables v no_block else local_at frames d v)
    either true e =
        let same : d ≡ depth = grind (arith, nat_tests) in
        ap (λ n. local_at (frames ++ (replicate k [] ++ variables ∷ [])) n v) same ∙ ap (λ f. get_or f v no_block) (padded_same frames k depth variables h)
    either false e =
        let ne : d ≢ depth = grind (arith, nat_tests) in ap (λ f. get_or f v no_block) (padded_other frames k depth d variables h ne)

pub kept_below : (frames : List (List Block)) (depth d v : ℕ) → d < depth → local_at (take depth frames) d v ≡ local_at frames d v
kept_below frames depth d v lt = ap (λ f. get_or f v no_block) (get_or-take depth frames d [] lt)

pub kept_past : (frames : List (List Block)) (depth d v : ℕ) → depth ≤ d → local_at (take depth frames) d v ≡ no_block
kept_past frames depth d v le = ap (λ f. get_or f v no_block) (get_or_past (take depth frames) d [] (omega (arith, length-take depth frames)))

-- nothing is lost where nothing is live from there on
pub SameLocals-take : (frames : List (List Block)) (depth : ℕ) → IsFreeFrom depth frames → SameLocals frames (take depth frames)
SameLocals-take frames depth free d v = either (nat_lt d depth) refl
  where
    either : (b : Bool) → nat_lt d depth ≡ b → local_at (take depth frames) d v ≡ local_at frames d v
    either true e = kept_below frames depth d v (grind (arith, nat_tests))
    either false e =
        let le : depth ≤ d = grind (arith, nat_tests) in kept_past frames depth d v le ∙ sym (free d v le)

-- one block of one frame is set
pub SetsLocal-set : (frames : List (List Block)) (depth var : ℕ) (block : Block) → depth < length frames → var < length (frame_at frames depth) → SetsLocal frames (set frames depth (set (frame_at frames depth) var block)) depth var block
SetsLocal-set frames depth var block h within d v = either (nat_eq depth d) (nat_eq var v) refl refl
  where
    either : (b c : Bool) → nat_eq depth d ≡ b → nat_eq var v ≡ c → local_at (set frames depth (set (frame_at frames depth) var block)) d v ≡ (if b && c then block else local_at frames d v)
    either true true e f =
        let d-is : d ≡ depth = grind (arith, nat_tests) in
        let v-is : v ≡ var = grind (arith, nat_tests) in
        ap (λ n. local_at (set frames depth (set (frame_at frames depth) var block)) n v) d-is
        ∙ ap (λ xs. get_or xs v no_block) (get_or-set_same frames depth (set (frame_at frames depth) var block) [] h)
        ∙ ap (λ n. get_or (set (frame_at frames depth) var block) n no_block) v-is
        ∙ get_or-set_same (frame_at frames depth) var block no_block within
    either true false e f =
        let d-is : d ≡ depth = grind (arith, nat_tests) in
        let ne : v ≢ var = grind (arith, nat_tests) in
        ap (λ n. local_at (set frames depth (set (frame_at frames depth) var block)) n v) d-is
        ∙ ap (λ xs. get_or xs v no_block) (get_or-set_same frames depth (set (frame_at frames depth) var block) [] h)
        ∙ get_or-set_other (frame_at frames depth) var v block no_block ne
        ∙ ap (λ n. local_at frames n v) (sym d-is)
    either false c e f =
        let ne : d ≢ depth = grind (arith, nat_tests) in
        ap (λ xs. get_or xs v no_block) (get_or-set_other frames depth d (set (frame_at frames depth) var block) [] ne)

-- where the variables of a frame lie
frame_is : (starts : List ℕ) (blocks : List Block) (depth : ℕ) → depth < length starts → frame_at (pieces starts blocks) depth ≡ slice_range blocks (get_or starts depth 0) (get_or starts (suc depth) (length blocks))
frame_is starts blocks depth lt =
    pieces_at starts blocks depth lt ∙ ap (λ n. slice_range blocks n (get_or starts (suc depth) (length blocks))) (get_or_default starts depth (length blocks) 0 lt)

length-frame : (starts : List ℕ) (blocks : List Block) (depth : ℕ) → depth < length starts → AreStarts 0 starts (length blocks) → length (frame_at (pieces starts blocks) depth) ≡ get_or starts (suc depth) (length blocks) - get_or starts depth 0
length-frame starts blocks depth lt h =
    ap length (frame_is starts blocks depth lt) ∙ length-between blocks (get_or starts depth 0) (get_or starts (suc depth) (length blocks)) (start-le starts 0 (length blocks) (suc depth) h).1

-- where the block of a local lies
pub local_place : (starts : List ℕ) (blocks : List Block) (depth var : ℕ) → depth < length starts → AreStarts 0 starts (length blocks) → get_or starts depth 0 + var < get_or starts (suc depth) (length blocks) → (get_or starts depth 0 + var < length blocks) × (local_at (pieces starts blocks) depth var ≡ get_or blocks (get_or starts depth 0 + var) no_block)
local_place starts blocks depth var lt h before = (
  omega (arith, before, (start-le starts 0 (length blocks) (suc depth) h).1),
  ap (λ f. get_or f var no_block) (frame_is starts blocks depth lt) ∙ get_or-between blocks (get_or starts depth 0) (get_or starts (suc depth) (length blocks)) var no_block before,
)

pub local_past : (starts : List ℕ) (blocks : List Block) (depth var : ℕ) → depth < length starts → AreStarts 0 starts (length blocks) → get_or starts (suc depth) (length blocks) ≤ get_or starts depth 0 + var → local_at (pieces starts blocks) depth var ≡ no_block
local_past starts blocks depth var lt h past =
    get_or_past (frame_at (pieces starts blocks) depth) var no_block (omega (arith, length-frame starts blocks depth lt h))

pub frame_past : (frames : List (List Block)) (depth var : ℕ) → length frames ≤ depth → local_at frames depth var ≡ no_block
frame_past frames depth var le = ap (λ f. get_or f var no_block) (get_or_past frames depth [] le)

-- a local with a cell has a frame
frame_live : (frames : List (List Block)) (depth var i : ℕ) → i < length (local_at frames depth var).cells → depth < length frames
frame_live frames depth var i within = either (nat_lt depth (length frames)) refl
  where
    either : (b : Bool) → nat_lt depth (length frames) ≡ b → depth < length frames
    either true e = grind (arith, nat_tests)
    either false e =
        let le : length frames ≤ depth = grind (arith, nat_tests) in
        absurd (omega (arith, subst (λ (b : Block). i < length b.cells) (frame_past frames depth var le) within))

var_live : (frames : List (List Block)) (depth var i : ℕ) → i < length (local_at frames depth var).cells → var < length (frame_at frames depth)
var_live frames depth var i within = either (nat_lt var (length (frame_at frames depth))) refl
  where
    either : (b : Bool) → nat_lt var (length (frame_at frames depth)) ≡ b → var < length (frame_at frames depth)
    either true e = grind (arith, nat_tests)
    either false e =
        let le : length (frame_at frames depth) ≤ var = grind (arith, nat_tests) in
        absurd (omega (arith, subst (λ (b : Block). i < length b.cells) (get_or_past (frame_at frames depth) var no_block le) within))

pub place_some : (starts : List ℕ) (blocks : List Block) (count depth var end : ℕ) → AreStarts 0 starts count → length blocks ≡ count → depth < length starts → end ≡ get_or starts (depth + 1) count → get_or starts depth 0 + var < end → (get_or starts depth 0 + var < count) × (local_at (pieces starts blocks) depth var ≡ get_or blocks (get_or starts depth 0 + var) no_block)
place_some starts blocks count depth var end h same lt is before =
    let end-is : end ≡ get_or starts (suc depth) (length blocks) = is ∙ ap (λ k. get_or starts k count) (add-one depth) ∙ ap (get_or starts (suc depth)) (sym same) in
    let place = local_place starts blocks depth var lt (subst (AreStarts 0 starts) (sym same) h) (omega (arith, end-is)) in
    (omega (arith, place.0), place.1)

pub place_none : (starts : List ℕ) (blocks : List Block) (count depth var end : ℕ) → AreStarts 0 starts count → length blocks ≡ count → depth < length starts → end ≡ get_or starts (depth + 1) count → end ≤ get_or starts depth 0 + var → local_at (pieces starts blocks) depth var ≡ no_block
place_none starts blocks count depth var end h same lt is past =
    let end-is : end ≡ get_or starts (suc depth) (length blocks) = is ∙ ap (λ k. get_or starts k count) (add-one depth) ∙ ap (get_or starts (suc depth)) (sym same) in
    local_past starts blocks depth var lt (subst (AreStarts 0 starts) (sym same) h) (omega (arith, end-is))

-- The same, of the frames f that the blocks are.

pub frames-count : (starts : List ℕ) (blocks : List Block) (f : List (List Block)) → pieces starts blocks ≡ f → length f ≡ length starts
frames-count starts blocks f view = ap length (sym view) ∙ length-pieces starts blocks

pub frame_in : (starts : List ℕ) (blocks : List Block) (f : List (List Block)) (depth var i : ℕ) → pieces starts blocks ≡ f → i < length (local_at f depth var).cells → depth < length starts
frame_in starts blocks f depth var i view within = omega (arith, frames-count starts blocks f view, frame_live f depth var i within)

pub local_in : (starts : List ℕ) (blocks : List Block) (f : List (List Block)) (depth var i at : ℕ) → pieces starts blocks ≡ f → AreStarts 0 starts (length blocks) → i < length (local_at f depth var).cells → at ≡ get_or starts depth at → (at + var < length blocks) × (local_at f depth var ≡ get_or blocks (at + var) no_block)
local_in starts blocks f depth var i at view h within read =
    let P : ℕ → List (List Block) → Type 0 = λ n g. (n + var < length blocks) × (local_at g depth var ≡ get_or blocks (n + var) no_block) in
    let lt = frame_in starts blocks f depth var i view within in
    let inside : i < length (local_at (pieces starts blocks) depth var).cells = subst (λ g. i < length (local_at g depth var).cells) (sym view) within in
    let long = length-frame starts blocks depth lt h in
    let live = var_live (pieces starts blocks) depth var i inside in
    let place = local_place starts blocks depth var lt h (omega (arith, long, live)) in
    subst (P at) view (subst (λ n. P n (pieces starts blocks)) (get_or_default starts depth 0 at lt ∙ sym read) place)

pub local_written : (starts : List ℕ) (blocks blocks' : List Block) (f : List (List Block)) (depth var i at : ℕ) (b : Block) → pieces starts blocks ≡ f → AreStarts 0 starts (length blocks) → i < length (local_at f depth var).cells → at ≡ get_or starts depth at → blocks' ≡ set blocks (at + var) b → SetsLocal f (pieces starts blocks') depth var b
local_written starts blocks blocks' f depth var i at b view h within read new =
    let lt = frame_in starts blocks f depth var i view within in
    let inside : i < length (local_at (pieces starts blocks) depth var).cells = subst (λ g. i < length (local_at g depth var).cells) (sym view) within in
    let live = var_live (pieces starts blocks) depth var i inside in
    let from : get_or starts depth (length blocks) ≡ at = get_or_default starts depth (length blocks) at lt ∙ sym read in
    let from0 : get_or starts depth 0 ≡ at = get_or_default starts depth 0 at lt ∙ sym read in
    let before : get_or starts depth (length blocks) + var < get_or starts (suc depth) (length blocks) = omega (arith, length-frame starts blocks depth lt h, live, from, from0) in
    let value : pieces starts blocks' ≡ set (pieces starts blocks) depth (set (frame_at (pieces starts blocks) depth) var b) =
    ap (pieces starts) (new ∙ ap (λ n. set blocks (n + var) b) (sym from)) ∙ pieces-set starts 0 blocks depth var b h lt before
    in
    subst (λ g. SetsLocal g (pieces starts blocks') depth var b) view (subst (λ g. SetsLocal (pieces starts blocks) g depth var b) (sym value) (SetsLocal-set (pieces starts blocks) depth var b (omega (arith, length-pieces starts blocks)) live))

-- frames that are cut
pub frames_kept : (starts : List ℕ) (blocks : List Block) (f : List (List Block)) (depth at : ℕ) → pieces starts blocks ≡ f → AreStarts 0 starts (length blocks) → depth < length starts → at ≡ get_or starts depth at → pieces (take depth starts) (take at blocks) ≡ take depth f
frames_kept starts blocks f depth at view h lt read =
    ap (λ n. pieces (take depth starts) (take n blocks)) (read ∙ get_or_default starts depth at (length blocks) lt)
    ∙ pieces-take starts 0 blocks depth h
    ∙ ap (take depth) view

pub AreStarts-kept : (starts : List ℕ) (blocks : List Block) (depth at : ℕ) → AreStarts 0 starts (length blocks) → depth < length starts → at ≡ get_or starts depth at → AreStarts 0 (take depth starts) (length (take at blocks))
AreStarts-kept starts blocks depth at h lt read =
    let from : at ≡ get_or starts depth (length blocks) = read ∙ get_or_default starts depth at (length blocks) lt in
    let within : at ≤ length blocks = omega (arith, from, (start-le starts 0 (length blocks) depth h).1) in
    rw (length-take-le at blocks within) (subst (AreStarts 0 (take depth starts)) (sym from) (AreStarts-take starts 0 (length blocks) depth h))

-- a frame that is added
pub padded : (starts starts' : List ℕ) (depth m n : ℕ) → starts' ≡ take (depth + 1) starts ++ replicate (depth + 1 - m) n → m ≡ length starts → length starts ≤ depth → starts' ≡ starts ++ replicate (suc (depth - length starts)) n
padded starts starts' depth m n new same le =
    let more : depth + 1 - m ≡ suc (depth - length starts) = omega arith in
    new ∙ ap (λ xs. xs ++ replicate (depth + 1 - m) n) (take_all (depth + 1) starts (omega arith)) ∙ ap (λ k. starts ++ replicate k n) more

pub prefixed : (r : Result (Unit {0}) AllocError) (blocks blocks' ys : List Block) → OnOk r (blocks' ≡ blocks ++ ys) → OnErr r (take (length blocks) blocks' ≡ blocks) → blocks' ≡ blocks ++ drop (length blocks) blocks'
prefixed (Ok x) blocks blocks' ys ok err = ok ∙ ap (λ zs. blocks ++ zs) (sym (drop_at blocks ys (length blocks) refl)) ∙ ap (λ zs. blocks ++ drop (length blocks) zs) (sym ok)
prefixed (Err e) blocks blocks' ys ok err = sym (take-append-drop (length blocks) blocks') ∙ ap (λ zs. zs ++ drop (length blocks) blocks') err

pub AreStarts-added : (starts starts' : List ℕ) (blocks blocks' ys : List Block) (k : ℕ) → AreStarts 0 starts (length blocks) → starts' ≡ starts ++ replicate k (length blocks) → blocks' ≡ blocks ++ ys → AreStarts 0 starts' (length blocks')
AreStarts-added starts starts' blocks blocks' ys k h new more =
    rw (new, more) (AreStarts-pad starts 0 (length blocks) k (length (blocks ++ ys)) (omega (arith, length-append blocks ys)) h)

pub SetsFrame-added : (starts starts' : List ℕ) (blocks blocks' ys : List Block) (f : List (List Block)) (depth : ℕ) → pieces starts blocks ≡ f → AreStarts 0 starts (length blocks) → length starts ≤ depth → starts' ≡ starts ++ replicate (suc (depth - length starts)) (length blocks) → blocks' ≡ blocks ++ ys → SetsFrame f (pieces starts' blocks') depth ys
SetsFrame-added starts starts' blocks blocks' ys f depth view h le new more =
    let k = depth - length starts in
    let value : pieces starts' blocks' ≡ pieces starts blocks ++ (replicate k [] ++ ys ∷ []) =
    ap (λ xs. pieces xs blocks') new ∙ ap (pieces (starts ++ replicate (suc k) (length blocks))) more ∙ pieces-pad starts 0 k blocks ys h
    in
    subst (λ g. SetsFrame g (pieces starts' blocks') depth ys) view (subst (λ g. SetsFrame (pieces starts blocks) g depth ys) (sym value) (SetsFrame-pad (pieces starts blocks) k depth ys (omega (arith, length-pieces starts blocks))))

pub OnOk-added : (r : Result (Unit {0}) AllocError) (starts starts' : List ℕ) (blocks blocks' ys : List Block) (f : List (List Block)) (depth : ℕ) → pieces starts blocks ≡ f → AreStarts 0 starts (length blocks) → length starts ≤ depth → starts' ≡ starts ++ replicate (suc (depth - length starts)) (length blocks) → OnOk r (blocks' ≡ blocks ++ ys) → OnOk r (SetsFrame f (pieces starts' blocks') depth ys)
OnOk-added (Ok x) starts starts' blocks blocks' ys f depth view h le new more = SetsFrame-added starts starts' blocks blocks' ys f depth view h le new more
OnOk-added (Err e) starts starts' blocks blocks' ys f depth view h le new more = tt

pub SameBelow-of_SetsFrame : (old new : List (List Block)) (depth : ℕ) (ys : List Block) → SetsFrame old new depth ys → SameBelow old new depth
SameBelow-of_SetsFrame old new depth ys sets d v lt = sets d v ∙ other (nat_eq d depth) refl
  where
    other : (b : Bool) → nat_eq d depth ≡ b → (if b then get_or ys v no_block else local_at old d v) ≡ local_at old d v
    other true e =
        let same : d ≡ depth = grind (arith, nat_tests) in absurd (omega arith)
    other false e = refl

-- One local, set again and again.

pub SetsLocal-same : (frames : List (List Block)) (depth var : ℕ) → SetsLocal frames frames depth var (local_at frames depth var)
SetsLocal-same frames depth var d v = either (nat_eq depth d) (nat_eq var v) refl refl
  where
    either : (b c : Bool) → nat_eq depth d ≡ b → nat_eq var v ≡ c → local_at frames d v ≡ (if b && c then local_at frames depth var else local_at frames d v)
    either true true e f =
        let d-is : d ≡ depth = grind (arith, nat_tests) in
        let v-is : v ≡ var = grind (arith, nat_tests) in
        ap (λ n. local_at frames n v) d-is ∙ ap (local_at frames depth) v-is
    either true false e f = refl
    either false c e f = refl

pub SetsLocal_at : (old new : List (List Block)) (depth var : ℕ) (b : Block) → SetsLocal old new depth var b → local_at new depth var ≡ b
SetsLocal_at old new depth var b sets =
    let same-depth : nat_eq depth depth ≡ true = grind (arith, nat_tests) in
    let same-var : nat_eq var var ≡ true = grind (arith, nat_tests) in
    sets depth var ∙ ap (λ (t : Bool). if t && nat_eq var var then b else local_at old depth var) same-depth ∙ ap (λ (t : Bool). if t then b else local_at old depth var) same-var

pub SetsLocal-again : (old mid new : List (List Block)) (depth var : ℕ) (a b : Block) → SetsLocal old mid depth var a → SetsLocal mid new depth var b → SetsLocal old new depth var b
SetsLocal-again old mid new depth var a b first second d v =
    second d v ∙ ap (λ x. if nat_eq depth d && nat_eq var v then b else x) (first d v) ∙ either (nat_eq depth d && nat_eq var v)
  where
    either : (t : Bool) → (if t then b else (if t then a else local_at old d v)) ≡ (if t then b else local_at old d v)
    either true = refl
    either false = refl

-- one cell more is put
pub cells_put : (cells old : List Cell) (i : ℕ) (x : Cell) → i < length cells → length cells ≡ length old → x ≡ get_or cells i x → set (take i cells ++ drop i old) i x ≡ take (i + 1) cells ++ drop (i + 1) old
cells_put cells old i x lt same read =
    ap (λ xs. set (take i cells ++ xs) i x) (drop_more old i x (omega arith))
    ∙ set_at (take i cells) (get_or old i x) (drop (i + 1) old) x i (length-take-le i cells (omega arith))
    ∙ sym (append_assoc (take i cells) (x ∷ []) (drop (i + 1) old))
    ∙ ap (λ y. (take i cells ++ y ∷ []) ++ drop (i + 1) old) read
    ∙ ap (λ xs. xs ++ drop (i + 1) old) (sym (take_more cells i x lt))
