-- Steps of the walk over what comes back.
use Rattle.std.proofs.Common.{◌≡◌, ◌+◌, ◌++◌, ◌∙◌, sym, ap, refl, ℕ, ℤ, zero, suc, List, [], ◌∷◌, length, drop, get_or, map, arith, add-one, append_assoc, length-append, subst, Option, Some, None}
use Rattle.std.specs.Prelude.{◌<◌, ◌||◌, if◌then◌else◌, Bool, true, false, nat_eq, option_to_list, slice_get}
use Rattle.std.proofs.lemmas.List.{append-nil, length-map}
use Rattle.pt_base.specs.declared.int_type.IntType.{IntType}
use Rattle.pt_base.proofs.Places.{drop_step_at}
use Rattle.pt_tree.specs.declared.signature.Signature.{Signature}
use Rattle.block_memory.specs.declared.cell.Cell.{Cell}
use Rattle.block_memory.specs.declared.cell.BlockName.TheVariants.{Received}
use Rattle.block_memory.specs.Blocks.{Blocks}
use Rattle.wire.specs.declared.cell.WireCell.{WireCell}
use Rattle.wire.specs.declared.message.ReplyBody.{ReplyBody}
use Rattle.marshalling.specs.declared.crossing.Crossing.{Crossing}
use Rattle.marshalling.specs.declared.crossing.Crossing.TheVariants.{Stays, Plain, Sealed}
use Rattle.marshalling.specs.declared.range.Range.{Range}
use Rattle.marshalling.specs.Crossings.{range_crossing, stronger}
use Rattle.marshalling.specs.Handles.{Entries}
use Rattle.marshalling.specs.Ranges.{crossing_among}
use Rattle.marshalling.specs.Returns.{is_ranged}
use Rattle.marshalling.specs.Replies.{AreServed, HoldNumbers, HoldsNumber, IsResult, Place, block_types, kept, kept_by, next_after, next_by, number_in, places_from, places_of, received, reply_of, result_places, sent, sent_by, types_of}
use Rattle.marshalling.proofs.Lists.{at_drop, at_drops}

-- the reply of these parts
abbrev pub reply_with : Option WireCell → List WireCell → ReplyBody
reply_with result cells = record { result = result; cells = cells }

-- ---- handles

-- the store has a value more for each handle
pub length-kept_by : (w : Crossing) (t : IntType) (v : ℤ) (store : Entries) → length (store ++ kept_by w t v) ≡ next_by w (length store)
length-kept_by Stays t v store = ap length (append-nil store)
length-kept_by Plain t v store = ap length (append-nil store)
length-kept_by Sealed t v store = length-append store ((t, v) ∷ []) ∙ add-one (length store)

pub length-kept : (places : List Place) (values : List ℤ) (store : Entries) → length places ≡ length values
    → length (store ++ kept places values) ≡ next_after (length store) places
length-kept [] values store h = ap length (append-nil store)
length-kept (p ∷ places) [] store h = absurd (omega arith)
length-kept (p ∷ places) (v ∷ values) store h =
    ap length (sym (append_assoc store (kept_by p.way p.ty v) (kept places values)))
    ∙ length-kept places values (store ++ kept_by p.way p.ty v) (omega arith)
    ∙ ap (λ n. next_after n places) (length-kept_by p.way p.ty v store)

-- ---- one part after another

pub sent-append : (handle : ℕ) (ps qs : List Place) (vs ws : List ℤ) → length ps ≡ length vs
    → sent handle (ps ++ qs) (vs ++ ws) ≡ sent handle ps vs ++ sent (next_after handle ps) qs ws
sent-append handle [] qs [] ws h = refl
sent-append handle [] qs (v ∷ vs) ws h = absurd (omega arith)
sent-append handle (p ∷ ps) qs [] ws h = absurd (omega arith)
sent-append handle (p ∷ ps) qs (v ∷ vs) ws h =
    ap (λ xs. sent_by p.way handle v ++ xs) (sent-append (next_by p.way handle) ps qs vs ws (omega arith))
    ∙ sym (append_assoc (sent_by p.way handle v) (sent (next_by p.way handle) ps vs) (sent (next_after (next_by p.way handle) ps) qs ws))

pub kept-append : (ps qs : List Place) (vs ws : List ℤ) → length ps ≡ length vs → kept (ps ++ qs) (vs ++ ws) ≡ kept ps vs ++ kept qs ws
kept-append [] qs [] ws h = refl
kept-append [] qs (v ∷ vs) ws h = absurd (omega arith)
kept-append (p ∷ ps) qs [] ws h = absurd (omega arith)
kept-append (p ∷ ps) qs (v ∷ vs) ws h =
    ap (λ xs. kept_by p.way p.ty v ++ xs) (kept-append ps qs vs ws (omega arith)) ∙ sym (append_assoc (kept_by p.way p.ty v) (kept ps vs) (kept qs ws))

pub length-places_from : (crossing : ℕ → ℕ → Crossing) (k i : ℕ) (types : List IntType) → length (places_from crossing k i types) ≡ length types
length-places_from crossing k i [] = refl
length-places_from crossing k i (t ∷ types) = ap suc (length-places_from crossing k (suc i) types)

-- ---- numbers

pub holds_length : (types : List IntType) (cells : List Cell) → HoldNumbers types cells → length types ≡ length cells
holds_length [] [] h = refl
holds_length [] (c ∷ cells) h = absurd h
holds_length (t ∷ types) [] h = absurd h
holds_length (t ∷ types) (c ∷ cells) h = ap suc (holds_length types cells h.1)

pub holds_count : (block : List (IntType × WireCell)) (cells : List Cell) → HoldNumbers (block_types block) cells → length block ≡ length cells
holds_count block cells h = sym (length-map block (λ typed. typed.0)) ∙ holds_length (block_types block) cells h

pub holds_at : (block : List (IntType × WireCell)) (cells : List Cell) (i : ℕ) (typed : IntType × WireCell) (c : Cell)
    → HoldNumbers (block_types block) cells
    → i < length block → typed ≡ get_or block i typed → c ≡ get_or cells i c → HoldsNumber typed.0 c
holds_at [] cells i typed c h lt e f = absurd (omega arith)
holds_at (b ∷ block) [] i typed c h lt e f = absurd h
holds_at (b ∷ block) (d ∷ cells) zero typed c h lt e f = rw (e, f) h.0
holds_at (b ∷ block) (d ∷ cells) (suc i) typed c h lt e f = holds_at block cells i typed c h.1 (omega arith) e f

-- ---- one cell more

abbrev pub rest_places : (ℕ → ℕ → Crossing) → ℕ → ℕ → List (IntType × WireCell) → List Place
rest_places crossing k i block = places_from crossing k i (block_types (drop i block))

place_more : {X : Type 0} (F : List Place → List ℤ → X) (crossing : ℕ → ℕ → Crossing) (k i : ℕ) (block : List (IntType × WireCell))
    (cells : List Cell) (typed : IntType × WireCell) (c : Cell)
    → i < length block → i < length cells → typed ≡ get_or block i typed → c ≡ get_or cells i c
    → F (rest_places crossing k i block) (map number_in (drop i cells))
    ≡ F (record { way = crossing k i; ty = typed.0 } ∷ rest_places crossing k (i + 1) block) (number_in c ∷ map number_in (drop (i + 1) cells))
place_more F crossing k i block cells typed c lb lc eb ec =
    at_drops (λ bs cs. F (places_from crossing k i (block_types bs)) (map number_in cs)) block cells i typed c lb lc eb ec
    ∙ ap (λ j. F (record { way = crossing k i; ty = typed.0 } ∷ places_from crossing k j (block_types (drop (i + 1) block)))
    (number_in c ∷ map number_in (drop (i + 1) cells))) (sym (add-one i))

pub sent_more : (crossing : ℕ → ℕ → Crossing) (w : Crossing) (k i : ℕ) (block : List (IntType × WireCell)) (cells : List Cell)
    (typed : IntType × WireCell) (c : Cell) (store store' : Entries)
    (before after whole : List WireCell) → i < length block → i < length cells → typed ≡ get_or block i typed → c ≡ get_or cells i c
    → w ≡ crossing k i → after ≡ before ++ sent_by w (length store) (number_in c) → store' ≡ store ++ kept_by w typed.0 (number_in c)
    → before ++ sent (length store) (rest_places crossing k i block) (map number_in (drop i cells)) ≡ whole
    → after ++ sent (length store') (rest_places crossing k (i + 1) block) (map number_in (drop (i + 1) cells)) ≡ whole
sent_more crossing w k i block cells typed c store store' before after whole lb lc eb ec is added grown so_far =
    let rest = rest_places crossing k (i + 1) block in
    let values = map number_in (drop (i + 1) cells) in
    ap (λ n. after ++ sent n rest values) (ap length grown ∙ length-kept_by w typed.0 (number_in c) store)
    ∙ ap (λ xs. xs ++ sent (next_by w (length store)) rest values) added
    ∙ append_assoc before (sent_by w (length store) (number_in c)) (sent (next_by w (length store)) rest values)
    ∙ ap (λ x. before ++ (sent_by x (length store) (number_in c) ++ sent (next_by x (length store)) rest values)) is
    ∙ ap (λ xs. before ++ xs) (sym (place_more (sent (length store)) crossing k i block cells typed c lb lc eb ec)) ∙ so_far

pub kept_more : (crossing : ℕ → ℕ → Crossing) (w : Crossing) (k i : ℕ) (block : List (IntType × WireCell)) (cells : List Cell)
    (typed : IntType × WireCell) (c : Cell) (store store' whole : Entries)
    → i < length block → i < length cells → typed ≡ get_or block i typed → c ≡ get_or cells i c
    → w ≡ crossing k i → store' ≡ store ++ kept_by w typed.0 (number_in c)
    → store ++ kept (rest_places crossing k i block) (map number_in (drop i cells)) ≡ whole
    → store' ++ kept (rest_places crossing k (i + 1) block) (map number_in (drop (i + 1) cells)) ≡ whole
kept_more crossing w k i block cells typed c store store' whole lb lc eb ec is grown so_far =
    let rest = kept (rest_places crossing k (i + 1) block) (map number_in (drop (i + 1) cells)) in
    ap (λ xs. xs ++ rest) grown ∙ append_assoc store (kept_by w typed.0 (number_in c)) rest
    ∙ ap (λ x. store ++ (kept_by x typed.0 (number_in c) ++ rest)) is
    ∙ ap (λ xs. store ++ xs) (sym (place_more kept crossing k i block cells typed c lb lc eb ec)) ∙ so_far

-- ---- one block more

abbrev pub rest_blocks : (ℕ → ℕ → Crossing) → ℕ → List (List (IntType × WireCell)) → List Place
rest_blocks crossing k blocks = places_of crossing k (types_of (drop k blocks))

abbrev pub rest_numbers : Blocks → ℕ → List (List (IntType × WireCell)) → List ℤ
rest_numbers memory k blocks = received memory k (types_of (drop k blocks))

block_more : {X : Type 0} (F : List Place → List ℤ → X) (crossing : ℕ → ℕ → Crossing) (memory : Blocks) (k : ℕ)
    (blocks : List (List (IntType × WireCell))) (block : List (IntType × WireCell))
    → k < length blocks → block ≡ get_or blocks k block
    → F (rest_blocks crossing k blocks) (rest_numbers memory k blocks)
    ≡ F (places_from crossing k 0 (block_types block) ++ rest_blocks crossing (k + 1) blocks)
    (map number_in (memory (Received k)).cells ++ rest_numbers memory (k + 1) blocks)
block_more F crossing memory k blocks block lt e =
    at_drop (λ bs. F (places_of crossing k (types_of bs)) (received memory k (types_of bs))) blocks k block lt e
    ∙ ap (λ j. F (places_from crossing k 0 (block_types block) ++ places_of crossing j (types_of (drop (k + 1) blocks)))
    (map number_in (memory (Received k)).cells ++ received memory j (types_of (drop (k + 1) blocks)))) (sym (add-one k))

-- what is served of the blocks from this one on
pub served_here : (memory : Blocks) (k : ℕ) (blocks : List (List (IntType × WireCell))) (block : List (IntType × WireCell)) → k < length blocks
    → block ≡ get_or blocks k block
    → AreServed memory k (types_of (drop k blocks))
    → (k < 256) × HoldNumbers (block_types block) (memory (Received k)).cells × AreServed memory (k + 1) (types_of (drop (k + 1) blocks))
served_here memory k blocks block lt e h =
    let here = subst (λ bs. AreServed memory k (types_of bs)) (drop_step_at blocks k block lt e) h in
    (here.0, here.1, subst (λ j. AreServed memory j (types_of (drop (k + 1) blocks))) (sym (add-one k)) here.2)

places_count : (crossing : ℕ → ℕ → Crossing) (k : ℕ) (block : List (IntType × WireCell)) (cells : List Cell) → HoldNumbers (block_types block) cells
    → length (places_from crossing k 0 (block_types block)) ≡ length (map number_in cells)
places_count crossing k block cells h = length-places_from crossing k 0 (block_types block) ∙ holds_length (block_types block) cells h
    ∙ sym (length-map cells number_in)

pub sent_block : (crossing : ℕ → ℕ → Crossing) (memory : Blocks) (k : ℕ) (blocks : List (List (IntType × WireCell)))
    (block items : List (IntType × WireCell)) (cells : List Cell) (store store' : Entries)
    (before after whole : List WireCell) → k < length blocks → block ≡ get_or blocks k block → items ≡ block
    → cells ≡ (memory (Received k)).cells → HoldNumbers (block_types items) cells
    → after ≡ before ++ sent (length store) (places_from crossing k 0 (block_types items)) (map number_in cells)
    → store' ≡ store ++ kept (places_from crossing k 0 (block_types items)) (map number_in cells)
    → before ++ sent (length store) (rest_blocks crossing k blocks) (rest_numbers memory k blocks) ≡ whole
    → after ++ sent (length store') (rest_blocks crossing (k + 1) blocks) (rest_numbers memory (k + 1) blocks) ≡ whole
sent_block crossing memory k blocks block items cells store store' before after whole lt e same there holds added grown so_far =
    let places = places_from crossing k 0 (block_types items) in
    let values = map number_in cells in
    let rest = rest_blocks crossing (k + 1) blocks in
    let others = rest_numbers memory (k + 1) blocks in
    let count = places_count crossing k items cells holds in
    let here = same ∙ e ∙ ap (get_or blocks k) (sym same) in
    ap (λ n. after ++ sent n rest others) (ap length grown ∙ length-kept places values store count)
    ∙ ap (λ xs. xs ++ sent (next_after (length store) places) rest others) added
    ∙ append_assoc before (sent (length store) places values) (sent (next_after (length store) places) rest others)
    ∙ ap (λ xs. before ++ xs) (sym (sent-append (length store) places rest values others count) ∙ ap
    (λ cs. sent (length store) (places ++ rest) (map number_in cs ++ others)) there
    ∙ sym (block_more (sent (length store)) crossing memory k blocks items lt here))
    ∙ so_far

pub kept_block : (crossing : ℕ → ℕ → Crossing) (memory : Blocks) (k : ℕ) (blocks : List (List (IntType × WireCell)))
    (block items : List (IntType × WireCell)) (cells : List Cell) (store store' whole : Entries)
    → k < length blocks → block ≡ get_or blocks k block → items ≡ block → cells ≡ (memory (Received k)).cells → HoldNumbers (block_types items) cells
    → store' ≡ store ++ kept (places_from crossing k 0 (block_types items)) (map number_in cells)
    → store ++ kept (rest_blocks crossing k blocks) (rest_numbers memory k blocks) ≡ whole
    → store' ++ kept (rest_blocks crossing (k + 1) blocks) (rest_numbers memory (k + 1) blocks) ≡ whole
kept_block crossing memory k blocks block items cells store store' whole lt e same there holds grown so_far =
    let places = places_from crossing k 0 (block_types items) in
    let values = map number_in cells in
    let rest = rest_blocks crossing (k + 1) blocks in
    let others = rest_numbers memory (k + 1) blocks in
    let count = places_count crossing k items cells holds in
    let here = same ∙ e ∙ ap (get_or blocks k) (sym same) in
    ap (λ xs. xs ++ kept rest others) grown ∙ append_assoc store (kept places values) (kept rest others)
    ∙ ap (λ xs. store ++ xs) (sym (kept-append places rest values others count) ∙ ap (λ cs. kept (places ++ rest) (map number_in cs ++ others)) there
    ∙ sym (block_more kept crossing memory k blocks items lt here))
    ∙ so_far

-- ---- the whole reply

pub result_count : (sig : Signature) (t : Option IntType) (value : Option ℤ) → IsResult t value
    → length (result_places sig t) ≡ length (option_to_list value)
result_count sig None None h = refl
result_count sig None (Some v) h = absurd h
result_count sig (Some t) None h = absurd h
result_count sig (Some t) (Some v) h = refl

pub reply_is : (sig : Signature) (value : Option ℤ) (store store' : Entries) (crossing crossing' : ℕ → ℕ → Crossing) (types : List (List IntType))
    (values : List ℤ) (result : Option WireCell)
    (before after : List WireCell) → IsResult sig.result value → crossing ≡ crossing' → before ≡ []
    → result ≡ slice_get (sent (length store) (result_places sig sig.result) (option_to_list value)) 0
    → store' ≡ store ++ kept (result_places sig sig.result) (option_to_list value)
    → after ≡ before ++ sent (length store') (places_of crossing 0 types) values
    → reply_with result after ≡ reply_of (length store) (result_places sig sig.result) (option_to_list value) (places_of crossing' 0 types) values
reply_is sig value store store' crossing crossing' types values result before after right same none is grown added =
    let results = result_places sig sig.result in
    let here = ap length grown ∙ length-kept results (option_to_list value) store (result_count sig sig.result value right) in
    ap (λ r. reply_with r after) is
    ∙ ap (reply_with (slice_get (sent (length store) results (option_to_list value)) 0))
    (added ∙ ap (λ xs. xs ++ sent (length store') (places_of crossing 0 types) values) none
    ∙ ap (λ n. sent n (places_of crossing 0 types) values) here ∙ ap (λ f. sent (next_after (length store) results) (places_of f 0 types) values) same)

pub keeps_are : (crossing crossing' : ℕ → ℕ → Crossing) (results : List Place) (vs : List ℤ) (types : List (List IntType)) (values : List ℤ)
    (store store' store'' : Entries) → crossing ≡ crossing'
    → store' ≡ store ++ kept results vs → store'' ≡ store' ++ kept (places_of crossing 0 types) values
    → store'' ≡ store ++ (kept results vs ++ kept (places_of crossing' 0 types) values)
keeps_are crossing crossing' results vs types values store store' store'' same grown more =
    more ∙ ap (λ xs. xs ++ kept (places_of crossing 0 types) values) grown
    ∙ append_assoc store (kept results vs) (kept (places_of crossing 0 types) values)
    ∙ ap (λ f. store ++ (kept results vs ++ kept (places_of f 0 types) values)) same

-- ---- a block in which no range lies

stays_step : (near far : Bool) (way rest : Crossing) → false ≡ (near || far) → (false ≡ far → rest ≡ Stays) → stronger (if near then way else Stays) rest ≡ Stays
stays_step true far way rest h so = absurd cc
stays_step false far way rest h so = so h

-- nothing of it comes back
stays_among : (ranges : List Range) (k i : ℕ) → false ≡ is_ranged ranges k → crossing_among ranges k i ≡ Stays
stays_among [] k i h = refl
stays_among (r ∷ ranges) k i h =
    stays_step (nat_eq r.block k) (is_ranged ranges k) (range_crossing r.secret r.leaves.items r.base i) (crossing_among ranges k i) h (stays_among ranges k i)

pub none_sent : (ranges : List Range) (k : ℕ) → false ≡ is_ranged ranges k → (i handle : ℕ) (types : List IntType) (values : List ℤ)
    → sent handle (places_from (crossing_among ranges) k i types) values ≡ []
none_sent ranges k h i handle [] values = refl
none_sent ranges k h i handle (t ∷ types) [] = refl
none_sent ranges k h i handle (t ∷ types) (v ∷ values) =
    ap (λ way. sent_by way handle v ++ sent (next_by way handle) (places_from (crossing_among ranges) k (suc i) types) values) (stays_among ranges k i h)
    ∙ none_sent ranges k h (suc i) handle types values

pub none_kept : (ranges : List Range) (k : ℕ) → false ≡ is_ranged ranges k → (i : ℕ) (types : List IntType) (values : List ℤ)
    → kept (places_from (crossing_among ranges) k i types) values ≡ []
none_kept ranges k h i [] values = refl
none_kept ranges k h i (t ∷ types) [] = refl
none_kept ranges k h i (t ∷ types) (v ∷ values) =
    ap (λ way. kept_by way t v ++ kept (places_from (crossing_among ranges) k (suc i) types) values) (stays_among ranges k i h)
    ∙ none_kept ranges k h (suc i) types values
