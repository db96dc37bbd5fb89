-- What is answered of the blocks that come back is what taking the reply leaves.
use Rattle.std.proofs.Common.{◌≡◌, ◌<◌, ◌≤◌, ◌+◌, ◌-◌, ◌++◌, ◌∙◌, sym, ap, refl, subst, ℕ, zero, suc, Bool, true, false, List, [], ◌∷◌, length, drop, take, get_or, map, arith, add-one, length-set, Option, if◌then◌else◌}
use Rattle.std.specs.Prelude.{◌||◌, not, nat_eq, slice_set}
use Rattle.std.specs.List.{list_all, list_any}
use Rattle.std.proofs.Math.Path.{fun_ext}
use Rattle.std.proofs.lemmas.List.{drop-set-lt, drop_all, take_more_set}
use Rattle.std.proofs.lemmas.Grind.{drop_more_same}
use Rattle.std.proofs.lemmas.Bool.{or_parts}
use Rattle.pt_base.specs.declared.int_type.IntType.{IntType}
use Rattle.pt_base.proofs.Booleans.{and_true_first, and_true_second}
use Rattle.block_memory.specs.declared.cell.BlockName.{BlockName}
use Rattle.block_memory.specs.declared.cell.Cell.{Cell}
use Rattle.block_memory.specs.declared.cell.Cell.TheVariants as cell
use Rattle.block_memory.specs.declared.cell.Pointer.TheVariants.{Null, At}
use Rattle.block_memory.specs.Block.{Block, with_cell}
use Rattle.block_memory.specs.Blocks.{Blocks, is_same_name, put}
use Rattle.block_memory.proofs.BlocksLemmas.{is_same_name-self, put_other, put_same, same_name}
use Rattle.wire.specs.declared.cell.WireCell.{WireCell}
use Rattle.marshalling.specs.declared.crossing.Crossing.{Crossing}
use Rattle.marshalling.specs.declared.crossing.Crossing.TheVariants.{Stays, Plain, Sealed}
use Rattle.marshalling.specs.declared.range.Range.{Range}
use Rattle.marshalling.specs.declared.returned.ReturnedBlock.{ReturnedBlock}
use Rattle.marshalling.specs.Crossings.{range_crossing, stronger}
use Rattle.marshalling.specs.Packing.{are_distinct, is_among, names_from, points}
use Rattle.marshalling.specs.Plans.{AreCopies, AreTaken, cell_back, names_listed, next_cells, next_listed, part, sent_behind, taken_listed, with_block}
use Rattle.marshalling.specs.Ranges.{crossing_among}
use Rattle.marshalling.specs.Replies.{next_by}
use Rattle.marshalling.specs.Returns.{AreAsLong, copied, counted, is_ranged, seen, with_cells}
use Rattle.marshalling.specs.Taking.{Part, Taken, ended, is_whole, taken_blocks, taken_cell, taken_cells}
use Rattle.marshalling.proofs.Lists.{at_drop}
use Rattle.marshalling.proofs.TakingLemmas.{cell_next, cells_shape, next_grows, whole_count}

-- ---- blocks that are put

put_self : (blocks : Blocks) (name : BlockName) (b : Block) → b ≡ blocks name → put blocks name b ≡ blocks
put_self blocks name b e = fun_ext (λ other. either other (is_same_name name other) refl)
  where
    either : (other : BlockName) (t : Bool) → is_same_name name other ≡ t → (if t then b else blocks other) ≡ blocks other
    either other true same = e ∙ ap blocks (same_name name other same)
    either other false same = refl

put_again : (blocks : Blocks) (name : BlockName) (a b : Block) → put (put blocks name a) name b ≡ put blocks name b
put_again blocks name a b = fun_ext (λ other. either other (is_same_name name other))
  where
    either : (other : BlockName) (t : Bool) → (if t then b else (if t then a else blocks other)) ≡ (if t then b else blocks other)
    either other true = refl
    either other false = refl

-- ---- one cell

set_in : (blocks : Blocks) (name : BlockName) (types : List IntType) (cells : List Cell) (i : ℕ) (c : Cell)
    → with_block blocks name types (slice_set cells i c)
    ≡ put (with_block blocks name types cells) name (with_cell (with_block blocks name types cells name) i c)
set_in blocks name types cells i c =
    let b : Block = record { types = types; cells = cells } in
    sym (ap (λ (x : Block). put (put blocks name b) name (with_cell x i c)) (put_same blocks name b) ∙ put_again blocks name b (with_cell b i c))

back_in : (w : Crossing) (name : BlockName) (i : ℕ) (types : List IntType) (cells : List Cell) (sent : List WireCell) (next : ℕ) (blocks : Blocks)
    → part (sent_behind w sent) (next_by w next) (with_block blocks name types (cell_back w i sent next cells))
    ≡ taken_cell w name i (part sent next (with_block blocks name types cells))
back_in Stays name i types cells sent next blocks = refl
back_in Plain name i types cells [] next blocks = refl
back_in Plain name i types cells (s ∷ sent) next blocks =
    ap (part sent next) (set_in blocks name types cells i (cell.Int _))
back_in Sealed name i types cells sent next blocks = ap (part (drop 1 sent) (suc next)) (set_in blocks name types cells i (cell.Sealed next))

pub back_at : (w : Crossing) (name : BlockName) (i : ℕ) (types : List IntType) (cells cells' : List Cell) (sent sent' : List WireCell)
    (next next' : ℕ) (blocks : Blocks)
    → cells' ≡ cell_back w i sent next cells → sent' ≡ sent_behind w sent → next' ≡ next_by w next
    → part sent' next' (with_block blocks name types cells') ≡ taken_cell w name i (part sent next (with_block blocks name types cells))
back_at w name i types cells cells' sent sent' next next' blocks ec es en =
    ap (λ xs. part xs next' (with_block blocks name types cells')) es
    ∙ ap (λ n. part (sent_behind w sent) n (with_block blocks name types cells')) en
    ∙ ap (λ xs. part (sent_behind w sent) (next_by w next) (with_block blocks name types xs)) ec
    ∙ back_in w name i types cells sent next blocks

back_count : (w : Crossing) (i : ℕ) (sent : List WireCell) (next : ℕ) (cells : List Cell) → length (cell_back w i sent next cells) ≡ length cells
back_count Stays i sent next cells = refl
back_count Plain i [] next cells = refl
back_count Plain i (s ∷ sent) next cells = length-set cells i (cell.Int _)
back_count Sealed i sent next cells = length-set cells i (cell.Sealed next)

pub back_length : (w : Crossing) (i : ℕ) (sent : List WireCell) (next : ℕ) (cells cells' start : List Cell)
    → cells' ≡ cell_back w i sent next cells → length cells ≡ length start → length cells' ≡ length start
back_length w i sent next cells cells' start e h = ap length e ∙ back_count w i sent next cells ∙ h

-- ---- handles of one block

next_more : (way : ℕ → Crossing) (handle m n d : ℕ) → n ≡ d + m → next_cells way m handle ≤ next_cells way n handle
next_more way handle m n zero e =
    let same : m ≡ n = omega (arith, e) in
    subst (λ x. next_cells way m handle ≤ next_cells way x handle) same (omega arith)
next_more way handle m zero (suc d) e = absurd (omega (arith, e))
next_more way handle m (suc n) (suc d) e =
    let rest = next_more way handle m n d (omega (arith, e)) in
    let here = next_grows (way n) (next_cells way n handle) in
    omega (arith, rest, here)

pub next_step : (way : ℕ → Crossing) (w : Crossing) (i handle next next' : ℕ) → w ≡ way i → next ≡ next_cells way i handle → next' ≡ next_by w next
    → next' ≡ next_cells way (i + 1) handle
next_step way w i handle next next' is so_far one =
    one ∙ ap (λ x. next_by x next) is ∙ ap (next_by (way i)) so_far ∙ ap (λ n. next_cells way n handle) (sym (add-one i))

pub next_room : (way : ℕ → Crossing) (w : Crossing) (i n handle next limit : ℕ) → i < n → w ≡ way i → next ≡ next_cells way i handle
    → next_cells way n handle ≤ limit → next_by w next ≤ limit
next_room way w i n handle next limit lt is so_far room =
    let here : next_by w next ≡ next_cells way (suc i) handle = ap (λ x. next_by x next) is ∙ ap (next_by (way i)) so_far in
    let more = next_more way handle (suc i) n (n - suc i) (omega (arith, lt)) in
    omega (arith, here, more, room)

cells_next : (crossing : ℕ → ℕ → Crossing) (name : BlockName) (k i handle : ℕ) (types : List IntType) (p : Part) → p.next ≡ next_cells (crossing k) i handle
    → (taken_cells crossing name k i types p).next ≡ next_cells (crossing k) (i + length types) handle
cells_next crossing name k i handle [] p h = h ∙ ap (λ n. next_cells (crossing k) n handle) (omega arith)
cells_next crossing name k i handle (t ∷ types) p h =
    let here : (taken_cell (crossing k i) name i p).next ≡ next_cells (crossing k) (suc i) handle =
    cell_next (crossing k i) name i p ∙ ap (next_by (crossing k i)) h in
    cells_next crossing name k (suc i) handle types (taken_cell (crossing k i) name i p) here
    ∙ ap (λ n. next_cells (crossing k) n handle) (omega arith)

-- ---- one block

-- no cell is left
pub block_done : (crossing : ℕ → ℕ → Crossing) (name : BlockName) (k i n : ℕ) (types : List IntType) (now whole : Part) → n ≤ i → length types ≡ n
    → taken_cells crossing name k i (drop i types) now ≡ whole → now ≡ whole
block_done crossing name k i n types now whole past long so_far =
    sym (ap (λ ts. taken_cells crossing name k i ts now) (drop_all i types (omega (arith, past, long)))) ∙ so_far

-- ---- the blocks that come back

copies_stay : (blocks : Blocks) (name : BlockName) (block : Block) (rest : List ReturnedBlock) → is_among (names_listed rest) name ≡ false
    → AreCopies blocks rest → AreCopies (put blocks name block) rest
copies_stay blocks name block [] alone h = tt {0}
copies_stay blocks name block (b ∷ rest) alone h =
    let parts = or_parts (is_same_name b.name name) (is_among (names_listed rest) name) alone in
    let same : put blocks name block b.name ≡ blocks b.name = put_other blocks name b.name block (same_back b.name name parts.0) in
    (ap (λ (x : Block). x.cells) same ∙ h.0, ap (λ (x : Block). length x.types) same ∙ h.1, h.2, copies_stay blocks name block rest parts.1 h.3)
  where
    same_back : (a b : BlockName) → is_same_name a b ≡ false → is_same_name b a ≡ false
    same_back a b h = go (is_same_name b a) refl
      where
        go : (t : Bool) → is_same_name b a ≡ t → t ≡ false
        go true e = let self = is_same_name-self a in let same = ap (λ x. is_same_name a x) (same_name b a e) in cc
        go false e = refl

with_cells-append : (bs : List ReturnedBlock) (b : ReturnedBlock) (blocks : Blocks)
    → with_cells (bs ++ b ∷ []) blocks ≡ with_block (with_cells bs blocks) b.name (with_cells bs blocks b.name).types b.cells.items
with_cells-append [] b blocks = refl
with_cells-append (a ∷ bs) b blocks = with_cells-append bs b (put blocks a.name (record { types = (blocks a.name).types; cells = a.cells.items }))

-- Where `done` of the blocks have what came back, the others are still as they are in the memory by then, and what is left
-- of the reply leads to the whole.
pub record IsMidway (crossing : ℕ → ℕ → Crossing) (left done : List ReturnedBlock) (sent : List WireCell) (next : ℕ) (before : Blocks) (whole : Part) : Type 0 where
  pub copies : AreCopies (with_cells done before) left
  pub leads : taken_listed crossing left (part sent next (with_cells done before)) ≡ whole

-- one block more
midway_more : (crossing : ℕ → ℕ → Crossing) (b b' : ReturnedBlock) (left done : List ReturnedBlock) (sent sent' : List WireCell) (next next' : ℕ)
    (before : Blocks) (whole : Part) → b'.name ≡ b.name
    → ((at : Blocks) (types : List IntType) → length types ≡ length b.cells.items
    → part sent' next' (with_block at b.name types b'.cells.items)
    ≡ taken_cells crossing b.name b.number 0 types (part sent next (with_block at b.name types b.cells.items)))
    → IsMidway crossing (b ∷ left) done sent next before whole → IsMidway crossing left (done ++ b' ∷ []) sent' next' before whole
midway_more crossing b b' left done sent sent' next next' before whole named one so_far =
    let now = with_cells done before in
    let h = so_far.copies in
    let types = (now b.name).types in
    let after : with_cells (done ++ b' ∷ []) before ≡ with_block now b.name types b'.cells.items =
    with_cells-append done b' before ∙ ap (λ n. with_block now n (now n).types b'.cells.items) named in
    let same : with_block now b.name types b.cells.items ≡ now =
    put_self now b.name (record { types = types; cells = b.cells.items }) (ap (λ xs. record { types = types; cells = xs }) (sym h.0)) in
    record {
      copies = subst (λ m. AreCopies m left) (sym after)
          (copies_stay now b.name (record { types = types; cells = b'.cells.items }) left h.2 h.3);
      leads = ap (λ m. taken_listed crossing left (part sent' next' m)) after
          ∙ ap (taken_listed crossing left) (one now types h.1 ∙ ap (λ m. taken_cells crossing b.name b.number 0 types (part sent next m)) same)
          ∙ so_far.leads;
    }

pub midway_at : (crossing : ℕ → ℕ → Crossing) (old now : List ReturnedBlock) (j : ℕ) (b b' : ReturnedBlock) (sent sent' : List WireCell)
    (next next' : ℕ) (before : Blocks) (whole : Part) → j < length old → length now ≡ length old → b ≡ get_or old j b → b'.name ≡ b.name
    → ((at : Blocks) (types : List IntType) → length types ≡ length b.cells.items
    → part sent' next' (with_block at b.name types b'.cells.items)
    ≡ taken_cells crossing b.name b.number 0 types (part sent next (with_block at b.name types b.cells.items)))
    → IsMidway crossing (drop j old) (take j now) sent next before whole
    → IsMidway crossing (drop (j + 1) old) (take (j + 1) (slice_set now j b')) sent' next' before whole
midway_at crossing old now j b b' sent sent' next next' before whole lt long e named one so_far =
    subst (λ (bs : List ReturnedBlock). IsMidway crossing (drop (j + 1) old) bs sent' next' before whole)
    (sym (take_more_set now j b' (omega (arith, lt, long))))
    (midway_more crossing b b' (drop (j + 1) old) (take j now) sent sent' next next' before whole named one
    (subst (λ (bs : List ReturnedBlock). IsMidway crossing bs (take j now) sent next before whole) (at_drop (λ bs. bs) old j b lt e) so_far))

-- what is left of the blocks is what was there
pub left_more : (now old : List ReturnedBlock) (j : ℕ) (b : ReturnedBlock) → drop j now ≡ drop j old
    → drop (j + 1) (slice_set now j b) ≡ drop (j + 1) old
left_more now old j b same = drop-set-lt (j + 1) now j b (omega arith) ∙ drop_more_same now old j same

head_at : (xs : List ReturnedBlock) (j : ℕ) (d : ReturnedBlock) → get_or (drop j xs) 0 d ≡ get_or xs j d
head_at xs zero d = refl
head_at [] (suc j) d = refl
head_at (x ∷ xs) (suc j) d = head_at xs j d

pub read_left : (now old : List ReturnedBlock) (j : ℕ) (b : ReturnedBlock) → drop j now ≡ drop j old → b ≡ get_or now j b → b ≡ get_or old j b
read_left now old j b same read = read ∙ sym (head_at now j b) ∙ ap (λ bs. get_or bs 0 b) same ∙ head_at old j b

-- ---- handles of all of them

pub listed_grow : (crossing : ℕ → ℕ → Crossing) (blocks : List ReturnedBlock) (handle : ℕ) → handle ≤ next_listed crossing blocks handle
listed_grow crossing [] handle = omega arith
listed_grow crossing (b ∷ blocks) handle =
    let here = grows (crossing b.number) (length b.cells.items) handle in
    let rest = listed_grow crossing blocks (next_cells (crossing b.number) (length b.cells.items) handle) in
    omega (arith, here, rest)
  where
    grows : (way : ℕ → Crossing) (n handle : ℕ) → handle ≤ next_cells way n handle
    grows way zero handle = omega arith
    grows way (suc n) handle =
        let rest = grows way n handle in
        let here = next_grows (way n) (next_cells way n handle) in
        omega (arith, rest, here)

pub listed_step : (crossing : ℕ → ℕ → Crossing) (old : List ReturnedBlock) (j : ℕ) (b : ReturnedBlock) (next next' whole : ℕ)
    → j < length old → b ≡ get_or old j b → next' ≡ next_cells (crossing b.number) (length b.cells.items) next
    → next_listed crossing (drop j old) next ≡ whole → next_listed crossing (drop (j + 1) old) next' ≡ whole
listed_step crossing old j b next next' whole lt e one so_far =
    ap (next_listed crossing (drop (j + 1) old)) one ∙ sym (at_drop (λ bs. next_listed crossing bs next) old j b lt e) ∙ so_far

pub listed_room : (crossing : ℕ → ℕ → Crossing) (old : List ReturnedBlock) (j : ℕ) (b : ReturnedBlock) (next whole limit : ℕ)
    → j < length old → b ≡ get_or old j b → next_listed crossing (drop j old) next ≡ whole → whole ≤ limit
    → next_cells (crossing b.number) (length b.cells.items) next ≤ limit
listed_room crossing old j b next whole limit lt e so_far room =
    let here = next_cells (crossing b.number) (length b.cells.items) next in
    let is : next_listed crossing (drop (j + 1) old) here ≡ whole = listed_step crossing old j b next here whole lt e refl so_far in
    let grows = listed_grow crossing (drop (j + 1) old) here in
    omega (arith, is, grows, room)

listed_next : (crossing : ℕ → ℕ → Crossing) (before : Blocks) (blocks : List ReturnedBlock) (p : Part)
    → ((name : BlockName) → (p.blocks name).types ≡ (before name).types)
    → AreCopies before blocks → (taken_listed crossing blocks p).next ≡ next_listed crossing blocks p.next
listed_next crossing before [] p same h = refl
listed_next crossing before (b ∷ blocks) p same h =
    let types = (p.blocks b.name).types in
    let q = taken_cells crossing b.name b.number 0 types p in
    let shape = cells_shape crossing b.name b.number 0 types p in
    let rest = listed_next crossing before blocks q (λ name. shape.types name ∙ same name) h.3 in
    let count : 0 + length types ≡ length b.cells.items = let long : length types ≡ length b.cells.items = ap length (same b.name) ∙ h.1 in omega (arith, long) in
    let here : q.next ≡ next_cells (crossing b.number) (length b.cells.items) p.next =
    cells_next crossing b.name b.number 0 p.next types p refl ∙ ap (λ n. next_cells (crossing b.number) n p.next) count in
    rest ∙ ap (next_listed crossing blocks) here

-- ---- how many cells they have

count_set : (xs : List ReturnedBlock) (j : ℕ) (b b' : ReturnedBlock) → j < length xs → b ≡ get_or xs j b → counted b' ≡ counted b
    → map counted (slice_set xs j b') ≡ map counted xs
count_set [] j b b' lt e same = absurd (omega arith)
count_set (x ∷ xs) zero b b' lt e same = ap (λ c. c ∷ map counted xs) (same ∙ ap counted e)
count_set (x ∷ xs) (suc j) b b' lt e same = ap (λ cs. counted x ∷ cs) (count_set xs j b b' (omega arith) e same)

pub counts_stay : (now old : List ReturnedBlock) (j : ℕ) (b b' : ReturnedBlock) → j < length now → b ≡ get_or now j b → b'.name ≡ b.name
    → length b'.cells.items ≡ length b.cells.items → map counted now ≡ map counted old → map counted (slice_set now j b') ≡ map counted old
counts_stay now old j b b' lt e named many so_far =
    count_set now j b b' lt e (ap (λ n. (n, length b'.cells.items)) named ∙ ap (λ k. (b.name, k)) many) ∙ so_far

as_long : (before : Blocks) (old new : List ReturnedBlock) → AreCopies before old → map counted new ≡ map counted old → AreAsLong before new
as_long before [] [] h e = tt {0}
as_long before [] (b ∷ new) h e = cc
as_long before (a ∷ old) [] h e = cc
as_long before (a ∷ old) (b ∷ new) h e =
    let first_one : counted b ≡ counted a = ap (λ cs. get_or cs 0 (counted b)) e in
    let others : map counted new ≡ map counted old = ap (drop 1) e in
    let named : b.name ≡ a.name = ap (λ (c : BlockName × ℕ). c.0) first_one in
    let many : length b.cells.items ≡ length a.cells.items = ap (λ (c : BlockName × ℕ). c.1) first_one in
    (many ∙ sym (ap length h.0) ∙ sym (ap (λ n. length (before n).cells) named), as_long before old new h.3 others)

-- ---- which blocks they are

abbrev Triple : Type 0
Triple = ℕ × BlockName × List Cell

-- equal lists have equal heads and tails
heads : {X : Type 0} (x y : X) (xs ys : List X) → x ∷ xs ≡ y ∷ ys → x ≡ y
heads x y xs ys e = ap (λ zs. get_or zs 0 x) e

tails : {X : Type 0} (x y : X) (xs ys : List X) → x ∷ xs ≡ y ∷ ys → xs ≡ ys
tails x y xs ys e = ap (drop 1) e

stays_all : (crossing : ℕ → ℕ → Crossing) (name : BlockName) (k i : ℕ) (types : List IntType) (p : Part) → ((n : ℕ) → crossing k n ≡ Stays)
    → taken_cells crossing name k i types p ≡ p
stays_all crossing name k i [] p h = refl
stays_all crossing name k i (t ∷ types) p h =
    ap (λ w. taken_cells crossing name k (suc i) types (taken_cell w name i p)) (h i) ∙ stays_all crossing name k (suc i) types p h

-- the others are as they were
chosen : (crossing : ℕ → ℕ → Crossing) (test : ℕ → Bool) (before : Blocks) (k : ℕ) (names : List BlockName) (blocks : List ReturnedBlock) (p : Part)
    → ((m n : ℕ) → test m ≡ false → crossing m n ≡ Stays) → map seen blocks ≡ copied test before k names
    → taken_listed crossing blocks p ≡ taken_blocks crossing k names p
chosen crossing test before k [] [] p stays is = refl
chosen crossing test before k [] (b ∷ blocks) p stays is = cc
chosen crossing test before k (name ∷ names) blocks p stays is =
    go (λ bs q others. chosen crossing test before (suc k) names bs q stays others) (test k) refl blocks is
  where
    go : ((bs : List ReturnedBlock) (q : Part) → map seen bs ≡ copied test before (suc k) names
        → taken_listed crossing bs q ≡ taken_blocks crossing (suc k) names q)
        → (t : Bool) → test k ≡ t → (bs : List ReturnedBlock)
        → map seen bs ≡ (if t then (k, name, (before name).cells) ∷ copied test before (suc k) names else copied test before (suc k) names)
        → taken_listed crossing bs p ≡ taken_blocks crossing (suc k) names (taken_cells crossing name k 0 (p.blocks name).types p)
    go ih true e [] is = cc
    go ih true e (b ∷ bs) is =
        let first_one : seen b ≡ (k, name, (before name).cells) =
        heads (seen b) (k, name, (before name).cells) (map seen bs) (copied test before (suc k) names) is in
        let others : map seen bs ≡ copied test before (suc k) names =
        tails (seen b) (k, name, (before name).cells) (map seen bs) (copied test before (suc k) names) is in
        ap (λ (t : Triple). taken_listed crossing bs (taken_cells crossing t.1 t.0 0 (p.blocks t.1).types p)) first_one
        ∙ ih bs (taken_cells crossing name k 0 (p.blocks name).types p) others
    go ih false e bs is =
        ih bs p is ∙ ap (taken_blocks crossing (suc k) names) (sym (stays_all crossing name k 0 (p.blocks name).types p (λ n. stays k n e)))

among_copied : (test : ℕ → Bool) (before : Blocks) (k : ℕ) (names : List BlockName) (blocks : List ReturnedBlock) (x : BlockName)
    → map seen blocks ≡ copied test before k names → is_among names x ≡ false → is_among (names_listed blocks) x ≡ false
among_copied test before k [] [] x is alone = refl
among_copied test before k [] (b ∷ blocks) x is alone = cc
among_copied test before k (name ∷ names) blocks x is alone =
    let parts = or_parts (is_same_name name x) (is_among names x) alone in
    go parts.0 (λ bs others. among_copied test before (suc k) names bs x others parts.1) (test k) blocks is
  where
    join : (a b : Bool) → a ≡ false → b ≡ false → (a || b) ≡ false
    join true b h k = h
    join false b h k = k

    go : is_same_name name x ≡ false
        → ((bs : List ReturnedBlock) → map seen bs ≡ copied test before (suc k) names → is_among (names_listed bs) x ≡ false)
        → (t : Bool) → (bs : List ReturnedBlock)
        → map seen bs ≡ (if t then (k, name, (before name).cells) ∷ copied test before (suc k) names else copied test before (suc k) names)
        → is_among (names_listed bs) x ≡ false
    go differs ih true [] is = cc
    go differs ih true (b ∷ bs) is =
        let first_one : seen b ≡ (k, name, (before name).cells) =
        heads (seen b) (k, name, (before name).cells) (map seen bs) (copied test before (suc k) names) is in
        let others : map seen bs ≡ copied test before (suc k) names =
        tails (seen b) (k, name, (before name).cells) (map seen bs) (copied test before (suc k) names) is in
        join (is_same_name b.name x) (is_among (names_listed bs) x) (ap (λ (t : Triple). is_same_name t.1 x) first_one ∙ differs) (ih bs others)
    go differs ih false bs is = ih bs is

pub are_copies : (test : ℕ → Bool) (before : Blocks) (k : ℕ) (names : List BlockName) (blocks : List ReturnedBlock)
    → map seen blocks ≡ copied test before k names → are_distinct names ≡ true → list_all (λ name. is_whole (before name)) names ≡ true
    → AreCopies before blocks
are_copies test before k [] [] is distinct whole = tt {0}
are_copies test before k [] (b ∷ blocks) is distinct whole = cc
are_copies test before k (name ∷ names) blocks is distinct whole =
    let alone : is_among names name ≡ false = from_not (is_among names name) (and_true_first (not (is_among names name)) (are_distinct names) distinct) in
    let count = whole_count (before name) (and_true_first (is_whole (before name)) (list_all (λ name. is_whole (before name)) names) whole) in
    go alone count
    (λ bs others. are_copies test before (suc k) names bs others (and_true_second (not (is_among names name)) (are_distinct names) distinct)
    (and_true_second (is_whole (before name)) (list_all (λ name. is_whole (before name)) names) whole))
    (test k) blocks is
  where
    from_not : (b : Bool) → not b ≡ true → b ≡ false
    from_not true h = cc
    from_not false h = refl

    go : is_among names name ≡ false → length (before name).types ≡ length (before name).cells
        → ((bs : List ReturnedBlock) → map seen bs ≡ copied test before (suc k) names → AreCopies before bs)
        → (t : Bool) → (bs : List ReturnedBlock)
        → map seen bs ≡ (if t then (k, name, (before name).cells) ∷ copied test before (suc k) names else copied test before (suc k) names)
        → AreCopies before bs
    go alone count ih true [] is = cc
    go alone count ih true (b ∷ bs) is =
        let first_one : seen b ≡ (k, name, (before name).cells) =
        heads (seen b) (k, name, (before name).cells) (map seen bs) (copied test before (suc k) names) is in
        let others : map seen bs ≡ copied test before (suc k) names =
        tails (seen b) (k, name, (before name).cells) (map seen bs) (copied test before (suc k) names) is in
        let named : b.name ≡ name = ap (λ (t : Triple). t.1) first_one in
        let cells : b.cells.items ≡ (before name).cells = ap (λ (t : Triple). t.2) first_one in (
          ap (λ n. (before n).cells) named ∙ sym cells,
          ap (λ n. length (before n).types) named ∙ count ∙ sym (ap length cells),
          ap (is_among (names_listed bs)) named ∙ among_copied test before (suc k) names bs name others alone,
          ih bs others,
        )
    go alone count ih false bs is = ih bs is

-- a block without a range
pub not_ranged : (ranges : List Range) (k i : ℕ) → is_ranged ranges k ≡ false → crossing_among ranges k i ≡ Stays
not_ranged [] k i h = refl
not_ranged (r ∷ ranges) k i h =
    let parts = or_parts (nat_eq r.block k) (is_ranged ranges k) h in
    ap (λ (t : Bool). stronger (if t then range_crossing r.secret r.leaves.items r.base i else Stays) (crossing_among ranges k i)) parts.0
    ∙ not_ranged ranges k i parts.1

-- ---- the whole

-- what comes back of all blocks of a call, by those that have ranges
pub listed_is : (ranges : List Range) (before : Blocks) (names : List BlockName) (blocks : List ReturnedBlock) (p : Part)
    → map seen blocks ≡ copied (is_ranged ranges) before 0 names
    → taken_listed (crossing_among ranges) blocks p ≡ taken_blocks (crossing_among ranges) 0 names p
listed_is ranges before names blocks p is =
    chosen (crossing_among ranges) (is_ranged ranges) before 0 names blocks p (λ m n h. not_ranged ranges m n h) is

within_same : (ranges : List Range) (names : List BlockName) (blocks : List ReturnedBlock) (sent : List WireCell) (next limit : ℕ) (before : Blocks)
    → map seen blocks ≡ copied (is_ranged ranges) before 0 names → are_distinct names ≡ true
    → list_all (λ name. is_whole (before name)) names ≡ true
    → (taken_blocks (crossing_among ranges) 0 names (part sent next before)).next ≤ limit → next_listed (crossing_among ranges) blocks next ≤ limit
within_same ranges names blocks sent next limit before is distinct whole room =
    let p = part sent next before in
    let counted = listed_next (crossing_among ranges) before blocks p (λ name. refl)
    (are_copies (is_ranged ranges) before 0 names blocks is distinct whole) in
    let same = ap (λ (q : Part). q.next) (listed_is ranges before names blocks p is) in
    let all : next_listed (crossing_among ranges) blocks next ≡ (taken_blocks (crossing_among ranges) 0 names p).next = sym counted ∙ same in
    omega (arith, all, room)

copied_same : (ranges rs : List Range) (names ts : List BlockName) (blocks : List ReturnedBlock) (before : Blocks) → rs ≡ ranges → ts ≡ names
    → map seen blocks ≡ copied (is_ranged rs) before 0 ts → map seen blocks ≡ copied (is_ranged ranges) before 0 names
copied_same ranges rs names ts blocks before er en is =
    is ∙ ap (λ r. copied (is_ranged r) before 0 ts) er ∙ ap (copied (is_ranged ranges) before 0) en

pub listed_within : (ranges rs : List Range) (names ts : List BlockName) (sent : List WireCell) (blocks : List ReturnedBlock)
    (next next' limit : ℕ) (before : Blocks) → rs ≡ ranges → ts ≡ names → next' ≡ next
    → map seen blocks ≡ copied (is_ranged rs) before 0 ts → are_distinct names ≡ true
    → list_all (λ name. is_whole (before name)) names ≡ true
    → (taken_blocks (crossing_among ranges) 0 names (part sent next before)).next ≤ limit → next_listed (crossing_among rs) blocks next' ≤ limit
listed_within ranges rs names ts sent blocks next next' limit before er et en is distinct whole room =
    let here = within_same ranges names blocks sent next limit before (copied_same ranges rs names ts blocks before er et is)
    distinct whole room in
    let same : next_listed (crossing_among rs) blocks next' ≡ next_listed (crossing_among ranges) blocks next =
    ap (λ r. next_listed (crossing_among r) blocks next') er ∙ ap (next_listed (crossing_among ranges) blocks) en in
    omega (arith, here, same)

pub listed_taken : (ranges rs : List Range) (names ts : List BlockName) (sent ss : List WireCell) (blocks after : List ReturnedBlock)
    (next next' last : ℕ) (before : Blocks) (value result : Option Cell) → rs ≡ ranges → ts ≡ names → ss ≡ sent → next' ≡ next
    → map seen blocks ≡ copied (is_ranged rs) before 0 ts → are_distinct names ≡ true
    → list_all (λ name. is_whole (before name)) names ≡ true
    → ((start : Blocks) → AreCopies start blocks
    → AreTaken last (with_cells after start) (taken_listed (crossing_among rs) blocks (part ss next' start)))
    → value ≡ result
    → record { result = value; next = last; blocks = with_cells after before }
    ≡ ended result (taken_blocks (crossing_among ranges) 0 names (part sent next before))
listed_taken ranges rs names ts sent ss blocks after next next' last before value result er et es en is distinct whole taken same =
    let copies = copied_same ranges rs names ts blocks before er et is in
    let done = taken before (are_copies (is_ranged ranges) before 0 names blocks copies distinct whole) in
    let whole_part = taken_blocks (crossing_among ranges) 0 names (part sent next before) in
    let all : taken_listed (crossing_among rs) blocks (part ss next' before) ≡ whole_part =
    ap (λ r. taken_listed (crossing_among r) blocks (part ss next' before)) er
    ∙ ap (λ xs. taken_listed (crossing_among ranges) blocks (part xs next' before)) es
    ∙ ap (λ n. taken_listed (crossing_among ranges) blocks (part sent n before)) en
    ∙ listed_is ranges before names blocks (part sent next before) copies in
    ap (λ r. as_taken r last (with_cells after before)) same
    ∙ ap (λ n. as_taken result n (with_cells after before)) (done.0 ∙ ap (λ (p : Part). p.next) all)
    ∙ ap (as_taken result whole_part.next) (done.1 ∙ ap (λ (p : Part). p.blocks) all)
  where
    as_taken : Option Cell → ℕ → Blocks → Taken
    as_taken result next blocks = record { result = result; next = next; blocks = blocks }

pub listed_long : (ranges rs : List Range) (names ts : List BlockName) (blocks after : List ReturnedBlock) (before : Blocks) → rs ≡ ranges → ts ≡ names
    → map seen blocks ≡ copied (is_ranged rs) before 0 ts → are_distinct names ≡ true
    → list_all (λ name. is_whole (before name)) names ≡ true → map counted after ≡ map counted blocks → AreAsLong before after
listed_long ranges rs names ts blocks after before er et is distinct whole same =
    as_long before blocks after
    (are_copies (is_ranged ranges) before 0 names blocks (copied_same ranges rs names ts blocks before er et is) distinct whole) same

-- none come back
pub none_long : (before : Blocks) (blocks : List ReturnedBlock) → blocks ≡ [] → AreAsLong before blocks
none_long before blocks e = subst (AreAsLong before) (sym e) (tt {0})

-- ---- arguments that point into no block

pub no_names : (names : List BlockName) (args : List Cell) → list_any points args ≡ false → names_from names args ≡ names
no_names names [] h = refl
no_names names (cell.Int v ∷ args) h = no_names names args h
no_names names (cell.Ptr Null ∷ args) h = no_names names args h
no_names names (cell.Ptr (At block base count index) ∷ args) h = cc
no_names names (cell.Sealed handle ∷ args) h = no_names names args h
