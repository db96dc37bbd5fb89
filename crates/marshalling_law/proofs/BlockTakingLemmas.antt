-- What taking a reply leaves, block by block.
use Rattle.std.proofs.Common.{◌≡◌, ◌∙◌, append_assoc, length-append, sym, ap, refl, ℕ, ℤ, suc, Bool, true, false, List, [], ◌∷◌, ◌++◌, length, drop, map, arith, subst}
use Rattle.std.specs.Prelude.{not, slice_set}
use Rattle.std.specs.List.{list_all}
use Rattle.std.proofs.lemmas.List.{length-map, set_at}
use Rattle.std.proofs.lemmas.Bool.{and_from, or_left, or_parts, or_right}
use Rattle.pt_base.specs.declared.int_type.IntType.{IntType}
use Rattle.pt_base.proofs.Booleans.{and_true_first, and_true_second, from_not_true}
use Rattle.block_memory.specs.declared.cell.BlockName.{BlockName}
use Rattle.block_memory.specs.declared.cell.BlockName.TheVariants.{Received}
use Rattle.block_memory.specs.declared.cell.Cell.{Cell}
use Rattle.block_memory.specs.declared.cell.Cell.TheVariants as cell
use Rattle.block_memory.specs.Block.{Block, with_cell}
use Rattle.block_memory.specs.Blocks.{Blocks, is_same_name, put}
use Rattle.block_memory.proofs.BlocksLemmas.{is_same_name-self, put_other, put_same, same_name, types-write}
use Rattle.wire.specs.declared.cell.WireCell.{WireCell}
use Rattle.wire.specs.declared.cell.WireCell.TheVariants as wire
use Rattle.marshalling.specs.declared.crossing.Crossing.{Crossing}
use Rattle.marshalling.specs.declared.crossing.Crossing.TheVariants.{Stays, Plain, Sealed}
use Rattle.marshalling.specs.HonestCalls.{AreLeft, left_cell, left_cells}
use Rattle.marshalling.specs.Packing.{are_distinct, is_among}
use Rattle.marshalling.specs.Replies.{AreServed, Place, next_after, next_by, number_in, places_from, places_of, received, sent, sent_by}
use Rattle.marshalling.specs.Taking.{Part, is_whole, taken_blocks, taken_cell, taken_cells, with_number}
use Rattle.marshalling.proofs.ReplyLemmas.{holds_length, length-places_from, sent-append}
use Rattle.marshalling.proofs.TakingLemmas.{SameShape, cells_shape, whole_count, whole_stays}

-- ---- tests

-- a name that isn't among the names differs from one that is
pub apart : (n x : BlockName) (names : List BlockName) → is_among names n ≡ false → is_among names x ≡ true → is_same_name n x ≡ false
apart n x names alone among = go (is_same_name n x) refl
  where
    go : (t : Bool) → is_same_name n x ≡ t → t ≡ false
    go true e = let same = ap (is_among names) (same_name n x e) in cc
    go false e = refl

-- ---- one cell

-- Of p the cells of a reply up to `more` were taken into the block of this name, which has these cells behind others; the
-- next handle is `next` then. No other block is changed.
pub record Took (name : BlockName) (done rest : List Cell) (more : List WireCell) (next : ℕ) (p q : Part) : Type 0 where
  pub left : q.sent ≡ more
  pub handle : q.next ≡ next
  pub cells : (q.blocks name).cells ≡ done ++ rest
  pub types : (other : BlockName) → (q.blocks other).types ≡ (p.blocks other).types
  pub others : (other : BlockName) → is_same_name name other ≡ false → q.blocks other ≡ p.blocks other

written : (blocks : Blocks) (name : BlockName) (i : ℕ) (c old : Cell) (done rest : List Cell) → (blocks name).cells ≡ done ++ old ∷ rest
    → length done ≡ i
    → (put blocks name (with_cell (blocks name) i c) name).cells ≡ done ++ c ∷ rest
written blocks name i c old done rest is here =
    ap (λ (b : Block). b.cells) (put_same blocks name (with_cell (blocks name) i c)) ∙ ap (λ (xs : List Cell). slice_set xs i c) is
    ∙ set_at done old rest c i here

plain_took : (name : BlockName) (i : ℕ) (c : Cell) (v : ℤ) (done rest : List Cell) (more : List WireCell) (p : Part)
    → p.sent ≡ wire.Number v ∷ more → (p.blocks name).cells ≡ done ++ c ∷ rest → length done ≡ i
    → Took name done (cell.Int v ∷ rest) more p.next p (with_number name i p.sent p.next p.blocks)
plain_took name i c v done rest more p has is here =
    subst (λ xs. Took name done (cell.Int v ∷ rest) more p.next p (with_number name i xs p.next p.blocks)) (sym has)
    (record {
      left = refl;
      handle = refl;
      cells = written p.blocks name i (cell.Int v) c done rest is here;
      types = types-write p.blocks name i (cell.Int v);
      others = λ other h. put_other p.blocks name other (with_cell (p.blocks name) i (cell.Int v)) h;
    })

cell_took : (w : Crossing) (name : BlockName) (i : ℕ) (c : Cell) (v : ℤ) (done rest : List Cell) (more : List WireCell) (p : Part)
    → p.sent ≡ sent_by w p.next v ++ more → (p.blocks name).cells ≡ done ++ c ∷ rest → length done ≡ i
    → Took name done (left_cell w p.next c v ∷ rest) more (next_by w p.next) p (taken_cell w name i p)
cell_took Stays name i c v done rest more p has is here =
    record { left = has; handle = refl; cells = is; types = λ other. refl; others = λ other h. refl }
cell_took Plain name i c v done rest more p has is here = plain_took name i c v done rest more p has is here
cell_took Sealed name i c v done rest more p has is here = record {
  left = ap (drop 1) has;
  handle = refl;
  cells = written p.blocks name i (cell.Sealed p.next) c done rest is here;
  types = types-write p.blocks name i (cell.Sealed p.next);
  others = λ other h. put_other p.blocks name other (with_cell (p.blocks name) i (cell.Sealed p.next)) h;
}

-- ---- one block

-- a cell, and then others
then_took : (name : BlockName) (x : Cell) (done rest tail : List Cell) (middle more : List WireCell) (mid next : ℕ) (p q r : Part)
    → Took name done (x ∷ rest) middle mid p q → Took name (done ++ x ∷ []) tail more next q r → Took name done (x ∷ tail) more next p r
then_took name x done rest tail middle more mid next p q r one all = record {
  left = all.left;
  handle = all.handle;
  cells = all.cells ∙ append_assoc done (x ∷ []) tail;
  types = λ other. all.types other ∙ one.types other;
  others = λ other h. all.others other h ∙ one.others other h;
}

pub cells_took : (crossing : ℕ → ℕ → Crossing) (name : BlockName) (k i : ℕ) (types : List IntType) (done rest : List Cell) (vs : List ℤ)
    (more : List WireCell) (p : Part)
    → p.sent ≡ sent p.next (places_from crossing k i types) vs ++ more → (p.blocks name).cells ≡ done ++ rest → length done ≡ i
    → length types ≡ length rest → length types ≡ length vs
    → Took name done (left_cells (crossing k) i p.next rest vs) more (next_after p.next (places_from crossing k i types)) p
    (taken_cells crossing name k i types p)
cells_took crossing name k i [] done [] [] more p has is here lr lv =
    record { left = has; handle = refl; cells = is; types = λ other. refl; others = λ other h. refl }
cells_took crossing name k i [] done [] (v ∷ vs) more p has is here lr lv = absurd (omega arith)
cells_took crossing name k i [] done (c ∷ rest) vs more p has is here lr lv = absurd (omega arith)
cells_took crossing name k i (t ∷ types) done [] vs more p has is here lr lv = absurd (omega arith)
cells_took crossing name k i (t ∷ types) done (c ∷ rest) [] more p has is here lr lv = absurd (omega arith)
cells_took crossing name k i (t ∷ types) done (c ∷ rest) (v ∷ vs) more p has is here lr lv =
    let w = crossing k i in
    let x = left_cell w p.next c v in
    let places = places_from crossing k (suc i) types in
    let tail = sent (next_by w p.next) places vs in
    let q = taken_cell w name i p in
    let one : Took name done (x ∷ rest) (tail ++ more) (next_by w p.next) p q =
    cell_took w name i c v done rest (tail ++ more) p (has ∙ append_assoc (sent_by w p.next v) tail more) is here in
    let long = length-append done (x ∷ []) in
    let all : Took name (done ++ x ∷ []) (left_cells (crossing k) (suc i) q.next rest vs) more (next_after q.next places) q
    (taken_cells crossing name k (suc i) types q) =
    cells_took crossing name k (suc i) types (done ++ x ∷ []) rest vs more q
    (one.left ∙ ap (λ n. sent n places vs ++ more) (sym one.handle))
    (one.cells ∙ sym (append_assoc done (x ∷ []) rest)) (omega (arith, long, here)) (omega arith) (omega arith) in
    then_took name x done rest (left_cells (crossing k) (suc i) (next_by w p.next) rest vs) (tail ++ more) more (next_by w p.next)
    (next_after (next_by w p.next) places) p q (taken_cells crossing name k (suc i) types q) one
    (subst (λ n. Took name (done ++ x ∷ []) (left_cells (crossing k) (suc i) n rest vs) more (next_after n places) q
    (taken_cells crossing name k (suc i) types q)) one.handle all)

-- ---- all blocks

abbrev pub types_by : Blocks → List BlockName → List (List IntType)
types_by blocks names = map (λ name. (blocks name).types) names

-- the same of several blocks, into which the numbers of the received ones are taken
pub record TookAll (crossing : ℕ → ℕ → Crossing) (served : Blocks) (k : ℕ) (names : List BlockName) (more : List WireCell) (p q : Part) : Type 0 where
  pub left : q.sent ≡ more
  pub handle : q.next ≡ next_after p.next (places_of crossing k (types_by p.blocks names))
  pub cells : AreLeft crossing k names p.next p.blocks served q.blocks
  pub types : (other : BlockName) → (q.blocks other).types ≡ (p.blocks other).types
  pub beside : (other : BlockName) → is_among names other ≡ false → q.blocks other ≡ p.blocks other

pub next_after-append : (handle : ℕ) (ps qs : List Place) → next_after handle (ps ++ qs) ≡ next_after (next_after handle ps) qs
next_after-append handle [] qs = refl
next_after-append handle (p ∷ ps) qs = next_after-append (next_by p.way handle) ps qs

pub same_types : (a b : Blocks) (names : List BlockName) → ((n : BlockName) → (a n).types ≡ (b n).types) → types_by a names ≡ types_by b names
same_types a b [] h = refl
same_types a b (n ∷ names) h = ap (λ ts. ts ∷ types_by a names) (h n) ∙ ap (λ ts. (b n).types ∷ ts) (same_types a b names h)

pub all_whole : (old new : Blocks) (names : List BlockName) → SameShape old new → list_all (λ name. is_whole (old name)) names ≡ true
    → list_all (λ name. is_whole (new name)) names ≡ true
all_whole old new [] same h = refl
all_whole old new (n ∷ names) same h =
    and_from (is_whole (new n)) (list_all (λ name. is_whole (new name)) names)
    (whole_stays old new n same (and_true_first (is_whole (old n)) (list_all (λ name. is_whole (old name)) names) h))
    (all_whole old new names same (and_true_second (is_whole (old n)) (list_all (λ name. is_whole (old name)) names) h))

-- what was there before counts only in the blocks of these names
left_same : (crossing : ℕ → ℕ → Crossing) (k : ℕ) (names : List BlockName) (handle : ℕ) (a b served after : Blocks)
    → ((n : BlockName) → is_among names n ≡ true → a n ≡ b n)
    → AreLeft crossing k names handle a served after → AreLeft crossing k names handle b served after
left_same crossing k [] handle a b served after h left = tt {0}
left_same crossing k (m ∷ names) handle a b served after h left =
    let here = h m (or_left (is_same_name m m) (is_among names m) (is_same_name-self m)) in (
      left.0 ∙ ap (λ (x : Block). left_cells (crossing k) 0 handle x.cells (map number_in (served (Received k)).cells)) here,
      left_same crossing (suc k) names (next_after handle (places_from crossing k 0 (b m).types)) a b served after
          (λ n among. h n (or_right (is_same_name m n) (is_among names n) among))
          (subst (λ (x : Block). AreLeft crossing (suc k) names (next_after handle (places_from crossing k 0 x.types)) a served after) here left.1),
    )

-- a block, and then others
then_all : (crossing : ℕ → ℕ → Crossing) (served : Blocks) (k : ℕ) (name : BlockName) (names : List BlockName) (middle more : List WireCell)
    (p q r : Part) → is_among names name ≡ false
    → Took name [] (left_cells (crossing k) 0 p.next (p.blocks name).cells (map number_in (served (Received k)).cells)) middle
    (next_after p.next (places_from crossing k 0 (p.blocks name).types)) p q
    → TookAll crossing served (suc k) names more q r → TookAll crossing served k (name ∷ names) more p r
then_all crossing served k name names middle more p q r alone one all =
    let places = places_from crossing k 0 (p.blocks name).types in
    let others = places_of crossing (suc k) (types_by p.blocks names) in
    record {
      left = all.left;
      handle = all.handle ∙ ap (λ n. next_after n (places_of crossing (suc k) (types_by q.blocks names))) one.handle
          ∙ ap (λ ts. next_after (next_after p.next places) (places_of crossing (suc k) ts)) (same_types q.blocks p.blocks names one.types)
          ∙ sym (next_after-append p.next places others);
      cells = (
        ap (λ (b : Block). b.cells) (all.beside name alone) ∙ one.cells,
        subst (λ n. AreLeft crossing (suc k) names n p.blocks served r.blocks) one.handle
            (left_same crossing (suc k) names q.next q.blocks p.blocks served r.blocks
            (λ n among. one.others n (apart name n names alone among)) all.cells),
      );
      types = λ other. all.types other ∙ one.types other;
      beside = λ other h.
          let parts = or_parts (is_same_name name other) (is_among names other) h in
          all.beside other parts.1 ∙ one.others other parts.0;
    }

pub blocks_took : (crossing : ℕ → ℕ → Crossing) (served : Blocks) (k : ℕ) (names : List BlockName) (more : List WireCell) (p : Part)
    → are_distinct names ≡ true → list_all (λ name. is_whole (p.blocks name)) names ≡ true → AreServed served k (types_by p.blocks names)
    → p.sent ≡ sent p.next (places_of crossing k (types_by p.blocks names)) (received served k (types_by p.blocks names)) ++ more
    → TookAll crossing served k names more p (taken_blocks crossing k names p)
blocks_took crossing served k [] more p distinct whole serves has =
    record { left = has; handle = refl; cells = tt {0}; types = λ other. refl; beside = λ other h. refl }
blocks_took crossing served k (name ∷ names) more p distinct whole serves has =
    let types = (p.blocks name).types in
    let numbers = (served (Received k)).cells in
    let vs = map number_in numbers in
    let places = places_from crossing k 0 types in
    let rest = types_by p.blocks names in
    let tail = sent (next_after p.next places) (places_of crossing (suc k) rest) (received served (suc k) rest) in
    let q = taken_cells crossing name k 0 types p in
    let alone : is_among names name ≡ false = from_not_true (is_among names name) (and_true_first (not (is_among names name)) (are_distinct names) distinct) in
    let here = whole_count (p.blocks name) (and_true_first (is_whole (p.blocks name)) (list_all (λ name. is_whole (p.blocks name)) names) whole) in
    let count : length types ≡ length vs = holds_length types numbers serves.1 ∙ sym (length-map numbers number_in) in
    let cut : p.sent ≡ sent p.next places vs ++ (tail ++ more) =
    has ∙ ap (λ xs. xs ++ more) (sent-append p.next places (places_of crossing (suc k) rest) vs (received served (suc k) rest)
    (length-places_from crossing k 0 types ∙ count))
    ∙ append_assoc (sent p.next places vs) tail more in
    let one : Took name [] (left_cells (crossing k) 0 p.next (p.blocks name).cells vs) (tail ++ more) (next_after p.next places) p q =
    cells_took crossing name k 0 types [] (p.blocks name).cells vs (tail ++ more) p cut refl refl here count in
    let same : types_by q.blocks names ≡ rest = same_types q.blocks p.blocks names one.types in
    let all : TookAll crossing served (suc k) names more q (taken_blocks crossing (suc k) names q) =
    blocks_took crossing served (suc k) names more q (and_true_second (not (is_among names name)) (are_distinct names) distinct)
    (all_whole p.blocks q.blocks names (cells_shape crossing name k 0 types p)
    (and_true_second (is_whole (p.blocks name)) (list_all (λ name. is_whole (p.blocks name)) names) whole))
    (subst (AreServed served (suc k)) (sym same) serves.2)
    (one.left ∙ ap (λ ts. sent (next_after p.next places) (places_of crossing (suc k) ts) (received served (suc k) ts) ++ more) (sym same)
    ∙ ap (λ n. sent n (places_of crossing (suc k) (types_by q.blocks names)) (received served (suc k) (types_by q.blocks names)) ++ more)
    (sym one.handle)) in
    then_all crossing served k name names (tail ++ more) more p q (taken_blocks crossing (suc k) names q) alone one all
