-- A reply gives few handles.
use Rattle.std.proofs.Common.{◌≡◌, ◌∙◌, ◌+◌, ◌*◌, ◌≤◌, ℕ, zero, suc, ap, sym, refl, arith, List, [], ◌∷◌, length, Bool, true, false, Option, Some, None, if◌then◌else◌}
use Rattle.std.specs.Prelude.{◌&&◌, nat_eq, nat_le}
use Rattle.std.specs.List.{list_all}
use Rattle.std.proofs.lemmas.Bool.Decides.{nat_tests}
use Rattle.pt_base.specs.declared.int_type.IntType.{IntType}
use Rattle.pt_base.proofs.Booleans.{and_true_first, and_true_second}
use Rattle.pt_tree.specs.declared.signature.Signature.{Signature}
use Rattle.block_memory.specs.declared.cell.BlockName.{BlockName}
use Rattle.block_memory.specs.Block.{Block}
use Rattle.block_memory.specs.Blocks.{Blocks, is_same_name, put}
use Rattle.block_memory.proofs.BlocksLemmas.{same_name}
use Rattle.wire.specs.declared.cell.WireCell.{WireCell}
use Rattle.marshalling.specs.declared.crossing.Crossing.{Crossing}
use Rattle.marshalling.specs.declared.crossing.Crossing.TheVariants.{Stays, Plain, Sealed}
use Rattle.marshalling.specs.Crossings.{result_crossing}
use Rattle.marshalling.specs.Packing.{names_of}
use Rattle.marshalling.specs.Replies.{next_after, next_by, result_places}
use Rattle.marshalling.specs.Taking.{Part, call_crossing, is_whole, known_reply, taken_blocks, taken_cell, taken_cells, with_number}
use Rattle.marshalling_law.specs.RepliesLaws.{PostingsGiveFew, RepliesGiveFew}

one_more : (w : Crossing) (handle : ℕ) → next_by w handle ≤ handle + 1
one_more Stays handle = omega arith
one_more Plain handle = omega arith
one_more Sealed handle = omega arith

result_more : (sig : Signature) (t : Option IntType) (handle : ℕ) → next_after handle (result_places sig t) ≤ handle + 1
result_more sig None handle = omega arith
result_more sig (Some t) handle = one_more (result_crossing sig) handle

-- ---- one cell

number_more : (name : BlockName) (i : ℕ) (cells : List WireCell) (next : ℕ) (blocks : Blocks) → (with_number name i cells next blocks).next ≤ next + 1
number_more name i [] next blocks = omega arith
number_more name i (c ∷ cells) next blocks = omega arith

cell_more : (w : Crossing) (name : BlockName) (i : ℕ) (p : Part) → (taken_cell w name i p).next ≤ p.next + 1
cell_more Stays name i p = omega arith
cell_more Plain name i p = number_more name i p.sent p.next p.blocks
cell_more Sealed name i p = omega arith

put_types : (blocks : Blocks) (name : BlockName) (block : Block) (other : BlockName) → block.types ≡ (blocks name).types → (put blocks name block other).types ≡ (blocks other).types
put_types blocks name block other h = go (is_same_name name other) refl
  where
    go : (b : Bool) → is_same_name name other ≡ b → (if b then block else blocks other).types ≡ (blocks other).types
    go true e = h ∙ ap (λ n. (blocks n).types) (same_name name other e)
    go false e = refl

number_types : (name : BlockName) (i : ℕ) (cells : List WireCell) (next : ℕ) (blocks : Blocks) (other : BlockName) → ((with_number name i cells next blocks).blocks other).types ≡ (blocks other).types
number_types name i [] next blocks other = refl
number_types name i (c ∷ cells) next blocks other = put_types blocks name _ other refl

cell_types : (w : Crossing) (name : BlockName) (i : ℕ) (p : Part) (other : BlockName) → ((taken_cell w name i p).blocks other).types ≡ (p.blocks other).types
cell_types Stays name i p other = refl
cell_types Plain name i p other = number_types name i p.sent p.next p.blocks other
cell_types Sealed name i p other = put_types p.blocks name _ other refl

-- ---- blocks

cells_more : (crossing : ℕ → ℕ → Crossing) (name : BlockName) (k i : ℕ) (types : List IntType) (p : Part) → (taken_cells crossing name k i types p).next ≤ p.next + length types
cells_more crossing name k i [] p = omega arith
cells_more crossing name k i (t ∷ types) p =
    let here = cell_more (crossing k i) name i p in
    let rest : (taken_cells crossing name k (suc i) types (taken_cell (crossing k i) name i p)).next ≤ (taken_cell (crossing k i) name i p).next + length types = cells_more crossing name k (suc i) types (taken_cell (crossing k i) name i p) in
    omega (arith, here, rest)

cells_types : (crossing : ℕ → ℕ → Crossing) (name : BlockName) (k i : ℕ) (types : List IntType) (p : Part) (other : BlockName) → ((taken_cells crossing name k i types p).blocks other).types ≡ (p.blocks other).types
cells_types crossing name k i [] p other = refl
cells_types crossing name k i (t ∷ types) p other = cells_types crossing name k (suc i) types (taken_cell (crossing k i) name i p) other ∙ cell_types (crossing k i) name i p other

-- none of these blocks is larger than an object
abbrev AreSmall : List BlockName → Blocks → Type 0
AreSmall [] blocks = Unit {0}
AreSmall (n ∷ names) blocks = (length (blocks n).types ≤ 65_536) × AreSmall names blocks

still_small : (names : List BlockName) (before after : Blocks) → AreSmall names before → ((n : BlockName) → (after n).types ≡ (before n).types) → AreSmall names after
still_small [] before after h same = tt {0}
still_small (n ∷ names) before after h same = (let long : length (after n).types ≡ length (before n).types = ap (λ (ts : List IntType). length ts) (same n) in let few = h.0 in omega (arith, long, few), still_small names before after h.1 same)

blocks_more : (crossing : ℕ → ℕ → Crossing) (k : ℕ) (names : List BlockName) (p : Part) → AreSmall names p.blocks → (taken_blocks crossing k names p).next ≤ p.next + length names * 65_536
blocks_more crossing k [] p small = omega arith
blocks_more crossing k (n ∷ names) p small =
    let q : Part = taken_cells crossing n k 0 (p.blocks n).types p in
    let here : q.next ≤ p.next + length (p.blocks n).types = cells_more crossing n k 0 (p.blocks n).types p in
    let rest : (taken_blocks crossing (suc k) names q).next ≤ q.next + length names * 65_536 = blocks_more crossing (suc k) names q (still_small names p.blocks q.blocks small.1 (cells_types crossing n k 0 (p.blocks n).types p)) in
    let few = small.0 in
    omega (arith, here, rest, few)

whole_small : (x : Blocks) (names : List BlockName) → list_all (λ name. is_whole (x name)) names ≡ true → AreSmall names x
whole_small x [] h = tt {0}
whole_small x (n ∷ names) h = (one (length (x n).types) (length (x n).cells) (and_true_first (is_whole (x n)) (list_all (λ name. is_whole (x name)) names) h), whole_small x names (and_true_second (is_whole (x n)) (list_all (λ name. is_whole (x name)) names) h))
  where
    one : (a b : ℕ) → (nat_eq a b && nat_le b 65_536) ≡ true → a ≤ 65_536
    one a b h = both (and_true_first (nat_eq a b) (nat_le b 65_536) h) (and_true_second (nat_eq a b) (nat_le b 65_536) h)
      where
        both : nat_eq a b ≡ true → nat_le b 65_536 ≡ true → a ≤ 65_536
        both h k = grind (arith, nat_tests)

pub replies_give_few : RepliesGiveFew
replies_give_few handle x structs sig args reply whole few =
    let result = result_more sig sig.result handle in
    let blocks = blocks_more (call_crossing structs sig.params args) 0 (names_of args) (record { sent = reply.cells; next = next_after handle (result_places sig sig.result); blocks = x }) (whole_small x (names_of args) whole) in
    omega (arith, result, blocks, few)

pub postings_give_few : PostingsGiveFew
postings_give_few handle x structs sig args whole few = replies_give_few handle x structs sig args (known_reply handle x structs sig args) whole few
