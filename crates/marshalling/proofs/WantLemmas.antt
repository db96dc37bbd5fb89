-- Steps of the walk that looks for a number in a reply.
use Rattle.std.proofs.Common.{◌≡◌, ◌<◌, ◌+◌, ◌++◌, ◌∙◌, sym, ap, ℕ, pos, Bool, true, false, List, length, drop, get_or, add-one}
use Rattle.std.specs.Prelude.{◌||◌}
use Rattle.pt_base.specs.declared.int_type.IntType.{IntType}
use Rattle.pt_base.specs.declared.int_type.IntType.TheVariants.{Char}
use Rattle.wire.specs.declared.cell.WireCell.{WireCell}
use Rattle.wire.specs.declared.cell.WireCell.TheVariants.{Number}
use Rattle.marshalling.specs.declared.crossing.Crossing.{Crossing}
use Rattle.marshalling.specs.Replies.{block_types, has_plain, is_plain, places_from, places_of, types_of}
use Rattle.marshalling.proofs.Lists.{at_drop, self_read}
use Rattle.marshalling.proofs.SealingLemmas.{plain_append}

abbrev TypedCells : Type 0
TypedCells = List (IntType × WireCell)

-- ---- one cell

cell_step : (crossing : ℕ → ℕ → Crossing) (k i : ℕ) (block : TypedCells) → i < length block
    → has_plain (places_from crossing k i (block_types (drop i block)))
    ≡ (is_plain (crossing k i) || has_plain (places_from crossing k (i + 1) (block_types (drop (i + 1) block))))
cell_step crossing k i block lt =
    at_drop (λ (b : TypedCells). has_plain (places_from crossing k i (block_types b))) block i (get_or block i (Char, Number (pos 0))) lt
    (self_read block i (Char, Number (pos 0)) lt)
    ∙ ap (λ j. is_plain (crossing k i) || has_plain (places_from crossing k j (block_types (drop (i + 1) block)))) (sym (add-one i))

or_of : (a b c : Bool) → a ≡ c → (a || b) ≡ (c || b)
or_of a b c e = ap (λ x. x || b) e

pub cell_plain : (crossing : ℕ → ℕ → Crossing) (w : Crossing) (k i : ℕ) (block : TypedCells) (t whole : Bool) → i < length block → w ≡ crossing k i
    → t ≡ is_plain w → t ≡ true
    → has_plain (places_from crossing k i (block_types (drop i block))) ≡ whole → true ≡ whole
cell_plain crossing w k i block t whole lt is told found so_far =
    sym (or_of (is_plain (crossing k i)) (has_plain (places_from crossing k (i + 1) (block_types (drop (i + 1) block)))) true
    (sym (ap is_plain is) ∙ sym told ∙ found)) ∙ sym (cell_step crossing k i block lt) ∙ so_far

pub cell_other : (crossing : ℕ → ℕ → Crossing) (w : Crossing) (k i : ℕ) (block : TypedCells) (t whole : Bool) → i < length block → w ≡ crossing k i
    → t ≡ is_plain w → t ≡ false
    → has_plain (places_from crossing k i (block_types (drop i block))) ≡ whole
    → has_plain (places_from crossing k (i + 1) (block_types (drop (i + 1) block))) ≡ whole
cell_other crossing w k i block t whole lt is told absent so_far =
    sym (or_of (is_plain (crossing k i)) (has_plain (places_from crossing k (i + 1) (block_types (drop (i + 1) block)))) false
    (sym (ap is_plain is) ∙ sym told ∙ absent)) ∙ sym (cell_step crossing k i block lt) ∙ so_far

-- ---- one block

block_step : (crossing : ℕ → ℕ → Crossing) (k : ℕ) (blocks : List TypedCells) (block : TypedCells) → k < length blocks → block ≡ get_or blocks k block
    → has_plain (places_of crossing k (types_of (drop k blocks)))
    ≡ (has_plain (places_from crossing k 0 (block_types block)) || has_plain (places_of crossing (k + 1) (types_of (drop (k + 1) blocks))))
block_step crossing k blocks block lt e =
    at_drop (λ (bs : List TypedCells). has_plain (places_of crossing k (types_of bs))) blocks k block lt e
    ∙ ap (λ j. has_plain (places_from crossing k 0 (block_types block) ++ places_of crossing j (types_of (drop (k + 1) blocks)))) (sym (add-one k))
    ∙ plain_append (places_from crossing k 0 (block_types block)) (places_of crossing (k + 1) (types_of (drop (k + 1) blocks)))

pub block_plain : (crossing : ℕ → ℕ → Crossing) (k : ℕ) (blocks : List TypedCells) (block items : TypedCells) (t whole : Bool) → k < length blocks
    → block ≡ get_or blocks k block → items ≡ block → t ≡ has_plain (places_from crossing k 0 (block_types items)) → t ≡ true
    → has_plain (places_of crossing k (types_of (drop k blocks))) ≡ whole → true ≡ whole
block_plain crossing k blocks block items t whole lt e same told found so_far =
    sym (or_of (has_plain (places_from crossing k 0 (block_types block))) (has_plain (places_of crossing (k + 1) (types_of (drop (k + 1) blocks)))) true
    (sym (ap (λ (b : TypedCells). has_plain (places_from crossing k 0 (block_types b))) same) ∙ sym told ∙ found))
    ∙ sym (block_step crossing k blocks block lt e) ∙ so_far

pub block_other : (crossing : ℕ → ℕ → Crossing) (k : ℕ) (blocks : List TypedCells) (block items : TypedCells) (t whole : Bool) → k < length blocks
    → block ≡ get_or blocks k block → items ≡ block → t ≡ has_plain (places_from crossing k 0 (block_types items)) → t ≡ false
    → has_plain (places_of crossing k (types_of (drop k blocks))) ≡ whole
    → has_plain (places_of crossing (k + 1) (types_of (drop (k + 1) blocks))) ≡ whole
block_other crossing k blocks block items t whole lt e same told absent so_far =
    sym (or_of (has_plain (places_from crossing k 0 (block_types block))) (has_plain (places_of crossing (k + 1) (types_of (drop (k + 1) blocks)))) false
    (sym (ap (λ (b : TypedCells). has_plain (places_from crossing k 0 (block_types b))) same) ∙ sym told ∙ absent))
    ∙ sym (block_step crossing k blocks block lt e) ∙ so_far
