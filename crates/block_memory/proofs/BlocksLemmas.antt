-- Laws of memories that callers need.
use Rattle.std.proofs.Common.{◌≡◌, ◌∙◌, ◌+◌, ◌≤◌, ◌&&◌, ℕ, Bool, true, false, nat_eq, nat_lt, if◌then◌else◌, List, get_or, length, map, refl, ap, subst, arith, length-set}
use Rattle.std.proofs.lemmas.Bool.Decides.{nat_tests}
use Rattle.block_memory.specs.declared.cell.BlockName.{BlockName}
use Rattle.block_memory.specs.declared.cell.BlockName.TheVariants.{Local, Global, Received}
use Rattle.block_memory.specs.declared.cell.Cell.{Cell}
use Rattle.block_memory.specs.declared.shape.BlockShape.{BlockShape}
use Rattle.block_memory.specs.Block.{Block, fresh, no_block, with_cell}
use Rattle.block_memory.specs.Blocks.{Blocks, is_same_name, IsFree, no_blocks, put, with_frame, without_frames}
use Rattle.pt_base.proofs.Booleans.{and_parts}
use Rattle.pt_base.proofs.Numbers.{nat_eq_same}

-- the test tells whether two names are one
pub same_name : (name other : BlockName) → is_same_name name other ≡ true → name ≡ other
same_name (Local d v) (Local e w) h =
    let parts = and_parts (nat_eq d e) (nat_eq v w) h in
    ap (λ n. Local n v) (nat_eq_same d e parts.0) ∙ ap (Local e) (nat_eq_same v w parts.1)
same_name (Local d v) (Global n) h = cc
same_name (Local d v) (Received n) h = cc
same_name (Global n) (Local e w) h = cc
same_name (Global n) (Global m) h = ap Global (nat_eq_same n m h)
same_name (Global n) (Received m) h = cc
same_name (Received n) (Local e w) h = cc
same_name (Received n) (Global m) h = cc
same_name (Received n) (Received m) h = ap Received (nat_eq_same n m h)

pub is_same_name-self : (name : BlockName) → is_same_name name name ≡ true
is_same_name-self (Local d v) =
    let same-depth : nat_eq d d ≡ true = grind (arith, nat_tests) in
    let same-var : nat_eq v v ≡ true = grind (arith, nat_tests) in
    ap (λ b. b && nat_eq v v) same-depth ∙ same-var
is_same_name-self (Global n) = grind (arith, nat_tests)
is_same_name-self (Received n) = grind (arith, nat_tests)

pub put_same : (blocks : Blocks) (name : BlockName) (block : Block) → put blocks name block name ≡ block
put_same blocks name block = ap (λ (b : Bool). if b then block else blocks name) (is_same_name-self name)

pub put_other : (blocks : Blocks) (name other : BlockName) (block : Block) → is_same_name name other ≡ false → put blocks name block other ≡ blocks other
put_other blocks name other block h = ap (λ (b : Bool). if b then block else blocks other) h

-- what holds of the block that is put and of those that were there holds of all
pub put_keeps : (P : BlockName → Block → Type 0) (blocks : Blocks) (name : BlockName) (block : Block) → P name block → ((other : BlockName) → P other (blocks other)) → (other : BlockName) → P other (put blocks name block other)
put_keeps P blocks name block here others other = either (is_same_name name other) refl
  where
    either : (b : Bool) → is_same_name name other ≡ b → P other (if b then block else blocks other)
    either true e = subst (λ n. P n block) (same_name name other e) here
    either false e = others other

-- writing a cell keeps each block's types and its number of cells
pub types-write : (blocks : Blocks) (name : BlockName) (i : ℕ) (c : Cell) (other : BlockName) → (put blocks name (with_cell (blocks name) i c) other).types ≡ (blocks other).types
types-write blocks name i c =
    put_keeps (λ n b. b.types ≡ (blocks n).types) blocks name (with_cell (blocks name) i c) refl (λ other. refl)

pub length-write : (blocks : Blocks) (name : BlockName) (i : ℕ) (c : Cell) (other : BlockName) → length (put blocks name (with_cell (blocks name) i c) other).cells ≡ length (blocks other).cells
length-write blocks name i c =
    put_keeps (λ n b. length b.cells ≡ length (blocks n).cells) blocks name (with_cell (blocks name) i c) (length-set (blocks name).cells i c) (λ other. refl)

-- a depth is free after it was left, and the next one after it was entered; writing a cell keeps that
pub IsFree-none : (depth : ℕ) → IsFree no_blocks depth
IsFree-none depth = record { none = λ d v le. refl }

pub IsFree-left : (blocks : Blocks) (depth : ℕ) → IsFree (without_frames blocks depth) depth
IsFree-left blocks depth = record {
  none = λ d v le.
      let no : nat_lt d depth ≡ false = grind (arith, nat_tests) in
      ap (λ (b : Bool). if b then blocks (Local d v) else no_block) no;
}

pub IsFree-entered : (blocks : Blocks) (depth : ℕ) (shapes : List BlockShape) → IsFree blocks depth → IsFree (with_frame blocks depth shapes) (depth + 1)
IsFree-entered blocks depth shapes free = record {
  none = λ d v le.
      let no : nat_eq d depth ≡ false = grind (arith, nat_tests) in
      ap (λ (b : Bool). if b then get_or (map fresh shapes) v no_block else blocks (Local d v)) no ∙ free.none d v (omega arith);
}

pub IsFree-put : (blocks : Blocks) (depth : ℕ) (name : BlockName) (block : Block) → (blocks name ≡ no_block → block ≡ no_block) → IsFree blocks depth → IsFree (put blocks name block) depth
IsFree-put blocks depth name block keeps free = record { none = λ d v le. either d v le (is_same_name name (Local d v)) refl }
  where
    either : (d v : ℕ) → depth ≤ d → (b : Bool) → is_same_name name (Local d v) ≡ b → (if b then block else blocks (Local d v)) ≡ no_block
    either d v le true e = keeps (ap blocks (same_name name (Local d v) e) ∙ free.none d v le)
    either d v le false e = free.none d v le

pub IsFree-write : (blocks : Blocks) (depth : ℕ) (name : BlockName) (i : ℕ) (c : Cell) → IsFree blocks depth → IsFree (put blocks name (with_cell (blocks name) i c)) depth
IsFree-write blocks depth name i c =
    IsFree-put blocks depth name (with_cell (blocks name) i c) (λ h. ap (λ (x : Block). with_cell x i c) h)
