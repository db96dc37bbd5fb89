-- Laws of blocks by number.
use Rattle.std.proofs.Common.{◌≡◌, ◌∙◌, ◌<◌, ◌≤◌, ℕ, Bool, true, false, nat_lt, subst, suc, zero, List, [], ◌∷◌, ◌++◌, length, get_or, slice_get, Some, refl, ap, sym, arith}
use Rattle.std.proofs.lemmas.Bool.Decides.{nat_tests}
use Rattle.std.proofs.lemmas.List.{get_or_default, get_or_past}
use Rattle.std.proofs.lemmas.Option.{slice_get_read}
use Rattle.block_memory.specs.declared.cell.Cell.{Cell}
use Rattle.block_memory.specs.Block.{Block, no_block}
use Rattle.block_memory.specs.Table.{numbered}

-- blocks of no cells at the end change nothing
pub numbered-push : (blocks : List Block) (k : ℕ) → numbered (blocks ++ no_block ∷ []) k ≡ numbered blocks k
numbered-push [] zero = refl
numbered-push [] (suc k) = refl
numbered-push (b ∷ blocks) zero = refl
numbered-push (b ∷ blocks) (suc k) = numbered-push blocks k

block_live : (blocks : List Block) (number i : ℕ) → i < length (numbered blocks number).cells → number < length blocks
block_live blocks number i within = either (nat_lt number (length blocks)) refl
  where
    either : (b : Bool) → nat_lt number (length blocks) ≡ b → number < length blocks
    either true e = grind (arith, nat_tests)
    either false e =
        let le : length blocks ≤ number = grind (arith, nat_tests) in
        absurd (omega (arith, subst (λ (b : Block). i < length b.cells) (get_or_past blocks number no_block le) within))

pub table_read : (blocks now : List Block) (number i : ℕ) (b : Block) (cells : List Cell) (x : Cell) → blocks ≡ now → b ≡ get_or blocks number b → i < length (numbered now number).cells → cells ≡ b.cells → x ≡ get_or cells i x → slice_get (numbered now number).cells i ≡ Some x
table_read blocks now number i b cells x view read within lent cell =
    let inside : i < length (numbered blocks number).cells = subst (λ bs. i < length (numbered bs number).cells) (sym view) within in
    let block : numbered blocks number ≡ b = get_or_default blocks number no_block b (block_live blocks number i inside) ∙ sym read in
    let here : (numbered now number).cells ≡ cells = ap (λ bs. (numbered bs number).cells) (sym view) ∙ ap (λ (c : Block). c.cells) block ∙ sym lent in
    ap (λ xs. slice_get xs i) here ∙ slice_get_read cells (length cells) i x refl (subst (λ (xs : List Cell). i < length xs) here within) cell
