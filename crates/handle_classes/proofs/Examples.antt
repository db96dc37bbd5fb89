-- The definitions tried: one local holds a handle, and another a number.
use Rattle.std.proofs.Common.{◌≡◌, ℕ, pos, refl, true, false, [], ◌∷◌}
use Rattle.pt_base.specs.declared.int_type.IntType.TheVariants as i
use Rattle.pt_int.specs.declared.operator.UnOp.TheVariants.{Minus}
use Rattle.typed_tree.specs.declared.types.VarTy.TheVariants as ty
use Rattle.handle_store.specs.declared.handle.Handle.{Handle}
use Rattle.block_memory.specs.declared.cell.Cell.TheVariants.{Int, Sealed}
use Rattle.block_memory.specs.declared.cell.BlockName.TheVariants.{Local}
use Rattle.block_memory.specs.Blocks.{Blocks, no_blocks, put}
use Rattle.pt_core.specs.CodeTree.{local, place, ExprTree, read, unary, convert}
use Rattle.pt_core.specs.Types.{Context}
use Rattle.handle_classes.specs.Computes.{meets}

names : Context
names = record { structs = []; globals = []; variables = ty.Int i.Int ∷ ty.Int i.Int ∷ [] }

memory : Handle → Blocks
memory h = put (put no_blocks (Local 1 0) (record { types = i.Int ∷ []; cells = Sealed h ∷ [] })) (Local 1 1) (record { types = i.Int ∷ []; cells = Int (pos 7) ∷ [] })

variable : ℕ → ExprTree
variable v = read (place (local v) [])

minus : ExprTree → ExprTree
minus e = unary Minus i.Int e (record { from = 0; to = 0 })

a_handle_is_met : (h : Handle) → meets names 1 (minus (variable 0)) (memory h) ≡ true
unfolding names memory variable minus
a_handle_is_met h = refl

a_number_is_fine : (h : Handle) → meets names 1 (minus (variable 1)) (memory h) ≡ false
unfolding names memory variable minus
a_number_is_fine h = refl

a_handle_is_read : (h : Handle) → meets names 1 (variable 0) (memory h) ≡ false
unfolding names memory variable
a_handle_is_read h = refl

it_stays_in_its_type : (h : Handle) → meets names 1 (convert i.Int (variable 0)) (memory h) ≡ false
unfolding names memory variable
it_stays_in_its_type h = refl

and_in_no_other : (h : Handle) → meets names 1 (convert i.Long (variable 0)) (memory h) ≡ true
unfolding names memory variable
and_in_no_other h = refl
