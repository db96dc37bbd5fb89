-- How high types stand: above what they are made of.
use Rattle.std.specs.Prelude.{ℕ, ◌+◌, ◌*◌}
use Rattle.typed_tree.specs.declared.types.VarTy.{VarTy}
use Rattle.typed_tree.specs.declared.types.VarTy.TheVariants.{Int, Struct, Array, Pointer}
use Rattle.pt_tree.specs.declared.signature.Elem.{Elem}
use Rattle.pt_tree.specs.declared.signature.Elem.TheVariants as e

abbrev pub element_rank : Elem → ℕ
element_rank (e.Int t) = 0
element_rank (e.Struct n) = 4 * n + 4

abbrev pub rank : VarTy → ℕ
rank (Int t) = 0
rank (Struct n) = 4 * n + 4
rank (Array elem count) = element_rank elem + 2
rank (Pointer elem fixed) = 0
