-- The operators that compare.
use Rattle.std.specs.Prelude.{Bool, true, false}
use Rattle.pt_int.specs.declared.operator.BinOp.{BinOp}
use Rattle.pt_int.specs.declared.operator.BinOp.TheVariants.{Eq, Ge, Gt, Le, Lt, Ne}

-- the operators that tell a truth
abbrev pub is_comparison : BinOp → Bool
is_comparison Lt = true
is_comparison Gt = true
is_comparison Le = true
is_comparison Ge = true
is_comparison Eq = true
is_comparison Ne = true
is_comparison _ = false
