-- The plain numbers of a call: those that it gives for integer parameters that aren't marked.
use Rattle.std.specs.Prelude.{ℤ, Bool, false, not, List, [], ◌∷◌, if◌then◌else◌}
use Rattle.pt_tree.specs.declared.signature.Param.{Param}
use Rattle.pt_tree.specs.declared.signature.ParamKind.{ParamKind}
use Rattle.pt_tree.specs.declared.signature.ParamKind.TheVariants.{Int, Ptr}

-- the parameter takes a number, and isn't marked
abbrev pub is_plain : ParamKind → Bool → Bool
is_plain (Int t) marked = not marked
is_plain (Ptr elem fixed) marked = false

-- the numbers that a call gives for unmarked integer parameters, of all that it gives
abbrev pub plain_numbers : List Param → List ℤ → List ℤ
plain_numbers [] vs = []
plain_numbers (p ∷ ps) [] = []
plain_numbers (p ∷ ps) (v ∷ vs) = if is_plain p.kind p.marked then v ∷ plain_numbers ps vs else plain_numbers ps vs
