-- The operand of an expression that stands leftmost: a chain of operators is as deep as it is long
-- there.
use Rattle.std.specs.Prelude.{◌≡◌, List, [], ◌∷◌, Option, None, Some}
use Rattle.pt_core.specs.CodeTree.{ExprTree, PlaceTree, place, local, global, deref, constant, read, unary, binary, convert, null, address, decay, move, compare, difference}

-- the pointer at which a place begins
abbrev pub pointer_in : PlaceTree → Option ExprTree
pointer_in (place (local v) path) = None
pointer_in (place (global g) path) = None
pointer_in (place (deref a s) path) = Some a

-- the first operand, or the pointer of a place
abbrev pub left_of : ExprTree → Option ExprTree
left_of (constant t v) = None
left_of (read p) = pointer_in p
left_of (unary op t a s) = Some a
left_of (binary op t a b s) = Some a
left_of (convert t a) = Some a
left_of (null elem) = None
left_of (address p) = pointer_in p
left_of (decay p) = pointer_in p
left_of (move a b back s) = Some a
left_of (compare op a b s) = Some a
left_of (difference a b s) = Some a

-- the left operands of the first, one inside the other, are these and then the last
abbrev pub Leads : ExprTree → List ExprTree → ExprTree → Type 0
Leads whole [] last = whole ≡ last
Leads whole (a ∷ rest) last = (a ≡ whole) × ((b : ExprTree) × ((left_of a ≡ Some b) × Leads b rest last))
