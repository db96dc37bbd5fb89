-- The bytes of an expression before and behind those of its first operand, by which a chain of operators
-- is written in a loop.
use Rattle.std.specs.Prelude.{ℕ, List, [], ◌∷◌, ◌++◌, Option, Some, None, FitsSigned}
use Rattle.std.specs.Int.{w128}
use Rattle.wire.specs.Spelling.{four_bytes, sixteen_signed_bytes, truth_byte, type_byte}
use Rattle.pt_core.specs.CodeTree.{PlaceTree, place, local, global, deref, ExprTree, constant, read, unary, binary, convert, null, address, decay, move, compare, difference}
use Rattle.boot_fields.specs.Spelling.{list_bytes, span_bytes, elem_bytes, unary_byte, binary_byte, expr_bytes}
use Rattle.boot_fields.specs.Limits.{Fits32, FitsList, FitsSpan, FitsElem, FitsExpr}

-- ---- places

-- before the pointer at which a place begins, or, where there is none, its root
abbrev pub place_head : PlaceTree → List ℕ
place_head (place (local v) path) = 0 ∷ four_bytes v
place_head (place (global g) path) = 1 ∷ four_bytes g
place_head (place (deref a s) path) = 2 ∷ []

abbrev pub place_tail : PlaceTree → List ℕ
place_tail (place (local v) path) = list_bytes four_bytes path
place_tail (place (global g) path) = list_bytes four_bytes path
place_tail (place (deref a s) path) = span_bytes s ++ list_bytes four_bytes path

abbrev pub FitsPlaceHead : PlaceTree → Type 0
FitsPlaceHead (place (local v) path) = Fits32 v
FitsPlaceHead (place (global g) path) = Fits32 g
FitsPlaceHead (place (deref a s) path) = Unit {0}

abbrev pub FitsPlaceTail : PlaceTree → Type 0
FitsPlaceTail (place (local v) path) = FitsList Fits32 path
FitsPlaceTail (place (global g) path) = FitsList Fits32 path
FitsPlaceTail (place (deref a s) path) = FitsSpan s × FitsList Fits32 path

-- ---- expressions

-- the first operand, or the pointer of the place, where there is one
abbrev pub left_bytes : Option ExprTree → List ℕ
left_bytes None = []
left_bytes (Some a) = expr_bytes a

abbrev pub head_bytes : ExprTree → List ℕ
head_bytes (constant t v) = 0 ∷ type_byte t ∷ sixteen_signed_bytes v
head_bytes (read p) = 1 ∷ place_head p
head_bytes (unary op t a s) = 2 ∷ unary_byte op ∷ type_byte t ∷ []
head_bytes (binary op t a b s) = 3 ∷ binary_byte op ∷ type_byte t ∷ []
head_bytes (convert t a) = 4 ∷ type_byte t ∷ []
head_bytes (null item) = 5 ∷ elem_bytes item
head_bytes (address p) = 6 ∷ place_head p
head_bytes (decay p) = 7 ∷ place_head p
head_bytes (move a b back s) = 8 ∷ []
head_bytes (compare op a b s) = 9 ∷ binary_byte op ∷ []
head_bytes (difference a b s) = 10 ∷ []

abbrev pub tail_bytes : ExprTree → List ℕ
tail_bytes (constant t v) = []
tail_bytes (read p) = place_tail p
tail_bytes (unary op t a s) = span_bytes s
tail_bytes (binary op t a b s) = expr_bytes b ++ span_bytes s
tail_bytes (convert t a) = []
tail_bytes (null item) = []
tail_bytes (address p) = place_tail p
tail_bytes (decay p) = place_tail p
tail_bytes (move a b back s) = expr_bytes b ++ truth_byte back ∷ span_bytes s
tail_bytes (compare op a b s) = expr_bytes b ++ span_bytes s
tail_bytes (difference a b s) = expr_bytes b ++ span_bytes s

abbrev pub FitsHead : ExprTree → Type 0
FitsHead (constant t v) = FitsSigned w128 v
FitsHead (read p) = FitsPlaceHead p
FitsHead (unary op t a s) = Unit {0}
FitsHead (binary op t a b s) = Unit {0}
FitsHead (convert t a) = Unit {0}
FitsHead (null item) = FitsElem item
FitsHead (address p) = FitsPlaceHead p
FitsHead (decay p) = FitsPlaceHead p
FitsHead (move a b back s) = Unit {0}
FitsHead (compare op a b s) = Unit {0}
FitsHead (difference a b s) = Unit {0}

abbrev pub FitsTail : ExprTree → Type 0
FitsTail (constant t v) = Unit {0}
FitsTail (read p) = FitsPlaceTail p
FitsTail (unary op t a s) = FitsSpan s
FitsTail (binary op t a b s) = FitsExpr b × FitsSpan s
FitsTail (convert t a) = Unit {0}
FitsTail (null item) = Unit {0}
FitsTail (address p) = FitsPlaceTail p
FitsTail (decay p) = FitsPlaceTail p
FitsTail (move a b back s) = FitsExpr b × FitsSpan s
FitsTail (compare op a b s) = FitsExpr b × FitsSpan s
FitsTail (difference a b s) = FitsExpr b × FitsSpan s
