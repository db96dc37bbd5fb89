-- Reading an expression by what stands before its first operand and what stands behind it, by which a chain of
-- operators is read in a loop.
use Rattle.std.specs.Prelude.{◌≡◌, ℕ, zero, suc, List, [], ◌∷◌, Option, Some, None, Result, Ok, Err}
use Rattle.pt_base.specs.declared.span.Span.{Span}
use Rattle.pt_core.specs.CodeTree.{PlaceTree, place, local, global, deref, ExprTree, read, unary, binary, convert, null, address, decay, move, compare, difference, view_expr}
use Rattle.boot_fields.specs.declared.fault.ReadError.{ReadError}
use Rattle.boot_fields.specs.declared.fault.ReadError.TheVariants.{Bad}
use Rattle.boot_reading.specs.declared.starts.Head.{Head}
use Rattle.boot_reading.specs.declared.starts.Head.TheVariants as head
use Rattle.boot_reading.specs.declared.starts.Start.{Start}
use Rattle.boot_reading.specs.declared.starts.Start.TheVariants as start
use Rattle.boot_fields.specs.Reading.{◌>>=◌, Fails, Reading, mapped, both, list_at, number32_at, truth_at, span_at, int_type_at, elem_at, unary_op_at, binary_op_at, constant_at, expr_at}

-- what is made of what a function returned is what reading answers, unless memory ran out
abbrev pub GivesBy : {X Y : Type 0} → (X → Result Y ReadError) → Result X ReadError → Result Y ReadError → Type 0
GivesBy made (Ok x) reading = made x ≡ reading
GivesBy made (Err e) reading = Fails e reading

-- ---- places

-- a place, or none where it begins with a pointer, which stands behind
unfoldable pub place_start_at : List ℕ → Reading (Option PlaceTree)
place_start_at [] = Err Bad
place_start_at (zero ∷ rest) = mapped (λ p. Some (place (local p.0) p.1)) (both number32_at (list_at number32_at)) rest
place_start_at (suc zero ∷ rest) = mapped (λ p. Some (place (global p.0) p.1)) (both number32_at (list_at number32_at)) rest
place_start_at (suc (suc zero) ∷ rest) = Ok (None, rest)
place_start_at (suc (suc (suc b)) ∷ rest) = Err Bad

-- what stands behind the pointer of a place
unfoldable pub pointed_at : ExprTree → List ℕ → Reading PlaceTree
pointed_at a bytes = mapped (λ p. place (deref a p.0) p.1) (both span_at (list_at number32_at)) bytes

-- ---- expressions

-- an expression without a first operand, or what stands before the first operand
pub data StartTree : Type 0 where
  whole : ExprTree → StartTree
  opens : Head → StartTree

abbrev pub view_start : Start → StartTree
view_start (start.Whole e) = whole (view_expr e)
view_start (start.Opens h) = opens h

abbrev pub started : (PlaceTree → ExprTree) → Head → Option PlaceTree → StartTree
started made h None = opens h
started made h (Some p) = whole (made p)

unfoldable pub start_at : List ℕ → Reading StartTree
start_at [] = Err Bad
start_at (zero ∷ rest) = mapped whole constant_at rest
start_at (suc zero ∷ rest) = mapped (started read head.Read) place_start_at rest
start_at (suc (suc zero) ∷ rest) = mapped (λ p. opens (head.Unary p.0 p.1)) (both unary_op_at int_type_at) rest
start_at (suc (suc (suc zero)) ∷ rest) = mapped (λ p. opens (head.Binary p.0 p.1)) (both binary_op_at int_type_at) rest
start_at (suc (suc (suc (suc zero))) ∷ rest) = mapped (λ t. opens (head.Convert t)) int_type_at rest
start_at (suc (suc (suc (suc (suc zero)))) ∷ rest) = mapped (λ e. whole (null e)) elem_at rest
start_at (suc (suc (suc (suc (suc (suc zero))))) ∷ rest) = mapped (started address head.Addr) place_start_at rest
start_at (suc (suc (suc (suc (suc (suc (suc zero)))))) ∷ rest) = mapped (started decay head.Decay) place_start_at rest
start_at (suc (suc (suc (suc (suc (suc (suc (suc zero))))))) ∷ rest) = Ok (opens head.Move, rest)
start_at (suc (suc (suc (suc (suc (suc (suc (suc (suc zero)))))))) ∷ rest) = mapped (λ op. opens (head.Compare op)) binary_op_at rest
start_at (suc (suc (suc (suc (suc (suc (suc (suc (suc (suc zero))))))))) ∷ rest) = Ok (opens head.Diff, rest)
start_at (suc (suc (suc (suc (suc (suc (suc (suc (suc (suc (suc b)))))))))) ∷ rest) = Err Bad

-- a second operand and a span
abbrev pub operand_at : (List ℕ → Reading ExprTree) → List ℕ → Reading (ExprTree × Span)
operand_at expr bytes = both expr span_at bytes

-- what stands behind the first operand, which is there already, by how other operands are read
unfoldable pub closed_at : (List ℕ → Reading ExprTree) → Head → ExprTree → List ℕ → Reading ExprTree
closed_at expr (head.Unary op t) a bytes = mapped (λ s. unary op t a s) span_at bytes
closed_at expr (head.Binary op t) a bytes = mapped (λ p. binary op t a p.0 p.1) (operand_at expr) bytes
closed_at expr (head.Convert t) a bytes = Ok (convert t a, bytes)
closed_at expr head.Move a bytes = mapped (λ p. move a p.0 p.1.0 p.1.1) (both expr (both truth_at span_at)) bytes
closed_at expr (head.Compare op) a bytes = mapped (λ p. compare op a p.0 p.1) (operand_at expr) bytes
closed_at expr head.Diff a bytes = mapped (λ p. difference a p.0 p.1) (operand_at expr) bytes
closed_at expr head.Read a bytes = mapped read (pointed_at a) bytes
closed_at expr head.Addr a bytes = mapped address (pointed_at a) bytes
closed_at expr head.Decay a bytes = mapped decay (pointed_at a) bytes

-- what a reading of a first operand comes to below these, the innermost first, whose other operands are of at
-- most so many nested nodes, those of the next of one more, and so on
abbrev pub upwards : ℕ → List Head → Reading ExprTree → Reading ExprTree
upwards d [] found = found
upwards d (h ∷ hs) found = upwards (suc d) hs (found >>= λ a. closed_at (expr_at d) h a.0 a.1)
