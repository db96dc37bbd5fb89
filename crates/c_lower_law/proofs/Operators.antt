-- Operators and conversions give the same in both.
use Rattle.std.proofs.Common.{◌≡◌, ◌∙◌, ℕ, pos, ℤ, refl, ap, sym, subst, Bool, true, false, not, Option, Some, None, Result, Ok, Err, IfOk, if◌then◌else◌}
use Rattle.std.specs.Prelude.{◌&&◌, ◌-ℤ◌, int_lt, int_le, nat_eq}
use Rattle.std.specs.Ordering.{int_eq}
use Rattle.pt_base.specs.declared.int_type.IntType.{IntType}
use Rattle.pt_base.specs.declared.int_type.IntType.TheVariants as i
use Rattle.pt_base.specs.IntTypes.{promoted, InRange}
use Rattle.pt_base.specs.declared.span.Span.{Span}
use Rattle.pt_base.specs.declared.trap.Trap.{Trap}
use Rattle.pt_int.specs.declared.operator.BinOp.{BinOp}
use Rattle.pt_int.specs.declared.operator.BinOp.TheVariants.{Mul, Div, Rem, Add, Sub, Shl, Shr, Lt, Gt, Le, Ge, Eq, Ne, And, Xor, Or}
use Rattle.pt_int.specs.declared.operator.UnOp.{UnOp}
use Rattle.pt_int.specs.declared.operator.UnOp.TheVariants.{Minus, Plus, Flip, Not}
use Rattle.pt_int.specs.Conversion.{conv}
use Rattle.pt_int.specs.Operator.{binary_of, unary_of, truth, is_shift, binary_type}
use Rattle.pt_int.proofs.Conversions.{conv-in_range, conv-same}
use Rattle.pt_int.proofs.Ranges.{binary_of-range}
use Rattle.pt_tree.specs.declared.signature.Elem.{Elem}
use Rattle.runs.specs.Pointers as p
use Rattle.runs.specs.Pointers.{Target, if_ok, directed, moved, moved_index, at_index, are_equal, indices_of, compared, difference}
use Rattle.typed_tree.specs.declared.types.VarTy.{VarTy}
use Rattle.typed_tree.specs.declared.types.VarTy.TheVariants.{Int, Struct, Array, Pointer}
use Rattle.typed_tree.specs.declared.link.LinkStep.{LinkStep}
use Rattle.typed_tree.specs.declared.link.LinkStep.TheVariants.{Arithmetic, Shift, Move, MoveBy, Difference, Compare}
use Rattle.typed_tree.specs.Sizes.{elem_cells, sizes_of}
use Rattle.typed_tree.specs.TypeTests.{same_int}
use Rattle.block_memory.specs.declared.cell.Cell as core
use Rattle.block_memory.specs.declared.cell.Cell.TheVariants as cell
use Rattle.block_memory.specs.declared.cell.Pointer.TheVariants as ptr
use Rattle.block_memory.specs.declared.cell.BlockName.{BlockName}
use Rattle.block_memory.specs.Blocks.{Blocks, is_same_name}
use Rattle.source_meaning.specs.Memory.{Block, local, global, same_block, Cell, number, null, pointer}
use Rattle.source_meaning.specs.Values as m
use Rattle.source_meaning.specs.Values.{moved_cell, unary_cell, pointer_to, pointee_cells, shift_of, promoted_of}
use Rattle.source_soundness.specs.Worlds.{IsNumber}
use Rattle.pt_core.specs.CodeTree as t
use Rattle.pt_core.specs.Types as tys
use Rattle.pt_core.specs.Types.{type_of}
use Rattle.pt_core.specs.Values as v
use Rattle.pt_core.specs.Values.{Stop, ◌>>?◌, at_span, converted, is_type, unary_operand, right_operand, numbered, pointed, told, pointing}
use Rattle.lowering.specs.Operators as l
use Rattle.lowering.specs.Operators.{as_int, prefixed, truth_of, stepped, stored}
use Rattle.c_lower_law.proofs.Relations.{name_of, core_cell, Scene, frame_of}
use Rattle.c_lower_law.proofs.Expressions.{cell_asked}
use Rattle.c_lower_law.proofs.Held.{joined, both}

-- ---- cells

pub number_same : (x : Cell) → v.number_in (core_cell x) ≡ m.number_in x
number_same (number n) = refl
number_same null = refl
number_same (pointer b base count index) = refl

pub holds_same : (x : Cell) → v.holds_in (core_cell x) ≡ m.holds_in x
holds_same (number n) = refl
holds_same null = refl
holds_same (pointer b base count index) = refl

abbrev pub named : Target Block → Target BlockName
named q = record { block = name_of q.block; base = q.base; count = q.count; index = q.index }

abbrev pub all_named : Option (Target Block) → Option (Target BlockName)
all_named None = None
all_named (Some q) = Some (named q)

pub target_same : (x : Cell) → v.target_of (core_cell x) ≡ all_named (m.target_of x)
target_same (number n) = refl
target_same null = refl
target_same (pointer b base count index) = refl

names_equal : (a o : Block) → is_same_name (name_of a) (name_of o) ≡ same_block a o
names_equal (local d x) (local e y) = refl
names_equal (local d x) (global g) = refl
names_equal (global g) (local d x) = refl
names_equal (global g) (global k) = refl

-- ---- results

-- a result of the source's, as the normal form has it
abbrev pub told_as : Span → Result Cell Trap → Result core.Cell Stop
told_as s (Ok x) = Ok (core_cell x)
told_as s (Err trap) = Err (record { trap = trap; span = s })

pub numbers_told : (s : Span) (r : Result ℤ Trap) → numbered (at_span s r) ≡ told_as s (if_ok r number)
numbers_told s (Ok n) = refl
numbers_told s (Err trap) = refl

truths_told : (s : Span) (r : Result Bool Trap) → told (at_span s r) ≡ told_as s (if_ok r (λ b. number (truth b)))
truths_told s (Ok b) = refl
truths_told s (Err trap) = refl

-- ---- pointers

pub moved_told : (s : Span) (amount : ℤ) (x : Cell) → pointed (at_span s (moved amount (v.target_of (core_cell x)))) ≡ told_as s (moved_cell amount x)
moved_told s amount (number n) = refl
moved_told s amount null = refl
moved_told s amount (pointer b base count index) = go (moved_index count index amount)
  where
    go : (o : Option ℕ) → pointed (at_span s (at_index (record { block = name_of b; base = base; count = count; index = index }) o)) ≡ told_as s (if_ok (at_index (record { block = b; base = base; count = count; index = index }) o) pointer_to)
    go None = refl
    go (Some k) = refl

equal_same : (size : ℕ) (a o : Option (Target Block)) → are_equal is_same_name size (all_named a) (all_named o) ≡ are_equal same_block size a o
equal_same size None None = refl
equal_same size None (Some o) = refl
equal_same size (Some a) None = refl
equal_same size (Some a) (Some o) = ap (λ z. z && nat_eq (p.cell_at size a.base a.index) (p.cell_at size o.base o.index)) (names_equal a.block o.block)

indices_same : (a o : Option (Target Block)) → indices_of is_same_name (all_named a) (all_named o) ≡ indices_of same_block a o
indices_same None o = refl
indices_same (Some a) None = refl
indices_same (Some a) (Some o) = ap (λ z. p.both_indices (z && (nat_eq a.base o.base && nat_eq a.count o.count)) a.index o.index) (names_equal a.block o.block)

compared_by : (op : BinOp) (size : ℕ) (a o : Option (Target Block)) → compared is_same_name op size (all_named a) (all_named o) ≡ compared same_block op size a o
compared_by Eq size a o = ap (λ z. Ok z) (equal_same size a o)
compared_by Ne size a o = ap (λ z. Ok (not z)) (equal_same size a o)
compared_by Lt size a o = ap (λ r. if_ok r (λ ij. int_lt ij.0 ij.1)) (indices_same a o)
compared_by Gt size a o = ap (λ r. if_ok r (λ ij. int_lt ij.1 ij.0)) (indices_same a o)
compared_by Le size a o = ap (λ r. if_ok r (λ ij. int_le ij.0 ij.1)) (indices_same a o)
compared_by Ge size a o = ap (λ r. if_ok r (λ ij. int_le ij.1 ij.0)) (indices_same a o)
compared_by Mul size a o = refl
compared_by Div size a o = refl
compared_by Rem size a o = refl
compared_by Add size a o = refl
compared_by Sub size a o = refl
compared_by Shl size a o = refl
compared_by Shr size a o = refl
compared_by And size a o = refl
compared_by Xor size a o = refl
compared_by Or size a o = refl

pub compared_told : (s : Span) (op : BinOp) (size : ℕ) (x y : Cell) → told (at_span s (compared is_same_name op size (v.target_of (core_cell x)) (v.target_of (core_cell y)))) ≡
    told_as s (if_ok (compared same_block op size (m.target_of x) (m.target_of y)) (λ holds. number (truth holds)))
compared_told s op size x y =
    ap (λ q. told (at_span s (compared is_same_name op size q (v.target_of (core_cell y))))) (target_same x)
    ∙ ap (λ q. told (at_span s (compared is_same_name op size (all_named (m.target_of x)) q))) (target_same y)
    ∙ ap (λ r. told (at_span s r)) (compared_by op size (m.target_of x) (m.target_of y))
    ∙ truths_told s (compared same_block op size (m.target_of x) (m.target_of y))

differ_same : (x y : Cell) → difference is_same_name (v.target_of (core_cell x)) (v.target_of (core_cell y)) ≡ difference same_block (m.target_of x) (m.target_of y)
differ_same x y =
    ap (λ q. difference is_same_name q (v.target_of (core_cell y))) (target_same x)
    ∙ ap (λ q. difference is_same_name (all_named (m.target_of x)) q) (target_same y)
    ∙ ap (λ r. if_ok r (λ ij. ij.0 -ℤ ij.1)) (indices_same (m.target_of x) (m.target_of y))

-- ---- conversions

pub conv_conv : (to : IntType) (n : ℤ) → conv to (conv to n) ≡ conv to n
conv_conv to n = conv-same to (conv to n) (conv-in_range to n)

-- a conversion more doesn't count
converted_more : (same : Bool) (to : IntType) (x : Cell) → conv to (v.number_in (converted same to (core_cell x))) ≡ conv to (m.number_in x)
converted_more same to (number n) = conv_conv to n
converted_more same to null = refl
converted_more same to (pointer b base count index) = refl

pub converted_same : (same : Bool) (to : IntType) (x : Cell) → IsNumber x → converted same to (core_cell x) ≡ core_cell (m.converted_cell (Int to) x)
converted_same same to (number n) h = refl
converted_same same to null h = absurd h
converted_same same to (pointer b base count index) h = absurd h

-- ---- steps of chains

-- a pointer's type in the normal form, whose elements are those of the source's
abbrev pub PointerType : Scene → Option VarTy → t.ExprTree → Type 0
PointerType s ty e = (elem : Elem) (fixed : Bool) → ty ≡ Some (Pointer elem fixed) → (g : Bool) × (type_of (frame_of s).context e ≡ Pointer elem g)

pair_step : {X Y Z : Type 0} (r1 : Result X Stop) (r2 : Result Y Stop) (f : X → Y → Result Z Stop) → (r1 >>? λ x. r2 >>? λ y. f x y) ≡ (joined r1 r2 >>? λ q. f q.0 q.1)
pair_step (Ok x) (Ok y) f = refl
pair_step (Ok x) (Err stop) f = refl
pair_step (Err stop) r2 f = refl

pair_made : {X W Y Z : Type 0} (r1 : Result X Stop) (r2 : Result Y Stop) (g : X → W) (f : W → Y → Result Z Stop) → ((r1 >>? λ x. Ok (g x)) >>? λ w. r2 >>? λ y. f w y) ≡ (joined r1 r2 >>? λ q. f (g q.0) q.1)
pair_made (Ok x) (Ok y) g f = refl
pair_made (Ok x) (Err stop) g f = refl
pair_made (Err stop) r2 g f = refl

-- a number as one of the type
abbrev as_cell : VarTy → IntType → Bool → core.Cell → core.Cell
as_cell (Int u) to same x = if same_int u to then x else converted same to x
as_cell (Struct n) to same x = x
as_cell (Array elem count) to same x = x
as_cell (Pointer elem fixed) to same x = x

as_cell_number : (u : VarTy) (to : IntType) (same : Bool) (x : Cell) → conv to (v.number_in (as_cell u to same (core_cell x))) ≡ conv to (m.number_in x)
as_cell_number (Int u) to same x = go (same_int u to)
  where
    go : (b : Bool) → conv to (v.number_in (if b then core_cell x else converted same to (core_cell x))) ≡ conv to (m.number_in x)
    go true = ap (conv to) (number_same x)
    go false = converted_more same to x
as_cell_number (Struct n) to same x = ap (conv to) (number_same x)
as_cell_number (Array elem count) to same x = ap (conv to) (number_same x)
as_cell_number (Pointer elem fixed) to same x = ap (conv to) (number_same x)

as_int_value : (s : Scene) (u : VarTy) (to : IntType) (a : t.ExprTree) (blocks : Blocks) → cell_asked s (as_int u to a) blocks ≡ (cell_asked s a blocks >>? λ x. Ok (as_cell u to (is_type (type_of (frame_of s).context a) to) x))
as_int_value s (Int u) to a blocks = go (same_int u to) (cell_asked s a blocks) refl
  where
    go : (b : Bool) (r : Result core.Cell Stop) → cell_asked s a blocks ≡ r → cell_asked s (if b then a else t.convert to a) blocks ≡ (cell_asked s a blocks >>? λ x. Ok (if b then x else converted (is_type (type_of (frame_of s).context a) to) to x))
    go true (Ok x) e = e ∙ sym (ap (λ r. r >>? λ x. Ok x) e)
    go true (Err stop) e = e ∙ sym (ap (λ r. r >>? λ x. Ok x) e)
    go false r e = refl
as_int_value s (Struct n) to a blocks = go (cell_asked s a blocks)
  where
    go : (r : Result core.Cell Stop) → r ≡ (r >>? λ x. Ok x)
    go (Ok x) = refl
    go (Err stop) = refl
as_int_value s (Array elem count) to a blocks = go (cell_asked s a blocks)
  where
    go : (r : Result core.Cell Stop) → r ≡ (r >>? λ x. Ok x)
    go (Ok x) = refl
    go (Err stop) = refl
as_int_value s (Pointer elem fixed) to a blocks = go (cell_asked s a blocks)
  where
    go : (r : Result core.Cell Stop) → r ≡ (r >>? λ x. Ok x)
    go (Ok x) = refl
    go (Err stop) = refl

-- what a step makes of two cells
abbrev made : Scene → VarTy → LinkStep → t.ExprTree → Span → core.Cell → core.Cell → Result core.Cell Stop
made s u (Arithmetic op to) a at x y = numbered (at_span at (binary_of op to (conv to (v.number_in (as_cell u to (is_type (type_of (frame_of s).context a) to) x))) (right_operand op to y)))
made s u (Shift back) a at x y = numbered (at_span at (binary_of (l.shift_of back) (l.promoted_of u) (conv (l.promoted_of u) (v.number_in (as_cell u (l.promoted_of u) (is_type (type_of (frame_of s).context a) (l.promoted_of u)) x))) (right_operand (l.shift_of back) (l.promoted_of u) y)))
made s u (Move back) a at x y = pointed (at_span at (moved (directed back (v.number_in y)) (v.target_of x)))
made s u MoveBy a at x y = pointed (at_span at (moved (directed false (v.number_in x)) (v.target_of y)))
made s u Difference a at x y = numbered (at_span at (difference is_same_name (v.target_of x) (v.target_of y)))
made s u (Compare op) a at x y = told (at_span at (compared is_same_name op (tys.pointee_cells (frame_of s).context (type_of (frame_of s).context a)) (v.target_of x) (v.target_of y)))

-- a step but that which takes its right operand first
abbrev pub TakesLeft : LinkStep → Type 0
TakesLeft (Arithmetic op to) = Unit {0}
TakesLeft (Shift back) = Unit {0}
TakesLeft (Move back) = Unit {0}
TakesLeft MoveBy = ⊥
TakesLeft Difference = Unit {0}
TakesLeft (Compare op) = Unit {0}

step_made : (s : Scene) (u : VarTy) (step : LinkStep) (a e : t.ExprTree) (at : Span) (blocks : Blocks) → TakesLeft step → cell_asked s (stepped u step a e at) blocks ≡ (both (cell_asked s a) (cell_asked s e) blocks >>? λ q. made s u step a at q.0 q.1)
step_made s u (Arithmetic op to) a e at blocks h =
    ap (λ r. r >>? λ x. cell_asked s e blocks >>? λ y. numbered (at_span at (binary_of op to (conv to (v.number_in x)) (right_operand op to y)))) (as_int_value s u to a blocks)
    ∙ pair_made (cell_asked s a blocks) (cell_asked s e blocks) (as_cell u to (is_type (type_of (frame_of s).context a) to)) (λ x y. numbered (at_span at (binary_of op to (conv to (v.number_in x)) (right_operand op to y))))
step_made s u (Shift back) a e at blocks h =
    ap (λ r. r >>? λ x. cell_asked s e blocks >>? λ y. numbered (at_span at (binary_of (l.shift_of back) (l.promoted_of u) (conv (l.promoted_of u) (v.number_in x)) (right_operand (l.shift_of back) (l.promoted_of u) y)))) (as_int_value s u (l.promoted_of u) a blocks)
    ∙ pair_made (cell_asked s a blocks) (cell_asked s e blocks) (as_cell u (l.promoted_of u) (is_type (type_of (frame_of s).context a) (l.promoted_of u))) (λ x y. numbered (at_span at (binary_of (l.shift_of back) (l.promoted_of u) (conv (l.promoted_of u) (v.number_in x)) (right_operand (l.shift_of back) (l.promoted_of u) y))))
step_made s u (Move back) a e at blocks h = pair_step (cell_asked s a blocks) (cell_asked s e blocks) (λ x y. made s u (Move back) a at x y)
step_made s u MoveBy a e at blocks h = absurd h
step_made s u Difference a e at blocks h = pair_step (cell_asked s a blocks) (cell_asked s e blocks) (λ x y. made s u Difference a at x y)
step_made s u (Compare op) a e at blocks h = pair_step (cell_asked s a blocks) (cell_asked s e blocks) (λ x y. made s u (Compare op) a at x y)

-- the promoted types are the same
promoted_same : (u : VarTy) → l.promoted_of u ≡ promoted_of u
promoted_same (Int u) = refl
promoted_same (Struct n) = refl
promoted_same (Array elem count) = refl
promoted_same (Pointer elem fixed) = refl

right_plain : (op : BinOp) (to : IntType) (y : Cell) → is_shift op ≡ false → right_operand op to (core_cell y) ≡ conv to (m.number_in y)
right_plain op to y h = ap (λ b. if b then v.number_in (core_cell y) else conv to (v.number_in (core_cell y))) h ∙ ap (conv to) (number_same y)

right_shift : (back : Bool) (to : IntType) (y : Cell) → right_operand (l.shift_of back) to (core_cell y) ≡ m.number_in y
right_shift true to y = number_same y
right_shift false to y = number_same y

-- an operator is no shift where a step with an operator is asked for
abbrev pub PlainStep : LinkStep → Type 0
PlainStep (Arithmetic op to) = is_shift op ≡ false
PlainStep (Shift back) = Unit {0}
PlainStep (Move back) = Unit {0}
PlainStep MoveBy = Unit {0}
PlainStep Difference = Unit {0}
PlainStep (Compare op) = Unit {0}

-- a comparison is one of pointers
abbrev pub PointsTo : Scene → VarTy → LinkStep → t.ExprTree → Type 0
PointsTo s u (Arithmetic op to) a = Unit {0}
PointsTo s u (Shift back) a = Unit {0}
PointsTo s u (Move back) a = Unit {0}
PointsTo s u MoveBy a = Unit {0}
PointsTo s u Difference a = Unit {0}
PointsTo s u (Compare op) a = (elem : Elem) × (f : Bool) × (g : Bool) × (u ≡ Pointer elem f) × (type_of (frame_of s).context a ≡ Pointer elem g)

made_same : (s : Scene) (u : VarTy) (step : LinkStep) (a : t.ExprTree) (at : Span) (x y : Cell) → PlainStep step → PointsTo s u step a → made s u step a at (core_cell x) (core_cell y) ≡ told_as at (m.stepped (sizes_of s.names.structs) u step x y)
made_same s u (Arithmetic op to) a at x y plain points =
    ap (λ n. numbered (at_span at (binary_of op to n (right_operand op to (core_cell y))))) (as_cell_number u to (is_type (type_of (frame_of s).context a) to) x)
    ∙ ap (λ n. numbered (at_span at (binary_of op to (conv to (m.number_in x)) n))) (right_plain op to y plain)
    ∙ numbers_told at (binary_of op to (conv to (m.number_in x)) (conv to (m.number_in y)))
made_same s u (Shift back) a at x y plain points =
    ap (λ n. numbered (at_span at (binary_of (l.shift_of back) (l.promoted_of u) n (right_operand (l.shift_of back) (l.promoted_of u) (core_cell y))))) (as_cell_number u (l.promoted_of u) (is_type (type_of (frame_of s).context a) (l.promoted_of u)) x)
    ∙ ap (λ n. numbered (at_span at (binary_of (l.shift_of back) (l.promoted_of u) (conv (l.promoted_of u) (m.number_in x)) n))) (right_shift back (l.promoted_of u) y)
    ∙ ap (λ w. numbered (at_span at (binary_of (l.shift_of back) w (conv w (m.number_in x)) (m.number_in y)))) (promoted_same u)
    ∙ numbers_told at (binary_of (shift_of back) (promoted_of u) (conv (promoted_of u) (m.number_in x)) (m.number_in y))
made_same s u (Move back) a at x y plain points = ap (λ n. pointed (at_span at (moved (directed back n) (v.target_of (core_cell x))))) (number_same y) ∙ moved_told at (directed back (m.number_in y)) x
made_same s u MoveBy a at x y plain points = ap (λ n. pointed (at_span at (moved n (v.target_of (core_cell y))))) (number_same x) ∙ moved_told at (m.number_in x) y
made_same s u Difference a at x y plain points = ap (λ r. numbered (at_span at r)) (differ_same x y) ∙ numbers_told at (difference same_block (m.target_of x) (m.target_of y))
made_same s u (Compare op) a at x y plain points =
    ap (λ z. told (at_span at (compared is_same_name op (tys.pointee_cells (frame_of s).context z) (v.target_of (core_cell x)) (v.target_of (core_cell y))))) points.4
    ∙ compared_told at op (elem_cells (sizes_of s.names.structs) points.0) x y
    ∙ sym (ap (λ z. told_as at (if_ok (compared same_block op (pointee_cells (sizes_of s.names.structs) z) (m.target_of x) (m.target_of y)) (λ holds. number (truth holds)))) points.3)

-- the value of a step, where its operands have these cells
pub step_same : (s : Scene) (u : VarTy) (step : LinkStep) (a e : t.ExprTree) (at : Span) (blocks : Blocks) (x y : Cell) → TakesLeft step → PlainStep step → PointsTo s u step a →
    both (cell_asked s a) (cell_asked s e) blocks ≡ Ok (core_cell x, core_cell y) → cell_asked s (stepped u step a e at) blocks ≡ told_as at (m.stepped (sizes_of s.names.structs) u step x y)
step_same s u step a e at blocks x y first plain points is =
    step_made s u step a e at blocks first ∙ ap (λ r. r >>? λ q. made s u step a at q.0 q.1) is ∙ made_same s u step a at x y plain points

pub step_stops : (s : Scene) (u : VarTy) (step : LinkStep) (a e : t.ExprTree) (at : Span) (blocks : Blocks) (stop : Stop) → TakesLeft step →
    both (cell_asked s a) (cell_asked s e) blocks ≡ Err stop → cell_asked s (stepped u step a e at) blocks ≡ Err stop
step_stops s u step a e at blocks stop first is = step_made s u step a e at blocks first ∙ ap (λ r. r >>? λ q. made s u step a at q.0 q.1) is

-- a pointer that is added to an integer is evaluated first
moved_by : (r1 r2 : Result core.Cell Stop) (x : core.Cell) (f : core.Cell → core.Cell → Result core.Cell Stop) → r1 ≡ Ok x → (r2 >>? λ y. r1 >>? λ z. f z y) ≡ (joined r1 r2 >>? λ q. f q.0 q.1)
moved_by r1 r2 x f e = subst (λ r. (r2 >>? λ y. r >>? λ z. f z y) ≡ (joined r r2 >>? λ q. f q.0 q.1)) (sym e) (go r2)
  where
    go : (r : Result core.Cell Stop) → (r >>? λ y. f x y) ≡ (joined (Ok x) r >>? λ q. f q.0 q.1)
    go (Ok y) = refl
    go (Err stop) = refl

pub by_same : (s : Scene) (u : VarTy) (a e : t.ExprTree) (at : Span) (blocks : Blocks) (z : core.Cell) (x y : Cell) → cell_asked s a blocks ≡ Ok z →
    both (cell_asked s a) (cell_asked s e) blocks ≡ Ok (core_cell x, core_cell y) → cell_asked s (stepped u MoveBy a e at) blocks ≡ told_as at (m.stepped (sizes_of s.names.structs) u MoveBy x y)
by_same s u a e at blocks z x y there is =
    moved_by (cell_asked s a blocks) (cell_asked s e blocks) z (λ x y. made s u MoveBy a at x y) there ∙ ap (λ r. r >>? λ q. made s u MoveBy a at q.0 q.1) is ∙ made_same s u MoveBy a at x y tt tt

pub by_stops : (s : Scene) (u : VarTy) (a e : t.ExprTree) (at : Span) (blocks : Blocks) (z : core.Cell) (stop : Stop) → cell_asked s a blocks ≡ Ok z →
    both (cell_asked s a) (cell_asked s e) blocks ≡ Err stop → cell_asked s (stepped u MoveBy a e at) blocks ≡ Err stop
by_stops s u a e at blocks z stop there is =
    moved_by (cell_asked s a blocks) (cell_asked s e blocks) z (λ x y. made s u MoveBy a at x y) there ∙ ap (λ r. r >>? λ q. made s u MoveBy a at q.0 q.1) is

-- ---- operators before their operand

-- null, or a pointer
abbrev pub IsPointerCell : Cell → Type 0
IsPointerCell (number n) = ⊥
IsPointerCell null = Unit {0}
IsPointerCell (pointer b base count index) = Unit {0}

-- a cell of an integer or of a pointer
abbrev pub IsScalarCell : VarTy → Cell → Type 0
IsScalarCell (Int u) x = IsNumber x
IsScalarCell (Struct n) x = ⊥
IsScalarCell (Array elem count) x = ⊥
IsScalarCell (Pointer elem fixed) x = IsPointerCell x

not_not : (b : Bool) → not (not b) ≡ b
not_not true = refl
not_not false = refl

unary_int : (op : UnOp) (u : IntType) (x : Cell) (at : Span) → IsNumber x → numbered (at_span at (unary_of op u (unary_operand op u (core_cell x)))) ≡ told_as at (unary_cell op (Int u) x)
unfolding unary_of
unary_int Minus u (number n) at h = numbers_told at (unary_of Minus u (conv u n))
unary_int Plus u (number n) at h = numbers_told at (unary_of Plus u (conv u n))
unary_int Flip u (number n) at h = numbers_told at (unary_of Flip u (conv u n))
unary_int Not u (number n) at h = ap (λ b. Ok (cell.Int (truth b))) (sym (not_not (int_eq n (pos 0))))
unary_int op u null at h = absurd h
unary_int op u (pointer b base count index) at h = absurd h

equal_null : (size : ℕ) (x : Cell) → IsPointerCell x → compared is_same_name Eq size (v.target_of (core_cell x)) None ≡ Ok (not (m.holds_in x))
equal_null size (number n) h = absurd h
equal_null size null h = refl
equal_null size (pointer b base count index) h = refl

other_null : (size : ℕ) (x : Cell) → IsPointerCell x → compared is_same_name Ne size (v.target_of (core_cell x)) None ≡ Ok (m.holds_in x)
other_null size (number n) h = absurd h
other_null size null h = refl
other_null size (pointer b base count index) h = refl

null_compared : (s : Scene) (op : BinOp) (e : t.ExprTree) (elem : Elem) (at : Span) (blocks : Blocks) (x : Cell) (b : Bool) → ((size : ℕ) → compared is_same_name op size (v.target_of (core_cell x)) None ≡ Ok b) →
    cell_asked s e blocks ≡ Ok (core_cell x) → cell_asked s (t.compare op e (t.null elem) at) blocks ≡ Ok (cell.Int (truth b))
null_compared s op e elem at blocks x b gives is =
    ap (λ r. r >>? λ y. told (at_span at (compared is_same_name op (tys.pointee_cells (frame_of s).context (type_of (frame_of s).context e)) (v.target_of y) None))) is
    ∙ ap (λ r. told (at_span at r)) (gives (tys.pointee_cells (frame_of s).context (type_of (frame_of s).context e)))

-- which operators stand before which operands
abbrev pub Prefixes : UnOp → VarTy → Type 0
Prefixes Minus (Int u) = Unit {0}
Prefixes Plus (Int u) = Unit {0}
Prefixes Flip (Int u) = Unit {0}
Prefixes Not (Int u) = Unit {0}
Prefixes Not (Pointer elem fixed) = Unit {0}
Prefixes op u = ⊥

pub prefixed_same : (s : Scene) (op : UnOp) (u : VarTy) (e : t.ExprTree) (at : Span) (blocks : Blocks) (x : Cell) → Prefixes op u → IsScalarCell u x → cell_asked s e blocks ≡ Ok (core_cell x) →
    cell_asked s (prefixed op u e at) blocks ≡ told_as at (unary_cell op u x)
prefixed_same s Minus (Int u) e at blocks x h scalar is = ap (λ r. r >>? λ y. numbered (at_span at (unary_of Minus u (unary_operand Minus u y)))) is ∙ unary_int Minus u x at scalar
prefixed_same s Plus (Int u) e at blocks x h scalar is = ap (λ r. r >>? λ y. numbered (at_span at (unary_of Plus u (unary_operand Plus u y)))) is ∙ unary_int Plus u x at scalar
prefixed_same s Flip (Int u) e at blocks x h scalar is = ap (λ r. r >>? λ y. numbered (at_span at (unary_of Flip u (unary_operand Flip u y)))) is ∙ unary_int Flip u x at scalar
prefixed_same s Not (Int u) e at blocks x h scalar is = ap (λ r. r >>? λ y. numbered (at_span at (unary_of Not u (unary_operand Not u y)))) is ∙ unary_int Not u x at scalar
prefixed_same s Not (Pointer elem fixed) e at blocks x h scalar is = null_compared s Eq e elem at blocks x (not (m.holds_in x)) (λ size. equal_null size x scalar) is
prefixed_same s Not (Struct n) e at blocks x h scalar is = absurd h
prefixed_same s Not (Array elem count) e at blocks x h scalar is = absurd h
prefixed_same s Minus (Struct n) e at blocks x h scalar is = absurd h
prefixed_same s Minus (Array elem count) e at blocks x h scalar is = absurd h
prefixed_same s Minus (Pointer elem fixed) e at blocks x h scalar is = absurd h
prefixed_same s Plus (Struct n) e at blocks x h scalar is = absurd h
prefixed_same s Plus (Array elem count) e at blocks x h scalar is = absurd h
prefixed_same s Plus (Pointer elem fixed) e at blocks x h scalar is = absurd h
prefixed_same s Flip (Struct n) e at blocks x h scalar is = absurd h
prefixed_same s Flip (Array elem count) e at blocks x h scalar is = absurd h
prefixed_same s Flip (Pointer elem fixed) e at blocks x h scalar is = absurd h

pub prefixed_stops : (s : Scene) (op : UnOp) (u : VarTy) (e : t.ExprTree) (at : Span) (blocks : Blocks) (stop : Stop) → Prefixes op u → cell_asked s e blocks ≡ Err stop → cell_asked s (prefixed op u e at) blocks ≡ Err stop
prefixed_stops s Minus (Int u) e at blocks stop h is = ap (λ r. r >>? λ y. numbered (at_span at (unary_of Minus u (unary_operand Minus u y)))) is
prefixed_stops s Plus (Int u) e at blocks stop h is = ap (λ r. r >>? λ y. numbered (at_span at (unary_of Plus u (unary_operand Plus u y)))) is
prefixed_stops s Flip (Int u) e at blocks stop h is = ap (λ r. r >>? λ y. numbered (at_span at (unary_of Flip u (unary_operand Flip u y)))) is
prefixed_stops s Not (Int u) e at blocks stop h is = ap (λ r. r >>? λ y. numbered (at_span at (unary_of Not u (unary_operand Not u y)))) is
prefixed_stops s Not (Pointer elem fixed) e at blocks stop h is =
    ap (λ r. r >>? λ y. told (at_span at (compared is_same_name Eq (tys.pointee_cells (frame_of s).context (type_of (frame_of s).context e)) (v.target_of y) None))) is
prefixed_stops s Not (Struct n) e at blocks stop h is = absurd h
prefixed_stops s Not (Array elem count) e at blocks stop h is = absurd h
prefixed_stops s Minus (Struct n) e at blocks stop h is = absurd h
prefixed_stops s Minus (Array elem count) e at blocks stop h is = absurd h
prefixed_stops s Minus (Pointer elem fixed) e at blocks stop h is = absurd h
prefixed_stops s Plus (Struct n) e at blocks stop h is = absurd h
prefixed_stops s Plus (Array elem count) e at blocks stop h is = absurd h
prefixed_stops s Plus (Pointer elem fixed) e at blocks stop h is = absurd h
prefixed_stops s Flip (Struct n) e at blocks stop h is = absurd h
prefixed_stops s Flip (Array elem count) e at blocks stop h is = absurd h
prefixed_stops s Flip (Pointer elem fixed) e at blocks stop h is = absurd h

-- ---- truths

no_truth : (b : Bool) → int_eq (truth b) (pos 0) ≡ not b
no_truth true = refl
no_truth false = refl

truth_int : (u : IntType) (x : Cell) (at : Span) → IsNumber x → (numbered (at_span at (unary_of Not u (v.number_in (core_cell x)))) >>? λ y. numbered (at_span at (unary_of Not i.Int (v.number_in y)))) ≡ Ok (cell.Int (truth (m.holds_in x)))
unfolding unary_of
truth_int u (number n) at h = ap (λ b. Ok (cell.Int (truth b))) (no_truth (int_eq n (pos 0)))
truth_int u null at h = absurd h
truth_int u (pointer b base count index) at h = absurd h

pub truth_same : (s : Scene) (u : VarTy) (e : t.ExprTree) (at : Span) (blocks : Blocks) (x : Cell) → IsScalarCell u x → cell_asked s e blocks ≡ Ok (core_cell x) → cell_asked s (truth_of u e at) blocks ≡ Ok (cell.Int (truth (m.holds_in x)))
truth_same s (Int u) e at blocks x scalar is = ap (λ r. (r >>? λ y. numbered (at_span at (unary_of Not u (v.number_in y)))) >>? λ y. numbered (at_span at (unary_of Not i.Int (v.number_in y)))) is ∙ truth_int u x at scalar
truth_same s (Pointer elem fixed) e at blocks x scalar is = null_compared s Ne e elem at blocks x (m.holds_in x) (λ size. other_null size x scalar) is
truth_same s (Struct n) e at blocks x scalar is = absurd scalar
truth_same s (Array elem count) e at blocks x scalar is = absurd scalar

pub truth_stops : (s : Scene) (u : VarTy) (e : t.ExprTree) (at : Span) (blocks : Blocks) (stop : Stop) → cell_asked s e blocks ≡ Err stop → cell_asked s (truth_of u e at) blocks ≡ Err stop
truth_stops s (Int u) e at blocks stop is = ap (λ r. (r >>? λ y. numbered (at_span at (unary_of Not u (v.number_in y)))) >>? λ y. numbered (at_span at (unary_of Not i.Int (v.number_in y)))) is
truth_stops s (Pointer elem fixed) e at blocks stop is =
    ap (λ r. r >>? λ y. told (at_span at (compared is_same_name Ne (tys.pointee_cells (frame_of s).context (type_of (frame_of s).context e)) (v.target_of y) None))) is
truth_stops s (Struct n) e at blocks stop is = is
truth_stops s (Array elem count) e at blocks stop is = is

-- ---- conversions that are written

pub converted_value : (s : Scene) (to : VarTy) (e : t.ExprTree) (blocks : Blocks) (x : Cell) → IsScalarCell to x → cell_asked s e blocks ≡ Ok (core_cell x) → cell_asked s (l.converted to e) blocks ≡ Ok (core_cell (m.converted_cell to x))
converted_value s (Int to) e blocks x scalar is = ap (λ r. r >>? λ y. Ok (converted (is_type (type_of (frame_of s).context e) to) to y)) is ∙ ap (λ z. Ok z) (converted_same (is_type (type_of (frame_of s).context e) to) to x scalar)
converted_value s (Pointer elem fixed) e blocks x scalar is = is
converted_value s (Struct n) e blocks x scalar is = absurd scalar
converted_value s (Array elem count) e blocks x scalar is = absurd scalar

pub converted_stops : (s : Scene) (to : VarTy) (e : t.ExprTree) (blocks : Blocks) (stop : Stop) → cell_asked s e blocks ≡ Err stop → cell_asked s (l.converted to e) blocks ≡ Err stop
converted_stops s (Int to) e blocks stop is = ap (λ r. r >>? λ y. Ok (converted (is_type (type_of (frame_of s).context e) to) to y)) is
converted_stops s (Pointer elem fixed) e blocks stop is = is
converted_stops s (Struct n) e blocks stop is = is
converted_stops s (Array elem count) e blocks stop is = is

-- ---- what a compound assignment stores

-- which steps compute what is stored in an object of which type
abbrev pub Computes : VarTy → LinkStep → Type 0
Computes (Int u) (Arithmetic op to) = (binary_type op to ≡ to) × (is_shift op ≡ false)
Computes (Int u) (Shift back) = Unit {0}
Computes (Pointer elem fixed) (Move back) = Unit {0}
Computes u step = ⊥

-- a number of the type needs no conversion
in_range_number : (from to : IntType) (same : Bool) (at : Span) (r : Result ℤ Trap) → IfOk r (InRange from) → (same_int from to ≡ true → from ≡ to) →
    (told_as at (if_ok r number) >>? λ y. Ok (as_cell (Int from) to same y)) ≡ told_as at (if_ok (if_ok r number) (m.converted_cell (Int to)))
in_range_number from to same at (Err trap) range equal = refl
in_range_number from to same at (Ok n) range equal = ap (λ z. Ok z) (go (same_int from to) refl)
  where
    go : (b : Bool) → same_int from to ≡ b → (if b then cell.Int n else cell.Int (conv to n)) ≡ cell.Int (conv to n)
    go true e = ap (λ z. cell.Int z) (sym (ap (λ z. conv z n) (sym (equal e)) ∙ conv-same from n range))
    go false e = refl

shift_type : (back : Bool) (to : IntType) → binary_type (shift_of back) to ≡ to
shift_type true to = refl
shift_type false to = refl

shift_range : (back : Bool) → is_shift (shift_of back) ≡ true
shift_range true = refl
shift_range false = refl

nothing_else : (at : Span) (r : Result Cell Trap) → told_as at r ≡ told_as at (if_ok r (λ x. x))
nothing_else at (Ok x) = refl
nothing_else at (Err trap) = refl

pub stored_same : (s : Scene) (u : VarTy) (step : LinkStep) (e : t.ExprTree) (at : Span) (blocks : Blocks) (x y : Cell) → Computes u step → ((from to : IntType) → same_int from to ≡ true → from ≡ to) →
    cell_asked s e blocks ≡ told_as at (m.stepped (sizes_of s.names.structs) u step x y) → cell_asked s (stored u step e) blocks ≡ told_as at (if_ok (m.stepped (sizes_of s.names.structs) u step x y) (m.converted_cell u))
stored_same s (Int u) (Arithmetic op to) e at blocks x y h equal is =
    as_int_value s (Int to) u e blocks ∙ ap (λ r. r >>? λ z. Ok (as_cell (Int to) u (is_type (type_of (frame_of s).context e) u) z)) is
    ∙ in_range_number to u (is_type (type_of (frame_of s).context e) u) at (binary_of op to (conv to (m.number_in x)) (conv to (m.number_in y)))
    (subst (λ z. IfOk (binary_of op to (conv to (m.number_in x)) (conv to (m.number_in y))) (InRange z)) h.0 (binary_of-range op to (conv to (m.number_in x)) (conv to (m.number_in y)) (conv-in_range to (m.number_in x)) (λ plain. conv-in_range to (m.number_in y)))) (equal to u)
stored_same s (Int u) (Shift back) e at blocks x y h equal is =
    as_int_value s (Int (promoted u)) u e blocks ∙ ap (λ r. r >>? λ z. Ok (as_cell (Int (promoted u)) u (is_type (type_of (frame_of s).context e) u) z)) is
    ∙ in_range_number (promoted u) u (is_type (type_of (frame_of s).context e) u) at (binary_of (shift_of back) (promoted u) (conv (promoted u) (m.number_in x)) (m.number_in y))
    (subst (λ z. IfOk (binary_of (shift_of back) (promoted u) (conv (promoted u) (m.number_in x)) (m.number_in y)) (InRange z)) (shift_type back (promoted u))
    (binary_of-range (shift_of back) (promoted u) (conv (promoted u) (m.number_in x)) (m.number_in y) (conv-in_range (promoted u) (m.number_in x)) (λ plain. absurd (never (sym plain ∙ shift_range back))))) (equal (promoted u) u)
  where
    never : false ≡ true → ⊥
    never h = cc
stored_same s (Pointer elem fixed) (Move back) e at blocks x y h equal is = is ∙ nothing_else at (moved_cell (directed back (m.number_in y)) x)
stored_same s (Int u) (Move back) e at blocks x y h equal is = absurd h
stored_same s (Int u) MoveBy e at blocks x y h equal is = absurd h
stored_same s (Int u) Difference e at blocks x y h equal is = absurd h
stored_same s (Int u) (Compare op) e at blocks x y h equal is = absurd h
stored_same s (Pointer elem fixed) (Arithmetic op to) e at blocks x y h equal is = absurd h
stored_same s (Pointer elem fixed) (Shift back) e at blocks x y h equal is = absurd h
stored_same s (Pointer elem fixed) MoveBy e at blocks x y h equal is = absurd h
stored_same s (Pointer elem fixed) Difference e at blocks x y h equal is = absurd h
stored_same s (Pointer elem fixed) (Compare op) e at blocks x y h equal is = absurd h
stored_same s (Struct n) step e at blocks x y h equal is = absurd h
stored_same s (Array elem count) step e at blocks x y h equal is = absurd h

pub stored_stops : (s : Scene) (u : VarTy) (step : LinkStep) (e : t.ExprTree) (blocks : Blocks) (stop : Stop) → Computes u step → cell_asked s e blocks ≡ Err stop → cell_asked s (stored u step e) blocks ≡ Err stop
stored_stops s (Int u) (Arithmetic op to) e blocks stop h is = as_int_value s (Int to) u e blocks ∙ ap (λ r. r >>? λ z. Ok (as_cell (Int to) u (is_type (type_of (frame_of s).context e) u) z)) is
stored_stops s (Int u) (Shift back) e blocks stop h is = as_int_value s (Int (promoted u)) u e blocks ∙ ap (λ r. r >>? λ z. Ok (as_cell (Int (promoted u)) u (is_type (type_of (frame_of s).context e) u) z)) is
stored_stops s (Pointer elem fixed) (Move back) e blocks stop h is = is
stored_stops s (Int u) (Move back) e blocks stop h is = absurd h
stored_stops s (Int u) MoveBy e blocks stop h is = absurd h
stored_stops s (Int u) Difference e blocks stop h is = absurd h
stored_stops s (Int u) (Compare op) e blocks stop h is = absurd h
stored_stops s (Pointer elem fixed) (Arithmetic op to) e blocks stop h is = absurd h
stored_stops s (Pointer elem fixed) (Shift back) e blocks stop h is = absurd h
stored_stops s (Pointer elem fixed) MoveBy e blocks stop h is = absurd h
stored_stops s (Pointer elem fixed) Difference e blocks stop h is = absurd h
stored_stops s (Pointer elem fixed) (Compare op) e blocks stop h is = absurd h
stored_stops s (Struct n) step e blocks stop h is = absurd h
stored_stops s (Array elem count) step e blocks stop h is = absurd h
