-- Operators on cells give the same in both.
use Rattle.std.proofs.Common.{◌≡◌, ◌∙◌, ℕ, pos, ℤ, refl, ap, sym, subst, Bool, true, false, not, Option, Some, None, Result, Ok, Err, if◌then◌else◌}
use Rattle.std.specs.Prelude.{◌&&◌, ◌-ℤ◌, int_lt, int_le, nat_eq, List}
use Rattle.std.specs.Ordering.{int_eq}
use Rattle.pt_base.specs.declared.int_type.IntType.{IntType}
use Rattle.pt_base.specs.declared.span.Span.{Span}
use Rattle.pt_base.specs.declared.trap.Trap.{Trap}
use Rattle.pt_base.specs.IntTypes.{promoted}
use Rattle.pt_int.specs.declared.operator.BinOp.{BinOp}
use Rattle.pt_int.specs.declared.operator.BinOp.TheVariants.{Mul, Div, Rem, Add, Sub, Shl, Shr, Lt, Gt, Le, Ge, Eq, Ne, And, Xor, Or}
use Rattle.pt_int.specs.declared.operator.UnOp.{UnOp}
use Rattle.pt_int.specs.declared.operator.UnOp.TheVariants.{Minus, Plus, Flip, Not}
use Rattle.pt_int.specs.Conversion.{conv}
use Rattle.pt_int.specs.Operator.{binary_of, unary_of, truth, is_shift}
use Rattle.runs.specs.State.{gives, trapped, spent, ◌>>=◌}
use Rattle.runs.specs.Pointers as p
use Rattle.runs.specs.Pointers.{Target, if_ok, directed, moved, moved_index, at_index, are_equal, indices_of, compared, difference}
use Rattle.typed_tree.specs.declared.types.VarTy.{VarTy}
use Rattle.typed_tree.specs.declared.types.VarTy.TheVariants as ty
use Rattle.typed_tree.specs.declared.link.LinkStep.TheVariants.{Arithmetic, Shift}
use Rattle.block_memory.specs.declared.cell.Cell as core
use Rattle.block_memory.specs.declared.cell.BlockName.{BlockName}
use Rattle.block_memory.specs.Blocks.{is_same_name}
use Rattle.source_meaning.specs.Memory.{Block, same_block, Cell, number, null, pointer}
use Rattle.source_meaning.specs.State.{State, Outcome}
use Rattle.source_meaning.specs.Values as m
use Rattle.source_meaning.specs.Values.{moved_cell, unary_cell, pointer_to, stepped, shift_of}
use Rattle.source_meaning.specs.Expressions.{cell_or_trap}
use Rattle.pt_core.specs.Values as v
use Rattle.pt_core.specs.Values.{Stop, ◌>>?◌, at_span, converted, unary_operand, right_operand, numbered, pointed, told}
use Rattle.half_meaning_law.specs.Relations.{Scene, name_of, core_cell, CellFits, reach_of}
use Rattle.half_meaning_law.specs.Expressions.{Evaluates, IsValue}
use Rattle.half_meaning_law.proofs.Memories.{OneToOne, names_equal}

-- ---- evaluations

-- one after the other
pub ev_bind : {A B X Y : Type 0} (Q : A → X → Type 0) (R : B → Y → Type 0) (st : State) (o : Outcome A) (r : Result X Stop) (k : A → State → Outcome B) (k' : X → Result Y Stop) →
    Evaluates Q st o r → ((a : A) (x : X) → Q a x → Evaluates R st (k a st) (k' x)) → Evaluates R st (o >>= k) (r >>? k')
ev_bind Q R st (gives a st1) (Ok x) k k' h on = subst (λ z. Evaluates R st (k a z) (k' x)) (sym h.0) (on a x h.1)
ev_bind Q R st (gives a st1) (Err stop) k k' h on = absurd h
ev_bind Q R st (trapped trap span st1) (Ok x) k k' h on = absurd h
ev_bind Q R st (trapped trap span st1) (Err stop) k k' h on = h
ev_bind Q R st (spent st1) (Ok x) k k' h on = absurd h
ev_bind Q R st (spent st1) (Err stop) k k' h on = absurd h

-- what is known of the same evaluations is less
pub ev_weaken : {A X : Type 0} (Q R : A → X → Type 0) (st : State) (o : Outcome A) (r : Result X Stop) → Evaluates Q st o r → ((a : A) (x : X) → Q a x → R a x) → Evaluates R st o r
ev_weaken Q R st (gives a st1) (Ok x) h on = (h.0, on a x h.1)
ev_weaken Q R st (gives a st1) (Err stop) h on = absurd h
ev_weaken Q R st (trapped trap span st1) (Ok x) h on = absurd h
ev_weaken Q R st (trapped trap span st1) (Err stop) h on = h
ev_weaken Q R st (spent st1) (Ok x) h on = absurd h
ev_weaken Q R st (spent st1) (Err stop) h on = absurd h

-- ---- results

-- the same cell, or the same trap
abbrev pub Told : Scene → Option ℕ → Result Cell Trap → Result core.Cell Stop → Type 0
Told s reach (Ok x) (Ok y) = (y ≡ core_cell s x) × CellFits s reach x
Told s reach (Ok x) (Err stop) = ⊥
Told s reach (Err trap) (Ok y) = ⊥
Told s reach (Err trap) (Err stop) = stop.trap ≡ trap

pub value_told : (s : Scene) (u : VarTy) (sp : Span) (st : State) (r : Result Cell Trap) (r' : Result core.Cell Stop) → Told s (reach_of s u) r r' → Evaluates (IsValue s u) st (cell_or_trap sp r st) r'
value_told s u sp st (Ok x) (Ok y) h = (refl, record { cell = x; is = refl; same = h.0; fits = h.1 })
value_told s u sp st (Ok x) (Err stop) h = absurd h
value_told s u sp st (Err trap) (Ok y) h = absurd h
value_told s u sp st (Err trap) (Err stop) h = (h, refl)

pub numbers_told : (s : Scene) (sp : Span) (r : Result ℤ Trap) → Told s None (if_ok r number) (numbered (at_span sp r))
numbers_told s sp (Ok n) = (refl, tt)
numbers_told s sp (Err trap) = refl

truths_told : (s : Scene) (sp : Span) (r : Result Bool Trap) → Told s None (if_ok r (λ b. number (truth b))) (told (at_span sp r))
truths_told s sp (Ok b) = (refl, tt)
truths_told s sp (Err trap) = refl

-- ---- cells

pub number_same : (s : Scene) (x : Cell) → v.number_in (core_cell s x) ≡ m.number_in x
number_same s (number n) = refl
number_same s null = refl
number_same s (pointer b base count index) = refl

pub holds_same : (s : Scene) (x : Cell) → v.holds_in (core_cell s x) ≡ m.holds_in x
holds_same s (number n) = refl
holds_same s null = refl
holds_same s (pointer b base count index) = refl

abbrev pub named : Scene → Target Block → Target BlockName
named s q = record { block = name_of s q.block; base = q.base; count = q.count; index = q.index }

abbrev pub all_named : Scene → Option (Target Block) → Option (Target BlockName)
all_named s None = None
all_named s (Some q) = Some (named s q)

pub target_same : (s : Scene) (x : Cell) → v.target_of (core_cell s x) ≡ all_named s (m.target_of x)
target_same s (number n) = refl
target_same s null = refl
target_same s (pointer b base count index) = refl

-- ---- pointers

pub moved_told : (s : Scene) (sp : Span) (amount : ℤ) (x : Cell) → CellFits s (Some s.frame.depth) x → Told s (Some s.frame.depth) (moved_cell amount x) (pointed (at_span sp (moved amount (v.target_of (core_cell s x)))))
moved_told s sp amount (number n) h = refl
moved_told s sp amount null h = refl
moved_told s sp amount (pointer b base count index) h = go (moved_index count index amount)
  where
    go : (o : Option ℕ) → Told s (Some s.frame.depth) (if_ok (at_index (record { block = b; base = base; count = count; index = index }) o) pointer_to) (pointed (at_span sp (at_index (record { block = name_of s b; base = base; count = count; index = index }) o)))
    go None = refl
    go (Some k) = (refl, h)

equal_same : (s : Scene) → OneToOne s.global_number → (size : ℕ) (a o : Option (Target Block)) → are_equal is_same_name size (all_named s a) (all_named s o) ≡ are_equal same_block size a o
equal_same s one size None None = refl
equal_same s one size None (Some o) = refl
equal_same s one size (Some a) None = refl
equal_same s one size (Some a) (Some o) = ap (λ z. z && nat_eq (p.cell_at size a.base a.index) (p.cell_at size o.base o.index)) (names_equal s one a.block o.block)

indices_same : (s : Scene) → OneToOne s.global_number → (a o : Option (Target Block)) → indices_of is_same_name (all_named s a) (all_named s o) ≡ indices_of same_block a o
indices_same s one None o = refl
indices_same s one (Some a) None = refl
indices_same s one (Some a) (Some o) = ap (λ z. p.both_indices (z && (nat_eq a.base o.base && nat_eq a.count o.count)) a.index o.index) (names_equal s one a.block o.block)

compared_by : (s : Scene) → OneToOne s.global_number → (op : BinOp) (size : ℕ) (a o : Option (Target Block)) → compared is_same_name op size (all_named s a) (all_named s o) ≡ compared same_block op size a o
compared_by s one Eq size a o = ap (λ z. Ok z) (equal_same s one size a o)
compared_by s one Ne size a o = ap (λ z. Ok (not z)) (equal_same s one size a o)
compared_by s one Lt size a o = ap (λ r. if_ok r (λ ij. int_lt ij.0 ij.1)) (indices_same s one a o)
compared_by s one Gt size a o = ap (λ r. if_ok r (λ ij. int_lt ij.1 ij.0)) (indices_same s one a o)
compared_by s one Le size a o = ap (λ r. if_ok r (λ ij. int_le ij.0 ij.1)) (indices_same s one a o)
compared_by s one Ge size a o = ap (λ r. if_ok r (λ ij. int_le ij.1 ij.0)) (indices_same s one a o)
compared_by s one Mul size a o = refl
compared_by s one Div size a o = refl
compared_by s one Rem size a o = refl
compared_by s one Add size a o = refl
compared_by s one Sub size a o = refl
compared_by s one Shl size a o = refl
compared_by s one Shr size a o = refl
compared_by s one And size a o = refl
compared_by s one Xor size a o = refl
compared_by s one Or size a o = refl

pub compared_told : (s : Scene) → OneToOne s.global_number → (sp : Span) (op : BinOp) (size : ℕ) (x y : Cell) →
    Told s None (if_ok (compared same_block op size (m.target_of x) (m.target_of y)) (λ holds. number (truth holds))) (told (at_span sp (compared is_same_name op size (v.target_of (core_cell s x)) (v.target_of (core_cell s y)))))
compared_told s one sp op size x y =
    subst (λ r. Told s None (if_ok (compared same_block op size (m.target_of x) (m.target_of y)) (λ holds. number (truth holds))) (told (at_span sp r)))
    (sym (ap (λ q. compared is_same_name op size q (v.target_of (core_cell s y))) (target_same s x)
    ∙ ap (λ q. compared is_same_name op size (all_named s (m.target_of x)) q) (target_same s y)
    ∙ compared_by s one op size (m.target_of x) (m.target_of y)))
    (truths_told s sp (compared same_block op size (m.target_of x) (m.target_of y)))

pub difference_told : (s : Scene) → OneToOne s.global_number → (sp : Span) (x y : Cell) →
    Told s None (if_ok (difference same_block (m.target_of x) (m.target_of y)) number) (numbered (at_span sp (difference is_same_name (v.target_of (core_cell s x)) (v.target_of (core_cell s y)))))
difference_told s one sp x y =
    subst (λ r. Told s None (if_ok (difference same_block (m.target_of x) (m.target_of y)) number) (numbered (at_span sp r)))
    (sym (ap (λ q. difference is_same_name q (v.target_of (core_cell s y))) (target_same s x)
    ∙ ap (λ q. difference is_same_name (all_named s (m.target_of x)) q) (target_same s y)
    ∙ ap (λ r. if_ok r (λ ij. ij.0 -ℤ ij.1)) (indices_same s one (m.target_of x) (m.target_of y))))
    (numbers_told s sp (difference same_block (m.target_of x) (m.target_of y)))

-- ---- steps of chains

-- what the normal form computes of two numbers
abbrev pub computed : Span → BinOp → IntType → core.Cell → core.Cell → Result core.Cell Stop
computed sp op t x y = numbered (at_span sp (binary_of op t (conv t (v.number_in x)) (right_operand op t y)))

pub arithmetic_told : (s : Scene) (sizes : List ℕ) (u : VarTy) (sp : Span) (op : BinOp) (t : IntType) (x y : Cell) → is_shift op ≡ false → Told s None (stepped sizes u (Arithmetic op t) x y) (computed sp op t (core_cell s x) (core_cell s y))
arithmetic_told s sizes u sp op t x y plain =
    subst (λ r. Told s None (stepped sizes u (Arithmetic op t) x y) (numbered (at_span sp r)))
    (sym (ap (λ n. binary_of op t (conv t n) (right_operand op t (core_cell s y))) (number_same s x)
    ∙ ap (λ z. binary_of op t (conv t (m.number_in x)) (if z then v.number_in (core_cell s y) else conv t (v.number_in (core_cell s y)))) plain
    ∙ ap (λ n. binary_of op t (conv t (m.number_in x)) (conv t n)) (number_same s y)))
    (numbers_told s sp (binary_of op t (conv t (m.number_in x)) (conv t (m.number_in y))))

pub shift_told : (s : Scene) (sizes : List ℕ) (sp : Span) (left : Bool) (t : IntType) (x y : Cell) → promoted t ≡ t → is_shift (shift_of left) ≡ true →
    Told s None (stepped sizes (ty.Int t) (Shift left) x y) (computed sp (shift_of left) t (core_cell s x) (core_cell s y))
shift_told s sizes sp left t x y whole shifts =
    subst (λ r. Told s None (stepped sizes (ty.Int t) (Shift left) x y) (numbered (at_span sp r)))
    (sym (ap (λ n. binary_of (shift_of left) t (conv t n) (right_operand (shift_of left) t (core_cell s y))) (number_same s x)
    ∙ ap (λ z. binary_of (shift_of left) t (conv t (m.number_in x)) (if z then v.number_in (core_cell s y) else conv t (v.number_in (core_cell s y)))) shifts
    ∙ ap (λ n. binary_of (shift_of left) t (conv t (m.number_in x)) n) (number_same s y)))
    (subst (λ u. Told s None (if_ok (binary_of (shift_of left) u (conv u (m.number_in x)) (m.number_in y)) number) (numbered (at_span sp (binary_of (shift_of left) t (conv t (m.number_in x)) (m.number_in y))))) (sym whole)
    (numbers_told s sp (binary_of (shift_of left) t (conv t (m.number_in x)) (m.number_in y))))

-- ---- operators before an operand

pub unary_told : (s : Scene) (sp : Span) (op : UnOp) (t : IntType) (x : Cell) → CellFits s None x → Told s None (unary_cell op (ty.Int t) x) (numbered (at_span sp (unary_of op t (unary_operand op t (core_cell s x)))))
unfolding unary_of
unary_told s sp Not t (number n) h = go (int_eq n (pos 0))
  where
    go : (z : Bool) → Told s None (Ok (number (truth (not (not z))))) (numbered (at_span sp (Ok (truth z))))
    go true = (refl, tt)
    go false = (refl, tt)
unary_told s sp Not t null h = absurd h
unary_told s sp Not t (pointer b base count index) h = absurd h
unary_told s sp Minus t x h = subst (λ n. Told s None (unary_cell Minus (ty.Int t) x) (numbered (at_span sp (unary_of Minus t (conv t n))))) (sym (number_same s x)) (numbers_told s sp (unary_of Minus t (conv t (m.number_in x))))
unary_told s sp Plus t x h = subst (λ n. Told s None (unary_cell Plus (ty.Int t) x) (numbered (at_span sp (unary_of Plus t (conv t n))))) (sym (number_same s x)) (numbers_told s sp (unary_of Plus t (conv t (m.number_in x))))
unary_told s sp Flip t x h = subst (λ n. Told s None (unary_cell Flip (ty.Int t) x) (numbered (at_span sp (unary_of Flip t (conv t n))))) (sym (number_same s x)) (numbers_told s sp (unary_of Flip t (conv t (m.number_in x))))

-- ---- conversions

pub converted_same : (s : Scene) (same : Bool) (to : IntType) (x : Cell) → CellFits s None x → converted same to (core_cell s x) ≡ core_cell s (m.converted_cell (ty.Int to) x)
converted_same s same to (number n) h = refl
converted_same s same to null h = absurd h
converted_same s same to (pointer b base count index) h = absurd h

pub converted_fits : (s : Scene) (to : IntType) (x : Cell) → CellFits s None x → CellFits s None (m.converted_cell (ty.Int to) x)
converted_fits s to (number n) h = tt
converted_fits s to null h = absurd h
converted_fits s to (pointer b base count index) h = absurd h
