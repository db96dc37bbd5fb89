-- What a body is given, and what it leaves: numbers of their types.
use Rattle.std.proofs.Common.{◌≡◌, ◌∙◌, ◌+◌, ◌*◌, ◌<◌, ◌≤◌, ◌^◌, ℕ, zero, suc, ℤ, ap, sym, refl, subst, arith, List, [], ◌∷◌, map, length, get_or, Bool, true, false, Option, Some, None, Result, Ok, Err, if◌then◌else◌}
use Rattle.std.proofs.Math.Nat.{suc-mul}
use Rattle.std.specs.Prelude.{IsTrue, ◌&&◌, ◌||◌, drop, nat_le, nat_lt, slice_get, slice_index_or}
use Rattle.std.specs.List.{AllByRecursion, list_all}
use Rattle.std.proofs.lemmas.Bool.Decides.{nat_tests}
use Rattle.std.proofs.lemmas.List.{length-map}
use Rattle.pt_base.specs.IntTypes.{InRange}
use Rattle.pt_base.specs.declared.int_type.IntType.{IntType}
use Rattle.pt_base.proofs.Booleans.{both_hold_first, both_hold_second}
use Rattle.pt_int.specs.Conversion.{is_in_range}
use Rattle.pt_tree.specs.declared.signature.Elem.{Elem}
use Rattle.pt_tree.specs.declared.signature.Param.{Param}
use Rattle.pt_tree.specs.declared.signature.ParamKind.{ParamKind}
use Rattle.pt_tree.specs.declared.signature.ParamKind.TheVariants as kind
use Rattle.typed_tree.specs.declared.types.StructInfo.{StructInfo}
use Rattle.typed_tree.specs.declared.types.VarTy.TheVariants.{Pointer}
use Rattle.typed_tree.specs.Cells.{repeated}
use Rattle.typed_tree.specs.Cells as typed
use Rattle.typed_tree.specs.TypeTests.{same_int, type_of_elem}
use Rattle.typed_tree.specs.WellFormed.{is_variable_type, structs_sound}
use Rattle.typed_tree.specs.WellFormedExpression.{param_type}
use Rattle.typed_tree.proofs.SameTypes.{equal_ints}
use Rattle.block_memory.specs.declared.cell.BlockName.TheVariants.{Received}
use Rattle.block_memory.specs.declared.cell.Cell.{Cell}
use Rattle.block_memory.specs.declared.cell.Cell.TheVariants as cell
use Rattle.block_memory.specs.declared.cell.Pointer.TheVariants.{At}
use Rattle.block_memory.specs.Blocks.{Blocks}
use Rattle.handle_store.specs.Stored.{AreInRange}
use Rattle.core_soundness_law.specs.Kept.{none}
use Rattle.core_soundness_law.specs.Fits.{IntegerFits, IntegersFit, LieAt, PointerFits, ValueFits}
use Rattle.core_soundness_law.specs.Outside.{ArgumentsFit}
use Rattle.core_soundness_law.proofs.Numbers.{in_range}
pub use Rattle.core_soundness_law.proofs.Numbers.{range_of}
use Rattle.wire.specs.Limits.{IsBlock}
use Rattle.wire.specs.declared.cell.Arg.{Arg}
use Rattle.wire.specs.declared.cell.Arg.TheVariants as argument
use Rattle.wire.specs.declared.cell.WireCell.{WireCell}
use Rattle.wire.specs.declared.cell.WireCell.TheVariants as wire
use Rattle.wire.specs.declared.message.CallBody.{CallBody}
use Rattle.marshalling.specs.declared.fault.BadCall.{BadCall}
use Rattle.marshalling.specs.declared.fault.BadCall.TheVariants.{Shape, WrongType}
use Rattle.marshalling.specs.declared.inputs.Inputs.{Inputs}
use Rattle.marshalling.specs.Handles.{Entries, argument_fault, arguments_fault, block_fault, blocks_fault, cell_fault, entry_fault, entry_value, handle_fault, inputs_unless, or_else, stored, unpacked, unpacked_argument, unpacked_cell, unpacking}
use Rattle.marshalling.specs.Leaves as leaves
use Rattle.marshalling.specs.Leaves.{under}
use Rattle.marshalling.specs.Replies.{AreServed, HoldNumbers, HoldsNumber, block_types, types_of}
use Rattle.marshalling.specs.Shape.{are_named, fit_all, fits_block, fits_kind, fits_range, is_shaped, is_typed, may_stand}
use Rattle.marshalling_law.specs.CallsSending.{AreParameters}
use Rattle.marshalling_law.specs.CallsServed.{AllHold, AreInputs, AreOfTypes, BodiesAreServed, InputsFit, ResultsAreNumbers}
use Rattle.marshalling_law.proofs.CallsSendable.{leaf_types, map_repeated}
use Rattle.marshalling_law.proofs.CallsTargets.{elem_leaf}

-- ---- what is left

pub numbers_held : (types : List IntType) (cells : List Cell) → IntegersFit none types cells → HoldNumbers types cells
numbers_held [] [] f = tt {0}
numbers_held [] (c ∷ cells) f = elim f [ ]
numbers_held (t ∷ types) [] f = elim f [ ]
numbers_held (t ∷ types) (c ∷ cells) f = (one t c f.0, numbers_held types cells f.1)
  where
    one : (t : IntType) (c : Cell) → IntegerFits none t c → HoldsNumber t c
    one t (cell.Int v) f = range_of t v f
    one t (cell.Ptr p) f = elim f [ ]
    one t (cell.Sealed h) f = cc

serves : (z : Blocks) (tss : List (List IntType)) (k : ℕ) → k + length tss ≤ 256 → ((n : ℕ) → HoldNumbers (z (Received n)).types (z (Received n)).cells) →
    ((j : ℕ) → j < length tss → (z (Received (k + j))).types ≡ get_or tss j []) → AreServed z k tss
serves z [] k few holds types = tt {0}
serves z (ts ∷ tss) k few holds types = (
  omega (arith, few),
  subst (λ us. HoldNumbers us (z (Received k)).cells) (ap (λ n. (z (Received n)).types) (here k) ∙ types 0 (omega arith)) (holds k),
  serves z tss (suc k) (omega (arith, few)) holds (λ j lt. ap (λ n. (z (Received n)).types) (next k j) ∙ types (suc j) (omega (arith, lt))),
)
  where
    here : (k : ℕ) → k ≡ k + 0
    here k = omega arith

    next : (k j : ℕ) → suc k + j ≡ k + suc j
    next k j = omega arith

pub bodies_are_served : BodiesAreServed
bodies_are_served monitor active z types mem few are =
    serves z types 0 (omega (arith, few)) (λ n. numbers_held (z (Received n)).types (z (Received n)).cells (mem.received_cells n)) (λ j lt. ap (λ n. (z (Received n)).types) (plain j) ∙ are j lt)
  where
    plain : (j : ℕ) → 0 + j ≡ j
    plain j = omega arith

pub results_are_numbers : ResultsAreNumbers
results_are_numbers None None g = record { result = tt {0}; same = refl }
results_are_numbers None (Some v) g = elim g [ ]
results_are_numbers (Some t) None g = elim g [ ]
results_are_numbers (Some t) (Some (cell.Int v)) g = record { result = range_of t v g; same = refl }
results_are_numbers (Some t) (Some (cell.Ptr p)) g = elim g [ ]
results_are_numbers (Some t) (Some (cell.Sealed h)) g = cc

-- ---- entries of a store

record IsEntry (store : Entries) (h : ℕ) (entry : IntType × ℤ) : Type 0 where
  within : h < length store
  is : (d : IntType × ℤ) → slice_index_or store h d ≡ entry

entry_at : (store : Entries) (h : ℕ) (entry : IntType × ℤ) → slice_get store h ≡ Some entry → IsEntry store h entry
entry_at [] h entry is = cc
entry_at (x ∷ xs) zero entry is = record { within = omega arith; is = λ d. same is }
  where
    same : Some x ≡ Some entry → x ≡ entry
    same e = cc
entry_at (x ∷ xs) (suc h) entry is = let rest : IsEntry xs h entry = entry_at xs h entry is in let less = rest.within in record { within = omega (arith, less); is = rest.is }

-- a handle that isn't faulty stands for a number of the type
handle_value : (store : Entries) (t : IntType) (h : ℕ) → AreInRange store → entry_fault t h (slice_get store h) ≡ None → IsTrue (is_in_range t (stored store h))
handle_value store t h ranged clean = go (slice_get store h) refl clean
  where
    go : (o : Option (IntType × ℤ)) → slice_get store h ≡ o → entry_fault t h o ≡ None → IsTrue (is_in_range t (entry_value o))
    go None e c = cc
    go (Some entry) e c = at (same_int t entry.0) refl c
      where
        known : IsEntry store h entry
        known = entry_at store h entry e

        ranges : InRange entry.0 entry.1
        ranges = subst (λ (x : IntType × ℤ). InRange x.0 x.1) (known.is entry) (ranged h entry known.within)

        at : (b : Bool) → same_int t entry.0 ≡ b → (if b then None else Some (WrongType h)) ≡ None → IsTrue (is_in_range t entry.1)
        at true s n = subst (λ u. IsTrue (is_in_range u entry.1)) (sym (equal_ints t entry.0 s)) (in_range entry.0 entry.1 ranges)
        at false s n = cc

-- ---- faults

first_clean : (a b : Option BadCall) → or_else a b ≡ None → a ≡ None
first_clean None b h = refl
first_clean (Some fault) b h = cc

rest_clean : (a b : Option BadCall) → or_else a b ≡ None → b ≡ None
rest_clean None b h = h
rest_clean (Some fault) b h = cc

-- ---- blocks

one_cell : (store : Entries) (typed : IntType × WireCell) → AreInRange store → is_typed typed ≡ true → cell_fault store typed ≡ None → IntegerFits none typed.0 (unpacked_cell store typed)
one_cell store (t, wire.Number v) ranged h clean = h
one_cell store (t, wire.Sealed handle) ranged h clean = handle_value store t handle ranged clean

one_block : (store : Entries) (cells : List (IntType × WireCell)) → AreInRange store → list_all is_typed cells ≡ true → block_fault store cells ≡ None → IntegersFit none (block_types cells) (map (unpacked_cell store) cells)
one_block store [] ranged h clean = tt {0}
one_block store (c ∷ cells) ranged h clean = (
  one_cell store c ranged (both_hold_first (is_typed c) (list_all is_typed cells) h) (first_clean (cell_fault store c) (block_fault store cells) clean),
  one_block store cells ranged (both_hold_second (is_typed c) (list_all is_typed cells) h) (rest_clean (cell_fault store c) (block_fault store cells) clean),
)

all_blocks : (store : Entries) (blocks : List (List (IntType × WireCell))) → AreInRange store → list_all (list_all is_typed) blocks ≡ true → blocks_fault store blocks ≡ None → AllHold (types_of blocks) (map (map (unpacked_cell store)) blocks)
all_blocks store [] ranged h clean = tt {0}
all_blocks store (b ∷ blocks) ranged h clean = (
  one_block store b ranged (both_hold_first (list_all is_typed b) (list_all (list_all is_typed) blocks) h) (first_clean (block_fault store b) (blocks_fault store blocks) clean),
  all_blocks store blocks ranged (both_hold_second (list_all is_typed b) (list_all (list_all is_typed) blocks) h) (rest_clean (block_fault store b) (blocks_fault store blocks) clean),
)

types_at : (blocks : List (List (IntType × WireCell))) (k : ℕ) → slice_index_or (types_of blocks) k [] ≡ block_types (slice_index_or blocks k [])
types_at [] k = refl
types_at (b ∷ blocks) zero = refl
types_at (b ∷ blocks) (suc k) = types_at blocks k

few_cells : (blocks : List (List (IntType × WireCell))) (k : ℕ) → AllByRecursion IsBlock blocks → length (slice_index_or blocks k []) ≤ 65_536
few_cells [] k h = omega arith
few_cells (b ∷ blocks) zero h = h.0.1
few_cells (b ∷ blocks) (suc k) h = few_cells blocks k h.1

-- ---- arguments

-- where a range has the types of leaves, they lie there
range_lies : (marked : Bool) (cells : List (IntType × WireCell)) (n : ℕ) (L : List _) → n ≤ length cells → fits_range marked L (drop n cells) ≡ true → LieAt (block_types cells) n (map (λ leaf. (under false leaf).ty) L)
range_lies marked [] zero [] within h = tt {0}
range_lies marked [] zero (l ∷ L) within h = cc
range_lies marked [] (suc n) L within h = absurd (omega (arith, within))
range_lies marked (c ∷ cells) zero [] within h = tt {0}
range_lies marked (c ∷ cells) zero (l ∷ L) within h = (
  sym (equal_ints l.ty c.0 (both_hold_first (same_int l.ty c.0) (may_stand (marked || l.marked) c.1) (both_hold_first (same_int l.ty c.0 && may_stand (marked || l.marked) c.1) (fits_range marked L cells) h))),
  range_lies marked cells zero L (omega arith) (both_hold_second (same_int l.ty c.0 && may_stand (marked || l.marked) c.1) (fits_range marked L cells) h),
)
range_lies marked (c ∷ cells) (suc n) L within h = range_lies marked cells n L (omega (arith, within)) h

-- so many things of some size are no more than their sizes together
times : (count size : ℕ) → 1 ≤ size → count ≤ count * size
times zero size h = omega arith
times (suc count) size h = let product = suc-mul count size in let rest = times count size h in omega (arith, product, rest, h)

one_pointer : (structs : List StructInfo) (y : Blocks) (blocks : List (List (IntType × WireCell))) (marked : Bool) (elem : Elem) (fixed : Bool) (block base count index : ℕ) → IsTrue (structs_sound structs 0 structs) →
    IsTrue (is_variable_type (length structs) (Pointer elem fixed)) → AllByRecursion IsBlock blocks → (y (Received block)).types ≡ slice_index_or (types_of blocks) block [] →
    (nat_lt block (length blocks) && ((nat_le 1 count && nat_le index count) && fits_block marked (leaves.leaves_of structs elem) base count (slice_index_or blocks block []))) ≡ true →
    PointerFits structs y 0 elem (cell.Ptr (At (Received block) base count index))
one_pointer structs y blocks marked elem fixed block base count index sound ok few is h = record {
  near = omega arith;
  some = least count (both_hold_first (nat_le 1 count) (nat_le index count) counts);
  few = bounded count (count * length (leaves.leaves_of structs elem)) (length (slice_index_or blocks block [])) base (times count (length (leaves.leaves_of structs elem)) one_leaf) (at_most (base + count * length (leaves.leaves_of structs elem)) (length (slice_index_or blocks block [])) size) (few_cells blocks block few);
  within = at_most index count (both_hold_second (nat_le 1 count) (nat_le index count) counts);
  types = subst (λ ts. LieAt ts base (repeated count (typed.leaves_of structs (type_of_elem elem)))) (sym (is ∙ types_at blocks block))
      (subst (λ ts. LieAt (block_types (slice_index_or blocks block [])) base ts) (map_repeated (λ leaf. (under false leaf).ty) count (leaves.leaves_of structs elem) ∙ ap (repeated count) (leaf_types structs elem))
      (range_lies marked (slice_index_or blocks block []) base (repeated count (leaves.leaves_of structs elem)) (first_part base (count * length (leaves.leaves_of structs elem)) (length (slice_index_or blocks block [])) (at_most (base + count * length (leaves.leaves_of structs elem)) (length (slice_index_or blocks block [])) size)) range));
}
  where
    rest : IsTrue ((nat_le 1 count && nat_le index count) && fits_block marked (leaves.leaves_of structs elem) base count (slice_index_or blocks block []))
    rest = both_hold_second (nat_lt block (length blocks)) ((nat_le 1 count && nat_le index count) && fits_block marked (leaves.leaves_of structs elem) base count (slice_index_or blocks block [])) h

    counts : IsTrue (nat_le 1 count && nat_le index count)
    counts = both_hold_first (nat_le 1 count && nat_le index count) (fits_block marked (leaves.leaves_of structs elem) base count (slice_index_or blocks block [])) rest

    fits : IsTrue (fits_block marked (leaves.leaves_of structs elem) base count (slice_index_or blocks block []))
    fits = both_hold_second (nat_le 1 count && nat_le index count) (fits_block marked (leaves.leaves_of structs elem) base count (slice_index_or blocks block [])) rest

    size : IsTrue (nat_le (base + count * length (leaves.leaves_of structs elem)) (length (slice_index_or blocks block [])))
    size = both_hold_first (nat_le (base + count * length (leaves.leaves_of structs elem)) (length (slice_index_or blocks block []))) (fits_range marked (repeated count (leaves.leaves_of structs elem)) (drop base (slice_index_or blocks block []))) fits

    range : fits_range marked (repeated count (leaves.leaves_of structs elem)) (drop base (slice_index_or blocks block [])) ≡ true
    range = both_hold_second (nat_le (base + count * length (leaves.leaves_of structs elem)) (length (slice_index_or blocks block []))) (fits_range marked (repeated count (leaves.leaves_of structs elem)) (drop base (slice_index_or blocks block []))) fits

    least : (k : ℕ) → IsTrue (nat_le 1 k) → 1 ≤ k
    least k h = grind (arith, nat_tests)

    at_most : (a b : ℕ) → IsTrue (nat_le a b) → a ≤ b
    at_most a b h = grind (arith, nat_tests)

    first_part : (a b c : ℕ) → a + b ≤ c → a ≤ c
    first_part a b c h = omega (arith, h)

    bounded : (a b c d : ℕ) → a ≤ b → d + b ≤ c → c ≤ 65_536 → a < 2 ^ 32
    bounded a b c d h k l = omega (arith, h, k, l)

    one_leaf : 1 ≤ length (leaves.leaves_of structs elem)
    one_leaf = let some = elem_leaf structs elem fixed sound ok in let same = same_count in omega (arith, some, same)
      where
        same_count : length (leaves.leaves_of structs elem) ≡ length (typed.leaves_of structs (type_of_elem elem))
        same_count = mapped (leaves.leaves_of structs elem) ∙ ap (λ (ts : List IntType). length ts) (leaf_types structs elem)
          where
            mapped : (L : List _) → length L ≡ length (map (λ leaf. (under false leaf).ty) L)
            mapped L = sym (length-map L (λ leaf. (under false leaf).ty))

one_argument : (structs : List StructInfo) (store : Entries) (y : Blocks) (blocks : List (List (IntType × WireCell))) (marked : Bool) (of : ParamKind) (a : Arg) → IsTrue (structs_sound structs 0 structs) → IsTrue (is_variable_type (length structs) (param_type of)) →
    AllByRecursion IsBlock blocks → AreInRange store → AreOfTypes (types_of blocks) y → fits_kind structs blocks marked of a ≡ true → argument_fault store of a ≡ None → ValueFits none structs y 0 (param_type of) (unpacked_argument store a)
one_argument structs store y blocks marked (kind.Int t) (argument.Number v) sound ok few ranged are h clean = h
one_argument structs store y blocks marked (kind.Int t) (argument.Sealed handle) sound ok few ranged are h clean = handle_value store t handle ranged clean
one_argument structs store y blocks marked (kind.Int t) argument.Null sound ok few ranged are h clean = cc
one_argument structs store y blocks marked (kind.Int t) (argument.At block base count index) sound ok few ranged are h clean = cc
one_argument structs store y blocks marked (kind.Ptr elem fixed) (argument.Number v) sound ok few ranged are h clean = cc
one_argument structs store y blocks marked (kind.Ptr elem fixed) (argument.Sealed handle) sound ok few ranged are h clean = cc
one_argument structs store y blocks marked (kind.Ptr elem fixed) argument.Null sound ok few ranged are h clean = tt {0}
one_argument structs store y blocks marked (kind.Ptr elem fixed) (argument.At block base count index) sound ok few ranged are h clean =
    one_pointer structs y blocks marked elem fixed block base count index sound ok few (are block) h

all_arguments : (structs : List StructInfo) (store : Entries) (y : Blocks) (blocks : List (List (IntType × WireCell))) (params : List Param) (args : List Arg) → IsTrue (structs_sound structs 0 structs) → AreParameters structs params →
    AllByRecursion IsBlock blocks → AreInRange store → AreOfTypes (types_of blocks) y → fit_all structs blocks params args ≡ true → arguments_fault store params args ≡ None → ArgumentsFit none structs y 0 params (map (unpacked_argument store) args)
all_arguments structs store y blocks [] [] sound ok few ranged are h clean = tt {0}
all_arguments structs store y blocks [] (a ∷ args) sound ok few ranged are h clean = cc
all_arguments structs store y blocks (p ∷ params) [] sound ok few ranged are h clean = cc
all_arguments structs store y blocks (p ∷ params) (a ∷ args) sound ok few ranged are h clean = (
  one_argument structs store y blocks p.marked p.kind a sound (both_hold_first (is_variable_type (length structs) (param_type p.kind)) (list_all (λ (q : Param). is_variable_type (length structs) (param_type q.kind)) params) ok) few ranged are
      (both_hold_first (fits_kind structs blocks p.marked p.kind a) (fit_all structs blocks params args) h) (first_clean (argument_fault store p.kind a) (arguments_fault store params args) clean),
  all_arguments structs store y blocks params args sound (both_hold_second (is_variable_type (length structs) (param_type p.kind)) (list_all (λ (q : Param). is_variable_type (length structs) (param_type q.kind)) params) ok) few ranged are
      (both_hold_second (fits_kind structs blocks p.marked p.kind a) (fit_all structs blocks params args) h) (rest_clean (argument_fault store p.kind a) (arguments_fault store params args) clean),
)

-- ---- bodies

abbrev as_result : Inputs → Result Inputs BadCall
as_result x = Ok x

inner : (a b : Inputs) → as_result a ≡ as_result b → a ≡ b
inner a b e = cc

-- what isn't refused is of the shape, and has no faulty handle
record IsOpened (structs : List StructInfo) (store : Entries) (params : List Param) (body : CallBody) (inputs : Inputs) : Type 0 where
  shaped : is_shaped structs params body ≡ true
  clean : handle_fault store params body ≡ None
  same : unpacked store body ≡ inputs

opened : (structs : List StructInfo) (store : Entries) (params : List Param) (body : CallBody) (inputs : Inputs) → unpacking store structs params body ≡ Ok inputs → IsOpened structs store params body inputs
opened structs store params body inputs h = go (is_shaped structs params body) refl (handle_fault store params body) refl h
  where
    go : (b : Bool) → is_shaped structs params body ≡ b → (o : Option BadCall) → handle_fault store params body ≡ o → (if b then inputs_unless o (unpacked store body) else Err Shape) ≡ Ok inputs → IsOpened structs store params body inputs
    go true s None c e = record { shaped = s; clean = c; same = inner (unpacked store body) inputs e }
    go true s (Some fault) c e = cc
    go false s o c e = cc

pub inputs_fit : InputsFit
inputs_fit structs store params body inputs sound ok call ranged h = subst (AreInputs structs params body) open_body.same (record {
  blocks = all_blocks store body.blocks ranged (both_hold_second (are_named body.args 0 body.blocks) (list_all (list_all is_typed) body.blocks) typed_blocks) (rest_clean (arguments_fault store params body.args) (blocks_fault store body.blocks) open_body.clean);
  args = λ y are. all_arguments structs store y body.blocks params body.args sound ok call.each ranged are
      (both_hold_first (fit_all structs body.blocks params body.args) (are_named body.args 0 body.blocks && list_all (list_all is_typed) body.blocks) open_body.shaped) (first_clean (arguments_fault store params body.args) (blocks_fault store body.blocks) open_body.clean);
})
  where
    open_body : IsOpened structs store params body inputs
    open_body = opened structs store params body inputs h

    typed_blocks : IsTrue (are_named body.args 0 body.blocks && list_all (list_all is_typed) body.blocks)
    typed_blocks = both_hold_second (fit_all structs body.blocks params body.args) (are_named body.args 0 body.blocks && list_all (list_all is_typed) body.blocks) open_body.shaped
