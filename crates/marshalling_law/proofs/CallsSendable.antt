-- What fits by a store may be sent to a monitor with that store.
use Rattle.std.proofs.Common.{◌≡◌, ◌∙◌, ◌+◌, ◌*◌, ◌≤◌, ◌<◌, ℕ, zero, suc, ap, sym, refl, subst, arith, List, [], ◌∷◌, ◌++◌, map, length, Bool, true, false, Option, Some, None, ℤ}
use Rattle.std.specs.Prelude.{IsTrue, ◌&&◌, ◌||◌, drop, nat_le, slice_get, unwrap_or}
use Rattle.std.specs.List.{flat_map, list_all, zip}
use Rattle.std.proofs.lemmas.Bool.{lt-ltb, and_from}
use Rattle.std.proofs.lemmas.Bool.Decides.{nat_tests}
use Rattle.pt_base.specs.declared.int_type.IntType.{IntType}
use Rattle.pt_base.proofs.Booleans.{and_true_first, and_true_second, both_hold_first, both_hold_second}
use Rattle.pt_base.proofs.Lists.{map_append}
use Rattle.pt_tree.specs.declared.signature.Elem.{Elem}
use Rattle.pt_tree.specs.declared.signature.Elem.TheVariants as e
use Rattle.pt_tree.specs.declared.signature.Param.{Param}
use Rattle.pt_tree.specs.declared.signature.ParamKind.{ParamKind}
use Rattle.pt_tree.specs.declared.signature.ParamKind.TheVariants as kind
use Rattle.typed_tree.specs.declared.types.Field.{Field}
use Rattle.typed_tree.specs.declared.types.StructInfo.{StructInfo}
use Rattle.typed_tree.specs.declared.types.VarTy.{VarTy}
use Rattle.typed_tree.specs.declared.types.VarTy.TheVariants.{Int, Struct, Array, Pointer}
use Rattle.typed_tree.specs.Cells.{repeated}
use Rattle.typed_tree.specs.Cells as typed
use Rattle.typed_tree.specs.TypeTests.{same_int, type_of_elem}
use Rattle.typed_tree.specs.WellFormed.{is_variable_type, structs_sound}
use Rattle.typed_tree.specs.WellFormedExpression.{param_type}
use Rattle.typed_tree.proofs.SameTypes.{int_self}
use Rattle.block_memory.specs.declared.cell.Cell.{Cell}
use Rattle.block_memory.specs.declared.cell.Cell.TheVariants as cell
use Rattle.block_memory.specs.declared.cell.Pointer.TheVariants.{Null, At}
use Rattle.block_memory.specs.declared.cell.BlockName.{BlockName}
use Rattle.block_memory.specs.declared.cell.BlockName.TheVariants.{Local, Global, Received}
use Rattle.block_memory.specs.Block.{Block}
use Rattle.block_memory.specs.Blocks.{Blocks}
use Rattle.block_memory.proofs.BlocksLemmas.{is_same_name-self}
use Rattle.core_soundness_law.specs.Kept.{Kept, by_store, is_stored}
use Rattle.core_soundness_law.specs.Fits.{IntegerFits, IntegersFit, LieAt, LocalFits, PointerFits, ValueFits, variables_at}
use Rattle.core_soundness_law.specs.Outside.{ArgumentsFit}
use Rattle.marshalling.specs.HonestCalls.{is_known}
use Rattle.marshalling.specs.Handles.{Entries}
use Rattle.marshalling.specs.Leaves as leaves
use Rattle.marshalling.specs.Leaves.{range_leaves, under}
use Rattle.marshalling.specs.Packing.{names_of, packed_block, packed_cell, packed_typed}
use Rattle.marshalling.specs.Sendable.{holds, is_kept, sends_all, sends_kind}
use Rattle.marshalling.specs.Shape.{fits_block, fits_range, may_stand}
use Rattle.marshalling.proofs.NameLemmas.{from_new}
use Rattle.marshalling.proofs.ReachLemmas.{repeated_size}
use Rattle.marshalling_law.specs.CallsSending.{AreParameters, HandlesStand, KnownByFits, SendableByFits, StandsFor, are_allowed, may_hold}
use Rattle.marshalling_law.proofs.CallsTargets.{IsTarget, block_integers, each_name, target_of, targets}

-- ---- leaves have the types of an object's integers

abbrev Typed : {A : Type 0} → (A → IntType) → List (List A) → List (List IntType) → Type 0
Typed f [] [] = Unit {0}
Typed f [] (y ∷ ys) = ⊥
Typed f (x ∷ xs) [] = ⊥
Typed f (x ∷ xs) (y ∷ ys) = (map f x ≡ y) × Typed f xs ys

got_typed : {A : Type 0} (f : A → IntType) (xs : List (List A)) (ys : List (List IntType)) (n : ℕ) → Typed f xs ys → map f (unwrap_or (slice_get xs n) []) ≡ unwrap_or (slice_get ys n) []
got_typed f [] [] n h = refl
got_typed f [] (y ∷ ys) n h = elim h [ ]
got_typed f (x ∷ xs) [] n h = elim h [ ]
got_typed f (x ∷ xs) (y ∷ ys) zero h = h.0
got_typed f (x ∷ xs) (y ∷ ys) (suc n) h = got_typed f xs ys n h.1

pub map_repeated : {A B : Type 0} (f : A → B) (count : ℕ) (xs : List A) → map f (repeated count xs) ≡ repeated count (map f xs)
map_repeated f zero xs = refl
map_repeated f (suc count) xs = map_append f xs (repeated count xs) ∙ ap (λ zs. map f xs ++ zs) (map_repeated f count xs)

one_more : {A : Type 0} (f : A → IntType) (xs : List (List A)) (ys : List (List IntType)) (x : List A) (y : List IntType) → Typed f xs ys → map f x ≡ y → Typed f (xs ++ x ∷ []) (ys ++ y ∷ [])
one_more f [] [] x y h k = (k, tt {0})
one_more f [] (z ∷ ys) x y h k = elim h [ ]
one_more f (z ∷ xs) [] x y h k = elim h [ ]
one_more f (z ∷ xs) (u ∷ ys) x y h k = (h.0, one_more f xs ys x y h.1 k)

element_typed : (xs : List (List _)) (ys : List (List IntType)) (elem : Elem) → Typed (λ leaf. (under false leaf).ty) xs ys → map (λ leaf. (under false leaf).ty) (leaves.element_leaves xs elem) ≡ typed.element_leaves ys elem
element_typed xs ys (e.Int t) h = refl
element_typed xs ys (e.Struct n) h = got_typed (λ leaf. (under false leaf).ty) xs ys n h

object_typed : (xs : List (List _)) (ys : List (List IntType)) (ty : VarTy) → Typed (λ leaf. (under false leaf).ty) xs ys → map (λ leaf. (under false leaf).ty) (leaves.object_leaves xs ty) ≡ typed.object_leaves ys ty
object_typed xs ys (Int t) h = refl
object_typed xs ys (Struct n) h = got_typed (λ leaf. (under false leaf).ty) xs ys n h
object_typed xs ys (Array elem count) h = map_repeated (λ leaf. (under false leaf).ty) count (leaves.element_leaves xs elem) ∙ ap (repeated count) (element_typed xs ys elem h)
object_typed xs ys (Pointer elem fixed) h = refl

under_typed : (marked : Bool) (xs : List _) → map (λ leaf. (under false leaf).ty) (map (under marked) xs) ≡ map (λ leaf. (under false leaf).ty) xs
under_typed marked [] = refl
under_typed marked (x ∷ xs) = ap (λ ts. x.ty ∷ ts) (under_typed marked xs)

fields_typed : (xs : List (List _)) (ys : List (List IntType)) (fs : List Field) → Typed (λ leaf. (under false leaf).ty) xs ys → map (λ leaf. (under false leaf).ty) (flat_map (leaves.field_leaves xs) fs) ≡ flat_map (λ (f : Field). typed.object_leaves ys f.ty) fs
fields_typed xs ys [] h = refl
fields_typed xs ys (f ∷ fs) h =
    map_append (λ leaf. (under false leaf).ty) (leaves.field_leaves xs f) (flat_map (leaves.field_leaves xs) fs)
    ∙ ap (λ ts. ts ++ map (λ leaf. (under false leaf).ty) (flat_map (leaves.field_leaves xs) fs)) (under_typed f.marked (leaves.object_leaves xs f.ty) ∙ object_typed xs ys f.ty h)
    ∙ ap (λ ts. typed.object_leaves ys f.ty ++ ts) (fields_typed xs ys fs h)

all_typed : (xs : List (List _)) (ys : List (List IntType)) (structs : List StructInfo) → Typed (λ leaf. (under false leaf).ty) xs ys → Typed (λ leaf. (under false leaf).ty) (leaves.leaves_from xs structs) (typed.leaves_from ys structs)
all_typed xs ys [] h = h
all_typed xs ys (s ∷ structs) h =
    all_typed (xs ++ flat_map (leaves.field_leaves xs) s.fields ∷ []) (ys ++ typed.struct_leaves ys s ∷ []) structs
    (one_more (λ leaf. (under false leaf).ty) xs ys (flat_map (leaves.field_leaves xs) s.fields) (typed.struct_leaves ys s) h (fields_typed xs ys s.fields h))

pub leaf_types : (structs : List StructInfo) (elem : Elem) → map (λ leaf. (under false leaf).ty) (leaves.leaves_of structs elem) ≡ typed.leaves_of structs (type_of_elem elem)
unfolding leaves.leaves_of typed.leaves_of
leaf_types structs (e.Int t) = refl
leaf_types structs (e.Struct n) = got_typed (λ leaf. (under false leaf).ty) (leaves.leaves_from [] structs) (typed.leaves_from [] structs) n (all_typed [] [] structs (tt {0}))

-- ---- ranges

stands : (kept : Kept) (secret : Bool) (t : IntType) (c : Cell) → IntegerFits kept t c → may_hold secret c ≡ true → may_stand secret (packed_cell c) ≡ true
stands kept secret t (cell.Int v) f h = refl
stands kept secret t (cell.Ptr p) f h = elim f [ ]
stands kept secret t (cell.Sealed s) f h = h

-- a range that lies in a block is one of the packed block
range_fits : (kept : Kept) (marked : Bool) (types : List IntType) (cells : List Cell) (base : ℕ) (L : List _) → LieAt types base (map (λ leaf. (under false leaf).ty) L) → IntegersFit kept types cells →
    are_allowed marked (map (λ leaf. (under false leaf).marked) L) (drop base cells) ≡ true → (fits_range marked L (drop base (map packed_typed (zip types cells))) ≡ true) × (base + length L ≤ length (map packed_typed (zip types cells)))
range_fits kept marked [] [] zero [] lies f h = (refl, omega arith)
range_fits kept marked [] [] zero (l ∷ L) lies f h = elim lies [ ]
range_fits kept marked [] [] (suc n) L lies f h = elim lies [ ]
range_fits kept marked [] (c ∷ cells) base L lies f h = elim f [ ]
range_fits kept marked (t ∷ types) [] base L lies f h = elim f [ ]
range_fits kept marked (t ∷ types) (c ∷ cells) zero [] lies f h = (refl, omega arith)
range_fits kept marked (t ∷ types) (c ∷ cells) zero (l ∷ L) lies f h =
    let rest = range_fits kept marked types cells zero L lies.1 f.1 (and_true_second (may_hold (marked || l.marked) c) (are_allowed marked (map (λ leaf. (under false leaf).marked) L) cells) h) in
    let here : same_int l.ty t ≡ true = subst (λ u. same_int u t ≡ true) lies.0 (int_self t) in
    let held = stands kept (marked || l.marked) t c f.0 (and_true_first (may_hold (marked || l.marked) c) (are_allowed marked (map (λ leaf. (under false leaf).marked) L) cells) h) in (
      and_from (same_int l.ty t && may_stand (marked || l.marked) (packed_cell c)) (fits_range marked L (map packed_typed (zip types cells))) (and_from (same_int l.ty t) (may_stand (marked || l.marked) (packed_cell c)) here held) rest.0,
      let long = rest.1 in omega (arith, long),
    )
range_fits kept marked (t ∷ types) (c ∷ cells) (suc n) L lies f h = let rest = range_fits kept marked types cells n L lies f.1 h in (rest.0, let long = rest.1 in omega (arith, long))

-- ---- values

-- a handle that stands for a number of the type has such an entry
pub stored_kept : (t : IntType) (o : Option (IntType × ℤ)) → IsTrue (is_stored t o) → IsTrue (is_kept t o)
stored_kept t None h = h
stored_kept t (Some entry) h = h

pub has_entry : (store : Entries) (t : IntType) (h : ℕ) → IsTrue (by_store store t h) → h < length store
has_entry [] t h f = cc
has_entry (y ∷ store) t zero f = omega arith
has_entry (y ∷ store) t (suc h) f = let less : h < length store = has_entry store t h f in omega (arith, less)

blocks_hold : (store : Entries) (types : List IntType) (cells : List Cell) → IntegersFit (by_store store) types cells → list_all (holds store) (map packed_typed (zip types cells)) ≡ true
blocks_hold store [] [] f = refl
blocks_hold store [] (c ∷ cells) f = elim f [ ]
blocks_hold store (t ∷ types) [] f = elim f [ ]
blocks_hold store (t ∷ types) (c ∷ cells) f = and_from (holds store (packed_typed (t, c))) (list_all (holds store) (map packed_typed (zip types cells))) (one t c f.0) (blocks_hold store types cells f.1)
  where
    one : (t : IntType) (c : Cell) → IntegerFits (by_store store) t c → holds store (packed_typed (t, c)) ≡ true
    one t (cell.Int v) f = f
    one t (cell.Ptr p) f = elim f [ ]
    one t (cell.Sealed h) f = stored_kept t (slice_get store h) f

at_most : (a b : ℕ) → a ≤ b → nat_le a b ≡ true
at_most a b h = grind (arith, nat_tests, h)

block_fits : (kept : Kept) (structs : List StructInfo) (x : Blocks) (marked : Bool) (elem : Elem) (block : BlockName) (base count : ℕ) →
    LieAt (x block).types base (repeated count (typed.leaves_of structs (type_of_elem elem))) → IntegersFit kept (x block).types (x block).cells →
    are_allowed marked (map (λ leaf. (under false leaf).marked) (range_leaves structs elem count)) (drop base (x block).cells) ≡ true →
    fits_block marked (leaves.leaves_of structs elem) base count (packed_block (x block)) ≡ true
block_fits kept structs x marked elem block base count lies ints allowed =
    let all = range_fits kept marked (x block).types (x block).cells base (repeated count (leaves.leaves_of structs elem))
    (subst (λ ts. LieAt (x block).types base ts) (sym (map_repeated (λ leaf. (under false leaf).ty) count (leaves.leaves_of structs elem) ∙ ap (repeated count) (leaf_types structs elem))) lies) ints allowed in
    and_from (nat_le (base + count * length (leaves.leaves_of structs elem)) (length (packed_block (x block)))) (fits_range marked (repeated count (leaves.leaves_of structs elem)) (drop base (packed_block (x block))))
    (ap (λ n. nat_le (base + n) (length (packed_block (x block)))) (sym (repeated_size count (leaves.leaves_of structs elem))) ∙ at_most (base + length (repeated count (leaves.leaves_of structs elem))) (length (packed_block (x block))) all.1)
    all.0

one_sent : (store : Entries) (structs : List StructInfo) (x : Blocks) (depth : ℕ) (marked : Bool) (of : ParamKind) (c : Cell) → IsTrue (structs_sound structs 0 structs) → IsTrue (is_variable_type (length structs) (param_type of)) →
    ((name : BlockName) → 1 ≤ length (x name).types → IntegersFit (by_store store) (x name).types (x name).cells) → ValueFits (by_store store) structs x depth (param_type of) c → StandsFor structs x marked of c →
    sends_kind store structs x marked of c ≡ true
one_sent store structs x depth marked (kind.Int t) (cell.Int v) sound ok ints f h = f
one_sent store structs x depth marked (kind.Int t) (cell.Ptr p) sound ok ints f h = elim f [ ]
one_sent store structs x depth marked (kind.Int t) (cell.Sealed s) sound ok ints f h = and_from marked (is_kept t (slice_get store s)) h (stored_kept t (slice_get store s) f)
one_sent store structs x depth marked (kind.Ptr elem fixed) (cell.Int v) sound ok ints f h = elim f [ ]
one_sent store structs x depth marked (kind.Ptr elem fixed) (cell.Sealed s) sound ok ints f h = elim f [ ]
one_sent store structs x depth marked (kind.Ptr elem fixed) (cell.Ptr Null) sound ok ints f h = refl
one_sent store structs x depth marked (kind.Ptr elem fixed) (cell.Ptr (At block base count index)) sound ok ints f h =
    let target : IsTarget x depth block = target_of (by_store store) structs x depth block (kind.Ptr elem fixed) (cell.Ptr (At block base count index)) sound ok f (is_same_name-self block) in
    and_from (nat_le 1 count && nat_le index count) (fits_block marked (leaves.leaves_of structs elem) base count (packed_block (x block)))
    (and_from (nat_le 1 count) (nat_le index count) (at_most 1 count f.some) (at_most index count f.within))
    (block_fits (by_store store) structs x marked elem block base count f.types (ints block target.some) h)

all_sent : (store : Entries) (structs : List StructInfo) (x : Blocks) (depth : ℕ) (params : List Param) (args : List Cell) → IsTrue (structs_sound structs 0 structs) → AreParameters structs params →
    ((name : BlockName) → 1 ≤ length (x name).types → IntegersFit (by_store store) (x name).types (x name).cells) → ArgumentsFit (by_store store) structs x depth params args → HandlesStand structs x params args →
    sends_all store structs x params args ≡ true
all_sent store structs x depth [] [] sound ok ints f h = refl
all_sent store structs x depth [] (c ∷ args) sound ok ints f h = elim f [ ]
all_sent store structs x depth (p ∷ params) [] sound ok ints f h = elim f [ ]
all_sent store structs x depth (p ∷ params) (c ∷ args) sound ok ints f h =
    and_from (sends_kind store structs x p.marked p.kind c) (sends_all store structs x params args)
    (one_sent store structs x depth p.marked p.kind c sound (both_hold_first (is_variable_type (length structs) (param_type p.kind)) (list_all (λ (q : Param). is_variable_type (length structs) (param_type q.kind)) params) ok) ints f.0 h.0)
    (all_sent store structs x depth params args sound (both_hold_second (is_variable_type (length structs) (param_type p.kind)) (list_all (λ (q : Param). is_variable_type (length structs) (param_type q.kind)) params) ok) ints f.1 h.1)

pub sendable_by_fits : SendableByFits
sendable_by_fits slave store params x a rest args sound ok mem given stand =
    and_from (sends_all store slave.structs x params args) (list_all (λ name. list_all (holds store) (packed_block (x name))) (names_of args))
    (all_sent store slave.structs x a.depth params args sound ok integers given stand)
    (each_name (λ name. list_all (holds store) (packed_block (x name))) (names_of args) (λ name among.
    blocks_hold store (x name).types (x name).cells (integers name (targets (by_store store) slave.structs x a.depth name params args sound ok given (from_new [] args name among)).some)))
  where
    integers : (name : BlockName) → 1 ≤ length (x name).types → IntegersFit (by_store store) (x name).types (x name).cells
    integers = block_integers (by_store store) slave (a ∷ rest) x mem

-- ---- handles of the store

integers_known : (store : Entries) (types : List IntType) (cells : List Cell) → IntegersFit (by_store store) types cells → list_all (is_known store) cells ≡ true
integers_known store [] [] f = refl
integers_known store [] (c ∷ cells) f = elim f [ ]
integers_known store (t ∷ types) [] f = elim f [ ]
integers_known store (t ∷ types) (c ∷ cells) f = and_from (is_known store c) (list_all (is_known store) cells) (one t c f.0) (integers_known store types cells f.1)
  where
    one : (t : IntType) (c : Cell) → IntegerFits (by_store store) t c → is_known store c ≡ true
    one t (cell.Int v) f = refl
    one t (cell.Ptr p) f = elim f [ ]
    one t (cell.Sealed h) f = lt-ltb h (length store) (has_entry store t h f)

-- a local's block has integers, or is a pointer's
local_known : (store : Entries) (structs : List StructInfo) (x : Blocks) (depth : ℕ) (o : Option VarTy) (b : Block) → LocalFits (by_store store) structs x depth o b → list_all (is_known store) b.cells ≡ true
local_known store structs x depth None b f = ap (λ (d : Block). list_all (is_known store) d.cells) f
local_known store structs x depth (Some (Int t)) b f = integers_known store b.types b.cells f.cells
local_known store structs x depth (Some (Struct n)) b f = integers_known store b.types b.cells f.cells
local_known store structs x depth (Some (Array elem count)) b f = integers_known store b.types b.cells f.cells
local_known store structs x depth (Some (Pointer elem fixed)) b f = ap (λ (cs : List Cell). list_all (is_known store) cs) f.cells ∙ held f.held f.fits
  where
    held : (c : Cell) → PointerFits structs x depth elem c → list_all (is_known store) (c ∷ []) ≡ true
    held (cell.Int v) p = elim p [ ]
    held (cell.Ptr q) p = refl
    held (cell.Sealed h) p = elim p [ ]

pub known_by_fits : KnownByFits
known_by_fits slave store active x mem (Local d v) = local_known store slave.structs x d (slice_get (variables_at slave active d) v) (x (Local d v)) (mem.locals d v)
known_by_fits slave store active x mem (Global g) = integers_known store (x (Global g)).types (x (Global g)).cells (mem.global_cells g)
known_by_fits slave store active x mem (Received n) = integers_known store (x (Received n)).types (x (Received n)).cells (mem.received_cells n)
