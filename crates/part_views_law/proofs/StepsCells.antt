-- What is seen of cells, of what they point to, and of results.
use Rattle.std.proofs.Common.{◌≡◌, ◌∙◌, ℕ, zero, suc, pos, List, [], ◌∷◌, map, get_or, refl, sym, ap, subst, arith, Bool, true, false, nat_eq, nat_lt, ◌&&◌, if◌then◌else◌, Option, Some, None, Result, Ok, Err, IfOk}
use Rattle.std.specs.Prelude.{ℤ, ◌-ℤ◌, IsTrue, int_le, int_lt, is_some, not}
use Rattle.std.proofs.lemmas.Bool.{or_parts}
use Rattle.pt_base.specs.declared.int_type.IntType.{IntType}
use Rattle.pt_base.specs.declared.span.Span.{Span}
use Rattle.pt_base.specs.declared.trap.Trap.{Trap}
use Rattle.pt_base.specs.declared.trap.Trap.TheVariants as trap
use Rattle.pt_base.specs.IntTypes.{InRange}
use Rattle.pt_base.proofs.Booleans.{false_not_true}
use Rattle.pt_int.specs.declared.operator.BinOp.{BinOp}
use Rattle.pt_int.specs.declared.operator.BinOp.TheVariants.{Mul, Div, Rem, Add, Sub, Shl, Shr, Lt, Gt, Le, Ge, Eq, Ne, And, Xor, Or}
use Rattle.pt_int.specs.declared.operator.UnOp.{UnOp}
use Rattle.pt_int.specs.declared.operator.UnOp.TheVariants.{Minus, Plus, Flip, Not}
use Rattle.pt_int.specs.Conversion.{conv}
use Rattle.pt_int.specs.Operator.{is_shift}
use Rattle.pt_int.proofs.Conversions.{conv-same}
use Rattle.typed_tree.specs.declared.types.StructInfo.{StructInfo}
use Rattle.typed_tree.specs.declared.types.VarTy.{VarTy}
use Rattle.typed_tree.specs.declared.types.VarTy.TheVariants as ty
use Rattle.typed_tree.specs.Sizes.{sizes_of, elem_cells}
use Rattle.typed_tree.specs.TypeTests.{pointee_of, same_int, type_of_elem}
use Rattle.typed_tree.proofs.SameTypes.{equal_ints}
use Rattle.runs.specs.Pointers.{Target, are_equal, at_index, both_indices, cell_at, compared, difference, if_ok, indices_of, moved, moved_index}
use Rattle.handle_store.specs.Stored.{AreInRange}
use Rattle.block_memory.specs.declared.cell.Cell.{Cell}
use Rattle.block_memory.specs.declared.cell.Cell.TheVariants as cell
use Rattle.block_memory.specs.declared.cell.Pointer.TheVariants.{Null, At}
use Rattle.block_memory.specs.declared.cell.BlockName.{BlockName}
use Rattle.block_memory.specs.Blocks.{Blocks, is_same_name}
use Rattle.pt_core.specs.Types.{Context}
use Rattle.pt_core.specs.Values.{Location, Stop, ◌>>?◌, at_span, converted, decayed, holds_in, is_type, number_in, numbered, pointed, pointee, right_operand, target_of, told, unary_operand}
use Rattle.core_soundness_law.specs.Fits.{ValueFits}
use Rattle.core_soundness_law.specs.Kept.{by_store}
use Rattle.handle_classes.specs.Computes.{has_handle, is_handle, is_sealed}
use Rattle.marshalling.specs.Handles.{Entries, stored}
use Rattle.part_views_law.specs.Views.{Lies, View, seen_cell}
use Rattle.part_views_law.proofs.Memories.{same_at}

-- a pointer's block lies somewhere
abbrev pub OwnCell : View → Cell → Type 0
OwnCell v (cell.Int n) = Unit {0}
OwnCell v (cell.Ptr Null) = Unit {0}
OwnCell v (cell.Ptr (At block base count index)) = Lies v block
OwnCell v (cell.Sealed h) = Unit {0}

-- of each cell of a memory
abbrev pub MemoryOwn : View → Blocks → Type 0
MemoryOwn v blocks = (b : BlockName) (i : ℕ) → OwnCell v (get_or (blocks b).cells i (cell.Int (pos 0)))

abbrev pub OwnPlace : View → Location → Type 0
OwnPlace v at = Lies v at.block

abbrev pub seen_place : View → Location → Location
seen_place v at = record { block = v.at at.block; cell = at.cell; ty = at.ty }

-- ---- results

abbrev pub with_ok : {A : Type 0} → (A → A) → Result A Stop → Result A Stop
with_ok f (Ok a) = Ok (f a)
with_ok f (Err stop) = Err stop

-- the one result is what is seen of the other, of whose value this holds
pub record Known {A : Type 0} (f : A → A) (P : A → Type 0) (big small : Result A Stop) : Type 0 where
  pub sight : big ≡ with_ok f small
  pub own : IfOk small P

pub then_known : {A B : Type 0} (f : A → A) (g : B → B) (P : A → Type 0) (Q : B → Type 0) (big small : Result A Stop) (next' next : A → Result B Stop) → Known f P big small → ((a : A) → P a → Known g Q (next' (f a)) (next a)) → Known g Q (big >>? next') (small >>? next)
then_known {A} {B} f g P Q big small next' next k h = subst (λ r. Known g Q (r >>? next') (small >>? next)) (sym k.sight) (go small k.own)
  where
    go : (r : Result A Stop) → IfOk r P → Known g Q (with_ok f r >>? next') (r >>? next)
    go (Ok a) own = h a own
    go (Err stop) own = record { sight = refl; own = tt {0} }

-- with one more fact of the value
pub also_known : {A : Type 0} (f : A → A) (P Q : A → Type 0) (big small : Result A Stop) → Known f P big small → IfOk small Q → Known f (λ a. P a × Q a) big small
also_known {A} f P Q big small k more = record { sight = k.sight; own = go small k.own more }
  where
    go : (r : Result A Stop) → IfOk r P → IfOk r Q → IfOk r (λ a. P a × Q a)
    go (Ok a) p q = (p, q)
    go (Err stop) p q = tt {0}

abbrev pub IsPlain : Cell → Type 0
IsPlain c = is_sealed c ≡ false

pub plain_known : (v : View) (big small : Result Cell Stop) → Known (seen_cell v) (OwnCell v) big small → is_handle small ≡ false → Known (seen_cell v) (λ c. OwnCell v c × IsPlain c) big small
plain_known v big small k h = also_known (seen_cell v) (OwnCell v) IsPlain big small k (go small h)
  where
    go : (r : Result Cell Stop) → is_handle r ≡ false → IfOk r IsPlain
    go (Ok c) e = e
    go (Err stop) e = tt {0}

-- ---- numbers

pub number_seen : (v : View) (c : Cell) → IsPlain c → number_in (seen_cell v c) ≡ number_in c
number_seen v (cell.Int n) h = refl
number_seen v (cell.Ptr Null) h = refl
number_seen v (cell.Ptr (At block base count index)) h = refl
number_seen v (cell.Sealed s) h = cc

pub numbers_seen : (v : View) (cs : List Cell) → has_handle cs ≡ false → map number_in (map (seen_cell v) cs) ≡ map number_in cs
numbers_seen v [] h = refl
numbers_seen v (c ∷ cs) h =
    let parts = or_parts (is_sealed c) (has_handle cs) h in
    ap (λ (k : ℤ). k ∷ map number_in (map (seen_cell v) cs)) (number_seen v c parts.0) ∙ ap (λ ks. number_in c ∷ ks) (numbers_seen v cs parts.1)

pub holds_seen : (v : View) (c : Cell) → IsPlain c → holds_in (seen_cell v c) ≡ holds_in c
holds_seen v (cell.Int n) h = refl
holds_seen v (cell.Ptr Null) h = refl
holds_seen v (cell.Ptr (At block base count index)) h = refl
holds_seen v (cell.Sealed s) h = cc

pub operand_seen : (op : UnOp) (t : IntType) (c d : Cell) → number_in c ≡ number_in d → unary_operand op t c ≡ unary_operand op t d
operand_seen Minus t c d h = ap (conv t) h
operand_seen Plus t c d h = ap (conv t) h
operand_seen Flip t c d h = ap (conv t) h
operand_seen Not t c d h = h

pub right_seen : (op : BinOp) (t : IntType) (c d : Cell) → number_in c ≡ number_in d → right_operand op t c ≡ right_operand op t d
right_seen op t c d h = ap (λ (n : ℤ). if is_shift op then n else conv t n) h

number_known : (v : View) (r : Result ℤ Stop) → Known (seen_cell v) (OwnCell v) (numbered r) (numbered r)
number_known v (Ok n) = record { sight = refl; own = tt {0} }
number_known v (Err stop) = record { sight = refl; own = tt {0} }

-- equal numbers are seen as they are
pub numbers_known : (v : View) (r r' : Result ℤ Stop) → r' ≡ r → Known (seen_cell v) (OwnCell v) (numbered r') (numbered r)
numbers_known v r r' same = subst (λ s. Known (seen_cell v) (OwnCell v) (numbered s) (numbered r)) (sym same) (number_known v r)

told_known : (v : View) (r : Result Bool Stop) → Known (seen_cell v) (OwnCell v) (told r) (told r)
told_known v (Ok b) = record { sight = refl; own = tt {0} }
told_known v (Err stop) = record { sight = refl; own = tt {0} }

pub tests_known : (v : View) (r r' : Result Bool Stop) → r' ≡ r → Known (seen_cell v) (OwnCell v) (told r') (told r)
tests_known v r r' same = subst (λ s. Known (seen_cell v) (OwnCell v) (told s) (told r)) (sym same) (told_known v r)

-- ---- conversions

-- a handle of this type stands for a number of it
pub stored_range : (store : Entries) (t : IntType) (h : ℕ) → AreInRange store → IsTrue (by_store store t h) → InRange t (stored store h)
stored_range [] t h ranged k = absurd cc
stored_range (entry ∷ store) t zero ranged k = subst (λ u. InRange u entry.1) (sym (equal_ints t entry.0 k)) (ranged 0 entry (omega arith))
stored_range (entry ∷ store) t (suc h) ranged k = stored_range store t h (λ j d lt. ranged (suc j) d (omega (arith, lt))) k

pub converted_known : (v : View) (structs : List StructInfo) (blocks : Blocks) (depth : ℕ) (ty : VarTy) (to : IntType) (c : Cell) → AreInRange v.store → ValueFits (by_store v.store) structs blocks depth ty c → (not (is_type ty to) && is_sealed c) ≡ false →
    Known (seen_cell v) (OwnCell v) (Ok (converted (is_type ty to) to (seen_cell v c))) (Ok (converted (is_type ty to) to c))
converted_known v structs blocks depth ty to (cell.Int n) ranged f h = record { sight = refl; own = tt {0} }
converted_known v structs blocks depth ty to (cell.Ptr Null) ranged f h = record { sight = refl; own = tt {0} }
converted_known v structs blocks depth ty to (cell.Ptr (At block base count index)) ranged f h = record { sight = refl; own = tt {0} }
converted_known v structs blocks depth (ty.Int t) to (cell.Sealed s) ranged f h = go (same_int t to) refl h
  where
    go : (same : Bool) → same_int t to ≡ same → (not same && true) ≡ false → Known (seen_cell v) (OwnCell v) (Ok (cell.Int (conv to (stored v.store s)))) (Ok (if same then cell.Sealed s else cell.Int (pos 0)))
    go true e k = record { sight = ap (λ n. Ok (cell.Int n)) (conv-same to (stored v.store s) (subst (λ u. InRange u (stored v.store s)) (equal_ints t to e) (stored_range v.store t s ranged f))); own = tt {0} }
    go false e k = cc
converted_known v structs blocks depth (ty.Struct n) to (cell.Sealed s) ranged f h = elim f [ ]
converted_known v structs blocks depth (ty.Array elem count) to (cell.Sealed s) ranged f h = elim f [ ]
converted_known v structs blocks depth (ty.Pointer elem fixed) to (cell.Sealed s) ranged f h = elim f [ ]

-- ---- what is pointed to

abbrev seen_target : View → Option (Target BlockName) → Option (Target BlockName)
seen_target v None = None
seen_target v (Some p) = Some (record { block = v.at p.block; base = p.base; count = p.count; index = p.index })

abbrev OwnTarget : View → Option (Target BlockName) → Type 0
OwnTarget v None = Unit {0}
OwnTarget v (Some p) = Lies v p.block

target_seen : (v : View) (c : Cell) → target_of (seen_cell v c) ≡ seen_target v (target_of c)
target_seen v (cell.Int n) = refl
target_seen v (cell.Ptr Null) = refl
target_seen v (cell.Ptr (At block base count index)) = refl
target_seen v (cell.Sealed h) = refl

target_own : (v : View) (c : Cell) → OwnCell v c → OwnTarget v (target_of c)
target_own v (cell.Int n) own = tt {0}
target_own v (cell.Ptr Null) own = tt {0}
target_own v (cell.Ptr (At block base count index)) own = own
target_own v (cell.Sealed h) own = tt {0}

equal_seen : (v : View) (size : ℕ) (p q : Option (Target BlockName)) → OwnTarget v p → OwnTarget v q → are_equal is_same_name size (seen_target v p) (seen_target v q) ≡ are_equal is_same_name size p q
equal_seen v size None None own own' = refl
equal_seen v size None (Some q) own own' = refl
equal_seen v size (Some p) None own own' = refl
equal_seen v size (Some p) (Some q) own own' = ap (λ b. b && nat_eq (cell_at size p.base p.index) (cell_at size q.base q.index)) (same_at v p.block q.block own own')

indices_seen : (v : View) (p q : Option (Target BlockName)) → OwnTarget v p → OwnTarget v q → indices_of is_same_name (seen_target v p) (seen_target v q) ≡ indices_of is_same_name p q
indices_seen v None None own own' = refl
indices_seen v None (Some q) own own' = refl
indices_seen v (Some p) None own own' = refl
indices_seen v (Some p) (Some q) own own' = ap (λ (b : Bool). both_indices (b && (nat_eq p.base q.base && nat_eq p.count q.count)) p.index q.index) (same_at v p.block q.block own own')

compared_by : (op : BinOp) (size : ℕ) (p q p' q' : Option (Target BlockName)) → are_equal is_same_name size p' q' ≡ are_equal is_same_name size p q → indices_of is_same_name p' q' ≡ indices_of is_same_name p q →
    compared is_same_name op size p' q' ≡ compared is_same_name op size p q
compared_by Eq size p q p' q' e i = ap Ok e
compared_by Ne size p q p' q' e i = ap (λ b. Ok (not b)) e
compared_by Lt size p q p' q' e i = ap (λ r. if_ok r (λ ij. int_lt ij.0 ij.1)) i
compared_by Gt size p q p' q' e i = ap (λ r. if_ok r (λ ij. int_lt ij.1 ij.0)) i
compared_by Le size p q p' q' e i = ap (λ r. if_ok r (λ ij. int_le ij.0 ij.1)) i
compared_by Ge size p q p' q' e i = ap (λ r. if_ok r (λ ij. int_le ij.1 ij.0)) i
compared_by Mul size p q p' q' e i = refl
compared_by Div size p q p' q' e i = refl
compared_by Rem size p q p' q' e i = refl
compared_by Add size p q p' q' e i = refl
compared_by Sub size p q p' q' e i = refl
compared_by Shl size p q p' q' e i = refl
compared_by Shr size p q p' q' e i = refl
compared_by And size p q p' q' e i = refl
compared_by Xor size p q p' q' e i = refl
compared_by Or size p q p' q' e i = refl

pub compared_seen : (v : View) (op : BinOp) (size : ℕ) (c d : Cell) → OwnCell v c → OwnCell v d →
    compared is_same_name op size (target_of (seen_cell v c)) (target_of (seen_cell v d)) ≡ compared is_same_name op size (target_of c) (target_of d)
compared_seen v op size c d own own' =
    (λ i. compared is_same_name op size (target_seen v c i) (target_seen v d i))
    ∙ compared_by op size (target_of c) (target_of d) (seen_target v (target_of c)) (seen_target v (target_of d))
    (equal_seen v size (target_of c) (target_of d) (target_own v c own) (target_own v d own'))
    (indices_seen v (target_of c) (target_of d) (target_own v c own) (target_own v d own'))

pub difference_seen : (v : View) (c d : Cell) → OwnCell v c → OwnCell v d →
    difference is_same_name (target_of (seen_cell v c)) (target_of (seen_cell v d)) ≡ difference is_same_name (target_of c) (target_of d)
difference_seen v c d own own' =
    (λ i. difference is_same_name (target_seen v c i) (target_seen v d i))
    ∙ ap (λ r. if_ok r (λ ij. ij.0 -ℤ ij.1)) (indices_seen v (target_of c) (target_of d) (target_own v c own) (target_own v d own'))

-- ---- pointers

pub moved_known : (v : View) (s : Span) (amount : ℤ) (c : Cell) → OwnCell v c → Known (seen_cell v) (OwnCell v) (pointed (at_span s (moved amount (target_of (seen_cell v c))))) (pointed (at_span s (moved amount (target_of c))))
moved_known v s amount (cell.Int n) own = record { sight = refl; own = tt {0} }
moved_known v s amount (cell.Ptr Null) own = record { sight = refl; own = tt {0} }
moved_known v s amount (cell.Sealed h) own = record { sight = refl; own = tt {0} }
moved_known v s amount (cell.Ptr (At block base count index)) own = go (moved_index count index amount)
  where
    p : Target BlockName
    p = record { block = block; base = base; count = count; index = index }

    p' : Target BlockName
    p' = record { block = v.at block; base = base; count = count; index = index }

    go : (o : Option ℕ) → Known (seen_cell v) (OwnCell v) (pointed (at_span s (at_index p' o))) (pointed (at_span s (at_index p o)))
    go None = record { sight = refl; own = tt {0} }
    go (Some i) = record { sight = refl; own = own }

pub decayed_known : (v : View) (at : Location) (ty : VarTy) → OwnPlace v at → Known (seen_cell v) (OwnCell v) (Ok (decayed (seen_place v at) ty)) (Ok (decayed at ty))
decayed_known v at (ty.Int t) own = record { sight = refl; own = tt {0} }
decayed_known v at (ty.Struct n) own = record { sight = refl; own = tt {0} }
decayed_known v at (ty.Pointer elem fixed) own = record { sight = refl; own = tt {0} }
decayed_known v at (ty.Array elem count) own = record { sight = refl; own = own }

-- a cell of a block, where the index is within the count
abbrev if_within : Bool → BlockName → ℕ → Result (BlockName × ℕ) Trap
if_within b block n = if b then Ok (block, n) else Err trap.Bounds

pub pointee_known : (v : View) (c : Context) (s : Span) (ty : VarTy) (d : Cell) → IsTrue (is_some (pointee_of (Some ty))) → OwnCell v d → Known (seen_place v) (OwnPlace v) (pointee c s ty (seen_cell v d)) (pointee c s ty d)
pointee_known v c s (ty.Int t) d h own = false_not_true h
pointee_known v c s (ty.Struct n) d h own = false_not_true h
pointee_known v c s (ty.Array elem count) d h own = false_not_true h
pointee_known v c s (ty.Pointer elem fixed) (cell.Int n) h own = record { sight = refl; own = tt {0} }
pointee_known v c s (ty.Pointer elem fixed) (cell.Ptr Null) h own = record { sight = refl; own = tt {0} }
pointee_known v c s (ty.Pointer elem fixed) (cell.Sealed n) h own = record { sight = refl; own = tt {0} }
pointee_known v c s (ty.Pointer elem fixed) (cell.Ptr (At block base count index)) h own = go (nat_lt index count)
  where
    go : (t : Bool) → Known (seen_place v) (OwnPlace v)
        (at_span s (if_within t (v.at block) (cell_at (elem_cells (sizes_of c.structs) elem) base index)) >>? λ at. Ok (record { block = at.0; cell = at.1; ty = type_of_elem elem }))
        (at_span s (if_within t block (cell_at (elem_cells (sizes_of c.structs) elem) base index)) >>? λ at. Ok (record { block = at.0; cell = at.1; ty = type_of_elem elem }))
    go true = record { sight = refl; own = own }
    go false = record { sight = refl; own = tt {0} }
