-- The integers of an object lie one after the other, and each leaf of its type leads to one of them.
use Rattle.std.proofs.Common.{◌≡◌, ◌∙◌, ◌≤◌, ◌<◌, ℕ, zero, suc, ◌+◌, ◌*◌, pos, refl, ap, sym, subst, arith, Bool, true, false, Option, Some, None, List, [], ◌∷◌, ◌++◌, length, length-append, append_assoc, get_or, Ok, Err, if◌then◌else◌}
use Rattle.std.specs.Prelude.{◌||◌, nat_le, nat_lt, slice_get, take, unwrap_or}
use Rattle.std.specs.List.{list_all, flat_map, range_with_len}
use Rattle.std.proofs.Math.Nat.{suc-mul, zero-mul}
use Rattle.std.proofs.Math.Seq.{get_or-append_seam}
use Rattle.std.proofs.lemmas.Bool.Decides.{nat_tests}
use Rattle.std.proofs.lemmas.Option.{get_or_from_slice_get, slice_get_past}
use Rattle.pt_base.specs.declared.ids.FnId.{FnId}
use Rattle.pt_base.specs.declared.int_type.IntType.{IntType}
use Rattle.pt_base.specs.declared.int_type.IntType.TheVariants as i
use Rattle.pt_base.specs.declared.span.Span.{Span}
use Rattle.pt_base.specs.declared.trap.Trap.TheVariants.{Bounds}
use Rattle.pt_base.proofs.Booleans.{both_hold_first, both_hold_second, true_not_false}
use Rattle.pt_base.proofs.Numbers.{nat_lt_below, plus_zero_times, positive_from_zero}
use Rattle.pt_base.proofs.Places.{get_before, get_or_past, get_seam}
use Rattle.runs.specs.State.{gives, ◌>>=◌}
use Rattle.runs.specs.Pointers.{Target, moved, up_to, at_index, reached, if_ok}
use Rattle.pt_tree.specs.declared.signature.Elem.{Elem}
use Rattle.pt_tree.specs.declared.signature.Elem.TheVariants as el
use Rattle.pt_tree.specs.ExpressionTree as p
use Rattle.type_rules.specs.declared.types.Type.TheVariants as ty
use Rattle.type_rules.specs.Types.{value_type, elem_type}
use Rattle.type_rules.specs.Operators.{index_rule}
use Rattle.typed_tree.specs.declared.types.VarTy.{VarTy}
use Rattle.typed_tree.specs.declared.types.VarTy.TheVariants as v
use Rattle.typed_tree.specs.declared.types.Field.{Field}
use Rattle.typed_tree.specs.declared.types.StructInfo.{StructInfo}
use Rattle.typed_tree.specs.ExpressionTree as t
use Rattle.typed_tree.specs.Cells as cells
use Rattle.typed_tree.specs.Sizes.{elem_cells, cells_by, fields_cells, sizes_after, sizes_of, fields_of, offset_of}
use Rattle.typed_tree.specs.TypeTests.{type_of_elem}
use Rattle.typed_tree.specs.WellFormed.{is_plain_type, is_small, field_sound, struct_sound, structs_sound}
use Rattle.typed_tree.specs.WellFormedExpression.{is_elem}
use Rattle.typed_tree.proofs.LeavesLemmas.{leaves_of_struct}
use Rattle.check_declarations.specs.Structs.{Structs}
use Rattle.check_expressions.specs.Environment.{Env}
use Rattle.check_expressions.specs.Expressions.{Judged, judge, judge_postfix, judge_postfixes, postfix_span, literal}
use Rattle.check_expressions.specs.Operands.{Known, Made, element, designated, root_of, steps_of, place_of, value_of, value_tree, read_tree, joined, span_of}
use Rattle.check_expressions.specs.Prefixes.{points_to_const}
use Rattle.check_expressions.specs.Postfixes.{is_called, is_call, indexed, indexed_by, element_tree, pointee, pointee_known}
use Rattle.source_meaning.proofs.SizeLemmas as lemmas
use Rattle.source_meaning.specs.Memory.{Block}
use Rattle.source_meaning.specs.State.{State}
use Rattle.source_meaning.specs.Values as mv
use Rattle.source_meaning.specs.Expressions as x
use Rattle.half_trees.specs.Names.{nowhere, word, field_by}
use Rattle.half_trees.specs.Leaves as leaves
use Rattle.half_trees.specs.Leaves.{Leaf, behind, element_leaves, object_leaves, field_leaves, struct_leaves, leaves_from}
use Rattle.pt_core.specs.Types.{field_type}
use Rattle.half_meaning_law.specs.Relations.{Scene, context_of}
use Rattle.half_meaning_law.specs.Known.{type_as, FieldKnown}
use Rattle.half_meaning_law.specs.Expressions.{IsFine}
use Rattle.half_meaning_law.proofs.Places.{with_field, dot_is, location_more}
use Rattle.half_meaning_law.proofs.PlaceLaw.{elem_type_as}
use Rattle.half_meaning_law.proofs.Paths.{Fields}

-- ---- objects at a cell

-- an operand is judged to be an object of this type, which may be written, at this cell whatever memory holds
pub record At (s : Scene) (b : Block) (n : ℕ) (u : VarTy) (k : Known) : Type 0 where
  pub typed : k.ty ≡ type_as u
  pub designates : k.designates ≡ true
  pub changes : k.fixed ≡ false
  pub is : (st : State) → x.location_of (place_of k.tree) (context_of s) st ≡ gives (record { block = b; cell = n; ty = u }) st

-- an integer there
pub record IntegerAt (s : Scene) (structs : Structs) (b : Block) (n : ℕ) (j : Judged) : Type 0 where
  pub fine : IsFine structs j
  pub to : IntType
  pub at : At s b n (v.Int to) j.operand

-- the leaf is no call, and leads from the operand to the integer at this cell
abbrev pub LeafAt : Scene → Env → Structs → Block → ℕ → Known → Leaf → Type 0
LeafAt s env structs b n k leaf = (is_called (p.postfix_trees leaf) ≡ false) × ((callee : Option FnId) (at : Span) → IntegerAt s structs b n (judge_postfixes env structs nowhere callee at k (p.postfix_trees leaf)))

-- leaves lead to the cells from this one on
abbrev pub AllAt : Scene → Env → Structs → Block → ℕ → Known → List Leaf → Type 0
AllAt s env structs b n k [] = Unit {0}
AllAt s env structs b n k (l ∷ ls) = LeafAt s env structs b n k l × AllAt s env structs b (n + 1) k ls

-- ---- a step before leaves

abbrev one : Structs → Known → Judged
one structs k = record { operand = k; structs = structs; faults = [] }

all_behind : (ls : List Leaf) (s : Scene) (env : Env) (structs : Structs) (b : Block) (n : ℕ) (k : Known) (q : p.PostfixTree) → is_call q ≡ false →
    ((callee : Option FnId) (at : Span) → (k' : Known) × (judge_postfix env structs nowhere callee at k q ≡ one structs k') × AllAt s env structs b n k' ls) → AllAt s env structs b n k (behind q ls)
unfolding judge_postfixes is_called
all_behind [] s env structs b n k q plain h = tt
all_behind (l ∷ ls) s env structs b n k q plain h = (
  (plain, λ callee at. subst (λ (z : Judged). IntegerAt s structs b n (after z)) (sym (h callee at).1) ((h callee at).2.0.1 None (joined nowhere (postfix_span q)))),
  all_behind ls s env structs b (n + 1) k q plain (λ callee at. ((h callee at).0, (h callee at).1, (h callee at).2.1)),
)
  where
    after : Judged → Judged
    after z =
        let r = judge_postfixes env z.structs nowhere None (joined nowhere (postfix_span q)) z.operand (p.postfix_trees l) in
        record { operand = r.operand; structs = r.structs; faults = z.faults ++ r.faults }

all_append : (ls us : List Leaf) (s : Scene) (env : Env) (structs : Structs) (b : Block) (n : ℕ) (k : Known) → AllAt s env structs b n k ls → AllAt s env structs b (n + length ls) k us → AllAt s env structs b n k (ls ++ us)
all_append [] us s env structs b n k h g = let none : n + 0 ≡ n = omega arith in subst (λ j. AllAt s env structs b j k us) none g
all_append (l ∷ ls) us s env structs b n k h g = let more : n + suc (length ls) ≡ n + 1 + length ls = omega arith in (h.0, all_append ls us s env structs b (n + 1) k h.1 (subst (λ j. AllAt s env structs b j k us) more g))

behind_length : (q : p.PostfixTree) (ls : List Leaf) → length (behind q ls) ≡ length ls
behind_length q [] = refl
behind_length q (l ∷ ls) = ap suc (behind_length q ls)

-- ---- fields

at_field : (s : Scene) (structs : Structs) (b : Block) (n m j : ℕ) (k : Known) (f : FieldKnown s structs m j) → At s b n (v.Struct m) k → At s b (n + offset_of s.context.structs m j) (field_type s.context.structs (v.Struct m) j) (with_field k (record { number = j; entry = f.entry }))
unfolding root_of steps_of
at_field s structs b n m j k f h = record {
  typed = f.typed;
  designates = h.designates;
  changes = ap (λ z. z || f.entry.fixed) h.changes ∙ f.changes;
  is = λ st. location_more (root_of k.tree) (steps_of k.tree) (t.field j) (context_of s) st ∙ ap (λ o. o >>= λ next. x.step_location (t.field j) next (context_of s)) (h.is st);
}

field_step : (s : Scene) (env : Env) (structs : Structs) (m j : ℕ) (k : Known) (f : FieldKnown s structs m j) (name : List ℕ) → name ≡ field_by (fields_of s.context.structs m) j → k.ty ≡ ty.Struct m → (callee : Option FnId) (at : Span) →
    judge_postfix env structs nowhere callee at k (p.dot nowhere (word name)) ≡ one structs (with_field k (record { number = j; entry = f.entry }))
unfolding judge_postfix
field_step s env structs m j k f name same is callee at =
    ap (λ z. judge_postfix env structs nowhere callee at k (p.dot nowhere (word z))) same
    ∙ ap (λ (z : Made). let y : Judged = record { operand = z.operand; structs = structs; faults = z.faults } in y) (dot_is s structs m j k at f is)

-- ---- elements

abbrev first_of : Block → ℕ → ℕ → ℕ → Target Block
first_of block k count index = record { block = block; base = k; count = count; index = index }

moved_to : (block : Block) (k count j : ℕ) → j < count → moved (pos j) (Some (first_of block k count 0)) ≡ Ok (first_of block k count j)
moved_to block k count j less = ap (λ z. at_index (first_of block k count 0) (up_to count z)) (positive_from_zero j) ∙ ap (λ (b : Bool). at_index (first_of block k count 0) (if b then Some j else None)) (within j count less)
  where
    within : (j count : ℕ) → j < count → nat_le j count ≡ true
    within j count h = grind (arith, nat_tests)

reached_there : (block : Block) (size k count j : ℕ) → j < count → reached size (Some (first_of block k count j)) ≡ Ok (block, k + j * size)
reached_there block size k count j less = ap (λ (b : Bool). if b then Ok (block, k + j * size) else Err Bounds) (within j count less)
  where
    within : (j count : ℕ) → j < count → nat_lt j count ≡ true
    within j count h = grind (arith, nat_tests)

-- the index
abbrev index_of : ℕ → t.ExprTree
index_of j = t.typed nowhere (Some (v.Int i.Int)) (t.constant (pos j))

abbrev with_element : Known → Elem → Span → ℕ → Known
with_element k elem at j = designated (elem_type elem) k.fixed (element (root_of k.tree) (steps_of k.tree) at (index_of j) nowhere)

element_found : (s : Scene) (b : Block) (n count j : ℕ) (elem : Elem) (st : State) → j < count →
    x.step_location (t.item (index_of j) nowhere) (record { block = b; cell = n; ty = v.Array elem count }) (context_of s) st ≡ gives (record { block = b; cell = n + j * elem_cells (sizes_of s.context.structs) elem; ty = type_of_elem elem }) st
element_found s b n count j elem st less =
    ap (λ r. x.or_trap nowhere (if_ok r mv.pointer_to) st >>= λ cell. x.or_trap nowhere (x.dereferenced (context_of s) (v.Pointer elem false) cell)) (moved_to b n count j less)
    ∙ ap (λ r. x.or_trap nowhere (if_ok r (x.object_at (type_of_elem elem))) st) (reached_there b (elem_cells (sizes_of s.context.structs) elem) n count j less)

at_element : (s : Scene) (b : Block) (n count j : ℕ) (elem : Elem) (k : Known) (at : Span) → j < count → At s b n (v.Array elem count) k → At s b (n + j * elem_cells (sizes_of s.context.structs) elem) (type_of_elem elem) (with_element k elem at j)
unfolding root_of steps_of
at_element s b n count j elem k at less h = record {
  typed = elem_type_as elem;
  designates = refl;
  changes = h.changes;
  is = λ st. location_more (root_of k.tree) (steps_of k.tree) (t.item (index_of j) nowhere) (context_of s) st ∙ ap (λ o. o >>= λ next. x.step_location (t.item (index_of j) nowhere) next (context_of s)) (h.is st) ∙ element_found s b n count j elem st less;
}

element_step : (env : Env) (structs : Structs) (elem : Elem) (count j : ℕ) (k : Known) → k.ty ≡ ty.Array elem count → (callee : Option FnId) (at : Span) → judge_postfix env structs nowhere callee at k (leaves.element j) ≡ one structs (with_element k elem at j)
unfolding judge_postfix judge indexed indexed_by index_rule element_tree pointee points_to_const literal value_of value_tree read_tree span_of
element_step env structs elem count j k is callee at =
    ap (λ z. let y : Made = indexed_by (index_rule (record { ty = value_type z k.fixed; null = k.null }) (record { ty = ty.Int i.Int; null = lit.null })) nowhere at k nowhere lit in let w : Judged = record { operand = y.operand; structs = structs; faults = y.faults } in w) is
    ∙ ap (λ z. let w : Judged = one structs (pointee_known (value_type z k.fixed) (element_tree z nowhere at k (index_of j))) in w) is
  where
    lit : Known
    lit = literal (record { span = nowhere; value = pos j; ty = i.Int })

-- ---- arrays

abbrev elements : ℕ → ℕ → List Leaf → List Leaf
elements more j ls = flat_map (λ n. behind (leaves.element n) ls) (range_with_len j more)

elements_length : (count j : ℕ) (ls : List Leaf) → length (elements count j ls) ≡ count * length ls
elements_length zero j ls = let e1 : 0 * length ls ≡ 0 = zero-mul (length ls) in sym e1
elements_length (suc count) j ls =
    let here = length-append (behind (leaves.element j) ls) (elements count (j + 1) ls) in
    let begun = behind_length (leaves.element j) ls in
    let rest = elements_length count (j + 1) ls in
    let product = suc-mul count (length ls) in
    omega (arith, here, begun, rest, product)

elements_at : (more j : ℕ) (s : Scene) (env : Env) (structs : Structs) (b : Block) (n count size : ℕ) (elem : Elem) (k : Known) (ls : List Leaf) → j + more ≤ count → length ls ≡ size → k.ty ≡ ty.Array elem count →
    ((m : ℕ) (at : Span) → m < count → AllAt s env structs b (n + m * size) (with_element k elem at m) ls) → AllAt s env structs b (n + j * size) k (elements more j ls)
unfolding is_call
elements_at zero j s env structs b n count size elem k ls le long is each = tt
elements_at (suc more) j s env structs b n count size elem k ls le long is each =
    all_append (behind (leaves.element j) ls) (elements more (j + 1) ls) s env structs b (n + j * size) k
    (all_behind ls s env structs b (n + j * size) k (leaves.element j) refl (λ callee at. (with_element k elem at j, element_step env structs elem count j k is callee at, each j at (omega (arith, le)))))
    (subst (λ z. AllAt s env structs b z k (elements more (j + 1) ls)) place_is (elements_at more (j + 1) s env structs b n count size elem k ls (omega (arith, le)) long is each))
  where
    place_is : n + (j + 1) * size ≡ n + j * size + length (behind (leaves.element j) ls)
    place_is =
        let begun = behind_length (leaves.element j) ls in
        let product = suc-mul j size in
        let same : (j + 1) * size ≡ suc j * size = ap (λ z. z * size) (next j) in
        omega (arith, begun, long, product, same)
      where
        next : (j : ℕ) → j + 1 ≡ suc j
        next j = omega arith

-- ---- objects, by what is known of structs

-- what is known of a struct; nothing leads into one that isn't there
abbrev leaves_in : List (List Leaf) → ℕ → List Leaf
leaves_in known n = unwrap_or (slice_get known n) []

record KnownAt (s : Scene) (env : Env) (structs : Structs) (known : List (List Leaf)) (m : ℕ) : Type 0 where
  long : length (leaves_in known m) ≡ cells_by (sizes_of s.context.structs) (v.Struct m)
  all : (b : Block) (n : ℕ) (k : Known) → At s b n (v.Struct m) k → AllAt s env structs b n k (leaves_in known m)

pub record ObjectAt (s : Scene) (env : Env) (structs : Structs) (known : List (List Leaf)) (u : VarTy) : Type 0 where
  pub long : length (object_leaves known u) ≡ cells_by (sizes_of s.context.structs) u
  pub all : (b : Block) (n : ℕ) (k : Known) → At s b n u k → AllAt s env structs b n k (object_leaves known u)

-- the structs that a type names are among so many
abbrev NamesBelow : ℕ → VarTy → Type 0
NamesBelow earlier (v.Int t1) = Unit {0}
NamesBelow earlier (v.Struct n) = n < earlier
NamesBelow earlier (v.Array (el.Int t1) count) = Unit {0}
NamesBelow earlier (v.Array (el.Struct n) count) = n < earlier
NamesBelow earlier (v.Pointer elem fixed) = ⊥

names_plain : (earlier : ℕ) (u : VarTy) → is_plain_type earlier u ≡ true → NamesBelow earlier u
names_plain earlier (v.Int t1) ok = tt
names_plain earlier (v.Struct n) ok = nat_lt_below n earlier ok
names_plain earlier (v.Array (el.Int t1) count) ok = tt
names_plain earlier (v.Array (el.Struct n) count) ok = nat_lt_below n earlier (both_hold_first (is_elem earlier (Some (el.Struct n))) (nat_le 1 count) ok)
names_plain earlier (v.Pointer elem fixed) ok = true_not_false (sym ok)

-- an integer is its own leaf
integer_at : (s : Scene) (env : Env) (structs : Structs) (b : Block) (n : ℕ) (to : IntType) (k : Known) → At s b n (v.Int to) k → AllAt s env structs b n k ([] ∷ [])
unfolding judge_postfixes is_called
integer_at s env structs b n to k h = ((refl, λ callee at. record { fine = record { faults = refl; structs_stay = refl }; to = to; at = h }), tt)

object_at : (s : Scene) (env : Env) (structs : Structs) (known : List (List Leaf)) (u : VarTy) (earlier : ℕ) → NamesBelow earlier u → ((n : ℕ) → n < earlier → KnownAt s env structs known n) → ObjectAt s env structs known u
object_at s env structs known (v.Int to) earlier ok has = record { long = refl; all = λ b n k h. integer_at s env structs b n to k h }
object_at s env structs known (v.Struct m) earlier ok has = let there = has m ok in record { long = there.long; all = there.all }
object_at s env structs known (v.Array (el.Int to) count) earlier ok has = record {
  long = elements_length count 0 ([] ∷ []);
  all = λ b n k h. subst (λ z. AllAt s env structs b z k (elements count 0 ([] ∷ []))) (plus_zero_times n 1)
      (elements_at count 0 s env structs b n count 1 (el.Int to) k ([] ∷ []) (omega arith) refl h.typed (λ j at less. integer_at s env structs b (n + j * 1) to (with_element k (el.Int to) at j) (at_element s b n count j (el.Int to) k at less h)));
}
object_at s env structs known (v.Array (el.Struct m) count) earlier ok has =
    let there = has m ok in
    record {
      long = elements_length count 0 (leaves_in known m) ∙ ap (λ z. count * z) there.long;
      all = λ b n k h. subst (λ z. AllAt s env structs b z k (elements count 0 (leaves_in known m))) (plus_zero_times n (cells_by (sizes_of s.context.structs) (v.Struct m)))
          (elements_at count 0 s env structs b n count (cells_by (sizes_of s.context.structs) (v.Struct m)) (el.Struct m) k (leaves_in known m) (omega arith) there.long h.typed
          (λ j at less. there.all b (n + j * cells_by (sizes_of s.context.structs) (v.Struct m)) (with_element k (el.Struct m) at j) (at_element s b n count j (el.Struct m) k at less h)));
    }
object_at s env structs known (v.Pointer elem fixed) earlier ok has = absurd ok

-- ---- fields

take_before : (before fs : List Field) → take (length before) (before ++ fs) ≡ before
take_before [] fs = refl
take_before (f ∷ before) fs = ap (λ xs. f ∷ xs) (take_before before fs)

cells_more : (sizes : List ℕ) (before : List Field) (f : Field) → fields_cells sizes (before ++ f ∷ []) ≡ fields_cells sizes before + cells_by sizes f.ty
cells_more sizes [] f = omega arith
cells_more sizes (g ∷ before) f = let rest = cells_more sizes before f in omega (arith, rest)

fields_at : (fs : List Field) (s : Scene) (env : Env) (structs : Structs) (known : List (List Leaf)) (earlier m j : ℕ) (before all : List Field) (b : Block) (n : ℕ) (k : Known) → Fields s structs → fields_of s.context.structs m ≡ all → all ≡ before ++ fs → j ≡ length before →
    list_all (field_sound s.context.structs earlier) fs ≡ true → ((i1 : ℕ) → i1 < earlier → KnownAt s env structs known i1) → At s b n (v.Struct m) k → AllAt s env structs b (n + fields_cells (sizes_of s.context.structs) before) k (field_leaves known all j fs)
unfolding is_call
fields_at [] s env structs known earlier m j before all b n k named whole is at sound has h = tt
fields_at (f ∷ fs) s env structs known earlier m j before all b n k named whole is at sound has h =
    let inner = object_at s env structs known f.ty earlier (names_plain earlier f.ty (both_hold_first (is_plain_type earlier f.ty) (is_small s.context.structs f.ty) (both_hold_first (field_sound s.context.structs earlier f) (list_all (field_sound s.context.structs earlier) fs) sound))) has in
    all_append (behind (p.dot nowhere (word (field_by all j))) (object_leaves known f.ty)) (field_leaves known all (suc j) fs) s env structs b (n + fields_cells (sizes_of s.context.structs) before) k
    (all_behind (object_leaves known f.ty) s env structs b (n + fields_cells (sizes_of s.context.structs) before) k (p.dot nowhere (word (field_by all j))) refl
    (λ callee at1. (
      with_field k (record { number = j; entry = found.entry }),
      field_step s env structs m j k found (field_by all j) (ap (λ xs. field_by xs j) (sym whole)) h.typed callee at1,
      inner.all b (n + fields_cells (sizes_of s.context.structs) before) (with_field k (record { number = j; entry = found.entry }))
          (subst (λ z. At s b (n + z) f.ty (with_field k (record { number = j; entry = found.entry }))) offset_is (subst (λ z. At s b (n + offset_of s.context.structs m j) z (with_field k (record { number = j; entry = found.entry }))) type_is (at_field s structs b n m j k found h))),
    )))
    (subst (λ z. AllAt s env structs b z k (field_leaves known all (suc j) fs)) (place_is inner.long)
    (fields_at fs s env structs known earlier m (suc j) (before ++ f ∷ []) all b n k named whole (is ∙ sym (append_assoc before (f ∷ []) fs)) (let more = length-append before (f ∷ []) in omega (arith, more, at)) (both_hold_second (field_sound s.context.structs earlier f) (list_all (field_sound s.context.structs earlier) fs) sound) has h))
  where
    there : j < length (fields_of s.context.structs m)
    there =
        let long : length (fields_of s.context.structs m) ≡ length (before ++ f ∷ fs) = ap (λ (xs : List Field). length xs) (whole ∙ is) in
        let both = length-append before (f ∷ fs) in
        omega (arith, long, both, at)

    found : FieldKnown s structs m j
    found = named m j there

    offset_is : offset_of s.context.structs m j ≡ fields_cells (sizes_of s.context.structs) before
    offset_is = ap (λ xs. fields_cells (sizes_of s.context.structs) (take j xs)) (whole ∙ is) ∙ ap (λ z. fields_cells (sizes_of s.context.structs) (take z (before ++ f ∷ fs))) at ∙ ap (fields_cells (sizes_of s.context.structs)) (take_before before (f ∷ fs))

    type_is : field_type s.context.structs (v.Struct m) j ≡ f.ty
    type_is = ap (λ (xs : List Field). (get_or {A = Field} xs j (record { name = []; ty = v.Int i.Int; marked = false })).ty) (whole ∙ is) ∙ ap (λ z. (get_or {A = Field} (before ++ f ∷ fs) z (record { name = []; ty = v.Int i.Int; marked = false })).ty) at
        ∙ ap (λ (g : Field). g.ty) (get_or-append_seam before f fs (record { name = []; ty = v.Int i.Int; marked = false }))

    place_is : length (object_leaves known f.ty) ≡ cells_by (sizes_of s.context.structs) f.ty → n + fields_cells (sizes_of s.context.structs) (before ++ f ∷ []) ≡ n + fields_cells (sizes_of s.context.structs) before + length (behind (p.dot nowhere (word (field_by all j))) (object_leaves known f.ty))
    place_is long = let more = cells_more (sizes_of s.context.structs) before f in let begun = behind_length (p.dot nowhere (word (field_by all j))) (object_leaves known f.ty) in omega (arith, more, begun, long)

fields_length : (fs : List Field) (s : Scene) (env : Env) (structs : Structs) (known : List (List Leaf)) (earlier j : ℕ) (all : List Field) → list_all (field_sound s.context.structs earlier) fs ≡ true → ((m : ℕ) → m < earlier → KnownAt s env structs known m) → length (field_leaves known all j fs) ≡ fields_cells (sizes_of s.context.structs) fs
fields_length [] s env structs known earlier j all sound has = refl
fields_length (f ∷ fs) s env structs known earlier j all sound has =
    let inner = object_at s env structs known f.ty earlier (names_plain earlier f.ty (both_hold_first (is_plain_type earlier f.ty) (is_small s.context.structs f.ty) (both_hold_first (field_sound s.context.structs earlier f) (list_all (field_sound s.context.structs earlier) fs) sound))) has in
    let here = length-append (behind (p.dot nowhere (word (field_by all j))) (object_leaves known f.ty)) (field_leaves known all (suc j) fs) in
    let begun = behind_length (p.dot nowhere (word (field_by all j))) (object_leaves known f.ty) in
    let long = inner.long in
    let rest = fields_length fs s env structs known earlier (suc j) all (both_hold_second (field_sound s.context.structs earlier f) (list_all (field_sound s.context.structs earlier) fs) sound) has in
    omega (arith, here, begun, long, rest)

-- ---- the table of structs

fields_leaves : (structs : List StructInfo) (fs : List Field) → length (flat_map (λ (f : Field). cells.leaves_of structs f.ty) fs) ≡ fields_cells (sizes_of structs) fs
fields_leaves structs [] = refl
fields_leaves structs (f ∷ fs) =
    let here = length-append (cells.leaves_of structs f.ty) (flat_map (λ (g : Field). cells.leaves_of structs g.ty) fs) in
    let inner = lemmas.sizes structs f.ty in
    let rest = fields_leaves structs fs in
    omega (arith, here, inner, rest)

struct_cells : (structs : List StructInfo) (n : ℕ) (y : StructInfo) → structs_sound structs 0 structs ≡ true → slice_get structs n ≡ Some y → cells_by (sizes_of structs) (v.Struct n) ≡ fields_cells (sizes_of structs) y.fields
struct_cells structs n y sound is = lemmas.sizes structs (v.Struct n) ∙ ap (λ (ts : List IntType). length ts) (leaves_of_struct structs n y sound is) ∙ fields_leaves structs y.fields

known_new : (s : Scene) (env : Env) (structs : Structs) (known : List (List Leaf)) (done rest : List StructInfo) (y : StructInfo) → Fields s structs → structs_sound s.context.structs 0 s.context.structs ≡ true → s.context.structs ≡ done ++ y ∷ rest → length known ≡ length done → struct_sound s.context.structs (length known) y ≡ true →
    ((m : ℕ) → m < length known → KnownAt s env structs known m) → KnownAt s env structs (known ++ struct_leaves known y ∷ []) (length known)
known_new s env structs known done rest y named sound is long ok has = record {
  long = ap (λ (ls : List Leaf). length ls) seam ∙ fields_length y.fields s env structs known (length known) 0 y.fields fields has ∙ sym (struct_cells s.context.structs (length known) y sound there);
  all = λ b n k h. subst (λ ls. AllAt s env structs b n k ls) (sym seam) (subst (λ z. AllAt s env structs b z k (struct_leaves known y)) (alone n) (fields_at y.fields s env structs known (length known) (length known) 0 [] y.fields b n k named fields_is refl refl fields has h));
}
  where
    alone : (n : ℕ) → n + 0 ≡ n
    alone n = omega arith

    seam : leaves_in (known ++ struct_leaves known y ∷ []) (length known) ≡ struct_leaves known y
    seam = ap (λ o. unwrap_or o []) (get_seam known (struct_leaves known y) [])

    there : slice_get s.context.structs (length known) ≡ Some y
    there = ap (λ xs. slice_get xs (length known)) is ∙ ap (λ z. slice_get (done ++ y ∷ rest) z) long ∙ get_seam done y rest

    fields_is : fields_of s.context.structs (length known) ≡ y.fields
    fields_is = ap (λ (z : StructInfo). z.fields) (get_or_from_slice_get s.context.structs (length known) y (record { name = []; fields = [] }) there)

    fields : list_all (field_sound s.context.structs (length known)) y.fields ≡ true
    fields = both_hold_second (nat_le 1 (length y.fields)) (list_all (field_sound s.context.structs (length known)) y.fields) ok

known_more : (s : Scene) (env : Env) (structs : Structs) (known : List (List Leaf)) (ls : List Leaf) (n : ℕ) → n < length known → KnownAt s env structs known n → KnownAt s env structs (known ++ ls ∷ []) n
known_more s env structs known ls n less h = record {
  long = ap (λ (zs : List Leaf). length zs) same ∙ h.long;
  all = λ b at k place. subst (λ zs. AllAt s env structs b at k zs) (sym same) (h.all b at k place);
}
  where
    same : leaves_in (known ++ ls ∷ []) n ≡ leaves_in known n
    same = ap (λ o. unwrap_or o []) (get_before known (ls ∷ []) n less)

known_all : (rest done : List StructInfo) (s : Scene) (env : Env) (structs : Structs) (known : List (List Leaf)) → Fields s structs → structs_sound s.context.structs 0 s.context.structs ≡ true → s.context.structs ≡ done ++ rest → length known ≡ length done → structs_sound s.context.structs (length known) rest ≡ true →
    ((n : ℕ) → n < length known → KnownAt s env structs known n) → (n : ℕ) → n < length (leaves_from known rest) → KnownAt s env structs (leaves_from known rest) n
known_all [] done s env structs known named sound is long ok has = has
known_all (y ∷ rest) done s env structs known named sound is long ok has =
    known_all rest (done ++ y ∷ []) s env structs (known ++ struct_leaves known y ∷ []) named sound (is ∙ sym (append_assoc done (y ∷ []) rest)) (let a = length-append known (struct_leaves known y ∷ []) in let c = length-append done (y ∷ []) in omega (arith, a, c, long))
    (subst (λ z. structs_sound s.context.structs z rest ≡ true) (let a = length-append known (struct_leaves known y ∷ []) in omega (arith, a)) (both_hold_second (struct_sound s.context.structs (length known) y) (structs_sound s.context.structs (suc (length known)) rest) ok))
    (λ n less. new n (let a = length-append known (struct_leaves known y ∷ []) in omega (arith, a, less)) (nat_lt n (length known)) refl)
  where
    new : (n : ℕ) → n < suc (length known) → (z : Bool) → nat_lt n (length known) ≡ z → KnownAt s env structs (known ++ struct_leaves known y ∷ []) n
    new n less true e1 = known_more s env structs known (struct_leaves known y) n (nat_lt_below n (length known) e1) (has n (nat_lt_below n (length known) e1))
    new n less false e1 = subst (λ z. KnownAt s env structs (known ++ struct_leaves known y ∷ []) z) (last n (length known) less e1)
        (known_new s env structs known done rest y named sound is long (both_hold_first (struct_sound s.context.structs (length known) y) (structs_sound s.context.structs (suc (length known)) rest) ok) has)
      where
        last : (n m : ℕ) → n < suc m → nat_lt n m ≡ false → m ≡ n
        last n m less e1 = grind (arith, nat_tests)

-- ---- past the table

sizes_long : (infos : List StructInfo) (known : List ℕ) → length (sizes_after known infos) ≡ length known + length infos
sizes_long [] known = omega arith
sizes_long (y ∷ infos) known = let a = length-append known (fields_cells known y.fields ∷ []) in let rest = sizes_long infos (known ++ fields_cells known y.fields ∷ []) in omega (arith, a, rest)

leaves_long : (infos : List StructInfo) (known : List (List Leaf)) → length (leaves_from known infos) ≡ length known + length infos
leaves_long [] known = omega arith
leaves_long (y ∷ infos) known = let a = length-append known (struct_leaves known y ∷ []) in let rest = leaves_long infos (known ++ struct_leaves known y ∷ []) in omega (arith, a, rest)

known_past : (s : Scene) (env : Env) (structs : Structs) (n : ℕ) → length s.context.structs ≤ n → KnownAt s env structs (leaves_from [] s.context.structs) n
known_past s env structs n far = record {
  long = ap (λ (ls : List Leaf). length ls) none ∙ sym (get_or_past (sizes_of s.context.structs) n 0 (let long = sizes_long s.context.structs [] in omega (arith, long, far)));
  all = λ b at k h. subst (λ ls. AllAt s env structs b at k ls) (sym none) tt;
}
  where
    none : leaves_in (leaves_from [] s.context.structs) n ≡ []
    none = ap (λ o. unwrap_or o []) (slice_get_past (leaves_from [] s.context.structs) n (let long = leaves_long s.context.structs [] in omega (arith, long, far)))

known_each : (s : Scene) (env : Env) (structs : Structs) → Fields s structs → structs_sound s.context.structs 0 s.context.structs ≡ true → (n : ℕ) → KnownAt s env structs (leaves_from [] s.context.structs) n
known_each s env structs named sound n = go (nat_lt n (length s.context.structs)) refl
  where
    no_less : (m : ℕ) → m < 0 → KnownAt s env structs [] m
    no_less m h = absurd (none h)
      where
        none : m < 0 → ⊥
        none h = omega (arith, h)

    go : (z : Bool) → nat_lt n (length s.context.structs) ≡ z → KnownAt s env structs (leaves_from [] s.context.structs) n
    go true e1 = known_all s.context.structs [] s env structs [] named sound refl refl sound no_less n (let long = leaves_long s.context.structs [] in let less = nat_lt_below n (length s.context.structs) e1 in omega (arith, long, less))
    go false e1 = known_past s env structs n (far n (length s.context.structs) e1)
      where
        far : (n m : ℕ) → nat_lt n m ≡ false → m ≤ n
        far n m e1 = grind (arith, nat_tests)

-- ---- the leaves of an object

-- the leaves of an object of more than one cell lead to all of its cells
pub leaves_at : (s : Scene) (env : Env) (structs : Structs) (u : VarTy) → Fields s structs → structs_sound s.context.structs 0 s.context.structs ≡ true → ((elem : Elem) (f : Bool) → u ≡ v.Pointer elem f → ⊥) → ObjectAt s env structs (leaves_from [] s.context.structs) u
leaves_at s env structs (v.Int to) named sound never = object_at s env structs (leaves_from [] s.context.structs) (v.Int to) 0 tt (λ n less. known_each s env structs named sound n)
leaves_at s env structs (v.Struct m) named sound never = object_at s env structs (leaves_from [] s.context.structs) (v.Struct m) (suc m) (omega arith) (λ n less. known_each s env structs named sound n)
leaves_at s env structs (v.Array (el.Int to) count) named sound never = object_at s env structs (leaves_from [] s.context.structs) (v.Array (el.Int to) count) 0 tt (λ n less. known_each s env structs named sound n)
leaves_at s env structs (v.Array (el.Struct m) count) named sound never = object_at s env structs (leaves_from [] s.context.structs) (v.Array (el.Struct m) count) (suc m) (omega arith) (λ n less. known_each s env structs named sound n)
leaves_at s env structs (v.Pointer elem f) named sound never = absurd (never elem f refl)
