-- The integers of an object lie one after the other, in both.
use Rattle.std.proofs.Math.Nat.{suc-mul, zero-mul}
use Rattle.std.proofs.Math.ListN.{get_or-append}
use Rattle.std.proofs.Math.Seq.{get_or-append_seam}
use Rattle.std.proofs.Common.{◌≡◌, ◌∙◌, ◌≤◌, ◌<◌, ℕ, zero, suc, ◌+◌, ◌*◌, ℤ, pos, refl, ap, sym, subst, arith, Bool, true, false, Option, Some, None, List, [], ◌∷◌, ◌++◌, length, length-append, map, append_assoc, get_or, Result, Ok, Err, if◌then◌else◌}
use Rattle.std.specs.Prelude.{IsTrue, ◌&&◌, nat_le, nat_lt, slice_get, take, unwrap_or}
use Rattle.std.specs.List.{list_all, flat_map}
use Rattle.std.proofs.lemmas.Bool.Decides.{nat_tests}
use Rattle.std.proofs.lemmas.Option.{get_or_from_slice_get}
use Rattle.pt_base.specs.declared.int_type.IntType.{IntType}
use Rattle.pt_base.specs.declared.int_type.IntType.TheVariants as i
use Rattle.pt_base.specs.declared.span.Span.{Span}
use Rattle.pt_base.specs.declared.trap.Trap.{Trap}
use Rattle.pt_base.specs.declared.trap.Trap.TheVariants.{Bounds}
use Rattle.pt_base.proofs.Booleans.{both_hold_first, both_hold_second, false_not_true}
use Rattle.pt_base.proofs.Lists.{length_map}
use Rattle.pt_base.proofs.Numbers.{nat_lt_below, plus_zero, plus_zero_times, positive_from_zero}
use Rattle.pt_base.proofs.Places.{get_or_past}
use Rattle.pt_tree.specs.declared.signature.Elem.{Elem}
use Rattle.pt_tree.specs.declared.signature.Elem.TheVariants as e
use Rattle.runs.specs.Pointers.{Target, moved, moved_index, up_to, at_index, reached, directed}
use Rattle.typed_tree.specs.declared.types.VarTy.{VarTy}
use Rattle.typed_tree.specs.declared.types.VarTy.TheVariants.{Int, Struct, Array, Pointer}
use Rattle.typed_tree.specs.declared.types.Field.{Field}
use Rattle.typed_tree.specs.declared.types.StructInfo.{StructInfo}
use Rattle.typed_tree.specs.ExpressionTree.{ExprTree}
use Rattle.typed_tree.specs.Cells.{leaves_of}
use Rattle.typed_tree.specs.Sizes.{elem_cells, cells_by, fields_cells, sizes_after, sizes_of, fields_of, offset_of}
use Rattle.typed_tree.specs.TypeTests.{type_of_elem}
use Rattle.typed_tree.specs.WellFormed.{is_plain_type, is_small, field_sound, struct_sound, structs_sound}
use Rattle.typed_tree.specs.WellFormedExpression.{is_elem}
use Rattle.typed_tree.specs.WellFormedStatement.{item_types}
use Rattle.typed_tree.proofs.LeavesLemmas.{leaves_of_struct}
use Rattle.source_meaning.proofs.SizeLemmas as lemmas
use Rattle.block_memory.specs.declared.cell.Cell as core
use Rattle.block_memory.specs.declared.cell.Cell.TheVariants as cell
use Rattle.block_memory.specs.declared.cell.Pointer.TheVariants as pointer
use Rattle.block_memory.specs.declared.cell.BlockName.{BlockName}
use Rattle.block_memory.specs.declared.cell.BlockName.TheVariants.{Local}
use Rattle.block_memory.specs.Blocks.{Blocks}
use Rattle.pt_core.specs.CodeTree as t
use Rattle.pt_core.specs.CodeTree.{PlaceTree, place, deref, constant, decay, move}
use Rattle.pt_core.specs.Types as types
use Rattle.pt_core.specs.Types.{Context, place_type, path_type, element_of}
use Rattle.pt_core.specs.Values as v
use Rattle.pt_core.specs.Values.{Stop, ◌>>?◌, at_span, pointed, pointee, along, field_at, decayed, target_of}
use Rattle.lowering.specs.Expressions.{place_with_field}
use Rattle.lowering.specs.Leaves.{Step, to_field, to_element, Ways, begun_with, element_ways, elem_ways, object_ways, field_ways, ways_from, ways_of, stepped_to, at_end_of, leaf_places}
use Rattle.c_lower_law.proofs.Relations.{Scene, frame_of, sizes_in}
use Rattle.c_lower_law.proofs.Expressions.{cell_asked, place_asked, SceneFits}
use Rattle.c_lower_law.proofs.Variables.{Own}

-- ---- places that lie in a variable

-- a place at this cell of the variable, whatever memory holds
pub record LiesAt (s : Scene) (x k : ℕ) (p : PlaceTree) : Type 0 where
  pub at : v.Location
  pub is : (blocks : Blocks) → place_asked s p blocks ≡ Ok at
  pub block : at.block ≡ Local s.frame.depth x
  pub cell : at.cell ≡ k

-- places at the cells from this one on
abbrev pub LiesFrom : Scene → ℕ → ℕ → List PlaceTree → Type 0
LiesFrom s x k [] = Unit {0}
LiesFrom s x k (p ∷ ps) = LiesAt s x k p × LiesFrom s x (k + 1) ps

-- a place that designates an object of this type there
record At (s : Scene) (p : PlaceTree) (block : BlockName) (k : ℕ) (u : VarTy) : Type 0 where
  is : (blocks : Blocks) → place_asked s p blocks ≡ Ok (record { block = block; cell = k; ty = u })
  has : place_type (frame_of s).context p ≡ u

-- ---- steps to fields

along_more : (c : Context) (path : List ℕ) (k : ℕ) (at : v.Location) → along c (path ++ k ∷ []) at ≡ field_at c k (along c path at)
along_more c [] k at = refl
along_more c (j ∷ path) k at = along_more c path k (field_at c j at)

path_more : (structs : List StructInfo) (u : VarTy) (path : List ℕ) (k : ℕ) → path_type structs u (path ++ k ∷ []) ≡ types.field_type structs (path_type structs u path) k
path_more structs u [] k = refl
path_more structs u (j ∷ path) k = path_more structs (types.field_type structs u j) path k

field_asked : (c : Context) (path : List ℕ) (k : ℕ) (r : Result v.Location Stop) → (r >>? λ at. Ok (along c (path ++ k ∷ []) at)) ≡ ((r >>? λ at. Ok (along c path at)) >>? λ at. Ok (field_at c k at))
field_asked c path k (Ok at) = ap Ok (along_more c path k at)
field_asked c path k (Err stop) = refl

at_field : (s : Scene) (p : PlaceTree) (block : BlockName) (k n j : ℕ) → At s p block k (Struct n) → At s (place_with_field p j) block (k + offset_of s.names.structs n j) (types.field_type s.names.structs (Struct n) j)
at_field s (place root path) block k n j h = record {
  is = λ blocks. field_asked (frame_of s).context path j (v.root_location (frame_of s).context s.frame.depth root blocks) ∙ ap (λ (r : Result v.Location Stop). r >>? λ at. Ok (field_at (frame_of s).context j at)) (h.is blocks);
  has = path_more s.names.structs (types.root_type (frame_of s).context root) path j ∙ ap (λ z. types.field_type s.names.structs z j) h.has;
}

-- ---- steps to elements

abbrev first_of : BlockName → ℕ → ℕ → ℕ → Target BlockName
first_of block k count index = record { block = block; base = k; count = count; index = index }

moved_to : (block : BlockName) (k count j : ℕ) → j < count → moved (pos j) (Some (first_of block k count 0)) ≡ Ok (first_of block k count j)
moved_to block k count j less = ap (λ z. at_index (first_of block k count 0) (up_to count z)) (positive_from_zero j) ∙ ap (λ (b : Bool). at_index (first_of block k count 0) (if b then Some j else None)) (within j count less)
  where
    within : (j count : ℕ) → j < count → nat_le j count ≡ true
    within j count h = grind (arith, nat_tests)

reached_there : (block : BlockName) (size k count j : ℕ) → j < count → reached size (Some (first_of block k count j)) ≡ Ok (block, k + j * size)
reached_there block size k count j less = ap (λ (b : Bool). if b then Ok (block, k + j * size) else Err Bounds) (within j count less)
  where
    within : (j count : ℕ) → j < count → nat_lt j count ≡ true
    within j count h = grind (arith, nat_tests)

abbrev element_value : Scene → Span → ℕ → Result v.Location Stop → Result core.Cell Stop
element_value s sp j r = (r >>? λ at. Ok (decayed at at.ty)) >>? λ q. Ok (cell.Int (pos j)) >>? λ w. pointed (at_span sp (moved (directed false (v.number_in w)) (target_of q)))

abbrev element_found : Scene → Span → VarTy → Result core.Cell Stop → Result v.Location Stop
element_found s sp u r = (r >>? pointee (frame_of s).context sp u) >>? λ at. Ok at

at_element : (s : Scene) (sp : Span) (p : PlaceTree) (block : BlockName) (k count j : ℕ) (elem : Elem) → j < count → At s p block k (Array elem count) → At s (stepped_to sp p (to_element j)) block (k + j * elem_cells (sizes_in s) elem) (type_of_elem elem)
at_element s sp p block k count j elem less h = record {
  is = λ blocks.
      ap (λ z. element_found s sp (Pointer (element_of z) false) (cell_asked s (move (decay p) (constant i.Int (pos j)) false sp) blocks)) h.has
      ∙ ap (λ r. element_found s sp (Pointer elem false) (element_value s sp j r)) (h.is blocks)
      ∙ ap (λ r. element_found s sp (Pointer elem false) (pointed (at_span sp r))) (moved_to block k count j less)
      ∙ ap (λ (r : Result (BlockName × ℕ) Trap). (at_span sp r >>? λ at. Ok (record { block = at.0; cell = at.1; ty = type_of_elem elem })) >>? λ at. Ok at) (reached_there block (elem_cells (sizes_in s) elem) k count j less);
  has = ap (λ z. type_of_elem (element_of z)) h.has;
}

-- ---- ways

abbrev AllAt : Scene → Span → PlaceTree → BlockName → ℕ → Ways → Type 0
AllAt s sp p block k [] = Unit {0}
AllAt s sp p block k (w ∷ ws) = ((u : VarTy) × At s (at_end_of sp w p) block k u) × AllAt s sp p block (k + 1) ws

all_begun : (ws : Ways) (s : Scene) (sp : Span) (p : PlaceTree) (step : Step) (block : BlockName) (k : ℕ) → AllAt s sp (stepped_to sp p step) block k ws → AllAt s sp p block k (begun_with step ws)
all_begun [] s sp p step block k h = tt
all_begun (w ∷ ws) s sp p step block k h = (h.0, all_begun ws s sp p step block (k + 1) h.1)

all_append : (ws us : Ways) (s : Scene) (sp : Span) (p : PlaceTree) (block : BlockName) (k : ℕ) → AllAt s sp p block k ws → AllAt s sp p block (k + length ws) us → AllAt s sp p block k (ws ++ us)
all_append [] us s sp p block k h g = subst (λ j. AllAt s sp p block j us) (none k) g
  where
    none : (k : ℕ) → k + 0 ≡ k
    none k = omega arith
all_append (w ∷ ws) us s sp p block k h g = (h.0, all_append ws us s sp p block (k + 1) h.1 (subst (λ j. AllAt s sp p block j us) (more k (length ws)) g))
  where
    more : (k n : ℕ) → k + suc n ≡ k + 1 + n
    more k n = omega arith

begun_length : (step : Step) (ws : Ways) → length (begun_with step ws) ≡ length ws
begun_length step [] = refl
begun_length step (w ∷ ws) = ap suc (begun_length step ws)

elements_length : (count k : ℕ) (ws : Ways) → length (element_ways count k ws) ≡ count * length ws
elements_length zero k ws = let e1 : 0 * length ws ≡ 0 = zero-mul (length ws) in sym e1
elements_length (suc count) k ws =
    let here = length-append (begun_with (to_element k) ws) (element_ways count (k + 1) ws) in
    let one = begun_length (to_element k) ws in
    let rest = elements_length count (k + 1) ws in
    let product = suc-mul count (length ws) in
    omega (arith, here, one, rest, product)

elements_at : (more j : ℕ) (s : Scene) (sp : Span) (p : PlaceTree) (block : BlockName) (k count size : ℕ) (ws : Ways) → j + more ≤ count → length ws ≡ size → ((i1 : ℕ) → i1 < count → AllAt s sp (stepped_to sp p (to_element i1)) block (k + i1 * size) ws) → AllAt s sp p block (k + j * size) (element_ways more j ws)
elements_at zero j s sp p block k count size ws le long each = tt
elements_at (suc more) j s sp p block k count size ws le long each =
    all_append (begun_with (to_element j) ws) (element_ways more (j + 1) ws) s sp p block (k + j * size) (all_begun ws s sp p (to_element j) block (k + j * size) (each j (omega (arith, le))))
    (subst (λ z. AllAt s sp p block z (element_ways more (j + 1) ws)) place_is (elements_at more (j + 1) s sp p block k count size ws (omega (arith, le)) long each))
  where
    place_is : k + (j + 1) * size ≡ k + j * size + length (begun_with (to_element j) ws)
    place_is =
        let one = begun_length (to_element j) ws in
        let product = suc-mul j size in
        let same : (j + 1) * size ≡ suc j * size = ap (λ z. z * size) (next j) in
        omega (arith, one, long, product, same)
      where
        next : (j : ℕ) → j + 1 ≡ suc j
        next j = omega arith

-- ---- objects, by what is known of structs

record Known (s : Scene) (known : List Ways) (n : ℕ) : Type 0 where
  long : length (get_or known n []) ≡ cells_by (sizes_in s) (Struct n)
  all : (sp : Span) (p : PlaceTree) (block : BlockName) (k : ℕ) → At s p block k (Struct n) → AllAt s sp p block k (get_or known n [])

record Object (s : Scene) (known : List Ways) (u : VarTy) : Type 0 where
  long : length (object_ways known u) ≡ cells_by (sizes_in s) u
  all : (sp : Span) (p : PlaceTree) (block : BlockName) (k : ℕ) → At s p block k u → AllAt s sp p block k (object_ways known u)

-- the structs that a type names are among so many
abbrev NamesBelow : ℕ → VarTy → Type 0
NamesBelow earlier (Int t1) = Unit {0}
NamesBelow earlier (Struct n) = n < earlier
NamesBelow earlier (Array (e.Int t1) count) = Unit {0}
NamesBelow earlier (Array (e.Struct n) count) = n < earlier
NamesBelow earlier (Pointer elem fixed) = ⊥

names_plain : (earlier : ℕ) (u : VarTy) → is_plain_type earlier u ≡ true → NamesBelow earlier u
names_plain earlier (Int t1) ok = tt
names_plain earlier (Struct n) ok = nat_lt_below n earlier ok
names_plain earlier (Array (e.Int t1) count) ok = tt
names_plain earlier (Array (e.Struct n) count) ok = nat_lt_below n earlier (both_hold_first (is_elem earlier (Some (e.Struct n))) (nat_le 1 count) ok)
names_plain earlier (Pointer elem fixed) ok = false_not_true ok

object_at : (s : Scene) (known : List Ways) (u : VarTy) (earlier : ℕ) → NamesBelow earlier u → ((n : ℕ) → n < earlier → Known s known n) → Object s known u
object_at s known (Int t1) earlier ok has = record { long = refl; all = λ sp p block k h. ((Int t1, h), tt) }
object_at s known (Struct n) earlier ok has = let there = has n ok in record { long = there.long; all = there.all }
object_at s known (Array (e.Int t1) count) earlier ok has = record {
  long = elements_length count 0 ([] ∷ []);
  all = λ sp p block k h. subst (λ z. AllAt s sp p block z (element_ways count 0 ([] ∷ []))) (plus_zero_times k 1) (elements_at count 0 s sp p block k count 1 ([] ∷ []) (omega arith) refl (λ j less. ((Int t1, at_element s sp p block k count j (e.Int t1) less h), tt)));
}
object_at s known (Array (e.Struct n) count) earlier ok has =
    let there = has n ok in
    record {
      long = elements_length count 0 (get_or known n []) ∙ ap (λ z. count * z) there.long;
      all = λ sp p block k h. subst (λ z. AllAt s sp p block z (element_ways count 0 (get_or known n []))) (plus_zero_times k (cells_by (sizes_in s) (Struct n)))
          (elements_at count 0 s sp p block k count (cells_by (sizes_in s) (Struct n)) (get_or known n []) (omega arith) there.long (λ j less. there.all sp (stepped_to sp p (to_element j)) block (k + j * cells_by (sizes_in s) (Struct n)) (at_element s sp p block k count j (e.Struct n) less h)));
    }
object_at s known (Pointer elem fixed) earlier ok has = absurd ok

-- ---- fields

take_before : (before fs : List Field) → take (length before) (before ++ fs) ≡ before
take_before [] fs = refl
take_before (f ∷ before) fs = ap (λ xs. f ∷ xs) (take_before before fs)

cells_more : (sizes : List ℕ) (before : List Field) (f : Field) → fields_cells sizes (before ++ f ∷ []) ≡ fields_cells sizes before + cells_by sizes f.ty
cells_more sizes [] f = omega arith
cells_more sizes (g ∷ before) f = let rest = cells_more sizes before f in omega (arith, rest)

fields_at : (fs : List Field) (s : Scene) (known : List Ways) (earlier n j : ℕ) (before : List Field) (sp : Span) (p : PlaceTree) (block : BlockName) (k : ℕ) → fields_of s.names.structs n ≡ before ++ fs → j ≡ length before → list_all (field_sound s.names.structs earlier) fs ≡ true →
    ((m : ℕ) → m < earlier → Known s known m) → At s p block k (Struct n) → AllAt s sp p block (k + fields_cells (sizes_in s) before) (field_ways known j fs)
fields_at [] s known earlier n j before sp p block k is at sound has h = tt
fields_at (f ∷ fs) s known earlier n j before sp p block k is at sound has h =
    let one = object_at s known f.ty earlier (names_plain earlier f.ty (both_hold_first (is_plain_type earlier f.ty) (is_small s.names.structs f.ty) (both_hold_first (field_sound s.names.structs earlier f) (list_all (field_sound s.names.structs earlier) fs) sound))) has in
    all_append (begun_with (to_field j) (object_ways known f.ty)) (field_ways known (j + 1) fs) s sp p block (k + fields_cells (sizes_in s) before)
    (all_begun (object_ways known f.ty) s sp p (to_field j) block (k + fields_cells (sizes_in s) before)
    (one.all sp (place_with_field p j) block (k + fields_cells (sizes_in s) before)
    (subst (λ z. At s (place_with_field p j) block (k + z) f.ty) offset_is (subst (λ z. At s (place_with_field p j) block (k + offset_of s.names.structs n j) z) type_is (at_field s p block k n j h)))))
    (subst (λ z. AllAt s sp p block z (field_ways known (j + 1) fs)) (place_is one.long)
    (fields_at fs s known earlier n (j + 1) (before ++ f ∷ []) sp p block k (is ∙ sym (append_assoc before (f ∷ []) fs)) (let more = length-append before (f ∷ []) in omega (arith, more, at)) (both_hold_second (field_sound s.names.structs earlier f) (list_all (field_sound s.names.structs earlier) fs) sound) has h))
  where
    offset_is : offset_of s.names.structs n j ≡ fields_cells (sizes_in s) before
    offset_is = ap (λ xs. fields_cells (sizes_in s) (take j xs)) is ∙ ap (λ z. fields_cells (sizes_in s) (take z (before ++ f ∷ fs))) at ∙ ap (fields_cells (sizes_in s)) (take_before before (f ∷ fs))

    type_is : types.field_type s.names.structs (Struct n) j ≡ f.ty
    type_is = ap (λ (xs : List Field). (get_or {A = Field} xs j (record { name = []; ty = Int i.Int; marked = false })).ty) is ∙ ap (λ z. (get_or {A = Field} (before ++ f ∷ fs) z (record { name = []; ty = Int i.Int; marked = false })).ty) at
        ∙ ap (λ (g : Field). g.ty) (get_or-append_seam before f fs (record { name = []; ty = Int i.Int; marked = false }))

    place_is : length (object_ways known f.ty) ≡ cells_by (sizes_in s) f.ty → k + fields_cells (sizes_in s) (before ++ f ∷ []) ≡ k + fields_cells (sizes_in s) before + length (begun_with (to_field j) (object_ways known f.ty))
    place_is long = let more = cells_more (sizes_in s) before f in let one = begun_length (to_field j) (object_ways known f.ty) in omega (arith, more, one, long)

fields_length : (fs : List Field) (s : Scene) (known : List Ways) (earlier j : ℕ) → list_all (field_sound s.names.structs earlier) fs ≡ true → ((m : ℕ) → m < earlier → Known s known m) → length (field_ways known j fs) ≡ fields_cells (sizes_in s) fs
fields_length [] s known earlier j sound has = refl
fields_length (f ∷ fs) s known earlier j sound has =
    let one = object_at s known f.ty earlier (names_plain earlier f.ty (both_hold_first (is_plain_type earlier f.ty) (is_small s.names.structs f.ty) (both_hold_first (field_sound s.names.structs earlier f) (list_all (field_sound s.names.structs earlier) fs) sound))) has in
    let here = length-append (begun_with (to_field j) (object_ways known f.ty)) (field_ways known (j + 1) fs) in
    let begun = begun_length (to_field j) (object_ways known f.ty) in
    let long = one.long in
    let rest = fields_length fs s known earlier (j + 1) (both_hold_second (field_sound s.names.structs earlier f) (list_all (field_sound s.names.structs earlier) fs) sound) has in
    omega (arith, here, begun, long, rest)

-- ---- the table of structs

fields_leaves : (structs : List StructInfo) (fs : List Field) → length (flat_map (λ (f : Field). leaves_of structs f.ty) fs) ≡ fields_cells (sizes_of structs) fs
fields_leaves structs [] = refl
fields_leaves structs (f ∷ fs) =
    let here = length-append (leaves_of structs f.ty) (flat_map (λ (g : Field). leaves_of structs g.ty) fs) in
    let one = lemmas.sizes structs f.ty in
    let rest = fields_leaves structs fs in
    omega (arith, here, one, rest)

struct_cells : (structs : List StructInfo) (n : ℕ) (x : StructInfo) → structs_sound structs 0 structs ≡ true → slice_get structs n ≡ Some x → cells_by (sizes_of structs) (Struct n) ≡ fields_cells (sizes_of structs) x.fields
struct_cells structs n x sound is = lemmas.sizes structs (Struct n) ∙ ap (λ (ts : List IntType). length ts) (leaves_of_struct structs n x sound is) ∙ fields_leaves structs x.fields

got_seam : (done : List StructInfo) (x : StructInfo) (rest : List StructInfo) → slice_get (done ++ x ∷ rest) (length done) ≡ Some x
got_seam [] x rest = refl
got_seam (y ∷ done) x rest = got_seam done x rest

known_new : (s : Scene) (known : List Ways) (done rest : List StructInfo) (x : StructInfo) → structs_sound s.names.structs 0 s.names.structs ≡ true → s.names.structs ≡ done ++ x ∷ rest → length known ≡ length done → struct_sound s.names.structs (length known) x ≡ true →
    ((m : ℕ) → m < length known → Known s known m) → Known s (known ++ field_ways known 0 x.fields ∷ []) (length known)
known_new s known done rest x sound is long ok has = record {
  long = ap (λ (ws : Ways). length ws) seam ∙ fields_length x.fields s known (length known) 0 fields has ∙ sym (struct_cells s.names.structs (length known) x sound there);
  all = λ sp p block k h. subst (λ ws. AllAt s sp p block k ws) (sym seam) (subst (λ z. AllAt s sp p block z (field_ways known 0 x.fields)) (plus_zero k) (fields_at x.fields s known (length known) (length known) 0 [] sp p block k fields_is refl fields has h));
}
  where
    seam : get_or (known ++ field_ways known 0 x.fields ∷ []) (length known) [] ≡ field_ways known 0 x.fields
    seam = get_or-append_seam known (field_ways known 0 x.fields) [] []

    there : slice_get s.names.structs (length known) ≡ Some x
    there = ap (λ xs. slice_get xs (length known)) is ∙ ap (λ z. slice_get (done ++ x ∷ rest) z) long ∙ got_seam done x rest

    fields_is : fields_of s.names.structs (length known) ≡ x.fields
    fields_is = ap (λ (y : StructInfo). y.fields) (get_or_from_slice_get s.names.structs (length known) x (record { name = []; fields = [] }) there)

    fields : list_all (field_sound s.names.structs (length known)) x.fields ≡ true
    fields = both_hold_second (nat_le 1 (length x.fields)) (list_all (field_sound s.names.structs (length known)) x.fields) ok

known_more : (s : Scene) (known : List Ways) (w : Ways) (n : ℕ) → n < length known → Known s known n → Known s (known ++ w ∷ []) n
known_more s known w n less h = record {
  long = ap (λ (ws : Ways). length ws) (get_or-append known (w ∷ []) [] n less) ∙ h.long;
  all = λ sp p block k at. subst (λ ws. AllAt s sp p block k ws) (sym (get_or-append known (w ∷ []) [] n less)) (h.all sp p block k at);
}

known_all : (rest : List StructInfo) (done : List StructInfo) (s : Scene) (known : List Ways) → structs_sound s.names.structs 0 s.names.structs ≡ true → s.names.structs ≡ done ++ rest → length known ≡ length done → structs_sound s.names.structs (length known) rest ≡ true →
    ((n : ℕ) → n < length known → Known s known n) → (n : ℕ) → n < length (ways_from known rest) → Known s (ways_from known rest) n
known_all [] done s known sound is long ok has = has
known_all (x ∷ rest) done s known sound is long ok has =
    known_all rest (done ++ x ∷ []) s (known ++ field_ways known 0 x.fields ∷ []) sound (is ∙ sym (append_assoc done (x ∷ []) rest)) (let one = length-append known (field_ways known 0 x.fields ∷ []) in let two = length-append done (x ∷ []) in omega (arith, one, two, long))
    (subst (λ z. structs_sound s.names.structs z rest ≡ true) (let one = length-append known (field_ways known 0 x.fields ∷ []) in omega (arith, one)) (both_hold_second (struct_sound s.names.structs (length known) x) (structs_sound s.names.structs (suc (length known)) rest) ok))
    (λ n less. new n (let one = length-append known (field_ways known 0 x.fields ∷ []) in omega (arith, one, less)) (nat_lt n (length known)) refl)
  where
    new : (n : ℕ) → n < suc (length known) → (b : Bool) → nat_lt n (length known) ≡ b → Known s (known ++ field_ways known 0 x.fields ∷ []) n
    new n less true e1 = known_more s known (field_ways known 0 x.fields) n (nat_lt_below n (length known) e1) (has n (nat_lt_below n (length known) e1))
    new n less false e1 = subst (λ z. Known s (known ++ field_ways known 0 x.fields ∷ []) z) (last n (length known) less e1)
        (known_new s known done rest x sound is long (both_hold_first (struct_sound s.names.structs (length known) x) (structs_sound s.names.structs (suc (length known)) rest) ok) has)
      where
        last : (n m : ℕ) → n < suc m → nat_lt n m ≡ false → m ≡ n
        last n m less e1 = grind (arith, nat_tests)

-- ---- past the table

sizes_long : (structs : List StructInfo) (known : List ℕ) → length (sizes_after known structs) ≡ length known + length structs
sizes_long [] known = omega arith
sizes_long (x ∷ structs) known = let one = length-append known (fields_cells known x.fields ∷ []) in let rest = sizes_long structs (known ++ fields_cells known x.fields ∷ []) in omega (arith, one, rest)

ways_long : (structs : List StructInfo) (known : List Ways) → length (ways_from known structs) ≡ length known + length structs
ways_long [] known = omega arith
ways_long (x ∷ structs) known = let one = length-append known (field_ways known 0 x.fields ∷ []) in let rest = ways_long structs (known ++ field_ways known 0 x.fields ∷ []) in omega (arith, one, rest)

known_past : (s : Scene) (n : ℕ) → length s.names.structs ≤ n → Known s (ways_from [] s.names.structs) n
known_past s n far = record {
  long = ap (λ (ws : Ways). length ws) none ∙ sym (get_or_past (sizes_of s.names.structs) n 0 (let long = sizes_long s.names.structs [] in omega (arith, long, far)));
  all = λ sp p block k h. subst (λ ws. AllAt s sp p block k ws) (sym none) tt;
}
  where
    none : get_or (ways_from [] s.names.structs) n [] ≡ []
    none = get_or_past (ways_from [] s.names.structs) n [] (let long = ways_long s.names.structs [] in omega (arith, long, far))

known_each : (s : Scene) → structs_sound s.names.structs 0 s.names.structs ≡ true → (n : ℕ) → Known s (ways_from [] s.names.structs) n
known_each s sound n = go (nat_lt n (length s.names.structs)) refl
  where
    no_less : (m : ℕ) → m < 0 → Known s [] m
    no_less m h = absurd (none h)
      where
        none : m < 0 → ⊥
        none h = omega (arith, h)

    go : (b : Bool) → nat_lt n (length s.names.structs) ≡ b → Known s (ways_from [] s.names.structs) n
    go true e1 = known_all s.names.structs [] s [] sound refl refl sound no_less n (let long = ways_long s.names.structs [] in let less = nat_lt_below n (length s.names.structs) e1 in omega (arith, long, less))
    go false e1 = known_past s n (far n (length s.names.structs) e1)
      where
        far : (n m : ℕ) → nat_lt n m ≡ false → m ≤ n
        far n m e1 = grind (arith, nat_tests)

-- ---- the leaves of a variable

places_lie : (ws : Ways) (s : Scene) (x k : ℕ) (sp : Span) (p : PlaceTree) → AllAt s sp p (Local s.frame.depth x) k ws → LiesFrom s x k (map (λ way. at_end_of sp way p) ws)
places_lie [] s x k sp p h = tt
places_lie (w ∷ ws) s x k sp p h = (record { at = record { block = Local s.frame.depth x; cell = k; ty = h.0.0 }; is = h.0.1.is; block = refl; cell = refl }, places_lie ws s x (k + 1) sp p h.1)

variable_at : (s : Scene) (exprs : List ExprTree) (x : ℕ) (u : VarTy) → Own s exprs x u → At s (place (t.local x) []) (Local s.frame.depth x) 0 u
variable_at s exprs x u o = record { is = λ blocks. ap (λ z. Ok (record { block = Local s.frame.depth x; cell = 0; ty = z })) o.core_type; has = o.core_type }

pub leaves_lie : (s : Scene) (exprs : List ExprTree) (x : ℕ) (u : VarTy) (sp : Span) → SceneFits s → Own s exprs x u → LiesFrom s x 0 (leaf_places s.names.structs u sp (place (t.local x) []))
leaves_lie s exprs x u sp fits o = places_lie (ways_of s.names.structs u) s x 0 sp (place (t.local x) []) (go u (variable_at s exprs x u o))
  where
    go : (u : VarTy) → At s (place (t.local x) []) (Local s.frame.depth x) 0 u → AllAt s sp (place (t.local x) []) (Local s.frame.depth x) 0 (ways_of s.names.structs u)
    go (Int t1) h = ((Int t1, h), tt)
    go (Pointer elem fixed) h = ((Pointer elem fixed, h), tt)
    go (Struct n) h = (object_at s (ways_from [] s.names.structs) (Struct n) (suc n) (omega arith) (λ m less. known_each s fits.structs m)).all sp (place (t.local x) []) (Local s.frame.depth x) 0 h
    go (Array (e.Int t1) count) h = (object_at s (ways_from [] s.names.structs) (Array (e.Int t1) count) 0 tt (λ m less. known_each s fits.structs m)).all sp (place (t.local x) []) (Local s.frame.depth x) 0 h
    go (Array (e.Struct n) count) h = (object_at s (ways_from [] s.names.structs) (Array (e.Struct n) count) (suc n) (omega arith) (λ m less. known_each s fits.structs m)).all sp (place (t.local x) []) (Local s.frame.depth x) 0 h

-- there is one for each item
pub leaves_enough : (s : Scene) (u : VarTy) (sp : Span) (p : PlaceTree) → SceneFits s → length (item_types s.names.structs u) ≤ length (leaf_places s.names.structs u sp p)
leaves_enough s u sp p fits = go u
  where
    by_long : (u : VarTy) → item_types s.names.structs u ≡ map Int (leaves_of s.names.structs u) → Object s (ways_from [] s.names.structs) u → length (item_types s.names.structs u) ≤ length (leaf_places s.names.structs u sp p)
    by_long u is o =
        let items = ap (λ (xs : List VarTy). length xs) is ∙ length_map Int (leaves_of s.names.structs u) in
        let places = length_map (λ way. at_end_of sp way p) (ways_of s.names.structs u) in
        let long = o.long in
        let cells = lemmas.sizes s.names.structs u in
        omega (arith, items, places, long, cells)

    go : (u : VarTy) → length (item_types s.names.structs u) ≤ length (leaf_places s.names.structs u sp p)
    go (Int t1) = by_long (Int t1) refl (object_at s (ways_from [] s.names.structs) (Int t1) 0 tt (λ m less. known_each s fits.structs m))
    go (Pointer elem fixed) = omega arith
    go (Struct n) = by_long (Struct n) refl (object_at s (ways_from [] s.names.structs) (Struct n) (suc n) (omega arith) (λ m less. known_each s fits.structs m))
    go (Array (e.Int t1) count) = by_long (Array (e.Int t1) count) refl (object_at s (ways_from [] s.names.structs) (Array (e.Int t1) count) 0 tt (λ m less. known_each s fits.structs m))
    go (Array (e.Struct n) count) = by_long (Array (e.Struct n) count) refl (object_at s (ways_from [] s.names.structs) (Array (e.Struct n) count) (suc n) (omega arith) (λ m less. known_each s fits.structs m))
