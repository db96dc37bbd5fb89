-- What a well formed program keeps, as the other laws use it.
use Rattle.std.proofs.Common.{◌≡◌, ℕ, zero, suc, ◌^◌, refl, subst, true, false, Option, Some, None, List, [], ◌∷◌, map}
use Rattle.std.specs.Prelude.{IsTrue, ◌&&◌, slice_get, option_map, option_and_then, nat_le, nat_lt, length, is_none}
use Rattle.std.specs.List.{list_all, list_any}
use Rattle.pt_base.proofs.Booleans.{both_hold_first, both_hold_second, false_not_true}
use Rattle.pt_base.proofs.Members.{all_true_at}
use Rattle.typed_tree.specs.declared.types.VarTy.{VarTy}
use Rattle.typed_tree.specs.declared.types.VarTy.TheVariants.{Int, Struct, Array, Pointer}
use Rattle.typed_tree.specs.declared.types.Field.{Field}
use Rattle.typed_tree.specs.declared.types.StructInfo.{StructInfo}
use Rattle.typed_tree.specs.declared.variable.TypedGlobal.{TypedGlobal}
use Rattle.typed_tree.specs.TypedTree.{TypedTree}
use Rattle.typed_tree.specs.Cells.{leaves_of}
use Rattle.typed_tree.specs.Nodes.{nodes_of}
use Rattle.typed_tree.specs.WellFormed.{is_plain_type, is_small, field_sound, struct_sound, structs_sound, cells_fit, global_sound, globals_small, function_sound, name_of, names_sound, is_start, numbers_sound, is_well_formed}
use Rattle.source_soundness.specs.Worlds.{is_pointer}
use Rattle.source_soundness.specs.Laws.{FieldsArePlain}

pub record Facts (program : TypedTree) : Type 0 where
  pub structs : structs_sound program.structs 0 program.structs ≡ true
  pub globals : list_all (global_sound program.structs) program.globals ≡ true
  pub functions : list_all (function_sound program) program.functions ≡ true

pub facts : (program : TypedTree) → IsTrue (is_well_formed program) → Facts program
unfolding is_well_formed
facts t h =
    let first = both_hold_first (structs_sound t.structs 0 t.structs && (list_all (global_sound t.structs) t.globals && globals_small t.globals)) ((list_all (function_sound t) t.functions && (names_sound (map name_of t.functions) && list_any is_start t.functions)) && (list_all (numbers_sound t) t.functions && nat_lt (nodes_of t) (2 ^ 28))) h in
    let second = both_hold_second (structs_sound t.structs 0 t.structs && (list_all (global_sound t.structs) t.globals && globals_small t.globals)) ((list_all (function_sound t) t.functions && (names_sound (map name_of t.functions) && list_any is_start t.functions)) && (list_all (numbers_sound t) t.functions && nat_lt (nodes_of t) (2 ^ 28))) h in
    record {
      structs = both_hold_first (structs_sound t.structs 0 t.structs) (list_all (global_sound t.structs) t.globals && globals_small t.globals) first;
      globals = both_hold_first (list_all (global_sound t.structs) t.globals) (globals_small t.globals) (both_hold_second (structs_sound t.structs 0 t.structs) (list_all (global_sound t.structs) t.globals && globals_small t.globals) first);
      functions = both_hold_first (list_all (function_sound t) t.functions) (names_sound (map name_of t.functions) && list_any is_start t.functions) (both_hold_first (list_all (function_sound t) t.functions && (names_sound (map name_of t.functions) && list_any is_start t.functions)) (list_all (numbers_sound t) t.functions && nat_lt (nodes_of t) (2 ^ 28)) second);
    }

plain_type : (n : ℕ) (ty : VarTy) → is_plain_type n ty ≡ true → is_pointer ty ≡ false
plain_type n (Int t) h = refl
plain_type n (Struct k) h = refl
plain_type n (Array elem count) h = refl
plain_type n (Pointer elem fixed) h = false_not_true h

-- ---- fields

struct_at : (structs rest : List StructInfo) (earlier k : ℕ) (s : StructInfo) → structs_sound structs earlier rest ≡ true → slice_get rest k ≡ Some s → (n : ℕ) × (struct_sound structs n s ≡ true)
struct_at structs [] earlier k s h is = cc
struct_at structs (x ∷ rest) earlier zero s h is = (earlier, subst (λ z. struct_sound structs earlier z ≡ true) (same is) (both_hold_first (struct_sound structs earlier x) (structs_sound structs (suc earlier) rest) h))
  where
    same : Some x ≡ Some s → x ≡ s
    same e = cc
struct_at structs (x ∷ rest) earlier (suc k) s h is = struct_at structs rest (suc earlier) k s (both_hold_second (struct_sound structs earlier x) (structs_sound structs (suc earlier) rest) h) is

pub fields_are_plain : (structs : List StructInfo) → structs_sound structs 0 structs ≡ true → FieldsArePlain structs
fields_are_plain structs h k j ty is = at_struct (slice_get structs k) refl is
  where
    at_field : (s : StructInfo) (n : ℕ) → struct_sound structs n s ≡ true → (o : Option Field) → slice_get s.fields j ≡ o → option_map (λ x. x.ty) o ≡ Some ty → is_pointer ty ≡ false
    at_field s n sound None e is = cc
    at_field s n sound (Some x) e is =
        let fits = all_true_at (field_sound structs n) s.fields j x (both_hold_second (nat_le 1 (length s.fields)) (list_all (field_sound structs n) s.fields) sound) e in
        subst (λ z. is_pointer z ≡ false) (same is) (plain_type n x.ty (both_hold_first (is_plain_type n x.ty) (is_small structs x.ty) fits))
      where
        same : Some x.ty ≡ Some ty → x.ty ≡ ty
        same e = cc

    at_struct : (o : Option StructInfo) → slice_get structs k ≡ o → option_and_then (λ s. option_map (λ x. x.ty) (slice_get s.fields j)) o ≡ Some ty → is_pointer ty ≡ false
    at_struct None e is = cc
    at_struct (Some s) e is = let there = struct_at structs structs 0 k s h e in at_field s there.0 there.1 (slice_get s.fields j) refl is

-- ---- globals

pub globals_are_plain : (structs : List StructInfo) (globals : List TypedGlobal) (g : ℕ) (ty : VarTy) → list_all (global_sound structs) globals ≡ true → slice_get (map (λ (x : TypedGlobal). x.var.ty) globals) g ≡ Some ty → is_pointer ty ≡ false
globals_are_plain structs [] g ty h is = cc
globals_are_plain structs (x ∷ xs) zero ty h is =
    let sound = both_hold_first (is_plain_type (length structs) x.var.ty && is_small structs x.var.ty) (is_none x.var.holds && cells_fit (leaves_of structs x.var.ty) x.cells) (both_hold_first (global_sound structs x) (list_all (global_sound structs) xs) h) in
    subst (λ z. is_pointer z ≡ false) (same is) (plain_type (length structs) x.var.ty (both_hold_first (is_plain_type (length structs) x.var.ty) (is_small structs x.var.ty) sound))
  where
    same : Some x.var.ty ≡ Some ty → x.var.ty ≡ ty
    same e = cc
globals_are_plain structs (x ∷ xs) (suc g) ty h is = globals_are_plain structs xs g ty (both_hold_second (global_sound structs x) (list_all (global_sound structs) xs) h) is
