-- The structs of a program that is well formed are there.
use Rattle.std.proofs.Common.{◌≡◌, refl, ℕ, suc, true, List, [], ◌∷◌, length, Some}
use Rattle.std.specs.Prelude.{nat_le}
use Rattle.std.specs.List.{list_all}
use Rattle.std.proofs.lemmas.Bool.{and_from}
use Rattle.pt_base.proofs.Booleans.{and_true_first, and_true_second}
use Rattle.pt_tree.specs.declared.signature.Elem.{Elem}
use Rattle.pt_tree.specs.declared.signature.Elem.TheVariants as e
use Rattle.pt_tree.specs.declared.signature.Param.{Param}
use Rattle.pt_tree.specs.declared.signature.ParamKind.{ParamKind}
use Rattle.pt_tree.specs.declared.signature.ParamKind.TheVariants as kind
use Rattle.typed_tree.specs.declared.types.Field.{Field}
use Rattle.typed_tree.specs.declared.types.StructInfo.{StructInfo}
use Rattle.typed_tree.specs.declared.types.VarTy.{VarTy}
use Rattle.typed_tree.specs.declared.types.VarTy.TheVariants.{Int, Struct, Array, Pointer}
use Rattle.typed_tree.specs.WellFormed.{field_sound, is_plain_type, is_small, is_variable_type, struct_sound, structs_sound}
use Rattle.typed_tree.specs.WellFormedExpression as typed
use Rattle.marshalling.specs.Laws.{StructsStand}
use Rattle.marshalling.specs.Leaves.{is_elem, is_object, is_pointee, name_earlier}

element_stands : (n : ℕ) (elem : Elem) → typed.is_elem n (Some elem) ≡ true → is_elem n elem ≡ true
element_stands n (e.Int t) h = refl
element_stands n (e.Struct m) h = h

object_stands : (n : ℕ) (ty : VarTy) → is_plain_type n ty ≡ true → is_object n ty ≡ true
object_stands n (Int t) h = refl
object_stands n (Struct m) h = h
object_stands n (Array elem count) h = element_stands n elem (and_true_first (typed.is_elem n (Some elem)) (nat_le 1 count) h)
object_stands n (Pointer elem fixed) h = refl

fields_stand : (structs : List StructInfo) (n : ℕ) (fs : List Field) → list_all (field_sound structs n) fs ≡ true
    → list_all (λ f. is_object n f.ty) fs ≡ true
fields_stand structs n [] h = refl
fields_stand structs n (f ∷ fs) h =
    let here = and_true_first (field_sound structs n f) (list_all (field_sound structs n) fs) h in
    and_from (is_object n f.ty) (list_all (λ f. is_object n f.ty) fs)
    (object_stands n f.ty (and_true_first (is_plain_type n f.ty) (is_small structs f.ty) here))
    (fields_stand structs n fs (and_true_second (field_sound structs n f) (list_all (field_sound structs n) fs) h))

earlier_stand : (structs : List StructInfo) (n : ℕ) (ss : List StructInfo) → structs_sound structs n ss ≡ true → name_earlier n ss ≡ true
earlier_stand structs n [] h = refl
earlier_stand structs n (s ∷ ss) h =
    let here = and_true_first (struct_sound structs n s) (structs_sound structs (suc n) ss) h in
    and_from (list_all (λ f. is_object n f.ty) s.fields) (name_earlier (suc n) ss)
    (fields_stand structs n s.fields (and_true_second (nat_le 1 (length s.fields)) (list_all (field_sound structs n) s.fields) here))
    (earlier_stand structs (suc n) ss (and_true_second (struct_sound structs n s) (structs_sound structs (suc n) ss) h))

pointee_stands : (n : ℕ) (k : ParamKind) → is_variable_type n (typed.param_type k) ≡ true → is_pointee n k ≡ true
pointee_stands n (kind.Int t) h = refl
pointee_stands n (kind.Ptr elem fixed) h = element_stands n elem h

pointees_stand : (n : ℕ) (params : List Param) → list_all (λ p. is_variable_type n (typed.param_type p.kind)) params ≡ true
    → list_all (λ p. is_pointee n p.kind) params ≡ true
pointees_stand n [] h = refl
pointees_stand n (p ∷ params) h =
    and_from (is_pointee n p.kind) (list_all (λ p. is_pointee n p.kind) params)
    (pointee_stands n p.kind
    (and_true_first (is_variable_type n (typed.param_type p.kind)) (list_all (λ p. is_variable_type n (typed.param_type p.kind)) params) h))
    (pointees_stand n params
    (and_true_second (is_variable_type n (typed.param_type p.kind)) (list_all (λ p. is_variable_type n (typed.param_type p.kind)) params) h))

pub structs_stand : StructsStand
structs_stand structs params sound fit =
    and_from (name_earlier 0 structs) (list_all (λ p. is_pointee (length structs) p.kind) params) (earlier_stand structs 0 structs sound)
    (pointees_stand (length structs) params fit)
