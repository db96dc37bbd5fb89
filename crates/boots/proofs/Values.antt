-- Types, objects, signatures and hosts are read as they were written.
use Rattle.std.proofs.Common.{◌≡◌, ℕ, zero, suc, List, [], ◌∷◌, ◌++◌, Option, Some, None, inl, refl, sym, ap}
use Rattle.std.specs.Prelude.{IfSome, Ok, slice_get}
use Rattle.pt_base.specs.declared.span.Span.{Span}
use Rattle.pt_int.specs.declared.operator.BinOp.{BinOp}
use Rattle.pt_int.specs.declared.operator.BinOp.TheVariants as binary
use Rattle.pt_int.specs.declared.operator.UnOp.{UnOp}
use Rattle.pt_int.specs.declared.operator.UnOp.TheVariants as unary
use Rattle.pt_tree.specs.declared.signature.Elem.{Elem}
use Rattle.pt_tree.specs.declared.signature.Elem.TheVariants as elem
use Rattle.pt_tree.specs.declared.signature.ParamKind.{ParamKind}
use Rattle.pt_tree.specs.declared.signature.ParamKind.TheVariants as param
use Rattle.pt_tree.specs.declared.signature.Param.{Param}
use Rattle.pt_tree.specs.declared.signature.Signature.{Signature}
use Rattle.pt_tree.specs.declared.row.Row.{Row}
use Rattle.pt_tree.specs.declared.host_model.HostModel.{HostModel}
use Rattle.pt_tree.specs.declared.host_model.HostModel.TheVariants as model
use Rattle.typed_tree.specs.declared.types.VarTy.{VarTy}
use Rattle.typed_tree.specs.declared.types.VarTy.TheVariants as ty
use Rattle.typed_tree.specs.declared.types.Field.{Field}
use Rattle.typed_tree.specs.declared.types.StructInfo.{StructInfo}
use Rattle.typed_tree.specs.declared.variable.Var.{Var}
use Rattle.pt_core.specs.CodeTree.{GlobalTree}
use Rattle.wire.specs.Spelling.{type_byte}
use Rattle.wire.specs.Reading.{types, type_of}
use Rattle.wire.proofs.Bytes.{AreBytes}
use Rattle.wire.proofs.Fields.{Takes, type_is, type_again}
use Rattle.boot_fields.specs.Spelling.{int_type_bytes, span_bytes, elem_bytes, type_bytes, field_bytes, struct_bytes, variable_bytes, param_kind_bytes, param_bytes, signature_bytes, numbers_bytes, row_bytes, model_bytes, unary_byte, binary_byte, global_bytes}
use Rattle.boot_fields.specs.Limits.{FitsSpan, FitsElem, FitsVarTy, FitsField, FitsStruct, FitsVar, FitsParamKind, FitsParam, FitsSignature, FitsNumbers, FitsRow, FitsModel, FitsGlobal}
use Rattle.boot_fields.specs.Reading.{int_type_at, span_at, elem_at, type_at, field_at, struct_at, variable_at, param_kind_at, param_at, signature_at, numbers_at, row_at, model_at, unary_ops, binary_ops, unary_op_at, binary_op_at, global_at}
use Rattle.boot_fields.proofs.Parts.{Again, IsPart, Flat, Same, some_is, part_fits, both_part, mapped_part, variant_takes, variant_again, bare_takes, number32_part, number64_part, signed128_part, truth_part, text_part, flat_list, flat_option, one_of_part}

pub int_type_part : IsPart Same Flat int_type_bytes int_type_at
unfolding int_type_at type_of
int_type_part = one_of_part types type_byte type_is type_again

pub span_part : IsPart FitsSpan Flat span_bytes span_at
unfolding span_at
span_part = part_fits (λ x h. h) (λ x h. h) (λ x h. (tt, tt)) (mapped_part (λ p. record { from = p.0; to = p.1 }) (λ (s : Span). (s.from, s.to)) (λ x. refl) (λ y. refl) (both_part number32_part number32_part))

-- ---- elements and types

elem_takes : (bytes : List ℕ) (found : Elem × List ℕ) → AreBytes bytes → elem_at bytes ≡ Ok found → Takes bytes (elem_bytes found.0) found.1 × FitsElem found.0
unfolding elem_at
elem_takes [] found fits e = absurd cc
elem_takes (zero ∷ bytes) found fits e = variant_takes int_type_part elem.Int 0 elem_bytes FitsElem (λ x. refl) (λ x h. h) bytes found fits e
elem_takes (suc zero ∷ bytes) found fits e = variant_takes number32_part elem.Struct 1 elem_bytes FitsElem (λ x. refl) (λ x h. h) bytes found fits e
elem_takes (suc (suc b) ∷ bytes) found fits e = absurd cc

elem_again : (x : Elem) (rest : List ℕ) → FitsElem x → Again Flat x rest (elem_at (elem_bytes x ++ rest))
unfolding elem_at
elem_again (elem.Int t) rest fits = variant_again int_type_part elem.Int Flat t rest tt (λ h. tt)
elem_again (elem.Struct n) rest fits = variant_again number32_part elem.Struct Flat n rest fits (λ h. tt)

pub elem_part : IsPart FitsElem Flat elem_bytes elem_at
elem_part = record { takes = elem_takes; again = elem_again }

type_takes : (bytes : List ℕ) (found : VarTy × List ℕ) → AreBytes bytes → type_at bytes ≡ Ok found → Takes bytes (type_bytes found.0) found.1 × FitsVarTy found.0
unfolding type_at
type_takes [] found fits e = absurd cc
type_takes (zero ∷ bytes) found fits e = variant_takes int_type_part ty.Int 0 type_bytes FitsVarTy (λ x. refl) (λ x h. h) bytes found fits e
type_takes (suc zero ∷ bytes) found fits e = variant_takes number32_part ty.Struct 1 type_bytes FitsVarTy (λ x. refl) (λ x h. h) bytes found fits e
type_takes (suc (suc zero) ∷ bytes) found fits e = variant_takes (both_part elem_part number32_part) (λ p. ty.Array p.0 p.1) 2 type_bytes FitsVarTy (λ x. refl) (λ x h. h) bytes found fits e
type_takes (suc (suc (suc zero)) ∷ bytes) found fits e = variant_takes (both_part elem_part truth_part) (λ p. ty.Pointer p.0 p.1) 3 type_bytes FitsVarTy (λ x. refl) (λ x h. h.0) bytes found fits e
type_takes (suc (suc (suc (suc b))) ∷ bytes) found fits e = absurd cc

type_again_is : (x : VarTy) (rest : List ℕ) → FitsVarTy x → Again Flat x rest (type_at (type_bytes x ++ rest))
unfolding type_at
type_again_is (ty.Int t) rest fits = variant_again int_type_part ty.Int Flat t rest tt (λ h. tt)
type_again_is (ty.Struct n) rest fits = variant_again number32_part ty.Struct Flat n rest fits (λ h. tt)
type_again_is (ty.Array item count) rest fits = variant_again (both_part elem_part number32_part) (λ p. ty.Array p.0 p.1) Flat (item, count) rest fits (λ h. (tt, tt))
type_again_is (ty.Pointer item fixed) rest fits = variant_again (both_part elem_part truth_part) (λ p. ty.Pointer p.0 p.1) Flat (item, fixed) rest (fits, tt) (λ h. (tt, tt))

pub type_part : IsPart FitsVarTy Flat type_bytes type_at
type_part = record { takes = type_takes; again = type_again_is }

-- ---- objects

pub field_part : IsPart FitsField Flat field_bytes field_at
unfolding field_at
field_part =
    part_fits (λ x h. (h.0, h.1.0)) (λ x h. (h.0, (h.1, tt))) (λ x h. (tt, (tt, tt)))
    (mapped_part (λ p. record { name = p.0; ty = p.1.0; marked = p.1.1 }) (λ (f : Field). (f.name, (f.ty, f.marked))) (λ x. refl) (λ y. refl) (both_part text_part (both_part type_part truth_part)))

pub struct_part : IsPart FitsStruct Flat struct_bytes struct_at
unfolding struct_at
struct_part =
    part_fits (λ x h. h) (λ x h. h) (λ x h. (tt, tt))
    (mapped_part (λ p. record { name = p.0; fields = p.1 }) (λ (s : StructInfo). (s.name, s.fields)) (λ x. refl) (λ y. refl) (both_part text_part (flat_list field_part)))

pub variable_part : IsPart FitsVar Flat variable_bytes variable_at
unfolding variable_at
variable_part =
    part_fits (λ x h. (h.0, (h.1.0, (h.1.1.0, h.1.1.1.1.1)))) (λ x h. (h.0, (h.1.0, (h.1.1.0, (tt, (tt, h.1.1.1)))))) (λ x h. (tt, (tt, (tt, (tt, (tt, tt))))))
    (mapped_part (λ p. record { name = p.0; span = p.1.0; ty = p.1.1.0; marked = p.1.1.1.0; unpriv = p.1.1.1.1.0; holds = p.1.1.1.1.1 })
    (λ (x : Var). (x.name, (x.span, (x.ty, (x.marked, (x.unpriv, x.holds)))))) (λ x. refl) (λ y. refl)
    (both_part text_part (both_part span_part (both_part type_part (both_part truth_part (both_part truth_part (flat_option span_part)))))))

-- ---- signatures

param_kind_takes : (bytes : List ℕ) (found : ParamKind × List ℕ) → AreBytes bytes → param_kind_at bytes ≡ Ok found → Takes bytes (param_kind_bytes found.0) found.1 × FitsParamKind found.0
unfolding param_kind_at
param_kind_takes [] found fits e = absurd cc
param_kind_takes (zero ∷ bytes) found fits e = variant_takes int_type_part param.Int 0 param_kind_bytes FitsParamKind (λ x. refl) (λ x h. h) bytes found fits e
param_kind_takes (suc zero ∷ bytes) found fits e = variant_takes (both_part elem_part truth_part) (λ p. param.Ptr p.0 p.1) 1 param_kind_bytes FitsParamKind (λ x. refl) (λ x h. h.0) bytes found fits e
param_kind_takes (suc (suc b) ∷ bytes) found fits e = absurd cc

param_kind_again : (x : ParamKind) (rest : List ℕ) → FitsParamKind x → Again Flat x rest (param_kind_at (param_kind_bytes x ++ rest))
unfolding param_kind_at
param_kind_again (param.Int t) rest fits = variant_again int_type_part param.Int Flat t rest tt (λ h. tt)
param_kind_again (param.Ptr item fixed) rest fits = variant_again (both_part elem_part truth_part) (λ p. param.Ptr p.0 p.1) Flat (item, fixed) rest (fits, tt) (λ h. (tt, tt))

param_kind_part : IsPart FitsParamKind Flat param_kind_bytes param_kind_at
param_kind_part = record { takes = param_kind_takes; again = param_kind_again }

pub param_part : IsPart FitsParam Flat param_bytes param_at
unfolding param_at
param_part =
    part_fits (λ x h. h.0) (λ x h. (h, (tt, tt))) (λ x h. (tt, (tt, tt)))
    (mapped_part (λ p. record { kind = p.0; marked = p.1.0; declassify = p.1.1 }) (λ (x : Param). (x.kind, (x.marked, x.declassify))) (λ x. refl) (λ y. refl)
    (both_part param_kind_part (both_part truth_part truth_part)))

any_fits : {A : Type 0} (o : Option A) → IfSome o (Same {A = A})
any_fits None = tt
any_fits (Some x) = tt

pub signature_part : IsPart FitsSignature Flat signature_bytes signature_at
unfolding signature_at
signature_part =
    part_fits (λ x h. (h.0, h.1.1.0)) (λ x h. (h.0, (any_fits x.result, (h.1, (tt, (tt, tt)))))) (λ x h. (tt, (tt, (tt, (tt, (tt, tt))))))
    (mapped_part (λ p. record { name = p.0; result = p.1.0; params = p.1.1.0; host = p.1.1.1.0; privileged = p.1.1.1.1.0; declassify = p.1.1.1.1.1 })
    (λ (s : Signature). (s.name, (s.result, (s.params, (s.host, (s.privileged, s.declassify)))))) (λ x. refl) (λ y. refl)
    (both_part text_part (both_part (flat_option int_type_part) (both_part (flat_list param_part) (both_part truth_part (both_part truth_part truth_part))))))

-- ---- hosts

pub numbers_part : IsPart FitsNumbers Flat numbers_bytes numbers_at
unfolding numbers_at
numbers_part = flat_list signed128_part

row_part : IsPart FitsRow Flat row_bytes row_at
unfolding row_at
row_part =
    part_fits (λ x h. h) (λ x h. h) (λ x h. (tt, tt))
    (mapped_part (λ p. record { args = p.0; result = p.1 }) (λ (r : Row). (r.args, r.result)) (λ x. refl) (λ y. refl) (both_part numbers_part signed128_part))

model_takes : (bytes : List ℕ) (found : HostModel × List ℕ) → AreBytes bytes → model_at bytes ≡ Ok found → Takes bytes (model_bytes found.0) found.1 × FitsModel found.0
unfolding model_at
model_takes [] found fits e = absurd cc
model_takes (zero ∷ bytes) found fits e = variant_takes (both_part (flat_list row_part) signed128_part) (λ p. model.Table p.0 p.1) 0 model_bytes FitsModel (λ x. refl) (λ x h. h) bytes found fits e
model_takes (suc zero ∷ bytes) found fits e = variant_takes (both_part numbers_part (both_part signed128_part number64_part)) (λ p. model.Feed p.0 p.1.0 p.1.1) 1 model_bytes FitsModel (λ x. refl) (λ x h. h) bytes found fits e
model_takes (suc (suc zero) ∷ bytes) found fits e = variant_takes number64_part model.Input 2 model_bytes FitsModel (λ x. refl) (λ x h. h) bytes found fits e
model_takes (suc (suc (suc zero)) ∷ bytes) found fits e = bare_takes model.Bytes 3 model_bytes FitsModel refl tt bytes found fits e
model_takes (suc (suc (suc (suc zero))) ∷ bytes) found fits e = variant_takes text_part model.Line 4 model_bytes FitsModel (λ x. refl) (λ x h. h) bytes found fits e
model_takes (suc (suc (suc (suc (suc b)))) ∷ bytes) found fits e = absurd cc

model_again : (x : HostModel) (rest : List ℕ) → FitsModel x → Again Flat x rest (model_at (model_bytes x ++ rest))
unfolding model_at
model_again (model.Table rows other) rest fits = variant_again (both_part (flat_list row_part) signed128_part) (λ p. model.Table p.0 p.1) Flat (rows, other) rest fits (λ h. (tt, tt))
model_again (model.Feed values other next) rest fits = variant_again (both_part numbers_part (both_part signed128_part number64_part)) (λ p. model.Feed p.0 p.1.0 p.1.1) Flat (values, (other, next)) rest fits (λ h. (tt, (tt, tt)))
model_again (model.Input next) rest fits = variant_again number64_part model.Input Flat next rest fits (λ h. tt)
model_again model.Bytes rest fits = inl refl
model_again (model.Line name) rest fits = variant_again text_part model.Line Flat name rest fits (λ h. tt)

pub model_part : IsPart FitsModel Flat model_bytes model_at
model_part = record { takes = model_takes; again = model_again }

pub global_part : IsPart FitsGlobal Flat global_bytes global_at
unfolding global_at
global_part =
    part_fits (λ x h. h) (λ x h. h) (λ x h. (tt, (tt, tt)))
    (mapped_part (λ p. record { id = p.0; var = p.1.0; cells = p.1.1 }) (λ (g : GlobalTree). (g.id, (g.var, g.cells))) (λ x. refl) (λ y. refl)
    (both_part number32_part (both_part variable_part numbers_part)))

-- ---- operators

unary_is : (n : ℕ) (op : UnOp) → slice_get unary_ops n ≡ Some op → unary_byte op ≡ n
unary_is zero op e = ap unary_byte (sym (some_is unary.Minus op e))
unary_is (suc zero) op e = ap unary_byte (sym (some_is unary.Plus op e))
unary_is (suc (suc zero)) op e = ap unary_byte (sym (some_is unary.Flip op e))
unary_is (suc (suc (suc zero))) op e = ap unary_byte (sym (some_is unary.Not op e))
unary_is (suc (suc (suc (suc n)))) op e = absurd cc

unary_back : (op : UnOp) → slice_get unary_ops (unary_byte op) ≡ Some op
unary_back unary.Minus = refl
unary_back unary.Plus = refl
unary_back unary.Flip = refl
unary_back unary.Not = refl

pub unary_part : IsPart Same Flat (λ op. unary_byte op ∷ []) unary_op_at
unfolding unary_op_at
unary_part = one_of_part unary_ops unary_byte unary_is unary_back

binary_is : (n : ℕ) (op : BinOp) → slice_get binary_ops n ≡ Some op → binary_byte op ≡ n
binary_is zero op e = ap binary_byte (sym (some_is binary.Mul op e))
binary_is (suc zero) op e = ap binary_byte (sym (some_is binary.Div op e))
binary_is (suc (suc zero)) op e = ap binary_byte (sym (some_is binary.Rem op e))
binary_is (suc (suc (suc zero))) op e = ap binary_byte (sym (some_is binary.Add op e))
binary_is (suc (suc (suc (suc zero)))) op e = ap binary_byte (sym (some_is binary.Sub op e))
binary_is (suc (suc (suc (suc (suc zero))))) op e = ap binary_byte (sym (some_is binary.Shl op e))
binary_is (suc (suc (suc (suc (suc (suc zero)))))) op e = ap binary_byte (sym (some_is binary.Shr op e))
binary_is (suc (suc (suc (suc (suc (suc (suc zero))))))) op e = ap binary_byte (sym (some_is binary.Lt op e))
binary_is (suc (suc (suc (suc (suc (suc (suc (suc zero)))))))) op e = ap binary_byte (sym (some_is binary.Gt op e))
binary_is (suc (suc (suc (suc (suc (suc (suc (suc (suc zero))))))))) op e = ap binary_byte (sym (some_is binary.Le op e))
binary_is (suc (suc (suc (suc (suc (suc (suc (suc (suc (suc zero)))))))))) op e = ap binary_byte (sym (some_is binary.Ge op e))
binary_is (suc (suc (suc (suc (suc (suc (suc (suc (suc (suc (suc zero))))))))))) op e = ap binary_byte (sym (some_is binary.Eq op e))
binary_is (suc (suc (suc (suc (suc (suc (suc (suc (suc (suc (suc (suc zero)))))))))))) op e = ap binary_byte (sym (some_is binary.Ne op e))
binary_is (suc (suc (suc (suc (suc (suc (suc (suc (suc (suc (suc (suc (suc zero))))))))))))) op e = ap binary_byte (sym (some_is binary.And op e))
binary_is (suc (suc (suc (suc (suc (suc (suc (suc (suc (suc (suc (suc (suc (suc zero)))))))))))))) op e = ap binary_byte (sym (some_is binary.Xor op e))
binary_is (suc (suc (suc (suc (suc (suc (suc (suc (suc (suc (suc (suc (suc (suc (suc zero))))))))))))))) op e = ap binary_byte (sym (some_is binary.Or op e))
binary_is (suc (suc (suc (suc (suc (suc (suc (suc (suc (suc (suc (suc (suc (suc (suc (suc n)))))))))))))))) op e = absurd cc

binary_back : (op : BinOp) → slice_get binary_ops (binary_byte op) ≡ Some op
binary_back binary.Mul = refl
binary_back binary.Div = refl
binary_back binary.Rem = refl
binary_back binary.Add = refl
binary_back binary.Sub = refl
binary_back binary.Shl = refl
binary_back binary.Shr = refl
binary_back binary.Lt = refl
binary_back binary.Gt = refl
binary_back binary.Le = refl
binary_back binary.Ge = refl
binary_back binary.Eq = refl
binary_back binary.Ne = refl
binary_back binary.And = refl
binary_back binary.Xor = refl
binary_back binary.Or = refl

pub binary_part : IsPart Same Flat (λ op. binary_byte op ∷ []) binary_op_at
unfolding binary_op_at
binary_part = one_of_part binary_ops binary_byte binary_is binary_back
