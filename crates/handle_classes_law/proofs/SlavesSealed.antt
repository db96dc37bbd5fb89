-- What comes back sealed may be written where it comes.
use Rattle.std.proofs.Common.{◌≡◌, ◌∙◌, ◌<◌, ℕ, ◌+◌, refl, ap, sym, subst, Bool, true, false, Some, if◌then◌else◌}
use Rattle.std.specs.Prelude.{get_or, is_some, not, slice_get, ◌&&◌, ◌||◌}
use Rattle.std.specs.Option.{option_map_or}
use Rattle.pt_base.proofs.Booleans.{both_hold as and_both, false_not_true}
use Rattle.pt_base.proofs.Members.{all_true_at}
use Rattle.handle_classes.specs.Classes.{Class, integer_class}
use Rattle.handle_classes_law.specs.ObjectsCells.{is_pointer, leaf_under}
use Rattle.pt_core.specs.Types.{pointee_type}
use Rattle.pt_tree.specs.declared.signature.Param.{Param}
use Rattle.pt_tree.specs.declared.signature.ParamKind.{ParamKind}
use Rattle.sides.proofs.StandLemmas.{objects_stand}
use Rattle.reach.specs.Contexts.{is_plain}
use Rattle.sides.specs.Leaves.{leaf_count, leaves_of, whole}
use Rattle.sides.specs.Objects.{variable_objects}
use Rattle.sides.specs.Seeds.{gives_back, is_out, is_sealed_leaf, seals_all}
use Rattle.sides.specs.Slots.{slot_at}
use Rattle.sides.specs.declared.objects.Object.{Object}
use Rattle.sides.specs.declared.slots.SlotInfo.{SlotInfo}
use Rattle.typed_tree.proofs.WellFormedLemmas.{facts_of}
use Rattle.pt_tree.specs.declared.signature.ParamKind.TheVariants as kind
use Rattle.typed_tree.specs.TypedTree.{TypedTree}
use Rattle.typed_tree.specs.WellFormed.{function_sound}
use Rattle.typed_tree.specs.WellFormedExpression.{param_type}
use Rattle.typed_tree.specs.declared.types.VarTy.{VarTy}
use Rattle.handle_classes_law.proofs.SlavesArguments.{Callee, ParamObject, param_object}
use Rattle.handle_classes_law.proofs.SlavesMoves.{own_leaf}
use Rattle.handle_classes_law.specs.SlavesLaws.{SealedCells}
use Rattle.handle_classes_law.specs.SlavesMarked.{entry_by, entry_class, host_class, param_class, param_in, variable_class}

-- a parameter through which something comes back is a pointer
out_pointer : (d : ParamKind) → is_out d ≡ true → is_pointer (param_type d) ≡ true
out_pointer (kind.Int t) h = false_not_true h
out_pointer (kind.Ptr elem fixed) h = refl

-- of a leaf of a parameter's object the slot has the mark
leaf_marked : (t : TypedTree) (f n l : ℕ) (o : Object) → slice_get (variable_objects t f) n ≡ Some o → l < leaf_count t.structs o.ty → (slot_at t (o.start + l)).marked ≡ (get_or (leaves_of t.structs o.ty) l whole).marked
leaf_marked t f n l o is less = ap (λ (z : SlotInfo). z.marked) ((objects_stand t).variables f n o is l less)

pub sealed_cells : SealedCells
sealed_cells m t sound f n j x p here secret param out less sealed =
    subst (λ (c : Class). c.must j ≡ true) (sym class) (and_both (is_pointer ty) (gives_back (slice_get t.functions f) n && option_map_or (λ o. is_sealed_leaf t (record { 0 = f }) n o leaf) (slice_get (variable_objects t f) n) false) (out_pointer p.kind out)
    (and_both (gives_back (slice_get t.functions f) n) (option_map_or (λ o. is_sealed_leaf t (record { 0 = f }) n o leaf) (slice_get (variable_objects t f) n) false) gives
    (ap (λ z. option_map_or (λ o. is_sealed_leaf t (record { 0 = f }) n o leaf) z false) own.object ∙ seals)))
  where
    ty : VarTy
    ty = param_type p.kind

    leaf : ℕ
    leaf = leaf_under t.structs (pointee_type ty) j

    callee : Callee t f n p
    callee = record { tree = x; at = here; param = param; sound = all_true_at (function_sound t) t.functions f x (facts_of t sound).functions here }

    own : ParamObject t f n p x.vars
    own = param_object t f n p callee

    other : is_plain x ≡ false
    other = go (is_some x.body)
      where
        go : (c : Bool) → (c && not x.signature.privileged) ≡ false
        go true = ap not secret
        go false = refl

    class : param_class m t f n ≡ entry_by t f n p.marked ty
    class = ap (λ z. option_map_or (λ y. param_in m t f y n) z (integer_class false)) here
        ∙ ap (λ z. if z then variable_class m t f n else option_map_or (λ y. if x.signature.privileged then entry_class t f n y else host_class m t f x n y) (slice_get x.signature.params n) (integer_class false)) other
        ∙ ap (λ z. option_map_or (λ y. if x.signature.privileged then entry_class t f n y else host_class m t f x n y) z (integer_class false)) param
        ∙ ap (λ z. if z then entry_class t f n p else host_class m t f x n p) secret

    inside : leaf < leaf_count t.structs ty
    inside = own_leaf t.structs ty j (facts_of t sound).structs own.known (subst (λ (c : Class). j < c.size) class less)

    gives : gives_back (slice_get t.functions f) n ≡ true
    gives = ap (λ z. gives_back z n) here ∙ and_both x.signature.privileged (option_map_or (λ (y : Param). is_out y.kind) (slice_get x.signature.params n) false) secret (ap (λ z. option_map_or (λ (y : Param). is_out y.kind) z false) param ∙ out)

    all_sealed : seals_all (slice_get t.functions f) n ≡ (p.marked && not p.declassify)
    all_sealed = ap (λ z. seals_all z n) here ∙ ap (λ z. option_map_or (λ (y : Param). y.marked && not y.declassify) z false) param

    seals : is_sealed_leaf t (record { 0 = f }) n (record { ty = ty; start = own.start }) leaf ≡ true
    seals = ap (λ z. z || (slot_at t (own.start + leaf)).marked) all_sealed ∙ ap (λ z. (p.marked && not p.declassify) || z) (leaf_marked t f n leaf (record { ty = ty; start = own.start }) own.object inside) ∙ sealed
