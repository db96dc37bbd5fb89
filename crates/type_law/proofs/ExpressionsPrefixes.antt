-- Operators before an operand, and casts, without a fault.
use Rattle.std.proofs.Common.{◌≡◌, ◌∙◌, ℕ, refl, ap, sym, subst, [], ◌∷◌, Bool, true, false, Option, Some, None, if◌then◌else◌}
use Rattle.std.specs.Prelude.{IsTrue, ◌&&◌, ◌||◌}
use Rattle.std.proofs.lemmas.Bool.{or_from}
use Rattle.pt_base.specs.declared.span.Span.{Span}
use Rattle.pt_base.specs.IntTypes.{promoted}
use Rattle.pt_base.specs.declared.int_type.IntType.{IntType}
use Rattle.pt_base.specs.declared.int_type.IntType.TheVariants as int
use Rattle.pt_base.proofs.Booleans.{both_hold, not_or_self, true_and_false}
use Rattle.pt_int.specs.declared.operator.UnOp.{UnOp}
use Rattle.pt_int.specs.declared.operator.UnOp.TheVariants.{Minus, Plus, Flip, Not}
use Rattle.pt_tree.specs.declared.operator.PrefixOp.{PrefixOp}
use Rattle.pt_tree.specs.declared.operator.PrefixOp.TheVariants as op
use Rattle.pt_tree.specs.declared.signature.Elem.{Elem}
use Rattle.pt_tree.specs.declared.signature.Elem.TheVariants as elem
use Rattle.type_rules.specs.declared.types.Type.{«Type»}
use Rattle.type_rules.specs.declared.types.Type.TheVariants.{Bad, Void, Int, Struct, Array, Pointer}
use Rattle.type_rules.specs.declared.conversions.CastRule.TheVariants as cast
use Rattle.type_rules.specs.Conversions as conversion
use Rattle.type_rules.specs.Conversions.{cast_rule}
use Rattle.type_rules.specs.Operators.{promoted_rule, not_rule, step_rule, deref_rule}
use Rattle.type_rules.specs.Types.{is_bad, elem_type, value_type}
use Rattle.typed_tree.specs.declared.types.VarTy.TheVariants as v
use Rattle.typed_tree.specs.ExpressionTree.{ExprTree, typed, place, step_trees}
use Rattle.typed_tree.specs.TypeTests as test
use Rattle.typed_tree.specs.TypeRules.{is_same_promoted, converts}
use Rattle.typed_tree.specs.WellFormedExpression.{Names, is_typed, ty_of, is_elem, place_fits, place_type, place_const, is_object, is_written, is_addressed}
use Rattle.check_declarations.specs.declared.fault.FaultKind.{FaultKind}
use Rattle.check_declarations.specs.declared.fault.FaultKind.TheVariants.{NotLvalue}
use Rattle.check_declarations.specs.Faults.{fault_at}
use Rattle.check_declarations.specs.Objects.{is_struct}
use Rattle.check_declarations.specs.Structs.{Structs}
use Rattle.check_expressions.specs.Conversions.{to_int, as_type}
use Rattle.check_expressions.specs.Operands.{Elaboration, value, object, pointed, moved, element, Known, var_type, root_of, steps_of, place_of, value_of, value_tree, plain, fine, refused}
use Rattle.check_expressions.specs.Prefixes.{unary_rule_of, unary_operand, computed_by, computed, points_to_const, dereferenced_by, dereferenced, address_tree, address_of, address_of_pointer, addressed_as, addressed, step_tree, stepped_by, stepped, prefixed, cast_target, cast_by, cast_to}
use Rattle.check_expressions.specs.Targets.{optional_fault, target_fault}
use Rattle.type_law.specs.DeclarationsTypes.{is_good, is_base, is_variable}
use Rattle.type_law.specs.ExpressionsLaws.{Fitted}
use Rattle.type_law.proofs.ExpressionsLists.{only_where}
use Rattle.type_law.proofs.ExpressionsSameTypes.{same_types-equal, promoted-promoted}
use Rattle.type_law.proofs.ExpressionsFits.{int_fits}
use Rattle.type_law.proofs.ExpressionsKnown.{SoundKnown, SoundTree, plain_sound, value_sound, designated_variable}
use Rattle.type_law.proofs.ExpressionsAssignments.{Target, target_sound, good_of}
use Rattle.type_law.proofs.ExpressionsMoves.{move_fits}
use Rattle.type_law.proofs.ExpressionsOutcomes.{good_known}
use Rattle.typed_tree.proofs.SameTypes.{elem_self, int_self}

-- ---- + - ~ !

promoted_operand : (n : Names) (t : IntType) (x : ExprTree) → Fitted n (Int (promoted t)) x → IsTrue (is_typed n x && is_same_promoted (ty_of x) (Some (v.Int (promoted t))))
unfolding var_type
promoted_operand n t x h = both_hold (is_typed n x) _ h.typed (ap (λ z. is_same_promoted z (Some (v.Int (promoted t)))) h.has ∙ both_hold (test.same_int (promoted t) (promoted t)) _ (int_self (promoted t)) (promoted-promoted t))

int_sound : (n : Names) (structs : ℕ) (t : IntType) (x : ExprTree) → IsTrue (is_typed n x) → ty_of x ≡ Some (v.Int t) → SoundKnown n structs (plain (Int t) x)
unfolding var_type
int_sound n structs t x h e = plain_sound n structs (Int t) x (record { typed = h; has = e }) refl refl (λ k. cc)

computed_at : (n : Names) (structs : ℕ) (o : UnOp) (s at : Span) (t : «Type») (x : ExprTree) → IsTrue (is_good structs t) → Fitted n t x → (computed_by (unary_rule_of o t) o s at x).faults ≡ [] → SoundKnown n structs (computed_by (unary_rule_of o t) o s at x).operand
unfolding unary_rule_of computed_by unary_operand promoted_rule not_rule as_type var_type
computed_at n structs Minus s at (Int t) x g h k = int_sound n structs (promoted t) _ (promoted_operand n t (to_int (promoted t) x) (int_fits n t (promoted t) x h)) refl
computed_at n structs Minus s at Bad x g h k = cc
computed_at n structs Minus s at Void x g h k = cc
computed_at n structs Minus s at (Struct m) x g h k = cc
computed_at n structs Minus s at (Array e c) x g h k = cc
computed_at n structs Minus s at (Pointer e f) x g h k = cc
computed_at n structs Plus s at (Int t) x g h k = int_sound n structs (promoted t) _ (promoted_operand n t (to_int (promoted t) x) (int_fits n t (promoted t) x h)) refl
computed_at n structs Plus s at Bad x g h k = cc
computed_at n structs Plus s at Void x g h k = cc
computed_at n structs Plus s at (Struct m) x g h k = cc
computed_at n structs Plus s at (Array e c) x g h k = cc
computed_at n structs Plus s at (Pointer e f) x g h k = cc
computed_at n structs Flip s at (Int t) x g h k = int_sound n structs (promoted t) _ (promoted_operand n t (to_int (promoted t) x) (int_fits n t (promoted t) x h)) refl
computed_at n structs Flip s at Bad x g h k = cc
computed_at n structs Flip s at Void x g h k = cc
computed_at n structs Flip s at (Struct m) x g h k = cc
computed_at n structs Flip s at (Array e c) x g h k = cc
computed_at n structs Flip s at (Pointer e f) x g h k = cc
computed_at n structs Not s at (Int t) x g h k = int_sound n structs int.Int _ (both_hold (is_typed n x) _ h.typed (both_hold (test.is_scalar (ty_of x)) true (ap test.is_scalar h.has) refl)) refl
computed_at n structs Not s at (Pointer e f) x g h k = int_sound n structs int.Int _ (both_hold (is_typed n x) _ h.typed (both_hold (test.is_scalar (ty_of x)) true (ap test.is_scalar h.has) refl)) refl
computed_at n structs Not s at Bad x g h k = cc
computed_at n structs Not s at Void x g h k = cc
computed_at n structs Not s at (Struct m) x g h k = cc
computed_at n structs Not s at (Array e c) x g h k = cc

pub computed_sound : (n : Names) (structs : ℕ) (o : UnOp) (s at : Span) (k : Known) → SoundKnown n structs k → (computed o s at k).faults ≡ [] → SoundKnown n structs (computed o s at k).operand
unfolding computed
computed_sound n structs o s at k h e =
    let w = value_sound n structs at k h in
    computed_at n structs o s at (value_of k).ty (value_tree at k) w.good (record { typed = w.typed; has = w.has }) e

-- ---- *

dereferenced_at : (n : Names) (structs : ℕ) (s at : Span) (t : «Type») (x : ExprTree) → IsTrue (is_good structs t) → Fitted n t x → (dereferenced_by (deref_rule t) (points_to_const t) s at x).faults ≡ [] → SoundKnown n structs (dereferenced_by (deref_rule t) (points_to_const t) s at x).operand
unfolding dereferenced_by deref_rule points_to_const
dereferenced_at n structs s at (Pointer e f) x g h k = record { tree = record { of = e; pointer = h; is = refl; good = g }; null = λ z. cc }
dereferenced_at n structs s at Bad x g h k = cc
dereferenced_at n structs s at Void x g h k = cc
dereferenced_at n structs s at (Int t) x g h k = cc
dereferenced_at n structs s at (Struct m) x g h k = cc
dereferenced_at n structs s at (Array e c) x g h k = cc

pub dereferenced_sound : (n : Names) (structs : ℕ) (s at : Span) (k : Known) → SoundKnown n structs k → (dereferenced s at k).faults ≡ [] → SoundKnown n structs (dereferenced s at k).operand
unfolding dereferenced
dereferenced_sound n structs s at k h e =
    let w = value_sound n structs at k h in
    dereferenced_at n structs s at (value_of k).ty (value_tree at k) w.good (record { typed = w.typed; has = w.has }) e

-- ---- &

same_of : (a b : Elem) → elem_type a ≡ elem_type b → a ≡ b
same_of (elem.Int s) (elem.Int t) h = cc
same_of (elem.Struct m) (elem.Struct k) h = cc
same_of (elem.Int s) (elem.Struct k) h = cc
same_of (elem.Struct m) (elem.Int t) h = cc

element_self : (e : Elem) → IsTrue (test.both_elem (test.element_of (var_type (elem_type e))) (Some e))
unfolding var_type
element_self (elem.Int t) = elem_self (elem.Int t)
element_self (elem.Struct m) = elem_self (elem.Struct m)

address_fits : (n : Names) (structs : ℕ) (s : Span) (e : Elem) (fixed designates : Bool) (t : Elaboration) → SoundTree n structs (elem_type e) fixed designates t → designates ≡ true → Fitted n (Pointer e fixed) (address_tree s e fixed t)
unfolding address_tree var_type root_of steps_of
address_fits n structs s e fixed designates (value x) h d = true_and_false designates d h.none
address_fits n structs s e fixed designates (object root steps) h d = record {
  typed = both_hold (place_fits n (place root (step_trees steps))) _ h.object.fits
      (both_hold (is_addressed (place root (step_trees steps))) _ (both_hold (is_object (place root (step_trees steps))) _ (h.written d) h.ends)
      (both_hold (test.both_elem (test.element_of (place_type n (place root (step_trees steps)))) (Some e)) _ (ap (λ z. test.both_elem (test.element_of z) (Some e)) h.object.has ∙ element_self e)
      (only_where (place_const n (place root (step_trees steps))) fixed h.object.kept)));
  has = refl;
}
address_fits n structs s e fixed designates (pointed x span) h d =
    let same = same_of h.of e h.is in
    record {
      typed = both_hold (is_typed n x) _ h.pointer.typed
          (ap (λ z. converts z (Some (v.Pointer e fixed))) h.pointer.has ∙ both_hold (test.same_elem h.of e) _ (ap (λ z. test.same_elem z e) same ∙ elem_self e) (not_or_self fixed));
      has = refl;
    }
address_fits n structs s e fixed designates (moved (typed span t f)) h d = record { typed = h.pointer.typed; has = h.pointer.has ∙ ap (λ z. Some (v.Pointer z fixed)) (same_of h.of e h.is) }
address_fits n structs s e fixed designates (element root steps at i span) h d =
    let same = same_of h.of e h.is in
    move_fits n s span e fixed false h.index (typed at (Some (v.Pointer e fixed)) _) i
    (record {
      typed = both_hold (place_fits n (place root (step_trees steps))) _ h.array.fits
          (both_hold (test.both_elem (test.item_of (place_type n (place root (step_trees steps)))) (Some e)) _ (ap (λ z. test.both_elem (test.item_of z) (Some e)) h.array.has ∙ ap (λ z. test.same_elem z e) same ∙ elem_self e)
          (only_where (place_const n (place root (step_trees steps))) fixed h.array.kept));
      has = refl;
    })
    h.at

elem_good : (structs : ℕ) (e : Elem) → IsTrue (is_variable structs (elem_type e)) → IsTrue (is_elem structs (Some e))
elem_good structs (elem.Int t) h = refl
elem_good structs (elem.Struct m) h = h

address_sound : (n : Names) (structs : ℕ) (s at : Span) (e : Elem) (k : Known) → SoundKnown n structs k → k.ty ≡ elem_type e → (address_of s at e k).faults ≡ [] → SoundKnown n structs (address_of s at e k).operand
unfolding address_of
address_sound n structs s at e k h is z = by_test k.designates refl z
  where
    by_test : (b : Bool) → k.designates ≡ b → (if b then fine (plain (Pointer e k.fixed) (address_tree s e k.fixed k.tree)) else refused (fault_at NotLvalue at ∷ [])).faults ≡ [] → SoundKnown n structs (if b then fine (plain (Pointer e k.fixed) (address_tree s e k.fixed k.tree)) else refused (fault_at NotLvalue at ∷ [])).operand
    by_test true d y =
        let t = subst (λ u. SoundTree n structs u k.fixed k.designates k.tree) is h.tree in
        let good = elem_good structs e (designated_variable n structs (elem_type e) k.fixed k.designates k.tree t d) in
        plain_sound n structs (Pointer e k.fixed) (address_tree s e k.fixed k.tree) (address_fits n structs s e k.fixed k.designates k.tree t d) good refl (λ q. cc)
    by_test false d y = cc

address_of_pointer_faults : {X : Type 0} (b : Bool) (s at : Span) → (address_of_pointer b s at).faults ≡ [] → X
unfolding address_of_pointer
address_of_pointer_faults true s at h = cc
address_of_pointer_faults false s at h = cc

pub addressed_sound : (n : Names) (structs : ℕ) (s at : Span) (k : Known) → SoundKnown n structs k → (addressed s at k).faults ≡ [] → SoundKnown n structs (addressed s at k).operand
unfolding addressed addressed_as
addressed_sound n structs s at k h z = by_type k.ty refl z
  where
    by_type : (t : «Type») → k.ty ≡ t → (addressed_as t s at k).faults ≡ [] → SoundKnown n structs (addressed_as t s at k).operand
    by_type Bad e y = let b : false ≡ true = sym (good_of n structs k h) ∙ ap is_bad e in cc
    by_type Void e y = cc
    by_type (Int t) e y = address_sound n structs s at (elem.Int t) k h e y
    by_type (Struct m) e y = address_sound n structs s at (elem.Struct m) k h e y
    by_type (Array e' c) e y = cc
    by_type (Pointer e' f) e y = address_of_pointer_faults k.designates s at y

-- ---- ++ and --

step_sound : (n : Names) (structs : ℕ) (s at : Span) (back postfix : Bool) (k : Known) (t : «Type») → Target n structs k → k.ty ≡ t → test.is_scalar (var_type t) ≡ true → IsTrue (is_good structs t) → value_type t false ≡ t → (is_struct t ≡ true → ⊥) → SoundKnown n structs (plain t (step_tree s t back postfix at k.tree))
step_sound n structs s at back postfix k t p e c g w ns =
    plain_sound n structs t (step_tree s t back postfix at k.tree)
    (record {
      typed = both_hold (place_fits n (place_of k.tree) && is_written n (place_of k.tree)) _ (both_hold (place_fits n (place_of k.tree)) _ p.fits p.written)
          (both_hold (test.same_types (place_type n (place_of k.tree)) (var_type t)) _ (same_types-equal _ _ (p.has ∙ ap var_type e)) c);
      has = refl;
    })
    g w (λ q. absurd (ns q))

stepped_at : (n : Names) (structs : ℕ) (s at : Span) (back postfix : Bool) (o : Option FaultKind) (k : Known) (t : «Type») → (o ≡ None → Target n structs k) → k.ty ≡ t → is_bad t ≡ false → (stepped_by o (step_rule t) s back postfix at k.tree).faults ≡ [] → SoundKnown n structs (stepped_by o (step_rule t) s back postfix at k.tree).operand
unfolding stepped_by step_rule optional_fault var_type
stepped_at n structs s at back postfix None k (Int t) p e b z = step_sound n structs s at back postfix k (Int t) (p refl) e refl refl refl (λ q. cc)
stepped_at n structs s at back postfix None k (Pointer e' f) p e b z =
    let target = p refl in
    let good : IsTrue (is_variable structs (Pointer e' f)) = subst (λ t. IsTrue (is_variable structs t)) e target.variable in
    step_sound n structs s at back postfix k (Pointer e' f) target e refl good refl (λ q. cc)
stepped_at n structs s at back postfix None k Bad p e b z = cc
stepped_at n structs s at back postfix None k Void p e b z = cc
stepped_at n structs s at back postfix None k (Struct m) p e b z = cc
stepped_at n structs s at back postfix None k (Array e' c) p e b z = cc
stepped_at n structs s at back postfix (Some x) k (Int t) p e b z = cc
stepped_at n structs s at back postfix (Some x) k (Pointer e' f) p e b z = cc
stepped_at n structs s at back postfix (Some x) k Bad p e b z = cc
stepped_at n structs s at back postfix (Some x) k Void p e b z = cc
stepped_at n structs s at back postfix (Some x) k (Struct m) p e b z = cc
stepped_at n structs s at back postfix (Some x) k (Array e' c) p e b z = cc

pub stepped_sound : (n : Names) (structs : Structs) (count : ℕ) (s : Span) (back postfix : Bool) (at : Span) (k : Known) → SoundKnown n count k → (stepped structs s back postfix at k).faults ≡ [] → SoundKnown n count (stepped structs s back postfix at k).operand
unfolding stepped
stepped_sound n structs count s back postfix at k h z = stepped_at n count s at back postfix (target_fault structs k) k k.ty (target_sound n structs count k h) refl (good_of n count k h) z

-- ---- all

pub prefixed_sound : (n : Names) (structs : Structs) (count : ℕ) (o : PrefixOp) (s at : Span) (k : Known) → SoundKnown n count k → (prefixed structs o s at k).faults ≡ [] → SoundKnown n count (prefixed structs o s at k).operand
unfolding prefixed
prefixed_sound n structs count op.AddressOf s at k h z = addressed_sound n count s at k h z
prefixed_sound n structs count op.Dereference s at k h z = dereferenced_sound n count s at k h z
prefixed_sound n structs count op.Plus s at k h z = computed_sound n count Plus s at k h z
prefixed_sound n structs count op.Minus s at k h z = computed_sound n count Minus s at k h z
prefixed_sound n structs count op.Complement s at k h z = computed_sound n count Flip s at k h z
prefixed_sound n structs count op.Not s at k h z = computed_sound n count Not s at k h z
prefixed_sound n structs count op.Increment s at k h z = stepped_sound n structs count s false false at k h z
prefixed_sound n structs count op.Decrement s at k h z = stepped_sound n structs count s true false at k h z

-- ---- casts

cast_known : (n : Names) (structs : ℕ) (s at : Span) (t u : «Type») (x : ExprTree) → IsTrue (is_good structs u) → Fitted n u x → (cast_by (conversion.converted t u) s at x).faults ≡ [] → SoundKnown n structs (cast_by (conversion.converted t u) s at x).operand
unfolding cast_by var_type
cast_known n structs s at Void u x g h z = plain_sound n structs Void _ (record { typed = both_hold (is_typed n x) true h.typed refl; has = refl }) refl refl (λ q. cc)
cast_known n structs s at (Pointer e f) u x g h z = cc
cast_known n structs s at (Int t) (Int a) x g h z = int_sound n structs t _ (both_hold (is_typed n x) _ h.typed (ap (λ y. converts y (Some (v.Int t))) h.has)) refl
cast_known n structs s at (Int t) Bad x g h z = cc
cast_known n structs s at (Int t) Void x g h z = cc
cast_known n structs s at (Int t) (Struct m) x g h z = cc
cast_known n structs s at (Int t) (Array e c) x g h z = cc
cast_known n structs s at (Int t) (Pointer e f) x g h z = cc
cast_known n structs s at Bad u x g h z = cc
cast_known n structs s at (Struct m) u x g h z = cc
cast_known n structs s at (Array e c) u x g h z = cc

target_known : (structs : ℕ) (pointer : Bool) (base : «Type») → IsTrue (is_base structs base) → is_bad (cast_target pointer base) ≡ false
unfolding cast_target
target_known structs false Bad h = cc
target_known structs false Void h = refl
target_known structs false (Int t) h = refl
target_known structs false (Struct m) h = refl
target_known structs false (Array e c) h = cc
target_known structs false (Pointer e f) h = cc
target_known structs true Bad h = cc
target_known structs true Void h = refl
target_known structs true (Int t) h = refl
target_known structs true (Struct m) h = refl
target_known structs true (Array e c) h = refl
target_known structs true (Pointer e f) h = refl

pub cast_sound : (n : Names) (structs : ℕ) (pointer : Bool) (base : «Type») (s at : Span) (k : Known) → IsTrue (is_base structs base) → SoundKnown n structs k → (cast_to pointer base s at k).faults ≡ [] → SoundKnown n structs (cast_to pointer base s at k).operand
unfolding cast_to cast_rule
cast_sound n structs pointer base s at k b h z =
    let w = value_sound n structs at k h in
    let t = cast_target pointer base in
    let known : (is_bad t || is_bad (value_of k).ty) ≡ false = or_from (is_bad t) (is_bad (value_of k).ty) (target_known structs pointer base b) (good_known structs (value_of k).ty w.good) in
    let z' : (cast_by (if false then cast.Unknown else conversion.converted t (value_of k).ty) s at (value_tree at k)).faults ≡ [] = subst (λ c. (cast_by (if c then cast.Unknown else conversion.converted t (value_of k).ty) s at (value_tree at k)).faults ≡ []) known z in
    subst (λ c. SoundKnown n structs (cast_by (if c then cast.Unknown else conversion.converted t (value_of k).ty) s at (value_tree at k)).operand) (sym known)
    (cast_known n structs s at t (value_of k).ty (value_tree at k) w.good (record { typed = w.typed; has = w.has }) z')
