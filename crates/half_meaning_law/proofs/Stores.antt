-- Assignments: what is judged of them, and what they store.
use Rattle.std.proofs.Common.{◌≡◌, ◌∙◌, ℕ, refl, ap, sym, subst, Bool, true, false, not, Some, None, [], if◌then◌else◌}
use Rattle.std.specs.Prelude.{IsTrue, ◌&&◌, ◌||◌}
use Rattle.pt_base.specs.declared.span.Span.{Span}
use Rattle.pt_base.proofs.Booleans.{both_hold_first, both_hold_second, true_not_false}
use Rattle.pt_tree.specs.declared.signature.Elem.{Elem}
use Rattle.type_rules.specs.declared.types.Value.{Value}
use Rattle.type_rules.specs.Types.{is_bad}
use Rattle.type_rules.specs.Conversions.{fit_rule, is_wrong}
use Rattle.typed_tree.specs.declared.types.VarTy.{VarTy}
use Rattle.typed_tree.specs.declared.types.VarTy.TheVariants as v
use Rattle.typed_tree.specs.ExpressionTree as t
use Rattle.typed_tree.specs.ExpressionTree.{typed}
use Rattle.typed_tree.specs.TypeTests.{is_scalar, same_elem}
use Rattle.check_declarations.specs.Structs.{Structs, has_const}
use Rattle.check_expressions.specs.Environment.{Env}
use Rattle.check_expressions.specs.Expressions.{Judged, judge}
use Rattle.check_expressions.specs.Conversions.{as_type}
use Rattle.check_expressions.specs.Operands.{Known, Made, fine, plain, refused, value_of, value_tree, read_tree, place_of, var_type}
use Rattle.check_expressions.specs.Targets.{optional_fault, target_fault, target_fault_of, object_fault}
use Rattle.check_expressions.specs.Assignments.{assigned, stored, stored_by, stored_tree, misfits}
use Rattle.pt_core.specs.CodeTree.{ExprTree, null}
use Rattle.pt_core.specs.Types.{type_of}
use Rattle.pt_core.specs.WellFormedExpression.{stands_for, expr_fits}
use Rattle.half_trees.specs.Expressions as h
use Rattle.half_meaning_law.specs.Relations.{Scene}
use Rattle.half_meaning_law.specs.CForms.{is_null, stands, is_stored, keeps_const, points_const, with_const, c_type}
use Rattle.half_meaning_law.specs.Known.{type_as}
use Rattle.half_meaning_law.specs.Expressions.{asked, IsFine, ExpressionMeans, SceneFits}
use Rattle.typed_tree.proofs.SameTypes.{equal_types, equal_elems}
use Rattle.half_meaning_law.specs.Known.{Known as AllKnown}
use Rattle.half_meaning_law.proofs.ExpressionLaw.{expr_held, null_is}
use Rattle.half_meaning_law.proofs.Steps.{ValueFor, integer_for, pointer_for, null_for}

-- ---- values for objects

or_turned : (f g : Bool) → (not f || g) ≡ true → (g || not f) ≡ true
or_turned true true h = refl
or_turned true false h = true_not_false (sym h)
or_turned false true h = refl
or_turned false false h = refl

pub pointer_stands : (el : Elem) (f : Bool) (u : VarTy) → IsTrue (stands_for (v.Pointer el f) u) → (g : Bool) × (u ≡ v.Pointer el g)
pointer_stands el f (v.Int t) h = true_not_false (sym h)
pointer_stands el f (v.Struct n) h = true_not_false (sym h)
pointer_stands el f (v.Array other count) h = true_not_false (sym h)
pointer_stands el f (v.Pointer other g) h = (g, ap (λ z. v.Pointer z g) (sym (equal_elems el other (both_hold_first (same_elem el other) (not f || g) h))))

no_struct : {X : Type 0} (n : ℕ) (u : VarTy) → IsTrue (is_scalar (Some u)) → IsTrue (stands_for (v.Struct n) u) → X
no_struct n (v.Int t) ok h = true_not_false (sym h)
no_struct n (v.Struct k) ok h = true_not_false (sym ok)
no_struct n (v.Array el count) ok h = true_not_false (sym ok)
no_struct n (v.Pointer el g) ok h = true_not_false (sym h)

no_array : {X : Type 0} (a : Elem) (n : ℕ) (u : VarTy) → IsTrue (is_scalar (Some u)) → IsTrue (stands_for (v.Array a n) u) → X
no_array a n (v.Int t) ok h = true_not_false (sym h)
no_array a n (v.Struct k) ok h = true_not_false (sym ok)
no_array a n (v.Array el count) ok h = true_not_false (sym ok)
no_array a n (v.Pointer el g) ok h = true_not_false (sym h)

-- an expression that stands, for an object of this type
standing_for : (s : Scene) (structs : Structs) (u : VarTy) (a : ExprTree) (j : Judged) → IsTrue (is_scalar (Some u)) → IsTrue (stands_for (type_of s.context a) u) → IsTrue (keeps_const (c_type s.context a) u) → ExpressionMeans s structs a j → ValueFor s u j.operand (asked s a)
standing_for s structs u a j ok fits keeps h = go (type_of s.context a) refl fits keeps
  where
    go : (z : VarTy) → type_of s.context a ≡ z → IsTrue (stands_for z u) → IsTrue (keeps_const (with_const (points_const s.context a) z) u) → ValueFor s u j.operand (asked s a)
    go (v.Int n) is f k = subst (λ z. ValueFor s z j.operand (asked s a)) (equal_types (v.Int n) u f) (integer_for s structs a j n h is)
    go (v.Struct n) is f k = no_struct n u ok f
    go (v.Array el n) is f k = no_array el n u ok f
    go (v.Pointer el g) is f k =
        let r = pointer_stands el g u f in
        subst (λ z. ValueFor s z j.operand (asked s a)) (sym r.1)
        (pointer_for s structs a j el g r.0 h is (or_turned (points_const s.context a) r.0 (subst (λ z. IsTrue (keeps_const (v.Pointer el (points_const s.context a)) z)) r.1 k)))

-- what is judged of an expression that is stored, and that it is fine
pub record Stored (s : Scene) (structs : Structs) (u : VarTy) (a : ExprTree) (j : Judged) : Type 0 where
  pub fine : IsFine structs j
  pub value : ValueFor s u j.operand (asked s a)

pub stored_held : (s : Scene) (env : Env) (structs : Structs) (u : VarTy) (a : ExprTree) → SceneFits s → AllKnown s env structs → IsTrue (is_scalar (Some u)) → IsTrue (expr_fits s.context a) → IsTrue (stands_for (type_of s.context a) u) → IsTrue (is_stored s.context u a) →
    Stored s structs u a (judge env structs (h.expression_tree s.context a))
unfolding judge
stored_held s env structs u a fits known ok good into on = go (is_null a) refl on
  where
    go : (z : Bool) → is_null a ≡ z → IsTrue (z || (stands a && keeps_const (c_type s.context a) u)) → Stored s structs u a (judge env structs (h.expression_tree s.context a))
    go true e on1 =
        let r = null_is a e in
        let g = pointer_stands r.0 false u (subst (λ z. IsTrue (stands_for (type_of s.context z) u)) r.1 into) in
        subst (λ z. Stored s structs u z (judge env structs (h.expression_tree s.context z))) (sym r.1)
        (subst (λ z. Stored s structs z (null r.0) (judge env structs h.zero_tree)) (sym g.1) (record { fine = record { faults = refl; structs_stay = refl }; value = null_for s r.0 r.0 g.0 }))
    go false e on1 =
        let held = expr_held s env structs a fits known good (both_hold_first (stands a) (keeps_const (c_type s.context a) u) on1) in
        record { fine = held.means.fine; value = standing_for s structs u a (judge env structs (h.expression_tree s.context a)) ok into (both_hold_second (stands a) (keeps_const (c_type s.context a) u) on1) held.means }

-- ---- what is judged of an assignment

-- an object that may be written
pub record Target (s : Scene) (structs : Structs) (u : VarTy) (k : Known) : Type 0 where
  pub typed : k.ty ≡ type_as u
  pub designates : k.designates ≡ true
  pub changes : k.fixed ≡ false
  pub no_array : (el : Elem) (n : ℕ) → u ≡ v.Array el n → ⊥
  pub parts : has_const structs (type_as u) ≡ false

no_target_fault : (s : Scene) (structs : Structs) (u : VarTy) (k : Known) → Target s structs u k → target_fault structs k ≡ None
unfolding target_fault object_fault target_fault_of
no_target_fault s structs u k h =
    ap (λ z. target_fault_of z k.designates (k.fixed || has_const structs z)) h.typed
    ∙ ap (λ z. target_fault_of (type_as u) z (k.fixed || has_const structs (type_as u))) h.designates
    ∙ ap (λ z. target_fault_of (type_as u) true (z || has_const structs (type_as u))) h.changes
    ∙ ap (λ z. target_fault_of (type_as u) true z) h.parts
    ∙ go u h.no_array
  where
    go : (z : VarTy) → ((el : Elem) (n : ℕ) → z ≡ v.Array el n → ⊥) → target_fault_of (type_as z) true false ≡ None
    go (v.Int t) never = refl
    go (v.Struct n) never = refl
    go (v.Array el n) never = absurd (never el n refl)
    go (v.Pointer el g) never = refl

fits_target : (u : VarTy) (w : Value) → ((el : Elem) (n : ℕ) → u ≡ v.Array el n → ⊥) → is_wrong (fit_rule (type_as u) w) ≡ false → misfits (type_as u) w ≡ false
unfolding misfits
fits_target (v.Int t) w never h = h
fits_target (v.Struct n) w never h = h
fits_target (v.Array el n) w never h = refl
fits_target (v.Pointer el g) w never h = h

pub type_good : (u : VarTy) → is_bad (type_as u) ≡ false
type_good (v.Int t) = refl
type_good (v.Struct n) = refl
type_good (v.Array el n) = refl
type_good (v.Pointer el g) = refl

pub assigned_is : (s : Scene) (structs : Structs) (u : VarTy) (k q : Known) (sp left right : Span) → Target s structs u k → is_bad q.ty ≡ false → is_wrong (fit_rule (type_as u) (value_of q)) ≡ false →
    assigned structs None sp left k right q ≡ fine (plain k.ty (stored_tree sp k (value_of q) (value_tree right q)))
unfolding assigned stored stored_by optional_fault
assigned_is s structs u k q sp left right target good fits =
    ap (λ z. if z || is_bad q.ty then refused [] else made) (ap is_bad target.typed ∙ type_good u)
    ∙ ap (λ z. if z then refused [] else made) good
    ∙ ap (λ z. stored_by z (misfits k.ty (value_of q)) sp left k right (value_of q) (value_tree right q)) (no_target_fault s structs u k target)
    ∙ ap (λ z. stored_by None z sp left k right (value_of q) (value_tree right q)) (ap (λ z. misfits z (value_of q)) target.typed ∙ fits_target u (value_of q) target.no_array fits)
  where
    made : Made
    made = stored_by (target_fault structs k) (misfits k.ty (value_of q)) sp left k right (value_of q) (value_tree right q)

-- the typed tree of what is assigned
pub assigned_tree : (s : Scene) (structs : Structs) (u : VarTy) (k q : Known) (sp at right : Span) → Target s structs u k → value_tree at (plain k.ty (stored_tree sp k (value_of q) (value_tree right q))) ≡
    typed sp (var_type (type_as u)) (t.assign (place_of k.tree) (as_type (type_as u) (value_of q).null (value_tree right q)))
unfolding value_tree read_tree stored_tree
assigned_tree s structs u k q sp at right target = ap (λ z. typed sp (var_type z) (t.assign (place_of k.tree) (as_type z (value_of q).null (value_tree right q)))) target.typed
