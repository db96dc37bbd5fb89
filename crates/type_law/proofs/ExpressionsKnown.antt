-- Which knowledge of an expression is sound, and that its value and its place then are.
use Rattle.std.proofs.Common.{◌≡◌, ◌∙◌, ℕ, refl, ap, sym, subst, List, [], ◌∷◌, ◌++◌, Bool, true, false, Some}
use Rattle.std.specs.Prelude.{IsTrue, option_map}
use Rattle.pt_base.specs.declared.span.Span.{Span}
use Rattle.pt_base.specs.declared.int_type.IntType.{IntType}
use Rattle.pt_base.proofs.Booleans.{both_hold, both_hold_first, both_hold_second, true_and_false}
use Rattle.pt_tree.specs.declared.signature.Elem.{Elem}
use Rattle.pt_tree.specs.declared.signature.Elem.TheVariants as elem
use Rattle.type_rules.specs.declared.types.Type.{«Type»}
use Rattle.type_rules.specs.declared.types.Type.TheVariants.{Bad, Void, Int, Struct, Array, Pointer}
use Rattle.type_rules.specs.Types.{is_integer, elem_type, value_type}
use Rattle.typed_tree.specs.declared.types.VarTy.TheVariants as v
use Rattle.typed_tree.specs.ExpressionTree.{ExprTree, typed, StepTree, item, step_trees, no_steps, RootTree, deref, PlaceTree, place}
use Rattle.typed_tree.specs.TypeTests.{same_types, both_elem, item_of, integer_of, pointee_of, points_to_const, type_of_elem}
use Rattle.typed_tree.specs.WellFormedExpression.{Names, is_typed, ty_of, is_elem, place_fits, place_type, place_const, is_object, is_named, ends_in_field, assigned_type, root_fits, root_type, item_type}
use Rattle.typed_tree.proofs.SameTypes.{elem_self}
use Rattle.check_declarations.specs.Objects.{is_struct}
use Rattle.check_expressions.specs.Operands.{Elaboration, value, object, pointed, moved, element, Known, var_type, root_of, steps_of, place_of, read_form, read_object, read_tree, value_tree, value_of, plain}
use Rattle.type_law.specs.DeclarationsTypes.{is_good, is_variable}
use Rattle.type_law.specs.ExpressionsLaws.{SoundValue, Fitted}
use Rattle.type_law.proofs.ExpressionsLists.{only_where}
use Rattle.type_law.proofs.ExpressionsSameTypes.{same_types-equal}
use Rattle.type_law.proofs.ExpressionsSteps.{steps_fit-last, steps_type-last, element_is_object}

-- a place of an object of this type, which is const in the tree only where it is known as const
pub record SoundObject (n : Names) (structs : ℕ) (ty : «Type») (fixed : Bool) (p : PlaceTree) : Type 0 where
  pub fits : IsTrue (place_fits n p)
  pub has : place_type n p ≡ var_type ty
  pub good : IsTrue (is_variable structs ty)
  pub kept : place_const n p ≡ true → fixed ≡ true

-- a value, no array: it designates no object, and a struct is one that was assigned
pub record SoundPlain (n : Names) (structs : ℕ) (ty : «Type») (designates : Bool) (x : ExprTree) : Type 0 where
  pub fits : Fitted n ty x
  pub good : IsTrue (is_good structs ty)
  pub whole : value_type ty false ≡ ty
  pub none : designates ≡ false
  pub stored : is_struct ty ≡ true → assigned_type x ≡ var_type ty

pub record SoundPlaced (n : Names) (structs : ℕ) (ty : «Type») (fixed designates : Bool) (root : RootTree) (steps : List StepTree) : Type 0 where
  pub object : SoundObject n structs ty fixed (place root (step_trees steps))
  pub written : designates ≡ true → is_object (place root (step_trees steps)) ≡ true
  pub ends : ends_in_field (is_named root) (step_trees steps) ≡ true

-- what a pointer points to
pub record SoundPointed (n : Names) (structs : ℕ) (ty : «Type») (fixed : Bool) (x : ExprTree) : Type 0 where
  pub of : Elem
  pub pointer : Fitted n (Pointer of fixed) x
  pub is : elem_type of ≡ ty
  pub good : IsTrue (is_elem structs (Some of))

pub record SoundElement (n : Names) (structs : ℕ) (ty : «Type») (fixed : Bool) (root : RootTree) (steps : List StepTree) (i : ExprTree) : Type 0 where
  pub of : Elem
  pub count : ℕ
  pub index : IntType
  pub array : SoundObject n structs (Array of count) fixed (place root (step_trees steps))
  pub is : elem_type of ≡ ty
  pub at : Fitted n (Int index) i

abbrev pub SoundTree : Names → ℕ → «Type» → Bool → Bool → Elaboration → Type 0
SoundTree n structs ty fixed designates (value x) = SoundPlain n structs ty designates x
SoundTree n structs ty fixed designates (object root steps) = SoundPlaced n structs ty fixed designates root steps
SoundTree n structs ty fixed designates (pointed x s) = SoundPointed n structs ty fixed x
SoundTree n structs ty fixed designates (moved x) = SoundPointed n structs ty fixed x
SoundTree n structs ty fixed designates (element root steps at i s) = SoundElement n structs ty fixed root steps i

pub record SoundKnown (n : Names) (structs : ℕ) (k : Known) : Type 0 where
  pub tree : SoundTree n structs k.ty k.fixed k.designates k.tree
  pub null : k.null ≡ true → is_integer k.ty ≡ true

-- ---- types

pub good-variable : (structs : ℕ) (ty : «Type») (fixed : Bool) → IsTrue (is_variable structs ty) → IsTrue (is_good structs (value_type ty fixed))
good-variable structs Bad fixed h = cc
good-variable structs Void fixed h = cc
good-variable structs (Int t) fixed h = refl
good-variable structs (Struct m) fixed h = h
good-variable structs (Array e count) fixed h = both_hold_first (is_elem structs (Some e)) _ h
good-variable structs (Pointer e f) fixed h = h

pub elem-variable : (structs : ℕ) (e : Elem) → IsTrue (is_elem structs (Some e)) → IsTrue (is_variable structs (elem_type e))
elem-variable structs (elem.Int t) h = refl
elem-variable structs (elem.Struct m) h = h

pub elem-var_type : (e : Elem) → Some (type_of_elem e) ≡ var_type (elem_type e)
unfolding var_type
elem-var_type (elem.Int t) = refl
elem-var_type (elem.Struct m) = refl

-- a value's type is itself, whatever is const
whole-any : (ty : «Type») (fixed : Bool) → value_type ty false ≡ ty → value_type ty fixed ≡ ty
whole-any Bad fixed h = refl
whole-any Void fixed h = refl
whole-any (Int t) fixed h = refl
whole-any (Struct m) fixed h = refl
whole-any (Array e count) fixed h = cc
whole-any (Pointer e f) fixed h = refl

-- ---- places

-- what may be assigned, or has parts
pub record SoundPlace (n : Names) (structs : ℕ) (ty : «Type») (fixed designates : Bool) (p : PlaceTree) : Type 0 where
  pub fits : IsTrue (place_fits n p)
  pub has : place_type n p ≡ var_type ty
  pub written : designates ≡ true → is_object p ≡ true
  pub kept : place_const n p ≡ true → fixed ≡ true

-- the object under a pointer
pub pointed-object : (n : Names) (structs : ℕ) (ty : «Type») (fixed : Bool) (x : ExprTree) (s : Span) → SoundPointed n structs ty fixed x → SoundObject n structs ty fixed (place (deref x s) no_steps)
unfolding var_type
pointed-object n structs ty fixed x s h = record {
  fits = both_hold (is_typed n x) true h.pointer.typed refl;
  has = ap (λ t. option_map type_of_elem (pointee_of t)) h.pointer.has ∙ elem-var_type h.of ∙ ap var_type h.is;
  good = subst (λ t. IsTrue (is_variable structs t)) h.is (elem-variable structs h.of h.good);
  kept = λ c. sym (ap points_to_const h.pointer.has) ∙ c;
}

pub element-object : (n : Names) (structs : ℕ) (ty : «Type») (fixed : Bool) (root : RootTree) (steps : List StepTree) (i : ExprTree) (s : Span) → SoundElement n structs ty fixed root steps i → SoundObject n structs ty fixed (place root (step_trees (steps ++ item i s ∷ [])))
unfolding var_type
element-object n structs ty fixed root steps i s h = record {
  fits = both_hold (root_fits n root) _ (both_hold_first (root_fits n root) _ h.array.fits) (steps_fit-last n steps (item i s) (both_hold_second (root_fits n root) _ h.array.fits) (both_hold (is_typed n i) true h.at.typed refl));
  has =
      steps_type-last n.structs (root_type n root) steps (item i s)
      ∙ ap (λ t. item_type t (integer_of (ty_of i))) h.array.has
      ∙ ap (λ t. item_type (Some (v.Array h.of h.count)) (integer_of t)) h.at.has
      ∙ elem-var_type h.of ∙ ap var_type h.is;
  good = subst (λ t. IsTrue (is_variable structs t)) h.is (elem-variable structs h.of (both_hold_first (is_elem structs (Some h.of)) _ h.array.good));
  kept = h.array.kept;
}

-- what isn't just a value, or is a struct, is a place
pub place_sound : (n : Names) (structs : ℕ) (ty : «Type») (fixed designates : Bool) (t : Elaboration) → SoundTree n structs ty fixed designates t → (value_type ty false ≡ ty → designates ≡ false → is_struct ty ≡ true) → SoundPlace n structs ty fixed designates (place_of t)
unfolding root_of steps_of
place_sound n structs ty fixed designates (value x) h k = record { fits = both_hold (is_typed n x) true h.fits.typed refl; has = h.stored (k h.whole h.none); written = λ d. true_and_false designates d h.none; kept = λ c. cc }
place_sound n structs ty fixed designates (object root steps) h k = record { fits = h.object.fits; has = h.object.has; written = h.written; kept = h.object.kept }
place_sound n structs ty fixed designates (pointed x s) h k =
    let o = pointed-object n structs ty fixed x s h in
    record { fits = o.fits; has = o.has; written = λ d. refl; kept = o.kept }
place_sound n structs ty fixed designates (moved (typed s t f)) h k =
    let o = pointed-object n structs ty fixed (typed s t f) s h in
    record { fits = o.fits; has = o.has; written = λ d. refl; kept = o.kept }
place_sound n structs ty fixed designates (element root steps at i s) h k =
    let o = element-object n structs ty fixed root steps i s h in
    record { fits = o.fits; has = o.has; written = λ d. element_is_object root steps i s; kept = o.kept }

-- what designates an object is of the type of one
pub designated_variable : (n : Names) (structs : ℕ) (ty : «Type») (fixed designates : Bool) (t : Elaboration) → SoundTree n structs ty fixed designates t → designates ≡ true → IsTrue (is_variable structs ty)
designated_variable n structs ty fixed designates (value x) h d = true_and_false designates d h.none
designated_variable n structs ty fixed designates (object root steps) h d = h.object.good
designated_variable n structs ty fixed designates (pointed x s) h d = (pointed-object n structs ty fixed x s h).good
designated_variable n structs ty fixed designates (moved x) h d = subst (λ t. IsTrue (is_variable structs t)) h.is (elem-variable structs h.of h.good)
designated_variable n structs ty fixed designates (element root steps at i s) h d = (element-object n structs ty fixed root steps i s h).good

-- ---- values

read_fits : (n : Names) (structs : ℕ) (s : Span) (ty : «Type») (fixed : Bool) (p : PlaceTree) → SoundObject n structs ty fixed p → Fitted n (value_type ty fixed) (read_object s ty fixed p)
unfolding read_form var_type
read_fits n structs s Bad fixed p h = let k : false ≡ true = h.good in cc
read_fits n structs s Void fixed p h = let k : false ≡ true = h.good in cc
read_fits n structs s (Int t) fixed p h = record { typed = both_hold (place_fits n p) _ h.fits (both_hold (same_types (place_type n p) (Some (v.Int t))) true (same_types-equal _ _ h.has) refl); has = refl }
read_fits n structs s (Struct m) fixed p h = record { typed = both_hold (place_fits n p) _ h.fits (both_hold (same_types (place_type n p) (Some (v.Struct m))) true (same_types-equal _ _ h.has) refl); has = refl }
read_fits n structs s (Array e count) fixed p h = record { typed = both_hold (place_fits n p) _ h.fits (both_hold (both_elem (item_of (place_type n p)) (Some e)) _ (ap (λ t. both_elem (item_of t) (Some e)) h.has ∙ elem_self e) (only_where (place_const n p) fixed h.kept)); has = refl }
read_fits n structs s (Pointer e f) fixed p h = record { typed = both_hold (place_fits n p) _ h.fits (both_hold (same_types (place_type n p) (Some (v.Pointer e f))) true (same_types-equal _ _ h.has) refl); has = refl }

record Good (n : Names) (structs : ℕ) (ty : «Type») (x : ExprTree) : Type 0 where
  fits : Fitted n ty x
  good : IsTrue (is_good structs ty)

read_good : (n : Names) (structs : ℕ) (s : Span) (ty : «Type») (fixed : Bool) (p : PlaceTree) → SoundObject n structs ty fixed p → Good n structs (value_type ty fixed) (read_object s ty fixed p)
read_good n structs s ty fixed p h = record { fits = read_fits n structs s ty fixed p h; good = good-variable structs ty fixed h.good }

tree_good : (n : Names) (structs : ℕ) (s : Span) (ty : «Type») (fixed designates : Bool) (t : Elaboration) → SoundTree n structs ty fixed designates t → Good n structs (value_type ty fixed) (read_tree s ty fixed t)
unfolding read_tree root_of steps_of
tree_good n structs s ty fixed designates (value x) h = subst (λ t. Good n structs t x) (sym (whole-any ty fixed h.whole)) (record { fits = h.fits; good = h.good })
tree_good n structs s ty fixed designates (object root steps) h = read_good n structs s ty fixed (place root (step_trees steps)) h.object
tree_good n structs s ty fixed designates (pointed x p) h = read_good n structs s ty fixed (place (deref x p) no_steps) (pointed-object n structs ty fixed x p h)
tree_good n structs s ty fixed designates (moved (typed p t f)) h = read_good n structs s ty fixed (place (deref (typed p t f) p) no_steps) (pointed-object n structs ty fixed (typed p t f) p h)
tree_good n structs s ty fixed designates (element root steps at i p) h = read_good n structs s ty fixed (place root (step_trees (steps ++ item i p ∷ []))) (element-object n structs ty fixed root steps i p h)

null_value : (ty : «Type») (fixed : Bool) → is_integer ty ≡ true → is_integer (value_type ty fixed) ≡ true
null_value Bad fixed h = cc
null_value Void fixed h = cc
null_value (Int t) fixed h = refl
null_value (Struct m) fixed h = cc
null_value (Array e count) fixed h = cc
null_value (Pointer e f) fixed h = cc

pub value_sound : (n : Names) (structs : ℕ) (s : Span) (k : Known) → SoundKnown n structs k → SoundValue n structs (value_of k) (value_tree s k)
unfolding value_of value_tree
value_sound n structs s k h =
    let g = tree_good n structs s k.ty k.fixed k.designates k.tree h.tree in
    record { good = g.good; null = λ e. null_value k.ty k.fixed (h.null e); typed = g.fits.typed; has = g.fits.has }

-- ---- what operators make

pub plain_sound : (n : Names) (structs : ℕ) (ty : «Type») (x : ExprTree) → Fitted n ty x → IsTrue (is_good structs ty) → value_type ty false ≡ ty → (is_struct ty ≡ true → assigned_type x ≡ var_type ty) → SoundKnown n structs (plain ty x)
plain_sound n structs ty x h good whole stored = record { tree = record { fits = h; good = good; whole = whole; none = refl; stored = stored }; null = λ e. cc }
