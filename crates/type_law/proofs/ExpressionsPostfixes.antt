-- What stands behind an operand: elements, parts and calls, without a fault.
use Rattle.std.proofs.Common.{◌≡◌, ◌∙◌, ◌⊎◌, inl, inr, ℕ, refl, ap, sym, subst, List, [], Bool, true, false, Option, Some, None, length}
use Rattle.std.specs.Prelude.{IsTrue, ◌||◌}
use Rattle.std.proofs.lemmas.Bool.{or_from}
use Rattle.pt_base.specs.declared.span.Span.{Span}
use Rattle.pt_base.specs.declared.int_type.IntType.{IntType}
use Rattle.pt_base.proofs.Booleans.{both_hold, both_hold_first, both_hold_second}
use Rattle.pt_tree.specs.declared.signature.Elem.{Elem}
use Rattle.pt_tree.specs.declared.signature.Elem.TheVariants as elem
use Rattle.pt_tree.specs.declared.word.Word.{Word}
use Rattle.type_rules.specs.declared.types.Type.{«Type»}
use Rattle.type_rules.specs.declared.types.Type.TheVariants.{Bad, Void, Int, Struct, Array, Pointer}
use Rattle.type_rules.specs.declared.operators.Rule.{Rule}
use Rattle.type_rules.specs.declared.operators.Rule.TheVariants as rule
use Rattle.type_rules.specs.Types.{is_bad, is_scalar, value_type}
use Rattle.type_rules.specs.Operators.{index_rule, subscript}
use Rattle.typed_tree.specs.declared.types.VarTy.TheVariants as v
use Rattle.typed_tree.specs.declared.link.LinkStep.TheVariants as link_step
use Rattle.typed_tree.specs.ExpressionTree.{ExprTree, RootTree, StepTree, field, deref, place, step_trees}
use Rattle.typed_tree.specs.WellFormedExpression.{Names, is_elem, root_fits, root_type, step_type, field_type, is_named}
use Rattle.check_declarations.specs.declared.structs.FoundField.{FoundField}
use Rattle.check_declarations.specs.Structs.{Structs, field_named}
use Rattle.check_expressions.specs.Links.{link_type, rule_faults}
use Rattle.check_expressions.specs.Operands.{Elaboration, value, object, pointed, moved, element, Known, var_type, root_of, steps_of, value_of, value_tree}
use Rattle.check_expressions.specs.Prefixes.{points_to_const}
use Rattle.check_expressions.specs.Postfixes.{pointee, pointee_known, moved_tree, element_tree, index_tree, indexed_by, indexed, part_by, dotted_as, dotted, arrow_as, arrow}
use Rattle.type_law.specs.DeclarationsTypes.{is_good, is_variable}
use Rattle.type_law.specs.ExpressionsLaws.{SoundValue, Fitted}
use Rattle.type_law.proofs.ExpressionsSteps.{steps_fit-last, steps_type-last, ends-last, field_is_object}
use Rattle.type_law.proofs.ExpressionsKnown.{SoundKnown, SoundTree, SoundPlace, value_sound, place_sound, elem-variable}
use Rattle.type_law.proofs.ExpressionsAssignments.{good_of}
use Rattle.type_law.proofs.ExpressionsMoves.{move_fits, move_by_fits}
use Rattle.type_law.proofs.ExpressionsOutcomes.{taken, good_known}

-- ---- [ ]

-- a pointer and an integer
record Before (s t : «Type») (r : Rule) : Type 0 where
  of : Elem
  fixed : Bool
  index : IntType
  is : s ≡ Pointer of fixed
  by : t ≡ Int index
  rule_is : r ≡ rule.Move

record Behind (s t : «Type») (r : Rule) : Type 0 where
  of : Elem
  fixed : Bool
  index : IntType
  is : t ≡ Pointer of fixed
  by : s ≡ Int index
  rule_is : r ≡ rule.MoveBy

subscripts : (s t : «Type») (l q : Span) → is_scalar s ≡ true → is_scalar t ≡ true → rule_faults (subscript s t) l q ≡ [] → Before s t (subscript s t) ⊎ Behind s t (subscript s t)
unfolding rule_faults
subscripts (Pointer e f) (Int b) l q g h z = inl (record { of = e; fixed = f; index = b; is = refl; by = refl; rule_is = refl })
subscripts (Int a) (Pointer e f) l q g h z = inr (record { of = e; fixed = f; index = a; is = refl; by = refl; rule_is = refl })
subscripts (Int a) (Int b) l q g h z = cc
subscripts (Int a) Bad l q g h z = cc
subscripts (Int a) Void l q g h z = cc
subscripts (Int a) (Struct b) l q g h z = cc
subscripts (Int a) (Array e b) l q g h z = cc
subscripts (Pointer e f) (Pointer e' f') l q g h z = cc
subscripts (Pointer e f) Bad l q g h z = cc
subscripts (Pointer e f) Void l q g h z = cc
subscripts (Pointer e f) (Struct b) l q g h z = cc
subscripts (Pointer e f) (Array e' b) l q g h z = cc
subscripts Bad t l q g h z = cc
subscripts Void t l q g h z = cc
subscripts (Struct b) t l q g h z = cc
subscripts (Array e b) t l q g h z = cc

pointer_good : (structs : ℕ) (t : «Type») (e : Elem) (f : Bool) → IsTrue (is_good structs t) → t ≡ Pointer e f → IsTrue (is_elem structs (Some e))
pointer_good structs t e f g h = let P : «Type» → Type 0 = λ u. IsTrue (is_good structs u) in subst P h g

-- a pointer's element
pointer_moved : (n : Names) (structs : ℕ) (s : Span) (e : Elem) (f : Bool) (b : IntType) (x y : ExprTree) → IsTrue (is_elem structs (Some e)) → Fitted n (Pointer e f) x → Fitted n (Int b) y → SoundKnown n structs (pointee_known (Pointer e f) (moved (moved_tree s (Pointer e f) (link_step.Move false) x y)))
unfolding pointee points_to_const moved_tree link_type var_type
pointer_moved n structs s e f b x y g h k = record { tree = record { of = e; pointer = move_fits n s s e f false b x y h k; is = refl; good = g }; null = λ z. cc }

element_at : (n : Names) (structs : ℕ) (s at : Span) (ty : «Type») (fixed designates null : Bool) (t : Elaboration) (e : Elem) (f : Bool) (b : IntType) (y : ExprTree) → SoundKnown n structs (record { ty = ty; fixed = fixed; designates = designates; null = null; tree = t }) → value_type ty fixed ≡ Pointer e f → Fitted n (Int b) y → SoundKnown n structs (pointee_known (value_type ty fixed) (element_tree ty s at (record { ty = ty; fixed = fixed; designates = designates; null = null; tree = t }) y))
unfolding element_tree pointee points_to_const value_of
element_at n structs s at Bad fixed designates null t e f b y h i k = cc
element_at n structs s at Void fixed designates null t e f b y h i k = cc
element_at n structs s at (Int a) fixed designates null t e f b y h i k = cc
element_at n structs s at (Struct m) fixed designates null t e f b y h i k = cc
element_at n structs s at (Array e' c) fixed designates null t e f b y h i k =
    let p = place_sound n structs (Array e' c) fixed designates t h.tree (λ u d. cc) in
    let w = value_sound n structs at (record { ty = Array e' c; fixed = fixed; designates = designates; null = null; tree = t }) h in
    record { tree = record { of = e'; count = c; index = b; array = record { fits = p.fits; has = p.has; good = array_good t h.tree; kept = p.kept }; is = refl; at = k }; null = λ z. cc }
  where
    array_good : (t : Elaboration) → SoundTree n structs (Array e' c) fixed designates t → IsTrue (is_variable structs (Array e' c))
    array_good (value x) z = let u : Pointer e' false ≡ Array e' c = z.whole in cc
    array_good (object root steps) z = z.object.good
    array_good (pointed x sp) z = subst (λ u. IsTrue (is_variable structs u)) z.is (elem-variable structs z.of z.good)
    array_good (moved x) z = subst (λ u. IsTrue (is_variable structs u)) z.is (elem-variable structs z.of z.good)
    array_good (element root steps a i sp) z = subst (λ u. IsTrue (is_variable structs u)) z.is (elem-variable structs z.of (both_hold_first (is_elem structs (Some z.of)) _ z.array.good))
element_at n structs s at (Pointer e' f') fixed designates null t e f b y h i k =
    let w = value_sound n structs at (record { ty = Pointer e' f'; fixed = fixed; designates = designates; null = null; tree = t }) h in
    pointer_moved n structs s e' f' b (value_tree at (record { ty = Pointer e' f'; fixed = fixed; designates = designates; null = null; tree = t })) y w.good (record { typed = w.typed; has = w.has }) k

-- the index is the pointer
index_behind : (n : Names) (structs : ℕ) (s : Span) (t : «Type») (e : Elem) (f : Bool) (a : IntType) (x y : ExprTree) → t ≡ Pointer e f → IsTrue (is_good structs t) → Fitted n (Int a) x → Fitted n t y → SoundKnown n structs (pointee_known t (moved (moved_tree s t link_step.MoveBy x y)))
unfolding pointee points_to_const moved_tree link_type var_type
index_behind n structs s t e f a x y i g h k =
    let good = pointer_good structs t e f g i in
    let k' = subst (λ u. Fitted n u y) i k in
    let sound : SoundKnown n structs (pointee_known (Pointer e f) (moved (moved_tree s (Pointer e f) link_step.MoveBy x y))) = record { tree = record { of = e; pointer = move_by_fits n s s e f a x y h k'; is = refl; good = good }; null = λ z. cc } in
    subst (λ u. SoundKnown n structs (pointee_known u (moved (moved_tree s u link_step.MoveBy x y)))) (sym i) sound

pub indexed_sound : (n : Names) (structs : ℕ) (s at : Span) (k : Known) (at_index : Span) (i : Known) → SoundKnown n structs k → SoundKnown n structs i → (indexed s at k at_index i).faults ≡ [] → SoundKnown n structs (indexed s at k at_index i).operand
unfolding indexed index_rule indexed_by index_tree rule_faults value_of
indexed_sound n structs s at k at_index i h g z =
    let v' = value_sound n structs at k h in
    let w = value_sound n structs at_index i g in
    let bad = or_from (is_bad (value_of k).ty) (is_bad (value_of i).ty) (good_known structs (value_of k).ty v'.good) (good_known structs (value_of i).ty w.good) in
    go (index_rule (value_of k) (value_of i)) refl z bad v' w
  where
    faultless : (r : Rule) → (indexed_by r s at k at_index i).faults ≡ [] → rule_faults r at at_index ≡ []
    faultless rule.Unknown y = refl
    faultless (rule.Wrong l q) y = y
    faultless (rule.Arithmetic t) y = refl
    faultless (rule.Comparison t) y = refl
    faultless (rule.Shift t) y = refl
    faultless rule.Logical y = refl
    faultless rule.Move y = refl
    faultless rule.MoveBy y = refl
    faultless rule.Difference y = refl
    faultless rule.ComparePointers y = refl

    by : (r : Rule) → Before (value_of k).ty (value_of i).ty r ⊎ Behind (value_of k).ty (value_of i).ty r → SoundValue n structs (value_of k) (value_tree at k) → SoundValue n structs (value_of i) (value_tree at_index i) → SoundKnown n structs (indexed_by r s at k at_index i).operand
    by r (inl b) v' w = subst (λ x. SoundKnown n structs (indexed_by x s at k at_index i).operand) (sym b.rule_is) (element_at n structs s at k.ty k.fixed k.designates k.null k.tree b.of b.fixed b.index (value_tree at_index i) h b.is (subst (λ t. Fitted n t (value_tree at_index i)) b.by (record { typed = w.typed; has = w.has })))
    by r (inr b) v' w = subst (λ x. SoundKnown n structs (indexed_by x s at k at_index i).operand) (sym b.rule_is) (index_behind n structs s (value_of i).ty b.of b.fixed b.index (value_tree at k) (value_tree at_index i) b.is w.good (subst (λ t. Fitted n t (value_tree at k)) b.by (record { typed = v'.typed; has = v'.has })) (record { typed = w.typed; has = w.has }))

    go : (r : Rule) → index_rule (value_of k) (value_of i) ≡ r → (indexed_by r s at k at_index i).faults ≡ [] → (is_bad (value_of k).ty || is_bad (value_of i).ty) ≡ false → SoundValue n structs (value_of k) (value_tree at k) → SoundValue n structs (value_of i) (value_tree at_index i) → SoundKnown n structs (indexed_by r s at k at_index i).operand
    go r e y bad v' w =
        let y' : rule_faults (index_rule (value_of k) (value_of i)) at at_index ≡ [] = subst (λ x. rule_faults x at at_index ≡ []) (sym e) (faultless r y) in
        let j = taken (is_bad (value_of k).ty || is_bad (value_of i).ty) (is_scalar (value_of k).ty) (is_scalar (value_of i).ty) (subscript (value_of k).ty (value_of i).ty) at at_index bad y' in
        by r (subst (λ x. Before (value_of k).ty (value_of i).ty x ⊎ Behind (value_of k).ty (value_of i).ty x) (sym j.same ∙ e) (subscripts (value_of k).ty (value_of i).ty at at_index j.left_is j.right_is j.fine)) v' w

-- ---- . and ->

-- the fields of the judged structs are those of the typed tree
abbrev pub FieldsAgree : Names → Structs → Type 0
FieldsAgree n structs = (m : ℕ) (name : List ℕ) (f : FoundField) → field_named structs m name ≡ Some f → (field_type n.structs (Some (v.Struct m)) f.number ≡ var_type f.entry.ty) × IsTrue (is_variable (length structs) f.entry.ty)

part_sound : (n : Names) (count : ℕ) (m : ℕ) (o : Option FoundField) (w : Word) (fixed designates : Bool) (root : RootTree) (steps : List StepTree) → ((f : FoundField) → o ≡ Some f → (field_type n.structs (Some (v.Struct m)) f.number ≡ var_type f.entry.ty) × IsTrue (is_variable count f.entry.ty)) → SoundPlace n count (Struct m) fixed designates (place root (step_trees steps)) → (part_by o w fixed designates root steps).faults ≡ [] → SoundKnown n count (part_by o w fixed designates root steps).operand
unfolding part_by var_type
part_sound n count m None w fixed designates root steps agree p z = cc
part_sound n count m (Some f) w fixed designates root steps agree p z =
    let a = agree f refl in
    record {
      tree = record {
        object = record {
          fits = both_hold (root_fits n root) _ (both_hold_first (root_fits n root) _ p.fits) (steps_fit-last n steps (field f.number) (both_hold_second (root_fits n root) _ p.fits) refl);
          has = steps_type-last n.structs (root_type n root) steps (field f.number) ∙ ap (λ t. step_type n.structs t (field f.number)) p.has ∙ a.0;
          good = a.1;
          kept = λ c. ap (λ b. b || f.entry.fixed) (p.kept c);
        };
        written = λ d. field_is_object root steps f.number (p.written d);
        ends = ends-last (is_named root) steps f.number;
      };
      null = λ q. cc;
    }

pub dotted_sound : (n : Names) (structs : Structs) (w : Word) (at : Span) (k : Known) → FieldsAgree n structs → SoundKnown n (length structs) k → (dotted structs w at k).faults ≡ [] → SoundKnown n (length structs) (dotted structs w at k).operand
unfolding dotted dotted_as
dotted_sound n structs w at k agree h z = by_type k.ty refl z
  where
    by_type : (t : «Type») → k.ty ≡ t → (dotted_as t structs w at k).faults ≡ [] → SoundKnown n (length structs) (dotted_as t structs w at k).operand
    by_type Bad e y = let b : false ≡ true = sym (good_of n (length structs) k h) ∙ ap is_bad e in cc
    by_type Void e y = cc
    by_type (Int t) e y = cc
    by_type (Struct m) e y =
        let t = subst (λ u. SoundTree n (length structs) u k.fixed k.designates k.tree) e h.tree in
        part_sound n (length structs) m (field_named structs m w.bytes) w k.fixed k.designates (root_of k.tree) (steps_of k.tree) (agree m w.bytes) (place_sound n (length structs) (Struct m) k.fixed k.designates k.tree t (λ u d. refl)) y
    by_type (Array e' c) e y = cc
    by_type (Pointer e' f) e y = cc

arrow_at : (n : Names) (structs : Structs) (s : Span) (w : Word) (at : Span) (t : «Type») (x : ExprTree) → FieldsAgree n structs → IsTrue (is_good (length structs) t) → Fitted n t x → (arrow_as t structs s w at x).faults ≡ [] → SoundKnown n (length structs) (arrow_as t structs s w at x).operand
unfolding arrow_as var_type root_of steps_of
arrow_at n structs s w at Bad x agree g h z = cc
arrow_at n structs s w at Void x agree g h z = cc
arrow_at n structs s w at (Int t) x agree g h z = cc
arrow_at n structs s w at (Struct m) x agree g h z = cc
arrow_at n structs s w at (Array e c) x agree g h z = cc
arrow_at n structs s w at (Pointer (elem.Int t) f) x agree g h z = cc
arrow_at n structs s w at (Pointer (elem.Struct m) f) x agree g h z =
    part_sound n (length structs) m (field_named structs m w.bytes) w f true (deref x s) [] (agree m w.bytes)
    (place_sound n (length structs) (Struct m) f true (pointed x s) (record { of = elem.Struct m; pointer = h; is = refl; good = g }) (λ u d. refl)) z

pub arrow_sound : (n : Names) (structs : Structs) (s : Span) (w : Word) (at : Span) (k : Known) → FieldsAgree n structs → SoundKnown n (length structs) k → (arrow structs s w at k).faults ≡ [] → SoundKnown n (length structs) (arrow structs s w at k).operand
unfolding arrow
arrow_sound n structs s w at k agree h z =
    let v' = value_sound n (length structs) at k h in
    arrow_at n structs s w at (value_of k).ty (value_tree at k) agree v'.good (record { typed = v'.typed; has = v'.has }) z
