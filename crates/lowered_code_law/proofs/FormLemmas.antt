-- The forms of expressions, each by what is known of its parts.
use Rattle.std.proofs.Common.{◌≡◌, ◌∙◌, ℕ, ◌+◌, ℤ, pos, refl, ap, sym, subst, Bool, true, false, Option, Some, None, List, [], ◌∷◌, ◌++◌, length}
use Rattle.std.specs.Prelude.{◌&&◌, not, slice_get, option_map, nat_lt}
use Rattle.std.proofs.lemmas.Option.{get_or_from_slice_get}
use Rattle.pt_base.specs.declared.int_type.IntType.{IntType}
use Rattle.pt_base.specs.declared.int_type.IntType.TheVariants as i
use Rattle.pt_base.specs.declared.span.Span.{Span}
use Rattle.pt_base.proofs.Booleans.{both_hold, both_hold_first, both_hold_second, false_not_true}
use Rattle.pt_base.proofs.Lists.{append_nil}
use Rattle.pt_int.specs.declared.operator.UnOp.{UnOp}
use Rattle.pt_tree.specs.declared.signature.Param.{Param}
use Rattle.pt_tree.specs.declared.signature.ParamKind.{ParamKind}
use Rattle.pt_tree.specs.declared.signature.ParamKind.TheVariants as k
use Rattle.pt_tree.specs.declared.signature.Signature.{Signature}
use Rattle.typed_tree.specs.declared.types.VarTy.{VarTy}
use Rattle.typed_tree.specs.declared.types.VarTy.TheVariants.{Int, Struct, Array, Pointer}
use Rattle.typed_tree.specs.declared.link.LinkStep.{LinkStep}
use Rattle.typed_tree.specs.declared.link.LogicalOp.{LogicalOp}
use Rattle.typed_tree.specs.declared.link.LogicalOp.TheVariants as lo
use Rattle.typed_tree.specs.ExpressionTree as t
use Rattle.typed_tree.specs.ExpressionTree.{typed, FormTree, ExprTrees, no_exprs, expr_and, LinkTree, LinkTrees, no_links, link_and, link}
use Rattle.typed_tree.specs.TypeTests.{same_types, same_type, integer_of, pointee_of, is_scalar}
use Rattle.typed_tree.specs.TypeRules as r
use Rattle.typed_tree.specs.TypeRules.{unary_fits, converts, promoted_value, is_arm}
use Rattle.typed_tree.specs.WellFormedExpression as f
use Rattle.typed_tree.specs.WellFormedExpression.{is_elem, ty_of, param_type, is_main}
use Rattle.typed_tree.specs.WellFormed.{is_variable_type}
use Rattle.pt_core.specs.CodeTree.{StmtTree, constant, read, null, assign, copy, check, call, choose, expr_trees, stmt_trees}
use Rattle.pt_core.specs.Types.{Context, type_of, place_type, type_at}
use Rattle.pt_core.specs.WellFormedExpression.{stands_for, expr_fits, place_fits}
use Rattle.pt_core.specs.WellFormedStatement as core
use Rattle.pt_core.specs.WellFormedStatement.{value_fits, stmt_fits, stmts_fit, is_compound, call_fits, result_fits}
use Rattle.source_meaning.specs.Expressions as x
use Rattle.source_meaning.specs.Expressions.{type_or_int}
use Rattle.lowering.specs.Lowered.{Temp, Effects, Lowered, LoweredPlace, Arguments, past, temp, hold, holding, int, pure}
use Rattle.lowering.specs.Operators.{converted, prefixed, truth_of, stepped, stored, unit_step, unit_of}
use Rattle.lowering.specs.Expressions.{int_of, elem_of, is_struct, value_at, checked, linked, started, valued, where_open, with_operand, arm, chosen, copied, given, assigned, compounded, counted, counted_after, argued, call_effects, called}
use Rattle.lowered_code_law.proofs.FormsSettings.{Agrees, EffectsFit, Fit, Known, LoweredFits, PlaceFits, Setting, Stand, ValueFits, context, is_known, scope}
use Rattle.typed_tree.proofs.SameTypes.{equal_options, type_self}
use Rattle.lowered_code_law.proofs.FormsStanding.{assign_fits, choose_fits, fit_both, hold_fits, in_list, known_both, read_fits, stand_first, stand_rest, stand_three, temp_value}
use Rattle.lowered_code_law.proofs.FormsSteps.{compound_fits, constant_fits, conversion_known, convert_known, converted_fits, counted_fits, null_fits, one_type, prefixed_fits, step_fits, step_known, step_operands, truth_fits, unary_known, unary_operand}
use Rattle.lowered_code_law.proofs.FormsRules.{no_struct, scalar_type, type_is}

-- ---- constants and what is read

pub constant_lowers : (w : Setting) (l : Bool) (v : ℤ) (t : Option VarTy) → f.constant_fits v (integer_of t) ≡ true → LoweredFits w l (type_or_int t) (pure (constant (int_of t) v))
constant_lowers w l v (Some (Int t)) h = record { stmts = tt; value = constant_fits (context w) t v h; temps = tt; known = refl }
constant_lowers w l v None h = false_not_true h
constant_lowers w l v (Some (Struct n)) h = false_not_true h
constant_lowers w l v (Some (Array a n)) h = false_not_true h
constant_lowers w l v (Some (Pointer a g)) h = false_not_true h

pub null_lowers : (w : Setting) (l : Bool) (t : Option VarTy) → is_elem (length w.names.structs) (pointee_of t) ≡ true → LoweredFits w l (type_or_int t) (pure (null (elem_of (type_or_int t))))
null_lowers w l (Some (Pointer a g)) h = record { stmts = tt; value = null_fits (context w) a g h; temps = tt; known = h }
null_lowers w l None h = false_not_true h
null_lowers w l (Some (Int t)) h = false_not_true h
null_lowers w l (Some (Struct n)) h = false_not_true h
null_lowers w l (Some (Array a n)) h = false_not_true h

-- the value of an integer or a pointer
pub value_at_fits : (w : Setting) (l : Bool) (ty : VarTy) (p : LoweredPlace) → is_scalar (Some ty) ≡ true → PlaceFits w l ty p → LoweredFits w l ty (value_at p)
value_at_fits w l ty p scalar h = record { stmts = h.stmts; value = read_fits (context w) p.place ty h.place h.type scalar; temps = h.temps; known = h.known }

pub checked_fits : (w : Setting) (l : Bool) (ty : VarTy) (p : LoweredPlace) → PlaceFits w l ty p → EffectsFit w l (checked p).stmts (checked p).temps
checked_fits w l ty p h = record { stmts = fit_both (scope w) l p.stmts (check p.place ∷ []) h.stmts (h.place, tt); temps = h.temps }

pub place_effects_fit : (w : Setting) (l : Bool) (ty : VarTy) (p : LoweredPlace) → PlaceFits w l ty p → EffectsFit w l p.stmts p.temps
place_effects_fit w l ty p h = record { stmts = h.stmts; temps = h.temps }

-- a value that is no expression's: of what gives nothing
pub nothing_fits : (w : Setting) (l : Bool) (d : Effects) → EffectsFit w l d.stmts d.temps → LoweredFits w l (Int i.Int) (valued d (constant i.Int (pos 0)))
nothing_fits w l d h = record { stmts = h.stmts; value = constant_fits (context w) i.Int (pos 0) refl; temps = h.temps; known = refl }

-- ---- operators before an operand, and conversions

pub prefixed_lowers : (w : Setting) (l : Bool) (op : UnOp) (a : t.ExprTree) (t : Option VarTy) (s : Span) (v : Lowered) → unary_fits op (ty_of a) t ≡ true → LoweredFits w l (x.type_of a) v →
    LoweredFits w l (type_or_int t) (record v { value = prefixed op (x.type_of a) v.value s })
prefixed_lowers w l op (typed p (Some b) form) (Some ty) s v h k = record {
  stmts = k.stmts;
  value = prefixed_fits (context w) op b ty v.value s h k.known k.value;
  temps = k.temps;
  known = both_hold_second (is_scalar (Some ty)) (is_variable_type (length w.names.structs) ty) (unary_known (length w.names.structs) op (Some b) (Some ty) h ty refl);
}
prefixed_lowers w l op (typed p None form) t s v h k = false_not_true (unary_operand op None t h).0
prefixed_lowers w l op (typed p (Some b) form) None s v h k = false_not_true (unary_operand op (Some b) None h).1

pub converted_lowers : (w : Setting) (l : Bool) (a : t.ExprTree) (t : Option VarTy) (v : Lowered) → converts (ty_of a) t ≡ true → LoweredFits w l (x.type_of a) v → LoweredFits w l (type_or_int t) (record v { value = converted (type_or_int t) v.value })
converted_lowers w l (typed p (Some b) form) (Some ty) v h k = record {
  stmts = k.stmts;
  value = converted_fits (context w) b ty v.value h k.value;
  temps = k.temps;
  known = conversion_known (length w.names.structs) b ty h k.known;
}
converted_lowers w l (typed p None form) t v h k = false_not_true (convert_known 0 None t h).0
converted_lowers w l (typed p (Some b) form) None v h k = false_not_true (convert_known 0 (Some b) None h).1

-- ---- chains

-- a link behind a value so far
pub linked_fits : (w : Setting) (l : Bool) (n : ℕ) (so_far to : VarTy) (step : LinkStep) (at : Span) (a : t.ExprTree) (ready v : Lowered) → r.stepped (Some so_far) step (ty_of a) ≡ Some to →
    (Stand w.variables n ready.temps → LoweredFits w l so_far ready) → (is_struct (ty_of a) ≡ false → Stand w.variables (past n ready.temps) v.temps → LoweredFits w l (x.type_of a) v) →
    Stand w.variables n (linked so_far step at ready v).temps → LoweredFits w l to (linked so_far step at ready v)
linked_fits w l n so_far to step at a ready v is h k stand =
    let o = step_operands step (Some so_far) (ty_of a) to is in
    let first = h (stand_first w.variables n ready.temps v.temps stand) in
    let second = k (subst (λ z. is_struct z ≡ false) (sym o.by) (no_struct (Some o.right) o.right_scalar)) (stand_rest w.variables n ready.temps v.temps stand) in
    let own = type_is a o.right o.by in
    let value = subst (λ z. ValueFits (context w) z v.value) own second.value in
    let known = subst (λ z. is_variable_type (length w.names.structs) z ≡ true) own second.known in
    let rule : r.stepped (Some so_far) step (Some o.right) ≡ Some to = subst (λ z. r.stepped (Some so_far) step z ≡ Some to) o.by is in
    record {
      stmts = fit_both (scope w) l ready.stmts v.stmts first.stmts second.stmts;
      value = step_fits (context w) step so_far o.right to ready.value v.value at rule first.value value;
      temps = known_both w.names.structs ready.temps v.temps first.temps second.temps;
      known = both_hold_second (is_scalar (Some to)) (is_variable_type (length w.names.structs) to) (step_known (length w.names.structs) step so_far o.right to rule first.known known);
    }

-- the value so far of a link is an integer or a pointer
pub so_far_scalar : (step : LinkStep) (so_far to : VarTy) (b : Option VarTy) → r.stepped (Some so_far) step b ≡ Some to → is_scalar (Some so_far) ≡ true
so_far_scalar step so_far to b is = let o = step_operands step (Some so_far) b to is in subst (λ z. is_scalar (Some z) ≡ true) (sym (one_type so_far o.left o.from)) o.left_scalar

-- ---- `&&` and `||`

pub record TruthSoFar (w : Setting) (l : Bool) (k : ℕ) (d : Effects) : Type 0 where
  pub done : EffectsFit w l d.stmts d.temps
  pub own : slice_get w.variables k ≡ Some int

pub started_fits : (w : Setting) (l : Bool) (n : ℕ) (whole a : t.ExprTree) (s : Span) (v : Lowered) → is_scalar (ty_of a) ≡ true → (Stand w.variables n v.temps → LoweredFits w l (x.type_of a) v) →
    Stand w.variables n (started whole (past n v.temps) (x.type_of a) s v).temps → TruthSoFar w l (past n v.temps) (started whole (past n v.temps) (x.type_of a) s v)
started_fits w l n whole a s v scalar h stand =
    let first = h (stand_first w.variables n v.temps (holding int whole ∷ []) stand) in
    let here = (stand_rest w.variables n v.temps (holding int whole ∷ []) stand).0 in
    let o = scalar_type (ty_of a) scalar in
    let own = type_is a o.type o.is in
    let truth = truth_fits (context w) (x.type_of a) v.value s (subst (λ z. is_scalar (Some z) ≡ true) (sym own) (subst (λ z. is_scalar z ≡ true) o.is scalar)) first.known first.value in
    record {
      done = record {
        stmts = fit_both (scope w) l v.stmts (hold (past n v.temps) (truth_of (x.type_of a) v.value s) ∷ []) first.stmts (hold_fits w l (past n v.temps) int (truth_of (x.type_of a) v.value s) here refl truth, tt);
        temps = known_both w.names.structs v.temps (holding int whole ∷ []) first.temps (refl, tt);
      };
      own = here;
    }

where_open_fits : (w : Setting) (l : Bool) (op : LogicalOp) (k : ℕ) (xs : List StmtTree) → slice_get w.variables k ≡ Some int → Fit (scope w) l xs → stmt_fits (scope w) l (where_open op k xs) ≡ true
where_open_fits w l lo.And k xs own h = choose_fits w l int (temp k) xs [] (temp_value w k int own refl) refl h tt
where_open_fits w l lo.Or k xs own h = choose_fits w l int (temp k) [] xs (temp_value w k int own refl) refl tt h

pub operand_fits : (w : Setting) (l : Bool) (n k : ℕ) (op : LogicalOp) (a : t.ExprTree) (s : Span) (far : Effects) (v : Lowered) → is_scalar (ty_of a) ≡ true → (Stand w.variables n far.temps → TruthSoFar w l k far) →
    (is_struct (ty_of a) ≡ false → Stand w.variables (past n far.temps) v.temps → LoweredFits w l (x.type_of a) v) → Stand w.variables n (with_operand op k (x.type_of a) s far v).temps → TruthSoFar w l k (with_operand op k (x.type_of a) s far v)
operand_fits w l n k op a s far v scalar h i stand =
    let so_far = h (stand_first w.variables n far.temps v.temps stand) in
    let second = i (no_struct (ty_of a) scalar) (stand_rest w.variables n far.temps v.temps stand) in
    let o = scalar_type (ty_of a) scalar in
    let own = type_is a o.type o.is in
    let truth = truth_fits (context w) (x.type_of a) v.value s (subst (λ z. is_scalar (Some z) ≡ true) (sym own) (subst (λ z. is_scalar z ≡ true) o.is scalar)) second.known second.value in
    let inner = fit_both (scope w) l v.stmts (hold k (truth_of (x.type_of a) v.value s) ∷ []) second.stmts (hold_fits w l k int (truth_of (x.type_of a) v.value s) so_far.own refl truth, tt) in
    record {
      done = record {
        stmts = fit_both (scope w) l far.stmts (where_open op k (v.stmts ++ hold k (truth_of (x.type_of a) v.value s) ∷ []) ∷ []) so_far.done.stmts (where_open_fits w l op k (v.stmts ++ hold k (truth_of (x.type_of a) v.value s) ∷ []) so_far.own inner, tt);
        temps = known_both w.names.structs far.temps v.temps so_far.done.temps second.temps;
      };
      own = so_far.own;
    }

pub truth_lowers : (w : Setting) (l : Bool) (k : ℕ) (d : Effects) (t : Option VarTy) → same_types t r.int ≡ true → TruthSoFar w l k d → LoweredFits w l (type_or_int t) (valued d (temp k))
truth_lowers w l k d t is h = subst (λ z. LoweredFits w l (type_or_int z) (valued d (temp k))) (sym (equal_options t r.int is))
    (record { stmts = h.done.stmts; value = temp_value w k int h.own refl; temps = h.done.temps; known = refl })

-- ---- `?:`

arm_fits : (w : Setting) (l : Bool) (k : ℕ) (ty : VarTy) (v : Lowered) → slice_get w.variables k ≡ Some ty → is_scalar (Some ty) ≡ true → LoweredFits w l ty v → Fit (scope w) l (arm k v)
arm_fits w l k ty v own scalar h = fit_both (scope w) l v.stmts (hold k v.value ∷ []) h.stmts (hold_fits w l k ty v.value own scalar h.value, tt)

pub arm_scalar : (t : Option VarTy) → is_arm t ≡ true → is_scalar (Some (type_or_int t)) ≡ true
arm_scalar None h = refl
arm_scalar (Some (Int a)) h = refl
arm_scalar (Some (Pointer a g)) h = refl
arm_scalar (Some (Struct n)) h = false_not_true h
arm_scalar (Some (Array a n)) h = false_not_true h

pub arm_type : (b : t.ExprTree) (t : Option VarTy) → same_types (ty_of b) t ≡ true → x.type_of b ≡ type_or_int t
arm_type (typed s o form) t h = ap type_or_int (equal_options o t h)

pub choice_lowers : (w : Setting) (l : Bool) (n : ℕ) (a b d whole : t.ExprTree) (t : Option VarTy) (test first second : Lowered) → is_scalar (ty_of a) ≡ true → is_arm t ≡ true → same_types (ty_of b) t ≡ true → same_types (ty_of d) t ≡ true →
    (Stand w.variables n test.temps → LoweredFits w l (x.type_of a) test) →
    (Stand w.variables (past n test.temps + 1) first.temps → LoweredFits w l (x.type_of b) first) →
    (Stand w.variables (past (past n test.temps + 1) first.temps) second.temps → LoweredFits w l (x.type_of d) second) →
    Stand w.variables n (test.temps ++ (holding (type_or_int t) whole ∷ []) ++ first.temps ++ second.temps) →
    LoweredFits w l (type_or_int t) (valued (chosen test (holding (type_or_int t) whole ∷ []) (arm (past n test.temps) first) first.temps (arm (past n test.temps) second) second.temps) (temp (past n test.temps)))
choice_lowers w l n a b d whole t test first second scalar is_one same_b same_d h i j stand =
    let own = holding (type_or_int t) whole ∷ [] in
    let all = stand_three w.variables n test.temps own (first.temps ++ second.temps) (stand_three w.variables n (test.temps ++ own) first.temps second.temps stand) in
    let v = h (stand_first w.variables n test.temps (own ++ (first.temps ++ second.temps)) all) in
    let rest = stand_rest w.variables n test.temps (own ++ (first.temps ++ second.temps)) all in
    let yes = subst (λ z. LoweredFits w l z first) (arm_type b t same_b) (i (stand_first w.variables (past n test.temps + 1) first.temps second.temps rest.1)) in
    let no = subst (λ z. LoweredFits w l z second) (arm_type d t same_d) (j (stand_rest w.variables (past n test.temps + 1) first.temps second.temps rest.1)) in
    let one = arm_scalar t is_one in
    let o = scalar_type (ty_of a) scalar in
    let test_scalar : is_scalar (Some (x.type_of a)) ≡ true = subst (λ z. is_scalar (Some z) ≡ true) (sym (type_is a o.type o.is)) (subst (λ z. is_scalar z ≡ true) o.is scalar) in
    record {
      stmts = fit_both (scope w) l test.stmts (choose test.value (stmt_trees (arm (past n test.temps) first)) (stmt_trees (arm (past n test.temps) second)) ∷ []) v.stmts (
        choose_fits w l (x.type_of a) test.value (arm (past n test.temps) first) (arm (past n test.temps) second) v.value test_scalar
            (arm_fits w l (past n test.temps) (type_or_int t) first rest.0 one yes) (arm_fits w l (past n test.temps) (type_or_int t) second rest.0 one no),
        tt,
      );
      value = temp_value w (past n test.temps) (type_or_int t) rest.0 one;
      temps = known_both w.names.structs (test.temps ++ own ++ first.temps) second.temps (known_both w.names.structs (test.temps ++ own) first.temps
          (known_both w.names.structs test.temps own v.temps (both_hold (is_scalar (Some (type_or_int t))) (is_variable_type (length w.names.structs) (type_or_int t)) one yes.known, tt)) yes.temps) no.temps;
      known = yes.known;
    }

-- the same where its value is dropped
pub choice_drops : (w : Setting) (l : Bool) (n : ℕ) (a : t.ExprTree) (test : Lowered) (first second : Effects) → is_scalar (ty_of a) ≡ true →
    (Stand w.variables n test.temps → LoweredFits w l (x.type_of a) test) →
    (Stand w.variables (past n test.temps) first.temps → EffectsFit w l first.stmts first.temps) →
    (Stand w.variables (past (past n test.temps) first.temps) second.temps → EffectsFit w l second.stmts second.temps) →
    Stand w.variables n (test.temps ++ [] ++ first.temps ++ second.temps) →
    EffectsFit w l (chosen test [] first.stmts first.temps second.stmts second.temps).stmts (chosen test [] first.stmts first.temps second.stmts second.temps).temps
choice_drops w l n a test first second scalar h i j stand =
    let all = stand_three w.variables n test.temps first.temps second.temps (subst (λ z. Stand w.variables n (z ++ first.temps ++ second.temps)) (append_nil test.temps) stand) in
    let v = h (stand_first w.variables n test.temps (first.temps ++ second.temps) all) in
    let rest = stand_rest w.variables n test.temps (first.temps ++ second.temps) all in
    let yes = i (stand_first w.variables (past n test.temps) first.temps second.temps rest) in
    let no = j (stand_rest w.variables (past n test.temps) first.temps second.temps rest) in
    let o = scalar_type (ty_of a) scalar in
    let test_scalar : is_scalar (Some (x.type_of a)) ≡ true = subst (λ z. is_scalar (Some z) ≡ true) (sym (type_is a o.type o.is)) (subst (λ z. is_scalar z ≡ true) o.is scalar) in
    record {
      stmts = fit_both (scope w) l test.stmts (choose test.value (stmt_trees first.stmts) (stmt_trees second.stmts) ∷ []) v.stmts
          (choose_fits w l (x.type_of a) test.value first.stmts second.stmts v.value test_scalar yes.stmts no.stmts, tt);
      temps = known_both w.names.structs (test.temps ++ [] ++ first.temps) second.temps (known_both w.names.structs (test.temps ++ []) first.temps (known_both w.names.structs test.temps [] v.temps tt) yes.temps) no.temps;
    }

-- ---- assignments

pub given_fits : (w : Setting) (l : Bool) (ty : VarTy) (n : ℕ) (to : LoweredPlace) (v : Lowered) → is_scalar (Some ty) ≡ true → (Stand w.variables n to.temps → PlaceFits w l ty to) → (Stand w.variables (past n to.temps) v.temps → LoweredFits w l ty v) →
    Stand w.variables n (to.temps ++ v.temps) → PlaceFits w l ty (given to v)
given_fits w l ty n to v scalar h k stand =
    let p = h (stand_first w.variables n to.temps v.temps stand) in
    let y = k (stand_rest w.variables n to.temps v.temps stand) in
    record {
      stmts = fit_both (scope w) l (to.stmts ++ v.stmts) (assign to.place v.value ∷ []) (fit_both (scope w) l to.stmts v.stmts p.stmts y.stmts) (assign_fits w l to.place ty v.value p.place p.type scalar y.value, tt);
      place = p.place;
      type = p.type;
      own = p.own;
      through = p.through;
      temps = known_both w.names.structs to.temps v.temps p.temps y.temps;
      known = p.known;
    }

pub copied_fits : (w : Setting) (l : Bool) (ty : VarTy) (n : ℕ) (to of : LoweredPlace) → is_compound ty ≡ true → (Stand w.variables n to.temps → PlaceFits w l ty to) → (Stand w.variables (past n to.temps) of.temps → PlaceFits w l ty of) →
    Stand w.variables n (to.temps ++ of.temps) → PlaceFits w l ty (copied to of)
copied_fits w l ty n to of many h k stand =
    let p = h (stand_first w.variables n to.temps of.temps stand) in
    let q = k (stand_rest w.variables n to.temps of.temps stand) in
    let here : stmt_fits (scope w) l (copy to.place of.place) ≡ true =
    both_hold (place_fits (context w) to.place && place_fits (context w) of.place) (is_compound (place_type (context w) to.place) && same_type (place_type (context w) to.place) (place_type (context w) of.place))
    (both_hold (place_fits (context w) to.place) (place_fits (context w) of.place) p.place q.place)
    (subst (λ z. (is_compound z && same_type z (place_type (context w) of.place)) ≡ true) (sym p.type) (subst (λ z. (is_compound ty && same_type ty z) ≡ true) (sym q.type) (both_hold (is_compound ty) (same_type ty ty) many (type_self ty)))) in
    record {
      stmts = fit_both (scope w) l (to.stmts ++ of.stmts) (copy to.place of.place ∷ []) (fit_both (scope w) l to.stmts of.stmts p.stmts q.stmts) (here, tt);
      place = p.place;
      type = p.type;
      own = p.own;
      through = p.through;
      temps = known_both w.names.structs to.temps of.temps p.temps q.temps;
      known = p.known;
    }

pub assigned_fits : (b : Bool) (w : Setting) (l : Bool) (ty : VarTy) (n : ℕ) (to of : LoweredPlace) (v : Lowered) → (b ≡ true → is_compound ty ≡ true) → (b ≡ false → is_scalar (Some ty) ≡ true) → (Stand w.variables n to.temps → PlaceFits w l ty to) →
    (b ≡ true → Stand w.variables (past n to.temps) of.temps → PlaceFits w l ty of) → (b ≡ false → Stand w.variables (past n to.temps) v.temps → LoweredFits w l ty v) →
    Stand w.variables n (assigned b to of v).temps → PlaceFits w l ty (assigned b to of v)
assigned_fits true w l ty n to of v many one h i j stand = copied_fits w l ty n to of (many refl) h (i refl) stand
assigned_fits false w l ty n to of v many one h i j stand = given_fits w l ty n to v (one refl) h (j refl) stand

pub struct_compound : (ty : VarTy) → is_struct (Some ty) ≡ true → is_compound ty ≡ true
struct_compound (Struct n) h = refl
struct_compound (Int a) h = false_not_true h
struct_compound (Array a n) h = false_not_true h
struct_compound (Pointer a g) h = false_not_true h

-- a compound assignment, by its place and its right side
pub compounded_fits : (w : Setting) (l : Bool) (ty : VarTy) (n : ℕ) (s : Span) (step : LinkStep) (a : t.ExprTree) (to : LoweredPlace) (v : Lowered) → r.is_compound step ≡ true → converts (r.stepped (promoted_value (Some ty)) step (ty_of a)) (Some ty) ≡ true →
    (Stand w.variables n to.temps → PlaceFits w l ty to) → (is_struct (ty_of a) ≡ false → Stand w.variables (past n to.temps) v.temps → LoweredFits w l (x.type_of a) v) →
    Stand w.variables n (to.temps ++ v.temps) → PlaceFits w l ty (compounded s step to v)
compounded_fits w l ty n s step a to v comp conv h k stand = go (r.stepped (promoted_value (Some ty)) step (ty_of a)) refl conv
  where
    go : (o : Option VarTy) → r.stepped (promoted_value (Some ty)) step (ty_of a) ≡ o → converts o (Some ty) ≡ true → PlaceFits w l ty (compounded s step to v)
    go None is c = false_not_true c
    go (Some m) is c =
        let o = step_operands step (promoted_value (Some ty)) (ty_of a) m is in
        let scalar = (convert_known 0 (Some m) (Some ty) c).1 in
        let p = h (stand_first w.variables n to.temps v.temps stand) in
        let y = k (subst (λ z. is_struct z ≡ false) (sym o.by) (no_struct (Some o.right) o.right_scalar)) (stand_rest w.variables n to.temps v.temps stand) in
        let value = subst (λ z. ValueFits (context w) z v.value) (type_is a o.right o.by) y.value in
        let rule : converts (r.stepped (promoted_value (Some ty)) step (Some o.right)) (Some ty) ≡ true = subst (λ z. converts (r.stepped (promoted_value (Some ty)) step z) (Some ty) ≡ true) o.by conv in
        let old = read_fits (context w) to.place ty p.place p.type scalar in
        let new = compound_fits (context w) step ty o.right (read to.place) v.value s comp rule old value in
        let moved : ValueFits (context w) ty (stored to.ty step (stepped to.ty step (read to.place) v.value s)) = subst (λ z. ValueFits (context w) ty (stored z step (stepped z step (read to.place) v.value s))) (sym p.own) new in
        record {
          stmts = fit_both (scope w) l (to.stmts ++ v.stmts) (assign to.place (stored to.ty step (stepped to.ty step (read to.place) v.value s)) ∷ []) (fit_both (scope w) l to.stmts v.stmts p.stmts y.stmts)
              (assign_fits w l to.place ty (stored to.ty step (stepped to.ty step (read to.place) v.value s)) p.place p.type scalar moved, tt);
          place = p.place;
          type = p.type;
          own = p.own;
          through = p.through;
          temps = known_both w.names.structs to.temps v.temps p.temps y.temps;
          known = p.known;
        }

-- `++` and `--`
counted_here : (w : Setting) (l : Bool) (ty : VarTy) (s : Span) (back : Bool) (to : LoweredPlace) → is_scalar (Some ty) ≡ true → PlaceFits w l ty to → stmt_fits (scope w) l (assign to.place (stored to.ty (unit_step to.ty back) (stepped to.ty (unit_step to.ty back) (read to.place) (unit_of to.ty) s))) ≡ true
counted_here w l ty s back to scalar p =
    let new = counted_fits (context w) ty back (read to.place) s scalar (read_fits (context w) to.place ty p.place p.type scalar) in
    let moved : ValueFits (context w) ty (stored to.ty (unit_step to.ty back) (stepped to.ty (unit_step to.ty back) (read to.place) (unit_of to.ty) s)) =
    subst (λ z. ValueFits (context w) ty (stored z (unit_step z back) (stepped z (unit_step z back) (read to.place) (unit_of z) s))) (sym p.own) new in
    assign_fits w l to.place ty (stored to.ty (unit_step to.ty back) (stepped to.ty (unit_step to.ty back) (read to.place) (unit_of to.ty) s)) p.place p.type scalar moved

pub counted_place : (w : Setting) (l : Bool) (ty : VarTy) (n : ℕ) (s : Span) (back : Bool) (to : LoweredPlace) → is_scalar (Some ty) ≡ true → (Stand w.variables n to.temps → PlaceFits w l ty to) → Stand w.variables n (counted s back to).temps → PlaceFits w l ty (counted s back to)
counted_place w l ty n s back to scalar h stand =
    let p = h (stand_first w.variables n to.temps [] stand) in
    record {
      stmts = fit_both (scope w) l (to.stmts ++ []) (assign to.place (stored to.ty (unit_step to.ty back) (stepped to.ty (unit_step to.ty back) (read to.place) (unit_of to.ty) s)) ∷ []) (fit_both (scope w) l to.stmts [] p.stmts tt) (counted_here w l ty s back to scalar p, tt);
      place = p.place;
      type = p.type;
      own = p.own;
      through = p.through;
      temps = known_both w.names.structs to.temps [] p.temps tt;
      known = p.known;
    }

pub counted_after_fits : (w : Setting) (l : Bool) (ty : VarTy) (n : ℕ) (s : Span) (back : Bool) (y : Temp) (to : LoweredPlace) → is_scalar (Some ty) ≡ true → y.ty ≡ to.ty → (Stand w.variables n to.temps → PlaceFits w l ty to) →
    Stand w.variables n (counted_after s back (past n to.temps) y to).temps → LoweredFits w l ty (counted_after s back (past n to.temps) y to)
counted_after_fits w l ty n s back y to scalar same h stand =
    let all = stand_first w.variables n (to.temps ++ y ∷ []) [] stand in
    let p = h (stand_first w.variables n to.temps (y ∷ []) all) in
    let own : slice_get w.variables (past n to.temps) ≡ Some ty = (stand_rest w.variables n to.temps (y ∷ []) all).0 ∙ ap Some (same ∙ p.own) in
    let kept = subst (λ z. is_known w.names.structs z ≡ true) (sym (same ∙ p.own)) (both_hold (is_scalar (Some ty)) (is_variable_type (length w.names.structs) ty) scalar p.known) in
    record {
      stmts = fit_both (scope w) l (to.stmts ++ hold (past n to.temps) (read to.place) ∷ [] ++ []) (assign to.place (stored to.ty (unit_step to.ty back) (stepped to.ty (unit_step to.ty back) (read to.place) (unit_of to.ty) s)) ∷ [])
          (fit_both (scope w) l (to.stmts ++ hold (past n to.temps) (read to.place) ∷ []) [] (fit_both (scope w) l to.stmts (hold (past n to.temps) (read to.place) ∷ []) p.stmts (hold_fits w l (past n to.temps) ty (read to.place) own scalar (read_fits (context w) to.place ty p.place p.type scalar), tt)) tt)
          (counted_here w l ty s back to scalar p, tt);
      value = temp_value w (past n to.temps) ty own scalar;
      temps = known_both w.names.structs (to.temps ++ y ∷ []) [] (known_both w.names.structs to.temps (y ∷ []) p.temps (kept, tt)) tt;
      known = p.known;
    }

-- ---- calls

pub record ArgumentsFit (w : Setting) (l : Bool) (ps : List Param) (a : Arguments) : Type 0 where
  pub stmts : Fit (scope w) l a.stmts
  pub values : core.arguments_fit (context w) ps (expr_trees a.values) ≡ true
  pub temps : Known w.names.structs a.temps

pub param_scalar : (p : ParamKind) → is_scalar (Some (param_type p)) ≡ true
param_scalar (k.Int t) = refl
param_scalar (k.Ptr a g) = refl

pub argument_scalar : (a : t.ExprTree) (p : ParamKind) → same_types (ty_of a) (Some (param_type p)) ≡ true → is_scalar (Some (x.type_of a)) ≡ true
argument_scalar a p h = subst (λ z. is_scalar (Some z) ≡ true) (sym (type_is a (param_type p) (equal_options (ty_of a) (Some (param_type p)) h))) (param_scalar p)

pub argument_no_struct : (a : t.ExprTree) (p : ParamKind) → same_types (ty_of a) (Some (param_type p)) ≡ true → is_struct (ty_of a) ≡ false
argument_no_struct a p h = subst (λ z. is_struct z ≡ false) (sym (equal_options (ty_of a) (Some (param_type p)) h)) (no_struct (Some (param_type p)) (param_scalar p))

pub argued_fits : (w : Setting) (l : Bool) (n : ℕ) (p : Param) (ps : List Param) (a : t.ExprTree) (v : Lowered) (rest : Arguments) → same_types (ty_of a) (Some (param_type p.kind)) ≡ true →
    (Stand w.variables n v.temps → LoweredFits w l (x.type_of a) v) → (Stand w.variables (past n v.temps) rest.temps → ArgumentsFit w l ps rest) → Stand w.variables n (v.temps ++ rest.temps) → ArgumentsFit w l (p ∷ ps) (argued v rest)
argued_fits w l n p ps a v rest same h k stand =
    let y = h (stand_first w.variables n v.temps rest.temps stand) in
    let others = k (stand_rest w.variables n v.temps rest.temps stand) in
    let value = subst (λ z. ValueFits (context w) z v.value) (type_is a (param_type p.kind) (equal_options (ty_of a) (Some (param_type p.kind)) same)) y.value in
    record {
      stmts = fit_both (scope w) l v.stmts rest.stmts y.stmts others.stmts;
      values = both_hold (value_fits (context w) (param_type p.kind) v.value) (core.arguments_fit (context w) ps (expr_trees rest.values)) (both_hold (expr_fits (context w) v.value) (stands_for (type_of (context w) v.value) (param_type p.kind)) value.fits value.type) others.values;
      temps = known_both w.names.structs v.temps rest.temps y.temps others.temps;
    }

-- what is called, and with what
pub record Called (w : Setting) (g : ℕ) (arguments : ExprTrees) (t : Option VarTy) : Type 0 where
  pub signature : Signature
  pub is : w.called g ≡ Some signature
  pub other : not (is_main signature) ≡ true
  pub given : f.arguments_fit signature.params arguments ≡ true
  pub result : t ≡ option_map Int signature.result

pub called_is : (w : Setting) (g : ℕ) (arguments : ExprTrees) (t : Option VarTy) → Agrees w → f.call_fits (slice_get w.names.signatures g) arguments t ≡ true → Called w g arguments t
called_is w g arguments t a h = go (slice_get w.names.signatures g) refl h
  where
    go : (o : Option Signature) → slice_get w.names.signatures g ≡ o → f.call_fits o arguments t ≡ true → Called w g arguments t
    go None is h = false_not_true h
    go (Some s) is h =
        let rest = both_hold_second (not (is_main s)) (f.arguments_fit s.params arguments && same_types t (option_map Int s.result)) h in
        record {
          signature = s;
          is = a.calls g ∙ is;
          other = both_hold_first (not (is_main s)) (f.arguments_fit s.params arguments && same_types t (option_map Int s.result)) h;
          given = both_hold_first (f.arguments_fit s.params arguments) (same_types t (option_map Int s.result)) rest;
          result = equal_options t (option_map Int s.result) (both_hold_second (f.arguments_fit s.params arguments) (same_types t (option_map Int s.result)) rest);
        }

call_here : (w : Setting) (l : Bool) (g : ℕ) (s : Span) (v : Option ℕ) (arguments : ExprTrees) (t : Option VarTy) (c : Called w g arguments t) (args : Arguments) → core.arguments_fit (context w) c.signature.params (expr_trees args.values) ≡ true → result_fits (context w) c.signature.result v ≡ true →
    stmt_fits (scope w) l (call g (expr_trees args.values) v s) ≡ true
call_here w l g s v arguments t c args h k = subst (λ z. call_fits (context w) z (expr_trees args.values) v ≡ true) (sym c.is)
    (both_hold (not (is_main c.signature)) (core.arguments_fit (context w) c.signature.params (expr_trees args.values) && result_fits (context w) c.signature.result v) c.other
    (both_hold (core.arguments_fit (context w) c.signature.params (expr_trees args.values)) (result_fits (context w) c.signature.result v) h k))

-- a call whose result is dropped
pub call_drops : (w : Setting) (l : Bool) (n g : ℕ) (s : Span) (arguments : ExprTrees) (t : Option VarTy) (args : Arguments) → (c : Called w g arguments t) → (Stand w.variables n args.temps → ArgumentsFit w l c.signature.params args) →
    Stand w.variables n (args.temps ++ []) → EffectsFit w l (call_effects g s None [] args).stmts (call_effects g s None [] args).temps
call_drops w l n g s arguments t args c h stand =
    let a = h (stand_first w.variables n args.temps [] stand) in
    record { stmts = fit_both (scope w) l args.stmts (call g (expr_trees args.values) None s ∷ []) a.stmts (call_here w l g s None arguments t c args a.values refl, tt); temps = known_both w.names.structs args.temps [] a.temps tt }

result_int : (o : Option IntType) (ty : VarTy) → Some ty ≡ option_map Int o → is_scalar (Some ty) ≡ true
result_int None ty h = cc
result_int (Some t) ty h = subst (λ z. is_scalar (Some z) ≡ true) (sym (one_type ty (Int t) h)) refl

result_known : (n : ℕ) (o : Option IntType) (ty : VarTy) → Some ty ≡ option_map Int o → is_variable_type n ty ≡ true
result_known n None ty h = cc
result_known n (Some t) ty h = subst (λ z. is_variable_type n z ≡ true) (sym (one_type ty (Int t) h)) refl

result_here : (c : Context) (o : Option IntType) (v : ℕ) (ty : VarTy) → Some ty ≡ option_map Int o → nat_lt v (length c.variables) ≡ true → type_at c.variables v ≡ ty → result_fits c o (Some v) ≡ true
result_here c o v ty h k is = both_hold (nat_lt v (length c.variables)) (same_types (option_map Int o) (Some (type_at c.variables v))) k
    (subst (λ z. same_types z (Some (type_at c.variables v)) ≡ true) h (subst (λ z. same_types (Some ty) (Some z) ≡ true) (sym is) (type_self ty)))

pub called_lowers : (w : Setting) (l : Bool) (n g : ℕ) (s : Span) (whole : t.ExprTree) (arguments : ExprTrees) (t : Option VarTy) (args : Arguments) (c : Called w g arguments t) → (Stand w.variables n args.temps → ArgumentsFit w l c.signature.params args) →
    Stand w.variables n (called g s t whole n args).temps → LoweredFits w l (type_or_int t) (called g s t whole n args)
called_lowers w l n g s whole arguments None args c h stand = nothing_fits w l (call_effects g s None [] args) (call_drops w l n g s arguments None args c h stand)
called_lowers w l n g s whole arguments (Some ty) args c h stand =
    let own = holding ty whole ∷ [] in
    let a = h (stand_first w.variables n args.temps own stand) in
    let here = (stand_rest w.variables n args.temps own stand).0 in
    let scalar = result_int c.signature.result ty c.result in
    let known = result_known (length w.names.structs) c.signature.result ty c.result in
    let result = result_here (context w) c.signature.result (past n args.temps) ty c.result (in_list w.variables (past n args.temps) ty here) (get_or_from_slice_get w.variables (past n args.temps) ty (Int i.Int) here) in
    record {
      stmts = fit_both (scope w) l args.stmts (call g (expr_trees args.values) (Some (past n args.temps)) s ∷ []) a.stmts (call_here w l g s (Some (past n args.temps)) arguments (Some ty) c args a.values result, tt);
      value = temp_value w (past n args.temps) ty here scalar;
      temps = known_both w.names.structs args.temps own a.temps (both_hold (is_scalar (Some ty)) (is_variable_type (length w.names.structs) ty) scalar known, tt);
      known = known;
    }
