-- All expressions and places.
use Rattle.std.proofs.Common.{◌≡◌, ◌∙◌, ℕ, refl, ap, sym, subst, Bool, true, false, Some, List}
use Rattle.std.specs.Prelude.{IsTrue, ◌&&◌, ◌||◌, is_some}
use Rattle.pt_base.specs.declared.span.Span.{Span}
use Rattle.pt_base.proofs.Booleans.{both_hold_first, both_hold_second, true_not_false}
use Rattle.pt_int.specs.declared.operator.BinOp.{BinOp}
use Rattle.pt_tree.specs.declared.signature.Elem.{Elem}
use Rattle.typed_tree.specs.declared.types.VarTy.{VarTy}
use Rattle.typed_tree.specs.declared.types.VarTy.TheVariants as v
use Rattle.typed_tree.specs.declared.link.LinkStep.TheVariants.{Move, Difference, Compare}
use Rattle.typed_tree.specs.TypeTests.{is_scalar, integer_of, pointee_of, element_of, item_of, both_elem}
use Rattle.typed_tree.specs.TypeRules.{stepped, is_comparison}
use Rattle.check_declarations.specs.Structs.{Structs}
use Rattle.check_expressions.specs.Environment.{Env}
use Rattle.pt_core.specs.CodeTree.{RootTree, local, global, deref, PlaceTree, place, ExprTree, constant, read, unary, binary, convert, null, address, decay, move, compare, difference}
use Rattle.pt_core.specs.Types.{type_of, place_type, root_type}
use Rattle.pt_core.specs.WellFormedExpression.{expr_fits, place_fits, root_fits, is_path, is_addressed, takes_one, takes_two}
use Rattle.half_trees.specs.Expressions as h
use Rattle.half_trees.specs.Expressions.{expression_tree, place_tree, root_tree}
use Rattle.half_meaning_law.specs.Relations.{Scene}
use Rattle.half_meaning_law.specs.CForms.{is_null, stands, place_stands, root_stands}
use Rattle.half_meaning_law.specs.Known.{Known}
use Rattle.half_meaning_law.specs.Expressions.{SceneFits, ExpressionsKeepTheirMeaning, PlacesKeepTheirMeaning}
use Rattle.half_meaning_law.proofs.Judged.{Held}
use Rattle.half_meaning_law.proofs.PlaceLaw.{PlaceHeld, local_held, global_held, deref_held}
use Rattle.half_meaning_law.proofs.Values.{read_held, decay_held, address_held}
use Rattle.half_meaning_law.proofs.Numbers.{unary_held, convert_held, constant_held}
use Rattle.half_meaning_law.proofs.Links.{pair_held, no_logical}
use Rattle.half_meaning_law.proofs.Operands.{binary_held, move_held}
use Rattle.half_meaning_law.proofs.Comparisons.{both_pointers, compare_fits, difference_held, right_null_held, left_null_held, int_if}

pub null_is : (b : ExprTree) → is_null b ≡ true → (elem : Elem) × (b ≡ null elem)
null_is (null elem) h = (elem, refl)
null_is (constant t n) h = true_not_false (sym h)
null_is (read q) h = true_not_false (sym h)
null_is (unary op t a sp) h = true_not_false (sym h)
null_is (binary op t a b sp) h = true_not_false (sym h)
null_is (convert t a) h = true_not_false (sym h)
null_is (address q) h = true_not_false (sym h)
null_is (decay q) h = true_not_false (sym h)
null_is (move a b back sp) h = true_not_false (sym h)
null_is (compare op a b sp) h = true_not_false (sym h)
null_is (difference a b sp) h = true_not_false (sym h)

same_left : (elem : Elem) (d : VarTy) → both_elem (Some elem) (pointee_of (Some d)) ≡ true → (g : Bool) × (d ≡ v.Pointer elem g)
same_left elem d h =
    let p = both_pointers (v.Pointer elem false) d h in
    (p.2, p.4 ∙ ap (λ z. v.Pointer (elem_in z) p.2) (sym p.3))
  where
    elem_in : VarTy → Elem
    elem_in (v.Int t) = elem
    elem_in (v.Struct n) = elem
    elem_in (v.Array el count) = elem
    elem_in (v.Pointer el f) = el

left_pointer : (c d : VarTy) → both_elem (pointee_of (Some c)) (pointee_of (Some d)) ≡ true → IsTrue (is_some (pointee_of (Some c)))
left_pointer c d h = let p = both_pointers c d h in ap (λ z. is_some (pointee_of (Some z))) p.3

-- what holds of an operand, where it may stand alone
abbrev pub Alone : Scene → Env → Structs → ExprTree → Type 0
Alone s env structs a = IsTrue (stands a) → Held s env structs a (expression_tree s.context a)

-- null may stand on one side
compare_cases : (s : Scene) (env : Env) (structs : Structs) (op : BinOp) (a b : ExprTree) (sp : Span) → SceneFits s → IsTrue (is_some (stepped (Some (type_of s.context a)) (Compare op) (Some (type_of s.context b)))) →
    Alone s env structs a → Alone s env structs b → (x y z u : Bool) → stands a ≡ x → stands b ≡ y → is_null b ≡ z → is_null a ≡ u → IsTrue ((x && (y || z)) || (u && y)) → Held s env structs (compare op a b sp) (h.linked (h.operator_of op) (expression_tree s.context a) (expression_tree s.context b))
compare_cases s env structs op a b sp fits ok left right x y z u ex ey ez eu on = go x y z u ex ey ez eu on
  where
    both : (is_comparison op && both_elem (pointee_of (Some (type_of s.context a))) (pointee_of (Some (type_of s.context b)))) ≡ true
    both = int_if (is_comparison op && both_elem (pointee_of (Some (type_of s.context a))) (pointee_of (Some (type_of s.context b)))) ok

    tells : is_comparison op ≡ true
    tells = both_hold_first (is_comparison op) (both_elem (pointee_of (Some (type_of s.context a))) (pointee_of (Some (type_of s.context b)))) both

    elems : both_elem (pointee_of (Some (type_of s.context a))) (pointee_of (Some (type_of s.context b))) ≡ true
    elems = both_hold_second (is_comparison op) (both_elem (pointee_of (Some (type_of s.context a))) (pointee_of (Some (type_of s.context b)))) both

    two : stands a ≡ true → stands b ≡ true → Held s env structs (compare op a b sp) (h.linked (h.operator_of op) (expression_tree s.context a) (expression_tree s.context b))
    two p q =
        let r = both_pointers (type_of s.context a) (type_of s.context b) elems in
        pair_held s env structs a b (compare op a b sp) (h.operator_of op) (expression_tree s.context a) (expression_tree s.context b) (no_logical op) (compare_fits s op a b sp r.0 r.1 r.2 fits.numbers tells r.3 r.4) (left p) (right q)

    on_right : stands a ≡ true → is_null b ≡ true → Held s env structs (compare op a b sp) (h.linked (h.operator_of op) (expression_tree s.context a) (expression_tree s.context b))
    on_right p q =
        let r = null_is b q in
        subst (λ k. Held s env structs (compare op a k sp) (h.linked (h.operator_of op) (expression_tree s.context a) (expression_tree s.context k))) (sym r.1)
        (right_null_held s env structs op a r.0 sp (expression_tree s.context a) fits.numbers tells (left_pointer (type_of s.context a) (type_of s.context b) elems) (left p))

    on_left : is_null a ≡ true → stands b ≡ true → Held s env structs (compare op a b sp) (h.linked (h.operator_of op) (expression_tree s.context a) (expression_tree s.context b))
    on_left p q =
        let r = null_is a p in
        let t = same_left r.0 (type_of s.context b) (subst (λ k. both_elem (pointee_of (Some (type_of s.context k))) (pointee_of (Some (type_of s.context b))) ≡ true) r.1 elems) in
        subst (λ k. Held s env structs (compare op k b sp) (h.linked (h.operator_of op) (expression_tree s.context k) (expression_tree s.context b))) (sym r.1)
        (left_null_held s env structs op b r.0 t.0 sp (expression_tree s.context b) fits.numbers tells t.1 (right q))

    go : (x y z u : Bool) → stands a ≡ x → stands b ≡ y → is_null b ≡ z → is_null a ≡ u → IsTrue ((x && (y || z)) || (u && y)) → Held s env structs (compare op a b sp) (h.linked (h.operator_of op) (expression_tree s.context a) (expression_tree s.context b))
    go true true z u ex ey ez eu on = two ex ey
    go true false true u ex ey ez eu on = on_right ex ez
    go true false false true ex ey ez eu on = true_not_false (sym on)
    go true false false false ex ey ez eu on = true_not_false (sym on)
    go false true z true ex ey ez eu on = on_left eu ey
    go false true z false ex ey ez eu on = true_not_false (sym on)
    go false false z true ex ey ez eu on = true_not_false (sym on)
    go false false z false ex ey ez eu on = true_not_false (sym on)

mutual
  pub expr_held : (s : Scene) (env : Env) (structs : Structs) (e : ExprTree) → SceneFits s → Known s env structs → IsTrue (expr_fits s.context e) → IsTrue (stands e) → Held s env structs e (expression_tree s.context e)
  expr_held s env structs (constant t n) fits known ok on = constant_held s env structs t n ok
  expr_held s env structs (read q) fits known ok on =
      read_held s env structs q (place_tree s.context q) (both_hold_second (place_fits s.context q) (is_scalar (Some (place_type s.context q))) ok)
      (place_held s env structs q fits known (both_hold_first (place_fits s.context q) (is_scalar (Some (place_type s.context q))) ok) on)
  expr_held s env structs (unary op t a sp) fits known ok on =
      unary_held s env structs op t a sp (expression_tree s.context a) (both_hold_second (expr_fits s.context a) (takes_one op t (type_of s.context a)) ok)
      (expr_held s env structs a fits known (both_hold_first (expr_fits s.context a) (takes_one op t (type_of s.context a)) ok) on)
  expr_held s env structs (binary op t a b sp) fits known ok on =
      let both = both_hold_first (expr_fits s.context a && expr_fits s.context b) (takes_two op t (type_of s.context a) (type_of s.context b)) ok in
      binary_held s env structs op t a b sp (expression_tree s.context a) (expression_tree s.context b) (both_hold_second (expr_fits s.context a && expr_fits s.context b) (takes_two op t (type_of s.context a) (type_of s.context b)) ok)
      (expr_held s env structs a fits known (both_hold_first (expr_fits s.context a) (expr_fits s.context b) both) (both_hold_first (stands a) (stands b) on))
      (expr_held s env structs b fits known (both_hold_second (expr_fits s.context a) (expr_fits s.context b) both) (both_hold_second (stands a) (stands b) on))
  expr_held s env structs (convert t a) fits known ok on =
      convert_held s env structs t a (expression_tree s.context a) (both_hold_second (expr_fits s.context a) (is_some (integer_of (Some (type_of s.context a)))) ok)
      (expr_held s env structs a fits known (both_hold_first (expr_fits s.context a) (is_some (integer_of (Some (type_of s.context a)))) ok) on)
  expr_held s env structs (null elem) fits known ok on = true_not_false (sym on)
  expr_held s env structs (address q) fits known ok on =
      let more = both_hold_second (place_fits s.context q) (is_addressed q && is_some (element_of (Some (place_type s.context q)))) ok in
      address_held s env structs q (place_tree s.context q) (both_hold_first (is_addressed q) (is_some (element_of (Some (place_type s.context q)))) more) (both_hold_second (is_addressed q) (is_some (element_of (Some (place_type s.context q)))) more)
      (place_held s env structs q fits known (both_hold_first (place_fits s.context q) (is_addressed q && is_some (element_of (Some (place_type s.context q)))) ok) on)
  expr_held s env structs (decay q) fits known ok on =
      decay_held s env structs q (place_tree s.context q) (both_hold_second (place_fits s.context q) (is_some (item_of (Some (place_type s.context q)))) ok)
      (place_held s env structs q fits known (both_hold_first (place_fits s.context q) (is_some (item_of (Some (place_type s.context q)))) ok) on)
  expr_held s env structs (move a b back sp) fits known ok on =
      let both = both_hold_first (expr_fits s.context a && expr_fits s.context b) (is_some (stepped (Some (type_of s.context a)) (Move back) (Some (type_of s.context b)))) ok in
      move_held s env structs a b back sp (expression_tree s.context a) (expression_tree s.context b) (both_hold_second (expr_fits s.context a && expr_fits s.context b) (is_some (stepped (Some (type_of s.context a)) (Move back) (Some (type_of s.context b)))) ok)
      (expr_held s env structs a fits known (both_hold_first (expr_fits s.context a) (expr_fits s.context b) both) (both_hold_first (stands a) (stands b) on))
      (expr_held s env structs b fits known (both_hold_second (expr_fits s.context a) (expr_fits s.context b) both) (both_hold_second (stands a) (stands b) on))
  expr_held s env structs (compare op a b sp) fits known ok on =
      let both = both_hold_first (expr_fits s.context a && expr_fits s.context b) (is_some (stepped (Some (type_of s.context a)) (Compare op) (Some (type_of s.context b)))) ok in
      compare_cases s env structs op a b sp fits (both_hold_second (expr_fits s.context a && expr_fits s.context b) (is_some (stepped (Some (type_of s.context a)) (Compare op) (Some (type_of s.context b)))) ok)
      (λ one. expr_held s env structs a fits known (both_hold_first (expr_fits s.context a) (expr_fits s.context b) both) one)
      (λ one. expr_held s env structs b fits known (both_hold_second (expr_fits s.context a) (expr_fits s.context b) both) one)
      (stands a) (stands b) (is_null b) (is_null a) refl refl refl refl on
  expr_held s env structs (difference a b sp) fits known ok on =
      let both = both_hold_first (expr_fits s.context a && expr_fits s.context b) (is_some (stepped (Some (type_of s.context a)) Difference (Some (type_of s.context b)))) ok in
      difference_held s env structs a b sp (expression_tree s.context a) (expression_tree s.context b) fits.numbers (both_hold_second (expr_fits s.context a && expr_fits s.context b) (is_some (stepped (Some (type_of s.context a)) Difference (Some (type_of s.context b)))) ok)
      (expr_held s env structs a fits known (both_hold_first (expr_fits s.context a) (expr_fits s.context b) both) (both_hold_first (stands a) (stands b) on))
      (expr_held s env structs b fits known (both_hold_second (expr_fits s.context a) (expr_fits s.context b) both) (both_hold_second (stands a) (stands b) on))

  pub place_held : (s : Scene) (env : Env) (structs : Structs) (q : PlaceTree) → SceneFits s → Known s env structs → IsTrue (place_fits s.context q) → IsTrue (place_stands q) → PlaceHeld s env structs q (place_tree s.context q)
  place_held s env structs (place root path) fits known ok on =
      root_held s env structs root path fits known (both_hold_first (root_fits s.context root) (is_path s.context.structs (root_type s.context root) path) ok) (both_hold_second (root_fits s.context root) (is_path s.context.structs (root_type s.context root) path) ok) on

  root_held : (s : Scene) (env : Env) (structs : Structs) (root : RootTree) (path : List ℕ) → SceneFits s → Known s env structs → IsTrue (root_fits s.context root) → IsTrue (is_path s.context.structs (root_type s.context root) path) → IsTrue (root_stands root) →
      PlaceHeld s env structs (place root path) (root_tree s.context root path)
  root_held s env structs (local n) path fits known ok way on = local_held s env structs n path fits known ok way
  root_held s env structs (global g) path fits known ok way on = global_held s env structs g path known ok way
  root_held s env structs (deref a sp) path fits known ok way on =
      deref_held s env structs a sp path known (both_hold_second (expr_fits s.context a) (is_some (pointee_of (Some (type_of s.context a)))) ok) way
      (expr_held s env structs a fits known (both_hold_first (expr_fits s.context a) (is_some (pointee_of (Some (type_of s.context a)))) ok) on)

-- ---- the laws

pub expressions : ExpressionsKeepTheirMeaning
expressions s env structs e fits known ok on = (expr_held s env structs e fits known ok on).means

pub places : PlacesKeepTheirMeaning
places s env structs q fits known ok on =
    let h = (place_held s env structs q fits known ok on).means in
    record { fine = h.fine; typed = h.object.typed; designates = h.object.designates; fixed = h.object.fixed; same = h.object.same }
