-- A raised expression is well formed where there is a function for each of its sites.
use Rattle.std.proofs.Common.{◌≡◌, ◌∙◌, ◌+◌, ℕ, refl, ap, sym, subst, arith, Bool, true, false, Option, Some, None, List, [], ◌∷◌, ◌++◌, length, map}
use Rattle.std.specs.Prelude.{IsTrue, ◌&&◌, ◌||◌, not, if◌then◌else◌, slice_get, option_map}
use Rattle.pt_base.specs.declared.int_type.IntType.{IntType}
use Rattle.pt_base.specs.declared.span.Span.{Span}
use Rattle.pt_base.proofs.Booleans.{and_true_first, and_true_second, both_hold, both_hold_first, both_hold_second}
use Rattle.pt_base.proofs.Places.{get_kept}
use Rattle.pt_int.specs.declared.operator.UnOp.{UnOp}
use Rattle.pt_tree.specs.declared.signature.Signature.{Signature}
use Rattle.typed_tree.specs.declared.link.LinkStep.{LinkStep}
use Rattle.typed_tree.specs.declared.types.VarTy.{VarTy}
use Rattle.typed_tree.specs.declared.types.VarTy.TheVariants.{Int}
use Rattle.typed_tree.specs.ExpressionTree as t
use Rattle.typed_tree.specs.ExpressionTree.{ExprTree, FormTree, ExprTrees, LinkTree, LinkTrees, OperandTrees, PlaceTree, RootTree, StepTrees, typed, no_exprs, expr_and, link, no_links, link_and, operand, no_operands, operand_and, place, no_steps, step_and, link_trees, expr_trees}
use Rattle.typed_tree.specs.TypeRules.{converts, stepped, unary_fits, is_compound, promoted_value, int}
use Rattle.typed_tree.specs.TypeTests.{both_elem, element_of, is_scalar, is_value, item_of, pointee_of, same_types}
use Rattle.typed_tree.specs.WellFormedExpression.{Names, ty_of, is_main, arguments_fit, call_fits, keeps_const, has_links, has_operands, is_addressed, is_written, place_const, place_type, is_typed, form_fits, all_typed, links_fit, operands_fit, place_fits, root_fits, steps_fit}
use Rattle.typed_tree.proofs.SameTypes.{equal_options}
use Rattle.lifted_trees.specs.Sites.{before, conversion, between, SiteTree, Secrets, span_of, same_span, is_number, int_of, changes_int, is_operator, left_type, secret_behind, unary_site, conversion_site, left_site, step_site, sites_in, form_sites, taken_sites, links_sites, operands_sites, all_sites_in, place_sites, root_sites, steps_sites}
use Rattle.lifted_trees.specs.Lifted.{Callees, number_in, op_signature, marked_param, operand_types, request, chain_of, left_operand, raised, raised_form, raised_operand, raised_links, raised_operands, raised_all, raised_place, raised_root, raised_steps}
use Rattle.lifted_trees.proofs.Eaches.{Each, each_first, each_second, each_here, one_site, no_sites}
use Rattle.lifted_trees.proofs.OperatorLemmas.{changes_numbers, number_is, options_same, options_self, step_numbers, unary_number, unchanged_is}
use Rattle.lifted_trees.proofs.KeptLemmas as kept

-- the steps lead on by one more
links_pushed : (n : Names) (xs : List LinkTree) (a b : Option VarTy) (s : Span) (to : VarTy) (op : LinkStep) (e : ExprTree) →
    IsTrue (links_fit n a (link_trees xs) b) → IsTrue (is_typed n e) → stepped b op (ty_of e) ≡ Some to → IsTrue (links_fit n a (link_trees (xs ++ link s to op e ∷ [])) (Some to))
links_pushed n [] a b s to op e h k is =
    let same : a ≡ b = equal_options a b h in
    both_hold (is_typed n e) (same_types (stepped a op (ty_of e)) (Some to) && same_types (Some to) (Some to)) k
    (both_hold (same_types (stepped a op (ty_of e)) (Some to)) (same_types (Some to) (Some to)) (options_same (stepped a op (ty_of e)) (Some to) (ap (λ x. stepped x op (ty_of e)) same ∙ is)) (options_self (Some to)))
links_pushed n (link z ty o x ∷ xs) a b s to op e h k is =
    let types = both_hold_second (is_typed n x) (same_types (stepped a o (ty_of x)) (Some ty) && links_fit n (Some ty) (link_trees xs) b) h in
    both_hold (is_typed n x) (same_types (stepped a o (ty_of x)) (Some ty) && links_fit n (Some ty) (link_trees (xs ++ link s to op e ∷ [])) (Some to)) (both_hold_first _ _ h)
    (both_hold (same_types (stepped a o (ty_of x)) (Some ty)) (links_fit n (Some ty) (link_trees (xs ++ link s to op e ∷ [])) (Some to)) (both_hold_first _ _ types)
    (links_pushed n xs (Some ty) b s to op e (both_hold_second (same_types (stepped a o (ty_of x)) (Some ty)) _ types) k is))

-- a chain of which the steps lead so far is well formed
chain_typed : (n : Names) (base : ExprTree) (xs : List LinkTree) (ty : Option VarTy) → IsTrue (is_typed n base) → IsTrue (links_fit n (ty_of base) (link_trees xs) ty) → IsTrue (form_fits n (chain_of base xs) ty)
chain_typed n (typed s u f) [] ty h k = subst (λ x. IsTrue (form_fits n f x)) (equal_options u ty k) h
chain_typed n base (x ∷ xs) ty h k =
    both_hold (is_typed n base) (has_links (link_trees (x ∷ xs)) && links_fit n (ty_of base) (link_trees (x ∷ xs)) ty) h k

module _ (n : Names) (more : List Signature) (c : Callees) (p : Secrets) where
  abbrev pub grown : Names
  grown = record n { signatures = n.signatures ++ more }

  -- the function of a site stands at its number
  abbrev pub HasRequest : ℕ → SiteTree → Type 0
  HasRequest j x = slice_get (n.signatures ++ more) (c.first + number_in c.order j) ≡ Some (op_signature (number_in c.order j) x)

  -- ---- requests

  request_typed : (j : ℕ) (x : SiteTree) (es : List ExprTree) (ty : Option VarTy) → HasRequest j x → IsTrue (all_typed grown (expr_trees es)) →
      IsTrue (arguments_fit (map marked_param (operand_types x.operation)) (expr_trees es)) → ty ≡ Some (Int x.result) → IsTrue (form_fits grown (request c j es) ty)
  request_typed j x es ty has typed_ones fits is =
      both_hold (all_typed grown (expr_trees es)) (call_fits (slice_get (n.signatures ++ more) (c.first + number_in c.order j)) (expr_trees es) ty) typed_ones
      (subst (λ o. IsTrue (call_fits o (expr_trees es) ty)) (sym has)
      (both_hold (arguments_fit (map marked_param (operand_types x.operation)) (expr_trees es)) (same_types ty (Some (Int x.result))) fits (options_same ty (Some (Int x.result)) is)))

  request_of_one : (j : ℕ) (x : SiteTree) (a : ExprTree) (u : IntType) (ty : Option VarTy) → HasRequest j x → operand_types x.operation ≡ u ∷ [] →
      IsTrue (is_typed grown a) → ty_of a ≡ Some (Int u) → ty ≡ Some (Int x.result) → IsTrue (form_fits grown (request c j (a ∷ [])) ty)
  request_of_one j x a u ty has types h of is =
      request_typed j x (a ∷ []) ty has (both_hold (is_typed grown a) true h refl)
      (subst (λ us. IsTrue (arguments_fit (map marked_param us) (expr_trees (a ∷ [])))) (sym types) (both_hold (same_types (ty_of a) (Some (Int u))) true (options_same (ty_of a) (Some (Int u)) of) refl)) is

  request_of_two : (j : ℕ) (x : SiteTree) (a b : ExprTree) (u v : IntType) (ty : Option VarTy) → HasRequest j x → operand_types x.operation ≡ u ∷ v ∷ [] →
      IsTrue (is_typed grown a) → ty_of a ≡ Some (Int u) → IsTrue (is_typed grown b) → ty_of b ≡ Some (Int v) → ty ≡ Some (Int x.result) →
      IsTrue (form_fits grown (request c j (a ∷ b ∷ [])) ty)
  request_of_two j x a b u v ty has types h of k by is =
      request_typed j x (a ∷ b ∷ []) ty has (both_hold (is_typed grown a) (is_typed grown b && true) h (both_hold (is_typed grown b) true k refl))
      (subst (λ us. IsTrue (arguments_fit (map marked_param us) (expr_trees (a ∷ b ∷ [])))) (sym types)
      (both_hold (same_types (ty_of a) (Some (Int u))) (same_types (ty_of b) (Some (Int v)) && true) (options_same (ty_of a) (Some (Int u)) of)
      (both_hold (same_types (ty_of b) (Some (Int v))) true (options_same (ty_of b) (Some (Int v)) by) refl))) is

  -- ---- forms that may be sites

  unary_typed : (b : Bool) (s : Span) (op : UnOp) (a : ExprTree) (from ty : Option VarTy) (j : ℕ) → ty_of a ≡ from → unary_fits op from ty ≡ true → IsTrue (is_typed grown a) →
      Each HasRequest j (unary_site b s op from ty) → IsTrue (form_fits grown (if b && is_number from then request c j (a ∷ []) else t.unary op a) ty)
  unary_typed b s op a from ty j of fits h e = go (b && is_number from) refl
    where
      go : (z : Bool) → (b && is_number from) ≡ z → IsTrue (form_fits grown (if z then request c j (a ∷ []) else t.unary op a) ty)
      go true is =
          let number = and_true_second b (is_number from) is in
          request_of_one j (record { operation = before op (int_of from); result = int_of ty; span = s }) a (int_of from) ty
          (each_here HasRequest j (b && is_number from) (before op (int_of from)) ty s is e) refl h (of ∙ number_is from number) (number_is ty (unary_number op from ty fits))
      go false is = both_hold (is_typed grown a) (unary_fits op (ty_of a) ty) h (subst (λ x. unary_fits op x ty ≡ true) (sym of) fits)

  convert_typed : (b : Bool) (s : Span) (a : ExprTree) (from ty : Option VarTy) (j : ℕ) → ty_of a ≡ from → converts from ty ≡ true → IsTrue (is_typed grown a) →
      Each HasRequest j (conversion_site b s from ty) → IsTrue (form_fits grown (if b && changes_int from ty then request c j (a ∷ []) else t.convert a) ty)
  convert_typed b s a from ty j of fits h e = go (b && changes_int from ty) refl
    where
      go : (z : Bool) → (b && changes_int from ty) ≡ z → IsTrue (form_fits grown (if z then request c j (a ∷ []) else t.convert a) ty)
      go true is =
          let numbers = changes_numbers from ty (and_true_second b (changes_int from ty) is) in
          request_of_one j (record { operation = conversion (int_of from); result = int_of ty; span = s }) a (int_of from) ty
          (each_here HasRequest j (b && changes_int from ty) (conversion (int_of from)) ty s is e) refl h (of ∙ number_is from numbers.0) (number_is ty numbers.1)
      go false is = both_hold (is_typed grown a) (converts (ty_of a) ty) h (subst (λ x. converts x ty ≡ true) (sym of) fits)

  -- the value so far is converted to an integer type
  number_converts : (a : Option VarTy) (u : IntType) → is_number a ≡ true → converts a (Some (Int u)) ≡ true
  number_converts a u h = subst (λ x. converts x (Some (Int u)) ≡ true) (sym (number_is a h)) refl

  -- the value so far is one of the type in which an operator takes it
  record IsLeft (x : ExprTree) (u : IntType) : Type 0 where
    well : IsTrue (is_typed grown x)
    of : ty_of x ≡ Some (Int u)

  left_typed : (i : ℕ) (far : Bool) (at : Span) (ty : Option VarTy) (op : LinkStep) (x : ExprTree) → is_operator op ≡ true → is_number ty ≡ true → ty_of x ≡ ty → IsTrue (is_typed grown x) →
      Each HasRequest i (left_site far at ty op) → IsLeft (left_operand c i far at ty op x) (left_type ty op)
  left_typed i far at ty op x operator number of h e = go (changes_int ty (Some (Int (left_type ty op)))) refl
    where
      form : (z : Bool) → far ≡ z → changes_int ty (Some (Int (left_type ty op))) ≡ true → IsTrue (form_fits grown (if z then request c i (x ∷ []) else t.convert x) (Some (Int (left_type ty op))))
      form true secret is =
          request_of_one i (record { operation = conversion (int_of ty); result = left_type ty op; span = at }) x (int_of ty) (Some (Int (left_type ty op)))
          (each_here HasRequest i ((far && is_operator op) && changes_int ty (Some (Int (left_type ty op)))) (conversion (int_of ty)) (Some (Int (left_type ty op))) at
          (both_hold (far && is_operator op) (changes_int ty (Some (Int (left_type ty op)))) (both_hold far (is_operator op) secret operator) is) e) refl h (of ∙ number_is ty number) refl
      form false secret is =
          both_hold (is_typed grown x) (converts (ty_of x) (Some (Int (left_type ty op)))) h
          (subst (λ u. converts u (Some (Int (left_type ty op))) ≡ true) (sym of) (number_converts ty (left_type ty op) number))

      go : (z : Bool) → changes_int ty (Some (Int (left_type ty op))) ≡ z →
          IsLeft (if z then typed at (Some (Int (left_type ty op))) (if far then request c i (x ∷ []) else t.convert x) else x) (left_type ty op)
      go true is = record { well = form far refl is; of = refl }
      go false is = record { well = h; of = of ∙ unchanged_is ty (Some (Int (left_type ty op))) number refl is }

  -- ---- all forms

  abbrev place_now : (x : PlaceTree) (i : ℕ) → IsTrue (place_fits n x) → place_type grown (raised_place c p i x) ≡ place_type n x
  place_now x i h = kept.place_kept n grown c p refl refl refl x i h

  called : (g : ℕ) (es : ExprTrees) (ty : Option VarTy) (i : ℕ) (o : Option Signature) → slice_get n.signatures g ≡ o → IsTrue (call_fits o es ty) →
      IsTrue (call_fits (slice_get (n.signatures ++ more) g) (raised_all c p i es) ty)
  called g es ty i None is h = cc
  called g es ty i (Some z) is h =
      let rest = both_hold_second (not (is_main z)) _ h in
      subst (λ o. IsTrue (call_fits o (raised_all c p i es) ty)) (sym (get_kept n.signatures more g z is))
      (both_hold (not (is_main z)) (arguments_fit z.params (raised_all c p i es) && same_types ty (option_map Int z.result)) (both_hold_first (not (is_main z)) _ h)
      (subst (λ b. IsTrue (b && same_types ty (option_map Int z.result))) (sym (kept.arguments_kept n grown c p refl refl refl es z.params i)) rest))

  scalar_of : (a : ExprTree) (i : ℕ) → IsTrue (is_typed n a && is_scalar (ty_of a)) → IsTrue (is_typed grown (raised c p i a)) → IsTrue (is_typed grown (raised c p i a) && is_scalar (ty_of (raised c p i a)))
  scalar_of a i h k =
      both_hold (is_typed grown (raised c p i a)) (is_scalar (ty_of (raised c p i a))) k
      (subst (λ u. IsTrue (is_scalar u)) (sym (kept.ty_kept n grown c p refl refl refl a i)) (both_hold_second (is_typed n a) _ h))

  arm_of : (a : ExprTree) (ty : Option VarTy) (i : ℕ) → IsTrue (is_typed n a && same_types (ty_of a) ty) → IsTrue (is_typed grown (raised c p i a)) →
      IsTrue (is_typed grown (raised c p i a) && same_types (ty_of (raised c p i a)) ty)
  arm_of a ty i h k =
      both_hold (is_typed grown (raised c p i a)) (same_types (ty_of (raised c p i a)) ty) k
      (subst (λ u. IsTrue (same_types u ty)) (sym (kept.ty_kept n grown c p refl refl refl a i)) (both_hold_second (is_typed n a) _ h))

  written_of : (x : PlaceTree) (i : ℕ) → IsTrue (place_fits n x && is_written n x) → IsTrue (place_fits grown (raised_place c p i x)) →
      IsTrue (place_fits grown (raised_place c p i x) && is_written grown (raised_place c p i x))
  written_of x i h k =
      both_hold (place_fits grown (raised_place c p i x)) (is_written grown (raised_place c p i x)) k
      (kept.written_kept n grown c p refl refl refl x i ∙ both_hold_second (place_fits n x) _ h)

  -- one step, the right operand of which has been raised, where what follows is well formed
  link_of : (rest : LinkTrees) (follows : (i : ℕ) (at : Span) (ty : Option VarTy) (far : Bool) (base : ExprTree) (xs : List LinkTree) (to : Option VarTy) →
      IsTrue (is_typed grown base) → IsTrue (links_fit grown (ty_of base) (link_trees xs) ty) → IsTrue (links_fit n ty rest to) → Each HasRequest i (links_sites p at ty far rest) →
      IsTrue (form_fits grown (raised_links c p i at ty far base xs rest) to))
      (i : ℕ) (at : Span) (ty : Option VarTy) (far : Bool) (base : ExprTree) (xs : List LinkTree) (to : Option VarTy)
      (s : Span) (is : VarTy) (op : LinkStep) (b : ExprTree) (k : ℕ) (z : Bool) → (is_operator op && (far || p b)) ≡ z → (r : ExprTree) → ty_of r ≡ ty_of b → IsTrue (is_typed grown r) →
      stepped ty op (ty_of b) ≡ Some is → IsTrue (is_typed grown base) → IsTrue (links_fit grown (ty_of base) (link_trees xs) ty) → IsTrue (links_fit n (Some is) rest to) →
      Each HasRequest i (left_site far at ty op) → Each HasRequest k (step_site (far || p b) s op ty (ty_of b) is) →
      Each HasRequest (k + length (step_site (far || p b) s op ty (ty_of b) is)) (links_sites p s (Some is) (secret_behind far op (p b)) rest) →
      IsTrue (form_fits grown (if z
      then raised_links c p (k + 1) s (Some is) (secret_behind far op (p b)) (typed s (Some is) (request c k (left_operand c i far at ty op (typed at ty (chain_of base xs)) ∷ r ∷ []))) [] rest
      else raised_links c p k s (Some is) (secret_behind far op (p b)) base (xs ++ link s is op r ∷ []) rest) to)
  link_of rest follows i at ty far base xs to s is op b k true test r of right step h l fits here own later =
      let operator = and_true_first (is_operator op) (far || p b) test in
      let numbers = step_numbers ty op (ty_of b) is operator step in
      let left = left_typed i far at ty op (typed at ty (chain_of base xs)) operator numbers.left refl (chain_typed grown base xs ty h l) here in
      let site : SiteTree = record { operation = between op (left_type ty op) (int_of (ty_of b)); result = int_of (Some is); span = s } in
      let one : k + length (step_site (far || p b) s op ty (ty_of b) is) ≡ k + 1 = ap (λ m. k + m) (one_site (is_operator op && (far || p b)) (between op (left_type ty op) (int_of (ty_of b))) (Some is) s test) in
      follows (k + 1) s (Some is) (secret_behind far op (p b)) (typed s (Some is) (request c k (left_operand c i far at ty op (typed at ty (chain_of base xs)) ∷ r ∷ []))) [] to
      (request_of_two k site (left_operand c i far at ty op (typed at ty (chain_of base xs))) r (left_type ty op) (int_of (ty_of b)) (Some is)
      (each_here HasRequest k (is_operator op && (far || p b)) (between op (left_type ty op) (int_of (ty_of b))) (Some is) s test own) refl
      left.well left.of right (of ∙ number_is (ty_of b) numbers.right) (number_is (Some is) numbers.result))
      (options_self (Some is)) fits (subst (λ m. Each HasRequest m (links_sites p s (Some is) (secret_behind far op (p b)) rest)) one later)
  link_of rest follows i at ty far base xs to s is op b k false test r of right step h l fits here own later =
      let none : k + length (step_site (far || p b) s op ty (ty_of b) is) ≡ k + 0 = ap (λ m. k + m) (no_sites (is_operator op && (far || p b)) (between op (left_type ty op) (int_of (ty_of b))) (Some is) s test) in
      let same : k + 0 ≡ k = omega arith in
      follows k s (Some is) (secret_behind far op (p b)) base (xs ++ link s is op r ∷ []) to h
      (links_pushed grown xs (ty_of base) ty s is op r l right (ap (stepped ty op) of ∙ step)) fits
      (subst (λ m. Each HasRequest m (links_sites p s (Some is) (secret_behind far op (p b)) rest)) (none ∙ same) later)

  mutual
    pub typed_raised : (e : ExprTree) (i : ℕ) → IsTrue (is_typed n e) → Each HasRequest i (sites_in p e) → IsTrue (is_typed grown (raised c p i e))
    typed_raised (typed s ty f) i h e = form_raised f s ty i h e

    form_raised : (f : FormTree) (s : Span) (ty : Option VarTy) (i : ℕ) → IsTrue (form_fits n f ty) → Each HasRequest i (form_sites p s ty f) → IsTrue (form_fits grown (raised_form c p i ty f) ty)
    form_raised (t.constant v) s ty i h e = h
    form_raised t.null s ty i h e = h
    form_raised (t.read x) s ty i h e =
        both_hold (place_fits grown (raised_place c p i x)) (same_types (place_type grown (raised_place c p i x)) ty && is_value ty) (place_raised x i (both_hold_first _ _ h) e)
        (subst (λ u. IsTrue (same_types u ty && is_value ty)) (sym (place_now x i (both_hold_first _ _ h))) (both_hold_second (place_fits n x) _ h))
    form_raised (t.decay x) s ty i h e =
        both_hold (place_fits grown (raised_place c p i x)) (both_elem (item_of (place_type grown (raised_place c p i x))) (pointee_of ty) && keeps_const (place_const grown (raised_place c p i x)) ty)
        (place_raised x i (both_hold_first _ _ h) e)
        (subst (λ u. IsTrue (both_elem (item_of u) (pointee_of ty) && keeps_const (place_const grown (raised_place c p i x)) ty)) (sym (place_now x i (both_hold_first _ _ h)))
        (subst (λ b. IsTrue (both_elem (item_of (place_type n x)) (pointee_of ty) && keeps_const b ty)) (sym (kept.const_kept n grown c p refl refl refl x i)) (both_hold_second (place_fits n x) _ h)))
    form_raised (t.address x) s ty i h e =
        both_hold (place_fits grown (raised_place c p i x))
        (is_addressed (raised_place c p i x) && (both_elem (element_of (place_type grown (raised_place c p i x))) (pointee_of ty) && keeps_const (place_const grown (raised_place c p i x)) ty))
        (place_raised x i (both_hold_first _ _ h) e)
        (subst (λ b. IsTrue (b && (both_elem (element_of (place_type grown (raised_place c p i x))) (pointee_of ty) && keeps_const (place_const grown (raised_place c p i x)) ty)))
        (sym (kept.addressed_kept n grown c p refl refl refl x i))
        (subst (λ u. IsTrue (is_addressed x && (both_elem (element_of u) (pointee_of ty) && keeps_const (place_const grown (raised_place c p i x)) ty))) (sym (place_now x i (both_hold_first _ _ h)))
        (subst (λ b. IsTrue (is_addressed x && (both_elem (element_of (place_type n x)) (pointee_of ty) && keeps_const b ty))) (sym (kept.const_kept n grown c p refl refl refl x i)) (both_hold_second (place_fits n x) _ h))))
    form_raised (t.unary op a) s ty i h e =
        unary_typed (p a) s op (raised c p i a) (ty_of a) ty (i + length (sites_in p a)) (kept.ty_kept n grown c p refl refl refl a i) (both_hold_second (is_typed n a) _ h)
        (typed_raised a i (both_hold_first _ _ h) (each_first HasRequest i (sites_in p a) (unary_site (p a) s op (ty_of a) ty) e))
        (each_second HasRequest i (sites_in p a) (unary_site (p a) s op (ty_of a) ty) e)
    form_raised (t.convert a) s ty i h e =
        convert_typed (p a) s (raised c p i a) (ty_of a) ty (i + length (sites_in p a)) (kept.ty_kept n grown c p refl refl refl a i) (both_hold_second (is_typed n a) _ h)
        (typed_raised a i (both_hold_first _ _ h) (each_first HasRequest i (sites_in p a) (conversion_site (p a) s (ty_of a) ty) e))
        (each_second HasRequest i (sites_in p a) (conversion_site (p a) s (ty_of a) ty) e)
    form_raised (t.discard a) s ty i h e =
        both_hold (is_typed grown (raised c p i a)) _ (typed_raised a i (both_hold_first _ _ h) e) (both_hold_second (is_typed n a) _ h)
    form_raised (t.chain a ls) s ty i h e =
        links_raised ls (i + length (sites_in p a)) (span_of a) (ty_of a) (p a) (raised c p i a) [] ty
        (typed_raised a i (both_hold_first _ _ h) (each_first HasRequest i (sites_in p a) (links_sites p (span_of a) (ty_of a) (p a) ls) e))
        (options_same (ty_of (raised c p i a)) (ty_of a) (kept.ty_kept n grown c p refl refl refl a i))
        (both_hold_second (has_links ls) _ (both_hold_second (is_typed n a) _ h))
        (each_second HasRequest i (sites_in p a) (links_sites p (span_of a) (ty_of a) (p a) ls) e)
    form_raised (t.logical op a os) s ty i h e =
        let first = both_hold_first (is_typed n a && is_scalar (ty_of a)) _ h in
        let others = both_hold_second (is_typed n a && is_scalar (ty_of a)) ((has_operands os && operands_fit n os) && same_types ty int) h in
        let operands = both_hold_first (has_operands os && operands_fit n os) (same_types ty int) others in
        both_hold (is_typed grown (raised c p i a) && is_scalar (ty_of (raised c p i a)))
        ((has_operands (raised_operands c p (i + length (sites_in p a)) os) && operands_fit grown (raised_operands c p (i + length (sites_in p a)) os)) && same_types ty int)
        (scalar_of a i first (typed_raised a i (both_hold_first (is_typed n a) _ first) (each_first HasRequest i (sites_in p a) (operands_sites p os) e)))
        (both_hold (has_operands (raised_operands c p (i + length (sites_in p a)) os) && operands_fit grown (raised_operands c p (i + length (sites_in p a)) os)) (same_types ty int)
        (both_hold (has_operands (raised_operands c p (i + length (sites_in p a)) os)) (operands_fit grown (raised_operands c p (i + length (sites_in p a)) os))
        (kept.operands_kept n grown c p refl refl refl os (i + length (sites_in p a)) ∙ both_hold_first (has_operands os) (operands_fit n os) operands)
        (operands_raised os (i + length (sites_in p a)) (both_hold_second (has_operands os) (operands_fit n os) operands) (each_second HasRequest i (sites_in p a) (operands_sites p os) e)))
        (both_hold_second (has_operands os && operands_fit n os) (same_types ty int) others))
    form_raised (t.choice a b d) s ty i h e =
        let test = both_hold_first (is_typed n a && is_scalar (ty_of a)) _ h in
        let arms = both_hold_second (is_typed n a && is_scalar (ty_of a)) _ h in
        let one = both_hold_first (is_typed n b && same_types (ty_of b) ty) _ arms in
        let rest = both_hold_second (is_typed n b && same_types (ty_of b) ty) _ arms in
        let other = both_hold_first (is_typed n d && same_types (ty_of d) ty) _ rest in
        let later = each_second HasRequest i (sites_in p a) (sites_in p b ++ sites_in p d) e in
        let j = i + length (sites_in p a) in
        both_hold _ _ (scalar_of a i test (typed_raised a i (both_hold_first (is_typed n a) _ test) (each_first HasRequest i (sites_in p a) (sites_in p b ++ sites_in p d) e)))
        (both_hold _ _ (arm_of b ty j one (typed_raised b j (both_hold_first (is_typed n b) _ one) (each_first HasRequest j (sites_in p b) (sites_in p d) later)))
        (both_hold _ _ (arm_of d ty (j + length (sites_in p b)) other (typed_raised d (j + length (sites_in p b)) (both_hold_first (is_typed n d) _ other) (each_second HasRequest j (sites_in p b) (sites_in p d) later))) (both_hold_second (is_typed n d && same_types (ty_of d) ty) _ rest)))
    form_raised (t.assign x a) s ty i h e =
        let at = both_hold_first (place_fits n x && is_written n x) _ h in
        let rest = both_hold_second (place_fits n x && is_written n x) _ h in
        let fits = both_hold_first (place_fits n x) _ at in
        let value = both_hold_second (same_types (place_type n x) ty && is_value ty) _ rest in
        both_hold _ _ (written_of x i at (place_raised x i fits (each_first HasRequest i (place_sites p x) (sites_in p a) e)))
        (both_hold _ _ (subst (λ u. IsTrue (same_types u ty && is_value ty)) (sym (place_now x i fits)) (both_hold_first (same_types (place_type n x) ty && is_value ty) _ rest))
        (arm_of a ty (i + length (place_sites p x)) value (typed_raised a (i + length (place_sites p x)) (both_hold_first (is_typed n a) _ value) (each_second HasRequest i (place_sites p x) (sites_in p a) e))))
    form_raised (t.compound x at op a) s ty i h e =
        let here = both_hold_first (place_fits n x && is_written n x) _ h in
        let rest = both_hold_second (place_fits n x && is_written n x) _ h in
        let fits = both_hold_first (place_fits n x) _ here in
        let right = both_hold_second (same_types (place_type n x) ty) _ rest in
        let step = both_hold_second (is_typed n a) (is_compound op && converts (stepped (promoted_value ty) op (ty_of a)) ty) right in
        let j = i + length (place_sites p x) in
        both_hold _ _ (written_of x i here (place_raised x i fits (each_first HasRequest i (place_sites p x) (taken_sites p a) e)))
        (both_hold _ _ (subst (λ u. IsTrue (same_types u ty)) (sym (place_now x i fits)) (both_hold_first (same_types (place_type n x) ty) _ rest))
        (both_hold _ _ (operand_raised a j (both_hold_first (is_typed n a) _ right) (each_second HasRequest i (place_sites p x) (taken_sites p a) e))
        (subst (λ u. IsTrue (is_compound op && converts (stepped (promoted_value ty) op u) ty)) (sym (kept.operand_ty_kept n grown c p refl refl refl a j)) step)))
    form_raised (t.step x at back postfix) s ty i h e =
        let here = both_hold_first (place_fits n x && is_written n x) _ h in
        let rest = both_hold_second (place_fits n x && is_written n x) _ h in
        both_hold _ _ (written_of x i here (place_raised x i (both_hold_first (place_fits n x) _ here) e))
        (subst (λ u. IsTrue (same_types u ty && is_scalar ty)) (sym (place_now x i (both_hold_first (place_fits n x) _ here))) rest)
    form_raised (t.call g arguments) s ty i h e =
        both_hold _ _ (all_raised arguments i (both_hold_first (all_typed n arguments) _ h) e) (called g.0 arguments ty i (slice_get n.signatures g.0) refl (both_hold_second (all_typed n arguments) _ h))

    operand_raised : (a : ExprTree) (i : ℕ) → IsTrue (is_typed n a) → Each HasRequest i (taken_sites p a) → IsTrue (is_typed grown (raised_operand c p i a))
    operand_raised (typed s ty (t.convert a)) i h e =
        convert_typed (p a && not (same_span s (span_of a))) s (raised c p i a) (ty_of a) ty (i + length (sites_in p a)) (kept.ty_kept n grown c p refl refl refl a i) (both_hold_second (is_typed n a) _ h)
        (typed_raised a i (both_hold_first (is_typed n a) _ h) (each_first HasRequest i (sites_in p a) (conversion_site (p a && not (same_span s (span_of a))) s (ty_of a) ty) e))
        (each_second HasRequest i (sites_in p a) (conversion_site (p a && not (same_span s (span_of a))) s (ty_of a) ty) e)
    operand_raised (typed s ty f) i h e = form_raised f s ty i h e

    links_raised : (ls : LinkTrees) (i : ℕ) (at : Span) (ty : Option VarTy) (far : Bool) (base : ExprTree) (xs : List LinkTree) (to : Option VarTy) →
        IsTrue (is_typed grown base) → IsTrue (links_fit grown (ty_of base) (link_trees xs) ty) → IsTrue (links_fit n ty ls to) → Each HasRequest i (links_sites p at ty far ls) →
        IsTrue (form_fits grown (raised_links c p i at ty far base xs ls) to)
    links_raised no_links i at ty far base xs to h k fits e = subst (λ u. IsTrue (form_fits grown (chain_of base xs) u)) (equal_options ty to fits) (chain_typed grown base xs ty h k)
    links_raised (link_and (link s is op b) rest) i at ty far base xs to h k fits e =
        let types = both_hold_second (is_typed n b) (same_types (stepped ty op (ty_of b)) (Some is) && links_fit n (Some is) rest to) fits in
        let later = each_second HasRequest i (left_site far at ty op) (sites_in p b ++ (step_site (far || p b) s op ty (ty_of b) is ++ links_sites p s (Some is) (secret_behind far op (p b)) rest)) e in
        let j = i + length (left_site far at ty op) in
        let last = each_second HasRequest j (sites_in p b) (step_site (far || p b) s op ty (ty_of b) is ++ links_sites p s (Some is) (secret_behind far op (p b)) rest) later in
        let right = typed_raised b j (both_hold_first (is_typed n b) _ fits)
        (each_first HasRequest j (sites_in p b) (step_site (far || p b) s op ty (ty_of b) is ++ links_sites p s (Some is) (secret_behind far op (p b)) rest) later) in
        link_of rest (links_raised rest) i at ty far base xs to s is op b (j + length (sites_in p b)) (is_operator op && (far || p b)) refl (raised c p j b)
        (kept.ty_kept n grown c p refl refl refl b j) right (equal_options (stepped ty op (ty_of b)) (Some is) (both_hold_first (same_types (stepped ty op (ty_of b)) (Some is)) _ types)) h k
        (both_hold_second (same_types (stepped ty op (ty_of b)) (Some is)) _ types)
        (each_first HasRequest i (left_site far at ty op) (sites_in p b ++ (step_site (far || p b) s op ty (ty_of b) is ++ links_sites p s (Some is) (secret_behind far op (p b)) rest)) e)
        (each_first HasRequest (j + length (sites_in p b)) (step_site (far || p b) s op ty (ty_of b) is) (links_sites p s (Some is) (secret_behind far op (p b)) rest) last)
        (each_second HasRequest (j + length (sites_in p b)) (step_site (far || p b) s op ty (ty_of b) is) (links_sites p s (Some is) (secret_behind far op (p b)) rest) last)

    operands_raised : (os : OperandTrees) (i : ℕ) → IsTrue (operands_fit n os) → Each HasRequest i (operands_sites p os) → IsTrue (operands_fit grown (raised_operands c p i os))
    operands_raised no_operands i h e = refl
    operands_raised (operand_and (operand s a) rest) i h e =
        both_hold _ _ (scalar_of a i (both_hold_first (is_typed n a && is_scalar (ty_of a)) _ h) (typed_raised a i (both_hold_first (is_typed n a) _ (both_hold_first (is_typed n a && is_scalar (ty_of a)) _ h)) (each_first HasRequest i (sites_in p a) (operands_sites p rest) e)))
        (operands_raised rest (i + length (sites_in p a)) (both_hold_second (is_typed n a && is_scalar (ty_of a)) _ h) (each_second HasRequest i (sites_in p a) (operands_sites p rest) e))

    all_raised : (es : ExprTrees) (i : ℕ) → IsTrue (all_typed n es) → Each HasRequest i (all_sites_in p es) → IsTrue (all_typed grown (raised_all c p i es))
    all_raised no_exprs i h e = refl
    all_raised (expr_and a rest) i h e =
        both_hold _ _ (typed_raised a i (both_hold_first (is_typed n a) _ h) (each_first HasRequest i (sites_in p a) (all_sites_in p rest) e))
        (all_raised rest (i + length (sites_in p a)) (both_hold_second (is_typed n a) _ h) (each_second HasRequest i (sites_in p a) (all_sites_in p rest) e))

    place_raised : (x : PlaceTree) (i : ℕ) → IsTrue (place_fits n x) → Each HasRequest i (place_sites p x) → IsTrue (place_fits grown (raised_place c p i x))
    place_raised (place r ss) i h e =
        both_hold _ _ (root_raised r i (both_hold_first (root_fits n r) _ h) (each_first HasRequest i (root_sites p r) (steps_sites p ss) e))
        (steps_raised ss (i + length (root_sites p r)) (both_hold_second (root_fits n r) _ h) (each_second HasRequest i (root_sites p r) (steps_sites p ss) e))

    root_raised : (r : RootTree) (i : ℕ) → IsTrue (root_fits n r) → Each HasRequest i (root_sites p r) → IsTrue (root_fits grown (raised_root c p i r))
    root_raised (t.local v) i h e = refl
    root_raised (t.global g) i h e = refl
    root_raised (t.deref a s) i h e = typed_raised a i h e
    root_raised (t.assigned a) i h e = typed_raised a i h e

    steps_raised : (ss : StepTrees) (i : ℕ) → IsTrue (steps_fit n ss) → Each HasRequest i (steps_sites p ss) → IsTrue (steps_fit grown (raised_steps c p i ss))
    steps_raised no_steps i h e = refl
    steps_raised (step_and (t.field k) rest) i h e = steps_raised rest i h e
    steps_raised (step_and (t.item a s) rest) i h e =
        both_hold _ _ (typed_raised a i (both_hold_first (is_typed n a) _ h) (each_first HasRequest i (sites_in p a) (steps_sites p rest) e))
        (steps_raised rest (i + length (sites_in p a)) (both_hold_second (is_typed n a) _ h) (each_second HasRequest i (sites_in p a) (steps_sites p rest) e))
