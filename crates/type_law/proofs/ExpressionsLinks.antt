-- Chains of operators: each link leaves the chain so far sound, and a whole chain is a sound value.
use Rattle.std.proofs.Common.{◌≡◌, ◌∙◌, ◌≤◌, ◌⊎◌, inl, inr, ℕ, refl, ap, sym, subst, List, [], ◌∷◌, ◌++◌, Bool, true, false, Option, Some, None, length, map, is_some, arith}
use Rattle.std.specs.Prelude.{IsTrue, ◌&&◌}
use Rattle.std.proofs.lemmas.Bool.Decides.{nat_tests}
use Rattle.pt_base.specs.declared.span.Span.{Span}
use Rattle.pt_base.specs.declared.int_type.IntType.TheVariants as int
use Rattle.pt_base.proofs.Booleans.{both_hold, both_hold_first, both_hold_second}
use Rattle.pt_tree.specs.declared.operator.BinaryOp.{BinaryOp}
use Rattle.type_rules.specs.declared.types.Type.{«Type»}
use Rattle.type_rules.specs.declared.types.Type.TheVariants.{Bad, Void, Int, Struct, Array, Pointer}
use Rattle.type_rules.specs.declared.types.Value.{Value}
use Rattle.type_rules.specs.declared.operators.Rule.{Rule}
use Rattle.type_rules.specs.declared.operators.Rule.TheVariants as rule
use Rattle.type_rules.specs.Types.{is_scalar, is_bad, value_type}
use Rattle.type_rules.specs.Operators.{rule_type, binary_rule}
use Rattle.typed_tree.specs.declared.link.LogicalOp.{LogicalOp}
use Rattle.typed_tree.specs.declared.types.VarTy.{VarTy}
use Rattle.typed_tree.specs.ExpressionTree.{ExprTree, LinkTree, link, link_trees, operand_trees}
use Rattle.typed_tree.specs.TypeTests as test
use Rattle.typed_tree.specs.TypeRules.{stepped}
use Rattle.typed_tree.specs.WellFormedExpression.{Names, is_typed, ty_of, links_fit, has_links, operands_fit, has_operands}
use Rattle.check_declarations.specs.Objects.{is_struct}
use Rattle.check_expressions.specs.Links.{SoFar, integer_op, logical_of, step_of, converted_by, rule_faults, link_rule, begun, link_type, has_none, first_by, linked, operand_of, links_tree, chained}
use Rattle.check_expressions.specs.Operands.{Known, var_type, plain}
use Rattle.type_law.specs.DeclarationsTypes.{is_good}
use Rattle.type_law.specs.ExpressionsLaws.{SoundValue}
use Rattle.type_law.proofs.ExpressionsSameTypes.{same_types-equal}
use Rattle.type_law.proofs.ExpressionsKnown.{SoundKnown, plain_sound, value_sound}
use Rattle.type_law.proofs.ExpressionsOutcomes.{good_known, binary_outcome, logical_outcome, of_sort}
use Rattle.type_law.proofs.ExpressionsTakes.{is_ready, Takes, First, first_takes, later_takes}

-- ---- steps lead from a type to another

abbrev pub Leads : Names → Option VarTy → List LinkTree → Option VarTy → Type 0
Leads n a [] t = a ≡ t
Leads n a (link s ty op b ∷ rest) t = IsTrue (is_typed n b) × (stepped a op (ty_of b) ≡ Some ty) × Leads n (Some ty) rest t

leads-last : (n : Names) (a : Option VarTy) (ls : List LinkTree) (t : Option VarTy) (l : LinkTree) (u : Option VarTy) → Leads n a ls t → Leads n t (l ∷ []) u → Leads n a (ls ++ l ∷ []) u
leads-last n a [] t l u h k = subst (λ z. Leads n z (l ∷ []) u) (sym h) k
leads-last n a (link s ty op b ∷ rest) t l u h k = (h.0, h.1, leads-last n (Some ty) rest t l u h.2 k)

leads-fit : (n : Names) (a : Option VarTy) (ls : List LinkTree) (t : Option VarTy) → Leads n a ls t → IsTrue (links_fit n a (link_trees ls) t)
leads-fit n a [] t h = same_types-equal a t h
leads-fit n a (link s ty op b ∷ rest) t h = both_hold (is_typed n b) _ h.0 (both_hold (test.same_types (stepped a op (ty_of b)) (Some ty)) _ (same_types-equal (stepped a op (ty_of b)) (Some ty) h.1) (leads-fit n (Some ty) rest t h.2))

operands-last : (n : Names) (ls : List LinkTree) (l : LinkTree) → IsTrue (operands_fit n (operand_trees (map operand_of ls))) → IsTrue (operands_fit n (operand_trees (map operand_of (l ∷ [])))) → IsTrue (operands_fit n (operand_trees (map operand_of (ls ++ l ∷ []))))
unfolding operand_of
operands-last n [] l h k = k
operands-last n (link s ty op b ∷ rest) l h k = both_hold (is_typed n b && test.is_scalar (ty_of b)) _ (both_hold_first (is_typed n b && test.is_scalar (ty_of b)) _ h) (operands-last n rest l (both_hold_second (is_typed n b && test.is_scalar (ty_of b)) _ h) k)

some-last : (ls : List LinkTree) (l : LinkTree) → has_none (ls ++ l ∷ []) ≡ false
unfolding has_none
some-last [] l = grind (arith, nat_tests)
some-last (a ∷ rest) l = grind (arith, nat_tests)

some-links : (ls : List LinkTree) → has_none ls ≡ false → has_links (link_trees ls) ≡ true
unfolding has_none
some-links [] h = cc
some-links (a ∷ rest) h = refl

some-operands : (ls : List LinkTree) → has_none ls ≡ false → has_operands (operand_trees (map operand_of ls)) ≡ true
unfolding has_none operand_of
some-operands [] h = cc
some-operands (link s ty op b ∷ rest) h = refl

-- ---- a chain so far

-- behind operators of values
pub record Going (n : Names) (structs : ℕ) (far : SoFar) : Type 0 where
  pub typed : IsTrue (is_typed n far.first)
  pub leads : Leads n (ty_of far.first) far.links (var_type far.value.ty)
  pub ready : IsTrue (is_ready structs far.value.ty)
  pub pure : far.value.null ≡ false
  pub some : has_none far.links ≡ false

-- behind && and ||
pub record Truths (n : Names) (far : SoFar) : Type 0 where
  pub typed : IsTrue (is_typed n far.first)
  pub scalar : IsTrue (test.is_scalar (ty_of far.first))
  pub operands : IsTrue (operands_fit n (operand_trees (map operand_of far.links)))
  pub truth : far.value.ty ≡ Int int.Int
  pub some : has_none far.links ≡ false

abbrev pub Under : Names → ℕ → Bool → SoFar → Type 0
Under n structs true far = Truths n far
Under n structs false far = Going n structs far

-- before its first link
pub record Fresh (n : Names) (structs : ℕ) (far : SoFar) : Type 0 where
  pub none : far.links ≡ []
  pub value : SoundValue n structs far.value far.first

abbrev pub Before : Names → ℕ → Bool → SoFar → Type 0
Before n structs is_logical far = Fresh n structs far ⊎ Under n structs is_logical far

pub begun_before : (n : Names) (structs : ℕ) (is_logical : Bool) (at : Span) (k : Known) → SoundKnown n structs k → Before n structs is_logical (begun at k)
unfolding begun
begun_before n structs is_logical at k h = inl (record { none = refl; value = value_sound n structs at k h })

-- ---- one link

takes_leads : (n : Names) (structs : ℕ) (a : Option VarTy) (r : Rule) (op : BinaryOp) (x w : Value) (y : ExprTree) (sp : Span) → Takes n structs a r op x w y → Leads n a (link sp (link_type (rule_type r x w)) (step_of (integer_op op) r) (converted_by r w x y) ∷ []) (var_type (rule_type r x w))
takes_leads n structs a r op x w y sp h = (h.typed, h.is, sym h.has)

going_on : (n : Names) (structs : ℕ) (r : Rule) (op : BinaryOp) (sp : Span) (far : SoFar) (w : Value) (y : ExprTree) → Going n structs far → Takes n structs (var_type far.value.ty) r op far.value w y → Going n structs (linked r op sp far w y)
unfolding linked first_by
going_on n structs r op sp far w y g h =
    let l = link sp (link_type (rule_type r far.value w)) (step_of (integer_op op) r) (converted_by r w far.value y) in
    let first : first_by (has_none far.links) r far.value w far.first ≡ far.first = ap (λ b. first_by b r far.value w far.first) g.some in
    record {
      typed = subst (λ x. IsTrue (is_typed n x)) (sym first) g.typed;
      leads = subst (λ x. Leads n (ty_of x) (far.links ++ l ∷ []) (var_type (rule_type r far.value w))) (sym first) (leads-last n (ty_of far.first) far.links (var_type far.value.ty) l _ g.leads (takes_leads n structs _ r op far.value w y sp h));
      ready = h.ready;
      pure = refl;
      some = some-last far.links l;
    }

going_first : (n : Names) (structs : ℕ) (r : Rule) (op : BinaryOp) (sp : Span) (far : SoFar) (w : Value) (y : ExprTree) → far.links ≡ [] → First n structs r op far.value w far.first y → Going n structs (linked r op sp far w y)
unfolding linked first_by has_none
going_first n structs r op sp far w y e h =
    let l = link sp (link_type (rule_type r far.value w)) (step_of (integer_op op) r) (converted_by r w far.value y) in
    let start : Going n structs (linked r op sp (record { value = far.value; span = far.span; first = far.first; links = [] }) w y) = record { typed = h.typed; leads = takes_leads n structs _ r op far.value w y sp h.takes; ready = h.takes.ready; pure = refl; some = some-last [] l } in
    subst (λ (ls : List LinkTree). Going n structs (linked r op sp (record { value = far.value; span = far.span; first = far.first; links = ls }) w y)) (sym e) start

ready_good : (structs : ℕ) (t : «Type») → IsTrue (is_ready structs t) → IsTrue (is_good structs t)
ready_good structs Bad h = cc
ready_good structs Void h = cc
ready_good structs (Int t) h = refl
ready_good structs (Struct m) h = cc
ready_good structs (Array e c) h = cc
ready_good structs (Pointer e f) h = h

number_linked : (n : Names) (structs : ℕ) (op : BinaryOp) (sp : Span) (far : SoFar) (w : Value) (y : ExprTree) (l q : Span) → structs ≤ length n.structs → Before n structs false far → SoundValue n structs w y → is_some (logical_of op) ≡ false → rule_faults (binary_rule op far.value w) l q ≡ [] → Going n structs (linked (binary_rule op far.value w) op sp far w y)
number_linked n structs op sp far w y l q below (inl a) s o h =
    let z = binary_outcome op far.value.ty w.ty far.value.null w.null l q o (good_known structs far.value.ty a.value.good) (good_known structs w.ty s.good) h in
    going_first n structs (binary_rule op far.value w) op sp far w y a.none
    (first_takes n structs op far.value.ty w.ty far.value.null w.null (binary_rule op far.value w) far.first y z a.value.null s.null a.value.good s.good below (record { typed = a.value.typed; has = a.value.has }) (record { typed = s.typed; has = s.has }))
number_linked n structs op sp far w y l q below (inr a) s o h =
    let z = binary_outcome op far.value.ty w.ty far.value.null w.null l q o (good_known structs far.value.ty (ready_good structs far.value.ty a.ready)) (good_known structs w.ty s.good) h in
    going_on n structs (binary_rule op far.value w) op sp far w y a
    (later_takes n structs op far.value.ty w.ty far.value.null w.null (binary_rule op far.value w) y z a.pure s.null a.ready s.good below (record { typed = s.typed; has = s.has }))

-- ---- one link of && or ||

pub scalar_has : (t : «Type») (x : ExprTree) → is_scalar t ≡ true → ty_of x ≡ var_type t → IsTrue (test.is_scalar (ty_of x))
unfolding var_type
scalar_has Bad x s h = cc
scalar_has Void x s h = cc
scalar_has (Int t) x s h = ap test.is_scalar h
scalar_has (Struct m) x s h = cc
scalar_has (Array e c) x s h = cc
scalar_has (Pointer e f) x s h = ap test.is_scalar h

first_unchanged : (b : Bool) (a w : Value) (x : ExprTree) → first_by b rule.Logical a w x ≡ x
unfolding first_by converted_by
first_unchanged true a w x = refl
first_unchanged false a w x = refl

truths_on : (n : Names) (structs : ℕ) (op : BinaryOp) (sp : Span) (far : SoFar) (w : Value) (y : ExprTree) → IsTrue (is_typed n far.first) → IsTrue (test.is_scalar (ty_of far.first)) → IsTrue (operands_fit n (operand_trees (map operand_of far.links))) → SoundValue n structs w y → is_scalar w.ty ≡ true → Truths n (linked rule.Logical op sp far w y)
unfolding linked converted_by operand_of
truths_on n structs op sp far w y g s os h k =
    let l = link sp (link_type (Int int.Int)) (step_of (integer_op op) rule.Logical) y in
    let first = first_unchanged (has_none far.links) far.value w far.first in
    record {
      typed = subst (λ x. IsTrue (is_typed n x)) (sym first) g;
      scalar = subst (λ x. IsTrue (test.is_scalar (ty_of x))) (sym first) s;
      operands = operands-last n far.links l os (both_hold (is_typed n y && test.is_scalar (ty_of y)) true (both_hold (is_typed n y) _ h.typed (scalar_has w.ty y k h.has)) refl);
      truth = refl;
      some = some-last far.links l;
    }

truth_linked : (n : Names) (structs : ℕ) (op : BinaryOp) (sp : Span) (far : SoFar) (w : Value) (y : ExprTree) (l q : Span) → Before n structs true far → SoundValue n structs w y → is_some (logical_of op) ≡ true → rule_faults (binary_rule op far.value w) l q ≡ [] → Truths n (linked (binary_rule op far.value w) op sp far w y)
truth_linked n structs op sp far w y l q (inl a) s o h =
    let z = logical_outcome op far.value.ty w.ty far.value.null w.null l q o (good_known structs far.value.ty a.value.good) (good_known structs w.ty s.good) h in
    let none : IsTrue (operands_fit n (operand_trees (map operand_of far.links))) = subst (λ (ls : List LinkTree). IsTrue (operands_fit n (operand_trees (map operand_of ls)))) (sym a.none) refl in
    subst (λ r. Truths n (linked r op sp far w y)) (sym z.is) (truths_on n structs op sp far w y a.value.typed (scalar_has far.value.ty far.first z.left a.value.has) none s z.right)
truth_linked n structs op sp far w y l q (inr a) s o h =
    let z = logical_outcome op far.value.ty w.ty far.value.null w.null l q o (ap is_bad a.truth) (good_known structs w.ty s.good) h in
    subst (λ r. Truths n (linked r op sp far w y)) (sym z.is) (truths_on n structs op sp far w y a.typed a.scalar a.operands s z.right)

-- ---- any link

pub link_sound : (n : Names) (structs : ℕ) (is_logical : Bool) (op : BinaryOp) (sp : Span) (far : SoFar) (w : Value) (y : ExprTree) (l q : Span) → structs ≤ length n.structs → Before n structs is_logical far → SoundValue n structs w y → rule_faults (link_rule is_logical op far.value w) l q ≡ [] → Under n structs is_logical (linked (link_rule is_logical op far.value w) op sp far w y)
link_sound n structs true op sp far w y l q below b s h =
    let z = of_sort true op far.value w l q h in
    subst (λ r. Truths n (linked r op sp far w y)) (sym z.rule_is) (truth_linked n structs op sp far w y l q b s z.sort (subst (λ r. rule_faults r l q ≡ []) z.rule_is h))
link_sound n structs false op sp far w y l q below b s h =
    let z = of_sort false op far.value w l q h in
    subst (λ r. Going n structs (linked r op sp far w y)) (sym z.rule_is) (number_linked n structs op sp far w y l q below b s z.sort (subst (λ r. rule_faults r l q ≡ []) z.rule_is h))

-- ---- the whole chain

ready_whole : (structs : ℕ) (t : «Type») → IsTrue (is_ready structs t) → value_type t false ≡ t
ready_whole structs Bad h = cc
ready_whole structs Void h = cc
ready_whole structs (Int t) h = refl
ready_whole structs (Struct m) h = cc
ready_whole structs (Array e c) h = cc
ready_whole structs (Pointer e f) h = refl

ready_plain : (structs : ℕ) (t : «Type») → IsTrue (is_ready structs t) → is_struct t ≡ false
ready_plain structs Bad h = cc
ready_plain structs Void h = cc
ready_plain structs (Int t) h = refl
ready_plain structs (Struct m) h = cc
ready_plain structs (Array e c) h = cc
ready_plain structs (Pointer e f) h = refl

pub no_struct : {X : Type 0} (t : «Type») → is_struct t ≡ false → is_struct t ≡ true → X
no_struct t h k = let z : false ≡ true = sym h ∙ k in cc

going_sound : (n : Names) (structs : ℕ) (s : Span) (far : SoFar) → Going n structs far → SoundKnown n structs (plain far.value.ty (links_tree None s (var_type far.value.ty) far.first far.links))
unfolding links_tree
going_sound n structs s far h =
    plain_sound n structs far.value.ty _
    (record { typed = both_hold (is_typed n far.first) _ h.typed (both_hold (has_links (link_trees far.links)) _ (some-links far.links h.some) (leads-fit n (ty_of far.first) far.links (var_type far.value.ty) h.leads)); has = refl })
    (ready_good structs far.value.ty h.ready)
    (ready_whole structs far.value.ty h.ready)
    (λ k. no_struct far.value.ty (ready_plain structs far.value.ty h.ready) k)

truths_sound : (n : Names) (structs : ℕ) (op : LogicalOp) (s : Span) (far : SoFar) → Truths n far → SoundKnown n structs (plain far.value.ty (links_tree (Some op) s (var_type far.value.ty) far.first far.links))
unfolding links_tree var_type
truths_sound n structs op s far h =
    let x : «Type» → ExprTree = λ t. links_tree (Some op) s (var_type t) far.first far.links in
    subst (λ (t : «Type»). SoundKnown n structs (plain t (x t))) (sym h.truth)
    (plain_sound n structs (Int int.Int) (x (Int int.Int))
    (record { typed = both_hold (is_typed n far.first && test.is_scalar (ty_of far.first)) _ (both_hold (is_typed n far.first) _ h.typed h.scalar) (both_hold (has_operands (operand_trees (map operand_of far.links)) && operands_fit n (operand_trees (map operand_of far.links))) true (both_hold (has_operands (operand_trees (map operand_of far.links))) _ (some-operands far.links h.some) h.operands) refl); has = refl })
    refl refl (λ k. cc))

whole_sound : (n : Names) (structs : ℕ) (op : Option LogicalOp) (s : Span) (far : SoFar) → Under n structs (is_some op) far → SoundKnown n structs (plain far.value.ty (links_tree op s (var_type far.value.ty) far.first far.links))
whole_sound n structs None s far h = going_sound n structs s far h
whole_sound n structs (Some op) s far h = truths_sound n structs op s far h

fresh_none : (n : Names) (structs : ℕ) (far : SoFar) → Fresh n structs far → has_none far.links ≡ true
unfolding has_none
fresh_none n structs far h = ap (λ (ls : List LinkTree). has_none ls) h.none

under_some : (n : Names) (structs : ℕ) (b : Bool) (far : SoFar) → Under n structs b far → has_none far.links ≡ false
under_some n structs true far h = h.some
under_some n structs false far h = h.some

pub chained_sound : (n : Names) (structs : ℕ) (op : Option LogicalOp) (s : Span) (far : SoFar) → Before n structs (is_some op) far → (chained op s far).faults ≡ [] → SoundKnown n structs (chained op s far).operand
unfolding chained
chained_sound n structs op s far (inl a) h = let e = fresh_none n structs far a in let k = rw e at h in cc
chained_sound n structs op s far (inr a) h = rw (under_some n structs (is_some op) far a) (whole_sound n structs op s far a)
