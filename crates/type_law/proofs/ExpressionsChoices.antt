-- A choice without a fault is a sound value.
use Rattle.std.proofs.Common.{◌≡◌, ◌≤◌, ℕ, refl, sym, subst, [], Bool, true, false, length, if◌then◌else◌}
use Rattle.std.specs.Prelude.{⊤, IsTrue, ◌&&◌, ◌||◌}
use Rattle.std.proofs.lemmas.Bool.{or_from}
use Rattle.pt_base.specs.declared.span.Span.{Span}
use Rattle.pt_base.specs.IntTypes.{usual}
use Rattle.pt_base.proofs.Booleans.{both_hold, or_not_first, or_not_second, or_not_self}
use Rattle.type_rules.specs.declared.types.Type.{«Type»}
use Rattle.type_rules.specs.declared.types.Type.TheVariants.{Bad, Void, Int, Struct, Array, Pointer}
use Rattle.type_rules.specs.declared.types.Value.{Value}
use Rattle.type_rules.specs.declared.conversions.ChoiceRule.{ChoiceRule}
use Rattle.type_rules.specs.declared.conversions.ChoiceRule.TheVariants as arms
use Rattle.type_rules.specs.declared.conversions.ConditionRule.TheVariants as condition
use Rattle.type_rules.specs.Conversions.{choice_rule, condition_rule, joined}
use Rattle.type_rules.specs.Types.{is_bad, is_integer, is_scalar, is_same_elem, value_type}
use Rattle.type_rules.proofs.TypeLemmas.{is_same_elem-self}
use Rattle.typed_tree.specs.ExpressionTree.{ExprTree}
use Rattle.typed_tree.specs.TypeTests as test
use Rattle.typed_tree.specs.TypeRules.{is_arm}
use Rattle.typed_tree.specs.WellFormedExpression.{Names, is_typed, ty_of}
use Rattle.check_declarations.specs.Objects.{is_struct}
use Rattle.check_expressions.specs.Choices.{Placed, value_at, tree_at, arm_tree, choice_tree, chosen_by, chosen_when, chosen}
use Rattle.check_expressions.specs.Conversions.{as_type}
use Rattle.check_expressions.specs.Operands.{var_type, plain}
use Rattle.type_law.specs.DeclarationsTypes.{is_good}
use Rattle.type_law.specs.ExpressionsLaws.{SoundValue, Fitted}
use Rattle.type_law.proofs.ExpressionsSameTypes.{same_types-equal, usual-promoted}
use Rattle.type_law.proofs.DeclarationsGoodTypes.{elem_more}
use Rattle.type_law.proofs.ExpressionsFits.{int_fits, pointer_fits, null_fits}
use Rattle.type_law.proofs.ExpressionsKnown.{SoundKnown, plain_sound, value_sound}
use Rattle.type_law.proofs.ExpressionsLinks.{no_struct, scalar_has}
use Rattle.type_law.proofs.ExpressionsOutcomes.{good_known}

-- the arms as values of their common type
pub record Arms (n : Names) (structs : ℕ) (ty : «Type») (m k : Bool) (x y : ExprTree) : Type 0 where
  pub first : Fitted n ty (as_type ty m x)
  pub last : Fitted n ty (as_type ty k y)
  pub arm : IsTrue (is_arm (var_type ty))
  pub good : IsTrue (is_good structs ty)
  pub whole : value_type ty false ≡ ty
  pub plain : is_struct ty ≡ false

abbrev JoinedFits : Names → ℕ → ChoiceRule → Bool → Bool → ExprTree → ExprTree → Type 0
JoinedFits n structs arms.Unknown m k x y = ⊥
JoinedFits n structs arms.Wrong m k x y = ⊤
JoinedFits n structs arms.Structs m k x y = ⊤
JoinedFits n structs (arms.Gives ty) m k x y = Arms n structs ty m k x y

joined_fits : (n : Names) (structs : ℕ) (s t : «Type») (m k : Bool) (x y : ExprTree) → structs ≤ length n.structs → IsTrue (is_good structs s) → IsTrue (is_good structs t) → (m ≡ true → is_integer s ≡ true) → (k ≡ true → is_integer t ≡ true) → Fitted n s x → Fitted n t y → JoinedFits n structs (joined s m t k) m k x y
unfolding as_type var_type
joined_fits n structs (Int a) (Int b) m k x y below p q u w g h = record { first = int_fits n a (usual a b) x g; last = int_fits n b (usual a b) y h; arm = usual-promoted a b; good = refl; whole = refl; plain = refl }
joined_fits n structs (Int a) (Pointer e f) true true x y below p q u w g h = let z : false ≡ true = w refl in cc
joined_fits n structs (Int a) (Pointer e f) true false x y below p q u w g h = record { first = null_fits n e f x (elem_more structs (length n.structs) e below q); last = pointer_fits n e e f f y (is_same_elem-self e) (or_not_self f) h; arm = refl; good = q; whole = refl; plain = refl }
joined_fits n structs (Int a) (Pointer e f) false k x y below p q u w g h = tt
joined_fits n structs (Int a) Bad m k x y below p q u w g h = tt
joined_fits n structs (Int a) Void m k x y below p q u w g h = tt
joined_fits n structs (Int a) (Struct b) m k x y below p q u w g h = tt
joined_fits n structs (Int a) (Array e c) m k x y below p q u w g h = tt
joined_fits n structs (Pointer e f) (Int b) true true x y below p q u w g h = let z : false ≡ true = u refl in cc
joined_fits n structs (Pointer e f) (Int b) false true x y below p q u w g h = record { first = pointer_fits n e e f f x (is_same_elem-self e) (or_not_self f) g; last = null_fits n e f y (elem_more structs (length n.structs) e below p); arm = refl; good = p; whole = refl; plain = refl }
joined_fits n structs (Pointer e f) (Int b) m false x y below p q u w g h = tt
joined_fits n structs (Pointer e f) (Pointer e' f') true k x y below p q u w g h = let z : false ≡ true = u refl in cc
joined_fits n structs (Pointer e f) (Pointer e' f') false true x y below p q u w g h = let z : false ≡ true = w refl in cc
joined_fits n structs (Pointer e f) (Pointer e' f') false false x y below p q u w g h = by_test (is_same_elem e e') refl
  where
    by_test : (b : Bool) → is_same_elem e e' ≡ b → JoinedFits n structs (if b then arms.Gives (Pointer e (f || f')) else arms.Wrong) false false x y
    by_test true same = record { first = pointer_fits n e e (f || f') f x (is_same_elem-self e) (or_not_first f f') g; last = pointer_fits n e e' (f || f') f' y same (or_not_second f f') h; arm = refl; good = p; whole = refl; plain = refl }
    by_test false same = tt
joined_fits n structs (Pointer e f) Bad m k x y below p q u w g h = tt
joined_fits n structs (Pointer e f) Void m k x y below p q u w g h = tt
joined_fits n structs (Pointer e f) (Struct b) m k x y below p q u w g h = tt
joined_fits n structs (Pointer e f) (Array e' c) m k x y below p q u w g h = tt
joined_fits n structs Void Void m k x y below p q u w g h = record { first = g; last = h; arm = refl; good = refl; whole = refl; plain = refl }
joined_fits n structs Void Bad m k x y below p q u w g h = tt
joined_fits n structs Void (Int b) m k x y below p q u w g h = tt
joined_fits n structs Void (Struct b) m k x y below p q u w g h = tt
joined_fits n structs Void (Array e c) m k x y below p q u w g h = tt
joined_fits n structs Void (Pointer e f) m k x y below p q u w g h = tt
joined_fits n structs (Struct a) (Struct b) m k x y below p q u w g h = tt
joined_fits n structs (Struct a) Bad m k x y below p q u w g h = tt
joined_fits n structs (Struct a) Void m k x y below p q u w g h = tt
joined_fits n structs (Struct a) (Int b) m k x y below p q u w g h = tt
joined_fits n structs (Struct a) (Array e c) m k x y below p q u w g h = tt
joined_fits n structs (Struct a) (Pointer e f) m k x y below p q u w g h = tt
joined_fits n structs Bad t m k x y below p q u w g h = cc
joined_fits n structs (Array e c) Bad m k x y below p q u w g h = tt
joined_fits n structs (Array e c) Void m k x y below p q u w g h = tt
joined_fits n structs (Array e c) (Int b) m k x y below p q u w g h = tt
joined_fits n structs (Array e c) (Struct b) m k x y below p q u w g h = tt
joined_fits n structs (Array e c) (Array e' c') m k x y below p q u w g h = tt
joined_fits n structs (Array e c) (Pointer e' f) m k x y below p q u w g h = tt

rule_fits : (n : Names) (structs : ℕ) (a b : Value) (x y : ExprTree) → structs ≤ length n.structs → SoundValue n structs a x → SoundValue n structs b y → JoinedFits n structs (choice_rule a b) a.null b.null x y
unfolding choice_rule
rule_fits n structs a b x y below g h =
    let known : (is_bad a.ty || is_bad b.ty) ≡ false = or_from (is_bad a.ty) (is_bad b.ty) (good_known structs a.ty g.good) (good_known structs b.ty h.good) in
    subst (λ c. JoinedFits n structs (if c then arms.Unknown else joined a.ty a.null b.ty b.null) a.null b.null x y) (sym known)
    (joined_fits n structs a.ty b.ty a.null b.null x y below g.good h.good g.null h.null (record { typed = g.typed; has = g.has }) (record { typed = h.typed; has = h.has }))

-- ---- the whole

gives_sound : (n : Names) (structs : ℕ) (s : Span) (ty : «Type») (one first last : Placed) → IsTrue (is_typed n (tree_at one)) → IsTrue (test.is_scalar (ty_of (tree_at one))) → Arms n structs ty (value_at first).null (value_at last).null (tree_at first) (tree_at last) → SoundKnown n structs (plain ty (choice_tree s ty one first last))
unfolding choice_tree arm_tree
gives_sound n structs s ty one first last g c h =
    plain_sound n structs ty (choice_tree s ty one first last)
    (record {
      typed = both_hold (is_typed n (tree_at one) && test.is_scalar (ty_of (tree_at one))) _ (both_hold (is_typed n (tree_at one)) _ g c)
          (both_hold (is_typed n (arm_tree ty first) && test.same_types (ty_of (arm_tree ty first)) (var_type ty)) _
          (both_hold (is_typed n (arm_tree ty first)) _ h.first.typed (same_types-equal _ _ h.first.has))
          (both_hold (is_typed n (arm_tree ty last) && test.same_types (ty_of (arm_tree ty last)) (var_type ty)) _
          (both_hold (is_typed n (arm_tree ty last)) _ h.last.typed (same_types-equal _ _ h.last.has))
          h.arm));
      has = refl;
    })
    h.good h.whole (λ k. no_struct ty h.plain k)

by_sound : (n : Names) (structs : ℕ) (r : ChoiceRule) (s : Span) (one first last : Placed) → IsTrue (is_typed n (tree_at one)) → IsTrue (test.is_scalar (ty_of (tree_at one))) → JoinedFits n structs r (value_at first).null (value_at last).null (tree_at first) (tree_at last) → (chosen_by r false s one first last).faults ≡ [] → SoundKnown n structs (chosen_by r false s one first last).operand
unfolding chosen_by
by_sound n structs arms.Unknown s one first last g c h k = absurd h
by_sound n structs arms.Wrong s one first last g c h k = cc
by_sound n structs arms.Structs s one first last g c h k = cc
by_sound n structs (arms.Gives ty) s one first last g c h k = gives_sound n structs s ty one first last g c h

wrong_faults : {X : Type 0} (n : Names) (structs : ℕ) (r : ChoiceRule) (s : Span) (one first last : Placed) → JoinedFits n structs r (value_at first).null (value_at last).null (tree_at first) (tree_at last) → (chosen_by r true s one first last).faults ≡ [] → X
unfolding chosen_by
wrong_faults n structs arms.Unknown s one first last h k = absurd h
wrong_faults n structs arms.Wrong s one first last h k = cc
wrong_faults n structs arms.Structs s one first last h k = cc
wrong_faults n structs (arms.Gives ty) s one first last h k = cc

when_sound : (n : Names) (structs : ℕ) (r : ChoiceRule) (s : Span) (one first last : Placed) → SoundValue n structs (value_at one) (tree_at one) → JoinedFits n structs r (value_at first).null (value_at last).null (tree_at first) (tree_at last) → (chosen_when (condition_rule (value_at one)) r s one first last).faults ≡ [] → SoundKnown n structs (chosen_when (condition_rule (value_at one)) r s one first last).operand
unfolding condition_rule chosen_when
when_sound n structs r s one first last g h k = by_test (is_bad (value_at one).ty) (is_scalar (value_at one).ty) (good_known structs (value_at one).ty g.good) refl k
  where
    by_test : (b c : Bool) → b ≡ false → is_scalar (value_at one).ty ≡ c → (chosen_when (if b then condition.Unknown else if c then condition.Good else condition.Wrong) r s one first last).faults ≡ [] → SoundKnown n structs (chosen_when (if b then condition.Unknown else if c then condition.Good else condition.Wrong) r s one first last).operand
    by_test true c e f z = cc
    by_test false true e f z = by_sound n structs r s one first last g.typed (scalar_has (value_at one).ty (tree_at one) f g.has) h z
    by_test false false e f z = wrong_faults n structs r s one first last h z

pub chosen_sound : (n : Names) (structs : ℕ) (s : Span) (one first last : Placed) → structs ≤ length n.structs → SoundKnown n structs one.known → SoundKnown n structs first.known → SoundKnown n structs last.known → (chosen s one first last).faults ≡ [] → SoundKnown n structs (chosen s one first last).operand
unfolding chosen
chosen_sound n structs s one first last below f g h k =
    when_sound n structs (choice_rule (value_at first) (value_at last)) s one first last (value_sound n structs one.span one.known f)
    (rule_fits n structs (value_at first) (value_at last) (tree_at first) (tree_at last) below (value_sound n structs first.span first.known g) (value_sound n structs last.span last.known h)) k
