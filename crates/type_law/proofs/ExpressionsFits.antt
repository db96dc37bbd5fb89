-- What a conversion makes of a well formed tree is one of the type that it converts to.
use Rattle.std.proofs.Common.{◌≡◌, ◌≤◌, ℕ, nat_eq, refl, ap, sym, subst, Bool, true, false, Option, Some, length, if◌then◌else◌}
use Rattle.std.specs.Prelude.{IsTrue, ◌&&◌, ◌||◌, not}
use Rattle.pt_base.specs.IntTypes.{promoted}
use Rattle.pt_base.specs.declared.int_type.IntType.{IntType}
use Rattle.pt_base.proofs.Booleans.{and_true_first, and_true_second, both_hold}
use Rattle.pt_base.proofs.Numbers.{nat_eq_same}
use Rattle.pt_tree.specs.declared.signature.Elem.{Elem}
use Rattle.type_rules.specs.declared.types.Type.{«Type»}
use Rattle.type_rules.specs.declared.types.Type.TheVariants.{Bad, Void, Int, Struct, Array, Pointer}
use Rattle.type_rules.specs.declared.conversions.Fit.TheVariants as fit
use Rattle.type_rules.specs.Types.{is_same_int, is_same_elem, is_integer}
use Rattle.type_rules.specs.Conversions.{fit_rule, is_wrong}
use Rattle.type_rules.proofs.TypeLemmas.{same_int, same_elem}
use Rattle.typed_tree.specs.declared.types.VarTy.{VarTy}
use Rattle.typed_tree.specs.declared.types.VarTy.TheVariants as v
use Rattle.typed_tree.specs.ExpressionTree.{ExprTree, typed}
use Rattle.typed_tree.specs.WellFormedExpression.{Names, form_fits, is_elem}
use Rattle.check_expressions.specs.Conversions.{to_int, to_pointer, to_null, as_type, as_promoted, is_of_int, is_of_pointer, converted}
use Rattle.check_expressions.specs.Operands.{var_type}
use Rattle.type_law.specs.DeclarationsTypes.{is_good, is_variable}
use Rattle.type_law.specs.ExpressionsLaws.{Fitted, ValuesFit}
use Rattle.type_law.proofs.DeclarationsGoodTypes.{elem_more}
use Rattle.typed_tree.proofs.SameTypes.{elem_self}

pub int_fits : (n : Names) (s t : IntType) (x : ExprTree) → Fitted n (Int s) x → Fitted n (Int t) (to_int t x)
unfolding to_int is_of_int var_type
int_fits n s t (typed p o f) h = subst (λ (u : Option VarTy). IsTrue (form_fits n f u) → Fitted n (Int t) (to_int t (typed p u f))) (sym h.has) (λ k. by_test (is_same_int t s) refl k) h.typed
  where
    by_test : (b : Bool) → is_same_int t s ≡ b → IsTrue (form_fits n f (Some (v.Int s))) → Fitted n (Int t) (if b then typed p (Some (v.Int s)) f else converted (v.Int t) (typed p (Some (v.Int s)) f))
    by_test true e k = record { typed = k; has = ap (λ u. Some (v.Int u)) (sym (same_int t s e)) }
    by_test false e k = record { typed = both_hold (form_fits n f (Some (v.Int s))) true k refl; has = refl }

pub promoted_fits : (n : Names) (s : IntType) (x : ExprTree) → Fitted n (Int s) x → Fitted n (Int (promoted s)) (as_promoted (Int s) x)
unfolding as_promoted
promoted_fits n s x h = int_fits n s (promoted s) x h

own_pointer_fits : (n : Names) (e : Elem) (f f' : Bool) (x : ExprTree) → (f || not f') ≡ true → Fitted n (Pointer e f') x → Fitted n (Pointer e f) (to_pointer e f x)
unfolding to_pointer is_of_pointer var_type
own_pointer_fits n e true true (typed p o g) c h = subst (λ (u : Option VarTy). IsTrue (form_fits n g u) → Fitted n (Pointer e true) (to_pointer e true (typed p u g))) (sym h.has) (λ k. record { typed = k; has = refl }) h.typed
own_pointer_fits n e true false (typed p o g) c h = subst (λ (u : Option VarTy). IsTrue (form_fits n g u) → Fitted n (Pointer e true) (to_pointer e true (typed p u g))) (sym h.has) (λ k. record { typed = both_hold _ _ k (both_hold _ _ (elem_self e) refl); has = refl }) h.typed
own_pointer_fits n e false true x c h = cc
own_pointer_fits n e false false (typed p o g) c h = subst (λ (u : Option VarTy). IsTrue (form_fits n g u) → Fitted n (Pointer e false) (to_pointer e false (typed p u g))) (sym h.has) (λ k. record { typed = k; has = refl }) h.typed

pub pointer_fits : (n : Names) (e e' : Elem) (f f' : Bool) (x : ExprTree) → is_same_elem e e' ≡ true → (f || not f') ≡ true → Fitted n (Pointer e' f') x → Fitted n (Pointer e f) (to_pointer e f x)
pointer_fits n e e' f f' x s c h = own_pointer_fits n e f f' x c (subst (λ (y : Elem). Fitted n (Pointer y f') x) (sym (same_elem e e' s)) h)

pub null_fits : (n : Names) (e : Elem) (f : Bool) (x : ExprTree) → IsTrue (is_elem (length n.structs) (Some e)) → Fitted n (Pointer e f) (to_null e f x)
unfolding var_type
null_fits n e f (typed p o g) h = record { typed = h; has = refl }

fitted : (n : Names) (structs : ℕ) (t s : «Type») (m : Bool) (x : ExprTree) → Fitted n s x → IsTrue (is_good structs s) → (m ≡ true → is_integer s ≡ true) → IsTrue (is_variable structs t) → structs ≤ length n.structs → is_wrong (fit_rule t (record { ty = s; null = m })) ≡ false → Fitted n t (as_type t m x)
unfolding fit_rule as_type
fitted n structs Bad s m x h good null variable below w = cc
fitted n structs Void s m x h good null variable below w = cc
fitted n structs (Int t) (Int s) m x h good null variable below w = int_fits n s t x h
fitted n structs (Int t) Bad m x h good null variable below w = cc
fitted n structs (Int t) Void m x h good null variable below w = cc
fitted n structs (Int t) (Struct a) m x h good null variable below w = cc
fitted n structs (Int t) (Array e c) m x h good null variable below w = cc
fitted n structs (Int t) (Pointer e f) m x h good null variable below w = cc
fitted n structs (Struct a) (Struct b) m x h good null variable below w = by_test (nat_eq a b) refl w
  where
    by_test : (c : Bool) → nat_eq a b ≡ c → is_wrong (if c then fit.Copies else fit.Wrong) ≡ false → Fitted n (Struct a) x
    by_test true e k = subst (λ (y : ℕ). Fitted n (Struct y) x) (sym (nat_eq_same a b e)) h
    by_test false e k = cc
fitted n structs (Struct a) Bad m x h good null variable below w = cc
fitted n structs (Struct a) Void m x h good null variable below w = cc
fitted n structs (Struct a) (Int s) m x h good null variable below w = cc
fitted n structs (Struct a) (Array e c) m x h good null variable below w = cc
fitted n structs (Struct a) (Pointer e f) m x h good null variable below w = cc
fitted n structs (Array e c) Bad m x h good null variable below w = cc
fitted n structs (Array e c) Void m x h good null variable below w = cc
fitted n structs (Array e c) (Int s) m x h good null variable below w = cc
fitted n structs (Array e c) (Struct b) m x h good null variable below w = cc
fitted n structs (Array e c) (Array e' c') m x h good null variable below w = cc
fitted n structs (Array e c) (Pointer e' f) m x h good null variable below w = cc
fitted n structs (Pointer e f) (Pointer e' f') true x h good null variable below w = let k : false ≡ true = null refl in cc
fitted n structs (Pointer e f) (Pointer e' f') false x h good null variable below w = by_test (is_same_elem e e' && (f || not f')) refl w
  where
    by_test : (c : Bool) → (is_same_elem e e' && (f || not f')) ≡ c → is_wrong (if c then fit.Points else fit.Wrong) ≡ false → Fitted n (Pointer e f) (to_pointer e f x)
    by_test true k z = pointer_fits n e e' f f' x (and_true_first _ _ k) (and_true_second (is_same_elem e e') _ k) h
    by_test false k z = cc
fitted n structs (Pointer e f) (Int s) true x h good null variable below w = null_fits n e f x (elem_more structs (length n.structs) e below variable)
fitted n structs (Pointer e f) (Int s) false x h good null variable below w = cc
fitted n structs (Pointer e f) Bad m x h good null variable below w = cc
fitted n structs (Pointer e f) Void m x h good null variable below w = cc
fitted n structs (Pointer e f) (Struct b) m x h good null variable below w = cc
fitted n structs (Pointer e f) (Array e' c) m x h good null variable below w = cc

pub values_fit : ValuesFit
values_fit n structs ty w tree sound variable below k = fitted n structs ty w.ty w.null tree (record { typed = sound.typed; has = sound.has }) sound.good sound.null variable below k
