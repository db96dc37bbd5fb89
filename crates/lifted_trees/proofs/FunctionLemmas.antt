-- The functions of a lifted tree are well formed.
use Rattle.std.proofs.Common.{◌≡◌, ◌∙◌, ◌+◌, ℕ, zero, suc, refl, ap, sym, subst, arith, inl, inr, Bool, true, false, Option, Some, None, List, [], ◌∷◌, ◌++◌, length, map}
use Rattle.std.specs.Prelude.{IsTrue, ◌&&◌, ◌||◌, not, nat_eq, nat_le, get_or, slice_get, option_and_then, option_map, ◌⊎◌}
use Rattle.std.specs.List.{list_all, list_any}
use Rattle.pt_base.specs.declared.int_type.IntType.{IntType}
use Rattle.pt_base.specs.declared.span.Span.{Span}
use Rattle.pt_base.proofs.Booleans.{both_hold, both_hold_first, both_hold_second}
use Rattle.pt_base.proofs.Lists.{map_append}
use Rattle.pt_base.proofs.Members.{all_hold_append}
use Rattle.pt_base.proofs.Numbers.{nat_eq_same}
use Rattle.pt_base.proofs.Options.{some_same}
use Rattle.pt_base.proofs.Places.{get_after, get_kept, get_mapped}
use Rattle.typed_tree.specs.declared.ids.ExprId.{ExprId}
use Rattle.typed_tree.specs.declared.part.Part.{Part}
use Rattle.typed_tree.specs.declared.types.StructInfo.{StructInfo}
use Rattle.typed_tree.specs.declared.types.VarTy.{VarTy}
use Rattle.typed_tree.specs.declared.types.VarTy.TheVariants.{Int}
use Rattle.typed_tree.specs.ExpressionTree.{ExprTree, typed}
use Rattle.typed_tree.specs.Cells.{leaves_of}
use Rattle.typed_tree.specs.Parts.{function_parts, parts_of}
use Rattle.typed_tree.specs.StatementTree.{BodyTree}
use Rattle.typed_tree.specs.TypedTree.{FunctionTree, TypedTree, signatures_of}
use Rattle.typed_tree.specs.TypeRules.{stepped, unary_fits}
use Rattle.typed_tree.specs.TypeTests.{both_int, integer_of, same_int, same_types}
use Rattle.typed_tree.specs.WellFormed.{body_sound, function_sound, is_block, is_small, params_lead, scope_in, names_in, variable_sound, is_well_formed}
use Rattle.typed_tree.specs.WellFormedExpression.{Names, ty_of, is_typed}
use Rattle.typed_tree.specs.WellFormedStatement.{any_type, expr_fits, found_fits, is_sound}
use Rattle.typed_tree.proofs.NumberLemmas.{function_is_sound}
use Rattle.typed_tree.proofs.SameTypes.{int_self}
use Rattle.lifted_trees.specs.declared.placed.Placed.{Placed}
use Rattle.lifted_trees.specs.Sites.{Operation, before, conversion, between, SiteTree, Secrets, sites_in}
use Rattle.lifted_trees.specs.Lifted.{Callees, Lifting, HasNamedSecrets, IsNamed, IsOrdered, all_sites, callees, lifted, no_site, site_at, marked_operand, marked_param, numbered_sites, operand_at, operand_types, op_expr, op_function, op_functions, raised, raised_from, sites_from}
use Rattle.lifted_trees.proofs.BodyLemmas.{moved, names_typed, parts_typed, sound_moved}
use Rattle.lifted_trees.proofs.Eaches.{Each, each_first, each_second}
use Rattle.lifted_trees.proofs.FitLemmas.{all_fit, operation_fits, site_fits}
use Rattle.lifted_trees.proofs.NoSites.{none_in}
use Rattle.lifted_trees.proofs.OperatorLemmas.{options_same, options_self}
use Rattle.lifted_trees.proofs.OrderLemmas.{HasItsRequest, new_signatures, requests_there}
use Rattle.lifted_trees.proofs.TypedLemmas.{typed_raised}

-- ---- outermost expressions, raised

pub record IsRaisedAt (c : Callees) (P : ℕ → SiteTree → Type 0) (es : List ExprTree) (j : ℕ) (e : ExprTree) : Type 0 where
  pub secret : Secrets
  pub first : ℕ
  pub there : slice_get es j ≡ Some (raised c secret first e)
  pub each : Each P first (sites_in secret e)

pub raised_at : (c : Callees) (secret : ℕ → Secrets) (P : ℕ → SiteTree → Type 0) (k i : ℕ) (es : List ExprTree) (j : ℕ) (e : ExprTree) → slice_get es j ≡ Some e → Each P i (sites_from secret k es) →
    IsRaisedAt c P (raised_from c secret k i es) j e
raised_at c secret P k i [] j e h all = cc
raised_at c secret P k i (x ∷ xs) zero e h all = record {
  secret = secret k;
  first = i;
  there = ap (λ z. Some (raised c (secret k) i z)) (some_same x e h);
  each = subst (λ z. Each P i (sites_in (secret k) z)) (some_same x e h) (each_first P i (sites_in (secret k) x) (sites_from secret (suc k) xs) all);
}
raised_at c secret P k i (x ∷ xs) (suc j) e h all =
    let later = raised_at c secret P (suc k) (i + length (sites_in (secret k) x)) xs j e h (each_second P i (sites_in (secret k) x) (sites_from secret (suc k) xs) all) in
    record { secret = later.secret; first = later.first; there = later.there; each = later.each }

pub raised_count : (c : Callees) (secret : ℕ → Secrets) (k i : ℕ) (es : List ExprTree) → length (raised_from c secret k i es) ≡ length es
raised_count c secret k i [] = refl
raised_count c secret k i (x ∷ xs) = ap suc (raised_count c secret (suc k) (i + length (sites_in (secret k) x)) xs)

raised_ty : (c : Callees) (p : Secrets) (e : ExprTree) (i : ℕ) → ty_of (raised c p i e) ≡ ty_of e
raised_ty c p (typed s ty f) i = refl

-- ---- functions that stood before

follows_in : (l : Lifting) → IsOrdered l → (f : FunctionTree) (test : Option VarTy → Bool) (a : ExprId) → IsTrue (expr_fits (scope_in l.tree f) test a) →
    IsTrue (expr_fits (moved (scope_in l.tree f) (signatures_of l.tree ++ new_signatures l) (lifted l).exprs) test a)
follows_in l o f test a h = go (slice_get l.tree.exprs a.0) refl h
  where
    go : (x : Option ExprTree) → slice_get l.tree.exprs a.0 ≡ x → IsTrue (found_fits (names_in l.tree f) test x) →
        IsTrue (expr_fits (moved (scope_in l.tree f) (signatures_of l.tree ++ new_signatures l) (lifted l).exprs) test a)
    go None is h = cc
    go (Some e) is h =
        let r = raised_at (callees l) l.secret (HasItsRequest l) 0 0 l.tree.exprs a.0 e is (requests_there l o) in
        let grown : Names = record (names_in l.tree f) { signatures = signatures_of l.tree ++ new_signatures l } in
        let now = raised (callees l) r.secret r.first e in
        let there : slice_get (lifted l).exprs a.0 ≡ Some now = get_kept (raised_from (callees l) l.secret 0 0 l.tree.exprs) (map op_expr (numbered_sites l)) a.0 now r.there in
        let well : IsTrue (is_typed grown now) = typed_raised (names_in l.tree f) (new_signatures l) (callees l) r.secret e r.first (both_hold_first (is_typed (names_in l.tree f) e) (test (ty_of e)) h) r.each in
        let fits : IsTrue (test (ty_of now)) = subst (λ ty. IsTrue (test ty)) (sym (raised_ty (callees l) r.secret e r.first)) (both_hold_second (is_typed (names_in l.tree f) e) (test (ty_of e)) h) in
        subst (λ x. IsTrue (found_fits grown test x)) (sym there) (both_hold (is_typed grown now) (test (ty_of now)) well fits)

signatures_are : (l : Lifting) → signatures_of (lifted l) ≡ signatures_of l.tree ++ new_signatures l
signatures_are l = map_append (λ (f : FunctionTree). f.signature) l.tree.functions (op_functions (length l.tree.exprs) 0 (numbered_sites l))

pub old_sound : (l : Lifting) → IsOrdered l → (f : FunctionTree) → IsTrue (function_sound l.tree f) → IsTrue (function_sound (lifted l) f)
old_sound l o f h =
    let rest = both_hold_second (nat_le (length f.signature.params) 8 && params_lead f.signature.params f.vars) (list_all (variable_sound l.tree.structs) f.vars && body_sound l.tree f f.body) h in
    both_hold (nat_le (length f.signature.params) 8 && params_lead f.signature.params f.vars) (list_all (variable_sound l.tree.structs) f.vars && body_sound (lifted l) f f.body) (both_hold_first _ _ h)
    (both_hold (list_all (variable_sound l.tree.structs) f.vars) (body_sound (lifted l) f f.body) (both_hold_first _ _ rest)
    (body f.body (both_hold_second (list_all (variable_sound l.tree.structs) f.vars) (body_sound l.tree f f.body) rest)))
  where
    body : (b : Option BodyTree) → IsTrue (body_sound l.tree f b) → IsTrue (body_sound (lifted l) f b)
    body None h = h
    body (Some b) h =
        let inner = both_hold_second (not f.signature.host) (is_block b && is_sound (scope_in l.tree f) false false b) h in
        both_hold (not f.signature.host) (is_block b && is_sound (scope_in (lifted l) f) false false b) (both_hold_first _ _ h)
        (both_hold (is_block b) (is_sound (scope_in (lifted l) f) false false b) (both_hold_first _ _ inner)
        (subst (λ sigs. IsTrue (is_sound (moved (scope_in l.tree f) sigs (lifted l).exprs) false false b)) (sym (signatures_are l))
        (sound_moved (scope_in l.tree f) (signatures_of l.tree ++ new_signatures l) (lifted l).exprs (follows_in l o f) b false false (both_hold_second (is_block b) (is_sound (scope_in l.tree f) false false b) inner))))

-- ---- new functions

int_small : (structs : List StructInfo) (a : IntType) → is_small structs (Int a) ≡ true
unfolding leaves_of
int_small structs a = refl

operands_lead : (s : Span) (us : List IntType) → params_lead (map marked_param us) (map (marked_operand s) us) ≡ true
operands_lead s [] = refl
operands_lead s (u ∷ us) = both_hold (same_int u u && true) (params_lead (map marked_param us) (map (marked_operand s) us)) (both_hold (same_int u u) true (int_self u) refl) (operands_lead s us)

operands_sound : (structs : List StructInfo) (s : Span) (us : List IntType) → list_all (variable_sound structs) (map (marked_operand s) us) ≡ true
operands_sound structs s [] = refl
operands_sound structs s (u ∷ us) =
    both_hold (variable_sound structs (marked_operand s u)) (list_all (variable_sound structs) (map (marked_operand s) us)) (both_hold (is_small structs (Int u)) true (int_small structs u) refl) (operands_sound structs s us)

few_operands : (o : Operation) → nat_le (length (map marked_param (operand_types o))) 8 ≡ true
few_operands (before op a) = refl
few_operands (conversion a) = refl
few_operands (between op a b) = refl

operand_typed : (n : Names) (s : Span) (x : ℕ) (a : IntType) → option_map (λ v. v.ty) (slice_get n.vars x) ≡ Some (Int a) → IsTrue (is_typed n (operand_at s x a))
operand_typed n s x a h = both_hold (same_types (option_map (λ v. v.ty) (slice_get n.vars x)) (Some (Int a))) true (options_same (option_map (λ v. v.ty) (slice_get n.vars x)) (Some (Int a)) h) refl

op_typed : (n : Names) (o : Operation) (r : IntType) (s : Span) → n.vars ≡ map (marked_operand s) (operand_types o) → IsTrue (operation_fits o r) → IsTrue (is_typed n (op_expr (record { operation = o; result = r; span = s })))
op_typed n (before op a) r s vars h =
    both_hold (is_typed n (operand_at s 0 a)) (unary_fits op (Some (Int a)) (Some (Int r))) (operand_typed n s 0 a (ap (λ xs. option_map (λ v. v.ty) (slice_get xs 0)) vars)) h
op_typed n (conversion a) r s vars h = both_hold (is_typed n (operand_at s 0 a)) true (operand_typed n s 0 a (ap (λ xs. option_map (λ v. v.ty) (slice_get xs 0)) vars)) refl
op_typed n (between op a b) r s vars h =
    let left = operand_typed n s 0 a (ap (λ xs. option_map (λ v. v.ty) (slice_get xs 0)) vars) in
    let right = operand_typed n s 1 b (ap (λ xs. option_map (λ v. v.ty) (slice_get xs 1)) vars) in
    both_hold (is_typed n (operand_at s 0 a)) (is_typed n (operand_at s 1 b) && (same_types (stepped (Some (Int a)) op (Some (Int b))) (Some (Int r)) && same_types (Some (Int r)) (Some (Int r)))) left
    (both_hold (is_typed n (operand_at s 1 b)) (same_types (stepped (Some (Int a)) op (Some (Int b))) (Some (Int r)) && same_types (Some (Int r)) (Some (Int r))) right
    (both_hold (same_types (stepped (Some (Int a)) op (Some (Int b))) (Some (Int r))) (same_types (Some (Int r)) (Some (Int r))) h (options_self (Some (Int r)))))

op_sound : (t : TypedTree) (k e : ℕ) (x : SiteTree) → IsTrue (site_fits x) → slice_get t.exprs e ≡ Some (op_expr x) → IsTrue (function_sound t (op_function k e x))
op_sound t k e x fits there =
    let f = op_function k e x in
    let n = names_in t f in
    let well : IsTrue (is_typed n (op_expr x)) = op_typed n x.operation x.result x.span refl fits in
    let gives : IsTrue (found_fits n (λ ty. both_int (integer_of ty) (Some x.result)) (Some (op_expr x))) = both_hold (is_typed n (op_expr x)) (same_int x.result x.result) well (int_self x.result) in
    let returns : IsTrue (found_fits n (λ ty. both_int (integer_of ty) (Some x.result)) (slice_get t.exprs e)) = subst (λ y. IsTrue (found_fits n (λ ty. both_int (integer_of ty) (Some x.result)) y)) (sym there) gives in
    both_hold (nat_le (length f.signature.params) 8 && params_lead f.signature.params f.vars) (list_all (variable_sound t.structs) f.vars && body_sound t f f.body)
    (both_hold (nat_le (length f.signature.params) 8) (params_lead f.signature.params f.vars) (few_operands x.operation) (operands_lead x.span (operand_types x.operation)))
    (both_hold (list_all (variable_sound t.structs) f.vars) (body_sound t f f.body) (operands_sound t.structs x.span (operand_types x.operation))
    (both_hold (found_fits n (λ ty. both_int (integer_of ty) (Some x.result)) (slice_get t.exprs e)) true returns refl))

ops_sound : (t : TypedTree) (exprs k : ℕ) (xs : List SiteTree) → IsTrue (list_all site_fits xs) → ((m : ℕ) (x : SiteTree) → slice_get xs m ≡ Some x → slice_get t.exprs (exprs + (k + m)) ≡ Some (op_expr x)) →
    IsTrue (list_all (function_sound t) (op_functions exprs k xs))
ops_sound t exprs k [] fits there = refl
ops_sound t exprs k (x ∷ xs) fits there =
    let here : exprs + (k + 0) ≡ exprs + k = omega arith in
    both_hold (function_sound t (op_function k (exprs + k) x)) (list_all (function_sound t) (op_functions exprs (suc k) xs))
    (op_sound t k (exprs + k) x (both_hold_first _ _ fits) (subst (λ m. slice_get t.exprs m ≡ Some (op_expr x)) here (there 0 x refl)))
    (ops_sound t exprs (suc k) xs (both_hold_second (site_fits x) (list_all site_fits xs) fits)
    (λ m y h. let later : exprs + (k + suc m) ≡ exprs + (suc k + m) = omega arith in subst (λ j. slice_get t.exprs j ≡ Some (op_expr y)) later (there (suc m) y h)))

-- ---- all sites fit

both_by : (p test : Part → Bool) (q : Part) (qs : List Part) (b : Bool) → test q ≡ b → p q ≡ true → (b || list_any test qs) ≡ true → (list_any test qs ≡ true → (q : Part) × (p q ≡ true) × (test q ≡ true)) →
    (q : Part) × (p q ≡ true) × (test q ≡ true)
both_by p test q qs true e h k later = (q, h, e)
both_by p test q qs false e h k later = later k

both_at : (p test : Part → Bool) (qs : List Part) → list_all p qs ≡ true → list_any test qs ≡ true → (q : Part) × (p q ≡ true) × (test q ≡ true)
both_at p test [] h k = cc
both_at p test (q ∷ qs) h k = both_by p test q qs (test q) refl (both_hold_first (p q) (list_all p qs) h) k (both_at p test qs (both_hold_second (p q) (list_all p qs) h))

-- what a body names has sites that fit
body_fit : (t : TypedTree) (g : FunctionTree) (secret : Secrets) (j : ℕ) (e : ExprTree) (b : Option BodyTree) → IsTrue (body_sound t g b) → slice_get t.exprs j ≡ Some e →
    list_any (λ q. nat_eq q.expr.0 j) (function_parts b) ≡ true → IsTrue (list_all site_fits (sites_in secret e))
body_fit t g secret j e None h is k = cc
body_fit t g secret j e (Some b) h is k =
    let sound = both_hold_second (is_block b) (is_sound (scope_in t g) false false b) (both_hold_second (not g.signature.host) (is_block b && is_sound (scope_in t g) false false b) h) in
    let one = both_at (names_typed (scope_in t g)) (λ q. nat_eq q.expr.0 j) (parts_of b) (parts_typed (scope_in t g) b false false sound) k in
    let at : slice_get t.exprs one.0.expr.0 ≡ Some e = ap (slice_get t.exprs) (nat_eq_same one.0.expr.0 j one.2) ∙ is in
    let well : IsTrue (is_typed (names_in t g) e && true) = subst (λ x. IsTrue (found_fits (names_in t g) any_type x)) at one.1 in
    all_fit (names_in t g) secret e (both_hold_first (is_typed (names_in t g) e) true well)

named_fit : (t : TypedTree) (secret : Secrets) (j : ℕ) (e : ExprTree) → IsTrue (is_well_formed t) → slice_get t.exprs j ≡ Some e → (secret ≡ (λ e. false)) ⊎ IsNamed t j → IsTrue (list_all site_fits (sites_in secret e))
named_fit t secret j e well is (inl none) = subst (λ p. IsTrue (list_all site_fits (sites_in p e))) (sym none) (ap (list_all site_fits) (none_in e))
named_fit t secret j e well is (inr named) = go (slice_get t.functions named.0.0) refl named.1
  where
    go : (o : Option FunctionTree) → slice_get t.functions named.0.0 ≡ o → list_any (λ q. nat_eq q.expr.0 j) (function_parts (option_and_then (λ g. g.body) o)) ≡ true → IsTrue (list_all site_fits (sites_in secret e))
    go None at k = cc
    go (Some g) at k =
        let sound = function_is_sound t named.0.0 g well at in
        let body = both_hold_second (list_all (variable_sound t.structs) g.vars) (body_sound t g g.body)
        (both_hold_second (nat_le (length g.signature.params) 8 && params_lead g.signature.params g.vars) (list_all (variable_sound t.structs) g.vars && body_sound t g g.body) sound) in
        body_fit t g secret j e g.body body is k

sites_fit_from : (secret : ℕ → Secrets) (k : ℕ) (es : List ExprTree) → ((j : ℕ) (e : ExprTree) → slice_get es j ≡ Some e → IsTrue (list_all site_fits (sites_in (secret (k + j)) e))) → IsTrue (list_all site_fits (sites_from secret k es))
sites_fit_from secret k [] each = refl
sites_fit_from secret k (x ∷ xs) each =
    let here : k + 0 ≡ k = omega arith in
    all_hold_append site_fits (sites_in (secret k) x) (sites_from secret (suc k) xs) (subst (λ m. IsTrue (list_all site_fits (sites_in (secret m) x))) here (each 0 x refl))
    (sites_fit_from secret (suc k) xs (λ j e h. let later : k + suc j ≡ suc k + j = omega arith in subst (λ m. IsTrue (list_all site_fits (sites_in (secret m) e))) later (each (suc j) e h)))

all_sites_fit : (l : Lifting) → IsTrue (is_well_formed l.tree) → HasNamedSecrets l → IsTrue (list_all site_fits (all_sites l))
all_sites_fit l well named = sites_fit_from l.secret 0 l.tree.exprs (λ j e h.
    let plain : j ≡ 0 + j = omega arith in subst (λ m. IsTrue (list_all site_fits (sites_in (l.secret m) e))) plain (named_fit l.tree (l.secret j) j e well h (named j)))

fit_at : (xs : List SiteTree) (i : ℕ) (d : SiteTree) → IsTrue (list_all site_fits xs) → IsTrue (site_fits d) → IsTrue (site_fits (get_or xs i d))
fit_at [] i d h k = k
fit_at (x ∷ xs) zero d h k = both_hold_first (site_fits x) (list_all site_fits xs) h
fit_at (x ∷ xs) (suc i) d h k = fit_at xs i d (both_hold_second (site_fits x) (list_all site_fits xs) h) k

numbered_fit : (l : Lifting) (order : List Placed) → IsTrue (list_all site_fits (all_sites l)) → IsTrue (list_all site_fits (map (λ x. site_at l x.place) order))
numbered_fit l [] h = refl
numbered_fit l (x ∷ xs) h = both_hold (site_fits (site_at l x.place)) (list_all site_fits (map (λ y. site_at l y.place) xs)) (fit_at (all_sites l) x.place no_site h refl) (numbered_fit l xs h)

-- what the new function of this number returns
pub op_expr_there : (l : Lifting) (m : ℕ) (x : SiteTree) → slice_get (numbered_sites l) m ≡ Some x → slice_get (lifted l).exprs (length l.tree.exprs + (0 + m)) ≡ Some (op_expr x)
op_expr_there l m x h =
    let raised_ones = raised_from (callees l) l.secret 0 0 l.tree.exprs in
    let count : length raised_ones ≡ length l.tree.exprs = raised_count (callees l) l.secret 0 0 l.tree.exprs in
    let same : length raised_ones + m ≡ length l.tree.exprs + (0 + m) = omega (arith, count) in
    subst (λ k. slice_get (lifted l).exprs k ≡ Some (op_expr x)) same (get_after raised_ones (map op_expr (numbered_sites l)) m ∙ get_mapped op_expr (numbered_sites l) m x h)

pub new_sound : (l : Lifting) → IsTrue (is_well_formed l.tree) → HasNamedSecrets l → IsTrue (list_all (function_sound (lifted l)) (op_functions (length l.tree.exprs) 0 (numbered_sites l)))
new_sound l well named = ops_sound (lifted l) (length l.tree.exprs) 0 (numbered_sites l) (numbered_fit l l.order (all_sites_fit l well named)) (op_expr_there l)
