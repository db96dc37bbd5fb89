-- In two programs that are the same for the slave, the slave runs the same functions, and these name and call the same.
use Rattle.std.proofs.Common.{◌≡◌, ◌∙◌, ◌<◌, ℕ, zero, suc, refl, ap, sym, subst, arith, Bool, true, false, not, Option, None, Some, List, [], ◌∷◌, length, option_map}
use Rattle.std.specs.Prelude.{◌&&◌, ◌||◌, IsTrue, Contains, codes, is_some, slice_get}
use Rattle.std.specs.List.{flat_map, list_all, list_any}
use Rattle.std.specs.Option.{option_map_or}
use Rattle.std.proofs.lemmas.Slice.Eq.{bytes_eq-Decides}
use Rattle.pt_base.specs.declared.ids.FnId.{FnId}
use Rattle.pt_base.specs.declared.ids.GlobalId.{GlobalId}
use Rattle.pt_base.proofs.Booleans.{both_hold_first, both_hold_second, false_not_true}
use Rattle.pt_base.proofs.Options.{some_same}
use Rattle.pt_tree.specs.declared.signature.Signature.{Signature}
use Rattle.typed_tree.specs.Lookup.{function_at, HasName, signature_of}
use Rattle.typed_tree.specs.StatementTree.{BodyTree}
use Rattle.typed_tree.specs.TypedTree.{FunctionTree, TypedTree}
use Rattle.typed_tree.specs.WellFormed.{body_sound, function_sound, is_start, is_well_formed, variable_sound}
use Rattle.typed_tree.specs.WellFormedExpression.{is_main}
use Rattle.typed_tree.proofs.NameLemmas.{named_is}
use Rattle.typed_tree.proofs.WellFormedLemmas.{facts_of}
use Rattle.usages.specs.Usages.{UsageTree}
use Rattle.reach.specs.Contexts.{InSlave, IsOwned, callees_in, expr_callees, expr_globals, globals_in, is_plain, main, slave_calls, test_function}
use Rattle.lowered_code_law.specs.LocalitySameFunctions.{IsSameFunction}
use Rattle.lowered_code_law.proofs.LocalityParts.{same_usages}
use Rattle.low_views_law.specs.ToldBootsSameForSlave.{IsSameForSlave}

-- ---- what is known of a program

-- Its main has one number, and a function without a body is a host.
pub record IsSound (t : TypedTree) : Type 0 where
  pub start : FnId
  pub named : HasName t start (codes "main")
  pub alone : (f g : FnId) → HasName t f (codes "main") → HasName t g (codes "main") → f ≡ g
  pub bodies : (f : FnId) (g : FunctionTree) → function_at t f ≡ Some g → is_some g.body ≡ not g.signature.host

-- ---- what a function is

-- what is known of a function that has a number
pub record Known (t : TypedTree) (f : FnId) : Type 0 where
  pub function : FunctionTree
  pub is : function_at t f ≡ Some function

found : (t : TypedTree) (f : FnId) (s : Signature) → signature_of t f ≡ Some s → (k : Known t f) × (k.function.signature ≡ s)
found t f s h = go (function_at t f) refl h
  where
    go : (o : Option FunctionTree) → function_at t f ≡ o → option_map (λ (g : FunctionTree). g.signature) o ≡ Some s → (k : Known t f) × (k.function.signature ≡ s)
    go None e i = cc
    go (Some g) e i = (record { function = g; is = e }, some_same g.signature s i)

all_at : {A : Type 0} (test : A → Bool) (xs : List A) (k : ℕ) (x : A) → slice_get xs k ≡ Some x → list_all test xs ≡ true → test x ≡ true
all_at test [] k x e h = cc
all_at test (y ∷ ys) zero x e h = ap test (sym (some_same y x e)) ∙ both_hold_first (test y) (list_all test ys) h
all_at test (y ∷ ys) (suc k) x e h = all_at test ys k x e (both_hold_second (test y) (list_all test ys) h)

-- a function has a body, or is a host
body_of_function : (t : TypedTree) (f : FnId) (g : FunctionTree) → IsTrue (is_well_formed t) → function_at t f ≡ Some g → is_some g.body ≡ not g.signature.host
body_of_function t f g well is = go g.body refl (both_hold_second (list_all (variable_sound t.structs) g.vars) (body_sound t g g.body) (both_hold_second _ (list_all (variable_sound t.structs) g.vars && body_sound t g g.body) (all_at (function_sound t) t.functions f.0 g is (facts_of t well).functions)))
  where
    opposite : (b : Bool) → not b ≡ true → true ≡ not b
    opposite b h = sym h

    hosts : (b : Bool) → b ≡ true → false ≡ not b
    hosts b h = sym (ap not h)

    go : (o : Option BodyTree) → g.body ≡ o → body_sound t g g.body ≡ true → is_some g.body ≡ not g.signature.host
    go None e h = ap is_some e ∙ hosts g.signature.host (both_hold_first g.signature.host _ (sym (ap (body_sound t g) e) ∙ h))
    go (Some b) e h = ap is_some e ∙ opposite g.signature.host (both_hold_first (not g.signature.host) _ (sym (ap (body_sound t g) e) ∙ h))

any_at : {A : Type 0} (test : A → Bool) (xs : List A) → list_any test xs ≡ true → (k : ℕ) × (x : A) × (slice_get xs k ≡ Some x) × (test x ≡ true)
any_at test [] h = false_not_true h
any_at {A} test (x ∷ xs) h = go (test x) refl (λ i. any_at test xs i) h
  where
    go : (b : Bool) → test x ≡ b → (list_any test xs ≡ true → (k : ℕ) × (y : A) × (slice_get xs k ≡ Some y) × (test y ≡ true)) → (b || list_any test xs) ≡ true → (k : ℕ) × (y : A) × (slice_get (x ∷ xs) k ≡ Some y) × (test y ≡ true)
    go true e rest i = (0, x, refl, e)
    go false e rest i = let r = rest i in (suc (r.0), r.1, r.2, r.3)

-- the function that is named main, which has a body
has_main : (t : TypedTree) → IsTrue (is_well_formed t) → (f : FnId) × HasName t f (codes "main") × (g : FunctionTree) × (function_at t f ≡ Some g) × (is_some g.body ≡ true)
has_main t well =
    let m = any_at is_start t.functions (facts_of t well).start in (
      record { 0 = m.0 },
      ap (λ (o : Option FunctionTree). option_map (λ (s : Signature). s.name) (option_map (λ (g : FunctionTree). g.signature) o)) m.2 ∙ ap Some ((bytes_eq-Decides m.1.signature.name (codes "main")).0 (both_hold_first (is_main m.1.signature) _ m.3)),
      m.1,
      m.2,
      both_hold_first (is_some m.1.body) _ (both_hold_second (is_main m.1.signature) _ m.3),
    )

one_has_name : (t : TypedTree) → IsTrue (is_well_formed t) → (name : List ℕ) (f g : FnId) → HasName t f name → HasName t g name → f ≡ g
one_has_name t well name f g h i = some_same f g (sym ((named_is t name f well).1 h) ∙ (named_is t name g well).1 i)

pub main_has_body : (t : TypedTree) → IsTrue (is_well_formed t) → (f : FnId) → HasName t f (codes "main") → (g : FunctionTree) × (function_at t f ≡ Some g) × (is_some g.body ≡ true)
main_has_body t well f h =
    let m = has_main t well in
    (m.2, ap (function_at t) (sym (one_has_name t well (codes "main") m.0 f m.1 h)) ∙ m.3, m.4)

pub sound_of : (t : TypedTree) → IsTrue (is_well_formed t) → IsSound t
sound_of t well = let m = has_main t well in record { start = m.0; named = m.1; alone = one_has_name t well (codes "main"); bodies = λ f g is. body_of_function t f g well is }

plain_at : (t : TypedTree) (f : FnId) (g : FunctionTree) → function_at t f ≡ Some g → test_function is_plain t f ≡ is_plain g
plain_at t f g is = ap (λ (o : Option FunctionTree). option_map_or is_plain o false) is

-- where a number is plain, a function has it
plain_known : (t : TypedTree) (f : FnId) → test_function is_plain t f ≡ true → Known t f
plain_known t f h = go (function_at t f) refl h
  where
    go : (o : Option FunctionTree) → function_at t f ≡ o → option_map_or is_plain o false ≡ true → Known t f
    go None e i = false_not_true i
    go (Some g) e i = record { function = g; is = e }

-- ---- the same functions

-- what a function that is the same in both evaluates
pub same_callees : (t u : TypedTree) (f : FnId) → IsSameFunction t u f → callees_in t f ≡ callees_in u f
same_callees t u f s = ap (λ (us : List UsageTree). flat_map (λ (x : UsageTree). expr_callees x.value) us) (same_usages t u f s)

pub same_globals : (t u : TypedTree) (f : FnId) → IsSameFunction t u f → globals_in t f ≡ globals_in u f
same_globals t u f s = ap (λ (us : List UsageTree). flat_map (λ (x : UsageTree). expr_globals x.value) us) (same_usages t u f s)

pub own_signature : (t u : TypedTree) (f : FnId) → IsSameFunction t u f → signature_of t f ≡ signature_of u f
own_signature t u f s =
    ap (option_map (λ (g : FunctionTree). g.signature)) s.stands_here ∙ ap Some s.signature ∙ sym (ap (option_map (λ (g : FunctionTree). g.signature)) s.stands_there)

named : (t u : TypedTree) (f : FnId) (name : List ℕ) → signature_of t f ≡ signature_of u f → HasName t f name → HasName u f name
named t u f name e h = ap (option_map (λ (s : Signature). s.name)) (sym e) ∙ h

own_plain : (t u : TypedTree) (f : FnId) → IsSameFunction t u f → test_function is_plain t f ≡ test_function is_plain u f
own_plain t u f s =
    let bodies = ap is_some s.body_here ∙ sym (ap is_some s.body_there) in
    plain_at t f s.here s.stands_here ∙ (λ i. bodies i && not (s.signature i).privileged) ∙ sym (plain_at u f s.there s.stands_there)

pub still_reached : (t u : TypedTree) → IsSameForSlave t u → (f : FnId) → InSlave t f → InSlave u f
still_reached t u same f (main g h) = main g (named t u g (codes "main") (own_signature t u g (same.functions g (main g h))) h)
still_reached t u same f (slave_calls h g r c e) =
    slave_calls h g (still_reached t u same h r) (subst (λ (gs : List FnId). Contains gs g) (same_callees t u h (same.functions h r)) c) (sym (own_plain t u g (same.functions g (slave_calls h g r c e))) ∙ e)

-- ---- and no others

-- what is plain in the second is so in the first, if both are called with the same
plain_before : (t u : TypedTree) → IsSound t → IsSound u → (f : FnId) → signature_of t f ≡ signature_of u f → test_function is_plain u f ≡ true → test_function is_plain t f ≡ true
plain_before t u known sound f same plain =
    let y = plain_known u f plain in
    let x = found t f y.function.signature (same ∙ ap (option_map (λ (g : FunctionTree). g.signature)) y.is) in
    let bodies : is_some x.0.function.body ≡ is_some y.function.body = known.bodies f x.0.function x.0.is ∙ ap (λ (s : Signature). not s.host) x.1 ∙ sym (sound.bodies f y.function y.is) in
    plain_at t f x.0.function x.0.is ∙ (λ i. bodies i && not (x.1 i).privileged) ∙ sym (plain_at u f y.function y.is) ∙ plain

pub reached_before : (t u : TypedTree) → IsSound t → IsSound u → IsSameForSlave t u → (f : FnId) → InSlave u f → InSlave t f
reached_before t u known sound same f (main g h) =
    let inside = main known.start known.named in
    subst (λ (x : FnId). InSlave t x) (sound.alone known.start g (named t u known.start (codes "main") (own_signature t u known.start (same.functions known.start inside)) known.named) h) inside
reached_before t u known sound same f (slave_calls h g r c e) =
    let before = reached_before t u known sound same h r in
    let call = subst (λ (gs : List FnId). Contains gs g) (sym (same_callees t u h (same.functions h before))) c in
    slave_calls h g before call (plain_before t u known sound g (same.signatures h g before call) e)

-- ---- globals

there_too : {A : Type 0} (xs ys : List A) (k : ℕ) → slice_get xs k ≡ slice_get ys k → k < length xs → k < length ys
there_too [] ys k e h = absurd (omega (arith, h))
there_too (x ∷ xs) [] zero e h = cc
there_too (x ∷ xs) [] (suc k) e h = let lt = there_too xs [] k e (omega (arith, h)) in absurd (omega (arith, lt))
there_too (x ∷ xs) (y ∷ ys) zero e h = omega arith
there_too (x ∷ xs) (y ∷ ys) (suc k) e h = let lt = there_too xs ys k e (omega (arith, h)) in omega (arith, lt)

-- the slave owns the same globals
pub still_owned : (t u : TypedTree) → IsSameForSlave t u → (g : GlobalId) → IsOwned t g → IsOwned u g
still_owned t u same g o =
    let f = o.1.0 in
    let r = o.1.1 in
    (there_too t.globals u.globals g.0 (same.globals f g r o.1.2) o.0, (f, still_reached t u same f r, subst (λ (gs : List GlobalId). Contains gs g) (same_globals t u f (same.functions f r)) o.1.2))

pub owned_before : (t u : TypedTree) → IsSound t → IsSound u → IsSameForSlave t u → (g : GlobalId) → IsOwned u g → IsOwned t g
owned_before t u known sound same g o =
    let f = o.1.0 in
    let r = reached_before t u known sound same f o.1.1 in
    let names = subst (λ (gs : List GlobalId). Contains gs g) (sym (same_globals t u f (same.functions f r))) o.1.2 in
    (there_too u.globals t.globals g.0 (sym (same.globals f g r names)) o.0, (f, r, names))
