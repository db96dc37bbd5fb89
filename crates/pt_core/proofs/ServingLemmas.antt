-- A program whose functions have all parameters of their signatures, as the monitor's.
use Rattle.std.proofs.Common.{◌≡◌, ℕ, true, false, List, [], ◌∷◌, Option, Some, None, refl, ap, sym, ◌∙◌, subst, arith, length}
use Rattle.std.specs.Prelude.{IsTrue, not, nat_eq, nat_le, take, option_map}
use Rattle.std.specs.List.{list_all}
use Rattle.std.proofs.lemmas.Bool.Decides.{nat_tests}
use Rattle.pt_base.proofs.Booleans.{both_hold, both_hold_first, both_hold_second, if_same as either}
use Rattle.pt_base.proofs.Numbers.{equal_holds}
use Rattle.pt_base.proofs.Places.{take_length}
use Rattle.pt_tree.specs.declared.signature.Signature.{Signature}
use Rattle.pt_core.specs.CodeTree.{FunctionTree, ProgramTree}
use Rattle.pt_core.specs.WellFormedStatement.{stmts_fit}
use Rattle.pt_core.specs.WellFormed.{signature_at, function_at, with_own, called_signature, context_of, function_by, function_fits, is_sound}
use Rattle.pt_core.specs.ServingLaw.{WholeMayServe}
use Rattle.pt_core.proofs.WellFormedLemmas.{facts_of, function_is_sound}

pointwise : {A B : Type 0} {f g : A → B} → ((x : A) → f x ≡ g x) → f ≡ g
pointwise h = λ i x. h x i

pub all_own : (p : ProgramTree) (g : FunctionTree) (s : Signature) → IsTrue (function_by false p g (Some s)) → g.params ≡ length s.params
all_own p g s h =
    let counts : IsTrue (nat_eq g.params (length s.params)) = both_hold_first _ _ (both_hold_second (not s.host) _ (both_hold_first _ _ h)) in
    grind (arith, nat_tests, counts)

pub own_is_all : (p : ProgramTree) → IsTrue (is_sound false p) → (f : ℕ) (g : Option FunctionTree) (s : Option Signature) → function_at p f ≡ g → signature_at p f ≡ s → option_map (with_own true g) s ≡ option_map (with_own false g) s
own_is_all p h f None None at is = refl
own_is_all p h f None (Some s) at is = refl
own_is_all p h f (Some g) None at is = refl
own_is_all p h f (Some g) (Some s) at is =
    let found = function_is_sound false p f g h at in
    let here = subst (λ x. IsTrue (function_by false p g x)) (ap (signature_at p) (sym (equal_holds f g.id found.1)) ∙ is) found.0 in
    ap Some (either (not s.host) (record s { params = take g.params s.params }) s (ap (λ xs. record s { params = xs }) (take_length g.params s.params (all_own p g s here))))

pub same_calls : (p : ProgramTree) → IsTrue (is_sound false p) → called_signature true p ≡ called_signature false p
same_calls p h = pointwise (λ f. own_is_all p h f (function_at p f) (signature_at p f) refl refl)

serves : (p : ProgramTree) → IsTrue (is_sound false p) → (g : FunctionTree) (s : Option Signature) → IsTrue (function_by false p g s) → IsTrue (function_by true p g s)
serves p h g None i = i
serves p h g (Some s) i =
    let counts : IsTrue (nat_le g.params (length s.params)) = grind (arith, nat_tests, all_own p g s i) in
    let head = both_hold_first _ _ i in
    let body = both_hold_second _ _ i in
    let leads = both_hold_second _ _ head in
    both_hold _ _
    (both_hold _ _ (both_hold_first _ _ head) (both_hold _ _ counts (both_hold_second _ _ leads)))
    (both_hold _ _ (both_hold_first _ _ body)
    (subst (λ called. IsTrue (stmts_fit (record { context = context_of p g.vars; result = s.result; called = called }) false g.body)) (sym (same_calls p h)) (both_hold_second _ _ body)))

serve_all : (p : ProgramTree) → IsTrue (is_sound false p) → (gs : List FunctionTree) → IsTrue (list_all (function_fits false p) gs) → IsTrue (list_all (function_fits true p) gs)
serve_all p h [] i = i
serve_all p h (g ∷ gs) i = both_hold _ _ (serves p h g (signature_at p g.id) (both_hold_first _ _ i)) (serve_all p h gs (both_hold_second _ _ i))

pub whole_may_serve : WholeMayServe
whole_may_serve p h calls =
    let facts = facts_of false p h in
    both_hold _ _ (both_hold _ _ facts.order facts.structs)
    (both_hold _ _ (both_hold _ _ facts.globals facts.small)
    (both_hold _ _ (both_hold _ _ facts.signatures (serve_all p h p.functions facts.functions)) calls))
