-- What is known of a well formed program.
use Rattle.std.proofs.Common.{◌≡◌, ℕ, Bool, true, false, List, [], ◌∷◌, Some, refl, subst, arith}
use Rattle.std.specs.Prelude.{IsTrue, nat_eq, if◌then◌else◌}
use Rattle.std.specs.List.{list_all, find}
use Rattle.pt_base.proofs.Booleans.{both_hold_first, both_hold_second}
use Rattle.typed_tree.specs.WellFormed.{structs_sound}
use Rattle.pt_core.specs.CodeTree.{FunctionTree, ProgramTree}
use Rattle.pt_core.specs.WellFormed.{are_in_order, global_fits, are_small, signature_fits, function_fits, callees, callee_fits, function_at, is_sound}

-- the facts that make a program sound, main aside
pub record Facts (monitor : Bool) (p : ProgramTree) : Type 0 where
  pub order : IsTrue (are_in_order p)
  pub structs : IsTrue (structs_sound p.structs 0 p.structs)
  pub globals : IsTrue (list_all (global_fits p.structs) p.globals)
  pub small : IsTrue (are_small p.globals)
  pub signatures : IsTrue (list_all (λ s. signature_fits p.structs s.1) p.signatures)
  pub functions : IsTrue (list_all (function_fits monitor p) p.functions)
  pub calls : IsTrue (list_all (callee_fits monitor p) (callees p))

pub facts_of : (monitor : Bool) (p : ProgramTree) → IsTrue (is_sound monitor p) → Facts monitor p
facts_of monitor p h =
    let declared = both_hold_first _ _ h in
    let rest = both_hold_second _ _ h in
    let code = both_hold_second _ _ rest in
    record {
      order = both_hold_first _ _ declared;
      structs = both_hold_second _ _ declared;
      globals = both_hold_first _ _ (both_hold_first _ _ rest);
      small = both_hold_second _ _ (both_hold_first _ _ rest);
      signatures = both_hold_first _ _ (both_hold_first _ _ code);
      functions = both_hold_second _ _ (both_hold_first _ _ code);
      calls = both_hold_second _ _ code;
    }

-- what holds of each holds of the first that passes a test
pub found_holds : {A : Type 0} (keep test : A → Bool) (xs : List A) (a : A) → IsTrue (list_all keep xs) → find test xs ≡ Some a → IsTrue (keep a) × IsTrue (test a)
found_holds keep test [] a h is = grind (arith, is)
found_holds keep test (x ∷ xs) a h is = go (test x) refl is (found_holds keep test xs a (both_hold_second _ _ h))
  where
    go : (b : Bool) → test x ≡ b → (if b then Some x else find test xs) ≡ Some a → (find test xs ≡ Some a → IsTrue (keep a) × IsTrue (test a)) → IsTrue (keep a) × IsTrue (test a)
    go true passes e later = let same : x ≡ a = grind (arith, e) in (subst (λ y. IsTrue (keep y)) same (both_hold_first _ _ h), subst (λ y. IsTrue (test y)) same passes)
    go false passes e later = later e

-- a function of a sound program, by its number
pub function_is_sound : (monitor : Bool) (p : ProgramTree) (f : ℕ) (g : FunctionTree) → IsTrue (is_sound monitor p) → function_at p f ≡ Some g → IsTrue (function_fits monitor p g) × IsTrue (nat_eq f g.id)
function_is_sound monitor p f g h is = found_holds (function_fits monitor p) (λ x. nat_eq f x.id) p.functions g (facts_of monitor p h).functions is
