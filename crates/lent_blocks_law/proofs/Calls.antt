-- What the code of functions is.
use Rattle.std.proofs.Common.{◌≡◌, ℕ, zero, suc, nat_eq, sym, subst, Bool, true, false, Some, if◌then◌else◌, List, [], ◌∷◌}
use Rattle.std.specs.Prelude.{IsTrue, slice_get}
use Rattle.std.specs.List.{find}
use Rattle.pt_core.specs.CodeTree.{FunctionTree, ProgramTree}
use Rattle.pt_core.specs.Calls.{function_in, context_in}
use Rattle.pt_core.specs.WellFormed.{called_signature, context_of}
use Rattle.core_soundness_law.proofs.Programs.{FunctionFacts}
use Rattle.half_meaning_law.specs.CForms.{are_said}
use Rattle.lent_blocks_law.specs.Lent.{CodeIsSaid}

found_at : (P : FunctionTree → Bool) (fs : List FunctionTree) (g : FunctionTree) → find P fs ≡ Some g → (n : ℕ) × (slice_get fs n ≡ Some g)
found_at P [] g is = cc
found_at P (x ∷ xs) g is = go (λ e. found_at P xs g e) (P x) is
  where
    go : (find P xs ≡ Some g → (n : ℕ) × (slice_get xs n ≡ Some g)) → (b : Bool) → (if b then Some x else find P xs) ≡ Some g → (n : ℕ) × (slice_get (x ∷ xs) n ≡ Some g)
    go more true e = (zero, e)
    go more false e = let rest : (n : ℕ) × (slice_get xs n ≡ Some g) = more e in (suc rest.0, rest.1)

pub body_said : (monitor : Bool) (program : ProgramTree) (f : ℕ) → FunctionFacts monitor program f → CodeIsSaid monitor program → IsTrue (are_said (context_in program f) (called_signature monitor program) (function_in program f).body)
body_said monitor program f facts said =
    let at : (n : ℕ) × (slice_get program.functions n ≡ Some facts.tree) = found_at (λ g. nat_eq f g.id) program.functions facts.tree facts.found in
    subst (λ (g : FunctionTree). IsTrue (are_said (context_of program g.vars) (called_signature monitor program) g.body)) (sym facts.tree_is) (said at.0 facts.tree at.1)
