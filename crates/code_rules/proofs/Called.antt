-- What the functions of a program are tested by, but for the monitor's.
use Rattle.std.proofs.Common.{◌≡◌, ℕ, Option, Some, None, false, refl, ap, nat_eq}
use Rattle.std.specs.Prelude.{option_map}
use Rattle.std.specs.Map.{lookup}
use Rattle.pt_tree.specs.declared.signature.Signature.{Signature}
use Rattle.pt_core.specs.CodeTree.{FunctionTree, ProgramTree}
use Rattle.pt_core.specs.WellFormed.{context_of, with_own, function_at, signature_at, called_signature, scope_of}
use Rattle.pt_core.specs.WellFormedStatement.{Scope}

all_of : (g : Option FunctionTree) (s : Option Signature) → option_map (with_own false g) s ≡ s
all_of None None = refl
all_of None (Some s) = refl
all_of (Some g) None = refl
all_of (Some g) (Some s) = refl

-- a call gives each parameter of the signature
pub called_is : (p : ProgramTree) (f : ℕ) → called_signature false p f ≡ lookup (nat_eq f) p.signatures
called_is p f = all_of (function_at p f) (signature_at p f)

pub scope_is : (p : ProgramTree) (f : FunctionTree) (s : Signature) →
    scope_of false p f s ≡ record { context = context_of p f.vars; result = s.result; called = λ g. lookup (nat_eq g) p.signatures }
scope_is p f s =
    let scope : (ℕ → Option Signature) → Scope = λ called. record { context = context_of p f.vars; result = s.result; called = called } in
    ap scope (λ i g. called_is p g i)
