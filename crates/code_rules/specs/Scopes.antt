-- What the names and scopes of code stand for.
use Rattle.std.specs.Prelude.{ℕ, Bool, ◌&&◌, Option, map, nat_eq}
use Rattle.std.specs.Map.{lookup}
use Rattle.pt_tree.specs.declared.signature.Signature.{Signature}
use Rattle.typed_tree.specs.WellFormed.{are_rising}
use Rattle.pt_core.specs.CodeTree.{numbered, view_global}
use Rattle.pt_core.specs.Types.{Context}
use Rattle.pt_core.specs.WellFormedStatement as statement
use Rattle.code_rules.specs.declared.names.Names.{Names}
use Rattle.code_rules.specs.declared.names.Scope.{Scope}

-- the functions and the globals are in the order of their numbers, with no number twice
abbrev pub are_ordered : Names → Bool
are_ordered n = are_rising 0 (map (λ s. s.0) (numbered n.signatures.now)) && are_rising 0 (map (λ g. g.id) (map view_global n.globals.now))

-- what a function is called with, by its number
abbrev pub signature_in : Names → ℕ → Option Signature
signature_in n f = lookup (nat_eq f) (numbered n.signatures.now)

abbrev pub context_of : Scope → Context
context_of s = record {
  structs = s.names.now.structs.now;
  globals = map (λ g. (g.id, g.var.ty)) (map view_global s.names.now.globals.now);
  variables = map (λ x. x.ty) s.variables.now;
}

abbrev pub scope_of : Scope → statement.Scope
scope_of s = record { context = context_of s; result = s.result; called = signature_in s.names.now }
