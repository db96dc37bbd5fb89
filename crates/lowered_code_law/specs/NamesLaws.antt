-- Lowered code names no more than the body that it was made of.
use Rattle.std.specs.Prelude.{◌≡◌, ℕ, Some, Contains, map}
use Rattle.pt_base.specs.declared.ids.FnId.{FnId}
use Rattle.pt_base.specs.declared.ids.GlobalId.{GlobalId}
use Rattle.typed_tree.specs.Lookup.{function_at}
use Rattle.typed_tree.specs.StatementTree.{BodyTree}
use Rattle.typed_tree.specs.TypedTree.{TypedTree, FunctionTree}
use Rattle.pt_core.specs.WellFormedStatement.{callees_of}
use Rattle.lowering.specs.Functions.{core_of}
use Rattle.reach.specs.Contexts.{globals_in, callees_in}
use Rattle.lowered_code_law.specs.NamesNamed.{globals_of}

-- Of each function that has a body: the globals that its code names are among those that the body names,
-- and the functions and hosts that its code calls are among those that the body calls.
abbrev pub LoweredNames : Type 0
LoweredNames = (t : TypedTree) (n : ℕ) (f : FunctionTree) (body : BodyTree) → function_at t (record { 0 = n }) ≡ Some f → f.body ≡ Some body →
    ((g : ℕ) → Contains (globals_of (core_of t n f body).body) g → Contains (map (λ (x : GlobalId). x.0) (globals_in t (record { 0 = n }))) g)
    × ((c : ℕ) → Contains (callees_of (core_of t n f body).body) c → Contains (map (λ (x : FnId). x.0) (callees_in t (record { 0 = n }))) c)
