-- The normal form of a function by its number.
use Rattle.std.specs.Prelude.{ℕ, List, [], Option, None, Some}
use Rattle.pt_base.specs.declared.ids.FnId.{FnId}
use Rattle.typed_tree.specs.Lookup.{function_at}
use Rattle.typed_tree.specs.TypedTree.{FunctionTree, TypedTree}
use Rattle.pt_core.specs.CodeTree as core
use Rattle.lowering.specs.Functions.{code_if}

-- the normal form of this function, where there is one
abbrev pub code_of_found : TypedTree → ℕ → Option FunctionTree → List core.FunctionTree
code_of_found t n None = []
code_of_found t n (Some f) = code_if t n f f.body

abbrev pub code_at : TypedTree → FnId → List core.FunctionTree
code_at t f = code_of_found t f.0 (function_at t f)
