use Rattle.std.proofs.Common.{◌≡◌, ◌++◌, drop, map}
use Rattle.std.specs.List.{flat_map}
use Rattle.typed_tree.specs.TypedView.{view_typed}
use Rattle.pt_core.specs.CodeTree.{view_function}
use Rattle.lowering_threads.specs.Codes.{code_at}
use Rattle.lowering_threads.proofs.code.lower_run.Given as goal

-- the code so far, and then that of the other functions, is that of all of these
abbrev pub invariant-loop-f : goal.invariant-loop-f
invariant-loop-f g l = map view_function l.code.items ++ flat_map (code_at (view_typed l.t)) (drop l.f-index l.functions) ≡ flat_map (code_at (view_typed l.t)) l.functions
