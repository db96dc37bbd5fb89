use Rattle.std.proofs.Common.{◌≡◌, ◌++◌, List, [], drop, map}
use Rattle.pt_core.specs.Types.{shape_of}
use Rattle.typed_tree.specs.Cells.{leaves_from}
use Rattle.typed_tree.specs.declared.types.StructInfo.{StructInfo}
use Rattle.typed_tree.specs.declared.variable.Var.{Var}
use Rattle.core_machine.proofs.leaves.shapes_of.Given as goal

abbrev pub invariant-loop-var : goal.invariant-loop-var
invariant-loop-var l =
    (structs : List StructInfo) → leaves_from [] structs ≡ l.fn.known → l.shapes.items ++ map (λ (x : Var). shape_of structs x.ty) (drop l.var-index l.vars) ≡ map (λ (x : Var). shape_of structs x.ty) l.fn.vars
