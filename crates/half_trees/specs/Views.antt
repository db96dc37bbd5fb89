-- The program that a half stands for, and what numbers name in one of its functions.
use Rattle.std.specs.Prelude.{map}
use Rattle.pt_core.specs.CodeTree.{ProgramTree, numbered, view_function, view_global}
use Rattle.pt_core.specs.Types.{Context}
use Rattle.pt_core.specs.WellFormed.{context_of}
use Rattle.half_trees.specs.declared.half.Half.{Half}
use Rattle.half_trees.specs.declared.half.Scope.{Scope}

abbrev pub view_half : Half → ProgramTree
view_half h = record {
  structs = h.structs.now;
  signatures = numbered h.signatures.now;
  functions = map view_function h.functions.now;
  globals = map view_global h.globals.now;
}

abbrev pub view_scope : Scope → Context
view_scope s = context_of (view_half s.half.now) s.variables.now
