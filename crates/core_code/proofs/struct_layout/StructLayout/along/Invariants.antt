use Rattle.std.proofs.Common.{◌≡◌, ◌+◌, drop}
use Rattle.pt_core.specs.Types.{path_type}
use Rattle.core_code.specs.Paths.{path_offset}
use Rattle.core_code.proofs.struct_layout.StructLayout.along.Given as goal

abbrev pub invariant-loop-field : goal.invariant-loop-field
invariant-loop-field l =
    (l.cells + path_offset l.self l.ty (drop l.field-index l.path) ≡ path_offset l.self l.fn.whole l.fn.path)
    × (path_type l.self l.ty (drop l.field-index l.path) ≡ path_type l.self l.fn.whole l.fn.path)
