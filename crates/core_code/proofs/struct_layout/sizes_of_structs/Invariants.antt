use Rattle.std.proofs.Common.{◌≡◌, drop}
use Rattle.typed_tree.specs.Sizes.{sizes_after, sizes_of}
use Rattle.core_code.proofs.struct_layout.sizes_of_structs.Given as goal

abbrev pub invariant-loop-info : goal.invariant-loop-info
invariant-loop-info l = sizes_after l.sizes.items (drop l.info-index l.structs) ≡ sizes_of l.fn.structs
