use Rattle.std.proofs.Common.{◌≡◌, drop}
use Rattle.machine_memory.specs.Memory.{blocks_of, layouts_of}
use Rattle.pt_core.specs.Calls.{with_arguments}
use Rattle.core_machine.specs.Live.{HasNoMore}
use Rattle.core_machine.proofs.memory.pass.Given as goal

abbrev pub invariant-loop-arg : goal.invariant-loop-arg
invariant-loop-arg l =
    (with_arguments (blocks_of l.memory) l.depth l.var (drop l.arg-index l.args) ≡ with_arguments (blocks_of l.fn.memory) l.fn.depth 0 l.fn.args)
    × (layouts_of l.memory ≡ layouts_of l.fn.memory) × HasNoMore (blocks_of l.fn.memory) (blocks_of l.memory)
