use Rattle.lowering.proofs.operators.prefixed.Goals as goal

pub returns-in-Pointer : goal.returns-in-Pointer
returns-in-Pointer c = rw c.in-Pointer.is (c.prefixed_pointer.ensures _)
