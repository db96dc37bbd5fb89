use Rattle.std.proofs.Common.{List, subst}
use Rattle.pt_core.specs.Steps as s
use Rattle.core_machine.specs.Machines.{Shown}
use Rattle.marshalling.specs.declared.returned.ReturnedBlock.{ReturnedBlock}
use Rattle.marshalling.specs.Returns.{with_cells}
use Rattle.slave_interp.proofs.returning.put_back.Goals as goal

pub returns : goal.returns
returns c program m shown =
    subst (λ (blocks : List ReturnedBlock). Shown program c.resume.new.self (s.resumed c.args.returned.now.value (s.with_blocks (with_cells blocks m.blocks) m))) c.as_slice.ensures.value
    (c.resume.ensures program (s.with_blocks (with_cells c.as_slice.result.now m.blocks) m) (c.in_ok-put_blocks.ensures program m shown))
