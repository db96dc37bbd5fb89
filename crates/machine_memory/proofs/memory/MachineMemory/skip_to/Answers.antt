use Rattle.std.proofs.Common.{◌∙◌, arith}
use Rattle.machine_memory.specs.Memory.{layouts_of, live_count}
use Rattle.machine_memory.proofs.LocalsLemmas.{with_frame-none}
use Rattle.machine_memory.proofs.memory.MachineMemory.skip_to.Goals as goal

pub loop-self-preserved : goal.loop-self-preserved
unfolding layouts_of live_count
loop-self-preserved c = record {
  blocks = c.in_ok-begin.ensures.ok ∙ with_frame-none c.loop-self.self _ (omega (arith, c.loop-self.self.layouts.small, c.loop-self.self.layouts.ok.0)) ∙ c.loop-self.invariant.blocks;
  layouts = c.begin.ensures.layouts ∙ c.loop-self.invariant.layouts;
  below = omega (arith, c.in_ok-begin.ensures.live);
  more = omega (arith, c.in_ok-begin.ensures.live, c.loop-self.invariant.more);
  frames = λ d lt. c.begin.ensures.below d (omega (arith, c.loop-self.invariant.more)) ∙ c.loop-self.invariant.frames d lt;
}

pub returns-in_err-begin-clause-blocks : goal.returns-in_err-begin-clause-blocks
returns-in_err-begin-clause-blocks c = c.in_err-begin.ensures.err ∙ c.loop-self.invariant.blocks

pub returns-in_err-begin-clause-below : goal.returns-in_err-begin-clause-below
returns-in_err-begin-clause-below c =
    λ d lt. c.begin.ensures.below d (omega (arith, c.loop-self.invariant.more)) ∙ c.loop-self.invariant.frames d lt
