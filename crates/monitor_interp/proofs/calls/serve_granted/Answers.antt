use Rattle.std.proofs.Common.{ap, arith, length, subst, sym}
use Rattle.pt_core.specs.WellFormed.{monitor_program}
use Rattle.pair_meaning.specs.Serving.{work_of}
use Rattle.monitor_soundness_law.proofs.ServingLemmas.{before_of}
use Rattle.monitor_interp.specs.declared.worked.Worked.{Worked}
use Rattle.monitor_interp.specs.Heard.{Heard}
use Rattle.monitor_interp.specs.Standing.{IsDone, Stands}
use Rattle.monitor_interp.specs.Working.{Works}
use Rattle.monitor_interp.proofs.CallLemmas.{IsGiven, any_message, blocks_alike, brought_at, few_blocks, few_left, given_so, goes_so, somewhere, stops_so, with_bench, work_same}
use Rattle.monitor_interp.proofs.calls.serve_granted.Goals as goal

pub put_blocks-requires-clause-alike : goal.put_blocks-requires-clause-alike
put_blocks-requires-clause-alike c =
    blocks_alike c.args.program.now c.args.state.now c.args.call c.args.asked c.args.inputs.now c.args.left c.requires.0 c.requires.1 c.as_slice.result.now c.as_slice-2.result.now c.requires.2 c.as_slice.ensures c.as_slice-2.ensures

pub put_blocks-requires-clause-few : goal.put_blocks-requires-clause-few
put_blocks-requires-clause-few c =
    let few = few_blocks c.args.call c.args.asked.signature.now c.requires.0 c.requires.1 c.requires.2.of in
    let same = ap length c.as_slice.ensures in
    omega (arith, few, same)

pub work-requires-clause-at : goal.work-requires-clause-at
work-requires-clause-at c =
    let at = brought_at c.args.program.now c.args.state.now c.args.call c.args.asked c.args.inputs.now c.args.left c.requires.0 c.requires.1 c.put_blocks.new.machine c.as_slice.result.now c.as_slice-2.result.now c.requires.2 c.as_slice.ensures c.as_slice-2.ensures
    c.in_ok-put_blocks.ensures in
    somewhere c.requires.0 c.requires.1 c.put_blocks.new.machine c.args.state.now.bench.gate c.requires.2.stands.sound at

pub work-requires-clause-left : goal.work-requires-clause-left
work-requires-clause-left c = few_left c.requires.0 c.args.left c.requires.2.stands.sound c.requires.2.prepared.room

pub finish-requires : goal.finish-requires
finish-requires c =
    let m = c.requires.0 in
    let a = c.requires.1 in
    let at = brought_at c.args.program.now c.args.state.now c.args.call c.args.asked c.args.inputs.now c.args.left m a c.put_blocks.new.machine c.as_slice.result.now c.as_slice-2.result.now c.requires.2 c.as_slice.ensures c.as_slice-2.ensures c.in_ok-put_blocks.ensures in
    let works : Works (monitor_program m.program) m.turns c.args.left (work_of m a c.args.left) c.in_ok-worked.worked c.work.new.bench.machine c.work.new.bench.gate =
    subst (λ o. Works (monitor_program m.program) m.turns c.args.left o c.in_ok-worked.worked c.work.new.bench.machine c.work.new.bench.gate)
    (work_same c.args.program.now c.args.state.now c.args.call c.args.asked c.args.inputs.now c.args.left m a c.as_slice-3.result.now c.requires.2 c.as_slice-3.ensures)
    (c.in_ok-worked.ensures (monitor_program m.program) m.turns (before_of m a) m.hosts m.input at) in
    let given : IsGiven c.args.program.now c.args.state.now c.args.call c.args.asked.signature.now c.in-Gave.value c.in-Gave.turns c.args.left m a c.work.new.bench.machine c.work.new.bench.gate =
    given_so c.args.program.now c.args.state.now c.args.call c.args.asked c.args.inputs.now c.args.left m a any_message c.in-Gave.value c.in-Gave.turns c.work.new.bench.machine c.work.new.bench.gate c.requires.2
    (subst (λ (w : Worked). Works (monitor_program m.program) m.turns c.args.left (work_of m a c.args.left) w c.work.new.bench.machine c.work.new.bench.gate) c.in-Gave.is works) in (
      c.args.left,
      m,
      a,
      given.gave,
      given.st,
      subst (λ (g : Heard). IsDone c.args.program.now (with_bench c.args.state.now c.work.new.bench.machine g) c.args.call c.args.asked.signature.now c.in-Gave.value c.in-Gave.turns c.args.left m a given.gave given.st) (sym c.in_ok-hand_out.ensures.none) given.done,
    )

pub returns-in_ok-reply-in-Gave : goal.returns-in_ok-reply-in-Gave
returns-in_ok-reply-in-Gave c m x a granted said =
    let at = brought_at c.args.program.now c.args.state.now c.args.call c.args.asked c.args.inputs.now c.args.left m a c.put_blocks.new.machine c.as_slice.result.now c.as_slice-2.result.now granted c.as_slice.ensures c.as_slice-2.ensures c.in_ok-put_blocks.ensures in
    let works : Works (monitor_program m.program) m.turns c.args.left (work_of m a c.args.left) c.in_ok-worked.worked c.work.new.bench.machine c.work.new.bench.gate =
    subst (λ o. Works (monitor_program m.program) m.turns c.args.left o c.in_ok-worked.worked c.work.new.bench.machine c.work.new.bench.gate)
    (work_same c.args.program.now c.args.state.now c.args.call c.args.asked c.args.inputs.now c.args.left m a c.as_slice-3.result.now granted c.as_slice-3.ensures)
    (c.in_ok-worked.ensures (monitor_program m.program) m.turns (before_of m a) m.hosts m.input at) in
    let given : IsGiven c.args.program.now c.args.state.now c.args.call c.args.asked.signature.now c.in-Gave.value c.in-Gave.turns c.args.left m a c.work.new.bench.machine c.work.new.bench.gate =
    given_so c.args.program.now c.args.state.now c.args.call c.args.asked c.args.inputs.now c.args.left m a x c.in-Gave.value c.in-Gave.turns c.work.new.bench.machine c.work.new.bench.gate granted
    (subst (λ (w : Worked). Works (monitor_program m.program) m.turns c.args.left (work_of m a c.args.left) w c.work.new.bench.machine c.work.new.bench.gate) c.in-Gave.is works) in
    goes_so (Stands c.args.program.now c.finish.new.state) c.args.program.now c.args.state.now c.args.call c.args.asked.signature.now c.in-Gave.value c.in-Gave.turns c.args.left m x a c.work.new.bench.machine c.work.new.bench.gate c.in_ok-reply-in-Gave.reply
    c.args.out.now.items c.hand_out.new.out.items given c.in_ok-hand_out.ensures.out
    (c.in_ok-reply-in-Gave.ensures x c.args.left m a given.gave given.st
    (subst (λ (g : Heard). IsDone c.args.program.now (with_bench c.args.state.now c.work.new.bench.machine g) c.args.call c.args.asked.signature.now c.in-Gave.value c.in-Gave.turns c.args.left m a given.gave given.st) (sym c.in_ok-hand_out.ensures.none) given.done)
    said)

pub returns-in-Stopped : goal.returns-in-Stopped
returns-in-Stopped c m x a granted said =
    let at = brought_at c.args.program.now c.args.state.now c.args.call c.args.asked c.args.inputs.now c.args.left m a c.put_blocks.new.machine c.as_slice.result.now c.as_slice-2.result.now granted c.as_slice.ensures c.as_slice-2.ensures c.in_ok-put_blocks.ensures in
    let works : Works (monitor_program m.program) m.turns c.args.left (work_of m a c.args.left) c.in_ok-worked.worked c.work.new.bench.machine c.work.new.bench.gate =
    subst (λ o. Works (monitor_program m.program) m.turns c.args.left o c.in_ok-worked.worked c.work.new.bench.machine c.work.new.bench.gate)
    (work_same c.args.program.now c.args.state.now c.args.call c.args.asked c.args.inputs.now c.args.left m a c.as_slice-3.result.now granted c.as_slice-3.ensures)
    (c.in_ok-worked.ensures (monitor_program m.program) m.turns (before_of m a) m.hosts m.input at) in
    stops_so (Stands c.args.program.now _) m x a c.args.left c.in-Stopped.end c.work.new.bench.machine c.work.new.bench.gate c.args.out.now.items c.hand_out.new.out.items
    (subst (λ (w : Worked). Works (monitor_program m.program) m.turns c.args.left (work_of m a c.args.left) w c.work.new.bench.machine c.work.new.bench.gate) c.in-Stopped.is works) c.in_ok-hand_out.ensures.out
