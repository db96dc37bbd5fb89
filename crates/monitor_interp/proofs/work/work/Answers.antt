use Rattle.std.proofs.Common.{List, subst, sym, if◌then◌else◌}
use Rattle.std.specs.Prelude.{take}
use Rattle.block_memory.specs.declared.cell.Cell.{Cell}
use Rattle.monitor_interp.specs.Working.{Works, body_work, host_gives_at}
use Rattle.monitor_interp.proofs.work.work.Goals as goal

pub returns-in_ok-worked-2 : goal.returns-in_ok-worked-2
returns-in_ok-worked-2 c program most blocks hosts input at =
    subst (λ b. Works program most c.args.task.left (if b then host_gives_at c.args.task c.args.args.now blocks hosts input else body_work program c.args.task (take c.args.task.own c.args.args.now) blocks hosts input) c.in_ok-worked-2.worked c.function_work.new.bench.machine c.function_work.new.bench.gate)
    (sym c.if-task.false)
    (subst (λ (vs : List Cell). Works program most c.args.task.left (body_work program c.args.task vs blocks hosts input) c.in_ok-worked-2.worked c.function_work.new.bench.machine c.function_work.new.bench.gate) c.first.ensures
    (c.in_ok-worked-2.ensures program most blocks hosts input at))
