use Rattle.std.proofs.Common.{◌+◌, ◌^◌, arith, false, subst}
use Rattle.pt_core.specs.Steps as s
use Rattle.core_machine.specs.Machines.{Shown}
use Rattle.monitor_interp.specs.Heard.{Heard}
use Rattle.monitor_interp.specs.Working.{resting}
use Rattle.monitor_interp.proofs.WorkLemmas.{few_before, idle_at, of_a_body, ran, turns_before, works_body}
use Rattle.monitor_interp.proofs.work.function_work.Goals as goal

pub overflow_add-before : goal.overflow_add-before
overflow_add-before c =
    let few = turns_before c.args.bench.now.machine c.args.bench.now.gate c.turns-before.result c.requires.at c.turns-before.ensures in
    let left = c.requires.left in
    omega (arith, few, left)

pub enter-requires : goal.enter-requires
enter-requires c =
    let at = c.requires.at in
    idle_at at.0 c.set_budget.new.self at.1 at.4.taken (c.turns-before.result + c.args.task.left) (c.set_budget.ensures at.0 (resting at.1 at.4.taken at.4.limit) at.4.shown)

pub worked_by-requires : goal.worked_by-requires
worked_by-requires c =
    let at = c.requires.at in
    of_a_body at.0 c.args.task.function.0 c.args.task.depth c.args.args.now at.1 at.2 at.3 c.turns-before.result c.args.task.left c.in_ok-went.went.stepped c.run.new.self c.run.new.gate
    (ran at.0 c.args.task.function.0 c.args.task.depth c.args.args.now (2 ^ 32) at.1 at.2 at.3 c.turns-before.result c.args.task.left c.args.bench.now.gate c.run.new.gate c.args.bench.now.machine c.set_budget.new.self c.enter.new.self c.run.new.self at.4
    c.turns-before.ensures c.set_budget.ensures (λ p b m shown. subst (λ d. Shown p c.enter.new.self (s.started p b c.args.task.function.0 d c.args.args.now m)) c.from.ensures (c.in_ok-enter.ensures p b m shown)) c.in_ok-went.went.stepped _ c.in_ok-went.went.left
    (λ (h : Heard). false) c.in_ok-went.ensures)

pub returns : goal.returns
returns c program most blocks hosts input at =
    works_body program c.args.task c.args.args.now most blocks hosts input c.turns-before.result c.turns-after.result c.saturating_sub.result c.in_ok-went.went.stepped c.in_ok-worked.worked c.run.new.self c.run.new.gate
    (few_before program c.args.bench.now.machine c.args.bench.now.gate most blocks c.turns-before.result _ at c.turns-before.ensures)
    (ran program c.args.task.function.0 c.args.task.depth c.args.args.now most blocks hosts input c.turns-before.result c.args.task.left c.args.bench.now.gate c.run.new.gate c.args.bench.now.machine c.set_budget.new.self c.enter.new.self c.run.new.self at
    c.turns-before.ensures c.set_budget.ensures (λ p b m shown. subst (λ d. Shown p c.enter.new.self (s.started p b c.args.task.function.0 d c.args.args.now m)) c.from.ensures (c.in_ok-enter.ensures p b m shown)) c.in_ok-went.went.stepped _ c.in_ok-went.went.left
    (λ (h : Heard). false) c.in_ok-went.ensures)
    c.in_ok-worked.ensures c.saturating_sub.ensures c.turns-after.ensures
