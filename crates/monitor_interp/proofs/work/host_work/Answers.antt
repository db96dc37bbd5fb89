use Rattle.std.proofs.Common.{◌∙◌, ap, sym}
use Rattle.monitor_interp.specs.Gates.{heard_answer}
use Rattle.monitor_interp.proofs.WorkLemmas.{works_host}
use Rattle.monitor_interp.proofs.work.host_work.Goals as goal

pub returns : goal.returns
returns c program most blocks hosts input at =
    works_host program c.args.task c.args.args.now most blocks hosts input c.args.bench.now.machine c.args.bench.now.gate c.here.new.self c.in_ok-value.value at
    (ap (λ ns. heard_answer c.args.task.function.0 ns c.args.bench.now.gate) (sym (c.as_slice.ensures.value ∙ c.in_ok-numbers.ensures)) ∙ c.in_ok-value.ensures)
