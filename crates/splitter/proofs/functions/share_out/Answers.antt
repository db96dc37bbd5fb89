use Rattle.splitter.specs.Sets.{is_set}
use Rattle.splitter.proofs.WalkLemmas.{function_chosen}
use Rattle.splitter.proofs.functions.share_out.Goals as goal

pub loop-function-preserved : goal.loop-function-preserved
loop-function-preserved c = record {
  slave = function_chosen (is_set c.args.in_slave.now) c.loop-function.yielded c.in-Some.function _ _ _ c.loop-function.invariant.slave c.has-stays.ensures c.in_ok-add_function.ensures.slave;
  monitor = function_chosen (is_set c.args.in_monitor.now) c.loop-function.yielded c.in-Some.function _ _ _ c.loop-function.invariant.monitor c.has-serves.ensures c.in_ok-add_function.ensures.monitor;
}
