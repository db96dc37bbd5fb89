use Rattle.std.proofs.Math.ListN.{drop_of_length-le}
use Rattle.serving_rules.proofs.PlainLemmas.{all_taken}
use Rattle.serving_rules.proofs.plain.plain_numbers.Goals as goal

pub returns : goal.returns
returns c = all_taken _ _ _ _ (drop_of_length-le _ c.loop-arg-test.false) c.loop-arg.invariant
