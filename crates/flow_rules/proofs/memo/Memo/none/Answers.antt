use Rattle.std.proofs.Common.{arith}
use Rattle.flow_rules.proofs.MemoLemmas.{nothing_asked}
use Rattle.flow_rules.proofs.memo.Memo.none.Goals as goal

pub returns : goal.returns
returns c = λ p. nothing_asked p _ _ (grind arith) c.new-2.ensures.items
