use Rattle.std.proofs.Common.{refl}
use Rattle.flow_rules.proofs.MemoLemmas.{learned}
use Rattle.flow_rules.proofs.memo.Memo.learn.Goals as goal

pub returns : goal.returns
returns c = λ p x wants is. learned p c.args.self.now _ _ x c.args.answer wants is refl c.in_ok-push.ensures.items
