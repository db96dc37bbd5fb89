use Rattle.std.proofs.Common.{drop}
use Rattle.pair_texts.specs.Several.{AreShort}
use Rattle.pair_texts.proofs.sharing.all_fit.Given as goal

-- where those that are left are short, all are
abbrev pub invariant-loop-input : goal.invariant-loop-input
invariant-loop-input l = AreShort (drop l.input-index l.all) → AreShort l.fn.all
