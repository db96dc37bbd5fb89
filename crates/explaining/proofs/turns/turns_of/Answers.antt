use Rattle.std.proofs.Common.{◌↔◌, List, subst}
use Rattle.std.specs.List.{Contains}
use Rattle.explaining.specs.declared.turns.Turn.{Turn}
use Rattle.explaining.proofs.turns.turns_of.Goals as goal

pub returns : goal.returns
returns c = record {
  sorted = c.arrange.ensures.sorted;
  same = λ x. subst (λ (turns : List Turn). Contains c.arrange.new.turns.items x ↔ Contains turns x) c.in_ok-turns.ensures (c.arrange.ensures.same x);
}
