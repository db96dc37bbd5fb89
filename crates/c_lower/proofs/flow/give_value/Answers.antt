use Rattle.lowering.specs.Expressions.{value_in}
use Rattle.lowering.specs.Names.{code_in}
use Rattle.lowering.specs.Output.{next, output_of}
use Rattle.lowering.specs.Statements.{outermost}
use Rattle.lowering.proofs.OutputLemmas.{also}
use Rattle.c_lower.proofs.LoopLemmas.{returned_makes}
use Rattle.c_lower.proofs.flow.give_value.Goals as goal

pub returns : goal.returns
returns c =
    let code = code_in c.args.names.now in
    also _ _ _ (λ e. returned_makes (output_of c.args.lowering.now) _ _ (value_in code.scope (outermost code c.args.e) (next (output_of c.args.lowering.now))) _ c.in_ok-value.ensures e) c.add.ensures
