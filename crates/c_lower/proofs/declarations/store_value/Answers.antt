use Rattle.lowering.specs.Names.{code_in}
use Rattle.lowering.specs.Output.{output_of}
use Rattle.lowering.specs.Statements.{outermost}
use Rattle.c_lower.proofs.LeafLemmas.{object_stored, value_given}
use Rattle.c_lower.proofs.declarations.store_value.Goals as goal

pub returns-in_ok-_to : goal.returns-in_ok-_to
returns-in_ok-_to c =
    let code = code_in c.args.names.now in
    object_stored code (output_of c.args.lowering.now) _ _ c.args.var.0 (outermost code c.args.e) _ _ _ _ c.variable-to.ensures c.is_struct.ensures c.if-is_struct.true c.in_ok-of.ensures (λ low from h i. c.in_ok-_to.ensures _ _ low from h i)

pub returns-in_ok-_to-2 : goal.returns-in_ok-_to-2
returns-in_ok-_to-2 c =
    let code = code_in c.args.names.now in
    value_given code (output_of c.args.lowering.now) _ _ c.args.var.0 (outermost code c.args.e) _ _ _ _ c.variable-to.ensures c.is_struct.ensures c.if-is_struct.false c.in_ok-value.ensures (λ low v h i. c.in_ok-_to-2.ensures _ _ low v h i)
