use Rattle.std.proofs.Common.{◌≡◌, drop}
use Rattle.lowering.specs.Names.{code_in}
use Rattle.lowering.specs.Output.{output_of, next}
use Rattle.lowering.specs.Statements.{declared}
use Rattle.c_lower.proofs.LoopLemmas.{Leads}
use Rattle.c_lower.proofs.declarations.declare.Given as goal

abbrev pub invariant-loop-declarator : goal.invariant-loop-declarator
invariant-loop-declarator l =
    Leads (output_of l.lowering) (declared (code_in l.names) (drop l.declarator-index l.declarators) (next (output_of l.lowering)))
    (output_of l.fn.lowering) (declared (code_in l.names) l.fn.declarators (next (output_of l.fn.lowering)))
