-- Statements, calls and whole programs come to the same.
use Rattle.c_lower_law.proofs.Statements.{DeclarationsAgree, StatementsAgree, CallsAgree}
use Rattle.c_lower_law.specs.Statements.{LoweringKeepsTheRun}
use Rattle.c_lower_law.proofs.ExpressionsAgree.{values_agree, effects_agree, objects_agree}
use Rattle.c_lower_law.proofs.Declarations as d
use Rattle.c_lower_law.proofs.Bodies as b
use Rattle.c_lower_law.proofs.DeepCalls as c
use Rattle.c_lower_law.proofs.MainRuns as m
use Rattle.c_lower_law.proofs.StatementTemps.{temps_are_scalar}

pub declarations_agree : DeclarationsAgree
declarations_agree = d.declarations_agree values_agree effects_agree objects_agree

pub statements_agree : StatementsAgree
statements_agree = b.statements_agree values_agree effects_agree objects_agree declarations_agree

pub calls_agree : CallsAgree
calls_agree = c.calls_agree statements_agree temps_are_scalar

pub lowering_keeps_the_run : LoweringKeepsTheRun
lowering_keeps_the_run = m.run_kept statements_agree temps_are_scalar
