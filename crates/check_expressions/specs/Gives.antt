-- What the judging functions answer.
use Rattle.std.specs.Prelude.{◌≡◌, List, ◌++◌, map, Option, Result, IfOk, Vec}
use Rattle.std.specs.declared.alloc.AllocError.{AllocError}
use Rattle.std.specs.declared.alloc.Global.{Global}
use Rattle.pt_base.specs.declared.ids.FnId.{FnId}
use Rattle.pt_base.specs.Gives.{GivesWith}
use Rattle.pt_tree.specs.ExpressionTree as e
use Rattle.type_rules.specs.declared.types.Type.{«Type»}
use Rattle.typed_tree.specs.declared.expression.TypedExpr.{TypedExpr}
use Rattle.typed_tree.specs.ExpressionTree.{view_expr}
use Rattle.check_declarations.specs.declared.fault.TypeFault.{TypeFault}
use Rattle.check_declarations.specs.declared.findings.Findings.{Findings}
use Rattle.check_declarations.specs.Gives.{Reaches}
use Rattle.check_declarations.specs.Structs.{Structs}
use Rattle.check_expressions.specs.declared.expressions.Head.{Head}
use Rattle.check_expressions.specs.declared.links.SoFar.{SoFar}
use Rattle.check_expressions.specs.declared.operand.Operand.{Operand}
use Rattle.check_expressions.specs.declared.operand.Placed as o
use Rattle.check_expressions.specs.Choices.{Placed}
use Rattle.check_expressions.specs.Environment.{Env}
use Rattle.check_expressions.specs.Expressions.{Judged, Arguments, CastBase, Linked, judge, headed}
use Rattle.check_expressions.specs.Operands.{Made, span_of}
use Rattle.check_expressions.specs.Postfixes.{function_called}
use Rattle.check_expressions.specs.Views.{known, placed, so_far}

-- the operand, the structs and the faults are those of the judgment, whose faults were added
abbrev pub GivesJudged : Result Operand AllocError → Findings → Findings → Judged → Type 0
GivesJudged r before after j = GivesWith known r j.operand (Reaches before after j.structs j.faults)

-- what an operator makes of its operands, whose faults are there already
abbrev pub GivesMade : Result Operand AllocError → List TypeFault → List TypeFault → Made → Type 0
GivesMade r before after m = GivesWith known r m.operand (after ≡ before ++ m.faults)

-- a chain so far
abbrev pub GivesLinked : Result SoFar AllocError → Findings → Findings → Linked → Type 0
GivesLinked r before after l = GivesWith so_far r l.far (Reaches before after l.structs l.faults)

abbrev pub GivesArguments : Result (Vec TypedExpr Global) AllocError → Findings → Findings → Arguments → Type 0
GivesArguments r before after a = GivesWith (λ trees. map view_expr trees.items) r a.trees (Reaches before after a.structs a.faults)

abbrev pub GivesCastBase : Result «Type» AllocError → Findings → Findings → CastBase → Type 0
GivesCastBase r before after b = GivesWith (λ ty. ty) r b.base (Reaches before after b.structs b.faults)

-- ---- operands

-- an expression with where it stands
abbrev pub at : e.ExprTree → Judged → Placed
at a j = record { span = span_of a; known = j.operand }

abbrev pub GivesPlaced : Result o.Placed AllocError → Findings → Findings → Env → e.ExprTree → Type 0
GivesPlaced r before after env a =
    let p = judge env before.structs a in
    GivesWith placed r (at a p) (Reaches before after p.structs p.faults)

-- what stands before postfixes: where a function is called, its name isn't judged
pub record HeadIs (name callee : Option FnId) (operand : Placed) (before after : Findings) (a : e.ExprTree) (j : Judged) : Type 0 where
  pub callee_is : callee ≡ name
  pub operand_is : operand ≡ at a (headed name before.structs j)
  pub reaches : Reaches before after (headed name before.structs j).structs (headed name before.structs j).faults

abbrev pub GivesHead : Result Head AllocError → Findings → Findings → Env → e.ExprTree → e.PostfixTrees → Type 0
GivesHead r before after env a ps = IfOk r (λ head. HeadIs (function_called env a ps) head.callee (placed head.operand) before after a (judge env before.structs a))
