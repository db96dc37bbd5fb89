-- The parts that the derivation has of the tree, innermost first.
use Rattle.std.specs.Prelude.{List, Bool, Option}
use Rattle.pt_tree.specs.declared.word.Word.{Word}
use Rattle.pt_tree.specs.declared.word.Constant.{Constant}
use Rattle.pt_tree.specs.declared.operator.BinaryOp.{BinaryOp}
use Rattle.pt_tree.specs.declared.operator.PrefixOp.{PrefixOp}
use Rattle.pt_tree.specs.declared.specifier.Declarator.{Declarator}
use Rattle.pt_tree.specs.declared.specifier.Suffix.{Suffix}
use Rattle.pt_tree.specs.SpecifierTree.{SpecTree, FieldTree}
use Rattle.pt_tree.specs.ExpressionTree.{ExprTree, LinkTree, PostfixTree}
use Rattle.pt_tree.specs.StatementTree.{InitTree, InitDeclaratorTree, DeclarationTree, LabelTree, ForInitTree, StmtTree, ElseTree, SectionTree, BlockTree}
use Rattle.pt_tree.specs.ProgramTree.{ParamTree, ItemTree}

pub data Part : Type 0 where
  word : Word → Part
  number : Constant → Part
  absent : Part
  names : List Word → Part
  spec : SpecTree → Part
  specs : List SpecTree → Part
  fields : List FieldTree → Part
  field : FieldTree → Part
  pointer : Bool → Part
  suffix : Suffix → Part
  declarator : Declarator → Part
  declarators : List Declarator → Part
  init : InitTree → Part
  init_declarators : List InitDeclaratorTree → Part
  a_rest : Declarator → List ParamTree → Option BlockTree → Part
  declaration : DeclarationTree → Part
  name : Option Word → Part
  param : ParamTree → Part
  params : List ParamTree → Part
  body : Option BlockTree → Part
  block : BlockTree → Part
  item : ItemTree → Part
  items : List ItemTree → Part
  stmt : StmtTree → Part
  stmts : List StmtTree → Part
  otherwise : ElseTree → Part
  for_init : ForInitTree → Part
  label : LabelTree → Part
  section : SectionTree → Part
  sections : List SectionTree → Part
  expr : ExprTree → Part
  exprs : List ExprTree → Part
  maybe_expr : Option ExprTree → Part
  assign_op : Option BinaryOp → Part
  assignment : Option BinaryOp → ExprTree → Part
  arms : ExprTree → ExprTree → Part
  prefix_op : PrefixOp → Part
  links : List LinkTree → Part
  postfixes : List PostfixTree → Part
  cast_of : List SpecTree → Bool → ExprTree → Part
  group_of : ExprTree → List PostfixTree → Part
