-- Functions and programs without where their parts lie in memory.
use Rattle.std.specs.Prelude.{List, Option, Bool, map, option_map}
use Rattle.pt_base.specs.declared.span.Span.{Span}
use Rattle.pt_tree.specs.declared.word.Word.{Word}
use Rattle.pt_tree.specs.declared.specifier.Declarator.{Declarator}
use Rattle.pt_tree.specs.declared.specifier.Suffix.{Suffix}
use Rattle.pt_tree.specs.declared.program.ParamDecl.{ParamDecl}
use Rattle.pt_tree.specs.declared.program.Function.{Function}
use Rattle.pt_tree.specs.declared.program.Item.{Item}
use Rattle.pt_tree.specs.declared.program.Item.TheVariants as i
use Rattle.pt_tree.specs.SpecifierTree.{SpecTrees, view_specs}
use Rattle.pt_tree.specs.StatementTree.{DeclarationTree, BlockTree, view_declaration, view_block}

pub record ParamTree : Type 0 where
  pub span : Span
  pub specs : SpecTrees
  pub pointer : Bool
  pub name : Option Word
  pub suffix : Suffix

pub record FunctionTree : Type 0 where
  pub span : Span
  pub specs : SpecTrees
  pub declarator : Declarator
  pub params : List ParamTree
  pub body : Option BlockTree

pub data ItemTree : Type 0 where
  declares : DeclarationTree → ItemTree
  function : FunctionTree → ItemTree

abbrev pub view_param : ParamDecl → ParamTree
view_param p = record { span = p.span; specs = view_specs p.specs.items; pointer = p.pointer; name = p.name; suffix = p.suffix }

abbrev pub view_function : Function → FunctionTree
view_function f = record {
  span = f.span;
  specs = view_specs f.specs.items;
  declarator = f.declarator;
  params = map view_param f.params.items;
  body = option_map view_block f.body;
}

abbrev pub view_item : Item → ItemTree
view_item (i.Declare d) = declares (view_declaration d)
view_item (i.Function f) = function (view_function f)
