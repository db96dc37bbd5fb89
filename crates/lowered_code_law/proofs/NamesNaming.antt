-- What names no more than is allowed: typed expressions, and code of the normal form.
use Rattle.std.specs.Prelude.{List, [], ◌∷◌, Option, None, Some, Contains, slice_get}
use Rattle.pt_base.specs.declared.ids.FnId.{FnId}
use Rattle.pt_base.specs.declared.ids.GlobalId.{GlobalId}
use Rattle.typed_tree.specs.declared.part.Part.{Part}
use Rattle.typed_tree.specs.ExpressionTree as src
use Rattle.typed_tree.specs.ExpressionTree.{typed, link, link_and, no_links, operand, operand_and, no_operands, step_and, no_steps}
use Rattle.pt_core.specs.CodeTree.{RootTree, local, global, deref, PlaceTree, place, ExprTree, constant, read, unary, binary, convert, null, address, decay, move, compare, difference, ExprTrees, no_exprs, expr_and, StmtTree, clear, check, assign, copy, call, choose, repeat, break_out, continue_on, give_back, StmtTrees, no_stmts, stmt_and}
use Rattle.lowering.specs.Lowered.{Effects, Lowered, LoweredPlace, Arguments}

-- the globals that may be named, and the functions and hosts that may be called
pub record Allowed : Type 0 where
  pub globals : List GlobalId
  pub callees : List FnId

-- ---- typed expressions

abbrev mutual
  pub ExprNames : Allowed → src.ExprTree → Type 0
  ExprNames w (typed s ty form) = FormNames w form

  pub FormNames : Allowed → src.FormTree → Type 0
  FormNames w (src.constant v) = Unit {0}
  FormNames w src.null = Unit {0}
  FormNames w (src.read p) = PlaceNames w p
  FormNames w (src.decay p) = PlaceNames w p
  FormNames w (src.address p) = PlaceNames w p
  FormNames w (src.unary op a) = ExprNames w a
  FormNames w (src.convert a) = ExprNames w a
  FormNames w (src.discard a) = ExprNames w a
  FormNames w (src.chain a ls) = ExprNames w a × LinksName w ls
  FormNames w (src.logical op a os) = ExprNames w a × OperandsName w os
  FormNames w (src.choice a b d) = ExprNames w a × ExprNames w b × ExprNames w d
  FormNames w (src.assign p a) = PlaceNames w p × ExprNames w a
  FormNames w (src.compound p at op a) = PlaceNames w p × ExprNames w a
  FormNames w (src.step p at back postfix) = PlaceNames w p
  FormNames w (src.call g arguments) = Contains w.callees g × ExprsName w arguments

  pub ExprsName : Allowed → src.ExprTrees → Type 0
  ExprsName w src.no_exprs = Unit {0}
  ExprsName w (src.expr_and a rest) = ExprNames w a × ExprsName w rest

  pub LinksName : Allowed → src.LinkTrees → Type 0
  LinksName w no_links = Unit {0}
  LinksName w (link_and (link s ty op a) rest) = ExprNames w a × LinksName w rest

  pub OperandsName : Allowed → src.OperandTrees → Type 0
  OperandsName w no_operands = Unit {0}
  OperandsName w (operand_and (operand s a) rest) = ExprNames w a × OperandsName w rest

  pub PlaceNames : Allowed → src.PlaceTree → Type 0
  PlaceNames w (src.place root steps) = RootNames w root × StepsName w steps

  pub RootNames : Allowed → src.RootTree → Type 0
  RootNames w (src.local v) = Unit {0}
  RootNames w (src.global g) = Contains w.globals g
  RootNames w (src.deref a s) = ExprNames w a
  RootNames w (src.assigned a) = ExprNames w a

  pub StepsName : Allowed → src.StepTrees → Type 0
  StepsName w no_steps = Unit {0}
  StepsName w (step_and (src.field k) rest) = StepsName w rest
  StepsName w (step_and (src.item a s) rest) = ExprNames w a × StepsName w rest

-- an outermost expression, if there is one
abbrev pub FoundNames : Allowed → Option src.ExprTree → Type 0
FoundNames w None = Unit {0}
FoundNames w (Some a) = ExprNames w a

-- the outermost expressions of these parts
abbrev pub PartsName : Allowed → List src.ExprTree → List Part → Type 0
PartsName w exprs [] = Unit {0}
PartsName w exprs (p ∷ ps) = FoundNames w (slice_get exprs p.expr.0) × PartsName w exprs ps

-- ---- code

abbrev mutual
  pub RootWithin : Allowed → RootTree → Type 0
  RootWithin w (local v) = Unit {0}
  RootWithin w (global g) = Contains w.globals (record { 0 = g })
  RootWithin w (deref a s) = ExprWithin w a

  pub PlaceWithin : Allowed → PlaceTree → Type 0
  PlaceWithin w (place root path) = RootWithin w root

  pub ExprWithin : Allowed → ExprTree → Type 0
  ExprWithin w (constant t v) = Unit {0}
  ExprWithin w (read p) = PlaceWithin w p
  ExprWithin w (unary op t a s) = ExprWithin w a
  ExprWithin w (binary op t a b s) = ExprWithin w a × ExprWithin w b
  ExprWithin w (convert t a) = ExprWithin w a
  ExprWithin w (null elem) = Unit {0}
  ExprWithin w (address p) = PlaceWithin w p
  ExprWithin w (decay p) = PlaceWithin w p
  ExprWithin w (move a b back s) = ExprWithin w a × ExprWithin w b
  ExprWithin w (compare op a b s) = ExprWithin w a × ExprWithin w b
  ExprWithin w (difference a b s) = ExprWithin w a × ExprWithin w b

abbrev pub ExprsWithin : Allowed → ExprTrees → Type 0
ExprsWithin w no_exprs = Unit {0}
ExprsWithin w (expr_and a rest) = ExprWithin w a × ExprsWithin w rest

abbrev pub ReturnWithin : Allowed → Option ExprTree → Type 0
ReturnWithin w None = Unit {0}
ReturnWithin w (Some a) = ExprWithin w a

abbrev mutual
  pub StmtWithin : Allowed → StmtTree → Type 0
  StmtWithin w (clear v) = Unit {0}
  StmtWithin w (check p) = PlaceWithin w p
  StmtWithin w (assign p a) = PlaceWithin w p × ExprWithin w a
  StmtWithin w (copy p q) = PlaceWithin w p × PlaceWithin w q
  StmtWithin w (call f arguments v s) = Contains w.callees (record { 0 = f }) × ExprsWithin w arguments
  StmtWithin w (choose a xs ys) = ExprWithin w a × StmtsWithin w xs × StmtsWithin w ys
  StmtWithin w (repeat xs s) = StmtsWithin w xs
  StmtWithin w break_out = Unit {0}
  StmtWithin w continue_on = Unit {0}
  StmtWithin w (give_back a) = ReturnWithin w a

  pub StmtsWithin : Allowed → StmtTrees → Type 0
  StmtsWithin w no_stmts = Unit {0}
  StmtsWithin w (stmt_and a rest) = StmtWithin w a × StmtsWithin w rest

-- ---- lists of code

abbrev pub AreWithin : Allowed → List StmtTree → Type 0
AreWithin w [] = Unit {0}
AreWithin w (x ∷ xs) = StmtWithin w x × AreWithin w xs

abbrev pub ValuesWithin : Allowed → List ExprTree → Type 0
ValuesWithin w [] = Unit {0}
ValuesWithin w (x ∷ xs) = ExprWithin w x × ValuesWithin w xs

abbrev pub PlacesWithin : Allowed → List PlaceTree → Type 0
PlacesWithin w [] = Unit {0}
PlacesWithin w (p ∷ ps) = PlaceWithin w p × PlacesWithin w ps

-- ---- what is lowered

abbrev pub EffectsWithin : Allowed → Effects → Type 0
EffectsWithin w d = AreWithin w d.stmts

abbrev pub LoweredWithin : Allowed → Lowered → Type 0
LoweredWithin w v = AreWithin w v.stmts × ExprWithin w v.value

abbrev pub FoundWithin : Allowed → LoweredPlace → Type 0
FoundWithin w p = AreWithin w p.stmts × PlaceWithin w p.place

abbrev pub ArgumentsWithin : Allowed → Arguments → Type 0
ArgumentsWithin w a = AreWithin w a.stmts × ValuesWithin w a.values
