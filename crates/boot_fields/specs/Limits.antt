-- Which values have a spelling: their numbers are those of the fields' types, and a list has fewer than
-- 2 to the 64 items.
use Rattle.std.specs.Prelude.{◌≡◌, ℕ, ℤ, ◌<◌, ◌^◌, List, length, FitsSigned, IfSome}
use Rattle.std.specs.List.{AllByRecursion}
use Rattle.std.specs.Int.{w128}
use Rattle.pt_base.specs.declared.span.Span.{Span}
use Rattle.pt_tree.specs.declared.signature.Elem.{Elem}
use Rattle.pt_tree.specs.declared.signature.Elem.TheVariants as elem
use Rattle.pt_tree.specs.declared.signature.ParamKind.{ParamKind}
use Rattle.pt_tree.specs.declared.signature.ParamKind.TheVariants as param
use Rattle.pt_tree.specs.declared.signature.Param.{Param}
use Rattle.pt_tree.specs.declared.signature.Signature.{Signature}
use Rattle.pt_tree.specs.declared.row.Row.{Row}
use Rattle.pt_tree.specs.declared.host_model.HostModel.{HostModel}
use Rattle.pt_tree.specs.declared.host_model.HostModel.TheVariants as model
use Rattle.typed_tree.specs.declared.types.VarTy.{VarTy}
use Rattle.typed_tree.specs.declared.types.VarTy.TheVariants as ty
use Rattle.typed_tree.specs.declared.types.Field.{Field}
use Rattle.typed_tree.specs.declared.types.StructInfo.{StructInfo}
use Rattle.typed_tree.specs.declared.variable.Var.{Var}
use Rattle.wire.specs.Limits.{IsBytes}
use Rattle.pt_core.specs.CodeTree.{RootTree, local, global, deref, PlaceTree, place, ExprTree, constant, read, unary, binary, convert, null, address, decay, move, compare, difference, ExprTrees, StmtTree, clear, check, assign, copy, call, choose, repeat, break_out, continue_on, give_back, StmtTrees, no_stmts, stmt_and, FunctionTree, GlobalTree, BootTree}
use Rattle.boot_fields.specs.Spelling.{exprs_of, count_of, spelled}

-- ---- lists

-- a number of 32 bits
abbrev pub Fits32 : ℕ → Type 0
Fits32 n = n < 2 ^ 32

abbrev pub FitsList : {A : Type 0} → (A → Type 0) → List A → Type 0
FitsList FitsItem items = (length items < 2 ^ 64) × AllByRecursion FitsItem items

-- a byte string
abbrev pub FitsText : List ℕ → Type 0
FitsText text = (length text < 2 ^ 64) × IsBytes text

abbrev pub FitsNumbered : {A : Type 0} → (A → Type 0) → ℕ × A → Type 0
FitsNumbered FitsValue x = Fits32 x.0 × FitsValue x.1

-- ---- types and objects

abbrev pub FitsSpan : Span → Type 0
FitsSpan s = Fits32 s.from × Fits32 s.to

abbrev pub FitsElem : Elem → Type 0
FitsElem (elem.Int t) = Unit {0}
FitsElem (elem.Struct n) = Fits32 n

abbrev pub FitsVarTy : VarTy → Type 0
FitsVarTy (ty.Int t) = Unit {0}
FitsVarTy (ty.Struct n) = Fits32 n
FitsVarTy (ty.Array item count) = FitsElem item × Fits32 count
FitsVarTy (ty.Pointer item fixed) = FitsElem item

abbrev pub FitsField : Field → Type 0
FitsField f = FitsText f.name × FitsVarTy f.ty

abbrev pub FitsStruct : StructInfo → Type 0
FitsStruct s = FitsText s.name × FitsList FitsField s.fields

abbrev pub FitsVar : Var → Type 0
FitsVar x = FitsText x.name × (FitsSpan x.span × (FitsVarTy x.ty × IfSome x.holds FitsSpan))

-- ---- signatures and hosts

abbrev pub FitsParamKind : ParamKind → Type 0
FitsParamKind (param.Int t) = Unit {0}
FitsParamKind (param.Ptr item fixed) = FitsElem item

abbrev pub FitsParam : Param → Type 0
FitsParam p = FitsParamKind p.kind

abbrev pub FitsSignature : Signature → Type 0
FitsSignature s = FitsText s.name × FitsList FitsParam s.params

-- numbers of 128 bits
abbrev pub FitsNumbers : List ℤ → Type 0
FitsNumbers numbers = FitsList (FitsSigned w128) numbers

abbrev pub FitsRow : Row → Type 0
FitsRow r = FitsNumbers r.args × FitsSigned w128 r.result

abbrev pub FitsModel : HostModel → Type 0
FitsModel (model.Table rows other) = FitsList FitsRow rows × FitsSigned w128 other
FitsModel (model.Feed values other next) = FitsNumbers values × (FitsSigned w128 other × (next < 2 ^ 64))
FitsModel (model.Input next) = next < 2 ^ 64
FitsModel model.Bytes = Unit {0}
FitsModel (model.Line name) = FitsText name

-- ---- code

abbrev mutual
  pub FitsExpr : ExprTree → Type 0
  FitsExpr (constant t v) = FitsSigned w128 v
  FitsExpr (read p) = FitsPlace p
  FitsExpr (unary op t a s) = FitsExpr a × FitsSpan s
  FitsExpr (binary op t a b s) = FitsExpr a × (FitsExpr b × FitsSpan s)
  FitsExpr (convert t a) = FitsExpr a
  FitsExpr (null item) = FitsElem item
  FitsExpr (address p) = FitsPlace p
  FitsExpr (decay p) = FitsPlace p
  FitsExpr (move a b back s) = FitsExpr a × (FitsExpr b × FitsSpan s)
  FitsExpr (compare op a b s) = FitsExpr a × (FitsExpr b × FitsSpan s)
  FitsExpr (difference a b s) = FitsExpr a × (FitsExpr b × FitsSpan s)

  pub FitsPlace : PlaceTree → Type 0
  FitsPlace (place root path) = FitsRoot root × FitsList Fits32 path

  pub FitsRoot : RootTree → Type 0
  FitsRoot (local v) = Fits32 v
  FitsRoot (global g) = Fits32 g
  FitsRoot (deref a s) = FitsExpr a × FitsSpan s

abbrev pub FitsExprs : ExprTrees → Type 0
FitsExprs arguments = FitsList FitsExpr (exprs_of arguments)

abbrev mutual
  pub FitsStmt : StmtTree → Type 0
  FitsStmt (clear v) = Fits32 v
  FitsStmt (check p) = FitsPlace p
  FitsStmt (assign p a) = FitsPlace p × FitsExpr a
  FitsStmt (copy p q) = FitsPlace p × FitsPlace q
  FitsStmt (call f arguments v s) = Fits32 f × (FitsExprs arguments × (IfSome v Fits32 × FitsSpan s))
  FitsStmt (choose a xs ys) = FitsExpr a × (((count_of xs < 2 ^ 64) × FitsEach xs) × ((count_of ys < 2 ^ 64) × FitsEach ys))
  FitsStmt (repeat xs s) = ((count_of xs < 2 ^ 64) × FitsEach xs) × FitsSpan s
  FitsStmt break_out = Unit {0}
  FitsStmt continue_on = Unit {0}
  FitsStmt (give_back a) = IfSome a FitsExpr

  pub FitsEach : StmtTrees → Type 0
  FitsEach no_stmts = Unit {0}
  FitsEach (stmt_and a rest) = FitsStmt a × FitsEach rest

abbrev pub FitsStmts : StmtTrees → Type 0
FitsStmts xs = (count_of xs < 2 ^ 64) × FitsEach xs

abbrev pub FitsFunction : FunctionTree → Type 0
FitsFunction f = Fits32 f.id × ((f.params < 2 ^ 8) × (FitsList FitsVar f.vars × (FitsStmts f.body × FitsSpan f.end)))

abbrev pub FitsGlobal : GlobalTree → Type 0
FitsGlobal g = Fits32 g.id × (FitsVar g.var × FitsNumbers g.cells)

-- ---- boots

pub record FitsTypes (b : BootTree) : Type 0 where
  pub structs : FitsList FitsStruct b.structs
  pub signatures : FitsList (FitsNumbered FitsSignature) b.signatures
  pub functions : FitsList FitsFunction b.functions
  pub globals : FitsList FitsGlobal b.globals
  pub hosts : FitsList (FitsNumbered FitsModel) b.hosts
  pub input : FitsText b.input
  pub turns : Fits32 b.turns

-- the bytes are the spelling of the boot
unfoldable pub Spells : BootTree → List ℕ → Type 0
Spells b bytes = FitsTypes b × (bytes ≡ spelled b)
