-- How many cells objects have: each live object has those of its type, and places and pointers lie within.
use Rattle.std.specs.Prelude.{◌≡◌, ◌≤◌, ◌+◌, ◌*◌, ℕ, Bool, List, [], ◌∷◌, Option, Some, None, IsTrue, length, slice_get}
use Rattle.pt_base.specs.declared.ids.FnId.{FnId}
use Rattle.pt_base.specs.declared.span.Span.{Span}
use Rattle.pt_tree.specs.declared.signature.Elem.{Elem}
use Rattle.pt_tree.specs.declared.signature.Param.{Param}
use Rattle.runs.specs.State.{Hosts, gives, trapped, spent}
use Rattle.typed_tree.specs.declared.types.VarTy.{VarTy}
use Rattle.typed_tree.specs.declared.types.VarTy.TheVariants.{Int, Struct, Array, Pointer}
use Rattle.typed_tree.specs.ExpressionTree.{ExprTree, PlaceTree}
use Rattle.typed_tree.specs.Lookup.{function_at}
use Rattle.typed_tree.specs.Sizes.{cells_by, elem_cells, sizes_of}
use Rattle.typed_tree.specs.StatementTree.{BodyTree}
use Rattle.typed_tree.specs.TypedTree.{TypedTree, FunctionTree, signatures_of}
use Rattle.typed_tree.specs.WellFormed.{structs_sound, is_well_formed}
use Rattle.typed_tree.specs.WellFormedExpression.{Names, is_typed, ty_of, place_type, place_fits, param_type}
use Rattle.typed_tree.specs.WellFormedStatement.{Scope, is_sound}
use Rattle.source_meaning.specs.Memory.{Block, Cell, number, null, pointer, Memory, read}
use Rattle.source_meaning.specs.State.{State, Outcome}
use Rattle.source_meaning.specs.Values.{Value, holds, whole, nothing, Location}
use Rattle.source_meaning.specs.Expressions.{Context, Frame, Calls, sizes, value_of, location_of}
use Rattle.source_meaning.specs.Functions.{calls_within, opened}
use Rattle.source_meaning.specs.Statements.{Code, statement}
use Rattle.source_meaning.specs.WholeRun.{main_code, begun}
use Rattle.source_soundness.specs.Worlds.{World, type_in, Fits}
use Rattle.source_soundness.specs.Laws.{ContextFits, CodeFits, ArgumentsFit, IsWorldOf, main_world}

-- how many cells the object has
abbrev pub object_cells : List ℕ → VarTy → ℕ
object_cells sizes (Int t) = 1
object_cells sizes (Struct n) = cells_by sizes (Struct n)
object_cells sizes (Array elem count) = cells_by sizes (Array elem count)
object_cells sizes (Pointer elem fixed) = 1

-- a pointer's elements lie in the object that it points into
abbrev pub PointsWithin : World → List ℕ → Elem → Cell → Type 0
PointsWithin w sizes elem (number v) = Unit {0}
PointsWithin w sizes elem null = Unit {0}
PointsWithin w sizes elem (pointer block base count index) = (ty : VarTy) → type_in w block ≡ Some ty → base + count * elem_cells sizes elem ≤ object_cells sizes ty

pub record Sized (w : World) (sizes : List ℕ) (memory : Memory) : Type 0 where
  pub cells : (b : Block) (ty : VarTy) → type_in w b ≡ Some ty → length (memory b) ≡ object_cells sizes ty
  pub pointers : (b : Block) (elem : Elem) (fixed : Bool) → type_in w b ≡ Some (Pointer elem fixed) → PointsWithin w sizes elem (read memory b 0)

-- where a part of a run gives something, that is so, and the memory still has its sizes
abbrev pub KeepsSizes : {A : Type 0} → World → List ℕ → (A → Type 0) → Outcome A → Type 0
KeepsSizes w sizes Q (gives a st) = Q a × Sized w sizes st.memory
KeepsSizes w sizes Q (trapped trap s st) = Unit {0}
KeepsSizes w sizes Q (spent st) = Unit {0}

-- a value of this type: a struct's has all its cells, a pointer points within
abbrev pub ValueSized : World → List ℕ → Option VarTy → Value → Type 0
ValueSized w sizes None v = Unit {0}
ValueSized w sizes (Some (Int t)) v = Unit {0}
ValueSized w sizes (Some (Struct n)) (holds c) = Unit {0}
ValueSized w sizes (Some (Struct n)) (whole cells) = length cells ≡ cells_by sizes (Struct n)
ValueSized w sizes (Some (Struct n)) nothing = Unit {0}
ValueSized w sizes (Some (Array elem count)) v = Unit {0}
ValueSized w sizes (Some (Pointer elem fixed)) (holds c) = PointsWithin w sizes elem c
ValueSized w sizes (Some (Pointer elem fixed)) (whole cells) = Unit {0}
ValueSized w sizes (Some (Pointer elem fixed)) nothing = Unit {0}

-- the object lies in the live one
abbrev pub LiesWithin : World → List ℕ → Location → Type 0
LiesWithin w sizes at = (ty : VarTy) → type_in w at.block ≡ Some ty → at.cell + object_cells sizes at.ty ≤ object_cells sizes ty

abbrev pub ArgumentsSized : World → List ℕ → List Param → List Value → Type 0
ArgumentsSized w sizes [] vs = Unit {0}
ArgumentsSized w sizes (p ∷ ps) [] = Unit {0}
ArgumentsSized w sizes (p ∷ ps) (v ∷ vs) = ValueSized w sizes (Some (param_type p.kind)) v × ArgumentsSized w sizes ps vs

abbrev pub CallsKeepSizes : World → Names → List ℕ → Frame → Calls → Type 0
CallsKeepSizes w n sizes frame calls = (s : Span) (f : ℕ) (vs : List Value) (st : State) (signature : _) →
    slice_get n.signatures f ≡ Some signature → ArgumentsFit w signature.params vs → ArgumentsSized w sizes signature.params vs → Fits w st.memory → Sized w sizes st.memory →
    KeepsSizes w sizes (λ v. Unit {0}) (calls frame s f vs st)

-- expressions keep the sizes, and the objects that places designate lie in live ones
abbrev pub ValuesKeepSizes : Type 0
ValuesKeepSizes = (w : World) (n : Names) (c : Context) (e : ExprTree) (st : State) → ContextFits w n c → IsTrue (structs_sound n.structs 0 n.structs) → CallsKeepSizes w n (sizes c) c.frame c.calls →
    IsTrue (is_typed n e) → Fits w st.memory → Sized w (sizes c) st.memory → KeepsSizes w (sizes c) (ValueSized w (sizes c) (ty_of e)) (value_of e c st)

abbrev pub PlacesLieWithin : Type 0
PlacesLieWithin = (w : World) (n : Names) (c : Context) (p : PlaceTree) (st : State) (ty : VarTy) → ContextFits w n c → IsTrue (structs_sound n.structs 0 n.structs) → CallsKeepSizes w n (sizes c) c.frame c.calls →
    IsTrue (place_fits n p) → place_type n p ≡ Some ty → Fits w st.memory → Sized w (sizes c) st.memory → KeepsSizes w (sizes c) (LiesWithin w (sizes c)) (location_of p c st)

-- statements keep the sizes
abbrev pub StatementsKeepSizes : Type 0
StatementsKeepSizes = (w : World) (scope : Scope) (code : Code) (out again : Bool) (body : BodyTree) (st : State) → CodeFits w scope code → IsTrue (structs_sound scope.names.structs 0 scope.names.structs) →
    CallsKeepSizes w scope.names (sizes code.context) code.context.frame code.context.calls → IsTrue (is_sound scope out again body) → Fits w st.memory → Sized w (sizes code.context) st.memory →
    KeepsSizes w (sizes code.context) (λ flow. Unit {0}) (statement body code st)

-- calls from a frame of this depth keep the sizes, however deep they may go
abbrev pub DeepCallsKeepSizes : Type 0
DeepCallsKeepSizes = (program : TypedTree) (n : Names) (w : World) (frame : Frame) (deep : ℕ) → IsTrue (is_well_formed program) → IsWorldOf program w →
    frame.depth ≡ w.depth → n.signatures ≡ signatures_of program → CallsKeepSizes w n (sizes_of program.structs) frame (calls_within program deep)

-- where main begins, the globals and main's variables have their sizes
abbrev pub ProgramsBeginSized : Type 0
ProgramsBeginSized = (program : TypedTree) (f : FnId) (hosts : Hosts) (input : List ℕ) (turns : ℕ) (g : FunctionTree) → IsTrue (is_well_formed program) →
    function_at program f ≡ Some g → g.signature.params ≡ [] → Sized (main_world program g) (sizes_of program.structs) (opened (main_code program f) [] (begun program hosts input turns)).memory
